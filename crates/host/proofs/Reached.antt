-- No host record got from a start by steps that weren't refused is refused 13.
-- Assumes nothing.
use mathlib.Core.Bool.{true≢false}
use mathlib.Core.List.{List}
use mathlib.Core.Logic.{inl, inr}
use mathlib.Core.Path.{◌≡◌, sym, ◌∙◌}
use Prim.Native.Nat.{ℕ}
use Rattle.terms.specs.Refusals.{refused}
use Rattle.terms.proofs.Refusals.{refused_exactly}
use Rattle.session.specs.Step.{pulse_of}
use Rattle.session.proofs.Reached.{no_13}
use Rattle.units.specs.declared.Seen.{Seen}
use Rattle.host.specs.Reached.{Reached, started, stepped}
use Rattle.host.specs.Step.{host_rows, timed, host_step}
use Rattle.host.specs.declared.Host.{Host}
use Rattle.host.proofs.Kept.{Kept, start_keeps, step_keeps}

pub reached_kept : (x : Host) → Reached x → Kept x
reached_kept x (started t h p command image _ e) = start_keeps t h p command image x e
reached_kept _ (stepped x image seen s r e) = step_keeps x image seen s e

pub never_13 : (x : Host) → Reached x → (image : List ℕ) (seen : Seen) → host_step x image seen ≡ refused 13 → ⊥
unfolding host_step
never_13 x r image seen e =
    let k = reached_kept x r in
    elim ((refused_exactly (timed x (pulse_of x.session image seen)) 13 (host_rows x image)).0 e) [
      | inl p ↦ true≢false (sym p.1 ∙ k.own)
      | inr p ↦ no_13 x.session k.within image p.1
    ]
