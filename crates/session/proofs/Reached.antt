-- No session got from a start by steps that weren't refused is refused 13.
-- Assumes nothing.
use mathlib.Core.Bool.{true≢false}
use mathlib.Core.List.{List}
use mathlib.Core.Path.{◌≡◌, sym, ◌∙◌}
use Prim.Native.Nat.{ℕ}
use mathlib.Core.Logic.{inl, inr}
use native.Mathlib.Omega.{arith}
use Rattle.terms.specs.Refusals.{refused, Given}
use Rattle.terms.proofs.Refusals.{refused_exactly}
use Rattle.units.specs.declared.Seen.{Seen}
use Rattle.session.specs.Reached.{Reached, started, stepped}
use Rattle.session.specs.Step.{step_rows, pulse_of, session_step}
use Rattle.session.specs.declared.Session.{Session}
use Rattle.session.proofs.Kept.{start_keeps, step_keeps}
use Rattle.session.proofs.Within.{Within, session_within}

pub reached_within : (s : Session) → Reached s → Within s
reached_within s (started command image _ e) = start_keeps command image s e
reached_within _ (stepped s image seen p r e) = step_keeps s image seen p e

-- Within its ranges a session is refused by its other rows alone.
pub no_13 : (s : Session) → Within s → (image : List ℕ) → Given 13 (step_rows s image) → ⊥
no_13 s w image g = elim g [
  | inl p ↦ true≢false (sym p.1 ∙ (session_within s).1 w)
  | inr p ↦ elim p.1 [
    | inl q ↦ omega (arith, q.0)
    | inr q ↦ elim q.1 [ inl r ↦ omega (arith, r.0) | inr r ↦ r.1 ]
  ]
]

pub never_13 : (s : Session) → Reached s → (image : List ℕ) (seen : Seen) → session_step s image seen ≡ refused 13 → ⊥
unfolding session_step
never_13 s r image seen e = no_13 s (reached_within s r) image ((refused_exactly (pulse_of s image seen) 13 (step_rows s image)).0 e)
