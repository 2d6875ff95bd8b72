-- A chip that ended launched from download had 250 matching bits, command 1 or 3, and a checksum of 0: what is known of it holds at its
-- start, and each pulse keeps it.
-- Assumes nothing.
use mathlib.Core.Bool.{Bool, true, false}
use mathlib.Core.List.{List}
use mathlib.Core.Logic.{◌⊎◌, inl, inr}
use mathlib.Core.Path.{◌≡◌, refl, sym, ◌∙◌, subst}
use Prim.Native.Nat.{ℕ, ◌+◌, ◌≤◌}
use native.Mathlib.Omega.{arith}
use lib.Dec.{eqb}
use borrow.Author.Tests.{eqb-true, eqb-false}
use Rattle.terms.specs.Refusals.{taken}
use Rattle.terms.proofs.Refusals.{taken_exactly}
use Rattle.phases.specs.declared.Ending.TheVariants.{Launched}
use Rattle.phases.specs.declared.Phase.TheVariants.{Ended}
use Rattle.eeprom.specs.declared.Fault.{Fault}
use Rattle.chip.specs.Step.{fresh, start_rows, chip_start}
use Rattle.chip.specs.declared.Chip.{Chip}
use Rattle.chip.proofs.Steps.{step_taken}
use Rattle.history.specs.Download.{command_of, Download}
use Rattle.history.specs.History.{State, Played, started, stepped}
use Rattle.history.proofs.Known.{Launching, Known, KnownOf}
use Rattle.history.proofs.Next.{next}

pub start_fresh : (ram eeprom : List ℕ) (fault : Fault) (c : Chip) → chip_start ram eeprom fault ≡ taken c → c ≡ fresh fault
unfolding chip_start
start_fresh ram eeprom fault c e = ((taken_exactly (fresh fault) c (start_rows ram eeprom fault)).0 e).1

module _ (wait low : ℕ → ℕ) where
  of_equals : (n : ℕ) (c d : Chip) (ram ram' : List ℕ) → d ≡ c → ram' ≡ ram → KnownOf wait low n ram c.receiver.listener
      → KnownOf wait low n ram' d.receiver.listener
  of_equals n c d ram ram' e p k =
      subst (λ (x : Chip). KnownOf wait low n ram' x.receiver.listener) (sym e)
      (subst (λ (x : List ℕ). KnownOf wait low n x c.receiver.listener) (sym p) k)

  known : (n : ℕ) (s : State) → Played wait low n s → KnownOf wait low n s.ram s.chip.receiver.listener
  known _ _ (started ram eeprom fault c e) =
      subst (λ (x : Chip). KnownOf wait low 0 ram x.receiver.listener) (sym (start_fresh ram eeprom fault c e)) refl
  known _ _ (stepped n s r ram eeprom p e) =
      let left = step_taken s.chip s.ram s.eeprom (wait (n + 1)) (low (n + 1)) r ram eeprom e in
      of_equals (n + 1) _ r.chip _ ram left.chip_after left.ram_after_lem (next wait low n s p (known n s p))

  one_or_three : (c : ℕ) (b : Bool) → eqb c 1 ≡ b → c ≡ command_of low → 1 ≤ c → c ≤ 3 → (c ≡ 2 → ⊥) → (command_of low ≡ 1) ⊎ (command_of low ≡ 3)
  one_or_three c true e i least most other = inl (sym i ∙ eqb-true c 1 e)
  one_or_three c false e i least most other =
      let more : c ≡ 1 → ⊥ = eqb-false c 1 e in
      let three : c ≡ 3 = omega (arith, least, most, other, more) in
      inr (sym i ∙ three)

  from_download : (n t c : ℕ) → Launching wait low n t c → Download wait low n
  from_download n t c k =
      let m = k.commanded in
      record {
        pulses = m.pulses;
        handshake = λ j least most. m.shaken.matched j least (omega (arith, most));
        command = one_or_three c (eqb c 1) refl m.is m.least m.most k.other;
        checksum = k.acknowledged;
      }

  pub launched_from_download : (n : ℕ) (s : State) → Played wait low n s → s.chip.receiver.listener.phase ≡ Ended Launched → Download wait low n
  launched_from_download n s p e =
      let l = s.chip.receiver.listener in
      from_download n l.threshold.0 l.command
      (subst (Known wait low n s.ram l.threshold.0 l.command) e (known n s p))
