-- No chip got from a start by steps that weren't refused is refused 13: a start hands out a chip within its ranges, and each step keeps
-- it there.
-- Assumes nothing.
use mathlib.Core.Bool.{false, true≢false}
use mathlib.Core.List.{List}
use mathlib.Core.Logic.{◌↔◌, inl, inr}
use mathlib.Core.Path.{◌≡◌, sym, ◌∙◌, subst}
use Prim.Native.Nat.{ℕ, ◌-◌, ◌≤◌}
use native.Mathlib.Omega.{arith}
use Rattle.terms.specs.Refusals.{refused, taken, Given}
use Rattle.terms.proofs.Refusals.{taken_exactly}
use Rattle.terms.proofs.Tests.{either_false, less_false}
use Rattle.receiver.specs.Hears.{hears}
use Rattle.listener.specs.declared.Event.{Event}
use Rattle.listener.specs.declared.Event.TheVariants.{Nothing, Store, Finish, Program, Verify, Launch, Boot}
use Rattle.chip.proofs.Listening.{fresh_timed, step_timed}
use Rattle.chip.proofs.Within.{Timed, receiver_within}
use Rattle.eeprom.specs.Eeprom.{fault_outside, after}
use Rattle.eeprom.specs.declared.Fault.{Fault}
use Rattle.eeprom.specs.declared.Fault.TheVariants.{None, Accepts, Reads}
use Rattle.chip.specs.Reached.{Reached, started, stepped}
use Rattle.chip.specs.Step.{Reply, left, fresh, start_rows, chip_start, chip_outside, step_rows, chip_step}
use Rattle.chip.specs.Work.{done}
use Rattle.chip.specs.declared.Chip.{Chip}
use Rattle.chip.proofs.Steps.{step_given, step_taken}

pub record Kept (c : Chip) : Type 0 where
  pub sound : fault_outside c.fault ≡ false
  pub within : Timed c.receiver

pub chip_kept : (c : Chip) → (chip_outside c ≡ false) ↔ Kept c
unfolding chip_outside
chip_kept c = (
  (λ q. let parts = (either_false _ _).0 q in record { sound = parts.0; within = (receiver_within c.receiver).0 parts.1 }),
  (λ k. (either_false _ _).1 (k.sound, (receiver_within c.receiver).1 k.within)),
)

start_keeps : (ram eeprom : List ℕ) (fault : Fault) (c : Chip) → chip_start ram eeprom fault ≡ taken c → Kept c
unfolding chip_start
start_keeps ram eeprom fault c e =
    let p = (taken_exactly (fresh fault) c (start_rows ram eeprom fault)).0 e in
    subst Kept (sym p.1) (record { sound = p.0.1.1.0; within = fresh_timed })

-- Work leaves a fault within its range: fewer pages are left.
after_sound : (fault : Fault) (pages : ℕ) → fault_outside fault ≡ false → fault_outside (after fault pages) ≡ false
after_sound None pages e = e
after_sound (Accepts n) pages e =
    let most : n ≤ 512 = (less_false 512 n).0 e in
    (less_false 512 (n - pages)).1 (omega (arith, most))
after_sound (Reads v a) pages e = e

done_sound : (fault : Fault) (event : Event) (ram eeprom : List ℕ) → fault_outside fault ≡ false
    → fault_outside (done fault event ram eeprom).done.fault ≡ false
done_sound fault Nothing ram eeprom e = e
done_sound fault (Store k long) ram eeprom e = e
done_sound fault (Finish k long) ram eeprom e = e
done_sound fault Program ram eeprom e = after_sound fault _ e
done_sound fault Verify ram eeprom e = e
done_sound fault Launch ram eeprom e = e
done_sound fault Boot ram eeprom e = e

step_keeps : (c : Chip) (ram eeprom : List ℕ) (wait low : ℕ) (r : Reply) (ram' eeprom' : List ℕ)
    → chip_step c ram eeprom wait low ≡ left (taken r) ram' eeprom' → Kept r.chip
step_keeps c ram eeprom wait low r ram' eeprom' e =
    let s = step_taken c ram eeprom wait low r ram' eeprom' e in
    let k = (chip_kept c).0 s.passed.1.1.0 in
    subst Kept (sym s.chip_after) (record {
      sound = done_sound c.fault (hears c.receiver wait low).heard.event ram eeprom k.sound;
      within = step_timed c.receiver wait low _ k.within;
    })

pub reached_kept : (c : Chip) → Reached c → Kept c
reached_kept c (started ram eeprom fault _ e) = start_keeps ram eeprom fault c e
reached_kept _ (stepped c ram eeprom wait low r ram' eeprom' _ e) = step_keeps c ram eeprom wait low r ram' eeprom' e

-- Within its ranges a chip is refused by its other rows alone.
no_13 : (c : Chip) → Kept c → (ram eeprom : List ℕ) → Given 13 (step_rows c ram eeprom) → ⊥
no_13 c k ram eeprom g = elim g [
  | inl p ↦ omega (arith, p.0)
  | inr p ↦ elim p.1 [
    | inl q ↦ omega (arith, q.0)
    | inr q ↦ elim q.1 [
      | inl r ↦ true≢false (sym r.1 ∙ (chip_kept c).1 k)
      | inr r ↦ elim r.1 [ inl s ↦ omega (arith, s.0) | inr s ↦ s.1 ]
    ]
  ]
]

pub never_13 : (c : Chip) → Reached c → (ram eeprom : List ℕ) (wait low : ℕ) → (chip_step c ram eeprom wait low).answer ≡ refused 13 → ⊥
never_13 c r ram eeprom wait low e = no_13 c (reached_kept c r) ram eeprom (step_given c ram eeprom wait low 13 e)
