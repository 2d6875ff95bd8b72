-- A step's answer and both memories, once its table is walked: a refused one leaves the memories, any other plays the pulse. And back:
-- a step that wasn't refused played the pulse.
-- Assumes nothing.
use mathlib.Core.List.{List}
use mathlib.Core.Path.{◌≡◌, refl, sym, ap, ◌∙◌}
use Prim.Native.Nat.{ℕ}
use Rattle.terms.specs.Refusals.{Answer, refused, taken, first, Given}
use Rattle.terms.proofs.Refusals.{Clear, not_both, refused_exactly, clear_taken, taken_exactly}
use Rattle.receiver.specs.Hears.{hears}
use Rattle.receiver.specs.declared.Received.{Received}
use Rattle.chip.specs.Step.{step_rows, Reply, Left, left, after, unless_refused, pulse, chip_step}
use Rattle.chip.specs.Work.{done}
use Rattle.chip.specs.declared.Chip.{Chip}

module _ (c : Chip) (ram eeprom : List ℕ) (wait low : ℕ) where
  pub step_refused : (n : ℕ) → refused n ≡ first (step_rows c ram eeprom) (pulse c ram eeprom (hears c.receiver wait low))
      → left (refused n) ram eeprom ≡ chip_step c ram eeprom wait low
  unfolding chip_step
  step_refused n e = ap (unless_refused ram eeprom) e

  pub step_played : Clear (step_rows c ram eeprom) → pulse c ram eeprom (hears c.receiver wait low) ≡ chip_step c ram eeprom wait low
  unfolding chip_step
  step_played p =
      ap (unless_refused ram eeprom) (sym (clear_taken (pulse c ram eeprom (hears c.receiver wait low)) (step_rows c ram eeprom) p))

-- The reply of an answer, or another where it was refused.
abbrev reply_of : Reply → Answer Reply → Reply
reply_of r (refused n) = r
reply_of r (taken x) = x

-- What a step left that wasn't refused.
pub record Stepping (c : Chip) (ram eeprom : List ℕ) (h : Received) (r : Reply) (ram' eeprom' : List ℕ) : Type 0 where
  pub passed : Clear (step_rows c ram eeprom)
  pub chip_after : r.chip ≡ after h (done c.fault h.heard.event ram eeprom).done.fault (done c.fault h.heard.event ram eeprom).done.good
  pub ram_after_lem : ram' ≡ (done c.fault h.heard.event ram eeprom).ram
  pub eeprom_after : eeprom' ≡ (done c.fault h.heard.event ram eeprom).eeprom

module _ (c : Chip) (ram eeprom : List ℕ) (h : Received) where
  decided : (r : Reply) (ram' eeprom' : List ℕ) (a : Answer Left) → first (step_rows c ram eeprom) (pulse c ram eeprom h) ≡ a
      → unless_refused ram eeprom a ≡ left (taken r) ram' eeprom' → Stepping c ram eeprom h r ram' eeprom'
  decided r ram' eeprom' (refused n) e q = absurd (not_both (ap (λ (x : Left). x.answer) q))
  decided r ram' eeprom' (taken x) e q =
      let known = (taken_exactly (pulse c ram eeprom h) x (step_rows c ram eeprom)).0 e in
      let same : left (taken r) ram' eeprom' ≡ pulse c ram eeprom h = sym q ∙ known.1 in
      record {
        passed = known.0;
        chip_after = ap (λ (y : Left). (reply_of r y.answer).chip) same;
        ram_after_lem = ap (λ (y : Left). y.ram) same;
        eeprom_after = ap (λ (y : Left). y.eeprom) same;
      }

  -- A number is given for its row alone.
  numbered : (n : ℕ) (a : Answer Left) → first (step_rows c ram eeprom) (pulse c ram eeprom h) ≡ a
      → (unless_refused ram eeprom a).answer ≡ refused n → Given n (step_rows c ram eeprom)
  numbered n (refused m) e q =
      let same : m ≡ n = cc in
      (refused_exactly (pulse c ram eeprom h) n (step_rows c ram eeprom)).0 (e ∙ ap refused same)
  numbered n (taken x) e q =
      let known = (taken_exactly (pulse c ram eeprom h) x (step_rows c ram eeprom)).0 e in
      let p : (pulse c ram eeprom h).answer ≡ refused n = ap (λ (y : Left). y.answer) (sym known.1) ∙ q in
      absurd (not_both (sym p))

pub step_given : (c : Chip) (ram eeprom : List ℕ) (wait low n : ℕ) → (chip_step c ram eeprom wait low).answer ≡ refused n
    → Given n (step_rows c ram eeprom)
unfolding chip_step
step_given c ram eeprom wait low n e = numbered c ram eeprom (hears c.receiver wait low) n _ refl e

pub step_taken : (c : Chip) (ram eeprom : List ℕ) (wait low : ℕ) (r : Reply) (ram' eeprom' : List ℕ)
    → chip_step c ram eeprom wait low ≡ left (taken r) ram' eeprom'
    → Stepping c ram eeprom (hears c.receiver wait low) r ram' eeprom'
unfolding chip_step
step_taken c ram eeprom wait low r ram' eeprom' e = decided c ram eeprom (hears c.receiver wait low) r ram' eeprom' _ refl e
