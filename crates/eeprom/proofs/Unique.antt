-- Each public call has one answer, and leaves one thing in what is lent to it. `Post` is the promise that is generated from the call's
-- contract.
-- Assumes nothing.
use mathlib.Core.Bool.{Bool}
use mathlib.Core.List.{List}
use mathlib.Core.Path.{sym, ◌∙◌}
use Prim.Native.Nat.{ℕ}
use Rattle.terms.proofs.Answers.{OneAnswer, OneOutcome, both_fixed}
use Rattle.eeprom.specs.declared.Done.{Done}
use Rattle.eeprom.proofs.Fault.boot.Kinds as boot_kinds
use Rattle.eeprom.proofs.Fault.boot.Reads as boot
use Rattle.eeprom.proofs.Fault.is_outside.Kinds as is_outside_kinds
use Rattle.eeprom.proofs.Fault.is_outside.Reads as is_outside
use Rattle.eeprom.proofs.Fault.program.Kinds as program_kinds
use Rattle.eeprom.proofs.Fault.program.Reads as program
use Rattle.eeprom.proofs.Fault.verify.Kinds as verify_kinds
use Rattle.eeprom.proofs.Fault.verify.Reads as verify

pub is_outside_one : OneAnswer is_outside_kinds.ps is_outside_kinds.r is_outside.Post
is_outside_one κs a r₁ r₂ e₁ e₂ p q = p ∙ sym q

pub program_one : OneOutcome program_kinds.ps program_kinds.r program.Post {X = Done × List ℕ} (λ κs r e. (r, e.1.1.0.now))
program_one κs a r₁ r₂ e₁ e₂ p q = both_fixed p q

pub verify_one : OneAnswer verify_kinds.ps verify_kinds.r verify.Post
verify_one κs a r₁ r₂ e₁ e₂ p q = p ∙ sym q

pub boot_one : OneOutcome boot_kinds.ps boot_kinds.r boot.Post {X = Bool × List ℕ} (λ κs r e. (r, e.1.0.now))
boot_one κs a r₁ r₂ e₁ e₂ p q = both_fixed p q
