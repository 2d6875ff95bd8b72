-- Each public call has one answer. `Post` is the promise that is generated from the call's contract.
-- Assumes nothing.
use mathlib.Core.Path.{sym, ◌∙◌}
use Rattle.terms.proofs.Answers.{OneAnswer}
use Rattle.range.proofs.is_outside.Kinds as is_outside_kinds
use Rattle.range.proofs.is_outside.Reads as is_outside
use Rattle.range.proofs.pulses_before.Kinds as pulses_before_kinds
use Rattle.range.proofs.pulses_before.Reads as pulses_before

pub is_outside_one : OneAnswer is_outside_kinds.ps is_outside_kinds.r is_outside.Post
is_outside_one κs a r₁ r₂ e₁ e₂ p q = p ∙ sym q

pub pulses_before_one : OneAnswer pulses_before_kinds.ps pulses_before_kinds.r pulses_before.Post
pulses_before_one κs a r₁ r₂ e₁ e₂ p q = p ∙ sym q
