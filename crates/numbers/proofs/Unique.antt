-- The public call has one answer. `Post` is the promise that is generated from its contract.
-- Assumes nothing.
use mathlib.Core.Path.{sym, ◌∙◌}
use Rattle.terms.proofs.Answers.{OneAnswer}
use Rattle.numbers.proofs.number_at.Kinds as number_at_kinds
use Rattle.numbers.proofs.number_at.Reads as number_at

pub number_at_one : OneAnswer number_at_kinds.ps number_at_kinds.r number_at.Post
number_at_one κs a r₁ r₂ e₁ e₂ p q = p ∙ sym q
