-- The one public call has one answer. `Post` is the promise that is generated from the call's contract.
-- Assumes nothing.
use mathlib.Core.Path.{sym, ◌∙◌}
use Rattle.terms.proofs.Answers.{OneAnswer}
use Rattle.terms.proofs.Refusal.number.Kinds as number_kinds
use Rattle.terms.proofs.Refusal.number.Reads as number

pub number_one : OneAnswer number_kinds.ps number_kinds.r number.Post
number_one κs a r₁ r₂ e₁ e₂ p q = p ∙ sym q
