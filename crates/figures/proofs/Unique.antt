-- The public call has one answer. `Post` is the promise that is generated from its contract.
-- Assumes nothing.
use mathlib.Core.Path.{sym, ◌∙◌}
use Rattle.terms.proofs.Answers.{OneAnswer}
use Rattle.figures.proofs.read.Kinds as read_kinds
use Rattle.figures.proofs.read.Reads as read

pub read_one : OneAnswer read_kinds.ps read_kinds.r read.Post
read_one κs a r₁ r₂ e₁ e₂ p q = p ∙ sym q
