-- The public call has one answer, since what it tells can be turned back. `Post` is the promise that is generated from the call's
-- contract.
-- Assumes nothing.
use Rattle.terms.proofs.Answers.{OneAnswer, told_one}
use Rattle.times.proofs.Times.of.Kinds as of_kinds
use Rattle.times.proofs.Times.of.Reads as of

pub of_one : OneAnswer of_kinds.ps of_kinds.r of.Post
of_one κs a r₁ r₂ e₁ e₂ p q = told_one r₁ r₂ p q
