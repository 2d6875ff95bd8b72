-- Each public call has one answer, since what it tells can be turned back. `Post` is the promise that is generated from the call's
-- contract.
-- Assumes nothing.
use mathlib.Core.Path.{sym, ◌∙◌}
use Rattle.terms.proofs.Answers.{OneAnswer, told_one}
use Rattle.counts.proofs.Plan.new.Kinds as new_kinds
use Rattle.counts.proofs.Plan.new.Reads as new
use Rattle.counts.proofs.Plan.ones.Kinds as ones_kinds
use Rattle.counts.proofs.Plan.ones.Reads as ones
use Rattle.counts.proofs.Plan.zeros.Kinds as zeros_kinds
use Rattle.counts.proofs.Plan.zeros.Reads as zeros

pub new_one : OneAnswer new_kinds.ps new_kinds.r new.Post
new_one κs a r₁ r₂ e₁ e₂ p q = told_one r₁ r₂ p q

pub ones_one : OneAnswer ones_kinds.ps ones_kinds.r ones.Post
ones_one κs a r₁ r₂ e₁ e₂ p q = p ∙ sym q

pub zeros_one : OneAnswer zeros_kinds.ps zeros_kinds.r zeros.Post
zeros_one κs a r₁ r₂ e₁ e₂ p q = p ∙ sym q
