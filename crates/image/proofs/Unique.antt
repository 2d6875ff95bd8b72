-- The public call has one answer. `Post` is the promise that is generated from its contract.
-- Assumes nothing.
use Rattle.std.proofs.Common.{sym, ◌∙◌}
use Rattle.terms.proofs.Answers.{OneAnswer}
use Rattle.image.proofs.longest.Kinds as longest_kinds
use Rattle.image.proofs.longest.Reads as longest

pub longest_one : OneAnswer longest_kinds.ps longest_kinds.r longest.Post
longest_one κs a r₁ r₂ e₁ e₂ p q = p ∙ sym q
