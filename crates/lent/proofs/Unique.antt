-- Each public call has one answer. `Post` is the promise that is generated from the call's contract.
-- Assumes nothing.
use Rattle.std.proofs.Common.{sym, ◌∙◌}
use Rattle.terms.proofs.Answers.{OneAnswer}
use Rattle.lent.proofs.sum.Kinds as sum_kinds
use Rattle.lent.proofs.sum.Reads as sum
use Rattle.lent.proofs.total.Kinds as total_kinds
use Rattle.lent.proofs.total.Reads as total
use Rattle.lent.proofs.word.Kinds as word_kinds
use Rattle.lent.proofs.word.Reads as word

pub word_one : OneAnswer word_kinds.ps word_kinds.r word.Post
word_one κs a r₁ r₂ e₁ e₂ p q = p ∙ sym q

pub sum_one : OneAnswer sum_kinds.ps sum_kinds.r sum.Post
sum_one κs a r₁ r₂ e₁ e₂ p q = p ∙ sym q

pub total_one : OneAnswer total_kinds.ps total_kinds.r total.Post
total_one κs a r₁ r₂ e₁ e₂ p q = p ∙ sym q
