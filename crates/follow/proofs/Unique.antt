-- Each public call has one answer. `Post` is the promise that is generated from the call's contract.
-- Assumes nothing.
use mathlib.Core.Path.{sym, ◌∙◌}
use Rattle.terms.proofs.Answers.{OneAnswer}
use Rattle.follow.proofs.next.Kinds as next_kinds
use Rattle.follow.proofs.next.Reads as next
use Rattle.follow.proofs.onward.Kinds as onward_kinds
use Rattle.follow.proofs.onward.Reads as onward
use Rattle.follow.proofs.ends_silent_pair.Kinds as ends_silent_pair_kinds
use Rattle.follow.proofs.ends_silent_pair.Reads as ends_silent_pair_lem

pub next_one : OneAnswer next_kinds.ps next_kinds.r next.Post
next_one κs a r₁ r₂ e₁ e₂ p q = p ∙ sym q

pub onward_one : OneAnswer onward_kinds.ps onward_kinds.r onward.Post
onward_one κs a r₁ r₂ e₁ e₂ p q = p ∙ sym q

pub ends_silent_pair_one : OneAnswer ends_silent_pair_kinds.ps ends_silent_pair_kinds.r ends_silent_pair_lem.Post
ends_silent_pair_one κs a r₁ r₂ e₁ e₂ p q = p ∙ sym q
