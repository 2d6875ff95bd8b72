-- The public call has one answer. `Post` is the promise that is generated from its contract.
-- Assumes nothing.
use mathlib.Core.Path.{sym, ◌∙◌}
use Rattle.terms.proofs.Answers.{OneAnswer}
use Rattle.packing.proofs.sent_at.Kinds as sent_at_kinds
use Rattle.packing.proofs.sent_at.Reads as sent_at_lem

pub sent_at_one : OneAnswer sent_at_kinds.ps sent_at_kinds.r sent_at_lem.Post
sent_at_one κs a r₁ r₂ e₁ e₂ p q = p ∙ sym q
