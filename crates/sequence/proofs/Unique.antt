-- Each public call has one answer. `Post` is the promise that is generated from the call's contract.
-- Assumes nothing.
use mathlib.Core.Path.{sym, ◌∙◌}
use Rattle.terms.proofs.Answers.{OneAnswer}
use Rattle.sequence.proofs.advance.Kinds as advance_kinds
use Rattle.sequence.proofs.advance.Reads as advance
use Rattle.sequence.proofs.draw.Kinds as draw_kinds
use Rattle.sequence.proofs.draw.Reads as draw

pub advance_one : OneAnswer advance_kinds.ps advance_kinds.r advance.Post
advance_one κs a r₁ r₂ e₁ e₂ p q = p ∙ sym q

pub draw_one : OneAnswer draw_kinds.ps draw_kinds.r draw.Post
draw_one κs a r₁ r₂ e₁ e₂ p q = p ∙ sym q
