-- Each public call has one answer. `Post` is the promise that is generated from the call's contract.
-- Assumes nothing.
use mathlib.Core.Path.{sym, ◌∙◌}
use Rattle.terms.proofs.Answers.{OneAnswer}
use Rattle.safe.proofs.is_safe.Kinds as is_safe_kinds
use Rattle.safe.proofs.is_safe.Reads as is_safe
use Rattle.safe.proofs.loops.Kinds as loops_kinds
use Rattle.safe.proofs.loops.Reads as loops

pub loops_one : OneAnswer loops_kinds.ps loops_kinds.r loops.Post
loops_one κs a r₁ r₂ e₁ e₂ p q = p ∙ sym q

pub is_safe_one : OneAnswer is_safe_kinds.ps is_safe_kinds.r is_safe.Post
is_safe_one κs a r₁ r₂ e₁ e₂ p q = p ∙ sym q
