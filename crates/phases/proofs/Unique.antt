-- Each public call has one answer. `Post` is the promise that is generated from the call's contract.
-- Assumes nothing.
use mathlib.Core.Path.{sym, ◌∙◌}
use Rattle.terms.proofs.Answers.{OneAnswer, one_told}
use Rattle.phases.specs.Endings.{told_end}
use Rattle.phases.proofs.Endings.{back_end, back_told_end}
use Rattle.phases.proofs.Phase.end.Kinds as end_kinds
use Rattle.phases.proofs.Phase.end.Reads as end
use Rattle.phases.proofs.Phase.has_ended.Kinds as has_ended_kinds
use Rattle.phases.proofs.Phase.has_ended.Reads as has_ended
use Rattle.phases.proofs.Phase.is_outside.Kinds as is_outside_kinds
use Rattle.phases.proofs.Phase.is_outside.Reads as is_outside

pub has_ended_one : OneAnswer has_ended_kinds.ps has_ended_kinds.r has_ended.Post
has_ended_one κs a r₁ r₂ e₁ e₂ p q = p ∙ sym q

pub end_one : OneAnswer end_kinds.ps end_kinds.r end.Post
end_one κs a r₁ r₂ e₁ e₂ p q = one_told told_end back_end back_told_end r₁ r₂ p q

pub is_outside_one : OneAnswer is_outside_kinds.ps is_outside_kinds.r is_outside.Post
is_outside_one κs a r₁ r₂ e₁ e₂ p q = p ∙ sym q
