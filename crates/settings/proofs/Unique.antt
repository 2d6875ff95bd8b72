-- Each public call has one answer, since what it tells can be turned back. `Post` is the promise that is generated from the call's
-- contract.
-- Assumes nothing.
use mathlib.Core.Path.{sym, ◌∙◌}
use Rattle.terms.proofs.Answers.{OneAnswer, told_one}
use Rattle.settings.proofs.Settings.is_outside.Kinds as is_outside_kinds
use Rattle.settings.proofs.Settings.is_outside.Reads as is_outside
use Rattle.settings.proofs.Settings.new.Kinds as new_kinds
use Rattle.settings.proofs.Settings.new.Reads as new

pub new_one : OneAnswer new_kinds.ps new_kinds.r new.Post
new_one κs a r₁ r₂ e₁ e₂ p q = told_one r₁ r₂ p q

pub is_outside_one : OneAnswer is_outside_kinds.ps is_outside_kinds.r is_outside.Post
is_outside_one κs a r₁ r₂ e₁ e₂ p q = p ∙ sym q
