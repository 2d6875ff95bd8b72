-- Each public call has one answer, since what it tells can be turned back. `Post` is the promise that is generated from the call's
-- contract.
-- Assumes nothing.
use mathlib.Core.Path.{sym, ◌∙◌}
use Rattle.terms.proofs.Answers.{OneAnswer, told_one}
use Rattle.load.proofs.Load.is_outside.Kinds as is_outside_kinds
use Rattle.load.proofs.Load.is_outside.Reads as is_outside
use Rattle.load.proofs.Load.is_other_image.Kinds as is_other_image_kinds
use Rattle.load.proofs.Load.is_other_image.Reads as is_other_image
use Rattle.load.proofs.Load.new.Kinds as new_kinds
use Rattle.load.proofs.Load.new.Reads as new

pub new_one : OneAnswer new_kinds.ps new_kinds.r new.Post
new_one κs a r₁ r₂ e₁ e₂ p q = told_one r₁ r₂ p q

pub is_outside_one : OneAnswer is_outside_kinds.ps is_outside_kinds.r is_outside.Post
is_outside_one κs a r₁ r₂ e₁ e₂ p q = p ∙ sym q

pub is_other_image_one : OneAnswer is_other_image_kinds.ps is_other_image_kinds.r is_other_image.Post
is_other_image_one κs a r₁ r₂ e₁ e₂ p q = p ∙ sym q
