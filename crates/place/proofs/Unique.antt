-- Each public call has one answer. `Post` is the promise that is generated from the call's contract.
-- Assumes nothing.
use mathlib.Core.Path.{sym, ◌∙◌}
use Rattle.terms.proofs.Answers.{OneAnswer, one_told}
use Rattle.place.specs.Endings.{told_end}
use Rattle.place.proofs.Endings.{back_end, back_told_end}
use Rattle.place.proofs.Ending.number.Kinds as number_kinds
use Rattle.place.proofs.Ending.number.Reads as number
use Rattle.place.proofs.Phase.carries.Kinds as carries_kinds
use Rattle.place.proofs.Phase.carries.Reads as carries
use Rattle.place.proofs.Phase.end.Kinds as end_kinds
use Rattle.place.proofs.Phase.end.Reads as end
use Rattle.place.proofs.Phase.places.Kinds as places_kinds
use Rattle.place.proofs.Phase.places.Reads as places
use Rattle.place.proofs.Place.has_ended.Kinds as has_ended_kinds
use Rattle.place.proofs.Place.has_ended.Reads as has_ended

pub number_one : OneAnswer number_kinds.ps number_kinds.r number.Post
number_one κs a r₁ r₂ e₁ e₂ p q = p ∙ sym q

pub places_one : OneAnswer places_kinds.ps places_kinds.r places.Post
places_one κs a r₁ r₂ e₁ e₂ p q = p ∙ sym q

pub carries_one : OneAnswer carries_kinds.ps carries_kinds.r carries.Post
carries_one κs a r₁ r₂ e₁ e₂ p q = p ∙ sym q

pub end_one : OneAnswer end_kinds.ps end_kinds.r end.Post
end_one κs a r₁ r₂ e₁ e₂ p q = one_told told_end back_end back_told_end r₁ r₂ p q

pub has_ended_one : OneAnswer has_ended_kinds.ps has_ended_kinds.r has_ended.Post
has_ended_one κs a r₁ r₂ e₁ e₂ p q = p ∙ sym q
