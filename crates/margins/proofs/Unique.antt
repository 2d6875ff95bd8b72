-- Each public call has one answer, since what it tells can be turned back. `Post` is the promise that is generated from the call's contract.
-- Assumes nothing.
use mathlib.Core.Path.{◌≡◌, refl, sym, ◌∙◌}
use Rattle.std.specs.Prelude.{Option, None, Some}
use Rattle.terms.proofs.Answers.{OneAnswer, one_told}
use Rattle.units.specs.declared.Distance.{Distance}
use Rattle.margins.specs.Margins.{Near, none, at, told_margin, Told, told}
use Rattle.margins.specs.declared.Nearest.{Nearest}
use Rattle.margins.proofs.Margins.is_outside.Kinds as is_outside_kinds
use Rattle.margins.proofs.Margins.is_outside.Reads as is_outside
use Rattle.margins.proofs.Margins.nearest.Kinds as nearest_kinds
use Rattle.margins.proofs.Margins.nearest.Reads as nearest
use Rattle.margins.proofs.Margins.with_pulse.Kinds as with_pulse_kinds
use Rattle.margins.proofs.Margins.with_pulse.Reads as with_pulse_lem

abbrev back_margin : Near → Option Distance
back_margin none = None
back_margin (at d) = Some (record { 0 = d })

back_told_margin : (r : Option Distance) → back_margin (told_margin r) ≡ r
back_told_margin None = refl
back_told_margin (Some d) = refl

abbrev pub back : Told → Nearest
back t = record { one = back_margin t.one; zero = back_margin t.zero }

pub back_told : (r : Nearest) → back (told r) ≡ r
back_told r i = record { one = back_told_margin r.one i; zero = back_told_margin r.zero i }

pub is_outside_one : OneAnswer is_outside_kinds.ps is_outside_kinds.r is_outside.Post
is_outside_one κs a r₁ r₂ e₁ e₂ p q = p ∙ sym q

pub with_pulse_one : OneAnswer with_pulse_kinds.ps with_pulse_kinds.r with_pulse_lem.Post
with_pulse_one κs a r₁ r₂ e₁ e₂ p q = p ∙ sym q

pub nearest_one_lem : OneAnswer nearest_kinds.ps nearest_kinds.r nearest.Post
nearest_one_lem κs a r₁ r₂ e₁ e₂ p q = one_told told back back_told r₁ r₂ p q
