-- Each public call has one answer, since what it tells can be turned back. `Post` is the promise that is generated from the call's contract.
-- Assumes nothing.
use Rattle.std.proofs.Common.{◌≡◌, ℕ, sym, refl, ◌∙◌}
use Rattle.std.specs.Prelude.{Option, None, Some}
use Rattle.terms.specs.Refusals.{Answer, refused, taken}
use Rattle.terms.proofs.Answers.{OneAnswer, one_told}
use Rattle.units.specs.declared.Ticks.{Ticks}
use Rattle.ticks.specs.Ticks.{told_spacer}
use Rattle.ticks.proofs.PhaseTicks.spacer_before.Kinds as spacer_before_kinds
use Rattle.ticks.proofs.PhaseTicks.spacer_before.Reads as spacer_before_lem
use Rattle.ticks.proofs.PhaseTicks.with_pulse.Kinds as with_pulse_kinds
use Rattle.ticks.proofs.PhaseTicks.with_pulse.Reads as with_pulse_lem

-- What is told, turned back.
abbrev back_spacer : Answer ℕ → Option Ticks
back_spacer (refused n) = None
back_spacer (taken ticks) = Some (record { 0 = ticks })

back_told_spacer : (r : Option Ticks) → back_spacer (told_spacer r) ≡ r
back_told_spacer None = refl
back_told_spacer (Some ticks) = refl

pub spacer_before_one : OneAnswer spacer_before_kinds.ps spacer_before_kinds.r spacer_before_lem.Post
spacer_before_one κs a r₁ r₂ e₁ e₂ p q = one_told told_spacer back_spacer back_told_spacer r₁ r₂ p q

pub with_pulse_one : OneAnswer with_pulse_kinds.ps with_pulse_kinds.r with_pulse_lem.Post
with_pulse_one κs a r₁ r₂ e₁ e₂ p q = p ∙ sym q
