-- What is told of a chip's ending can be turned back, and says whether it has ended.
-- Assumes nothing.
use mathlib.Core.Bool.{Bool, true, false}
use mathlib.Core.Path.{◌≡◌, refl, sym, ap, ◌∙◌}
use Rattle.std.specs.Prelude.{Option, None, Some}
use Rattle.phases.specs.Endings.{End, listening, launched_from_download, launched_from_eeprom, shut_down, off_chart, name, end_at, told_end}
use Rattle.phases.specs.Phases.{ended}
use Rattle.phases.specs.declared.Ending.{Ending}
use Rattle.phases.specs.declared.Ending.TheVariants.{Launched, Booted, Shut, Off}
use Rattle.phases.specs.declared.Phase.{Phase}
use Rattle.phases.specs.declared.Phase.TheVariants.{First, Second, Handshake, Answer, Rest, Command, Size, Long, Align, Ended}

abbrev pub back_end : End → Option Ending
back_end listening = None
back_end launched_from_download = Some Launched
back_end launched_from_eeprom = Some Booted
back_end shut_down = Some Shut
back_end off_chart = Some Off

pub back_told_end : (r : Option Ending) → back_end (told_end r) ≡ r
back_told_end None = refl
back_told_end (Some Launched) = refl
back_told_end (Some Booted) = refl
back_told_end (Some Shut) = refl
back_told_end (Some Off) = refl

-- It has ended.
abbrev pub over : End → Bool
over listening = false
over launched_from_download = true
over launched_from_eeprom = true
over shut_down = true
over off_chart = true

pub over_name : (e : Ending) → over (name e) ≡ true
over_name Launched = refl
over_name Booted = refl
over_name Shut = refl
over_name Off = refl

pub over_at : (p : Phase) → over (end_at p) ≡ ended p
over_at First = refl
over_at (Second d) = refl
over_at (Handshake k) = refl
over_at (Answer r) = refl
over_at (Rest r) = refl
over_at (Command n bits) = refl
over_at (Size n bits) = refl
over_at (Long n k bits) = refl
over_at (Align a) = refl
over_at (Ended e) = over_name e

-- What an answer says of the phase that it was asked of.
module _ (r : Option Ending) (p : Phase) (asked : told_end r ≡ end_at p) where
  pub listens : r ≡ None → ended p ≡ false
  listens e = sym (over_at p) ∙ ap over (sym asked) ∙ ap (λ (x : Option Ending). over (told_end x)) e

  pub has_ended : (e : Ending) → r ≡ Some e → ended p ≡ true
  has_ended e q = sym (over_at p) ∙ ap over (sym asked) ∙ ap (λ (x : Option Ending). over (told_end x)) q ∙ over_name e
