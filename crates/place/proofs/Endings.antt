-- An ending is told by its number, and whether a session has ended by where it stands.
-- Assumes nothing.
use mathlib.Core.Bool.{Bool, true, false, true≢false}
use mathlib.Core.Path.{◌≡◌, refl, sym, ap, ◌∙◌}
use Rattle.std.specs.Prelude.{ℕ, Option, None, Some, [], ◌∷◌, get_or}
use Rattle.place.specs.Endings as told
use Rattle.place.specs.Endings.{End, number, end_at, told_end}
use Rattle.place.specs.Phases.{ended}
use Rattle.place.specs.declared.Ending.{Ending}
use Rattle.place.specs.declared.Ending.TheVariants.{Done, Lost, WrongVersion, BadRam, BadProgramming, BadVerification}
use Rattle.place.specs.declared.Phase.{Phase}
use Rattle.place.specs.declared.Phase.TheVariants.{Calibration, Handshake, Connection, Version, Command, Zeros, Size, Image, Wait, Ended}

-- The ending of a number; those above 5 are none.
abbrev pub numbered : ℕ → Ending
numbered n = get_or (Done ∷ Lost ∷ WrongVersion ∷ BadRam ∷ BadProgramming ∷ []) n BadVerification

pub numbered_number : (e : Ending) → numbered (number e) ≡ e
numbered_number Done = refl
numbered_number Lost = refl
numbered_number WrongVersion = refl
numbered_number BadRam = refl
numbered_number BadProgramming = refl
numbered_number BadVerification = refl

-- What is told, turned back.
abbrev pub back_end : End → Option Ending
back_end told.going = None
back_end (told.ended n) = Some (numbered n)

pub back_told_end : (r : Option Ending) → back_end (told_end r) ≡ r
back_told_end None = refl
back_told_end (Some e) = ap Some (numbered_number e)

-- It has ended.
abbrev pub over : End → Bool
over told.going = false
over (told.ended n) = true

pub over_at : (p : Phase) → over (end_at p) ≡ ended p
over_at Calibration = refl
over_at Handshake = refl
over_at Connection = refl
over_at (Version v) = refl
over_at Command = refl
over_at Zeros = refl
over_at Size = refl
over_at Image = refl
over_at (Wait a) = refl
over_at (Ended e) = refl

-- What an answer says of the phase that it was asked of.
module _ (r : Option Ending) (p : Phase) (asked : told_end r ≡ end_at p) where
  pub goes_on : r ≡ None → ended p ≡ false
  goes_on e = sym (over_at p) ∙ ap over (sym asked) ∙ ap (λ (x : Option Ending). over (told_end x)) e

  pub has_ended : (e : Ending) → r ≡ Some e → ended p ≡ true
  has_ended e q = sym (over_at p) ∙ ap over (sym asked) ∙ ap (λ (x : Option Ending). over (told_end x)) q

  pub not_going : ended p ≡ true → r ≡ None → ⊥
  not_going over e = true≢false (sym over ∙ goes_on e)
