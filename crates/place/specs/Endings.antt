-- 01, "What the host sends", the table of endings: the number of each, and where a session has one.
-- Assumes nothing.
use Rattle.std.specs.Prelude.{ℕ, Option, None, Some}
use Rattle.place.specs.declared.Ending.{Ending}
use Rattle.place.specs.declared.Ending.TheVariants.{Done, Lost, WrongVersion, BadRam, BadProgramming, BadVerification}
use Rattle.place.specs.declared.Phase.{Phase}
use Rattle.place.specs.declared.Phase.TheVariants as at

abbrev pub number : Ending → ℕ
number Done = 0
number Lost = 1
number WrongVersion = 2
number BadRam = 3
number BadProgramming = 4
number BadVerification = 5

-- A session goes on, or it has ended by a number of that table.
pub data End : Type 0 where
  going : End
  ended : ℕ → End

-- Where a session stands.
abbrev pub end_at : Phase → End
end_at at.Calibration = going
end_at at.Handshake = going
end_at at.Connection = going
end_at (at.Version v) = going
end_at at.Command = going
end_at at.Zeros = going
end_at at.Size = going
end_at at.Image = going
end_at (at.Wait a) = going
end_at (at.Ended e) = ended (number e)

-- What the answer tells.
abbrev pub told_end : Option Ending → End
told_end None = going
told_end (Some e) = ended (number e)
