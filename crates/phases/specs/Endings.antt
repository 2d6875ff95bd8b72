-- 01, "What the chip does": "Endings: launched from download, launched from EEPROM, shut down, off chart"; and a chip that still listens.
-- Assumes nothing.
use Rattle.std.specs.Prelude.{Option, None, Some}
use Rattle.phases.specs.declared.Ending.{Ending}
use Rattle.phases.specs.declared.Ending.TheVariants.{Launched, Booted, Shut, Off}
use Rattle.phases.specs.declared.Phase.{Phase}
use Rattle.phases.specs.declared.Phase.TheVariants as at

pub data End : Type 0 where
  listening : End
  launched_from_download : End
  launched_from_eeprom : End
  shut_down : End
  off_chart : End

-- The name of each ending.
abbrev pub name : Ending → End
name Launched = launched_from_download
name Booted = launched_from_eeprom
name Shut = shut_down
name Off = off_chart

-- Where a chip stands.
abbrev pub end_at : Phase → End
end_at at.First = listening
end_at (at.Second d) = listening
end_at (at.Handshake k) = listening
end_at (at.Answer r) = listening
end_at (at.Rest r) = listening
end_at (at.Command n bits) = listening
end_at (at.Size n bits) = listening
end_at (at.Long n k bits) = listening
end_at (at.Align a) = listening
end_at (at.Ended e) = name e

-- What the answer tells.
abbrev pub told_end : Option Ending → End
told_end None = listening
told_end (Some e) = name e
