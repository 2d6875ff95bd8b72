-- 01, row 13 of "Refusal numbers": the range of a place, as docs/RECORDS.md has it.
-- Assumes nothing.
use Rattle.std.specs.Prelude.{Bool, ℕ, ◌+◌, ltb, leb}
use Rattle.terms.specs.Choice.{either}
use Rattle.load.specs.declared.Load.{Load}
use Rattle.place.specs.Phases.{image_pulses, places}
use Rattle.place.specs.declared.Acknowledgement.{Acknowledgement}
use Rattle.place.specs.declared.Acknowledgement.TheVariants.{Ram, Programming, Verification}
use Rattle.place.specs.declared.Ending.{Ending}
use Rattle.place.specs.declared.Ending.TheVariants.{Done, Lost, WrongVersion, BadRam, BadProgramming, BadVerification}
use Rattle.place.specs.declared.Phase.{Phase}
use Rattle.place.specs.declared.Phase.TheVariants.{Calibration, Handshake, Connection, Version, Command, Zeros, Size, Image, Wait, Ended}

-- The least command that has a wait, an ending, a phase.
abbrev pub least_awaiting : Acknowledgement → ℕ
least_awaiting Ram = 1
least_awaiting Programming = 2
least_awaiting Verification = 2

abbrev pub least_ending : Ending → ℕ
least_ending Done = 0
least_ending Lost = 0
least_ending WrongVersion = 0
least_ending BadRam = 1
least_ending BadProgramming = 2
least_ending BadVerification = 2

abbrev pub least_command : Phase → ℕ
least_command Calibration = 0
least_command Handshake = 0
least_command Connection = 0
least_command (Version v) = 0
least_command Command = 0
least_command Zeros = 0
least_command Size = 1
least_command Image = 1
least_command (Wait a) = least_awaiting a
least_command (Ended e) = least_ending e

-- The command has not this phase, or the phase not this index.
unfoldable pub place_outside : Load → Phase → ℕ → Bool
place_outside load phase i = either (ltb load.command (least_command phase)) (leb (places load phase) i)

-- The pulses of the waits before a wait, where each has all its pairs.
abbrev pub waited_before : Acknowledgement → ℕ
waited_before Ram = 0
waited_before Programming = 50
waited_before Verification = 1050

-- The pulses before a phase, at most.
abbrev pub before : Load → Phase → ℕ
before load Calibration = 0
before load Handshake = 2
before load Connection = 252
before load (Version v) = 752
before load Command = 768
before load Zeros = 768
before load Size = 800
before load Image = 832
before load (Wait a) = 832 + image_pulses load + waited_before a
before load (Ended e) = 832 + image_pulses load + 1450
