-- 01, "What the host sends": its steps as phases, with the numbers of their pulses.
-- Assumes nothing.
use Rattle.std.specs.Prelude.{Bool, true, false, ℕ, ◌*◌, min}
use Rattle.load.specs.declared.Load.{Load}
use Rattle.place.specs.declared.Acknowledgement.{Acknowledgement}
use Rattle.place.specs.declared.Acknowledgement.TheVariants.{Ram, Programming, Verification}
use Rattle.place.specs.declared.Carries.{Carries}
use Rattle.place.specs.declared.Carries.TheVariants.{Pairs, Bits, Nothing}
use Rattle.place.specs.declared.Phase.{Phase}
use Rattle.place.specs.declared.Phase.TheVariants.{Calibration, Handshake, Connection, Version, Command, Zeros, Size, Image, Wait, Ended}

-- Calibration, and steps 3, 4, 7 and 8, carry pairs; the others carry bits. An ended session carries nothing.
abbrev pub carries : Phase → Carries
carries Calibration = Pairs
carries Handshake = Bits
carries Connection = Pairs
carries (Version v) = Pairs
carries Command = Bits
carries Zeros = Bits
carries Size = Bits
carries Image = Bits
carries (Wait a) = Pairs
carries (Ended e) = Nothing

-- The pairs that a wait has at most.
abbrev pub pairs : Acknowledgement → ℕ
pairs Ram = 25
pairs Programming = 500
pairs Verification = 200

-- The image's bits; no image is longer than 32,760 bytes.
abbrev pub image_pulses : Load → ℕ
image_pulses load = min load.length.0 32760 * 8

-- The places of a phase: one for each of its pulses, and one where an ended session stands.
abbrev pub places : Load → Phase → ℕ
places load Calibration = 2
places load Handshake = 250
places load Connection = 250 * 2
places load (Version v) = 8 * 2
places load Command = 32
places load Zeros = 32
places load Size = 32
places load Image = image_pulses load
places load (Wait a) = pairs a * 2
places load (Ended e) = 1

-- The session has ended.
abbrev pub ended : Phase → Bool
ended Calibration = false
ended Handshake = false
ended Connection = false
ended (Version v) = false
ended Command = false
ended Zeros = false
ended Size = false
ended Image = false
ended (Wait a) = false
ended (Ended e) = true
