-- 01, "What the host sends": what follows a pulse, and the table of endings.
-- Assumes nothing.
use Rattle.std.specs.Prelude.{Bool, true, false, not, ℕ, ◌+◌, ◌/◌, ltb, eqb}
use Rattle.terms.specs.Choice.{when}
use Rattle.load.specs.declared.Load.{Load}
use Rattle.sequence.specs.Sequence.{draw}
use Rattle.units.specs.declared.Seen.{Seen}
use Rattle.units.specs.declared.Seen.TheVariants.{Silence, Zero, One}
use Rattle.bits.specs.Bits.{pair_bit}
use Rattle.place.specs.Phases.{places}
use Rattle.place.specs.declared.Acknowledgement.{Acknowledgement}
use Rattle.place.specs.declared.Acknowledgement.TheVariants.{Ram, Programming, Verification}
use Rattle.place.specs.declared.Ending.{Ending}
use Rattle.place.specs.declared.Ending.TheVariants.{Done, Lost, WrongVersion, BadRam, BadProgramming, BadVerification}
use Rattle.place.specs.declared.Phase.{Phase}
use Rattle.place.specs.declared.Phase.TheVariants.{Calibration, Handshake, Connection, Version, Command, Zeros, Size, Image, Wait, Ended}
use Rattle.place.specs.declared.Place.{Place}

-- The first place of a phase.
abbrev pub opened : Phase → Place
opened phase = record { phase = phase; index = 0 }

-- Only version 1 is good; after a wrong one the host first sends 32 zero bits.
unfoldable pub after_version : ℕ → Phase
after_version v = when (eqb v 1) Command Zeros

-- Command 0 is done after its own bits.
unfoldable pub after_command : ℕ → Phase
after_command command = when (eqb command 0) (Ended Done) Size

-- What follows the last pulse of a phase. A wait's last pair is silent where no acknowledgement came.
abbrev pub after : Load → Phase → Phase
after load Calibration = Handshake
after load Handshake = Connection
after load Connection = Version 0
after load (Version v) = after_version v
after load Command = after_command load.command
after load Zeros = Ended WrongVersion
after load Size = Image
after load Image = Wait Ram
after load (Wait a) = Ended Lost
after load (Ended e) = Ended e

-- The next pulse of the phase, or after its last the first of what follows.
unfoldable pub onward : Load → Phase → ℕ → Place
onward load phase i = when (ltb (i + 1) (places load phase)) (record { phase = phase; index = i + 1 }) (opened (after load phase))

-- What is seen is this bit.
abbrev pub shows : Seen → Bool → Bool
shows Silence b = false
shows Zero b = not b
shows One b = b

-- Connection: silence or a wrong bit loses the session.
unfoldable pub after_connection : Load → ℕ → Seen → Place
after_connection load i seen = when (shows seen (draw (251 + i / 2))) (onward load Connection i) (opened (Ended Lost))

-- Version: silence loses the session, a bit is shifted in from the top.
abbrev pub after_version_pair : Load → ℕ → ℕ → Seen → Place
after_version_pair load v i Silence = opened (Ended Lost)
after_version_pair load v i Zero = onward load (Version (v / 2)) i
after_version_pair load v i One = onward load (Version (v / 2 + 128)) i

-- What follows a good acknowledgement: programming and verification are for commands 2 and 3.
unfoldable pub after_ram : ℕ → Phase
after_ram command = when (eqb command 1) (Ended Done) (Wait Programming)

abbrev pub after_good : ℕ → Acknowledgement → Phase
after_good command Ram = after_ram command
after_good command Programming = Wait Verification
after_good command Verification = Ended Done

-- The ending by a bad one.
abbrev pub bad : Acknowledgement → Ending
bad Ram = BadRam
bad Programming = BadProgramming
bad Verification = BadVerification

-- A wait ends at the first pair that isn't silent: 0 is good, 1 is bad.
abbrev pub after_wait_pair : Load → Acknowledgement → ℕ → Seen → Place
after_wait_pair load a i Silence = onward load (Wait a) i
after_wait_pair load a i Zero = opened (after_good load.command a)
after_wait_pair load a i One = opened (Ended (bad a))

-- What follows the second pulse of a pair, where what is seen counts in steps 3, 4, 7 and 8.
abbrev pub after_pair : Load → Phase → ℕ → Seen → Place
after_pair load Calibration i seen = onward load Calibration i
after_pair load Handshake i seen = onward load Handshake i
after_pair load Connection i seen = after_connection load i seen
after_pair load (Version v) i seen = after_version_pair load v i seen
after_pair load Command i seen = onward load Command i
after_pair load Zeros i seen = onward load Zeros i
after_pair load Size i seen = onward load Size i
after_pair load Image i seen = onward load Image i
after_pair load (Wait a) i seen = after_wait_pair load a i seen
after_pair load (Ended e) i seen = onward load (Ended e) i

-- What follows a pulse: what is seen counts only in the call that sends a pair's second pulse.
unfoldable pub next : Load → Phase → ℕ → Seen → Place
next load phase i seen = when (pair_bit i) (onward load phase i) (after_pair load phase i seen)

-- What is seen is silence.
abbrev pub is_silence : Seen → Bool
is_silence Silence = true
is_silence Zero = false
is_silence One = false

-- The second pulse of a pair, with silence seen around the first.
unfoldable pub ends_silent : ℕ → Seen → Bool
ends_silent i seen = when (pair_bit i) false (is_silence seen)

-- The pulse ends a silent pair of a wait.
abbrev pub ends_silent_pair : Phase → ℕ → Seen → Bool
ends_silent_pair Calibration i seen = false
ends_silent_pair Handshake i seen = false
ends_silent_pair Connection i seen = false
ends_silent_pair (Version v) i seen = false
ends_silent_pair Command i seen = false
ends_silent_pair Zeros i seen = false
ends_silent_pair Size i seen = false
ends_silent_pair Image i seen = false
ends_silent_pair (Wait a) i seen = ends_silent i seen
ends_silent_pair (Ended e) i seen = false
