-- 01, "What the host sends": the whole session as one list, by its steps 1 to 8 and the table of endings; each pulse with its phase, which
-- is one of 02's ten ("Six").
-- Assumes nothing.
use Rattle.std.specs.Prelude.{Bool, true, false, List, [], ◌∷◌, ℕ, zero, suc, ◌+◌, ◌*◌, ◌/◌, ◌^◌, eqb}
use Rattle.terms.specs.Choice.{when}
use Rattle.sequence.specs.Sequence.{draw}
use Rattle.units.specs.declared.Seen.{Seen}
use Rattle.units.specs.declared.Seen.TheVariants.{Silence, Zero, One}
use Rattle.bits.specs.Bits.{value_bit, image_bit}
use Rattle.follow.specs.Follow.{shows}
use Rattle.place.specs.declared.Acknowledgement.{Acknowledgement}
use Rattle.place.specs.declared.Acknowledgement.TheVariants.{Ram, Programming, Verification}
use Rattle.place.specs.declared.Ending.{Ending}
use Rattle.place.specs.declared.Ending.TheVariants.{Done, Lost, WrongVersion, BadRam, BadProgramming, BadVerification}
use Rattle.place.specs.declared.Phase.{Phase}
use Rattle.place.specs.declared.Phase.TheVariants.{Calibration, Handshake, Connection, Version, Command, Size, Image, Wait}
use Rattle.ticks.specs.Ticks.{phase_number}

-- A pulse: its bit, whether it ends a silent pair of step 7 or 8, after which the spacer is longer, and its phase, by its number among the
-- ten.
pub record Mark : Type 0 where
  pub bit : Bool
  pub silent : Bool
  pub phase : ℕ

-- The pulses to be sent, and the ending after them.
pub record Spelled : Type 0 where
  pub pulses : List Mark
  pub ending : Ending

-- What is sent from a call on; calls are numbered from 0.
abbrev pub Part : Type 0
Part = ℕ → Spelled

-- Nothing more is sent.
abbrev pub over : Ending → Part
over ending n = record { pulses = []; ending = ending }

-- The call sends a pulse, and the rest comes after it.
abbrev pub sends : Phase → Bool → Bool → Part → Part
sends phase bit silent rest n = record {
  pulses = record { bit = bit; silent = silent; phase = phase_number phase } ∷ (rest (n + 1)).pulses;
  ending = (rest (n + 1)).ending;
}

infixr 20 ◌then◌
-- What is sent first, then the rest.
abbrev pub ◌then◌ : (Part → Part) → Part → Part
part then rest = part rest

-- A pair is the bits 1, 0.
abbrev pub pair : Phase → Part → Part
pair phase rest = sends phase true false (sends phase false false rest)

-- The same, silent, in step 7 or 8.
abbrev pub silent_pair : Phase → Part → Part
silent_pair phase rest = sends phase true false (sends phase false true rest)

-- So many bits, from number i on: each goes by the call that sends it and by its number.
unfoldable pub bits : Phase → (ℕ → ℕ → Bool) → ℕ → ℕ → Part → Part
bits phase bit i zero rest n = rest n
bits phase bit i (suc left) rest n = sends phase (bit n i) false (bits phase bit (i + 1) left rest) n

-- A value of 32 bits, low bit first.
abbrev pub value : Phase → ℕ → Part → Part
value phase v = bits phase (λ n i. value_bit v i) 0 32

-- What follows silence, a 0, a 1.
abbrev pub by : Seen → Part → Part → Part → Part
by Silence at_silence at_0 at_1 = at_silence
by Zero at_silence at_0 at_1 = at_0
by One at_silence at_0 at_1 = at_1

-- What was seen around a pair's first pulse counts in the call that sends its second.
module _ (seen : ℕ → Seen) where
  -- So many connection pairs, by the draws from number k on: silence or a wrong bit loses the session.
  unfoldable pub connection : ℕ → ℕ → Part → Part
  connection k zero rest n = rest n
  connection k (suc left) rest n = pair Connection (when (shows (seen (n + 1)) (draw k)) (connection (k + 1) left rest) (over Lost)) n

  -- So many version pairs, from bit i on, where the bits below spell v: silence loses the session, and only 1 is good.
  unfoldable pub version : ℕ → ℕ → ℕ → Part → Part → Part
  version i zero v wrong good n = when (eqb v 1) good wrong n
  version i (suc left) v wrong good n =
      pair (Version v) (by (seen (n + 1)) (over Lost) (version (i + 1) left v wrong good) (version (i + 1) left (v + 2 ^ i) wrong good)) n

  -- A wait of at most so many pairs ends at the first that isn't silent: 0 is good, 1 is bad. The last one silent loses the session.
  unfoldable pub wait : Acknowledgement → ℕ → Ending → Part → Part
  wait a zero bad good n = over Lost n
  wait a (suc left) bad good n =
      by (seen (n + 1)) (silent_pair (Wait a) (wait a left bad good)) (pair (Wait a) good) (pair (Wait a) (over bad)) n

-- The session of a command with an image of a length. Call n is lent the image `lent n`, and told that `seen n` was seen.
module _ (command length : ℕ) (lent : ℕ → List ℕ) (seen : ℕ → Seen) where
  -- All is done here where the command is c.
  abbrev pub done_for : ℕ → Part → Part
  done_for c rest = when (eqb command c) (over Done) rest

  -- Calibration; handshake; connection; version, where a wrong one ends the session after 32 zeros, which belong to the command phase;
  -- command; size and image; the RAM acknowledgement; programming and verification.
  unfoldable pub spelled : Spelled
  spelled =
      (pair Calibration
      then bits Handshake (λ n k. draw k) 1 250
      then connection seen 251 250
      then version seen 0 8 0 (bits Command (λ n i. false) 0 32 then over WrongVersion)
      then value Command command
      then done_for 0
      then value Size (length / 4)
      then bits Image (λ n i. image_bit (lent n) i) 0 (length * 8)
      then wait seen Ram 25 BadRam
      then done_for 1
      then wait seen Programming 500 BadProgramming
      then wait seen Verification 200 BadVerification
      then over Done) 0
