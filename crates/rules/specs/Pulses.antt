-- 01, "What the chip does": a pulse that a chip is played, and the words in which the rules say what comes of it.
-- Assumes nothing.
use Rattle.std.specs.Prelude.{Bool, false, List, [], ◌∷◌, ◌++◌, ◌⊎◌, ◌≡◌, ℕ, ◌+◌, ◌-◌, ◌*◌, ◌/◌, ◌%◌, ◌≤◌, ◌<◌, ltb, leb, length, take, drop, replicate, set}
use Rattle.terms.specs.Choice.{when}
use Rattle.terms.specs.Refusals.{taken}
use Rattle.units.specs.Line.{Line, silence, bit}
use Rattle.lent.specs.Bytes.{word_at}
use Rattle.phases.specs.declared.Ending.TheVariants.{Launched, Booted, Shut}
use Rattle.phases.specs.declared.Phase.{Phase}
use Rattle.phases.specs.declared.Phase.TheVariants.{Answer, Rest, Ended}
use Rattle.phases.specs.declared.Reply.{Reply}
use Rattle.line.specs.Reading.{distance_of}
use Rattle.margins.specs.Margins.{with_pulse}
use Rattle.margins.specs.declared.Margins.{Margins}
use Rattle.eeprom.specs.declared.Fault.{Fault}
use Rattle.eeprom.specs.declared.Fault.TheVariants.{None, Accepts, Reads}
use Rattle.chip.specs.Step.{Left, left, chip_outside}
use Rattle.chip.specs.declared.Chip.{Chip}

-- A step of a chip, over its RAM and its EEPROM, by the wait and the low of a pulse.
abbrev pub Step : Type 0
Step = Chip → List ℕ → List ℕ → ℕ → ℕ → Left

-- A pulse to a chip within its ranges, over memories of their size.
pub record Pulse : Type 0 where
  pub chip : Chip
  pub ram : List ℕ
  pub eeprom : List ℕ
  pub wait : ℕ
  pub low : ℕ
  pub within : chip_outside chip ≡ false
  pub ram_size : length ram ≡ 32768
  pub eeprom_size : length eeprom ≡ 32768

-- Four bytes of RAM replaced, from an address on.
abbrev pub put : ℕ → List ℕ → List ℕ → List ℕ
put at bytes ram = take at ram ++ bytes ++ drop (at + 4) ram

-- The four bytes of a long, low byte first.
abbrev pub bytes_of : ℕ → List ℕ
bytes_of long = long % 256 ∷ long / 256 % 256 ∷ long / 65536 % 256 ∷ long / 16777216 ∷ []

-- The address so far below D, by 4 or 8, taken modulo 65,536 with its two lowest bits dropped.
abbrev pub address : ℕ → ℕ → ℕ
address d below = (d + 65536 - below) % 65536 / 4 * 4

-- RAM with FF FF F9 FF there; at 32,768 or above nothing is stored.
unfoldable pub flagged : ℕ → ℕ → List ℕ → List ℕ
flagged d below ram = when (ltb (address d below) 32768) (put (address d below) (0xFF ∷ 0xFF ∷ 0xF9 ∷ 0xFF ∷ []) ram) ram

-- RAM after the last long, which is number k, below 8,192: the long in its place, and zeros behind it.
abbrev pub zeroed : ℕ → ℕ → List ℕ → List ℕ
zeroed k long ram = take (4 * k + 4) (put (4 * k) (bytes_of long) ram) ++ replicate (32768 - (4 * k + 4)) 0

-- Then the flag longs at D - 4 and at D - 8, with D the word at 10.
abbrev pub flagged_twice : List ℕ → List ℕ
flagged_twice ram = flagged (word_at ram 10) 8 (flagged (word_at ram 10) 4 ram)

abbrev pub loaded : ℕ → ℕ → List ℕ → List ℕ
loaded k long ram = flagged_twice (zeroed k long ram)

-- The pages that an EEPROM accepts, and its fault once it has been programmed: one that accepted n pages "then acknowledges nothing".
abbrev pub pages : Fault → ℕ
pages None = 512
pages (Accepts n) = n
pages (Reads v a) = 512

abbrev pub programmed : Fault → Fault
programmed None = None
programmed (Accepts n) = Accepts 0
programmed (Reads v a) = Reads v a

-- An EEPROM as it reads: the byte at address a as v.
abbrev pub reading : Fault → List ℕ → List ℕ
reading None eeprom = eeprom
reading (Accepts n) eeprom = eeprom
reading (Reads v a) eeprom = set eeprom a.0 v

module _ (x : Pulse) where
  -- Where the chip stands, and what it holds.
  abbrev pub phase : Phase
  phase = x.chip.receiver.listener.phase

  abbrev pub threshold : ℕ
  threshold = x.chip.receiver.listener.threshold.0

  abbrev pub command : ℕ
  command = x.chip.receiver.listener.command

  abbrev pub size : ℕ
  size = x.chip.receiver.listener.size.0

  abbrev pub countdown : ℕ
  countdown = x.chip.receiver.left.0

  abbrev pub fault : Fault
  fault = x.chip.fault

  abbrev pub At : Phase → Type 0
  At p = phase ≡ p

  -- Before either pulse of a reply.
  abbrev pub In : Reply → Type 0
  In r = At (Answer r) ⊎ At (Rest r)

  -- Waits and lows both draw on the countdown, and a total that reaches it is a time-out.
  abbrev pub Late : Type 0
  Late = countdown ≤ x.wait + x.low

  abbrev pub Timely : Type 0
  Timely = x.wait + x.low < countdown

  -- What a timely pulse leaves of it, which is some. One that times out draws nothing.
  abbrev pub rest : ℕ
  rest = when (leb countdown (x.wait + x.low)) countdown (countdown - (x.wait + x.low))

  -- A low below the threshold is 1, otherwise 0.
  abbrev pub bit_read : Bool
  bit_read = ltb x.low threshold

  -- All values come low bit first: each bit is shifted in from the top of 32. That 32 of them leave the value that they spell:
  -- `LowBitFirst` (line/specs/LowBitFirst.antt).
  abbrev pub read : ℕ → ℕ
  read bits = bits / 2 + when bit_read 2147483648 0

  -- The EEPROM acknowledges nothing any more; and what it reads as.
  abbrev pub Dead : Type 0
  Dead = fault ≡ Accepts 0

  abbrev pub as_read : List ℕ
  as_read = reading fault x.eeprom

  -- 02, "Four": the margins after the pulse.
  abbrev pub margins : Margins
  margins =
      let kept = x.chip.receiver.margins in
      when (leb countdown (x.wait + x.low)) kept (with_pulse kept phase bit_read (distance_of threshold x.low))

  -- The chip after the pulse, with a threshold, a command and a size, in a phase, with so many loops on its countdown, and with a fault.
  abbrev pub become : ℕ → ℕ → ℕ → Phase → ℕ → Fault → Chip
  become t c n p left f = record {
    fault = f;
    receiver = record {
      listener = record { threshold = record { 0 = t }; command = c; size = record { 0 = n }; phase = p };
      left = record { 0 = left };
      margins = margins;
    };
  }

  module _ (step : Step) where
    -- The step is taken: the chip after it, what the line shows, and both memories.
    abbrev pub Comes : Chip → Line → List ℕ → List ℕ → Type 0
    Comes c shows ram eeprom =
        step x.chip x.ram x.eeprom x.wait x.low ≡ left (taken (record { chip = c; reply = shows })) ram eeprom

    -- Silently to a phase, with so much left of the countdown.
    abbrev pub Leads : Phase → ℕ → Type 0
    Leads p left = Comes (become threshold command size p left fault) silence x.ram x.eeprom

    -- The same, with a reply at the pulse's rise.
    abbrev pub Replies : ℕ → Phase → ℕ → Type 0
    Replies b p left = Comes (become threshold command size p left fault) (bit b) x.ram x.eeprom

    -- Silently, with a threshold, a command and a size.
    abbrev pub Learns : ℕ → ℕ → ℕ → Phase → ℕ → Type 0
    Learns t c n p left = Comes (become t c n p left fault) silence x.ram x.eeprom

    -- Silently, with other bytes in RAM.
    abbrev pub Stores : List ℕ → Phase → ℕ → Type 0
    Stores ram p left = Comes (become threshold command size p left fault) silence ram x.eeprom

    -- Silently, with other bytes in the EEPROM, which has been programmed.
    abbrev pub Programs : List ℕ → Phase → ℕ → Type 0
    Programs eeprom p left = Comes (become threshold command size p left (programmed fault)) silence x.ram eeprom

    -- "Commands 1, 3 launch if the word at 6 is 16, otherwise shut down silently."
    pub record Launches : Type 0 where
      pub launched : word_at x.ram 6 ≡ 16 → Leads (Ended Launched) rest
      pub shut : (word_at x.ram 6 ≡ 16 → ⊥) → Leads (Ended Shut) rest

    -- "RAM is read whole from EEPROM, then launched or shut down by the same test. An EEPROM that doesn't acknowledge: shut down, RAM
    -- unchanged."
    pub record Boots : Type 0 where
      pub launched : (Dead → ⊥) → word_at as_read 6 ≡ 16 → Stores as_read (Ended Booted) rest
      pub shut : (Dead → ⊥) → (word_at as_read 6 ≡ 16 → ⊥) → Stores as_read (Ended Shut) rest
      pub dead : Dead → Leads (Ended Shut) rest
