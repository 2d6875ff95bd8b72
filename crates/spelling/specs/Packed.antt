-- 02, "One" and "Seven": what each byte holds. "Pairs go as $F9"; of a run of bits a byte holds the next one or three, and "the last byte of
-- each holds what is left", or "as many of the next bits as fit".
-- Assumes nothing.
use Rattle.std.specs.Prelude.{Bool, true, false, List, [], ◌∷◌, map, ◌≡◌, ℕ, zero, suc, ◌-◌, min, leb, Option, Some}
use Rattle.terms.specs.Choice.{when}
use Rattle.terms.specs.Refusals.{taken}
use Rattle.load.specs.declared.Load.{Load}
use Rattle.bits.specs.Bits.{sent_bit}
use Rattle.follow.specs.Follow.{onward}
use Rattle.place.specs.Phases.{places}
use Rattle.place.specs.declared.Phase.{Phase}
use Rattle.place.specs.declared.Place.{Place}
use Rattle.frames.specs.Frames.{width}
use Rattle.frames.specs.LowRuns.{low_runs, run}
use Rattle.packing.specs.Phases.{in_bits, in_pairs}
use Rattle.packing.specs.Runs.{bits_from}
use Rattle.serial.specs.Step.{resumed_at, serial_step}
use Rattle.packing.specs.declared.Packing.{Packing}
use Rattle.packing.specs.declared.Packing.TheVariants.{One, Three, Fewest}
use Rattle.serial.specs.declared.Serial.{Serial}
use Rattle.serial.specs.declared.Turn.{Turn}

-- So many bits of a phase from number i on, or as many as are left.
abbrev pub up_to : ℕ → Load → List ℕ → Phase → ℕ → List Bool
up_to n load image phase i = bits_from load image phase i (min n (places load phase - i))

-- So many bits of a run from a place on, over its phases, or as many as are left.
unfoldable pub ahead : Load → List ℕ → ℕ → Place → List Bool
ahead load image zero p = []
ahead load image (suc n) p =
    when (in_bits p.phase) (sent_bit load image p.phase p.index ∷ ahead load image n (onward load p.phase p.index)) []

-- The first of some bits, as many as fit so many bit times: "a 1 takes two bit times and a 0 takes three".
unfoldable pub fitting : ℕ → List Bool → List Bool
fitting room [] = []
fitting room (b ∷ bits) = when (leb (width b) room) (b ∷ fitting (room - width b) bits) []

-- "one bit a byte", "three bits a byte", "ten in all": of the next five, as no byte holds more.
abbrev pub held_of : Packing → Load → List ℕ → Phase → ℕ → List Bool
held_of One load image phase i = up_to 1 load image phase i
held_of Three load image phase i = up_to 3 load image phase i
held_of Fewest load image phase i = fitting 10 (ahead load image 5 (record { phase = phase; index = i }))

-- The bits of the byte that is filled from a place on: a pair's are 1, 0.
unfoldable pub held : Packing → Load → List ℕ → Phase → ℕ → List Bool
held packing load image phase i = when (in_pairs phase) (true ∷ false ∷ []) (held_of packing load image phase i)

-- Every byte that a step sends, whatever record it is a step of, has the low runs that spell the bits it holds: one bit time for a 1, two
-- for a 0. It is filled from where what came back has led.
abbrev pub EveryByte : Type 0
EveryByte =
    (s : Serial) (image : List ℕ) (back : Option ℕ) (t : Turn) (byte : ℕ) → serial_step s image back ≡ taken t → t.sent ≡ Some byte
    → low_runs byte ≡ map run (held s.packing s.load image (resumed_at s back).phase (resumed_at s back).index)
