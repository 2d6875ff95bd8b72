-- 01, "What the host sends": the bit of each pulse.
-- Assumes nothing.
use Rattle.std.specs.Prelude.{Bool, false, List, ℕ, ◌+◌, ◌/◌, ◌%◌, eqb, get_or}
use Rattle.load.specs.declared.Load.{Load}
use Rattle.sequence.specs.Sequence.{bit, draw}
use Rattle.units.specs.Units.{longs_in}
use Rattle.place.specs.declared.Phase.{Phase}
use Rattle.place.specs.declared.Phase.TheVariants.{Calibration, Handshake, Connection, Version, Command, Zeros, Size, Image, Wait, Ended}

-- A pair is the bits 1, 0, so that a pair's first pulse is the one that is a 1.
abbrev pub pair_bit : ℕ → Bool
pair_bit i = eqb (i % 2) 0

-- Values go low bit first.
abbrev pub value_bit : ℕ → ℕ → Bool
value_bit value i = eqb (bit i value) 1

-- So do the image's bytes.
abbrev pub image_bit : List ℕ → ℕ → Bool
image_bit image i = value_bit (get_or image (i / 8) 0) (i % 8)

-- The bit of the pulse at a place; an ended session sends none.
abbrev pub sent_bit : Load → List ℕ → Phase → ℕ → Bool
sent_bit load image Calibration i = pair_bit i
sent_bit load image Handshake i = draw (i + 1)
sent_bit load image Connection i = pair_bit i
sent_bit load image (Version v) i = pair_bit i
sent_bit load image Command i = value_bit load.command i
sent_bit load image Zeros i = false
sent_bit load image Size i = value_bit (longs_in load.length.0) i
sent_bit load image Image i = image_bit image i
sent_bit load image (Wait a) i = pair_bit i
sent_bit load image (Ended e) i = false
