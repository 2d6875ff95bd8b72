-- 02, "One" and "Seven": what a byte holds. Pairs go by themselves; of a run of bits a byte holds those that fit, up to so many.
-- Assumes nothing.
use Rattle.std.specs.Prelude.{Bool, true, false, List, ℕ, zero, suc, ltb}
use Rattle.terms.specs.Choice.{when, either}
use Rattle.load.specs.declared.Load.{Load}
use Rattle.place.specs.declared.Phase.{Phase}
use Rattle.place.specs.declared.Place.{Place}
use Rattle.bits.specs.Bits.{sent_bit}
use Rattle.follow.specs.Follow.{onward}
use Rattle.frames.specs.Frames.{empty, fits, with}
use Rattle.frames.specs.declared.Frame.{Frame}
use Rattle.packing.specs.Phases.{in_bits, in_pairs}
use Rattle.packing.specs.declared.Filling.{Filling}
use Rattle.packing.specs.declared.Packing.{Packing}
use Rattle.packing.specs.declared.Packing.TheVariants.{One, Three, Fewest}

-- The bits that a byte holds at most: "$55 carries five ones", and none holds more.
abbrev pub most : Packing → ℕ
most One = 1
most Three = 3
most Fewest = 5

-- "Handshake, command, size and image are packed each by itself": a byte doesn't go on into another phase. For the fewest bytes "command,
-- size and image form one run of bits": it goes on into one of bits.
abbrev pub goes_into : Packing → Phase → Bool
goes_into One to = false
goes_into Three to = false
goes_into Fewest to = in_bits to

-- Within a phase it goes on; at a phase's first place, where it goes on into that phase.
unfoldable pub goes_on : Packing → Place → Bool
goes_on packing to = either (ltb 0 to.index) (goes_into packing to.phase)

-- A byte that is being filled: its frame, the place of the next bit, and whether that bit may join it.
pub record Open : Type 0 where
  pub frame : Frame
  pub place : Place
  pub going : Bool

-- A byte before its first bit.
abbrev pub at_first : Place → Open
at_first place = record { frame = empty; place = place; going = true }

-- After a bit that joined it.
abbrev pub joined : Packing → Frame → Place → Open
joined packing frame to = record { frame = frame; place = to; going = goes_on packing to }

-- No further bit joins it.
abbrev pub closed : Open → Open
closed f = record { frame = f.frame; place = f.place; going = false }

-- A bit joins a byte where it fits; otherwise the byte is closed.
unfoldable pub tried : Packing → Load → Open → Bool → Open
tried packing load f b =
    when (fits f.frame b) (joined packing (with f.frame b) (onward load f.place.phase f.place.index)) (closed f)

-- The next bit joins a byte that is open.
unfoldable pub more : Packing → Load → List ℕ → Open → Open
more packing load image f = when f.going (tried packing load f (sent_bit load image f.place.phase f.place.index)) f

-- So many times.
unfoldable pub filled_to : Packing → Load → List ℕ → ℕ → Open → Open
filled_to packing load image zero f = f
filled_to packing load image (suc n) f = more packing load image (filled_to packing load image n f)

-- The byte, and where the next one begins.
abbrev pub kept : Open → Filling
kept f = record { frame = f.frame; place = f.place }

unfoldable pub filled : Packing → Load → List ℕ → Place → Filling
filled packing load image place = kept (filled_to packing load image (most packing) (at_first place))

-- A pair is the bits 1, 0. The record is left at its second pulse.
unfoldable pub paired : Load → Phase → ℕ → Filling
paired load phase i = record { frame = with (with empty true) false; place = onward load phase i }

-- The byte at a place.
unfoldable pub sent_at : Packing → Load → List ℕ → Phase → ℕ → Filling
sent_at packing load image phase i = when (in_pairs phase) (paired load phase i) (filled packing load image (record { phase = phase; index = i }))
