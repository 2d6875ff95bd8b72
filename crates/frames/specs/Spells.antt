-- 02, "One" and "Seven": the bytes that it names, and that every byte spells the bits that it was filled with.
-- Assumes nothing.
use Rattle.std.specs.Prelude.{Bool, true, false, List, [], ◌∷◌, map, ◌≡◌, ℕ, ◌+◌, ◌≤◌}
use Rattle.frames.specs.Frames.{width, empty, with, byte_of}
use Rattle.frames.specs.LowRuns.{low_runs, run}
use Rattle.frames.specs.declared.Frame.{Frame}

-- A frame with some bits more.
unfoldable pub laid : Frame → List Bool → Frame
laid f [] = f
laid f (b ∷ bits) = laid (with f b) bits

-- The byte of some bits.
abbrev pub byte_with : List Bool → ℕ
byte_with bits = byte_of (laid empty bits).lows

-- The bit times that they use.
unfoldable pub widths : List Bool → ℕ
widths [] = 0
widths (b ∷ bits) = width b + widths bits

pub record EveryFrame : Type 0 where
  -- "$FE is 0, $FF is 1"; "Pairs go as $F9"; "$55 carries five ones".
  pub zero : byte_with (false ∷ []) ≡ 0xFE
  pub one : byte_with (true ∷ []) ≡ 0xFF
  pub pair : byte_with (true ∷ false ∷ []) ≡ 0xF9
  pub five_ones : byte_with (true ∷ true ∷ true ∷ true ∷ true ∷ []) ≡ 0x55
  -- Whatever bits fit, one at least, the byte's low runs are theirs.
  pub spells : (b : Bool) (bits : List Bool) → widths (b ∷ bits) ≤ 10 → low_runs (byte_with (b ∷ bits)) ≡ map run (b ∷ bits)
