-- 02, "Seven": for each run by itself, "no sequence of serial bytes whose low runs are one or two bit times, and spell that run's bits, is
-- shorter" than the bytes that are filled with it.
-- Assumes nothing.
use Rattle.std.specs.Prelude.{Bool, true, false, List, [], ◌∷◌, ◌++◌, map, ◌≡◌, ℕ, ◌≤◌, ◌<◌, length}
use Rattle.load.specs.Load.{load_outside}
use Rattle.load.specs.declared.Load.{Load}
use Rattle.follow.specs.Follow.{opened}
use Rattle.place.specs.declared.Phase.{Phase}
use Rattle.place.specs.declared.Place.{Place}
use Rattle.frames.specs.Frames.{byte_of}
use Rattle.frames.specs.LowRuns.{low_runs, run}
use Rattle.packing.specs.Filling.{sent_at}
use Rattle.packing.specs.Phases.{in_bits}
use Rattle.packing.specs.Runs.{Run}
use Rattle.packing.specs.declared.Filling.{Filling}
use Rattle.packing.specs.declared.Packing.TheVariants.{Fewest}

-- The low runs of some bytes, one after the other, each by its own ten bit times.
unfoldable pub runs_in : List ℕ → List ℕ
runs_in [] = []
runs_in (b ∷ bytes) = low_runs b ++ runs_in bytes

-- Each of them is a byte.
unfoldable pub Bytes : List ℕ → Type 0
Bytes [] = Unit {0}
Bytes (b ∷ bytes) = (b < 256) × Bytes bytes

-- They spell some bits, one bit time for a 1 and two for a 0.
pub record Spells (bits : List Bool) (bytes : List ℕ) : Type 0 where
  pub are : Bytes bytes
  pub spell : runs_in bytes ≡ map run bits

-- They do, and whatever others do are no fewer.
pub record Least (bits : List Bool) (bytes : List ℕ) : Type 0 where
  pub spells : Spells bits bytes
  pub fewest : (others : List ℕ) → Spells bits others → length bytes ≤ length others

module _ (load : Load) (image : List ℕ) where
  abbrev pub filled_at : Place → Filling
  filled_at p = sent_at Fewest load image p.phase p.index

  -- Bytes that are filled one after the other, each from where the one before was left, while bits follow.
  pub data Fills : Place → List ℕ → Place → Type 0 where
    done : (p : Place) → Fills p [] p
    fills : (p : Place) (bytes : List ℕ) (left : Place) → in_bits p.phase ≡ true → Fills (filled_at p).place bytes left
        → Fills p (byte_of (filled_at p).frame.lows ∷ bytes) left

  -- A run is filled to its end, by the fewest bytes.
  pub record Packed (first : Phase) (bits : List Bool) : Type 0 where
    pub bytes : List ℕ
    pub left : Place
    pub filled : Fills (opened first) bytes left
    pub over : in_bits left.phase ≡ false
    pub least : Least bits bytes

-- Each run of each load within its ranges; the same image throughout.
abbrev pub EveryRunPacked : Type 0
EveryRunPacked =
    (load : Load) (image : List ℕ) (first : Phase) (bits : List Bool) → load_outside load ≡ false → Run load image first bits
    → Packed load image first bits
