-- 02, "One" and "Seven": "Pairs go as $F9"; "The calibration pair and pairs that await a reply stay $F9".
-- Assumes nothing.
use Rattle.std.specs.Prelude.{true, List, ◌≡◌, ℕ}
use Rattle.load.specs.declared.Load.{Load}
use Rattle.place.specs.declared.Phase.{Phase}
use Rattle.frames.specs.Frames.{byte_of}
use Rattle.packing.specs.Filling.{sent_at}
use Rattle.packing.specs.Phases.{in_pairs}
use Rattle.packing.specs.declared.Packing.{Packing}

-- By every packing, at every place of a phase of pairs.
abbrev pub EveryPair : Type 0
EveryPair =
    (packing : Packing) (load : Load) (image : List ℕ) (phase : Phase) (i : ℕ) → in_pairs phase ≡ true
    → byte_of (sent_at packing load image phase i).frame.lows ≡ 0xF9
