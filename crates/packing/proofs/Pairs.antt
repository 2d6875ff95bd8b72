-- At a phase of pairs the byte is the one of 1, 0, whatever the packing.
-- Assumes nothing.
use mathlib.Core.Path.{◌≡◌, refl, ap, ◌∙◌}
use Prim.Native.Nat.{ℕ}
use Rattle.terms.specs.Choice.{when}
use Rattle.terms.proofs.Tests.{when_true}
use Rattle.load.specs.declared.Load.{Load}
use Rattle.place.specs.declared.Phase.{Phase}
use Rattle.frames.specs.Frames.{fits, with, byte_of}
use Rattle.packing.specs.Filling.{paired, sent_at}
use Rattle.packing.specs.Pairs.{EveryPair}
use Rattle.packing.specs.declared.Filling.{Filling}

pair_byte : (load : Load) (phase : Phase) (i : ℕ) → byte_of (paired load phase i).frame.lows ≡ 0xF9
unfolding paired with fits when
pair_byte load phase i = refl

pub every_pair : EveryPair
unfolding sent_at
every_pair packing load image phase i e = ap (λ (f : Filling). byte_of f.frame.lows) (when_true _ _ e) ∙ pair_byte load phase i
