-- The length that goes with a command: 0 for command 0, the image's for the others.
-- Assumes nothing.
use mathlib.Core.Bool.{true, false}
use mathlib.Core.List.{List}
use mathlib.Core.Path.{◌≡◌, ap, sym}
use Prim.Native.Nat.{ℕ}
use lib.Dec.{eqb}
use lib.ListN.{length}
use Rattle.terms.specs.Refusals.{Answer, taken}
use Rattle.terms.proofs.Tests.{when_true, when_false}
use Rattle.load.specs.Load.{load_of}
use Rattle.load.specs.declared.Load.{Load}

module _ (command : ℕ) (image : List ℕ) where
  -- The load with a length of its own.
  abbrev sized : ℕ → Answer Load
  sized n = taken (record { command = command; length = record { 0 = n } })

  pub load_bare : eqb command 0 ≡ true → sized 0 ≡ taken (load_of command image)
  load_bare e = ap sized (sym (when_true 0 (length image) e))

  pub load_whole : eqb command 0 ≡ false → sized (length image) ≡ taken (load_of command image)
  load_whole e = ap sized (sym (when_false 0 (length image) e))
