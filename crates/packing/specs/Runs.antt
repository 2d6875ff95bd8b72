-- 02, "Seven": the runs, each with its bits: the handshake; "command, size and image form one run"; the zeros after a wrong version.
-- Assumes nothing.
use Rattle.std.specs.Prelude.{Bool, List, [], ◌∷◌, ◌++◌, ℕ, zero, suc, ◌+◌, eqb}
use Rattle.terms.specs.Choice.{when}
use Rattle.load.specs.declared.Load.{Load}
use Rattle.bits.specs.Bits.{sent_bit}
use Rattle.place.specs.Phases.{places}
use Rattle.place.specs.declared.Phase.{Phase}
use Rattle.place.specs.declared.Phase.TheVariants.{Handshake, Command, Zeros, Size, Image}

-- So many bits of a phase, from number i on.
unfoldable pub bits_from : Load → List ℕ → Phase → ℕ → ℕ → List Bool
bits_from load image phase i zero = []
bits_from load image phase i (suc n) = sent_bit load image phase i ∷ bits_from load image phase (i + 1) n

-- All bits of a phase.
abbrev pub bits_of : Load → List ℕ → Phase → List Bool
bits_of load image phase = bits_from load image phase 0 (places load phase)

-- A run's first phase, and its bits. Command 0 has no size and no image.
pub data Run (load : Load) (image : List ℕ) : Phase → List Bool → Type 0 where
  handshake : Run load image Handshake (bits_of load image Handshake)
  command : Run load image Command (when (eqb load.command 0) (bits_of load image Command)
      (bits_of load image Command ++ (bits_of load image Size ++ bits_of load image Image)))
  zeros : Run load image Zeros (bits_of load image Zeros)
