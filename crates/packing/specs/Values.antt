-- 02, "One": "three bits a byte, where a 32-bit value takes 11 bytes".
-- Assumes nothing.
use Rattle.std.specs.Prelude.{true, List, ◌≡◌, ℕ, ◌+◌, ◌*◌, ◌<◌}
use Rattle.load.specs.declared.Load.{Load}
use Rattle.follow.specs.Follow.{opened, after}
use Rattle.place.specs.Phases.{places}
use Rattle.place.specs.declared.Phase.{Phase}
use Rattle.packing.specs.Filling.{sent_at}
use Rattle.packing.specs.Phases.{in_bits}
use Rattle.packing.specs.declared.Packing.TheVariants.{Three}

-- Ten bytes lead three bits on each, and the one from bit 30 on leads to what follows the value.
pub record ElevenBytes (load : Load) (image : List ℕ) (phase : Phase) : Type 0 where
  pub ten : (k : ℕ) → k < 10 → (sent_at Three load image phase (k * 3)).place ≡ record { phase = phase; index = (k + 1) * 3 }
  pub eleventh : (sent_at Three load image phase 30).place ≡ opened (after load phase)

-- Each phase of 32 bits: the command, the zeros after a wrong version, the size.
abbrev pub EveryValue : Type 0
EveryValue = (load : Load) (image : List ℕ) (phase : Phase) → in_bits phase ≡ true → places load phase ≡ 32 → ElevenBytes load image phase
