-- 01, "What the host sends": what the line shows around a pulse, silence, 0 or 1.
-- Assumes nothing.
use Rattle.std.specs.Prelude.{ℕ, zero, suc}
use Rattle.units.specs.declared.Seen.{Seen}
use Rattle.units.specs.declared.Seen.TheVariants.{Silence, Zero, One}

pub data Line : Type 0 where
  silence : Line
  bit : ℕ → Line

abbrev pub told : Seen → Line
told Silence = silence
told Zero = bit 0
told One = bit 1

-- And back: what is seen where the line shows that.
abbrev pub seen : Line → Seen
seen silence = Silence
seen (bit zero) = Zero
seen (bit (suc n)) = One
