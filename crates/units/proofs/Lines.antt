-- What the line shows can be told back.
-- Assumes nothing.
use mathlib.Core.Path.{◌≡◌, refl}
use Rattle.units.specs.Line.{told, seen}
use Rattle.units.specs.declared.Seen.{Seen}
use Rattle.units.specs.declared.Seen.TheVariants.{Silence, Zero, One}

pub seen_told : (s : Seen) → seen (told s) ≡ s
seen_told Silence = refl
seen_told Zero = refl
seen_told One = refl
