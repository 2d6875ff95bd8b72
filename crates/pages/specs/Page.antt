-- 01, "Host joined to chip": page k of either memory.
-- Assumes nothing.
use Rattle.std.specs.Prelude.{Bool, List, [], ℕ, ◌+◌, ◌*◌, ltb, eqb, length, take, drop}
use Rattle.terms.specs.Choice.{when, both}
use Rattle.pages.specs.declared.Memory.{Memory}
use Rattle.pages.specs.declared.Memory.TheVariants.{Ram, Eeprom}

-- The one that is chosen.
abbrev pub chosen : {A : Type 0} → Memory → A → A → A
chosen Ram ram eeprom = ram
chosen Eeprom ram eeprom = eeprom

-- There is a page k: k is 0 to 511, and the memory has its 32,768 bytes.
unfoldable pub has_page : ℕ → List ℕ → Bool
has_page k memory = both (eqb (length memory) 32768) (ltb k 512)

-- Its 64 bytes, or none.
unfoldable pub page_bytes : ℕ → List ℕ → List ℕ
page_bytes k memory = when (has_page k memory) (take 64 (drop (k * 64) memory)) []

-- Where it starts: a memory lies at a place of a block. An empty page starts with the memory.
unfoldable pub page_start : ℕ → ℕ × ℕ → List ℕ → ℕ × ℕ
page_start k place memory = (place.0, place.1 + when (has_page k memory) (k * 64) 0)
