-- What the name of a setting is: 1 to 12 bytes that may be named.
-- Assumes nothing.
use Rattle.std.specs.Prelude.{true, Some, Ok, List, ◌≡◌, ℕ, ◌≤◌, length}
use Rattle.entries.specs.Entries.{word_bytes, is_name, entry_of}
use Rattle.entries.specs.declared.Bench.{Bench}

pub record Named : Type 0 where
  pub some : (line : List ℕ) (bench : Bench) → entry_of line ≡ Ok (Some bench) → 1 ≤ length (word_bytes line 0)
  pub short : (line : List ℕ) (bench : Bench) → entry_of line ≡ Ok (Some bench) → length (word_bytes line 0) ≤ 12
  pub allowed : (line : List ℕ) (bench : Bench) → entry_of line ≡ Ok (Some bench) → is_name (word_bytes line 0) ≡ true
