-- 02, "Three": "Numbers are in groups of seven bits, lowest group first, top bit set when more follow, shortest form only, at most five
-- groups and below 2^32."
-- Assumes nothing.
use Rattle.std.specs.Prelude.{Result, Ok, Err, List, [], ◌∷◌, ℕ, zero, suc, ◌+◌, ◌-◌, ◌*◌, ◌/◌, ◌%◌, eqb, ltb, leb, length, drop}
use Rattle.terms.specs.Choice.{when}
use Rattle.numbers.specs.declared.Number.{Number}
use Rattle.numbers.specs.declared.NoNumber.{NoNumber}
use Rattle.numbers.specs.declared.NoNumber.TheVariants.{End, Bad}

-- At most five groups.
abbrev pub groups : ℕ
groups = 5

-- Below 2^32.
abbrev pub bound : ℕ
bound = 4294967296

-- A number and the bytes after it; or none that is good.
pub data Reading : Type 0 where
  found : ℕ → List ℕ → Reading
  bad : Reading

-- A group below others: in the shortest form what follows isn't 0.
unfoldable pub above : ℕ → ℕ → List ℕ → Reading
above low v rest = when (eqb v 0) bad (found (low + v * 128) rest)

abbrev pub longer : ℕ → Reading → Reading
longer low (found v rest) = above low v rest
longer low bad = bad

-- The number at the front, of at most g groups. A byte of 128 or more has its top bit set: the group is what is left without it.
unfoldable pub number : ℕ → List ℕ → Reading
number zero bytes = bad
number (suc g) [] = bad
number (suc g) (b ∷ bytes) = when (ltb b 128) (found b bytes) (longer (b - 128) (number g bytes))

-- The same, where it is below m.
abbrev pub below : ℕ → Reading → Reading
below m (found v rest) = when (ltb v m) (found v rest) bad
below m bad = bad

unfoldable pub number_in : ℕ → ℕ → List ℕ → Reading
number_in g m bytes = below m (number g bytes)

-- A number as it is written.
unfoldable pub written : ℕ → ℕ → List ℕ
written zero v = []
written (suc g) v = when (ltb v 128) (v ∷ []) ((v % 128 + 128) ∷ written g (v / 128))

-- A number, and the place after it in a trace of so many bytes, of which the bytes after it are the last (`number_tail` in
-- proofs/Tails.antt).
abbrev pub placed : ℕ → Reading → Result Number NoNumber
placed size (found v rest) = Ok (record { value = v; next = record { 0 = size - length rest } })
placed size bad = Err Bad

-- What stands at a place of a trace.
unfoldable pub number_at : ℕ → ℕ → List ℕ → ℕ → Result Number NoNumber
number_at g m trace at = when (leb (length trace) at) (Err End) (placed (length trace) (number_in g m (drop at trace)))

-- A number whose groups are read, and which ends before a place: as the code finds it (`at_found` in proofs/Going.antt).
abbrev pub limited : ℕ → ℕ → ℕ → Result Number NoNumber
limited m v next = when (ltb v m) (Ok (record { value = v; next = record { 0 = next } })) (Err Bad)
