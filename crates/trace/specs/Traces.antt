-- 02, "Three": "The file is the number 1, then wait and low by turns to its end." Its judgement, and how it is written.
-- Assumes nothing.
use Rattle.std.specs.Prelude.{Result, Ok, Err, Bool, true, false, not, List, [], ◌∷◌, ◌++◌, ℕ, zero, suc, ◌%◌, eqb, ltb, leb, length, drop, get_or}
use Rattle.terms.specs.Choice.{when, either}
use Rattle.terms.specs.Refusals.{Row, Answer, refused, taken, ◌given-when◌, first, number}
use Rattle.terms.specs.declared.Refusal.{Refusal}
use Rattle.units.specs.declared.Bytes.{Bytes}
use Rattle.numbers.specs.Numbers.{groups, bound, Reading, found, bad, number_in, written}

-- Numbers one after the other; or one of them isn't good.
pub data Numbers : Type 0 where
  good : List ℕ → Numbers
  faulty : Numbers

abbrev pub after : ℕ → Numbers → Numbers
after v (good ns) = good (v ∷ ns)
after v faulty = faulty

abbrev pub onward : (List ℕ → Numbers) → Reading → Numbers
onward more (found v rest) = after v (more rest)
onward more bad = faulty

-- The numbers in some bytes, where there are no more than n.
unfoldable pub up_to : ℕ → ℕ → ℕ → List ℕ → Numbers
up_to g m zero [] = good []
up_to g m zero (b ∷ bytes) = faulty
up_to g m (suc n) [] = good []
up_to g m (suc n) (b ∷ bytes) = onward (up_to g m n) (number_in g m (b ∷ bytes))

-- The numbers in some bytes: there are no more of them than bytes, so that none is left out (`in_more` in proofs/Files.antt).
unfoldable pub numbers_in : ℕ → ℕ → List ℕ → Numbers
numbers_in g m bytes = up_to g m (length bytes) bytes

-- 17: an empty trace or a first byte other than 1.
abbrev pub unmarked : List ℕ → Bool
unmarked trace = not (eqb (get_or trace 0 0) 1)

-- The numbers of a file, its mark left out.
abbrev pub numbers_of : List ℕ → Numbers
numbers_of trace = numbers_in groups bound (drop 1 trace)

-- 18: a number cut short, not shortest, or too large.
abbrev pub is_faulty : Numbers → Bool
is_faulty (good ns) = false
is_faulty faulty = true

abbrev pub list_of : Numbers → List ℕ
list_of (good ns) = ns
list_of faulty = []

-- 19: a wait without its low.
abbrev pub is_odd : List ℕ → Bool
is_odd ns = not (eqb (length ns % 2) 0)

-- A file's rows, in their order.
abbrev pub file_rows : List ℕ → List Row
file_rows trace =
    17 given-when unmarked trace
    ∷ 18 given-when is_faulty (numbers_of trace)
    ∷ 19 given-when is_odd (list_of (numbers_of trace))
    ∷ []

-- The waits and lows of a file by turns, or the first row that applies.
unfoldable pub file_of : List ℕ → Answer (List ℕ)
file_of trace = first (file_rows trace) (list_of (numbers_of trace))

-- A judgement: the first row that applies, or that the file is good.
unfoldable pub judgement : List ℕ → Answer (Unit {0})
judgement trace = first (file_rows trace) tt

-- Numbers one after the other as they are written.
unfoldable pub spelt : ℕ → List ℕ → List ℕ
spelt g [] = []
spelt g (n ∷ ns) = written g n ++ spelt g ns

-- The file of some waits and lows.
abbrev pub file : List ℕ → List ℕ
file ns = 1 ∷ spelt groups ns

-- 18 for a list: one of its numbers is too large.
abbrev pub too_large : ℕ → List ℕ → Bool
too_large m [] = false
too_large m (n ∷ ns) = either (leb m n) (too_large m ns)

-- A list's rows, in their order; 27: its file doesn't fit the buffer.
abbrev pub write_rows : List ℕ → List ℕ → List Row
write_rows ns buffer =
    18 given-when too_large bound ns
    ∷ 19 given-when is_odd ns
    ∷ 27 given-when ltb (length buffer) (length (file ns))
    ∷ []

-- What writing leaves: its answer, and the buffer.
pub record Left : Type 0 where
  pub answer : Answer ℕ
  pub buffer : List ℕ

abbrev pub left : Answer ℕ → List ℕ → Left
left answer buffer = record { answer = answer; buffer = buffer }

-- A refusal writes nothing. Otherwise the file stands at the buffer's start, and bytes past it stay.
abbrev pub unless_refused : List ℕ → List ℕ → Answer ℕ → Left
unless_refused ns buffer (refused n) = left (refused n) buffer
unless_refused ns buffer (taken n) = left (taken n) (file ns ++ drop n buffer)

unfoldable pub writes : List ℕ → List ℕ → Left
writes ns buffer = unless_refused ns buffer (first (write_rows ns buffer) (length (file ns)))

-- What the answer of writing tells: the number of a refusal, otherwise the file's length.
abbrev pub told_wrote : Result Bytes Refusal → Answer ℕ
told_wrote (Err r) = refused (number r)
told_wrote (Ok length) = taken length.0

-- Number after number, as the code judges them: whether a wait is open after some, where one was or was not before them, and what that
-- comes to. It is what rows 18 and 19 come to (`verdict_rows` in proofs/Judging.antt).
abbrev pub pending : Bool → List ℕ → Bool
pending b [] = b
pending b (n ∷ ns) = pending (not b) ns

abbrev pub verdict : Bool → Numbers → Answer (Unit {0})
verdict b faulty = refused 18
verdict b (good ns) = when (pending b ns) (refused 19) (taken tt)
