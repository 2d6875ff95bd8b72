-- 01, "Refusal numbers": rows of a number and when it is given, checked in their order; the first that applies is given.
-- Assumes nothing.
use Rattle.std.specs.Prelude.{ℕ, Bool, true, false, List, [], ◌∷◌, ◌⊎◌, ◌≡◌, Result, Ok, Err}
use Rattle.terms.specs.Choice.{when}
use Rattle.terms.specs.declared.Refusal.{Refusal}
use Rattle.terms.specs.declared.Refusal.TheVariants.{UnitTime, Spacer, Tick, Command, Length, NamedLength, Start, Stack, Sum, Ram, Eeprom, Fault}
use Rattle.terms.specs.declared.Refusal.TheVariants.{Record, Ended, Reply, Slow, Mark, Number, LoneWait, Room}

-- The number of each refusal: 1 to 14 are 01's, the others 02's.
abbrev pub number : Refusal → ℕ
number UnitTime = 1
number Spacer = 2
number Tick = 3
number Command = 4
number Length = 5
number NamedLength = 6
number Start = 7
number Stack = 8
number Sum = 9
number Ram = 10
number Eeprom = 11
number Fault = 12
number Record = 13
number Ended = 14
number Reply = 15
number Slow = 16
number Mark = 17
number Number = 18
number LoneWait = 19
number Room = 27

infix 70 ◌given-when◌
-- A row of the table.
pub record Row : Type 0 where
  pub number : ℕ
  pub applies : Bool

abbrev pub ◌given-when◌ : ℕ → Bool → Row
n given-when b = record { number = n; applies = b }

-- What a call that may refuse tells: the number of its refusal, or what it hands back.
pub data Answer (A : Type 0) : Type 0 where
  refused : ℕ → Answer A
  taken : A → Answer A

-- What a call's answer tells.
abbrev pub told : {A : Type 0} → Result A Refusal → Answer A
told (Err r) = refused (number r)
told (Ok a) = taken a

-- The number of the first row that applies; where none does, the call is taken.
abbrev pub first : {A : Type 0} → List Row → A → Answer A
first [] a = taken a
first (r ∷ rows) a = when r.applies (refused r.number) (first rows a)

-- Row n applies, and no row before it.
abbrev pub Given : ℕ → List Row → Type 0
Given n [] = ⊥
Given n (r ∷ rows) = ((r.number ≡ n) × (r.applies ≡ true)) ⊎ ((r.applies ≡ false) × Given n rows)
