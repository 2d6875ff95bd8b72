-- Laws of refusal tables. `refused_exactly` and `taken_exactly`: a number is given exactly when its row applies and no row before it
-- does, and a call is taken exactly when no row applies. `walk` closes a return of a function that checks its rows in order.
-- Assumes nothing.
use Prim.Native.Nat.{ℕ}
use mathlib.Core.Bool.{Bool, true, false, not}
use mathlib.Core.List.{List, [], ◌∷◌, ◌++◌, append-nil}
use mathlib.Core.Logic.{inl, inr, ◌↔◌}
use mathlib.Core.Path.{◌≡◌, refl, sym, ap, ◌∙◌}
use native.Mathlib.Omega.{arith}
use lib.Dec.{eqb}
use borrow.Author.Tests.{lt-ltb, le-ltb, le-leb, lt-leb, eq-eqb, ne_eqb}
use Rattle.terms.specs.Choice.{when, both, either}
use Rattle.terms.proofs.Tests.{when_true, when_false, either_true, differ_true, differ_false}
use Rattle.terms.specs.Refusals.{Row, Answer, refused, taken, ◌given-when◌, first, Given}

-- No row applies.
abbrev pub Clear : List Row → Type 0
Clear [] = Unit {0}
Clear (r ∷ rows) = (r.applies ≡ false) × Clear rows

pub not_both : {A : Type 0} {n : ℕ} {x : A} → refused n ≡ taken x → ⊥
not_both e = let z : ◌≡◌ {A = ℕ} 0 1 = cc in omega arith

module _ {A : Type 0} (a : A) where
  refused_row : (n m : ℕ) (b : Bool) (rows : List Row) → (first rows a ≡ refused n → Given n rows)
      → when b (refused m) (first rows a) ≡ refused n → Given n (m given-when b ∷ rows)
  unfolding when
  refused_row n m true rows f e = inl (cc, refl)
  refused_row n m false rows f e = inr (refl, f e)

  refused_given : (n : ℕ) (rows : List Row) → first rows a ≡ refused n → Given n rows
  refused_given n [] e = not_both (sym e)
  refused_given n (r ∷ rows) e = refused_row n r.number r.applies rows (refused_given n rows) e

  given_refused : (n : ℕ) (rows : List Row) → Given n rows → first rows a ≡ refused n
  given_refused n [] g = absurd g
  given_refused n (r ∷ rows) (inl p) = when_true _ _ p.1 ∙ ap refused p.0
  given_refused n (r ∷ rows) (inr p) = when_false _ _ p.0 ∙ given_refused n rows p.1

  pub refused_exactly : (n : ℕ) (rows : List Row) → (first rows a ≡ refused n) ↔ Given n rows
  refused_exactly n rows = (refused_given n rows, given_refused n rows)

  taken_row : (x : A) (m : ℕ) (b : Bool) (rows : List Row) → (first rows a ≡ taken x → Clear rows × (x ≡ a))
      → when b (refused m) (first rows a) ≡ taken x → Clear (m given-when b ∷ rows) × (x ≡ a)
  unfolding when
  taken_row x m true rows f e = absurd (not_both e)
  taken_row x m false rows f e = let g = f e in ((refl, g.0), g.1)

  taken_clear : (x : A) (rows : List Row) → first rows a ≡ taken x → Clear rows × (x ≡ a)
  taken_clear x [] e = (tt, cc)
  taken_clear x (r ∷ rows) e = taken_row x r.number r.applies rows (taken_clear x rows) e

  -- Past rows that do not apply, the others decide.
  passed_by : (more rows : List Row) → Clear rows → first (rows ++ more) a ≡ first more a
  passed_by more [] c = refl
  passed_by more (r ∷ rows) c = when_false _ _ c.0 ∙ passed_by more rows c.1

  pub clear_taken : (rows : List Row) → Clear rows → first rows a ≡ taken a
  clear_taken rows c = rw append-nil at (passed_by [] rows c)

  pub taken_exactly : (x : A) (rows : List Row) → (first rows a ≡ taken x) ↔ (Clear rows × (x ≡ a))
  taken_exactly x rows = (taken_clear x rows, λ c. clear_taken rows c.0 ∙ ap taken (sym c.1))

-- Rows followed by more: what they refuse stays refused.
module _ (more : List Row) where
  given_before : (n : ℕ) (rows : List Row) → Given n rows → Given n (rows ++ more)
  given_before n [] g = absurd g
  given_before n (r ∷ rows) (inl p) = inl p
  given_before n (r ∷ rows) (inr p) = inr (p.0, given_before n rows p.1)

  pub clear_both : (rows : List Row) → Clear (rows ++ more) → Clear rows × Clear more
  clear_both [] c = (tt, c)
  clear_both (r ∷ rows) c = let p = clear_both rows c.1 in ((c.0, p.0), p.1)

  module _ {A B : Type 0} (a : A) (b : B) where
    pub refused_before : (n : ℕ) (rows : List Row) → first rows a ≡ refused n → first (rows ++ more) b ≡ refused n
    refused_before n rows e = given_refused b n (rows ++ more) (given_before n rows (refused_given a n rows e))

    pub taken_before : (x : A) (rows : List Row) → first rows a ≡ taken x → (first (rows ++ more) b ≡ first more b) × (x ≡ a)
    taken_before x rows e = let p = taken_clear a x rows e in (passed_by b more rows p.0, p.1)

-- Rows refuse the same, and let the same pass, whatever the call hands back.
module _ {A B : Type 0} (rows : List Row) (a : A) (b : B) where
  pub refused_alike : (n : ℕ) → first rows a ≡ refused n → first rows b ≡ refused n
  refused_alike n e = given_refused b n rows (refused_given a n rows e)

  pub taken_alike : (x : A) → first rows a ≡ taken x → (first rows b ≡ taken b) × (x ≡ a)
  taken_alike x e = let p = taken_clear a x rows e in (clear_taken b rows p.0, p.1)

-- The steps of a walk through a table: a row that applies is the answer, and one that does not is passed.
pub row_given : {A : Type 0} (b : Bool) (r x y : A) → b ≡ true → r ≡ x → r ≡ when b x y
unfolding when
row_given b r x y e p = rw e p

pub row_passed : {A : Type 0} (b : Bool) (r x y : A) → b ≡ false → r ≡ y → r ≡ when b x y
unfolding when
row_passed b r x y e p = rw e p

-- The same where the rows themselves go by a test.
pub rows_here : {A : Type 0} (b : Bool) (r : Answer A) (xs ys : List Row) (a : A) → b ≡ true → r ≡ first xs a → r ≡ first (when b xs ys) a
unfolding when
rows_here b r xs ys a e p = rw e p

pub rows_there : {A : Type 0} (b : Bool) (r : Answer A) (xs ys : List Row) (a : A) → b ≡ false → r ≡ first ys a → r ≡ first (when b xs ys) a
unfolding when
rows_there b r xs ys a e p = rw e p

-- The same in a row of several tests.
pub either_here : (a b : Bool) → a ≡ true → true ≡ either a b
either_here a b e = sym ((either_true a b).1 (inl e))

pub either_passed : (a b r : Bool) → a ≡ false → r ≡ b → r ≡ either a b
unfolding either
either_passed a b r e p = rw e p

pub both_failed : (a b : Bool) → a ≡ false → false ≡ both a b
unfolding both
both_failed a b e = rw e refl

pub both_passed : (a b r : Bool) → a ≡ true → r ≡ b → r ≡ both a b
unfolding both
both_passed a b r e p = rw e p

-- What a function answered of a test, once its answer is known.
pub answered : (r b v : Bool) → r ≡ b → r ≡ v → b ≡ v
answered r b v p q = sym p ∙ q

-- The halves of `differ_true` and `differ_false` that a walk takes: a set's entries are lemmas by name.
pub differs : (m n : ℕ) → (m ≡ n → ⊥) → not (eqb m n) ≡ true
differs m n = (differ_true m n).1

pub agrees : (m n : ℕ) → m ≡ n → not (eqb m n) ≡ false
agrees m n = (differ_false m n).1

pub ruleset walk =
    (row_given, row_passed, rows_here, rows_there, either_here, either_passed, both_failed, both_passed, answered, differs, agrees, lt-ltb, le-ltb, le-leb, lt-leb, eq-eqb, ne_eqb)
