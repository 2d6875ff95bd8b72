-- Laws of tests: what a choice gives once its test is known, and what a joined test says of its parts.
-- Assumes nothing.
use mathlib.Core.Bool.{Bool, true, false, not, true≢false, false≢true}
use mathlib.Core.Logic.{◌⊎◌, inl, inr, ⊎_map, ◌↔◌}
use mathlib.Core.Path.{◌≡◌, refl, ap}
use Prim.Native.Nat.{ℕ, ◌<◌, ◌≤◌}
use lib.Dec.{ltb, eqb}
use borrow.Author.Tests.{ltb-true, ltb-false, eqb-true, eqb-false, lt-ltb, le-ltb, eq-eqb, ne_eqb, not-true, not-false}
use Rattle.terms.specs.Choice.{when, both, either}

pub when_true : {A : Type 0} {b : Bool} (x y : A) → b ≡ true → when b x y ≡ x
unfolding when
when_true x y e = rw e

pub when_false : {A : Type 0} {b : Bool} (x y : A) → b ≡ false → when b x y ≡ y
unfolding when
when_false x y e = rw e

-- What holds of both, where its test allows it, holds of the choice.
pub when_elim : {A : Type 0} (P : A → Type 0) (b : Bool) (x y : A) → (b ≡ true → P x) → (b ≡ false → P y) → P (when b x y)
unfolding when
when_elim P true x y t f = t refl
when_elim P false x y t f = f refl

pub both_true : (a b : Bool) → (both a b ≡ true) ↔ ((a ≡ true) × (b ≡ true))
unfolding both
both_true true b = ((λ e. (refl, e)), (λ p. p.1))
both_true false b = ((λ e. absurd (false≢true e)), (λ p. absurd (false≢true p.0)))

pub either_true : (a b : Bool) → (either a b ≡ true) ↔ ((a ≡ true) ⊎ (b ≡ true))
unfolding either
either_true true b = ((λ e. inl refl), (λ p. refl))
either_true false b = (inr, elim [ inl e ↦ absurd (false≢true e) | inr e ↦ e ])

-- The same, where each test says something else.
pub either_says : {A B : Type 0} (a b : Bool) → (a ≡ true) ↔ A → (b ≡ true) ↔ B → (either a b ≡ true) ↔ (A ⊎ B)
either_says a b p q =
    ((λ e. ⊎_map p.0 q.0 ((either_true a b).0 e)), (λ s. (either_true a b).1 (⊎_map p.1 q.1 s)))

pub either_false : (a b : Bool) → (either a b ≡ false) ↔ ((a ≡ false) × (b ≡ false))
unfolding either
either_false true b = ((λ e. absurd (true≢false e)), (λ p. absurd (true≢false p.0)))
either_false false b = ((λ e. (refl, e)), (λ p. p.1))

-- What the tests of two numbers say of them.
module _ (m n : ℕ) where
  pub less_true : (ltb m n ≡ true) ↔ (m < n)
  less_true = (ltb-true m n, lt-ltb m n)

  pub less_false : (ltb m n ≡ false) ↔ (n ≤ m)
  less_false = (ltb-false m n, le-ltb m n)

  pub differ_true : (not (eqb m n) ≡ true) ↔ (m ≡ n → ⊥)
  differ_true = ((λ e. eqb-false m n (not-true _ e)), (λ h. ap not (ne_eqb m n h)))

  pub differ_false : (not (eqb m n) ≡ false) ↔ (m ≡ n)
  differ_false = ((λ e. eqb-true m n (not-false _ e)), (λ h. ap not (eq-eqb m n h)))
