-- Each test that a rule asks for holds or doesn't.
-- Assumes nothing.
use mathlib.Core.Bool.{Bool, true, false, true≢false}
use mathlib.Core.List.{List}
use mathlib.Core.Path.{◌≡◌, refl, sym, ap, ◌∙◌}
use Prim.Native.Nat.{ℕ, ◌≤◌, ◌<◌}
use native.Mathlib.Omega.{arith}
use lib.Dec.{ltb, eqb}
use borrow.Author.Tests.{ltb-true, ltb-false, eqb-true, eqb-false}
use Rattle.terms.proofs.Tests.{less_false}
use Rattle.eeprom.specs.Eeprom.{fault_outside, acknowledges, same}
use Rattle.eeprom.specs.declared.Fault.{Fault}
use Rattle.eeprom.specs.declared.Fault.TheVariants.{None, Accepts, Reads}
use Rattle.eeprom.proofs.Memories.{same_exactly}
use Rattle.rules.specs.Pulses.{pages}

-- A test holds or doesn't.
tested : {A : Type 0} (P : Type 0) (b : Bool) → (b ≡ true → A) → (b ≡ false → A → ⊥) → (A → P) → ((A → ⊥) → P) → P
tested P true holds fails t f = t (holds refl)
tested P false holds fails t f = f (fails refl)

pub same_number : (P : Type 0) (m n : ℕ) → (m ≡ n → P) → ((m ≡ n → ⊥) → P) → P
same_number P m n = tested P (eqb m n) (eqb-true m n) (eqb-false m n)

pub same_bit : (P : Type 0) (a b : Bool) → (a ≡ b → P) → ((a ≡ b → ⊥) → P) → P
same_bit P true true t f = t refl
same_bit P true false t f = f true≢false
same_bit P false true t f = f (λ e. true≢false (sym e))
same_bit P false false t f = t refl

by_less : (P : Type 0) (m n : ℕ) (b : Bool) → ltb m n ≡ b → (m < n → P) → (n ≤ m → P) → P
by_less P m n true e t f = t (ltb-true m n e)
by_less P m n false e t f = f (ltb-false m n e)

pub less_or_not : (P : Type 0) (m n : ℕ) → (m < n → P) → (n ≤ m → P) → P
less_or_not P m n t f = by_less P m n (ltb m n) refl t f

abbrev left_of : Fault → ℕ
left_of None = 0
left_of (Accepts n) = n
left_of (Reads v a) = 0

pub dead_or_not : (P : Type 0) (f : Fault) → (f ≡ Accepts 0 → P) → ((f ≡ Accepts 0 → ⊥) → P) → P
dead_or_not P None t f = f (λ e. true≢false (ap acknowledges e))
dead_or_not P (Accepts n) t f =
    same_number P n 0 (λ e. t (ap Accepts e)) (λ e. f (λ d. e (ap left_of d)))
dead_or_not P (Reads v a) t f = f (λ e. true≢false (ap acknowledges e))

pub not-true : (b : Bool) → (b ≡ true → ⊥) → b ≡ false
not-true true e = absurd (e refl)
not-true false e = refl

-- A fault in its range accepts at most 512 pages.
pub pages_most : (f : Fault) → fault_outside f ≡ false → pages f ≤ 512
pages_most None e = omega arith
pages_most (Accepts n) e = (less_false 512 n).0 e
pages_most (Reads v a) e = omega arith

pub same_bytes : (P : Type 0) (a b : List ℕ) → (a ≡ b → P) → ((a ≡ b → ⊥) → P) → P
same_bytes P a b = tested P (same a b) (same_exactly a b).0 (λ e d. true≢false (sym ((same_exactly a b).1 d) ∙ e))
