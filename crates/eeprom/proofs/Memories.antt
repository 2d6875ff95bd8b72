-- Laws of the two memories: what is done to one keeps its length, and two compare as the same exactly when they are equal.
-- Assumes nothing.
use mathlib.Core.Bool.{Bool, true, false, false≢true}
use mathlib.Core.List.{List, [], ◌∷◌}
use mathlib.Core.Logic.{◌↔◌}
use mathlib.Core.Path.{◌≡◌, refl, sym, ◌∙◌}
use Prim.Native.Nat.{ℕ, ◌*◌, ◌≤◌}
use native.Mathlib.Nat.{min-le_right, min-eq_left}
use native.Mathlib.Omega.{arith}
use lib.ListN.{length, take, length-take, length-set}
use lib.Dec.{eqb}
use borrow.Author.Tests.{eqb-true, eq-eqb}
use Rattle.terms.proofs.Tests.{when_elim, both_true}
use Rattle.eeprom.specs.Eeprom.{whole, reads, accepts, accepted, after, programmed, programming, same, readable, booted}
use Rattle.eeprom.specs.declared.Fault.{Fault}
use Rattle.eeprom.specs.declared.Fault.TheVariants.{None, Accepts, Reads}
use Rattle.eeprom.specs.declared.Done.{Done}
use Rattle.eeprom.proofs.Turns.{copied_length}

pub reads_length : (fault : Fault) (eeprom : List ℕ) → length (reads fault eeprom) ≡ length eeprom
reads_length None eeprom = refl
reads_length (Accepts left) eeprom = refl
reads_length (Reads v a) eeprom = length-set eeprom a.0 v

accepts_most : (fault : Fault) → accepts fault ≤ 512
accepts_most None = omega arith
accepts_most (Accepts left) = min-le_right left 512
accepts_most (Reads v a) = omega arith

-- Where both have their bytes, they are as long.
pub whole_lengths : (ram eeprom : List ℕ) → whole ram eeprom ≡ true → (length ram ≡ 32768) × (length eeprom ≡ 32768)
unfolding whole
whole_lengths ram eeprom e = let parts = (both_true _ _).0 e in (eqb-true _ _ parts.0, eqb-true _ _ parts.1)

-- What is accepted stands in both memories.
pub accepted_fits : (fault : Fault) (ram eeprom : List ℕ)
    → (accepted fault ram eeprom * 64 ≤ length ram) × (accepted fault ram eeprom * 64 ≤ length eeprom)
unfolding accepted
accepted_fits fault ram eeprom =
    when_elim (λ (n : ℕ). (n * 64 ≤ length ram) × (n * 64 ≤ length eeprom)) _ _ _
    (λ e.
    let long = whole_lengths ram eeprom e in
    let most = accepts_most fault in
    (omega (arith, long.0), omega (arith, long.1)))
    (λ e. (omega arith, omega arith))

pub accepted_of_ram : (fault : Fault) (ram eeprom : List ℕ)
    → length (take (accepted fault ram eeprom * 64) ram) ≡ accepted fault ram eeprom * 64
accepted_of_ram fault ram eeprom = length-take _ ram ∙ min-eq_left (accepted_fits fault ram eeprom).0

pub accepted_of_eeprom : (fault : Fault) (ram eeprom : List ℕ)
    → length (take (accepted fault ram eeprom * 64) eeprom) ≡ accepted fault ram eeprom * 64
accepted_of_eeprom fault ram eeprom = length-take _ eeprom ∙ min-eq_left (accepted_fits fault ram eeprom).1

pub programmed_length : (fault : Fault) (ram eeprom : List ℕ) → length (programmed fault ram eeprom) ≡ length eeprom
programmed_length fault ram eeprom =
    let fits = accepted_fits fault ram eeprom in
    copied_length ram eeprom _ fits.0 fits.1

-- What a programming tells of the pages that it wrote.
pub programming_of : (fault left : Fault) (ram eeprom : List ℕ) (pages : ℕ) → pages ≡ accepted fault ram eeprom → left ≡ after fault pages
    → ◌≡◌ {A = Done} (record { good = eqb pages 512; fault = left }) (programming fault ram eeprom)
programming_of fault left ram eeprom pages p q = rw (q, p) refl

pub readable_lengths : (fault : Fault) (ram eeprom : List ℕ) → readable fault ram eeprom ≡ true → length ram ≡ length eeprom
unfolding readable
readable_lengths fault ram eeprom e =
    let long = whole_lengths ram eeprom ((both_true _ _).0 e).0 in
    long.0 ∙ sym long.1

pub booted_length : (fault : Fault) (ram eeprom : List ℕ) → length (booted fault ram eeprom) ≡ length ram
unfolding booted
booted_length fault ram eeprom =
    when_elim (λ (l : List ℕ). length l ≡ length ram) _ _ _
    (λ e. reads_length fault eeprom ∙ sym (readable_lengths fault ram eeprom e))
    (λ e. refl)

-- Two memories compare as the same exactly when they are equal.
pub same_refl : (l : List ℕ) → same l l ≡ true
unfolding same
same_refl [] = refl
same_refl (x ∷ xs) = (both_true _ _).1 (eq-eqb x x refl, same_refl xs)

pub same_equal : (a b : List ℕ) → same a b ≡ true → a ≡ b
unfolding same
same_equal [] [] e = refl
same_equal [] (y ∷ ys) e = absurd (false≢true e)
same_equal (x ∷ xs) [] e = absurd (false≢true e)
same_equal (x ∷ xs) (y ∷ ys) e =
    let parts = (both_true _ _).0 e in
    let here : x ≡ y = eqb-true x y parts.0 in
    let rest : xs ≡ ys = same_equal xs ys parts.1 in
    cc

pub same_exactly : (a b : List ℕ) → (same a b ≡ true) ↔ (a ≡ b)
same_exactly a b = (same_equal a b, λ e. rw e (same_refl b))

decided : (a b : List ℕ) (t : Bool) → same a b ≡ t → (a ≡ b → ⊥) → t ≡ false
decided a b true e h = absurd (h (same_equal a b e))
decided a b false e h = refl

pub same_not : (a b : List ℕ) → (a ≡ b → ⊥) → same a b ≡ false
same_not a b h = decided a b (same a b) refl h
