-- What is written reads as what it was, and what reads well is as it is written: over the number of groups.
-- Assumes nothing.
use mathlib.Core.Bool.{Bool, true, false, false≢true}
use mathlib.Core.List.{List, [], ◌∷◌, ◌++◌}
use mathlib.Core.Path.{◌≡◌, refl, sym, ap, ◌∙◌, subst}
use Prim.Native.Nat.{ℕ, zero, suc, ◌+◌, ◌-◌, ◌*◌, ◌/◌, ◌%◌, ◌^◌, ◌≤◌, ◌<◌}
use native.Mathlib.Nat.{pow-suc}
use native.Mathlib.Omega.{arith}
use borrow.Author.Tests.{lt-ltb, le-ltb, ltb-true, ltb-false, ne_eqb, eqb-false}
use lib.Dec.{eqb, ltb}
use lib.Pow.{are_bytes}
use Rattle.terms.specs.Choice.{when}
use Rattle.terms.proofs.Tests.{when_true, when_false}
use Rattle.numbers.specs.Numbers.{Reading, found, bad, above, longer, number, written}
use Rattle.numbers.proofs.Written.{written_one, written_more}

abbrev is_bad : Reading → Type 0
is_bad bad = Unit {0}
is_bad (found v rest) = ⊥

pub not_bad : {v : ℕ} {rest : List ℕ} → bad ≡ found v rest → ⊥
not_bad e = subst is_bad e tt

abbrev value_in : Reading → ℕ
value_in (found v rest) = v
value_in bad = 0

abbrev pub rest_in : Reading → List ℕ
rest_in (found v rest) = rest
rest_in bad = []

-- One group.
pub number_one : (g b : ℕ) (bytes : List ℕ) → b < 128 → number (suc g) (b ∷ bytes) ≡ found b bytes
unfolding number
number_one g b bytes h = when_true _ _ (lt-ltb b 128 h)

-- A group below others.
pub number_more : (g b : ℕ) (bytes : List ℕ) → 128 ≤ b → number (suc g) (b ∷ bytes) ≡ longer (b - 128) (number g bytes)
unfolding number
number_more g b bytes h = when_false _ _ (le-ltb b 128 h)

-- What is written reads as what it was, and the rest stays.
module _ (g v : ℕ) (rest : List ℕ) where
  one_reads : v < 128 → number (suc g) (written (suc g) v ++ rest) ≡ found v rest
  one_reads h = ap (λ (l : List ℕ). number (suc g) (l ++ rest)) (written_one g v h) ∙ number_one g v rest h

  more_reads : 128 ≤ v → number g (written g (v / 128) ++ rest) ≡ found (v / 128) rest → number (suc g) (written (suc g) v ++ rest) ≡ found v rest
  unfolding above
  more_reads h e =
      let high : 128 ≤ v % 128 + 128 = omega arith in
      let some : v / 128 ≡ 0 → ⊥ = λ z. omega (arith, z, h) in
      let whole : v % 128 + 128 - 128 + v / 128 * 128 ≡ v = omega arith in
      ap (λ (l : List ℕ). number (suc g) (l ++ rest)) (written_more g v h)
      ∙ number_more g (v % 128 + 128) (written g (v / 128) ++ rest) high
      ∙ ap (longer (v % 128 + 128 - 128)) e
      ∙ when_false _ _ (ne_eqb (v / 128) 0 some)
      ∙ ap (λ (n : ℕ). found n rest) whole

  either_reads : (b : Bool) → ltb v 128 ≡ b → (128 ≤ v → number g (written g (v / 128) ++ rest) ≡ found (v / 128) rest)
      → number (suc g) (written (suc g) v ++ rest) ≡ found v rest
  either_reads true e f = one_reads (ltb-true v 128 e)
  either_reads false e f = let h = ltb-false v 128 e in more_reads h (f h)

pub written_number : (g v : ℕ) (rest : List ℕ) → v < 128 ^ suc g → number (suc g) (written (suc g) v ++ rest) ≡ found v rest
written_number zero v rest h =
    let p : 128 ^ 1 ≡ 128 = refl in
    either_reads 0 v rest (ltb v 128) refl (λ q. absurd (omega (arith, h, p, q)))
written_number (suc g) v rest h =
    let p : 128 ^ suc (suc g) ≡ 128 ^ suc g * 128 = pow-suc 128 (suc g) in
    either_reads (suc g) v rest (ltb v 128) refl (λ q.
    let less : v / 128 < 128 ^ suc g = omega (arith, h, p) in
    written_number g (v / 128) rest less)

-- The first of some bytes, and the others.
first_by : (b : ℕ) (t : Bool) (bytes : List ℕ) → ltb b 256 ≡ t → are_bytes (b ∷ bytes) ≡ true → (b < 256) × (are_bytes bytes ≡ true)
first_by b true bytes q e = (ltb-true b 256 q, rw q at e)
first_by b false bytes q e = absurd (false≢true (rw q at e))

pub first_byte : (b : ℕ) (bytes : List ℕ) → are_bytes (b ∷ bytes) ≡ true → (b < 256) × (are_bytes bytes ≡ true)
first_byte b bytes e = first_by b (ltb b 256) bytes refl e

-- What reads well is as it is written.
module _ (g b : ℕ) (bytes : List ℕ) (byte : b < 256)
    (same : (v : ℕ) (rest : List ℕ) → number g bytes ≡ found v rest → bytes ≡ written g v ++ rest) (v : ℕ) (rest : List ℕ) where
  one_group : b < 128 → found b bytes ≡ found v rest → b ∷ bytes ≡ written (suc g) v ++ rest
  one_group h e =
      let value : b ≡ v = ap value_in e in
      let tail : bytes ≡ rest = ap rest_in e in
      let small : v < 128 = omega (arith, h, value) in
      ap (λ (x : ℕ). x ∷ bytes) value ∙ ap (λ (l : List ℕ). v ∷ l) tail ∙ ap (λ (l : List ℕ). l ++ rest) (sym (written_one g v small))

  not_zero : (w : ℕ) (r : List ℕ) (t : Bool) → eqb w 0 ≡ t → 128 ≤ b → number g bytes ≡ found w r
      → when t bad (found (b - 128 + w * 128) r) ≡ found v rest → b ∷ bytes ≡ written (suc g) v ++ rest
  unfolding when
  not_zero w r true z h q e = absurd (not_bad e)
  not_zero w r false z h q e =
      let some : w ≡ 0 → ⊥ = eqb-false w 0 z in
      let value : b - 128 + w * 128 ≡ v = ap value_in e in
      let tail : r ≡ rest = ap rest_in e in
      let low : v % 128 + 128 ≡ b = omega (arith, value, h, byte) in
      let high : v / 128 ≡ w = omega (arith, value, h, byte) in
      let large : 128 ≤ v = omega (arith, value, some) in
      ap (λ (l : List ℕ). b ∷ l) (same w r q ∙ ap (λ (l : List ℕ). written g w ++ l) tail)
      ∙ ap (λ (x : ℕ). x ∷ (written g w ++ rest)) (sym low)
      ∙ ap (λ (x : ℕ). (v % 128 + 128) ∷ (written g x ++ rest)) (sym high)
      ∙ ap (λ (l : List ℕ). l ++ rest) (sym (written_more g v large))

  longer_group : (x : Reading) → number g bytes ≡ x → 128 ≤ b → longer (b - 128) x ≡ found v rest → b ∷ bytes ≡ written (suc g) v ++ rest
  unfolding above
  longer_group (found w r) q h e = not_zero w r (eqb w 0) refl h q e
  longer_group bad q h e = absurd (not_bad e)

  either_group : (t : Bool) → ltb b 128 ≡ t → when t (found b bytes) (longer (b - 128) (number g bytes)) ≡ found v rest
      → b ∷ bytes ≡ written (suc g) v ++ rest
  unfolding when
  either_group true z e = one_group (ltb-true b 128 z) e
  either_group false z e = longer_group (number g bytes) refl (ltb-false b 128 z) e

pub number_written : (g : ℕ) (bytes : List ℕ) → are_bytes bytes ≡ true → (v : ℕ) (rest : List ℕ) → number g bytes ≡ found v rest
    → bytes ≡ written g v ++ rest
unfolding number
number_written zero bytes all v rest e = absurd (not_bad e)
number_written (suc g) [] all v rest e = absurd (not_bad e)
number_written (suc g) (b ∷ bytes) all v rest e =
    let byte = first_byte b bytes all in
    either_group g b bytes byte.0 (λ w r q. number_written g bytes byte.1 w r q) v rest (ltb b 128) refl e
