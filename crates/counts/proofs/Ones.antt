-- The ones among bits: those of a number are what a processor counts, and those of an image's bits are those of its bytes.
-- Assumes nothing.
use mathlib.Core.Bool.{Bool}
use mathlib.Core.List.{List, [], ◌∷◌}
use mathlib.Core.Path.{◌≡◌, refl, ap, ap₂, ◌∙◌}
use Prim.Native.Nat.{ℕ, zero, suc, ◌+◌, ◌*◌, ◌/◌, ◌%◌, ◌^◌, ◌≤◌, ◌<◌}
use native.Mathlib.Omega.{arith}
use native.Mathlib.Nat.{add-zero, pow-suc}
use lib.Count as counts
use lib.Dec.{eqb}
use lib.ListN.{length, get_or}
use lib.Pow.{shr-shr}
use borrow.Author.Tests.{eqb-true, eqb-false}
use Rattle.std.specs.List.{sum_by}
use Rattle.std.proofs.lemmas.List.Recursion.{is_sum_by}
use Rattle.terms.specs.Choice.{when}
use Rattle.terms.proofs.Tests.{when_elim}
use Rattle.lent.specs.Bytes.{total}
use Rattle.sequence.specs.Sequence.{draw, state, advanced}
use Rattle.bits.specs.Bits.{value_bit, image_bit}
use Rattle.counts.specs.Counts.{ones_from, byte_ones, image_ones}

pub ones_most : (bit : ℕ → Bool) (i n : ℕ) → ones_from bit i n ≤ n
unfolding ones_from
ones_most bit i zero = omega arith
ones_most bit i (suc n) =
    when_elim (λ (x : ℕ). x + ones_from bit (i + 1) n ≤ suc n) (bit i) 1 0
    (λ e. omega (arith, ones_most bit (i + 1) n)) (λ e. omega (arith, ones_most bit (i + 1) n))

-- Of draws 1 to 250, 127 are ones.
pub draws_ones : ones_from draw 1 250 ≡ 127
unfolding ones_from when draw state advanced
draws_ones = refl

-- A binary digit is 1 where its test says so.
digit : (n : ℕ) → n % 2 ≡ when (eqb (n % 2) 1) 1 0
digit n =
    when_elim (λ (x : ℕ). n % 2 ≡ x) (eqb (n % 2) 1) 1 0 (λ e. eqb-true (n % 2) 1 e)
    (λ e. let other = eqb-false (n % 2) 1 e in omega (arith, other))

-- From bit i on a processor counts the same ones, where no bit is past the n that are looked at.
count_from : (v n i : ℕ) → v / 2 ^ i < 2 ^ n → counts.ones (v / 2 ^ i) ≡ ones_from (value_bit v) i n
unfolding ones_from counts.ones counts.ones_in
count_from v zero i h =
    let none : v / 2 ^ i ≡ 0 = omega arith in
    ap counts.ones none
count_from v (suc n) i h =
    let rest : v / 2 ^ i / 2 ≡ v / 2 ^ (i + 1) = shr-shr v i 1 in
    let short : v / 2 ^ (i + 1) < 2 ^ n = omega (arith, pow-suc 2 n, rest) in
    counts.ones_step (v / 2 ^ i) ∙ ap₂ (λ (x y : ℕ). x + y) (digit (v / 2 ^ i)) (ap counts.ones rest ∙ count_from v n (i + 1) short)

pub count_is : (v n : ℕ) → v < 2 ^ n → counts.ones v ≡ ones_from (value_bit v) 0 n
count_is v n h = let whole : v / 2 ^ 0 ≡ v = omega arith in rw whole at (count_from v n 0 (rw whole h))

-- The ones of bits in two parts, and of bits that begin eight places on.
ones_split : (bit : ℕ → Bool) (a i b : ℕ) → ones_from bit i (b + a) ≡ ones_from bit i a + ones_from bit (i + a) b
unfolding ones_from
ones_split bit zero i b =
    let here : ones_from bit (i + 0) b ≡ ones_from bit i b = ap (λ (k : ℕ). ones_from bit k b) (add-zero i) in
    ap (ones_from bit i) (add-zero b) ∙ omega (arith, here)
ones_split bit (suc a) i b =
    let count : b + suc a ≡ suc (b + a) = omega arith in
    let place : i + 1 + a ≡ i + suc a = omega arith in
    let rest = ones_split bit a (i + 1) b in
    let more : ones_from bit i (suc (b + a)) ≡ when (bit i) 1 0 + ones_from bit (i + 1) (b + a) = refl in
    ap (ones_from bit i) count ∙ more ∙ omega (arith, rest, ap (λ (k : ℕ). ones_from bit k b) place)

ones_shift : (f g : ℕ → Bool) → ((i : ℕ) → f (i + 8) ≡ g i) → (n i k : ℕ) → k ≡ i + 8 → ones_from f k n ≡ ones_from g i n
unfolding ones_from
ones_shift f g e zero i k h = refl
ones_shift f g e (suc n) i k h =
    ap₂ (λ (b : Bool) (x : ℕ). when b 1 0 + x) (ap f h ∙ e i) (ones_shift f g e n (i + 1) (k + 1) (omega (arith, h)))

module _ (b : ℕ) (image : List ℕ) where
  past_byte : (i : ℕ) → image_bit (b ∷ image) (i + 8) ≡ image_bit image i
  past_byte i =
      let byte : (i + 8) / 8 ≡ suc (i / 8) = omega arith in
      let bit : (i + 8) % 8 ≡ i % 8 = omega arith in
      ap₂ (λ (x y : ℕ). value_bit (get_or (b ∷ image) x 0) y) byte bit

  first_byte : ones_from (image_bit (b ∷ image)) 0 8 ≡ byte_ones b
  unfolding ones_from
  first_byte = refl

pub image_ones_lem : (image : List ℕ) → ones_from (image_bit image) 0 (length image * 8) ≡ image_ones image
unfolding total ones_from
image_ones_lem [] = refl
image_ones_lem (b ∷ image) =
    let count : suc (length image) * 8 ≡ length image * 8 + 8 = omega arith in
    ap (ones_from (image_bit (b ∷ image)) 0) count
    ∙ ones_split (image_bit (b ∷ image)) 8 0 (length image * 8)
    ∙ ap₂ (λ (x y : ℕ). x + y) (first_byte b image)
    (ones_shift (image_bit (b ∷ image)) (image_bit image) (past_byte b image) (length image * 8) 0 8 refl ∙ image_ones_lem image)

pub image_most : (image : List ℕ) → image_ones image ≤ length image * 8
image_most image = omega (arith, image_ones_lem image, ones_most (image_bit image) 0 (length image * 8))

-- The library adds the ones of byte after byte.
pub image_sum : (image : List ℕ) → image_ones image ≡ sum_by byte_ones image
unfolding total
image_sum image = is_sum_by image_ones byte_ones refl (λ _ _. refl) image
