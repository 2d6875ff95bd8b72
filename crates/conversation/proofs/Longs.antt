-- A long of an image: its 32 bits are those of its four bytes, and its four bytes come back.
-- Assumes nothing.
use mathlib.Core.Bool.{true, and-eq-true_iff}
use mathlib.Core.List.{List, [], ◌∷◌}
use mathlib.Core.Path.{◌≡◌, refl, sym, ap, ◌∙◌}
use Prim.Native.Nat.{ℕ, zero, suc, ◌+◌, ◌-◌, ◌*◌, ◌^◌, ◌/◌, ◌%◌, ◌<◌}
use native.Mathlib.Omega.{arith}
use lib.Dec.{ltb, eqb}
use borrow.Author.Tests.{ltb-true}
use lib.ListN.{get_or, drop}
use lib.Pow.{are_bytes, shr-shr, field, mod-mod-pow}
use lib.Seq.{get_or-drop}
use Rattle.sequence.specs.Sequence.{bit}
use Rattle.bits.specs.Bits.{value_bit, image_bit}
use Rattle.ram.specs.Ram.{long_bytes}
use Rattle.conversation.specs.Final.{AllBytes}

-- A list that is written out is tested.
pub bytes_tested : (bytes : List ℕ) → are_bytes bytes ≡ true → AllBytes bytes
bytes_tested [] e i = omega arith
bytes_tested (b ∷ bytes) e zero =
    let first : b < 256 = ltb-true b 256 ((and-eq-true_iff (ltb b 256) (are_bytes bytes)).0 e).0 in
    omega (arith, first)
bytes_tested (b ∷ bytes) e (suc i) = bytes_tested bytes ((and-eq-true_iff (ltb b 256) (are_bytes bytes)).0 e).1 i

-- A byte's bits are those of any number that ends in it.
byte_bit : (x b r : ℕ) → r < 8 → x % 256 ≡ b → bit r b ≡ bit r x
byte_bit x b r h e =
    let parts : 8 ≡ (8 - r) + r = omega arith in
    let above : 8 - r ≡ 7 - r + 1 = omega arith in
    ap (λ (y : ℕ). y / 2 ^ r % 2) (sym e)
    ∙ ap (λ (n : ℕ). x % 2 ^ n / 2 ^ r % 2) parts
    ∙ ap (λ (y : ℕ). y % 2) (field x (8 - r) r)
    ∙ ap (λ (n : ℕ). x / 2 ^ r % 2 ^ n % 2) above
    ∙ mod-mod-pow (x / 2 ^ r) (7 - r) 1

-- The long that begins some bytes, low byte first.
abbrev pub long_of : List ℕ → ℕ
long_of bytes = get_or bytes 0 0 + get_or bytes 1 0 * 256 + get_or bytes 2 0 * 65536 + get_or bytes 3 0 * 16777216

module _ (bytes : List ℕ) (all : AllBytes bytes) where
  pub long_small : long_of bytes < 2 ^ 32
  long_small = omega (arith, all 0, all 1, all 2, all 3)

  byte_of : (j : ℕ) → j < 4 → long_of bytes / 2 ^ (j * 8) % 256 ≡ get_or bytes j 0
  byte_of zero h = omega (arith, all 0, all 1, all 2, all 3)
  byte_of (suc zero) h = omega (arith, all 0, all 1, all 2, all 3)
  byte_of (suc (suc zero)) h = omega (arith, all 0, all 1, all 2, all 3)
  byte_of (suc (suc (suc zero))) h = omega (arith, all 0, all 1, all 2, all 3)
  byte_of (suc (suc (suc (suc j)))) h = absurd (omega (arith, h))

  pub bytes_back : long_bytes (long_of bytes) ≡ get_or bytes 0 0 ∷ get_or bytes 1 0 ∷ get_or bytes 2 0 ∷ get_or bytes 3 0 ∷ []
  bytes_back =
      let low : long_of bytes % 256 ≡ get_or bytes 0 0 = omega (arith, all 0) in
      let top : long_of bytes / 16777216 ≡ get_or bytes 3 0 = omega (arith, all 0, all 1, all 2, all 3) in
      rw (low, byte_of 1 (omega arith), byte_of 2 (omega arith), top) refl

  long_bit : (i : ℕ) → i < 32 → value_bit (get_or bytes (i / 8) 0) (i % 8) ≡ value_bit (long_of bytes) i
  long_bit i h =
      let place : i / 8 * 8 + i % 8 ≡ i = omega arith in
      ap (λ (b : ℕ). eqb b 1)
      (byte_bit (long_of bytes / 2 ^ (i / 8 * 8)) (get_or bytes (i / 8) 0) (i % 8) (omega arith) (byte_of (i / 8) (omega arith))
      ∙ ap (λ (y : ℕ). y % 2) (shr-shr (long_of bytes) (i / 8 * 8) (i % 8))
      ∙ ap (λ (n : ℕ). bit n (long_of bytes)) place)

-- From byte k of four on.
module _ (image : List ℕ) (all : AllBytes image) (k : ℕ) where
  pub from_there : AllBytes (drop (k * 4) image)
  from_there i = rw (get_or-drop (k * 4) image i 0) (all (k * 4 + i))

  pub image_bit_lem : (i : ℕ) → i < 32 → image_bit image (k * 32 + i) ≡ value_bit (long_of (drop (k * 4) image)) i
  image_bit_lem i h =
      let byte : (k * 32 + i) / 8 ≡ k * 4 + i / 8 = omega arith in
      let within : (k * 32 + i) % 8 ≡ i % 8 = omega arith in
      ap (λ (n : ℕ). value_bit (get_or image n 0) ((k * 32 + i) % 8)) byte
      ∙ ap (λ (n : ℕ). value_bit (get_or image (k * 4 + i / 8) 0) n) within
      ∙ ap (λ (b : ℕ). value_bit b (i % 8)) (sym (get_or-drop (k * 4) image (i / 8) 0))
      ∙ long_bit (drop (k * 4) image) from_there i h
