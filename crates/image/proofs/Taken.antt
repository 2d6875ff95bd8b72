-- A start takes the longest image: no row of refusals looks at anything but its length, three of its words and its sum.
-- Assumes nothing.
use Rattle.std.proofs.Common.{◌≡◌, ℕ, zero, suc, ◌+◌, ◌%◌, length, refl, ap, arith}
use Rattle.lent.specs.Bytes.{word_at, total}
use Rattle.load.proofs.Facts.{Good}
use Rattle.image.specs.Longest.{counted, starting_with, longest_image}

total_from : (b : ℕ) → total (starting_with b) ≡ b + total (starting_with 0)
unfolding total starting_with
total_from b = omega arith

counted_length : (from n : ℕ) → length (counted from n) ≡ n
unfolding counted
counted_length from zero = refl
counted_length from (suc n) = ap suc (counted_length (suc from) n)

long : (b : ℕ) → length (starting_with b) ≡ 32760
unfolding starting_with
long b = rw (counted_length 16 32744)

words : (b : ℕ) → (word_at (starting_with b) 6 ≡ 16) × (word_at (starting_with b) 8 ≡ 32760) × (word_at (starting_with b) 10 ≡ 32768)
unfolding starting_with word_at
words b = (refl, refl, refl)

good : (b : ℕ) → (b + total (starting_with 0)) % 256 ≡ 20 → Good (starting_with b)
good b h =
    let l = long b in
    let w = words b in
    let t = total_from b in
    record {
      long = omega arith;
      short = omega arith;
      whole = omega arith;
      named = omega (arith, w.1);
      started = w.0;
      aligned = omega (arith, w.2);
      above = omega (arith, w.2);
      inside = omega (arith, w.2);
      summed = omega arith;
    }

pub longest_good : Good longest_image
unfolding longest_image
longest_good = good _ (omega arith)
