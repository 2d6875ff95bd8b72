-- Bytes that count up from a place on: what a turn of the loop that stores them makes of an image, and what the whole loop makes of zeros.
-- Assumes nothing.
use Rattle.std.proofs.Common.{◌≡◌, ℕ, suc, ◌+◌, ◌-◌, ◌%◌, ◌<◌, ◌≤◌, List, ◌++◌, length, take, set, replicate, ap, append-nil, add-one, arith, length-set, take_all, take-suc-set}
use lib.Seq.{append_snoc}
use Rattle.lent.specs.Bytes.{total}
use Rattle.image.specs.Longest.{counted, starting_with, longest_image}

-- An image that counts up from a place on.
unfoldable pub counted_on : ℕ → List ℕ → List ℕ
counted_on at image = take at image ++ counted at (length image - at)

-- Counting from the next place on, once this place's byte is stored.
pub count_turn : (image : List ℕ) (at : ℕ) → at < length image → counted_on (at + 1) (set image at (at % 251)) ≡ counted_on at image
unfolding counted counted_on
count_turn image at h =
    let left : length image - at ≡ suc (length image - suc at) = omega arith in
    rw (add-one, take-suc-set image at (at % 251) h, length-set image at (at % 251), append_snoc, left)

pub count_past : (image : List ℕ) (at : ℕ) → length image ≤ at → counted_on at image ≡ image
unfolding counted counted_on
count_past image at h =
    let none : length image - at ≡ 0 = omega arith in
    rw (none, take_all at image h) (append-nil image)

-- The words stored in an image that counts up from byte 16 on, and zeros before it.
pub words_stored : (image : List ℕ) → image ≡ counted_on 16 (replicate 32760 0)
    → set (set (set (set image 6 16) 8 248) 9 127) 11 128 ≡ starting_with 0
unfolding counted_on starting_with
words_stored image e = rw e

-- The byte that makes the sum 20 stored before them.
pub first_stored : (image : List ℕ) (s r : ℕ) → image ≡ starting_with 0 → s ≡ total image % 256 → (r + s) % 256 ≡ 20 → r < 256
    → set image 0 r ≡ longest_image
unfolding starting_with longest_image
first_stored image s r e t h b =
    let it : r ≡ (276 - total (starting_with 0) % 256) % 256 = omega (arith, ap total e) in
    rw (e, it)
