-- A load that is finished leaves the final RAM: the rest is zeroed, and the two flag longs fall on eight of the zeros. All its bytes sum
-- to 0 modulo 256, and its word at 6 is the image's.
-- Assumes nothing.
use mathlib.Core.Bool.{true}
use mathlib.Core.List.{List, [], ◌∷◌, ◌++◌, append_assoc}
use mathlib.Core.Path.{◌≡◌, refl, sym, ap, ◌∙◌}
use Prim.Native.Nat.{ℕ, ◌+◌, ◌-◌, ◌*◌, ◌%◌, ◌<◌, ◌≤◌}
use native.Mathlib.Omega.{arith}
use lib.ListN.{length, take, drop, replicate, length-append, length-drop, length-replicate, replicate-append-replicate, get_or-append}
use lib.Seq.{take_at, take_all}
use borrow.Author.Tests.{lt-ltb, eq-eqb}
use Rattle.terms.proofs.Tests.{when_true}
use Rattle.lent.specs.Bytes.{word_at, total}
use Rattle.lent.proofs.Totals.{total_append, total_zeros}
use Rattle.load.proofs.Facts.{Good}
use Rattle.ram.specs.Ram.{zeroed, flag_at, flag_stored, flagged_below, flagged, finished, sums_to_zero, launches}
use Rattle.chip.specs.Work.{loaded}
use Rattle.conversation.specs.Final.{AllBytes, flag, final_ram}
use Rattle.conversation.proofs.Loading.{stored_at, overlaid, long_stored}
use Rattle.conversation.proofs.Longs.{long_of}

word_in_front : (a b : List ℕ) (at : ℕ) → at + 1 < length a → word_at (a ++ b) at ≡ word_at a at
unfolding word_at
word_in_front a b at h = rw (get_or-append a b 0 at (omega arith), get_or-append a b 0 (at + 1) h) refl

-- A long of zeros.
abbrev zeros : List ℕ
zeros = 0 ∷ 0 ∷ 0 ∷ 0 ∷ []

zeros_cut : (m n : ℕ) → replicate (m + 4 + 4 + n) 0 ≡ replicate m 0 ++ zeros ++ zeros ++ replicate n 0
zeros_cut m n =
    sym (replicate-append-replicate (m + 4 + 4) n 0)
    ∙ ap (λ (l : List ℕ). l ++ replicate n 0)
    (sym (replicate-append-replicate (m + 4) 4 0) ∙ ap (λ (l : List ℕ). l ++ zeros) (sym (replicate-append-replicate m 4 0)))

-- The two flag longs over eight bytes that end at D.
module _ (front back : List ℕ) (d : ℕ) (begins : length front + 8 ≡ d) (ends : d + length back ≡ 32768) (aligned : d % 4 ≡ 0) where
  flag_stored_lem : (at : ℕ) (a b : List ℕ) → length a ≡ at → at < 32768 → flag_stored at (a ++ zeros ++ b) ≡ a ++ flag ++ b
  unfolding flag_stored
  flag_stored_lem at a b e h = when_true _ _ (lt-ltb _ _ h) ∙ stored_at at 0xFFF9FFFF a zeros b e refl

  pub flags_stored : flagged_below d (front ++ zeros ++ zeros ++ back) ≡ front ++ flag ++ flag ++ back
  flags_stored =
      let upper : length (front ++ zeros) ≡ flag_at d 4 = omega (arith, length-append front zeros) in
      let lower : length front ≡ flag_at d 8 = omega arith in
      let below : flag_at d 4 < 32768 = omega arith in
      let under : flag_at d 8 < 32768 = omega arith in
      ap (flag_stored (flag_at d 8))
      (flag_stored_lem (flag_at d 4) (front ++ zeros) back upper below ∙ append_assoc (front ++ zeros) flag back)
      ∙ flag_stored_lem (flag_at d 8) front (flag ++ back) lower under
      ∙ sym (append_assoc (front ++ flag) flag back)

module _ (image : List ℕ) (good : Good image) where
  abbrev stack : ℕ
  stack = word_at image 10

  -- The zeros before and after the flag longs.
  abbrev before : List ℕ
  before = replicate (stack - 8 - length image) 0

  abbrev after : List ℕ
  after = replicate (32768 - stack) 0

  front_length : length (image ++ before) + 8 ≡ stack
  front_length =
      let above : length image + 8 ≤ stack = good.above in
      omega (arith, length-append image before, length-replicate {A = ℕ} (stack - 8 - length image) 0)

  back_length : stack + length after ≡ 32768
  back_length =
      let inside : stack ≤ 32768 = good.inside in
      omega (arith, length-replicate {A = ℕ} (32768 - stack) 0)

  cut_zeros : image ++ replicate (32768 - length image) 0 ≡ image ++ before ++ zeros ++ zeros ++ after
  cut_zeros =
      let above : length image + 8 ≤ stack = good.above in
      let inside : stack ≤ 32768 = good.inside in
      let count : 32768 - length image ≡ stack - 8 - length image + 4 + 4 + (32768 - stack) = omega arith in
      ap (λ (n : ℕ). image ++ replicate n 0) count
      ∙ ap (λ (l : List ℕ). image ++ l) (zeros_cut (stack - 8 - length image) (32768 - stack))
      ∙ simp append_assoc

  pub image_flagged : flagged (image ++ replicate (32768 - length image) 0) ≡ final_ram image
  unfolding flagged final_ram
  image_flagged =
      let long : 16 ≤ length image = good.long in
      ap (λ (d : ℕ). flagged_below d (image ++ replicate (32768 - length image) 0))
      (word_in_front image (replicate (32768 - length image) 0) 10 (omega arith))
      ∙ ap (flagged_below stack) cut_zeros
      ∙ flags_stored (image ++ before) after stack front_length back_length good.aligned

  pub image_finished : (ram : List ℕ) → length ram ≡ 32768 → finished (length image) (image ++ drop (length image) ram) ≡ final_ram image
  unfolding zeroed
  image_finished ram e =
      let short : length image ≤ 32760 = good.short in
      let count : length (image ++ drop (length image) ram) - length image ≡ 32768 - length image =
      omega (arith, length-append image (drop (length image) ram), length-drop (length image) ram) in
      ap flagged
      (ap (λ (l : List ℕ). l ++ replicate (length (image ++ drop (length image) ram) - length image) 0)
      (take_at image (drop (length image) ram) (length image) refl)
      ∙ ap (λ (n : ℕ). image ++ replicate n 0) count)
      ∙ image_flagged

  -- It is the image and more.
  abbrev more : List ℕ
  more = before ++ flag ++ flag ++ after

  final_more : final_ram image ≡ image ++ more
  unfolding final_ram
  final_more = simp append_assoc

  pub final_length : length (final_ram image) ≡ 32768
  unfolding final_ram
  final_length =
      let one = length-append (image ++ before) flag in
      let two = length-append (image ++ before ++ flag) flag in
      let rest = length-append (image ++ before ++ flag ++ flag) after in
      omega (arith, front_length, back_length, one, two, rest)

  more_total : total more ≡ 2028
  unfolding total
  more_total =
      let one = total_append before flag in
      let two = total_append (before ++ flag) flag in
      let rest = total_append (before ++ flag ++ flag) after in
      omega (arith, one, two, rest, total_zeros (stack - 8 - length image), total_zeros (32768 - stack))

  pub final_sum : sums_to_zero (final_ram image) ≡ true
  final_sum =
      let summed : total image % 256 ≡ 20 = good.summed in
      let sum : total (final_ram image) ≡ total image + total more = ap total final_more ∙ total_append image more in
      let none : total (final_ram image) % 256 ≡ 0 = omega (arith, sum, summed, more_total) in
      eq-eqb _ _ none

  pub final_start : launches (final_ram image) ≡ true
  final_start =
      let long : 16 ≤ length image = good.long in
      eq-eqb _ _ (ap (λ (l : List ℕ). word_at l 6) final_more ∙ word_in_front image more 6 (omega arith) ∙ good.started)

  -- The last long of the image makes it.
  pub last_loaded : (ram : List ℕ) (k : ℕ) → AllBytes image → length ram ≡ 32768 → k * 4 + 4 ≡ length image
      → loaded k (long_of (drop (k * 4) image)) (overlaid image ram (k * 4)) ≡ final_ram image
  last_loaded ram k all e last =
      let short : length image ≤ 32760 = good.short in
      let whole : take (length image) image ≡ image = take_all (length image) image (omega arith) in
      ap (finished (k * 4 + 4)) (long_stored image ram k all (omega arith) (omega arith))
      ∙ ap (λ (n : ℕ). finished n (overlaid image ram n)) last
      ∙ ap (λ (l : List ℕ). finished (length image) (l ++ drop (length image) ram)) whole
      ∙ image_finished ram e
