-- Sums of RAM: what is zeroed adds nothing, and a store changes the sum by what it stores less what stood there.
-- Assumes nothing.
use Rattle.std.proofs.Common.{◌≡◌, ℕ, ◌+◌, ◌-◌, ◌%◌, ◌<◌, ◌≤◌, List, ◌++◌, length, take, drop, replicate, sym, refl, ap, ◌∙◌, add-zero, arith, take-append-drop, drop-drop, le-ltb, lt-ltb, le-leb}
use borrow.Author.Tests.{lt-leb}
use Rattle.terms.proofs.Tests.{when_true, when_false, when_elim}
use Rattle.lent.specs.Bytes.{total}
use Rattle.lent.proofs.Totals.{total_append, total_zeros}
use Rattle.ram.specs.Ram.{long_bytes, stored, zeroed, flag_stored}

pub zeroed_sum : (end : ℕ) (ram : List ℕ) → total (zeroed end ram) ≡ total (take end ram)
unfolding zeroed
zeroed_sum end ram =
    total_append (take end ram) (replicate (length ram - end) 0)
    ∙ ap (λ (n : ℕ). total (take end ram) + n) (total_zeros (length ram - end))
    ∙ add-zero (total (take end ram))

total_cut : (n : ℕ) (l : List ℕ) → total l ≡ total (take n l) + total (drop n l)
total_cut n l = ap total (sym (take-append-drop n l)) ∙ total_append (take n l) (drop n l)

-- Four bytes replaced by others.
replaced_sum : (at : ℕ) (new ram : List ℕ)
    → total (take at ram ++ new ++ drop (at + 4) ram) + total (take 4 (drop at ram)) ≡ total ram + total new
replaced_sum at new ram =
    let outer = total_append (take at ram ++ new) (drop (at + 4) ram) in
    let inner = total_append (take at ram) new in
    let whole = total_cut at ram in
    let rest = total_cut 4 (drop at ram) in
    let past : total (drop 4 (drop at ram)) ≡ total (drop (at + 4) ram) = ap total (drop-drop 4 at ram) in
    omega (arith, outer, inner, whole, rest, past)

module _ (at : ℕ) (ram : List ℕ) where
  pub flag_high : 32768 ≤ at → flag_stored at ram ≡ ram
  unfolding flag_stored
  flag_high h = when_false _ _ (le-ltb _ _ h)

  pub flag_past : length ram < at + 4 → flag_stored at ram ≡ ram
  unfolding flag_stored stored
  flag_past h = when_elim (λ (l : List ℕ). l ≡ ram) _ _ _ (λ e. when_false _ _ (lt-leb _ _ h)) (λ e. refl)

  pub flag_low : at < 32768 → flag_stored at ram ≡ stored at 0xFFF9FFFF ram
  unfolding flag_stored
  flag_low h = when_true _ _ (lt-ltb _ _ h)

  module _ (fits : at + 4 ≤ length ram) where
    stored_sum : total (stored at 0xFFF9FFFF ram) + total (take 4 (drop at ram)) ≡ total ram + 1014
    unfolding stored total
    stored_sum =
        ap (λ (l : List ℕ). total l + total (take 4 (drop at ram))) (when_true _ _ (le-leb _ _ fits))
        ∙ replaced_sum at (long_bytes 0xFFF9FFFF) ram

    -- A sum, less that of the part that is replaced, and with a flag long's: its bytes add 1,014, or 246.
    pub sum_changes : (sum old : ℕ) → sum ≡ total ram % 256 → old ≡ total (take (at + 4 - at) (drop at ram)) % 256
        → ((sum + (256 - old)) % 256 + 246) % 256 ≡ total (stored at 0xFFF9FFFF ram) % 256
    sum_changes sum old s o =
        let four : at + 4 - at ≡ 4 = omega arith in
        let stood : old ≡ total (take 4 (drop at ram)) % 256 = rw four at o in
        omega (arith, s, stood, stored_sum)
