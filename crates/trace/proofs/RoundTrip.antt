-- Whole files, written and read: a list that is taken has numbers that read again, and a file that is good has just the bytes of its
-- numbers.
-- Assumes nothing.
use mathlib.Core.Bool.{true, false}
use mathlib.Core.List.{List, [], ◌∷◌, ◌++◌}
use mathlib.Core.Path.{◌≡◌, refl, sym, ap, ◌∙◌}
use Prim.Native.Nat.{ℕ, ◌-◌, ◌≤◌}
use native.Mathlib.Omega.{arith}
use borrow.Author.Tests.{le-ltb, eqb-true, not-false}
use lib.ListN.{length, take, drop}
use lib.Pow.{are_bytes}
use lib.Seq.{take-append_seam}
use Rattle.terms.specs.Refusals.{Answer, refused, taken, first}
use Rattle.terms.proofs.Refusals.{clear_taken, taken_exactly}
use Rattle.numbers.specs.Numbers.{groups, bound}
use Rattle.numbers.proofs.Back.{first_byte}
use Rattle.trace.specs.RoundTrip.{RoundTrip}
use Rattle.trace.specs.Traces.{Numbers, good, faulty, numbers_of, is_faulty, list_of, is_odd, unmarked, file_rows, file_of}
use Rattle.trace.specs.Traces.{file, too_large, write_rows, Left, left, unless_refused, writes}
use Rattle.trace.proofs.Spelling.{spelt_reads, reads_spelt}

-- A file of numbers that are written reads as these.
file_reads : (ns : List ℕ) → too_large bound ns ≡ false → is_odd ns ≡ false → file_of (file ns) ≡ taken ns
unfolding file_of
file_reads ns small even =
    let reads : numbers_of (file ns) ≡ good ns = spelt_reads (groups - 1) bound (omega arith) ns small in
    clear_taken (list_of (numbers_of (file ns))) (file_rows (file ns))
    (refl, (ap is_faulty reads, (ap (λ (x : Numbers). is_odd (list_of x)) reads ∙ even, tt)))
    ∙ ap (λ (x : Numbers). taken (list_of x)) reads

module _ (ns buffer : List ℕ) where
  -- What a list leaves that is taken.
  record Wrote (n : ℕ) (x : Answer ℕ) : Type 0 where
    pub rows : x ≡ taken n
    pub whole : unless_refused ns buffer x ≡ left (taken n) (file ns ++ drop n buffer)

  wrote_by : (n : ℕ) (x : Answer ℕ) → (unless_refused ns buffer x).answer ≡ taken n → Wrote n x
  wrote_by n (refused k) e = let z : ◌≡◌ {A = ℕ} 0 1 = cc in absurd (omega arith)
  wrote_by n (taken k) e = let same : k ≡ n = cc in record { rows = e; whole = ap (λ (i : ℕ). left (taken i) (file ns ++ drop i buffer)) same }

  wrote : (n : ℕ) → (writes ns buffer).answer ≡ taken n → Wrote n (first (write_rows ns buffer) (length (file ns)))
  unfolding writes
  wrote n e = wrote_by n (first (write_rows ns buffer) (length (file ns))) e

  written_read : (n : ℕ) → (writes ns buffer).answer ≡ taken n → file_of (take n (writes ns buffer).buffer) ≡ taken ns
  unfolding writes
  written_read n e =
      let w = wrote n e in
      let known = (taken_exactly (length (file ns)) n (write_rows ns buffer)).0 w.rows in
      let front : take n (file ns ++ drop n buffer) ≡ file ns =
      ap (λ (k : ℕ). take k (file ns ++ drop n buffer)) known.1 ∙ take-append_seam (file ns) (drop n buffer) in
      ap (λ (l : Left). file_of (take n l.buffer)) w.whole ∙ ap file_of front ∙ file_reads ns known.0.0 known.0.1.0

  writes_taken : too_large bound ns ≡ false → is_odd ns ≡ false → length (file ns) ≤ length buffer
      → writes ns buffer ≡ left (taken (length (file ns))) (file ns ++ drop (length (file ns)) buffer)
  unfolding writes
  writes_taken small even room =
      ap (unless_refused ns buffer) (clear_taken (length (file ns)) (write_rows ns buffer) (small, (even, (le-ltb (length buffer) (length (file ns)) room, tt))))

-- A good file's numbers.
good_list : (x : Numbers) → is_faulty x ≡ false → x ≡ good (list_of x)
good_list (good ns) e = refl
good_list faulty e = let z : ◌≡◌ {A = ℕ} 0 1 = cc in absurd (omega arith)

marked_is : (trace : List ℕ) → unmarked trace ≡ false → trace ≡ 1 ∷ drop 1 trace
marked_is [] e = let z : ◌≡◌ {A = ℕ} 0 1 = cc in absurd (omega arith)
marked_is (b ∷ trace) e = ap (λ (n : ℕ). n ∷ trace) (eqb-true b 1 (not-false _ e))

past_mark : (trace : List ℕ) → are_bytes trace ≡ true → are_bytes (drop 1 trace) ≡ true
past_mark [] e = refl
past_mark (b ∷ trace) e = (first_byte b trace e).1

-- What is known of a file that reads well.
record Good (trace ns : List ℕ) : Type 0 where
  pub bytes : trace ≡ file ns
  pub small : too_large bound ns ≡ false
  pub even : is_odd ns ≡ false

good_file : (trace : List ℕ) → are_bytes trace ≡ true → (ns : List ℕ) → file_of trace ≡ taken ns → Good trace ns
unfolding file_of
good_file trace all ns e =
    let known = (taken_exactly (list_of (numbers_of trace)) ns (file_rows trace)).0 e in
    let reads : numbers_of trace ≡ good ns = good_list (numbers_of trace) known.0.1.0 ∙ ap good (sym known.1) in
    let spells = reads_spelt groups bound (drop 1 trace) ns (past_mark trace all) reads in
    record {
      bytes = marked_is trace known.0.0 ∙ ap (λ (l : List ℕ). 1 ∷ l) spells.spelling;
      small = spells.small;
      even = sym (ap (λ (x : Numbers). is_odd (list_of x)) reads) ∙ known.0.1.1.0;
    }

pub round_trip : RoundTrip
round_trip = record {
  written_read = λ ns buffer n e. written_read ns buffer n e;
  read_written = λ trace all ns e buffer room.
      let k = good_file trace all ns e in
      rw k.bytes (writes_taken ns buffer k.small k.even (rw k.bytes at room));
  one_file = λ trace other all more ns e f. (good_file trace all ns e).bytes ∙ sym (good_file other more ns f).bytes;
}
