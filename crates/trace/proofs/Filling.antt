-- A list of numbers, counted and then stored, number after number.
-- Assumes nothing.
use mathlib.Core.List.{List, [], ◌++◌}
use mathlib.Core.Path.{◌≡◌, refl, sym, ap, ◌∙◌}
use Prim.Native.Nat.{ℕ, ◌+◌, ◌-◌, ◌≤◌, ◌<◌}
use native.Mathlib.Omega.{arith}
use mathlib.Core.Bool.{true, false}
use borrow.Author.Tests.{lt-ltb, leb-false}
use lib.Dec.{leb, ltb}
use Rattle.terms.specs.Refusals.{refused, taken, first}
use Rattle.terms.proofs.Refusals.{Clear, clear_taken}
use lib.ListN.{length, get_or, drop, drop_of_length-le}
use lib.Seq.{sets, length-sets, sets-eq}
use Rattle.numbers.specs.Numbers.{groups, written}
use Rattle.trace.specs.Traces.{spelt, file, write_rows, left, unless_refused, writes}
use Rattle.trace.proofs.Groups.{spelt_at, spelt_length, spelt_none, sets_append}

over : (ns : List ℕ) (i : ℕ) → length ns ≤ i → spelt groups (drop i ns) ≡ []
over ns i h = ap (spelt groups) (drop_of_length-le ns h) ∙ spelt_none groups

module _ (ns : List ℕ) (room : ℕ) where
  -- What is left of the room, and of the numbers.
  pub record Fitting (left i : ℕ) : Type 0 where
    pub inside : i ≤ length ns
    pub account : room + length (spelt groups (drop i ns)) ≡ left + length (file ns)

  pub fitting_first : (room ≡ 0 → ⊥) → Fitting (room - 1) 0
  fitting_first h = record { inside = omega arith; account = omega (arith, h) }

  module _ (left i : ℕ) (k : Fitting left i) where
    pub fitting_done : length ns ≤ i → length (file ns) ≤ room
    fitting_done h = let z = ap length (over ns i h) in let a = k.account in omega (arith, z, a)

    module _ (h : i < length ns) (size : ℕ) (e : size ≡ length (written groups (get_or ns i 0))) where
      pub fitting_more : size ≤ left → Fitting (left - size) (i + 1)
      fitting_more l =
          let s = spelt_length groups ns i h in
          let a = k.account in
          record { inside = omega arith; account = omega (arith, s, a, e, l) }

      pub fitting_short : left < size → room < length (file ns)
      fitting_short l =
          let s = spelt_length groups ns i h in
          let a = k.account in
          omega (arith, s, a, e, l)

module _ (ns buffer₀ : List ℕ) where
  -- What is stored, and what is still to be.
  pub record Filling (buffer : List ℕ) (at i : ℕ) : Type 0 where
    pub inside : i ≤ length ns
    pub place : at + length (spelt groups (drop i ns)) ≡ length (file ns)
    pub stores : sets buffer at (spelt groups (drop i ns)) ≡ sets buffer₀ 1 (spelt groups ns)
    pub same : length buffer ≡ length buffer₀
    pub fits : length (file ns) ≤ length buffer₀

  pub filling_first : length (file ns) ≤ length buffer₀ → Filling buffer₀ 1 0
  filling_first f = record { inside = omega arith; place = omega arith; stores = refl; same = refl; fits = f }

  module _ (buffer : List ℕ) (at i : ℕ) (k : Filling buffer at i) where
    pub filling_place : length ns ≤ i → at ≡ length (file ns)
    filling_place h = let z = ap length (over ns i h) in let p = k.place in omega (arith, z, p)

    pub filling_done : length ns ≤ i → buffer ≡ sets buffer₀ 1 (spelt groups ns)
    filling_done h = sym (ap (sets buffer at) (over ns i h)) ∙ k.stores

    module _ (h : i < length ns) where
      pub filling_room : at + length (written groups (get_or ns i 0)) ≤ length buffer
      filling_room =
          let s = spelt_length groups ns i h in
          let p = k.place in
          let f = k.fits in
          let q = k.same in
          omega (arith, s, p, f, q)

      pub filling_more : (buffer' : List ℕ) (next : ℕ) → next ≡ at + length (written groups (get_or ns i 0))
          → buffer' ≡ sets buffer at (written groups (get_or ns i 0)) → Filling buffer' next (i + 1)
      filling_more buffer' next e b =
          let s = spelt_length groups ns i h in
          let p = k.place in
          record {
            inside = omega arith;
            place = omega (arith, s, p, e);
            stores =
                ap (λ (l : List ℕ). sets l next (spelt groups (drop (i + 1) ns))) b
                ∙ ap (λ (n : ℕ). sets (sets buffer at (written groups (get_or ns i 0))) n (spelt groups (drop (i + 1) ns))) e
                ∙ sym (sets_append buffer at (written groups (get_or ns i 0)) (spelt groups (drop (i + 1) ns)))
                ∙ sym (ap (sets buffer at) (spelt_at groups ns i h))
                ∙ k.stores;
            same = ap length b ∙ length-sets buffer at (written groups (get_or ns i 0)) ∙ k.same;
            fits = k.fits;
          }

-- The file stands at the buffer's start, and bytes past it stay.
pub file_stands : (ns buffer : List ℕ) → length (file ns) ≤ length buffer → sets buffer 0 (file ns) ≡ file ns ++ drop (length (file ns)) buffer
file_stands ns buffer h =
    let n : 0 + length (file ns) ≡ length (file ns) = omega arith in
    sets-eq (file ns) buffer 0 (omega arith) ∙ ap (λ (k : ℕ). file ns ++ drop k buffer) n

-- What writing leaves, once its table is walked.
module _ (ns buffer : List ℕ) where
  pub write_refused : (n : ℕ) → refused n ≡ first (write_rows ns buffer) (length (file ns)) → left (refused n) buffer ≡ writes ns buffer
  unfolding writes
  write_refused n e = ap (unless_refused ns buffer) e

  pub write_taken : Clear (write_rows ns buffer) → (n : ℕ) (buffer' : List ℕ) → n ≡ length (file ns) → buffer' ≡ sets buffer 0 (file ns)
      → length (file ns) ≤ length buffer → left (taken n) buffer' ≡ writes ns buffer
  unfolding writes
  write_taken clear n buffer' e b h =
      ap (λ (k : ℕ). left (taken k) buffer') e
      ∙ ap (left (taken (length (file ns)))) (b ∙ file_stands ns buffer h)
      ∙ ap (unless_refused ns buffer) (sym (clear_taken (length (file ns)) (write_rows ns buffer) clear))

pub no_room : (n m : ℕ) → leb n m ≡ false → ltb m n ≡ true
no_room n m e = lt-ltb m n (leb-false n m e)
