-- Numbers as they are spelt, and as they are read: each is the other's inverse. Over the number of groups and the bound.
-- Assumes nothing.
use mathlib.Core.Bool.{true, false}
use mathlib.Core.List.{List, [], ◌∷◌, ◌++◌}
use mathlib.Core.Path.{◌≡◌, refl, ap, ◌∙◌}
use Prim.Native.Nat.{ℕ, zero, suc, ◌^◌, ◌≤◌, ◌<◌}
use native.Mathlib.Omega.{arith}
use borrow.Author.Tests.{lt-leb, leb-false}
use lib.Dec.{leb}
use lib.ListN.{length}
use lib.Pow.{are_bytes}
use Rattle.terms.proofs.Tests.{either_false}
use Rattle.numbers.specs.Numbers.{Reading, found, bad, number_in, written}
use Rattle.numbers.proofs.Back.{first_byte, written_number, number_written}
use Rattle.numbers.proofs.Tails.{in_number, number_in_lem}
use Rattle.trace.specs.Traces.{Numbers, good, faulty, after, onward, up_to, numbers_in, spelt, too_large}
use Rattle.trace.proofs.Files.{in_none, in_more}

-- What is spelt reads as the same numbers.
pub spelt_reads : (g m : ℕ) → m ≤ 128 ^ suc g → (ns : List ℕ) → too_large m ns ≡ false → numbers_in (suc g) m (spelt (suc g) ns) ≡ good ns
unfolding spelt
spelt_reads g m h [] e = in_none (suc g) m
spelt_reads g m h (n ∷ ns) e =
    let parts = (either_false (leb m n) (too_large m ns)).0 e in
    let small : n < m = leb-false m n parts.0 in
    let less : n < 128 ^ suc g = omega arith in
    in_more (suc g) m (written (suc g) n ++ spelt (suc g) ns) n (spelt (suc g) ns)
    (number_in_lem (suc g) m _ n (spelt (suc g) ns) (written_number g n (spelt (suc g) ns) less) small)
    ∙ ap (after n) (spelt_reads g m h ns parts.1)

-- What is known of bytes that read as these numbers.
pub record Spells (g m : ℕ) (bytes ns : List ℕ) : Type 0 where
  pub spelling : bytes ≡ spelt g ns
  pub small : too_large m ns ≡ false

last_bytes : (bytes tail : List ℕ) → are_bytes (bytes ++ tail) ≡ true → are_bytes tail ≡ true
last_bytes [] tail a = a
last_bytes (b ∷ bytes) tail a = last_bytes bytes tail (first_byte b (bytes ++ tail) a).1

module _ (g m : ℕ) where
  module _ (n : ℕ) (same : (rest ns : List ℕ) → are_bytes rest ≡ true → up_to g m n rest ≡ good ns → Spells g m rest ns)
      (bytes : List ℕ) (all : are_bytes bytes ≡ true) where
    one_more : (v : ℕ) (rest ns : List ℕ) (x : Numbers) → up_to g m n rest ≡ x → number_in g m bytes ≡ found v rest → after v x ≡ good ns
        → Spells g m bytes ns
    unfolding spelt
    one_more v rest ns (good xs) q e p =
        let is = in_number g m bytes v rest e in
        let split : bytes ≡ written g v ++ rest = number_written g bytes all v rest is.is in
        let later = same rest xs (last_bytes (written g v) rest (rw split at all)) q in
        let list : v ∷ xs ≡ ns = cc in
        rw (← list) (record {
          spelling = split ∙ ap (λ (l : List ℕ). written g v ++ l) later.spelling;
          small = (either_false (leb m v) (too_large m xs)).1 (lt-leb m v is.less, later.small);
        })
    one_more v rest ns faulty q e p = let z : ◌≡◌ {A = ℕ} 0 1 = cc in absurd (omega arith)

    some_more : (ns : List ℕ) (x : Reading) → number_in g m bytes ≡ x → onward (up_to g m n) x ≡ good ns → Spells g m bytes ns
    some_more ns (found v rest) e p = one_more v rest ns (up_to g m n rest) refl e p
    some_more ns bad e p = let z : ◌≡◌ {A = ℕ} 0 1 = cc in absurd (omega arith)

  none_spells : (ns : List ℕ) → good [] ≡ good ns → Spells g m [] ns
  unfolding spelt
  none_spells ns e = let z : [] ≡ ns = cc in rw (← z) (record { spelling = refl; small = refl })

  up_to_spelt : (n : ℕ) (bytes ns : List ℕ) → are_bytes bytes ≡ true → up_to g m n bytes ≡ good ns → Spells g m bytes ns
  unfolding up_to
  up_to_spelt zero [] ns all e = none_spells ns e
  up_to_spelt zero (b ∷ bytes) ns all e = let z : ◌≡◌ {A = ℕ} 0 1 = cc in absurd (omega arith)
  up_to_spelt (suc n) [] ns all e = none_spells ns e
  up_to_spelt (suc n) (b ∷ bytes) ns all e =
      some_more n (λ rest xs a q. up_to_spelt n rest xs a q) (b ∷ bytes) all ns (number_in g m (b ∷ bytes)) refl e

  -- What reads well is spelt so.
  pub reads_spelt : (bytes ns : List ℕ) → are_bytes bytes ≡ true → numbers_in g m bytes ≡ good ns → Spells g m bytes ns
  unfolding numbers_in
  reads_spelt bytes ns all e = up_to_spelt (length bytes) bytes ns all e
