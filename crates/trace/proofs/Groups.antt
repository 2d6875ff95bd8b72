-- Writing group after group: a number's groups are its lowest, with the top bit, and the groups of the rest.
-- Assumes nothing.
use mathlib.Core.Bool.{Bool, true, false}
use mathlib.Core.List.{List, [], ◌∷◌, ◌++◌}
use mathlib.Core.Path.{◌≡◌, refl, sym, ap, ◌∙◌}
use Prim.Native.Nat.{ℕ, zero, suc, ◌+◌, ◌-◌, ◌*◌, ◌/◌, ◌%◌, ◌^◌, ◌≤◌, ◌<◌}
use native.Mathlib.Nat.{pow-suc, not-suc-le-zero, add-zero}
use native.Mathlib.Numerals.{add-one}
use native.Mathlib.Omega.{arith}
use borrow.Author.Tests.{ltb-true, ltb-false, leb-false}
use lib.Dec.{ltb, leb}
use lib.ListN.{length, get_or, drop, set, length-append, length-set}
use lib.Seq.{drop-cons, sets}
use Rattle.std.specs.Prelude.{◌||◌}
use Rattle.std.specs.List.{list_any}
use Rattle.terms.specs.Choice.{either}
use Rattle.terms.proofs.Tests.{either_false}
use Rattle.numbers.specs.Numbers.{groups, bound, written}
use Rattle.numbers.proofs.Written.{written_one, written_more, written_enough, written_length}
use Rattle.trace.specs.Traces.{spelt, too_large}

-- A number's groups, by its lowest and the rest: the code divides until one group is left.
module _ (v : ℕ) (h : v < 128 ^ groups) where
  pub groups_one : v < 128 → written groups v ≡ v ∷ []
  groups_one l = written_one (groups - 1) v l

  pub groups_more : 128 ≤ v → written groups v ≡ (v % 128 + 128) ∷ written groups (v / 128)
  groups_more l =
      let p : 128 ^ groups ≡ 128 ^ (groups - 1) * 128 = pow-suc 128 (groups - 1) in
      let less : v / 128 < 128 ^ (groups - 1) = omega (arith, h, p) in
      written_more (groups - 1) v l ∙ ap (λ (x : List ℕ). (v % 128 + 128) ∷ x) (written_enough (groups - 2) (v / 128) less)

-- Numbers below the bound.
pub small_at : (m : ℕ) (ns : List ℕ) (i : ℕ) → too_large m ns ≡ false → i < length ns → get_or ns i 0 < m
small_at m [] i e h = absurd (not-suc-le-zero h)
small_at m (n ∷ ns) zero e h = leb-false m n ((either_false (leb m n) (too_large m ns)).0 e).0
small_at m (n ∷ ns) (suc i) e h = small_at m ns i ((either_false (leb m n) (too_large m ns)).0 e).1 (omega arith)

large_more : (t x y : Bool) → x ≡ y → (t || x) ≡ either t y
unfolding either
large_more true x y e = refl
large_more false x y e = e

pub any_large : (m : ℕ) (ns : List ℕ) → list_any (leb m) ns ≡ too_large m ns
unfolding either
any_large m [] = refl
any_large m (n ∷ ns) = large_more (leb m n) (list_any (leb m) ns) (too_large m ns) (any_large m ns)

-- The numbers from a place on, as they are written.
pub spelt_at : (g : ℕ) (ns : List ℕ) (i : ℕ) → i < length ns → spelt g (drop i ns) ≡ written g (get_or ns i 0) ++ spelt g (drop (i + 1) ns)
unfolding spelt
spelt_at g ns i h = ap (spelt g) (drop-cons ns i 0 h) ∙ ap (λ (k : ℕ). written g (get_or ns i 0) ++ spelt g (drop k ns)) (sym (add-one i))

pub spelt_length : (g : ℕ) (ns : List ℕ) (i : ℕ) → i < length ns
    → length (spelt g (drop i ns)) ≡ length (written g (get_or ns i 0)) + length (spelt g (drop (i + 1) ns))
spelt_length g ns i h = ap length (spelt_at g ns i h) ∙ length-append (written g (get_or ns i 0)) (spelt g (drop (i + 1) ns))

pub spelt_none : (g : ℕ) → spelt g [] ≡ []
unfolding spelt
spelt_none g = refl

-- Stores one after the other.
pub sets_append : (l : List ℕ) (i : ℕ) (xs ys : List ℕ) → sets l i (xs ++ ys) ≡ sets (sets l i xs) (i + length xs) ys
sets_append l i [] ys = ap (λ (k : ℕ). sets l k ys) (sym (add-zero i))
sets_append l i (x ∷ xs) ys =
    let e : suc i + length xs ≡ i + suc (length xs) = omega arith in
    sets_append (set l i x) (suc i) xs ys ∙ ap (λ (k : ℕ). sets (sets (set l i x) (suc i) xs) k ys) e

-- What a loop that divides until one group is left has at each turn.
pub record Sizing (number rest size : ℕ) : Type 0 where
  pub less : rest < 128 ^ groups
  pub whole : size + length (written groups rest) ≡ 1 + length (written groups number)

pub sizing_first : (number : ℕ) → number < bound → Sizing number number 1
sizing_first number h = record { less = omega arith; whole = refl }

module _ (number rest size : ℕ) (k : Sizing number rest size) where
  pub sizing_more : 128 ≤ rest → Sizing number (rest / 128) (size + 1)
  sizing_more h =
      let l = k.less in
      let w = ap length (groups_more rest l h) in
      let s = k.whole in
      record { less = omega arith; whole = omega (arith, w, s) }

  pub sizing_done : rest < 128 → size ≡ length (written groups number)
  sizing_done h =
      let w = ap length (groups_one rest k.less h) in
      let s = k.whole in
      omega (arith, w, s)

  pub sizing_few : size ≤ groups + 1
  sizing_few = let l = written_length groups number in let s = k.whole in omega (arith, l, s)

-- The same, where each group is stored.
pub record Putting (number : ℕ) (buffer₀ : List ℕ) (at : ℕ) (buffer : List ℕ) (rest next : ℕ) : Type 0 where
  pub less : rest < 128 ^ groups
  pub place : next + length (written groups rest) ≡ at + length (written groups number)
  pub stores : sets buffer next (written groups rest) ≡ sets buffer₀ at (written groups number)
  pub same : length buffer ≡ length buffer₀
  pub fits : at + length (written groups number) ≤ length buffer₀

pub putting_first : (number : ℕ) (buffer : List ℕ) (at : ℕ) → number < bound → at + length (written groups number) ≤ length buffer
    → Putting number buffer at buffer number at
putting_first number buffer at h f = record { less = omega arith; place = refl; stores = refl; same = refl; fits = f }

module _ (number : ℕ) (buffer₀ : List ℕ) (at : ℕ) (buffer : List ℕ) (rest next : ℕ) (k : Putting number buffer₀ at buffer rest next) where
  pub putting_more : 128 ≤ rest → Putting number buffer₀ at (set buffer next (rest % 128 + 128)) (rest / 128) (next + 1)
  putting_more h =
      let l = k.less in
      let g = groups_more rest l h in
      let w = ap length g in
      let p = k.place in
      record {
        less = omega arith;
        place = omega (arith, w, p);
        stores =
            ap (λ (n : ℕ). sets (set buffer next (rest % 128 + 128)) n (written groups (rest / 128))) (add-one next)
            ∙ sym (ap (sets buffer next) g)
            ∙ k.stores;
        same = length-set buffer next (rest % 128 + 128) ∙ k.same;
        fits = k.fits;
      }

  -- There is always a next group to store.
  some_by : (t : Bool) → ltb rest 128 ≡ t → 0 < length (written groups rest)
  some_by true e = let w = ap length (groups_one rest k.less (ltb-true rest 128 e)) in omega (arith, w)
  some_by false e = let w = ap length (groups_more rest k.less (ltb-false rest 128 e)) in omega (arith, w)

  pub putting_room : next < length buffer
  putting_room =
      let s = some_by (ltb rest 128) refl in
      let p = k.place in
      let f = k.fits in
      let q = k.same in
      omega (arith, s, p, f, q)

  pub putting_place : rest < 128 → next + 1 ≡ at + length (written groups number)
  putting_place h = let w = ap length (groups_one rest k.less h) in let p = k.place in omega (arith, w, p)

  pub putting_done : rest < 128 → set buffer next rest ≡ sets buffer₀ at (written groups number)
  putting_done h = sym (ap (sets buffer next) (groups_one rest k.less h)) ∙ k.stores
