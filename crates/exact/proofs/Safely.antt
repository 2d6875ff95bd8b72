-- A longer loop leaves less margin.
-- Assumes nothing.
use mathlib.Core.Bool.{Bool, true, false}
use mathlib.Core.Logic.{◌↔◌}
use mathlib.Core.Path.{◌≡◌, refl}
use Prim.Native.Nat.{ℕ, ◌≤◌, ◌<◌}
use native.Mathlib.Omega.{arith}
use lib.Dec.{ltb}
use borrow.Author.Tests.{ltb-true, leb-true}
use Rattle.std.specs.Prelude.{None, Some}
use Rattle.terms.specs.Choice.{when}
use Rattle.terms.proofs.Tests.{both_true}
use Rattle.settings.specs.declared.Settings.{Settings}
use Rattle.success.specs.Success.{Loop, Margin, Asked}
use Rattle.success.proofs.Succeeding.{demand_3}
use Rattle.safe.specs.Safe.{largest_loop, loops_of, safe_of}
use Rattle.exact.specs.Safe.{SafeForAll}

module _ (s : Settings) where
  abbrev largest : ℕ
  largest = largest_loop s.t s.p

  -- The margin of a real chip's loop, by the largest.
  margin_is : (l : ℕ) → Loop l → Margin s.t s.p l ↔ (l ≤ largest)
  unfolding largest_loop
  margin_is l loop = ((λ m. omega (arith, m, loop.1)), (λ m. omega (arith, m, loop.0)))

  safe_says : safe_of s ≡ true → (1000000 ≤ largest) × (s.t ≤ s.h)
  unfolding safe_of
  safe_says e = let two = (both_true _ _).0 e in (leb-true _ _ two.0, leb-true _ _ two.1)

  -- None is told where no loop of a real chip is short enough, otherwise the largest.
  told_none : (b : Bool) → ltb largest 400000 ≡ b → when b None (Some largest) ≡ None → largest < 400000
  unfolding when
  told_none true e h = ltb-true _ _ e
  told_none false e h = absurd (cc)

  told_largest : (b : Bool) (n : ℕ) → when b None (Some largest) ≡ Some n → largest ≡ n
  unfolding when
  told_largest true n h = cc
  told_largest false n h = cc

  no_loop : loops_of s ≡ None → (l : ℕ) → Loop l → Margin s.t s.p l → ⊥
  unfolding loops_of
  no_loop e l loop m =
      let short = told_none (ltb largest 400000) refl e in
      omega (arith, short, (margin_is l loop).0 m, loop.0)

  loops : (n : ℕ) → loops_of s ≡ Some n → (l : ℕ) → Loop l → Margin s.t s.p l ↔ (l ≤ n)
  unfolding loops_of
  loops n e l loop =
      let is = told_largest (ltb largest 400000) n e in
      ((λ m. omega (arith, is, (margin_is l loop).0 m)), (λ m. (margin_is l loop).1 (omega (arith, is, m))))

  margin : safe_of s ≡ true → (l : ℕ) → Loop l → Margin s.t s.p l
  margin e l loop = (margin_is l loop).1 (omega (arith, (safe_says e).0, loop.1))

pub safe_for_all : SafeForAll
safe_for_all = record {
  margin = margin;
  spacer = λ s e. (safe_says s e).1;
  asked = λ t h p command image host ram eeprom chip l measured safe starts bytes fresh loop may.
      let a : Asked t h p command image host ram eeprom chip l measured =
      record {
        host_starts = starts;
        bytes = bytes;
        chip_starts = fresh;
        loop = loop;
        margin = margin (record { t = t; h = h; p = p }) safe l loop;
        may = may;
      } in
      (a, demand_3 t h p command image host ram eeprom chip l measured a);
  no_loop = no_loop;
  loops = loops;
}
