-- A line is a setting only past every cause, so that its name is neither empty nor long, and may be named.
-- Assumes nothing.
use mathlib.Core.Bool.{Bool, true, false, not}
use mathlib.Core.List.{List}
use mathlib.Core.Path.{◌≡◌, refl}
use Prim.Native.Nat.{ℕ, ◌≤◌}
use native.Mathlib.Omega.{arith}
use lib.Dec.{ltb}
use lib.ListN.{length}
use borrow.Author.Tests.{eqb-false, ltb-false, not-false}
use Rattle.std.specs.Prelude.{Option, None, Some, Result, Ok, Err}
use Rattle.terms.specs.Choice.{when}
use Rattle.entries.specs.Entries.{word_bytes, no_word, is_name, entry_of}
use Rattle.entries.specs.Named.{Named}
use Rattle.entries.specs.declared.Bench.{Bench}
use Rattle.entries.specs.declared.Cause.{Cause}

passed : (b : Bool) (x y z : Result (Option Bench) Cause) → (x ≡ z → ⊥) → when b x y ≡ z → (b ≡ false) × (y ≡ z)
unfolding when
passed true x y z other e = absurd (other e)
passed false x y z other e = (refl, e)

module _ (bench : Bench) where
  not_blank : ◌≡◌ {A = Result (Option Bench) Cause} (Ok None) (Ok (Some bench)) → ⊥
  not_blank e = let z : ◌≡◌ {A = ℕ} 0 1 = cc in omega arith

  not_wrong : (cause : Cause) → ◌≡◌ {A = Result (Option Bench) Cause} (Err cause) (Ok (Some bench)) → ⊥
  not_wrong cause e = let z : ◌≡◌ {A = ℕ} 0 1 = cc in omega arith

  module _ (line : List ℕ) (is : entry_of line ≡ Ok (Some bench)) where
    tests : (no_word line 0 ≡ false) × (ltb 12 (length (word_bytes line 0)) ≡ false) × (not (is_name (word_bytes line 0)) ≡ false)
    unfolding entry_of
    tests =
        let some = passed _ _ _ _ not_blank is in
        let four = passed _ _ _ _ (not_wrong _) some.1 in
        let no_more = passed _ _ _ _ (not_wrong _) four.1 in
        let short = passed _ _ _ _ (not_wrong _) no_more.1 in
        let name = passed _ _ _ _ (not_wrong _) short.1 in
        (some.0, short.0, name.0)

    some_byte : 1 ≤ length (word_bytes line 0)
    unfolding no_word
    some_byte = let none = eqb-false (length (word_bytes line 0)) 0 tests.0 in omega (arith, none)

pub named : Named
named = record {
  some = λ line bench is. some_byte bench line is;
  short = λ line bench is. ltb-false 12 (length (word_bytes line 0)) (tests bench line is).1;
  allowed = λ line bench is. not-false (is_name (word_bytes line 0)) (tests bench line is).2;
}
