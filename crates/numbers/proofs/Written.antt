-- A number as it is written: its lowest group, and above it the groups of the rest.
-- Assumes nothing.
use mathlib.Core.Bool.{Bool, true, false}
use mathlib.Core.List.{List, [], ◌∷◌}
use mathlib.Core.Path.{◌≡◌, refl, sym, ap, ◌∙◌}
use Prim.Native.Nat.{ℕ, zero, suc, ◌+◌, ◌*◌, ◌/◌, ◌%◌, ◌^◌, ◌≤◌, ◌<◌}
use native.Mathlib.Nat.{pow-suc}
use native.Mathlib.Omega.{arith}
use borrow.Author.Tests.{lt-ltb, le-ltb, ltb-true, ltb-false}
use lib.Dec.{ltb}
use lib.ListN.{length}
use Rattle.terms.proofs.Tests.{when_true, when_false}
use Rattle.numbers.specs.Numbers.{written}

pub written_one : (g v : ℕ) → v < 128 → written (suc g) v ≡ v ∷ []
unfolding written
written_one g v h = when_true _ _ (lt-ltb v 128 h)

pub written_more : (g v : ℕ) → 128 ≤ v → written (suc g) v ≡ (v % 128 + 128) ∷ written g (v / 128)
unfolding written
written_more g v h = when_false _ _ (le-ltb v 128 h)

-- More groups than a number needs change nothing.
enough_by : (g v : ℕ) (t : Bool) → ltb v 128 ≡ t → (128 ≤ v → written g (v / 128) ≡ written (suc g) (v / 128))
    → written (suc g) v ≡ written (suc (suc g)) v
enough_by g v true e same = let h = ltb-true v 128 e in written_one g v h ∙ sym (written_one (suc g) v h)
enough_by g v false e same =
    let h = ltb-false v 128 e in
    written_more g v h ∙ ap (λ (l : List ℕ). (v % 128 + 128) ∷ l) (same h) ∙ sym (written_more (suc g) v h)

pub written_enough : (g v : ℕ) → v < 128 ^ suc g → written (suc g) v ≡ written (suc (suc g)) v
written_enough zero v h =
    let p : 128 ^ 1 ≡ 128 = refl in
    enough_by 0 v (ltb v 128) refl (λ q. absurd (omega (arith, h, p, q)))
written_enough (suc g) v h =
    let p : 128 ^ suc (suc g) ≡ 128 ^ suc g * 128 = pow-suc 128 (suc g) in
    enough_by (suc g) v (ltb v 128) refl (λ q. let less : v / 128 < 128 ^ suc g = omega (arith, h, p) in written_enough g (v / 128) less)

-- A number has at most so many groups.
length_by : (g v : ℕ) (t : Bool) → ltb v 128 ≡ t → length (written g (v / 128)) ≤ g → length (written (suc g) v) ≤ suc g
length_by g v true e h = let w = ap length (written_one g v (ltb-true v 128 e)) in omega (arith, w)
length_by g v false e h = let w = ap length (written_more g v (ltb-false v 128 e)) in omega (arith, w, h)

pub written_length : (g v : ℕ) → length (written g v) ≤ g
unfolding written
written_length zero v = omega arith
written_length (suc g) v = length_by g v (ltb v 128) refl (written_length g (v / 128))
