-- The form that is written is the shortest: each group of it but the last stands for a group of any other form.
-- Assumes nothing.
use mathlib.Core.Bool.{Bool, true, false}
use mathlib.Core.List.{List, [], ◌∷◌}
use mathlib.Core.Path.{◌≡◌, refl, ap, ◌∙◌}
use Prim.Native.Nat.{ℕ, zero, suc, ◌-◌, ◌*◌, ◌/◌, ◌^◌, ◌≤◌, ◌<◌}
use native.Mathlib.Nat.{pow-suc, not-suc-le-zero}
use native.Mathlib.Omega.{arith}
use borrow.Author.Tests.{ltb-true, ltb-false}
use lib.Dec.{ltb}
use lib.ListN.{length}
use Rattle.numbers.specs.Forms.{worth, EveryNumber}
use Rattle.numbers.specs.Numbers.{groups, bound, written}
use Rattle.numbers.proofs.Written.{written_one, written_more}
use Rattle.numbers.proofs.Back.{written_number, number_written}
use Rattle.numbers.proofs.Tails.{in_number, number_in_lem}

-- What is written is worth the number.
worth_by : (g v : ℕ) (t : Bool) → ltb v 128 ≡ t → (128 ≤ v → worth (written g (v / 128)) ≡ v / 128) → worth (written (suc g) v) ≡ v
worth_by g v true e f = let h = ltb-true v 128 e in ap worth (written_one g v h) ∙ omega (arith, h)
worth_by g v false e f =
    let h = ltb-false v 128 e in
    let w = f h in
    ap worth (written_more g v h) ∙ omega (arith, w)

worth_written : (g v : ℕ) → v < 128 ^ suc g → worth (written (suc g) v) ≡ v
worth_written zero v h =
    let p : 128 ^ 1 ≡ 128 = refl in
    worth_by 0 v (ltb v 128) refl (λ q. absurd (omega (arith, h, p, q)))
worth_written (suc g) v h =
    let p : 128 ^ suc (suc g) ≡ 128 ^ suc g * 128 = pow-suc 128 (suc g) in
    worth_by (suc g) v (ltb v 128) refl (λ q. let less : v / 128 < 128 ^ suc g = omega (arith, h, p) in worth_written g (v / 128) less)

-- No groups of its worth are fewer.
few_by : (g v n : ℕ) (t : Bool) → ltb v 128 ≡ t → (128 ≤ v → length (written g (v / 128)) ≤ n) → length (written (suc g) v) ≤ suc n
few_by g v n true e f = let w = ap length (written_one g v (ltb-true v 128 e)) in omega (arith, w)
few_by g v n false e f =
    let h = ltb-false v 128 e in
    let w = ap length (written_more g v h) in
    let l = f h in
    omega (arith, w, l)

fewest : (g : ℕ) (bytes : List ℕ) → 0 < length bytes → length (written g (worth bytes)) ≤ length bytes
unfolding written
fewest g [] h = absurd (not-suc-le-zero h)
fewest zero (b ∷ bytes) h = omega arith
fewest (suc g) (b ∷ []) h = few_by g (worth (b ∷ [])) 0 (ltb (worth (b ∷ [])) 128) refl (λ q. absurd (omega (arith, q)))
fewest (suc g) (b ∷ c ∷ bytes) h =
    let v = worth (b ∷ c ∷ bytes) in
    let high : v / 128 ≡ worth (c ∷ bytes) = omega arith in
    few_by g v (length (c ∷ bytes)) (ltb v 128) refl (λ q. rw high (fewest g (c ∷ bytes) (omega arith)))

pub every_number : EveryNumber
every_number = record {
  written_reads = λ v rest h.
      let less : v < 128 ^ groups = omega (arith, h) in
      number_in_lem groups bound _ v rest (written_number (groups - 1) v rest less) h;
  reads_written = λ bytes all v rest e.
      let is = in_number groups bound bytes v rest e in
      (is.less, number_written groups bytes all v rest is.is);
  written_worth = λ v h. let less : v < 128 ^ groups = omega (arith, h) in worth_written (groups - 1) v less;
  shortest = λ bytes h. fewest groups bytes h;
}
