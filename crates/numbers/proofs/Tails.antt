-- What stands after a number: the last bytes, fewer than there were.
-- Assumes nothing.
use mathlib.Core.Bool.{Bool, true, false}
use mathlib.Core.List.{List, [], ◌∷◌}
use mathlib.Core.Path.{◌≡◌, refl, sym, ap, ◌∙◌}
use Prim.Native.Nat.{ℕ, zero, suc, ◌+◌, ◌-◌, ◌*◌, ◌<◌}
use native.Mathlib.Omega.{arith}
use borrow.Author.Tests.{lt-ltb, ltb-true}
use lib.Dec.{eqb, ltb}
use lib.ListN.{length, drop}
use Rattle.terms.specs.Choice.{when}
use Rattle.terms.proofs.Tests.{when_true}
use Rattle.numbers.specs.Numbers.{Reading, found, bad, above, longer, number, below, number_in}
use Rattle.numbers.proofs.Back.{not_bad, rest_in}

pub record Tail (bytes rest : List ℕ) : Type 0 where
  pub shorter : length rest < length bytes
  pub last : rest ≡ drop (length bytes - length rest) bytes

tail_one : (b : ℕ) (bytes rest : List ℕ) → bytes ≡ rest → Tail (b ∷ bytes) rest
tail_one b bytes rest e =
    let l : length bytes ≡ length rest = ap length e in
    let one : suc (length bytes) - length rest ≡ 1 = omega arith in
    record { shorter = omega arith; last = sym e ∙ sym (ap (λ (n : ℕ). drop n (b ∷ bytes)) one) }

tail_more : (b : ℕ) (bytes rest : List ℕ) → Tail bytes rest → Tail (b ∷ bytes) rest
tail_more b bytes rest t =
    let h = t.shorter in
    let one : suc (length bytes) - length rest ≡ suc (length bytes - length rest) = omega arith in
    record { shorter = omega arith; last = t.last ∙ sym (ap (λ (n : ℕ). drop n (b ∷ bytes)) one) }

module _ (g b : ℕ) (bytes : List ℕ) (v : ℕ) (rest : List ℕ) (same : (w : ℕ) (r : List ℕ) → number g bytes ≡ found w r → Tail bytes r) where
  tail_above : (w : ℕ) (r : List ℕ) (t : Bool) → Tail bytes r → when t bad (found (b - 128 + w * 128) r) ≡ found v rest → Tail (b ∷ bytes) rest
  unfolding when
  tail_above w r true k e = absurd (not_bad e)
  tail_above w r false k e = let q : r ≡ rest = ap rest_in e in rw (← q) (tail_more b bytes r k)

  tail_longer : (x : Reading) → number g bytes ≡ x → longer (b - 128) x ≡ found v rest → Tail (b ∷ bytes) rest
  unfolding above
  tail_longer (found w r) q e = tail_above w r (eqb w 0) (same w r q) e
  tail_longer bad q e = absurd (not_bad e)

  tail_group : (t : Bool) → when t (found b bytes) (longer (b - 128) (number g bytes)) ≡ found v rest → Tail (b ∷ bytes) rest
  unfolding when
  tail_group true e = tail_one b bytes rest (ap rest_in e)
  tail_group false e = tail_longer (number g bytes) refl e

pub number_tail : (g : ℕ) (bytes : List ℕ) (v : ℕ) (rest : List ℕ) → number g bytes ≡ found v rest → Tail bytes rest
unfolding number
number_tail zero bytes v rest e = absurd (not_bad e)
number_tail (suc g) [] v rest e = absurd (not_bad e)
number_tail (suc g) (b ∷ bytes) v rest e = tail_group g b bytes v rest (λ w r q. number_tail g bytes w r q) (ltb b 128) e

-- A number below its bound is a number.
pub record Below (m : ℕ) (x : Reading) (v : ℕ) (rest : List ℕ) : Type 0 where
  pub is : x ≡ found v rest
  pub less : v < m

below_by : (m w v : ℕ) (r rest : List ℕ) (t : Bool) → ltb w m ≡ t → when t (found w r) bad ≡ found v rest → Below m (found w r) v rest
unfolding when
below_by m w v r rest true q e = let same : w ≡ v = cc in record { is = e; less = rw (← same) (ltb-true w m q) }
below_by m w v r rest false q e = absurd (not_bad e)

below_is : (m : ℕ) (x : Reading) (v : ℕ) (rest : List ℕ) → below m x ≡ found v rest → Below m x v rest
below_is m (found w r) v rest e = below_by m w v r rest (ltb w m) refl e
below_is m bad v rest e = absurd (not_bad e)

module _ (g m : ℕ) where
  pub in_number : (bytes : List ℕ) (v : ℕ) (rest : List ℕ) → number_in g m bytes ≡ found v rest → Below m (number g bytes) v rest
  unfolding number_in
  in_number bytes v rest e = below_is m (number g bytes) v rest e

  pub in_tail : (bytes : List ℕ) (v : ℕ) (rest : List ℕ) → number_in g m bytes ≡ found v rest → Tail bytes rest
  in_tail bytes v rest e = number_tail g bytes v rest (in_number bytes v rest e).is

  pub number_in_lem : (bytes : List ℕ) (v : ℕ) (rest : List ℕ) → number g bytes ≡ found v rest → v < m → number_in g m bytes ≡ found v rest
  unfolding number_in
  number_in_lem bytes v rest e h = ap (below m) e ∙ when_true _ _ (lt-ltb v m h)
