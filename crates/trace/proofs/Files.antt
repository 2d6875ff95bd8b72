-- The numbers in some bytes, one after the other: the first, and the numbers in what follows it. That there are no more numbers than
-- bytes is said here once.
-- Assumes nothing.
use mathlib.Core.List.{List, [], ◌∷◌}
use mathlib.Core.Path.{◌≡◌, refl, sym, ap, ◌∙◌}
use Prim.Native.Nat.{ℕ, zero, suc, ◌+◌, ◌-◌, ◌≤◌, ◌<◌}
use native.Mathlib.Nat.{not-suc-le-zero}
use native.Mathlib.Omega.{arith}
use borrow.Author.Tests.{lt-leb}
use lib.ListN.{length, drop, length-drop}
use lib.Seq.{drop-drop}
use Rattle.terms.proofs.Tests.{when_false}
use Rattle.numbers.specs.Numbers.{Reading, found, bad, number_in, placed, number_at}
use Rattle.numbers.specs.declared.Number.{Number}
use Rattle.numbers.specs.declared.NoNumber.{NoNumber}
use Rattle.numbers.specs.declared.NoNumber.TheVariants.{End, Bad}
use Rattle.std.specs.Prelude.{Result, Ok, Err}
use Rattle.numbers.proofs.Tails.{in_tail}
use Rattle.trace.specs.Traces.{good, faulty, after, onward, up_to, numbers_in}

module _ (g m : ℕ) where
  -- However many numbers there may be, where there may be as many as bytes.
  module _ (n k b : ℕ) (bytes : List ℕ) (same : (rest : List ℕ) → length rest ≤ length bytes → up_to g m n rest ≡ up_to g m k rest) where
    enough_from : (x : Reading) → number_in g m (b ∷ bytes) ≡ x → onward (up_to g m n) x ≡ onward (up_to g m k) x
    enough_from (found v rest) e =
        let s = (in_tail g m (b ∷ bytes) v rest e).shorter in
        let l : length rest ≤ length bytes = omega (arith, s) in
        ap (after v) (same rest l)
    enough_from bad e = refl

  enough : (n k : ℕ) (bytes : List ℕ) → length bytes ≤ n → length bytes ≤ k → up_to g m n bytes ≡ up_to g m k bytes
  unfolding up_to
  enough zero zero [] h l = refl
  enough zero (suc k) [] h l = refl
  enough (suc n) zero [] h l = refl
  enough (suc n) (suc k) [] h l = refl
  enough zero k (b ∷ bytes) h l = absurd (not-suc-le-zero h)
  enough (suc n) zero (b ∷ bytes) h l = absurd (not-suc-le-zero l)
  enough (suc n) (suc k) (b ∷ bytes) h l =
      enough_from n k b bytes (λ rest s. enough n k rest (omega arith) (omega arith)) (number_in g m (b ∷ bytes)) refl

  pub in_none : numbers_in g m [] ≡ good []
  unfolding numbers_in up_to
  in_none = refl

  pub in_more : (bytes : List ℕ) (v : ℕ) (rest : List ℕ) → number_in g m bytes ≡ found v rest → numbers_in g m bytes ≡ after v (numbers_in g m rest)
  unfolding numbers_in up_to
  in_more [] v rest e = absurd (not-suc-le-zero (in_tail g m [] v rest e).shorter)
  in_more (b ∷ bytes) v rest e =
      let s = (in_tail g m (b ∷ bytes) v rest e).shorter in
      let l : length rest ≤ length bytes = omega (arith, s) in
      let z : length rest ≤ length rest = omega arith in
      ap (onward (up_to g m (length bytes))) e ∙ ap (after v) (enough (length bytes) (length rest) rest l z)

  pub in_bad : (bytes : List ℕ) → 0 < length bytes → number_in g m bytes ≡ bad → numbers_in g m bytes ≡ faulty
  unfolding numbers_in up_to
  in_bad [] h e = absurd (not-suc-le-zero h)
  in_bad (b ∷ bytes) h e = ap (onward (up_to g m (length bytes))) e

  -- What an answer at a place says.
  module _ (trace : List ℕ) (at : ℕ) (h : at < length trace) where
    pub record Read (n : Number) : Type 0 where
      pub is : number_in g m (drop at trace) ≡ found n.value (drop n.next.0 trace)
      pub forward : at < n.next.0
      pub inside : n.next.0 ≤ length trace

    found_read : (n : Number) (x : Reading) → number_in g m (drop at trace) ≡ x → placed (length trace) x ≡ Ok n → Read n
    found_read n (found v rest) e q =
        let t = in_tail g m (drop at trace) v rest e in
        let d = length-drop at trace in
        let same : ◌≡◌ {A = Number} (record { value = v; next = record { 0 = length trace - length rest } }) n = cc in
        let s = t.shorter in
        let next : length trace - length rest ≡ n.next.0 = ap (λ (y : Number). y.next.0) same in
        let place : at + (length (drop at trace) - length rest) ≡ n.next.0 = omega (arith, s, d, next) in
        record {
          is = e ∙ ap (λ (w : ℕ). found w rest) (ap (λ (y : Number). y.value) same)
              ∙ ap (found n.value) (t.last ∙ drop-drop (length (drop at trace) - length rest) at trace ∙ ap (λ (k : ℕ). drop k trace) place);
          forward = omega (arith, s, d, next);
          inside = omega (arith, s, d, next);
        }
    found_read n bad e q = let z : ◌≡◌ {A = ℕ} 0 1 = cc in absurd (omega arith)

    bad_read : (x : Reading) → number_in g m (drop at trace) ≡ x → placed (length trace) x ≡ Err Bad → number_in g m (drop at trace) ≡ bad
    bad_read (found v rest) e q = let z : ◌≡◌ {A = ℕ} 0 1 = cc in absurd (omega arith)
    bad_read bad e q = e

    end_read : (x : Reading) → placed (length trace) x ≡ Err End → ⊥
    end_read (found v rest) q = let z : ◌≡◌ {A = ℕ} 0 1 = cc in omega arith
    end_read bad q = let z : ◌≡◌ {A = ℕ} 0 1 = cc in omega arith

    module _ (r : Result Number NoNumber) (p : r ≡ number_at g m trace at) where
      answers : r ≡ placed (length trace) (number_in g m (drop at trace))
      unfolding number_at
      answers = p ∙ when_false _ _ (lt-leb (length trace) at h)

      pub value_read : (n : Number) → r ≡ Ok n → Read n
      value_read n e = found_read n (number_in g m (drop at trace)) refl (sym answers ∙ e)

      pub bad_here : r ≡ Err Bad → numbers_in g m (drop at trace) ≡ faulty
      bad_here e = in_bad (drop at trace) (omega (arith, length-drop at trace)) (bad_read (number_in g m (drop at trace)) refl (sym answers ∙ e))

      pub not_end : r ≡ Err End → ⊥
      not_end e = end_read (number_in g m (drop at trace)) (sym answers ∙ e)
