-- Pulses one after the other: one of them, some and then others, and rounds of as many each.
-- Assumes nothing.
use mathlib.Core.List.{List}
use mathlib.Core.Path.{◌≡◌, sym, subst}
use Prim.Native.Nat.{ℕ, zero, suc, ◌+◌, ◌*◌, ◌<◌}
use native.Mathlib.Nat.{zero-add, zero-mul, suc-mul}
use native.Mathlib.Numerals.{add-one}
use native.Mathlib.Omega.{arith}
use Rattle.load.specs.declared.Load.{Load}
use Rattle.conversation.specs.Conversation.{Talk, talked, Open, Reach, stay, step}

module _ {load : Load} {image : List ℕ} where
  pub counted : {m n : ℕ} {a b : Talk} → m ≡ n → Reach load image m a b → Reach load image n a b
  counted {a = a} {b = b} e r = subst (λ (k : ℕ). Reach load image k a b) e r

  pub ending : {n : ℕ} {a b c : Talk} → b ≡ c → Reach load image n a b → Reach load image n a c
  ending {n = n} {a = a} e r = subst (λ (x : Talk). Reach load image n a x) e r

  pub one : (a b : Talk) → Open a → talked load image a ≡ b → Reach load image 1 a b
  one a b o e = step 0 a b o (subst (λ (x : Talk). Reach load image 0 x b) (sym e) (stay b))

  joined : (m n : ℕ) (a b c : Talk) → Reach load image m a b → Reach load image n b c → Reach load image (m + n) a c
  joined _ n _ _ c (stay a) s = counted (sym (zero-add n)) s
  joined _ n _ _ c (step k a b o r) s =
      let sum : k + n + 1 ≡ k + 1 + n = omega arith in
      counted sum (step (k + n) a c o (joined k n (talked load image a) b c r s))

  pub and_then : {m n : ℕ} {a b c : Talk} → Reach load image m a b → Reach load image n b c → Reach load image (m + n) a c
  and_then r s = joined _ _ _ _ _ r s

  -- Rounds of m pulses each.
  pub rounds : (m : ℕ) (at : ℕ → Talk) (k : ℕ) → ((i : ℕ) → i < k → Reach load image m (at i) (at (i + 1)))
      → Reach load image (k * m) (at 0) (at k)
  rounds m at zero round = counted (sym (zero-mul m)) (stay (at 0))
  rounds m at (suc k) round =
      let last : Reach load image m (at k) (at (suc k)) =
      subst (λ (x : ℕ). Reach load image m (at k) (at x)) (add-one k) (round k (omega arith)) in
      counted (sym (suc-mul k m)) (and_then (rounds m at k (λ i h. round i (omega arith))) last)
