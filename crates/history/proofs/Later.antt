-- What is known of the chip, one pulse later, one draw more and one bit of the command more.
-- Assumes nothing.
use mathlib.Core.Bool.{Bool, true, false}
use mathlib.Core.Path.{◌≡◌, refl, sym, ap, ◌∙◌}
use Prim.Native.Nat.{ℕ, suc, ◌+◌, ◌-◌, ◌*◌, ◌^◌, ◌≤◌, ◌<◌}
use native.Mathlib.Numerals.{add-one}
use native.Mathlib.Omega.{arith}
use lib.Dec.{eqb}
use borrow.Author.Tests.{eqb-true, eqb-false}
use Rattle.terms.specs.Choice.{when}
use Rattle.sequence.specs.Sequence.{draw}
use Rattle.listener.specs.Heard.{agree}
use Rattle.line.specs.Reading.{reads, grown}
use Rattle.history.specs.Download.{spelled, bit_of, Acknowledged}
use Rattle.history.proofs.Known.{Matched, Commanding, Commanded}
use Rattle.history.proofs.Spelling.{grown_above}

pub agree_same : (a b : Bool) → agree a b ≡ true → a ≡ b
agree_same true b e = sym e
agree_same false true e = e
agree_same false false e = refl

-- One pulse later what does not go by their number still stands.
pub later : (low : ℕ → ℕ) (n t c : ℕ) → Commanded low n t c → Commanded low (n + 1) t c
later low n t c k = record {
  pulses = let p : 800 ≤ n = k.pulses in omega (arith, p);
  shaken = k.shaken;
  is = k.is;
  least = k.least;
  most = k.most;
}

pub since : (wait low : ℕ → ℕ) (n : ℕ) → Acknowledged wait low n → Acknowledged wait low (n + 1)
since wait low n a = record {
  pulses = a.pulses;
  earlier = let p : a.pulses < n = a.earlier in omega (arith, p);
  state = a.state;
  played = a.played;
  answering = a.answering;
  sum = a.sum;
}

-- A draw more.
matched_at : (low : ℕ → ℕ) (t k j : ℕ) (b : Bool) → eqb j k ≡ b → Matched low t k → bit_of low (k + 2) ≡ draw k → 1 ≤ j → j < k + 1
    → bit_of low (j + 2) ≡ draw j
matched_at low t k j true e m p l u = let same : j ≡ k = eqb-true j k e in rw same p
matched_at low t k j false e m p l u = let other : j ≡ k → ⊥ = eqb-false j k e in m.matched j l (omega arith)

pub matched_more : (low : ℕ → ℕ) (t k : ℕ) → Matched low t k → bit_of low (k + 2) ≡ draw k → Matched low t (k + 1)
matched_more low t k m p = record { calibrated = m.calibrated; matched = λ j l u. matched_at low t k j (eqb j k) refl m p l u }

-- A bit more of the command.
pub read_more : (low : ℕ → ℕ) (n t i bits : ℕ) → Commanding low n t i bits
    → grown bits (reads t (low (n + 1))) ≡ spelled (λ (j : ℕ). bit_of low (769 + j)) (i + 1) * 2 ^ (31 - i)
unfolding spelled
read_more low n t i bits k =
    let s = spelled (λ (j : ℕ). bit_of low (769 + j)) i in
    let most : i ≤ 31 = k.most in
    let sent : n ≡ 768 + i = k.pulses in
    let places : i + (31 - i) ≡ 31 = omega arith in
    let zeros : 32 - i ≡ suc (31 - i) = omega arith in
    let here : n + 1 ≡ 769 + i = omega arith in
    let above : bits ≡ s * 2 ^ suc (31 - i) = k.above ∙ ap (λ (x : ℕ). s * 2 ^ x) zeros in
    let bit : reads t (low (n + 1)) ≡ bit_of low (769 + i) =
    ap (λ (x : ℕ). reads t (low x)) here ∙ ap (λ (x : ℕ). reads x (low (769 + i))) k.shaken.calibrated in
    grown_above s i (31 - i) bits places above (reads t (low (n + 1)))
    ∙ ap (λ (b : Bool). (s + when b (2 ^ i) 0) * 2 ^ (31 - i)) bit
    ∙ ap (λ (m : ℕ). spelled (λ (j : ℕ). bit_of low (769 + j)) m * 2 ^ (31 - i)) (sym (add-one i))
