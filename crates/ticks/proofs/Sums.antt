-- What the ten add up to, and what they are after more ticks for one of them.
-- Assumes nothing.
use Rattle.std.proofs.Common.{◌≡◌, ℕ, zero, suc, ◌+◌, ◌-◌, ◌<◌, Bool, true, false, eqb, sym, refl, ap, ◌∙◌, true≢false, mod-eq_of_lt, arith, eq-eqb, ne_eqb, eqb-true}
use borrow.Author.Tests.{eqb-false}
use Rattle.terms.specs.Choice.{when}
use Rattle.terms.proofs.Tests.{when_true, when_false, when_elim}
use Rattle.lent.specs.Bytes.{total}
use Rattle.units.specs.declared.Ticks.{Ticks}
use Rattle.place.specs.Phases.{ended}
use Rattle.place.specs.declared.Acknowledgement.{Acknowledgement}
use Rattle.place.specs.declared.Acknowledgement.TheVariants.{Ram, Programming, Verification}
use Rattle.place.specs.declared.Phase.{Phase}
use Rattle.place.specs.declared.Phase.TheVariants.{Calibration, Handshake, Connection, Version, Command, Zeros, Size, Image, Wait, Ended}
use Rattle.ticks.specs.Ticks.{none, wait_number, phase_number, sum, ticks_of, more, added, holder, with_pulse}
use Rattle.ticks.specs.declared.PhaseTicks.{PhaseTicks}

pub sum_is : (p : PhaseTicks) → sum p
    ≡ p.calibration.0 + p.handshake.0 + p.connection.0 + p.version.0 + p.command.0 + p.size.0 + p.image.0 + p.ram.0
    + p.programming.0 + p.verification.0
unfolding sum total
sum_is p = omega arith

-- What phase k gets of ticks that are for phase n.
abbrev pub share : ℕ → ℕ → ℕ → ℕ
share k n x = when (eqb k n) x 0

module _ (k n x : ℕ) where
  pub share_all : k ≡ n → share k n x ≡ x
  share_all e = when_true _ _ (eq-eqb k n e)

  pub share_none : (k ≡ n → ⊥) → share k n x ≡ 0
  share_none e = when_false _ _ (ne_eqb k n e)

-- One of the ten gets the ticks. Where their sum fits, so does each.
abbrev pub Fits : ℕ → Type 0
Fits x = x < 18446744073709551616

field_more : (n k : ℕ) (t : Ticks) (x : ℕ) → Fits (t.0 + x) → (when (eqb n k) (record { 0 = more t.0 x }) t).0 ≡ t.0 + share k n x
field_more n k t x h = decide (eqb n k) refl where
  decide : (b : Bool) → eqb n k ≡ b → (when (eqb n k) (record { 0 = more t.0 x }) t).0 ≡ t.0 + share k n x
  decide true e =
      let left : (when (eqb n k) (record { 0 = more t.0 x }) t).0 ≡ t.0 + x =
      ap (λ (y : Ticks). y.0) (when_true _ _ e) ∙ mod-eq_of_lt h in
      omega (arith, left, share_all k n x (sym (eqb-true n k e)))
  decide false e =
      let other = eqb-false n k e in
      let left : (when (eqb n k) (record { 0 = more t.0 x }) t).0 ≡ t.0 = ap (λ (y : Ticks). y.0) (when_false _ _ e) in
      omega (arith, left, share_none k n x (λ z. other (sym z)))

module _ (p : PhaseTicks) (x : ℕ) (fits : Fits (sum p + x)) where
  pub added_ticks : (n k : ℕ) → n < 10 → ticks_of (added p n x) k ≡ ticks_of p k + share k n x
  unfolding added
  added_ticks n zero h = field_more n 0 p.calibration x (omega (arith, fits, sum_is p))
  added_ticks n (suc zero) h = field_more n 1 p.handshake x (omega (arith, fits, sum_is p))
  added_ticks n (suc (suc zero)) h = field_more n 2 p.connection x (omega (arith, fits, sum_is p))
  added_ticks n (suc (suc (suc zero))) h = field_more n 3 p.version x (omega (arith, fits, sum_is p))
  added_ticks n (suc (suc (suc (suc zero)))) h = field_more n 4 p.command x (omega (arith, fits, sum_is p))
  added_ticks n (suc (suc (suc (suc (suc zero))))) h = field_more n 5 p.size x (omega (arith, fits, sum_is p))
  added_ticks n (suc (suc (suc (suc (suc (suc zero)))))) h = field_more n 6 p.image x (omega (arith, fits, sum_is p))
  added_ticks n (suc (suc (suc (suc (suc (suc (suc zero))))))) h = field_more n 7 p.ram x (omega (arith, fits, sum_is p))
  added_ticks n (suc (suc (suc (suc (suc (suc (suc (suc zero)))))))) h = field_more n 8 p.programming x (omega (arith, fits, sum_is p))
  added_ticks n (suc (suc (suc (suc (suc (suc (suc (suc (suc zero))))))))) h = field_more n 9 p.verification x (omega (arith, fits, sum_is p))
  added_ticks n (suc (suc (suc (suc (suc (suc (suc (suc (suc (suc k)))))))))) h =
      omega (arith, share_none (suc (suc (suc (suc (suc (suc (suc (suc (suc (suc k)))))))))) n x (λ e. omega (arith, e, h)))

-- The shares of the ten in ticks for one of them.
abbrev shares : ℕ → ℕ → ℕ
shares n x =
    share 0 n x + share 1 n x + share 2 n x + share 3 n x + share 4 n x + share 5 n x + share 6 n x + share 7 n x + share 8 n x + share 9 n x

one_share : (n x : ℕ) → n < 10 → shares n x ≡ x
unfolding when
one_share zero x h = omega arith
one_share (suc zero) x h = omega arith
one_share (suc (suc zero)) x h = omega arith
one_share (suc (suc (suc zero))) x h = omega arith
one_share (suc (suc (suc (suc zero)))) x h = omega arith
one_share (suc (suc (suc (suc (suc zero))))) x h = omega arith
one_share (suc (suc (suc (suc (suc (suc zero)))))) x h = omega arith
one_share (suc (suc (suc (suc (suc (suc (suc zero))))))) x h = omega arith
one_share (suc (suc (suc (suc (suc (suc (suc (suc zero)))))))) x h = omega arith
one_share (suc (suc (suc (suc (suc (suc (suc (suc (suc zero))))))))) x h = omega arith
one_share (suc (suc (suc (suc (suc (suc (suc (suc (suc (suc n)))))))))) x h = absurd (omega (arith, h))

apart : (a0 a1 a2 a3 a4 a5 a6 a7 a8 a9 s0 s1 s2 s3 s4 s5 s6 s7 s8 s9 : ℕ)
    → a0 + s0 + (a1 + s1) + (a2 + s2) + (a3 + s3) + (a4 + s4) + (a5 + s5) + (a6 + s6) + (a7 + s7) + (a8 + s8) + (a9 + s9)
    ≡ a0 + a1 + a2 + a3 + a4 + a5 + a6 + a7 + a8 + a9 + (s0 + s1 + s2 + s3 + s4 + s5 + s6 + s7 + s8 + s9)
apart a0 a1 a2 a3 a4 a5 a6 a7 a8 a9 s0 s1 s2 s3 s4 s5 s6 s7 s8 s9 = omega arith

added_sum : (p : PhaseTicks) (x : ℕ) → Fits (sum p + x) → (n : ℕ) → n < 10 → sum (added p n x) ≡ sum p + x
added_sum p x fits n h =
    let at : (k : ℕ) → ticks_of (added p n x) k ≡ ticks_of p k + share k n x = λ k. added_ticks p x fits n k h in
    sum_is (added p n x) ∙ rw (at 0, at 1, at 2, at 3, at 4, at 5, at 6, at 7, at 8, at 9, apart, one_share n x h, sum_is p)

-- A session that goes on is in one of the ten.
wait_number_lem : (a : Acknowledgement) → wait_number a < 10
wait_number_lem Ram = omega arith
wait_number_lem Programming = omega arith
wait_number_lem Verification = omega arith

pub phase_number_lem : (phase : Phase) → ended phase ≡ false → phase_number phase < 10
phase_number_lem Calibration e = omega arith
phase_number_lem Handshake e = omega arith
phase_number_lem Connection e = omega arith
phase_number_lem (Version v) e = omega arith
phase_number_lem Command e = omega arith
phase_number_lem Zeros e = omega arith
phase_number_lem Size e = omega arith
phase_number_lem Image e = omega arith
phase_number_lem (Wait a) e = wait_number_lem a
phase_number_lem (Ended x) e = absurd (true≢false e)

-- After a pulse: their sum, and each of them.
pub holder_first : (own index : ℕ) → index ≡ 0 → holder own index ≡ own - 1
unfolding holder
holder_first own index e = when_true _ _ (eq-eqb index 0 e)

pub holder_own : (own index : ℕ) → (index ≡ 0 → ⊥) → holder own index ≡ own
unfolding holder
holder_own own index e = when_false _ _ (ne_eqb index 0 e)

holder_number : (own index : ℕ) → own < 10 → holder own index < 10
unfolding holder
holder_number own index h = when_elim (λ (n : ℕ). n < 10) (eqb index 0) (own - 1) own (λ e. omega (arith, h)) (λ e. h)

module _ (p : PhaseTicks) (phase : Phase) (index spacer low : ℕ) (on : phase_number phase < 10) (fits : Fits (sum p + spacer + low)) where
  abbrev own : ℕ
  own = phase_number phase

  abbrev held : PhaseTicks
  held = added p (holder own index) spacer

  held_sum : sum held ≡ sum p + spacer
  held_sum = added_sum p spacer (omega (arith, fits)) (holder own index) (holder_number own index on)

  pub pulse_sum : sum (with_pulse p phase index spacer low) ≡ sum p + spacer + low
  pulse_sum = added_sum held low (omega (arith, held_sum, fits)) own on ∙ ap (λ (x : ℕ). x + low) held_sum

  pub pulse_ticks : (k : ℕ) → ticks_of (with_pulse p phase index spacer low) k
      ≡ ticks_of p k + share k (holder own index) spacer + share k own low
  pulse_ticks k =
      added_ticks held low (omega (arith, held_sum, fits)) own k on
      ∙ ap (λ (x : ℕ). x + share k own low)
      (added_ticks p spacer (omega (arith, fits)) (holder own index) k (holder_number own index on))

-- Before the first pulse each is 0.
pub none_ticks : (k : ℕ) → ticks_of none k ≡ 0
none_ticks zero = refl
none_ticks (suc zero) = refl
none_ticks (suc (suc zero)) = refl
none_ticks (suc (suc (suc zero))) = refl
none_ticks (suc (suc (suc (suc zero)))) = refl
none_ticks (suc (suc (suc (suc (suc zero))))) = refl
none_ticks (suc (suc (suc (suc (suc (suc zero)))))) = refl
none_ticks (suc (suc (suc (suc (suc (suc (suc zero))))))) = refl
none_ticks (suc (suc (suc (suc (suc (suc (suc (suc zero)))))))) = refl
none_ticks (suc (suc (suc (suc (suc (suc (suc (suc (suc zero))))))))) = refl
none_ticks (suc (suc (suc (suc (suc (suc (suc (suc (suc (suc k)))))))))) = refl
