-- Bits of a run, one after the other, lead from a place to a place: by one way only, and with fewer left after each.
-- Assumes nothing.
use mathlib.Core.Bool.{Bool, true, false, true≢false, false≢true}
use mathlib.Core.List.{List, [], ◌∷◌, ◌++◌}
use mathlib.Core.Path.{◌≡◌, refl, sym, ap, ◌∙◌}
use Prim.Native.Nat.{ℕ, suc, ◌+◌, ◌-◌, ◌≤◌, ◌<◌}
use native.Mathlib.Omega.{arith}
use lib.Dec.{eqb, ltb}
use lib.ListN.{length}
use borrow.Author.Tests.{ltb-true}
use Rattle.terms.proofs.Tests.{when_elim}
use Rattle.load.specs.declared.Load.{Load}
use Rattle.bits.specs.Bits.{sent_bit}
use Rattle.follow.specs.Follow.{opened, after, after_command, onward}
use Rattle.place.specs.Phases.{places, image_pulses}
use Rattle.place.specs.declared.Ending.TheVariants.{Done}
use Rattle.place.specs.declared.Phase.{Phase}
use Rattle.place.specs.declared.Phase.TheVariants.{Calibration, Handshake, Connection, Version, Command, Zeros, Size, Image, Wait, Ended}
use Rattle.place.specs.declared.Place.{Place}
use Rattle.packing.specs.Phases.{in_bits}

module _ (load : Load) (image : List ℕ) where
  abbrev pub bit_at : Place → Bool
  bit_at p = sent_bit load image p.phase p.index

  pub data Walks : Place → List Bool → Place → Type 0 where
    stays : (p : Place) → Walks p [] p
    walks : (p : Place) (bits : List Bool) (q : Place) → in_bits p.phase ≡ true
        → Walks (onward load p.phase p.index) bits q → Walks p (bit_at p ∷ bits) q

  pub walks_append : (p q r : Place) (bits more : List Bool) → Walks p bits q → Walks q more r → Walks p (bits ++ more) r
  walks_append p _ r _ more (stays _) rest = rest
  walks_append p q r _ more (walks _ bits _ on first) rest = walks p (bits ++ more) r on (walks_append _ q r bits more first rest)

  -- Two ways out of a run have the same bits.
  pub one_way : (p q r : Place) (bits others : List Bool) → Walks p bits q → Walks p others r → in_bits q.phase ≡ false
      → in_bits r.phase ≡ false → bits ≡ others
  one_way p _ _ _ _ (stays _) (stays _) e f = refl
  one_way p _ r _ _ (stays _) (walks _ bits _ on way) e f = absurd (true≢false (sym on ∙ e))
  one_way p q _ _ _ (walks _ bits _ on way) (stays _) e f = absurd (true≢false (sym on ∙ f))
  one_way p q r _ _ (walks _ bits _ on way) (walks _ others _ on2 way2) e f =
      ap (λ (l : List Bool). bit_at p ∷ l) (one_way _ q r bits others way way2 e f)

-- More than the bits that are left of a run.
abbrev pub left : Load → Phase → ℕ → ℕ
left load Calibration i = 0
left load Handshake i = suc (250 - i)
left load Connection i = 0
left load (Version v) i = 0
left load Command i = suc (32 - i) + 33 + suc (image_pulses load)
left load Zeros i = suc (32 - i)
left load Size i = suc (32 - i) + suc (image_pulses load)
left load Image i = suc (image_pulses load - i)
left load (Wait a) i = 0
left load (Ended e) i = 0

module _ (load : Load) where
  abbrev Below : ℕ → Place → Type 0
  Below n q = suc (left load q.phase q.index) ≤ n

  onward_below : (n : ℕ) (phase : Phase) (i : ℕ) → (i + 1 < places load phase → Below n (record { phase = phase; index = i + 1 }))
      → Below n (opened (after load phase)) → Below n (onward load phase i)
  unfolding onward
  onward_below n phase i here there =
      when_elim (Below n) (ltb (i + 1) (places load phase)) _ _ (λ e. here (ltb-true (i + 1) (places load phase) e)) (λ e. there)

  shrinks : (phase : Phase) (i : ℕ) → in_bits phase ≡ true → Below (left load phase i) (onward load phase i)
  unfolding after_command
  shrinks Calibration i e = absurd (false≢true e)
  shrinks Handshake i e = onward_below _ Handshake i (λ h. omega (arith, h)) (omega arith)
  shrinks Connection i e = absurd (false≢true e)
  shrinks (Version v) i e = absurd (false≢true e)
  shrinks Command i e =
      onward_below _ Command i (λ h. omega (arith, h))
      (when_elim (λ (q : Phase). Below (left load Command i) (opened q)) (eqb load.command 0) (Ended Done) Size (λ b. omega arith) (λ b. omega arith))
  shrinks Zeros i e = onward_below _ Zeros i (λ h. omega (arith, h)) (omega arith)
  shrinks Size i e = onward_below _ Size i (λ h. omega (arith, h)) (omega arith)
  shrinks Image i e = onward_below _ Image i (λ h. omega (arith, h)) (omega arith)
  shrinks (Wait a) i e = absurd (false≢true e)
  shrinks (Ended x) i e = absurd (false≢true e)

  pub way_shrinks : (image : List ℕ) (p q : Place) (bits : List Bool) → Walks load image p bits q
      → length bits + left load q.phase q.index ≤ left load p.phase p.index
  way_shrinks image p _ _ (stays _) = omega arith
  way_shrinks image p q _ (walks _ bits _ on way) =
      let one = shrinks p.phase p.index on in
      let rest = way_shrinks image _ q bits way in
      omega (arith, one, rest)
