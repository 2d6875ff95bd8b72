-- Where a byte leaves the session: in a phase of bits what is seen doesn't count, and past a pair no other is on the wire.
-- Assumes nothing.
use mathlib.Core.Bool.{Bool, true, false, not, true≢false, false≢true}
use mathlib.Core.List.{List}
use mathlib.Core.Path.{◌≡◌, refl, sym, ap, ◌∙◌, subst}
use Prim.Native.Nat.{ℕ, ◌+◌, ◌*◌, ◌/◌, ◌%◌, ◌<◌}
use native.Mathlib.Omega.{arith}
use borrow.Author.Tests.{eq-eqb, ne_eqb, eqb-true, eqb-false, lt-ltb, not-true, not-false}
use Rattle.terms.specs.Choice.{both}
use Rattle.terms.proofs.Tests.{when_true, when_false, when_elim, both_true}
use Rattle.load.specs.declared.Load.{Load}
use Rattle.sequence.specs.Sequence.{draw}
use Rattle.units.specs.declared.Seen.{Seen}
use Rattle.units.specs.declared.Seen.TheVariants.{Silence, Zero, One}
use Rattle.bits.specs.Bits.{pair_bit, sent_bit}
use Rattle.follow.specs.Follow.{opened, onward, shows, after_connection, after_version_pair, after_wait_pair, after_pair, next}
use Rattle.place.specs.Phases.{pairs, places, ended}
use Rattle.place.specs.declared.Acknowledgement.{Acknowledgement}
use Rattle.place.specs.declared.Acknowledgement.TheVariants.{Ram, Programming, Verification}
use Rattle.place.specs.declared.Phase.{Phase}
use Rattle.place.specs.declared.Phase.TheVariants.{Calibration, Handshake, Connection, Version, Command, Zeros, Size, Image, Wait, Ended}
use Rattle.place.specs.declared.Place.{Place}
use Rattle.packing.specs.Phases.{in_pairs}
use Rattle.packing.proofs.Phases.{plain, onward_elim}
use Rattle.packing.proofs.Walks.{Walks, stays, walks}
use Rattle.serial.specs.Phases.{pending}
use Rattle.serial.specs.Replies.{resumed}

-- No pair is on the wire.
abbrev pub Settled : Place → Type 0
Settled p = pending p.phase p.index ≡ false

both_false_r : (a b : Bool) → b ≡ false → both a b ≡ false
unfolding both
both_false_r true b e = e
both_false_r false b e = refl

both_false_l : (a b : Bool) → a ≡ false → both a b ≡ false
unfolding both
both_false_l a b e = rw e refl

-- At a pair's first pulse, and in a phase of bits.
pub first_settled : (phase : Phase) (i : ℕ) → pair_bit i ≡ true → pending phase i ≡ false
unfolding pending
first_settled phase i e = both_false_r (in_pairs phase) (not (pair_bit i)) (ap not e)

pub bits_settled : (phase : Phase) (i : ℕ) → in_pairs phase ≡ false → pending phase i ≡ false
unfolding pending
bits_settled phase i e = both_false_l (in_pairs phase) (not (pair_bit i)) e

pub settled_first : (phase : Phase) (i : ℕ) → in_pairs phase ≡ true → pending phase i ≡ false → pair_bit i ≡ true
unfolding pending both
settled_first phase i e q = not-false (pair_bit i) (sym (ap (λ (b : Bool). both b (not (pair_bit i))) e) ∙ q)

pub pending_second : (phase : Phase) (i : ℕ) → in_pairs phase ≡ true → pair_bit i ≡ false → pending phase i ≡ true
unfolding pending
pending_second phase i e q = (both_true (in_pairs phase) (not (pair_bit i))).1 (e, ap not q)

pub first_even : (i : ℕ) → pair_bit i ≡ true → i % 2 ≡ 0
first_even i e = eqb-true (i % 2) 0 e

pub after_first : (i : ℕ) → pair_bit i ≡ true → pair_bit (i + 1) ≡ false
after_first i e = let even = first_even i e in ne_eqb ((i + 1) % 2) 0 (λ z. omega (arith, even, z))

after_second : (i : ℕ) → pair_bit i ≡ false → pair_bit (i + 1) ≡ true
after_second i e = let odd = eqb-false (i % 2) 0 e in eq-eqb ((i + 1) % 2) 0 (omega (arith, odd))

module _ (load : Load) where
  -- In a phase of bits what is seen doesn't count.
  same_pair : (phase : Phase) (i : ℕ) (s : Seen) → in_pairs phase ≡ false → after_pair load phase i s ≡ onward load phase i
  same_pair Calibration i s e = absurd (true≢false e)
  same_pair Handshake i s e = refl
  same_pair Connection i s e = absurd (true≢false e)
  same_pair (Version v) i s e = absurd (true≢false e)
  same_pair Command i s e = refl
  same_pair Zeros i s e = refl
  same_pair Size i s e = refl
  same_pair Image i s e = refl
  same_pair (Wait a) i s e = absurd (true≢false e)
  same_pair (Ended x) i s e = refl

  pub bits_onward : (phase : Phase) (i : ℕ) (s : Seen) → in_pairs phase ≡ false → next load phase i s ≡ onward load phase i
  unfolding next
  bits_onward phase i s e = when_elim (λ (p : Place). p ≡ onward load phase i) (pair_bit i) _ _ (λ b. refl) (λ b. same_pair phase i s e)

  -- Nor at a pair's first pulse.
  pub first_onward : (phase : Phase) (i : ℕ) (s : Seen) → pair_bit i ≡ true → next load phase i s ≡ onward load phase i
  unfolding next
  first_onward phase i s e = when_true _ _ e

  -- Past a pair's second pulse no pair is on the wire.
  abbrev Even : Place → Type 0
  Even p = pair_bit p.index ≡ true

  module _ (i : ℕ) (odd : pair_bit i ≡ false) where
    opened_even : (to : Phase) → Even (opened to)
    opened_even to = refl

    onward_even : (phase : Phase) → Even (onward load phase i)
    onward_even phase = onward_elim load Even phase i (after_second i odd) opened_even

    version_even : (v : ℕ) (s : Seen) → Even (after_version_pair load v i s)
    version_even v Silence = refl
    version_even v Zero = onward_even (Version (v / 2))
    version_even v One = onward_even (Version (v / 2 + 128))

    wait_even : (a : Acknowledgement) (s : Seen) → Even (after_wait_pair load a i s)
    wait_even a Silence = onward_even (Wait a)
    wait_even a Zero = refl
    wait_even a One = refl

    pair_even : (phase : Phase) (s : Seen) → Even (after_pair load phase i s)
    unfolding after_connection
    pair_even Calibration s = onward_even Calibration
    pair_even Handshake s = onward_even Handshake
    pair_even Connection s = when_elim Even (shows s (draw (251 + i / 2))) _ _ (λ b. onward_even Connection) (λ b. refl)
    pair_even (Version v) s = version_even v s
    pair_even Command s = onward_even Command
    pair_even Zeros s = onward_even Zeros
    pair_even Size s = onward_even Size
    pair_even Image s = onward_even Image
    pair_even (Wait a) s = wait_even a s
    pair_even (Ended e) s = onward_even (Ended e)

    next_even : (phase : Phase) (s : Seen) → Even (next load phase i s)
    unfolding next
    next_even phase s = subst Even (sym (when_false _ _ odd)) (pair_even phase s)

  second_odd : (phase : Phase) (i : ℕ) → pending phase i ≡ true → pair_bit i ≡ false
  unfolding pending
  second_odd phase i e = not-true (pair_bit i) ((both_true (in_pairs phase) (not (pair_bit i))).0 e).1

  pub resumed_settled : (phase : Phase) (i : ℕ) (s : Seen) → Settled (resumed load phase i s)
  unfolding resumed
  resumed_settled phase i s =
      when_elim Settled (pending phase i) _ _ (λ b. first_settled _ _ (next_even i (second_odd phase i b) phase s)) (λ b. b)

  pub resumed_here : (phase : Phase) (i : ℕ) (s : Seen) → pending phase i ≡ false → resumed load phase i s ≡ record { phase = phase; index = i }
  unfolding resumed
  resumed_here phase i s e = when_false _ _ e

  pub resumed_past : (phase : Phase) (i : ℕ) (s : Seen) → pending phase i ≡ true → resumed load phase i s ≡ next load phase i s
  unfolding resumed
  resumed_past phase i s e = when_true _ _ e

  -- A pair's first pulse is never its phase's last.
  wait_whole : (a : Acknowledgement) (i : ℕ) → i % 2 ≡ 0 → i < pairs a * 2 → i + 1 < pairs a * 2
  wait_whole Ram i e h = omega (arith, e, h)
  wait_whole Programming i e h = omega (arith, e, h)
  wait_whole Verification i e h = omega (arith, e, h)

  whole_pairs : (phase : Phase) (i : ℕ) → in_pairs phase ≡ true → i % 2 ≡ 0 → i < places load phase → i + 1 < places load phase
  whole_pairs Calibration i p e h = omega (arith, e, h)
  whole_pairs Handshake i p e h = absurd (false≢true p)
  whole_pairs Connection i p e h = omega (arith, e, h)
  whole_pairs (Version v) i p e h = omega (arith, e, h)
  whole_pairs Command i p e h = absurd (false≢true p)
  whole_pairs Zeros i p e h = absurd (false≢true p)
  whole_pairs Size i p e h = absurd (false≢true p)
  whole_pairs Image i p e h = absurd (false≢true p)
  whole_pairs (Wait a) i p e h = wait_whole a i e h
  whole_pairs (Ended x) i p e h = absurd (false≢true p)

  pub first_next : (phase : Phase) (i : ℕ) (s : Seen) → in_pairs phase ≡ true → pair_bit i ≡ true → i < places load phase
      → next load phase i s ≡ record { phase = phase; index = i + 1 }
  unfolding onward
  first_next phase i s p e h =
      first_onward phase i s e ∙ when_true _ _ (lt-ltb (i + 1) (places load phase) (whole_pairs phase i p (first_even i e) h))

  -- The bits of a phase of pairs.
  pub pair_bits : (image : List ℕ) (phase : Phase) (i : ℕ) → in_pairs phase ≡ true → sent_bit load image phase i ≡ pair_bit i
  pair_bits image Calibration i p = refl
  pair_bits image Handshake i p = absurd (false≢true p)
  pair_bits image Connection i p = refl
  pair_bits image (Version v) i p = refl
  pair_bits image Command i p = absurd (false≢true p)
  pair_bits image Zeros i p = absurd (false≢true p)
  pair_bits image Size i p = absurd (false≢true p)
  pair_bits image Image i p = absurd (false≢true p)
  pair_bits image (Wait a) i p = refl
  pair_bits image (Ended x) i p = absurd (false≢true p)

-- Bits of a run lead to a place at which no pair is on the wire.
module _ (load : Load) (image : List ℕ) where
  pub walks_settled : (p q : Place) (bits : List Bool) → Walks load image p bits q → Settled p → Settled q
  walks_settled p _ _ (stays _) s = s
  walks_settled p q _ (walks _ bits _ on way) s =
      walks_settled _ q bits way
      (onward_elim load Settled p.phase p.index (bits_settled p.phase (p.index + 1) (plain p.phase on).bits) (λ to. first_settled to 0 refl))

-- An ended session sends no pairs.
pub pairs_going : (phase : Phase) → in_pairs phase ≡ true → ended phase ≡ false
pairs_going Calibration p = refl
pairs_going Handshake p = refl
pairs_going Connection p = refl
pairs_going (Version v) p = refl
pairs_going Command p = refl
pairs_going Zeros p = refl
pairs_going Size p = refl
pairs_going Image p = refl
pairs_going (Wait a) p = refl
pairs_going (Ended x) p = absurd (false≢true p)

pub ended_settled : (phase : Phase) (i : ℕ) → ended phase ≡ true → pending phase i ≡ false
ended_settled phase i e = bits_settled phase i (by_pairs (in_pairs phase) refl)
  where
    by_pairs : (b : Bool) → in_pairs phase ≡ b → in_pairs phase ≡ false
    by_pairs true q = absurd (false≢true (sym (pairs_going phase q) ∙ e))
    by_pairs false q = q
