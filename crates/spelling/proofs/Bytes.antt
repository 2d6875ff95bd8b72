-- How many bytes can have been sent before a place: a pair takes one, and so does each bit at most.
-- Assumes nothing.
use mathlib.Core.Bool.{true, false, true≢false, false≢true}
use mathlib.Core.Path.{◌≡◌, sym, subst}
use Prim.Native.Nat.{ℕ, suc, ◌+◌, ◌*◌, ◌/◌, ◌%◌, ◌≤◌, ◌<◌}
use native.Mathlib.Omega.{arith}
use lib.Dec.{eqb, ltb}
use Rattle.terms.proofs.Tests.{when_false, when_elim}
use Rattle.load.specs.declared.Load.{Load}
use Rattle.sequence.specs.Sequence.{draw}
use Rattle.units.specs.declared.Seen.{Seen}
use Rattle.units.specs.declared.Seen.TheVariants.{Silence, Zero, One}
use Rattle.bits.specs.Bits.{pair_bit}
use Rattle.follow.specs.Follow.{opened, after, after_version, after_command, onward, shows, after_connection, after_version_pair, after_ram, after_good, after_wait_pair, after_pair, next}
use Rattle.place.specs.Phases.{image_pulses, pairs, places, ended}
use Rattle.place.specs.declared.Acknowledgement.{Acknowledgement}
use Rattle.place.specs.declared.Acknowledgement.TheVariants.{Ram, Programming, Verification}
use Rattle.place.specs.declared.Ending.TheVariants.{Done, Lost}
use Rattle.place.specs.declared.Phase.{Phase}
use Rattle.place.specs.declared.Phase.TheVariants.{Calibration, Handshake, Connection, Version, Command, Zeros, Size, Image, Wait, Ended}
use Rattle.place.specs.declared.Place.{Place}
use Rattle.packing.specs.Phases.{in_pairs}

abbrev waited : Acknowledgement → ℕ
waited Ram = 0
waited Programming = 25
waited Verification = 525

-- Before a phase with so many places of it passed.
abbrev pub bytes_at : Load → Phase → ℕ → ℕ
bytes_at load Calibration i = i / 2
bytes_at load Handshake i = 1 + i
bytes_at load Connection i = 251 + i / 2
bytes_at load (Version v) i = 501 + i / 2
bytes_at load Command i = 509 + i
bytes_at load Zeros i = 509 + i
bytes_at load Size i = 541 + i
bytes_at load Image i = 573 + i
bytes_at load (Wait a) i = 573 + image_pulses load + waited a + i / 2
bytes_at load (Ended e) i = 1298 + image_pulses load

module _ (load : Load) where
  wait_most : (a : Acknowledgement) (i : ℕ) → i < pairs a * 2 → waited a + i / 2 ≤ 725
  wait_most Ram i h = omega (arith, h)
  wait_most Programming i h = omega (arith, h)
  wait_most Verification i h = omega (arith, h)

  pub bytes_most : (phase : Phase) (i : ℕ) → i < places load phase → bytes_at load phase i ≤ image_pulses load + 1298
  bytes_most Calibration i h = omega (arith, h)
  bytes_most Handshake i h = omega (arith, h)
  bytes_most Connection i h = omega (arith, h)
  bytes_most (Version v) i h = omega (arith, h)
  bytes_most Command i h = omega (arith, h)
  bytes_most Zeros i h = omega (arith, h)
  bytes_most Size i h = omega (arith, h)
  bytes_most Image i h = omega (arith, h)
  bytes_most (Wait a) i h = omega (arith, wait_most a i h)
  bytes_most (Ended e) i h = omega arith

  -- At least so many at a place.
  abbrev Least : ℕ → Place → Type 0
  Least n q = n ≤ bytes_at load q.phase q.index

  onward_least : (n : ℕ) (phase : Phase) (i : ℕ) → n ≤ bytes_at load phase (i + 1) → Least n (opened (after load phase))
      → Least n (onward load phase i)
  unfolding onward
  onward_least n phase i here there = when_elim (Least n) (ltb (i + 1) (places load phase)) _ _ (λ b. here) (λ b. there)

  -- A bit is a byte at most.
  pub bit_grows : (phase : Phase) (i : ℕ) → in_pairs phase ≡ false → ended phase ≡ false → i < places load phase
      → Least (suc (bytes_at load phase i)) (onward load phase i)
  unfolding after_command
  bit_grows Calibration i p on h = absurd (true≢false p)
  bit_grows Handshake i p on h = onward_least (suc (1 + i)) Handshake i (omega arith) (omega (arith, h))
  bit_grows Connection i p on h = absurd (true≢false p)
  bit_grows (Version v) i p on h = absurd (true≢false p)
  bit_grows Command i p on h =
      onward_least (suc (509 + i)) Command i (omega arith)
      (when_elim (λ (q : Phase). Least (suc (509 + i)) (opened q)) (eqb load.command 0) (Ended Done) Size (λ b. omega (arith, h)) (λ b. omega (arith, h)))
  bit_grows Zeros i p on h = onward_least (suc (509 + i)) Zeros i (omega arith) (omega (arith, h))
  bit_grows Size i p on h = onward_least (suc (541 + i)) Size i (omega arith) (omega (arith, h))
  bit_grows Image i p on h = onward_least (suc (573 + i)) Image i (omega arith) (omega (arith, h))
  bit_grows (Wait a) i p on h = absurd (true≢false p)
  bit_grows (Ended e) i p on h = absurd (true≢false on)

  -- A pair is one.
  module _ (i : ℕ) (even : i % 2 ≡ 0) where
    version_end : (v : ℕ) → i < 16 → Least (suc (501 + i / 2)) (opened (after_version v))
    unfolding after_version
    version_end v h =
        when_elim (λ (q : Phase). Least (suc (501 + i / 2)) (opened q)) (eqb v 1) Command Zeros (λ b. omega (arith, h, even)) (λ b. omega (arith, h, even))

    version_grows : (v : ℕ) (s : Seen) → i < 16 → Least (suc (501 + i / 2)) (after_version_pair load v (i + 1) s)
    version_grows v Silence h = omega (arith, h)
    version_grows v Zero h = onward_least _ (Version (v / 2)) (i + 1) (omega (arith, even)) (version_end (v / 2) h)
    version_grows v One h = onward_least _ (Version (v / 2 + 128)) (i + 1) (omega (arith, even)) (version_end (v / 2 + 128) h)

    good_grows : (a : Acknowledgement) → i < pairs a * 2
        → Least (suc (573 + image_pulses load + waited a + i / 2)) (opened (after_good load.command a))
    unfolding after_ram
    good_grows Ram h =
        when_elim (λ (q : Phase). Least (suc (573 + image_pulses load + 0 + i / 2)) (opened q)) (eqb load.command 1) (Ended Done) (Wait Programming)
        (λ b. omega (arith, h, even)) (λ b. omega (arith, h, even))
    good_grows Programming h = omega (arith, h, even)
    good_grows Verification h = omega (arith, h, even)

    over_grows : (a : Acknowledgement) → i < pairs a * 2 → suc (573 + image_pulses load + waited a + i / 2) ≤ 1298 + image_pulses load
    over_grows Ram h = omega (arith, h, even)
    over_grows Programming h = omega (arith, h, even)
    over_grows Verification h = omega (arith, h, even)

    wait_grows : (a : Acknowledgement) (s : Seen) → i < pairs a * 2
        → Least (suc (573 + image_pulses load + waited a + i / 2)) (after_wait_pair load a (i + 1) s)
    wait_grows a Silence h = onward_least _ (Wait a) (i + 1) (omega (arith, even)) (over_grows a h)
    wait_grows a Zero h = good_grows a h
    wait_grows a One h = over_grows a h

    pair_after : (phase : Phase) (s : Seen) → in_pairs phase ≡ true → i < places load phase
        → Least (suc (bytes_at load phase i)) (after_pair load phase (i + 1) s)
    unfolding after_connection
    pair_after Calibration s p h = onward_least (suc (i / 2)) Calibration (i + 1) (omega (arith, even)) (omega (arith, h, even))
    pair_after Handshake s p h = absurd (false≢true p)
    pair_after Connection s p h =
        when_elim (Least (suc (251 + i / 2))) (shows s (draw (251 + (i + 1) / 2))) (onward load Connection (i + 1)) (opened (Ended Lost))
        (λ b. onward_least (suc (251 + i / 2)) Connection (i + 1) (omega (arith, even)) (omega (arith, h, even))) (λ b. omega (arith, h))
    pair_after (Version v) s p h = version_grows v s h
    pair_after Command s p h = absurd (false≢true p)
    pair_after Zeros s p h = absurd (false≢true p)
    pair_after Size s p h = absurd (false≢true p)
    pair_after Image s p h = absurd (false≢true p)
    pair_after (Wait a) s p h = wait_grows a s h
    pair_after (Ended e) s p h = absurd (false≢true p)

    pub pair_grows : (phase : Phase) (s : Seen) → in_pairs phase ≡ true → pair_bit (i + 1) ≡ false → i < places load phase
        → Least (suc (bytes_at load phase i)) (next load phase (i + 1) s)
    unfolding next
    pair_grows phase s p odd h = subst (Least (suc (bytes_at load phase i))) (sym (when_false _ _ odd)) (pair_after phase s p h)
