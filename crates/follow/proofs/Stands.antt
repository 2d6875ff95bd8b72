-- A place that a load's session has stays one: `next_stands`, by the phases in their order. With it goes the bound on the pulses sent.
-- Assumes nothing.
use mathlib.Core.Bool.{false, true≢false}
use mathlib.Core.Path.{◌≡◌, refl}
use Prim.Native.Nat.{ℕ, ◌+◌, ◌*◌, ◌/◌, ◌<◌, ◌≤◌}
use native.Mathlib.Omega.{arith}
use lib.Dec.{ltb, eqb}
use borrow.Author.Tests.{ltb-true, eqb-false}
use Rattle.terms.proofs.Tests.{when_elim}
use Rattle.load.specs.declared.Load.{Load}
use Rattle.sequence.specs.Sequence.{draw}
use Rattle.units.specs.declared.Seen.{Seen}
use Rattle.units.specs.declared.Seen.TheVariants.{Silence, Zero, One}
use Rattle.bits.specs.Bits.{pair_bit}
use Rattle.follow.specs.Follow.{opened, after, after_version, after_command, onward, shows, after_connection}
use Rattle.follow.specs.Follow.{after_version_pair, after_ram, after_good, bad, after_wait_pair, after_pair, next}
use Rattle.place.specs.Phases.{image_pulses, pairs, places, ended}
use Rattle.range.specs.Ranges.{before, least_command, least_ending}
use Rattle.place.specs.declared.Acknowledgement.{Acknowledgement}
use Rattle.place.specs.declared.Acknowledgement.TheVariants.{Ram, Programming, Verification}
use Rattle.place.specs.declared.Ending.{Ending}
use Rattle.place.specs.declared.Ending.TheVariants.{Done, Lost, WrongVersion, BadRam, BadProgramming, BadVerification}
use Rattle.place.specs.declared.Phase.{Phase}
use Rattle.place.specs.declared.Phase.TheVariants.{Calibration, Handshake, Connection, Version, Command, Zeros, Size, Image, Wait, Ended}
use Rattle.place.specs.declared.Place.{Place}
use Rattle.range.proofs.Bounds.{phase_most}

-- The command has the phase, the phase has the index, and no more pulses were sent than can be before the place.
pub record Stands (load : Load) (pulses : ℕ) (place : Place) : Type 0 where
  pub had : least_command place.phase ≤ load.command
  pub short : place.index < places load place.phase
  pub sent : pulses ≤ before load place.phase + place.index

some_wait : (a : Acknowledgement) → 0 < pairs a * 2
some_wait Ram = omega arith
some_wait Programming = omega arith
some_wait Verification = omega arith

-- A load of a command above 0 has an image.
module _ (load : Load) (long : 1 ≤ load.command → 16 ≤ load.length.0) where
  some_place : (phase : Phase) → least_command phase ≤ load.command → 0 < places load phase
  some_place Calibration h = omega arith
  some_place Handshake h = omega arith
  some_place Connection h = omega arith
  some_place (Version v) h = omega arith
  some_place Command h = omega arith
  some_place Zeros h = omega arith
  some_place Size h = omega arith
  some_place Image h = omega (arith, long h)
  some_place (Wait a) h = some_wait a
  some_place (Ended e) h = omega arith

  module _ (pulses : ℕ) where
    pub opened_stands : (phase : Phase) → least_command phase ≤ load.command → pulses ≤ before load phase
        → Stands load pulses (opened phase)
    opened_stands phase h n = record { had = h; short = some_place phase h; sent = omega (arith, n) }

  -- After one pulse more.
  module _ (pulses i : ℕ) where
    -- What is said of the place at which a pulse is sent.
    abbrev Here : Phase → Type 0
    Here phase = Stands load pulses (record { phase = phase; index = i })

    abbrev Then : Place → Type 0
    Then = Stands load (pulses + 1)

    -- Wherever a session stands, it can end there.
    ended_stands : (phase : Phase) → ended phase ≡ false → Here phase → (e : Ending) → least_ending e ≤ load.command
        → Then (opened (Ended e))
    ended_stands phase on s e h =
        let most = phase_most load phase on in
        record { had = h; short = omega arith; sent = omega (arith, most, s.short, s.sent) }

    opens : (phase : Phase) → least_command phase ≤ load.command → pulses + 1 ≤ before load phase → Then (opened phase)
    opens = opened_stands (pulses + 1)

    after_stands : (phase : Phase) → ended phase ≡ false → Here phase → Then (opened (after load phase))
    unfolding after_version after_command
    after_stands Calibration on s = opens Handshake (omega arith) (omega (arith, s.short, s.sent))
    after_stands Handshake on s = opens Connection (omega arith) (omega (arith, s.short, s.sent))
    after_stands Connection on s = opens (Version 0) (omega arith) (omega (arith, s.short, s.sent))
    after_stands (Version v) on s =
        let n : pulses + 1 ≤ 768 = omega (arith, s.short, s.sent) in
        when_elim (λ (p : Phase). Then (opened p)) (eqb v 1) Command Zeros (λ e. opens Command (omega arith) n) (λ e. opens Zeros (omega arith) n)
    after_stands Command on s =
        let n : pulses + 1 ≤ 800 = omega (arith, s.short, s.sent) in
        when_elim
        (λ (p : Phase). Then (opened p))
        (eqb load.command 0)
        (Ended Done)
        Size
        (λ e. ended_stands Command on s Done (omega arith))
        (λ e. let some = eqb-false load.command 0 e in opens Size (omega (arith, some)) n)
    after_stands Zeros on s = ended_stands Zeros on s WrongVersion (omega arith)
    after_stands Size on s = opens Image s.had (omega (arith, s.short, s.sent))
    after_stands Image on s = opens (Wait Ram) s.had (omega (arith, s.short, s.sent))
    after_stands (Wait a) on s = ended_stands (Wait a) on s Lost (omega arith)
    after_stands (Ended e) on s = absurd (true≢false on)

    pub onward_stands : (phase : Phase) → ended phase ≡ false → Here phase → Then (onward load phase i)
    unfolding onward
    onward_stands phase on s =
        when_elim
        Then
        (ltb (i + 1) (places load phase))
        (record { phase = phase; index = i + 1 })
        (opened (after load phase))
        (λ e. record { had = s.had; short = ltb-true (i + 1) (places load phase) e; sent = omega (arith, s.sent) })
        (λ e. after_stands phase on s)

    good_stands : (a : Acknowledgement) → Here (Wait a) → Then (opened (after_good load.command a))
    unfolding after_ram
    good_stands Ram s =
        let n : pulses + 1 ≤ 832 + image_pulses load + 50 = omega (arith, s.short, s.sent) in
        when_elim
        (λ (p : Phase). Then (opened p))
        (eqb load.command 1)
        (Ended Done)
        (Wait Programming)
        (λ e. ended_stands (Wait Ram) refl s Done (omega arith))
        (λ e. let more = eqb-false load.command 1 e in opens (Wait Programming) (omega (arith, more, s.had)) n)
    good_stands Programming s = opens (Wait Verification) s.had (omega (arith, s.short, s.sent))
    good_stands Verification s = ended_stands (Wait Verification) refl s Done (omega arith)

    bad_stands : (a : Acknowledgement) → Here (Wait a) → Then (opened (Ended (bad a)))
    bad_stands Ram s = ended_stands (Wait Ram) refl s BadRam s.had
    bad_stands Programming s = ended_stands (Wait Programming) refl s BadProgramming s.had
    bad_stands Verification s = ended_stands (Wait Verification) refl s BadVerification s.had

    lost_stands : (phase : Phase) → ended phase ≡ false → Here phase → Then (opened (Ended Lost))
    lost_stands phase on s = ended_stands phase on s Lost (omega arith)

    version_stands : (v : ℕ) (seen : Seen) → Here (Version v) → Then (after_version_pair load v i seen)
    version_stands v Silence s = lost_stands (Version v) refl s
    version_stands v Zero s = onward_stands (Version (v / 2)) refl (record { had = s.had; short = s.short; sent = s.sent })
    version_stands v One s = onward_stands (Version (v / 2 + 128)) refl (record { had = s.had; short = s.short; sent = s.sent })

    wait_stands : (a : Acknowledgement) (seen : Seen) → Here (Wait a) → Then (after_wait_pair load a i seen)
    wait_stands a Silence s = onward_stands (Wait a) refl s
    wait_stands a Zero s = good_stands a s
    wait_stands a One s = bad_stands a s

    pair_stands : (phase : Phase) (seen : Seen) → ended phase ≡ false → Here phase → Then (after_pair load phase i seen)
    unfolding after_connection
    pair_stands Calibration seen on s = onward_stands Calibration on s
    pair_stands Handshake seen on s = onward_stands Handshake on s
    pair_stands Connection seen on s =
        when_elim
        Then
        (shows seen (draw (251 + i / 2)))
        (onward load Connection i)
        (opened (Ended Lost))
        (λ e. onward_stands Connection on s)
        (λ e. lost_stands Connection on s)
    pair_stands (Version v) seen on s = version_stands v seen s
    pair_stands Command seen on s = onward_stands Command on s
    pair_stands Zeros seen on s = onward_stands Zeros on s
    pair_stands Size seen on s = onward_stands Size on s
    pair_stands Image seen on s = onward_stands Image on s
    pair_stands (Wait a) seen on s = wait_stands a seen s
    pair_stands (Ended e) seen on s = absurd (true≢false on)

    pub next_stands : (phase : Phase) (seen : Seen) → ended phase ≡ false → Here phase → Then (next load phase i seen)
    unfolding next
    next_stands phase seen on s =
        when_elim
        Then
        (pair_bit i)
        (onward load phase i)
        (after_pair load phase i seen)
        (λ e. onward_stands phase on s)
        (λ e. pair_stands phase seen on s)
