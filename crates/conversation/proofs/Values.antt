-- A value goes over low bit first, one law for the command, the size and each long: after i bits of it the chip holds them above the
-- zeros of those to come, and after 32 the value.
-- Assumes nothing.
use mathlib.Core.Bool.{Bool, true, false, not}
use mathlib.Core.List.{List}
use mathlib.Core.Path.{◌≡◌, refl, sym, ap, ◌∙◌, subst}
use Prim.Native.Nat.{ℕ, suc, ◌+◌, ◌-◌, ◌*◌, ◌^◌, ◌/◌, ◌%◌, ◌<◌, ◌≤◌}
use native.Mathlib.Nat.{add-zero, mul-one, mod-one, mod-eq_of_lt}
use native.Mathlib.Omega.{arith}
use lib.Dec.{ltb}
use lib.Pow.{mod-pow-add}
use borrow.Author.Tests.{lt-ltb, eqb-true, eqb-false}
use Rattle.terms.specs.Choice.{when}
use Rattle.terms.proofs.Tests.{when_true, when_false}
use Rattle.units.specs.declared.Seen.TheVariants.{Silence}
use Rattle.load.specs.declared.Load.{Load}
use Rattle.bits.specs.Bits.{value_bit, sent_bit}
use Rattle.follow.specs.Follow.{onward, after_pair}
use Rattle.place.specs.Phases as host
use Rattle.place.specs.Phases.{places}
use Rattle.place.specs.declared.Phase as host_phase
use Rattle.place.specs.declared.Place.{Place}
use Rattle.eeprom.specs.declared.Fault.TheVariants.{None}
use Rattle.phases.specs.declared.Phase.{Phase}
use Rattle.listener.specs.Heard.{in_phase, quiet, heard}
use Rattle.line.specs.Reading.{grown}
use Rattle.listener.specs.declared.Event.{Event}
use Rattle.listener.specs.declared.Event.TheVariants.{Nothing}
use Rattle.listener.specs.declared.Heard.{Heard}
use Rattle.listener.specs.declared.Listener.{Listener}
use Rattle.chip.specs.Work.{worked, went, done}
use Rattle.history.proofs.Spelling.{grown_above}
use Rattle.conversation.specs.Conversation.{Talk, waits, Reach}
use Rattle.conversation.proofs.Computed.{converses}
use Rattle.conversation.proofs.Pulses.{talk, hearing, pulse, onward_within, next_single}
use Rattle.conversation.proofs.Reaching.{and_then, rounds}

-- A bit more of a value.
module _ (x i : ℕ) where
  bit_more_at : (b : Bool) → value_bit x i ≡ b → x % 2 ^ i + when b (2 ^ i) 0 ≡ x / 2 ^ i % 2 * 2 ^ i + x % 2 ^ i
  unfolding when
  bit_more_at true e =
      let one : x / 2 ^ i % 2 ≡ 1 = eqb-true _ _ e in
      rw one (omega arith)
  bit_more_at false e =
      let other : x / 2 ^ i % 2 ≡ 1 → ⊥ = eqb-false _ _ e in
      let none : x / 2 ^ i % 2 ≡ 0 = omega (arith, other) in
      rw none (omega arith)

  bit_more : x % 2 ^ i + when (value_bit x i) (2 ^ i) 0 ≡ x % 2 ^ (i + 1)
  bit_more =
      let next : 1 + i ≡ i + 1 = omega arith in
      bit_more_at (value_bit x i) refl ∙ sym (mod-pow-add x 1 i) ∙ ap (λ (n : ℕ). x % 2 ^ n) next

  -- What is held after i bits.
  abbrev held : ℕ
  held = x % 2 ^ i * 2 ^ (32 - i)

  pub held_more : i < 32 → grown held (value_bit x i) ≡ x % 2 ^ (i + 1) * 2 ^ (31 - i)
  held_more h =
      let places : i + (31 - i) ≡ 31 = omega arith in
      let zeros : 32 - i ≡ suc (31 - i) = omega arith in
      grown_above (x % 2 ^ i) i (31 - i) held places (ap (λ (n : ℕ). x % 2 ^ i * 2 ^ n) zeros) (value_bit x i)
      ∙ ap (λ (n : ℕ). n * 2 ^ (31 - i)) bit_more

-- The host sends a value from an index of a phase on, and heeds no reply to it.
pub record Sends (load : Load) (image : List ℕ) (phase : host_phase.Phase) (from x : ℕ) : Type 0 where
  pub going : host.ended phase ≡ false
  pub aloud : waits phase ≡ false
  pub bits : (i : ℕ) → i < 32 → sent_bit load image phase (from + i) ≡ value_bit x i
  pub unseen : (i : ℕ) → after_pair load phase i Silence ≡ onward load phase i
  pub fits : from + 32 ≤ places load phase

-- The chip reads 32 bits, and then has received a value.
pub record Receives (l : Listener) (reading : ℕ → ℕ → Phase) (received : ℕ → Heard) : Type 0 where
  pub going : (at : host_phase.Phase) (i v : ℕ) → converses at (reading i v) ≡ not (waits at)
  pub hears : (i v : ℕ) (bit : Bool) → heard (in_phase l (reading i v)) (reading i v) 0 bit
      ≡ when (ltb i 31) (quiet l (reading (i + 1) (grown v bit))) (received (grown v bit))

module _ (load : Load) (image : List ℕ) (phase : host_phase.Phase) (from x : ℕ) (l : Listener) (reading : ℕ → ℕ → Phase)
    (received : ℕ → Heard) (ram eeprom : List ℕ) (sends : Sends load image phase from x) (receives : Receives l reading received) where
  abbrev at : ℕ → Talk
  at i = talk (record { phase = phase; index = from + i }) (in_phase l (reading i (held x i))) ram eeprom Silence

  bit : (i : ℕ) → i < 31 → Reach load image 1 (at i) (at (i + 1))
  bit i h =
      let more : from + i + 1 < places load phase = let fits = sends.fits in omega arith in
      let index : from + i + 1 ≡ from + (i + 1) = omega arith in
      let zeros : 31 - i ≡ 32 - (i + 1) = omega arith in
      pulse load image (at i) (value_bit x i) _ (in_phase l (reading (i + 1) (held x (i + 1)))) Nothing Silence ram eeprom
      sends.going (receives.going phase i (held x i) ∙ ap not sends.aloud) (sends.bits i (omega arith))
      (next_single load phase (from + i) Silence (sends.unseen (from + i)) ∙ onward_within load phase (from + i) more
      ∙ ap (λ (n : ℕ). record { phase = phase; index = n }) index)
      (receives.hears i (held x i) (value_bit x i)
      ∙ when_true _ _ (lt-ltb _ _ h)
      ∙ ap (λ (v : ℕ). quiet l (reading (i + 1) v)) (held_more x i (omega arith) ∙ ap (λ (n : ℕ). x % 2 ^ (i + 1) * 2 ^ n) zeros))
      refl

  pub value : (place : Place) (after : Listener) (event : Event) (ram' eeprom' : List ℕ) → x < 2 ^ 32
      → onward load phase (from + 31) ≡ place → received x ≡ hearing after event Silence
      → done None event ram eeprom ≡ worked (went true None) ram' eeprom'
      → Reach load image 32
      (talk (record { phase = phase; index = from }) (in_phase l (reading 0 0)) ram eeprom Silence)
      (talk place after ram' eeprom' Silence)
  value place after event ram' eeprom' small p r w =
      let none : held x 0 ≡ 0 = ap (λ (n : ℕ). n * 4294967296) (mod-one x) in
      let whole : grown (held x 31) (value_bit x 31) ≡ x = held_more x 31 (omega arith) ∙ mul-one _ ∙ mod-eq_of_lt small in
      let start : at 0 ≡ talk (record { phase = phase; index = from }) (in_phase l (reading 0 0)) ram eeprom Silence =
      ap (λ (n : ℕ). talk (record { phase = phase; index = n }) (in_phase l (reading 0 (held x 0))) ram eeprom Silence) (add-zero from)
      ∙ ap (λ (v : ℕ). talk (record { phase = phase; index = from }) (in_phase l (reading 0 v)) ram eeprom Silence) none in
      subst (λ (a : Talk). Reach load image 32 a (talk place after ram' eeprom' Silence)) start
      (and_then (rounds 1 at 31 bit)
      (pulse load image (at 31) (value_bit x 31) place after event Silence ram' eeprom'
      sends.going (receives.going phase 31 (held x 31) ∙ ap not sends.aloud) (sends.bits 31 (omega arith))
      (next_single load phase (from + 31) Silence (sends.unseen (from + 31)) ∙ p)
      (receives.hears 31 (held x 31) (value_bit x 31) ∙ when_false _ _ refl ∙ ap received whole ∙ r)
      w))
