-- The acknowledgements, four pulses each: the chip aligns on the first pair and answers the second with a 0.
-- Assumes nothing.
use mathlib.Core.Bool.{Bool, true, false}
use mathlib.Core.List.{List, ◌++◌}
use mathlib.Core.Path.{◌≡◌, refl, sym, ap, ◌∙◌}
use Prim.Native.Nat.{ℕ, ◌*◌}
use lib.Dec.{eqb}
use lib.ListN.{length, take, drop}
use borrow.Author.Tests.{eq-eqb}
use Rattle.terms.specs.Choice.{when, both}
use Rattle.terms.proofs.Tests.{when_true, when_false, both_true}
use Rattle.units.specs.declared.Seen.TheVariants.{Silence, Zero}
use Rattle.load.specs.declared.Load.{Load}
use Rattle.follow.specs.Follow.{opened, onward, after_good, after_wait_pair, next}
use Rattle.place.specs.declared.Acknowledgement as host
use Rattle.place.specs.declared.Acknowledgement.TheVariants.{Ram, Programming, Verification}
use Rattle.place.specs.declared.Phase as at
use Rattle.place.specs.declared.Phase.TheVariants.{Wait}
use Rattle.eeprom.specs.Eeprom.{whole, accepted, programmed, verifies}
use Rattle.eeprom.specs.declared.Fault.TheVariants.{None}
use Rattle.eeprom.proofs.Memories.{same_refl}
use Rattle.eeprom.proofs.Turns.{copied_whole}
use Rattle.phases.specs.declared.Acknowledgement.{Acknowledgement}
use Rattle.phases.specs.declared.Phase.TheVariants.{Rest, Align}
use Rattle.phases.specs.declared.Reply.TheVariants.{Acknowledging}
use Rattle.listener.specs.Heard.{in_phase, aligned, acknowledged}
use Rattle.listener.specs.Settled.{settled}
use Rattle.line.specs.Replies.{acknowledged_bit, shown}
use Rattle.listener.specs.declared.Event.{Event}
use Rattle.listener.specs.declared.Event.TheVariants.{Program, Verify}
use Rattle.listener.specs.declared.Listener.{Listener}
use Rattle.chip.specs.Work.{worked, went, done}
use Rattle.conversation.specs.Conversation.{Talk, talked, Reach}
use Rattle.conversation.proofs.Computed.{computed}
use Rattle.conversation.proofs.Pulses.{talk, hearing, pulse, next_second}
use Rattle.conversation.proofs.Reaching.{and_then}

module _ (load : Load) (image : List ℕ) (c : Acknowledgement) (l : Listener) (ram eeprom : List ℕ) where
  abbrev pub waiting : host.Acknowledgement → Talk
  waiting a = talk (opened (Wait a)) (in_phase l (Align c)) ram eeprom Silence

  abbrev pub answered : host.Acknowledgement → Talk
  answered a =
      talk (record { phase = Wait a; index = 3 }) (in_phase l (Rest (Acknowledging c))) ram eeprom (shown (acknowledged_bit c))

  pub aligns : (a : host.Acknowledgement) → Reach load image 3 (waiting a) (answered a)
  unfolding talked settled when both onward next aligned
  aligns Ram = computed load image 3 (waiting Ram) refl
  aligns Programming = computed load image 3 (waiting Programming) refl
  aligns Verification = computed load image 3 (waiting Verification) refl

  pub good_shown : acknowledged_bit c ≡ false → shown (acknowledged_bit c) ≡ Zero
  unfolding shown
  good_shown e = when_false _ _ e

  pub acknowledgement : (a : host.Acknowledgement) (phase : at.Phase) (after : Listener) (event : Event) (ram' eeprom' : List ℕ)
      → acknowledged_bit c ≡ false → after_good load.command a ≡ phase
      → acknowledged (in_phase l (Rest (Acknowledging c))) c ≡ hearing after event Silence
      → done None event ram eeprom ≡ worked (went true None) ram' eeprom'
      → Reach load image 4 (waiting a) (talk (opened phase) after ram' eeprom' Silence)
  acknowledgement a phase after event ram' eeprom' good p h w =
      and_then (aligns a)
      (pulse load image (answered a) false (opened phase) after event Silence ram' eeprom' refl refl refl
      (next_second load (Wait a) 3 (shown (acknowledged_bit c)) refl ∙ ap (after_wait_pair load a 3) (good_shown good) ∙ ap opened p)
      h w)

-- A sound EEPROM is programmed whole, and then holds what RAM does.
module _ (ram eeprom : List ℕ) (ram_long : length ram ≡ 32768) (eeprom_long : length eeprom ≡ 32768) where
  all_accepted : accepted None ram eeprom ≡ 512
  unfolding accepted whole
  all_accepted = when_true _ _ ((both_true _ _).1 (eq-eqb _ _ ram_long, eq-eqb _ _ eeprom_long))

  all_programmed : programmed None ram eeprom ≡ ram
  all_programmed =
      ap (λ (n : ℕ). take (n * 64) ram ++ drop (n * 64) eeprom) all_accepted
      ∙ ap (λ (n : ℕ). take n ram ++ drop n eeprom) (sym ram_long)
      ∙ copied_whole ram eeprom (eeprom_long ∙ sym ram_long)

  pub programs_well : done None Program ram eeprom ≡ worked (went true None) ram ram
  programs_well =
      ap (λ (n : ℕ). worked (went (eqb n 512) None) ram (programmed None ram eeprom)) all_accepted
      ∙ ap (λ (m : List ℕ). worked (went true None) ram m) all_programmed

pub verifies_well : (ram : List ℕ) → done None Verify ram ram ≡ worked (went true None) ram ram
unfolding verifies
verifies_well ram = ap (λ (b : Bool). worked (went b None) ram ram) ((both_true _ _).1 (refl, same_refl ram))
