-- Every load that a start takes leads host and chip to success: the opening, the command, the image and the acknowledgements, one after
-- the other.
-- Assumes nothing.
use mathlib.Core.Bool.{Bool, true, false}
use mathlib.Core.List.{List}
use mathlib.Core.Path.{◌≡◌, refl, ap}
use Prim.Native.Nat.{ℕ, zero, suc, ◌+◌, ◌*◌, ◌%◌, ◌≤◌}
use native.Mathlib.Omega.{arith}
use lib.Dec.{eqb}
use lib.ListN.{length}
use borrow.Author.Tests.{ne_eqb}
use Rattle.terms.specs.Choice.{when, either}
use Rattle.terms.proofs.Tests.{when_false}
use Rattle.units.specs.Units.{longs_in}
use Rattle.units.specs.declared.Seen.TheVariants.{Silence}
use Rattle.load.specs.Load.{load_of}
use Rattle.load.specs.declared.Load.{Load}
use Rattle.load.proofs.Facts.{Good, Known}
use Rattle.follow.specs.Follow.{opened, after_ram}
use Rattle.place.specs.Phases.{places}
use Rattle.place.specs.declared.Acknowledgement.TheVariants.{Ram, Programming, Verification}
use Rattle.place.specs.declared.Ending.TheVariants.{Done}
use Rattle.place.specs.declared.Phase.TheVariants as at
use Rattle.eeprom.specs.declared.Fault.TheVariants.{None}
use Rattle.phases.specs.declared.Acknowledgement.TheVariants.{Stored, Programmed, Verified}
use Rattle.phases.specs.declared.Ending.TheVariants.{Launched, Shut}
use Rattle.phases.specs.declared.Phase.{Phase}
use Rattle.phases.specs.declared.Phase.TheVariants.{Rest, Align, Ended}
use Rattle.phases.specs.declared.Reply.TheVariants.{Acknowledging}
use Rattle.listener.specs.Heard.{stored, verified}
use Rattle.listener.specs.declared.Event.{Event}
use Rattle.listener.specs.declared.Event.TheVariants.{Nothing, Program, Verify, Launch}
use Rattle.listener.specs.declared.Listener.{Listener}
use Rattle.chip.specs.Work.{worked, went, done}
use Rattle.conversation.specs.Conversation.{Reach, start, Success}
use Rattle.conversation.specs.Final.{AllBytes, final_ram, ram_after, eeprom_after, chip_ending, pulses_after}
use Rattle.conversation.proofs.Closing.{acknowledgement, programs_well, verifies_well}
use Rattle.conversation.proofs.FinalRam.{final_length, final_start}
use Rattle.conversation.proofs.Images.{image_sent}
use Rattle.conversation.proofs.Opening.{opening}
use Rattle.conversation.proofs.Pulses.{talk, listening, hearing}
use Rattle.conversation.proofs.Reaching.{counted, and_then}
use Rattle.conversation.proofs.Sending.{command_0, command_and_size}

module _ (image : List ℕ) (threshold : ℕ) (ram eeprom : List ℕ) where
  success_0 : Success 0 image threshold ram eeprom
  unfolding when either pulses_after chip_ending ram_after eeprom_after
  success_0 = record {
    end = talk (opened (at.Ended Done)) (listening threshold 0 0 (Ended Shut)) ram eeprom Silence;
    reached =
        and_then (opening (load_of 0 image) image threshold ram eeprom)
        (command_0 (load_of 0 image) image threshold ram eeprom refl);
    host = refl;
    chip = refl;
    ram_left = refl;
    eeprom_left = refl;
  }

  module _ (good : Good image) (all : AllBytes image) (ram_long : length ram ≡ 32768) (eeprom_long : length eeprom ≡ 32768) where
    launches_well : (rom : List ℕ) → done None Launch (final_ram image) rom ≡ worked (went true None) (final_ram image) rom
    launches_well rom = ap (λ (b : Bool). worked (went b None) (final_ram image) rom) (final_start image good)

    module _ (c : ℕ) where
      abbrev load : Load
      load = load_of c image

      abbrev size : ℕ
      size = longs_in load.length.0

      -- The chip with the command and the size.
      abbrev chip : Phase → Listener
      chip = listening threshold c size

      pub loaded : 1 ≤ c → c ≤ 3
          → Reach load image (830 + 8 * length image) (start threshold ram eeprom)
          (talk (opened (at.Wait Ram)) (chip (Align Stored)) (final_ram image) eeprom Silence)
      loaded least most =
          let some : c ≡ 0 → ⊥ = omega (arith, least) in
          let sized : load.length.0 ≡ length image = when_false _ _ (ne_eqb c 0 some) in
          let long : 16 ≤ length image = good.long in
          let short : length image ≤ 32760 = good.short in
          let whole : length image % 4 ≡ 0 = good.whole in
          let bytes : size * 4 ≡ length image = omega (arith, sized, short, whole) in
          let pulses : places load at.Image ≡ size * 32 = omega (arith, sized, short, bytes) in
          let count : 766 + (64 + 8 * length image) ≡ 830 + 8 * length image = omega arith in
          counted count
          (and_then (opening load image threshold ram eeprom)
          (and_then
          (command_and_size load image threshold ram eeprom least most (omega (arith, bytes, long)) (omega (arith, bytes, short)))
          (image_sent load image threshold size ram eeprom all bytes pulses good ram_long)))

      pub acknowledged : 2 ≤ c → c ≤ 3
          → Reach load image (834 + 8 * length image) (start threshold ram eeprom)
          (talk (opened (at.Wait Programming)) (chip (Align Programmed)) (final_ram image) (final_ram image) Silence)
      unfolding after_ram stored
      acknowledged least most =
          let other : c ≡ 1 → ⊥ = omega (arith, least) in
          let not_1 : eqb c 1 ≡ false = ne_eqb c 1 other in
          let count : 830 + 8 * length image + 4 ≡ 834 + 8 * length image = omega arith in
          counted count
          (and_then (loaded (omega (arith, least)) most)
          (acknowledgement load image Stored (chip (Align Stored)) (final_ram image) eeprom Ram (at.Wait Programming)
          (chip (Align Programmed)) Program (final_ram image) (final_ram image) refl (when_false _ _ not_1) (when_false _ _ not_1)
          (programs_well (final_ram image) eeprom (final_length image good) eeprom_long)))

      pub programmed : 2 ≤ c → c ≤ 3
          → Reach load image (838 + 8 * length image) (start threshold ram eeprom)
          (talk (opened (at.Wait Verification)) (chip (Align Verified)) (final_ram image) (final_ram image) Silence)
      unfolding after_ram stored
      programmed least most =
          let count : 834 + 8 * length image + 4 ≡ 838 + 8 * length image = omega arith in
          counted count
          (and_then (acknowledged least most)
          (acknowledgement load image Programmed (chip (Align Programmed)) (final_ram image) (final_ram image) Programming
          (at.Wait Verification) (chip (Align Verified)) Verify (final_ram image) (final_ram image) refl refl refl
          (verifies_well (final_ram image))))

    -- The verification ends the session, in a phase and with an event that go by the command.
    compared : (c : ℕ) (phase : Phase) (event : Event) → 2 ≤ c → c ≤ 3
        → verified (chip c (Rest (Acknowledging Verified))) ≡ hearing (chip c phase) event Silence
        → done None event (final_ram image) (final_ram image) ≡ worked (went true None) (final_ram image) (final_ram image)
        → Reach (load c) image (842 + 8 * length image) (start threshold ram eeprom)
        (talk (opened (at.Ended Done)) (chip c phase) (final_ram image) (final_ram image) Silence)
    compared c phase event least most h w =
        let count : 838 + 8 * length image + 4 ≡ 842 + 8 * length image = omega arith in
        counted count
        (and_then (programmed c least most)
        (acknowledgement (load c) image Verified (chip c (Align Verified)) (final_ram image) (final_ram image) Verification
        (at.Ended Done) (chip c phase) event (final_ram image) (final_ram image) refl refl h w))

    success_1 : Success 1 image threshold ram eeprom
    unfolding when either pulses_after chip_ending ram_after eeprom_after after_ram stored
    success_1 =
        let count : 830 + 8 * length image + 4 ≡ 834 + 8 * length image = omega arith in
        record {
          end = talk (opened (at.Ended Done)) (chip 1 (Ended Launched)) (final_ram image) eeprom Silence;
          reached =
              counted count
              (and_then (loaded 1 (omega arith) (omega arith))
              (acknowledgement (load 1) image Stored (chip 1 (Align Stored)) (final_ram image) eeprom Ram (at.Ended Done)
              (chip 1 (Ended Launched)) Launch (final_ram image) eeprom refl refl refl (launches_well eeprom)));
          host = refl;
          chip = refl;
          ram_left = refl;
          eeprom_left = refl;
        }

    success_2 : Success 2 image threshold ram eeprom
    unfolding when either pulses_after chip_ending ram_after eeprom_after verified
    success_2 = record {
      end = talk (opened (at.Ended Done)) (chip 2 (Ended Shut)) (final_ram image) (final_ram image) Silence;
      reached = compared 2 (Ended Shut) Nothing (omega arith) (omega arith) refl refl;
      host = refl;
      chip = refl;
      ram_left = refl;
      eeprom_left = refl;
    }

    success_3 : Success 3 image threshold ram eeprom
    unfolding when either pulses_after chip_ending ram_after eeprom_after verified
    success_3 = record {
      end = talk (opened (at.Ended Done)) (chip 3 (Ended Launched)) (final_ram image) (final_ram image) Silence;
      reached = compared 3 (Ended Launched) Launch (omega arith) (omega arith) refl (launches_well (final_ram image));
      host = refl;
      chip = refl;
      ram_left = refl;
      eeprom_left = refl;
    }

-- For every load that a start takes, every threshold and all memories of their size. An image that is sent is a list of bytes; for command
-- 0 nothing is asked of it.
pub success : (command : ℕ) (image : List ℕ) (threshold : ℕ) (ram eeprom : List ℕ) → Known command image
    → ((command ≡ 0 → ⊥) → AllBytes image) → length ram ≡ 32768 → length eeprom ≡ 32768
    → Success command image threshold ram eeprom
success zero image threshold ram eeprom k all r e = success_0 image threshold ram eeprom
success (suc zero) image threshold ram eeprom k all r e =
    success_1 image threshold ram eeprom (k.good (omega arith)) (all (omega arith)) r e
success (suc (suc zero)) image threshold ram eeprom k all r e =
    success_2 image threshold ram eeprom (k.good (omega arith)) (all (omega arith)) r e
success (suc (suc (suc zero))) image threshold ram eeprom k all r e =
    success_3 image threshold ram eeprom (k.good (omega arith)) (all (omega arith)) r e
success (suc (suc (suc (suc n)))) image threshold ram eeprom k all r e = absurd (omega (arith, k.known))
