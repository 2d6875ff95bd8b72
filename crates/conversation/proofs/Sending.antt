-- The command and the size go over as values of 32 bits.
-- Assumes nothing.
use mathlib.Core.List.{List}
use mathlib.Core.Path.{◌≡◌, refl, ap, ◌∙◌}
use Prim.Native.Nat.{ℕ, ◌≤◌}
use native.Mathlib.Nat.{zero-add}
use native.Mathlib.Omega.{arith}
use borrow.Author.Tests.{eq-eqb, ne_eqb}
use Rattle.terms.proofs.Tests.{when_true, when_false}
use Rattle.units.specs.Units.{longs_in}
use Rattle.units.specs.declared.Seen.TheVariants.{Silence}
use Rattle.load.specs.declared.Load.{Load}
use Rattle.bits.specs.Bits.{value_bit}
use Rattle.follow.specs.Follow.{opened, after_command}
use Rattle.place.specs.declared.Ending.TheVariants.{Done}
use Rattle.place.specs.declared.Phase.TheVariants as at
use Rattle.phases.specs.declared.Ending.TheVariants.{Shut}
use Rattle.phases.specs.declared.Phase.{Phase}
use Rattle.phases.specs.declared.Phase.TheVariants.{Command, Size, Long, Ended}
use Rattle.listener.specs.Heard.{received_command, received_size}
use Rattle.listener.specs.declared.Event.TheVariants.{Nothing}
use Rattle.listener.specs.declared.Listener.{Listener}
use Rattle.conversation.specs.Conversation.{Talk, Reach}
use Rattle.conversation.proofs.Opening.{commanding}
use Rattle.conversation.proofs.Pulses.{talk, listening, onward_last}
use Rattle.conversation.proofs.Receiving.{receives_command, receives_size, command_taken, command_0_shuts, size_taken}
use Rattle.conversation.proofs.Reaching.{and_then}
use Rattle.conversation.proofs.Values.{Sends, value}

module _ (load : Load) (image : List ℕ) where
  sends_command : Sends load image at.Command 0 load.command
  sends_command =
      record { going = refl; aloud = refl; bits = λ i h. ap (value_bit load.command) (zero-add i); unseen = λ i. refl; fits = omega arith }

  -- The longs of the load.
  abbrev size : ℕ
  size = longs_in load.length.0

  sends_size : Sends load image at.Size 0 size
  sends_size = record { going = refl; aloud = refl; bits = λ i h. ap (value_bit size) (zero-add i); unseen = λ i. refl; fits = omega arith }

  module _ (threshold : ℕ) (ram eeprom : List ℕ) where
    -- The chip before the command, and after it.
    abbrev unasked : Phase → Listener
    unasked = listening threshold 0 0

    abbrev asked : Phase → Listener
    asked = listening threshold load.command 0

    pub command_0 : load.command ≡ 0
        → Reach load image 32 (commanding load image threshold ram eeprom)
        (talk (opened (at.Ended Done)) (unasked (Ended Shut)) ram eeprom Silence)
    unfolding after_command
    command_0 e =
        let l = unasked (Command 0 0) in
        value load image at.Command 0 load.command l Command (received_command l) ram eeprom sends_command (receives_command l)
        (opened (at.Ended Done)) (unasked (Ended Shut)) Nothing ram eeprom
        (omega (arith, e))
        (onward_last load at.Command 31 (omega arith) ∙ ap opened (when_true _ _ (eq-eqb _ _ e)))
        (ap (received_command l) e ∙ command_0_shuts l)
        refl

    abbrev sizing : Talk
    sizing = talk (opened at.Size) (asked (Size 0 0)) ram eeprom Silence

    command : 1 ≤ load.command → load.command ≤ 3 → Reach load image 32 (commanding load image threshold ram eeprom) sizing
    unfolding after_command
    command least most =
        let l = unasked (Command 0 0) in
        let some : load.command ≡ 0 → ⊥ = omega (arith, least) in
        value load image at.Command 0 load.command l Command (received_command l) ram eeprom sends_command (receives_command l)
        (opened at.Size) (asked (Size 0 0)) Nothing ram eeprom
        (omega (arith, most))
        (onward_last load at.Command 31 (omega arith) ∙ ap opened (when_false _ _ (ne_eqb _ _ some)))
        (command_taken l load.command least most)
        refl

    -- Both before the image.
    abbrev pub imaging : Talk
    imaging = talk (opened at.Image) (listening threshold load.command size (Long 0 (record { 0 = 0 }) 0)) ram eeprom Silence

    sizes : 1 ≤ size → size ≤ 8192 → Reach load image 32 sizing imaging
    sizes least most =
        let l = asked (Size 0 0) in
        value load image at.Size 0 size l Size (received_size l) ram eeprom sends_size (receives_size l)
        (opened at.Image) (listening threshold load.command size (Long 0 (record { 0 = 0 }) 0)) Nothing ram eeprom
        (omega (arith, most))
        (onward_last load at.Size 31 (omega arith))
        (size_taken l size least most)
        refl

    pub command_and_size : 1 ≤ load.command → load.command ≤ 3 → 1 ≤ size → size ≤ 8192
        → Reach load image 64 (commanding load image threshold ram eeprom) imaging
    command_and_size c d n m = and_then (command c d) (sizes n m)
