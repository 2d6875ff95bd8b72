-- A chip that was reached from a start and has not ended takes every pulse, and keeps the sizes of both memories.
-- Assumes nothing.
use mathlib.Core.Bool.{false}
use mathlib.Core.List.{List}
use mathlib.Core.Path.{◌≡◌, refl, sym, ap, ◌∙◌}
use Prim.Native.Nat.{ℕ}
use lib.ListN.{length}
use Rattle.terms.specs.Refusals.{refused}
use Rattle.terms.proofs.Refusals.{not_both, agrees}
use Rattle.phases.specs.Phases.{ended}
use Rattle.receiver.specs.Hears.{hears}
use Rattle.listener.specs.declared.Event.{Event}
use Rattle.listener.specs.declared.Event.TheVariants.{Nothing, Store, Finish, Program, Verify, Launch, Boot}
use Rattle.eeprom.specs.declared.Fault.{Fault}
use Rattle.ram.proofs.Stored.{stored_length, zeroed_length, flagged_length}
use Rattle.eeprom.proofs.Memories.{programmed_length, booted_length}
use Rattle.chip.specs.Work.{done}
use Rattle.chip.specs.Step.{Left, chip_step, pulse}
use Rattle.chip.specs.Reached.{Reached}
use Rattle.chip.specs.declared.Chip.{Chip}
use Rattle.chip.proofs.Reached.{chip_kept, reached_kept}
use Rattle.chip.proofs.Steps.{step_played}

-- Work on the memories keeps their sizes.
done_ram : (fault : Fault) (event : Event) (ram eeprom : List ℕ) → length (done fault event ram eeprom).ram ≡ length ram
done_ram fault Nothing ram eeprom = refl
done_ram fault (Store k long) ram eeprom = stored_length _ long ram
done_ram fault (Finish k long) ram eeprom = flagged_length _ ∙ zeroed_length _ _ ∙ stored_length _ long ram
done_ram fault Program ram eeprom = refl
done_ram fault Verify ram eeprom = refl
done_ram fault Launch ram eeprom = refl
done_ram fault Boot ram eeprom = booted_length fault ram eeprom

done_eeprom : (fault : Fault) (event : Event) (ram eeprom : List ℕ) → length (done fault event ram eeprom).eeprom ≡ length eeprom
done_eeprom fault Nothing ram eeprom = refl
done_eeprom fault (Store k long) ram eeprom = refl
done_eeprom fault (Finish k long) ram eeprom = refl
done_eeprom fault Program ram eeprom = programmed_length fault ram eeprom
done_eeprom fault Verify ram eeprom = refl
done_eeprom fault Launch ram eeprom = refl
done_eeprom fault Boot ram eeprom = refl

module _ (c : Chip) (ram eeprom : List ℕ) (reached : Reached c) (ram_size : length ram ≡ 32768) (eeprom_size : length eeprom ≡ 32768)
    (going : ended c.receiver.listener.phase ≡ false) (wait low : ℕ) where
  pub step_plays : pulse c ram eeprom (hears c.receiver wait low) ≡ chip_step c ram eeprom wait low
  step_plays =
      step_played c ram eeprom wait low
      (agrees _ _ ram_size, (agrees _ _ eeprom_size, ((chip_kept c).1 (reached_kept c reached), (going, tt))))

  pub step_ram_size : length (chip_step c ram eeprom wait low).ram ≡ 32768
  step_ram_size =
      ap (λ (l : Left). length l.ram) (sym step_plays) ∙ done_ram c.fault (hears c.receiver wait low).heard.event ram eeprom ∙ ram_size

  pub step_eeprom_size : length (chip_step c ram eeprom wait low).eeprom ≡ 32768
  step_eeprom_size =
      ap (λ (l : Left). length l.eeprom) (sym step_plays) ∙ done_eeprom c.fault (hears c.receiver wait low).heard.event ram eeprom ∙ eeprom_size

  pub step_unrefused : (n : ℕ) → (chip_step c ram eeprom wait low).answer ≡ refused n → ⊥
  step_unrefused n q = not_both (sym q ∙ ap (λ (l : Left). l.answer) (sym step_plays))
