-- A replay's table: the chip's start, then the file.
-- Assumes nothing.
use mathlib.Core.Bool.{false}
use mathlib.Core.List.{List}
use mathlib.Core.Path.{◌≡◌, sym, ap, ◌∙◌}
use Prim.Native.Nat.{ℕ}
use Rattle.terms.specs.Refusals.{refused, taken, first}
use Rattle.terms.proofs.Refusals.{Clear, clear_taken, taken_exactly, refused_before, taken_before, refused_alike}
use Rattle.eeprom.specs.declared.Fault.{Fault}
use Rattle.chip.specs.Step.{fresh, start_rows, chip_start}
use Rattle.chip.specs.declared.Chip.{Chip}
use Rattle.trace.specs.Traces.{is_faulty, list_of, numbers_of, file_rows, judgement}
use Rattle.replay.specs.Replay.{state, played, Outcome, outcome, left, finished, unless_refused, replay_rows, replay_of}

module _ (trace : List ℕ) (fault : Fault) (ram eeprom : List ℕ) where
  pub start_refused : (n : ℕ) → refused n ≡ chip_start ram eeprom fault → left (refused n) ram eeprom ≡ replay_of trace fault ram eeprom
  unfolding replay_of chip_start
  start_refused n p =
      sym
      (ap (unless_refused fault ram eeprom)
      (refused_before (file_rows trace) (fresh fault) (list_of (numbers_of trace)) n (start_rows ram eeprom fault) (sym p)))

  module _ (c : Chip) (p : taken c ≡ chip_start ram eeprom fault) where
    past : (first (replay_rows trace fault ram eeprom) (list_of (numbers_of trace)) ≡ first (file_rows trace) (list_of (numbers_of trace))) × (c ≡ fresh fault)
    unfolding chip_start
    past = taken_before (file_rows trace) (fresh fault) (list_of (numbers_of trace)) c (start_rows ram eeprom fault) (sym p)

    pub file_refused : (n : ℕ) → refused n ≡ judgement trace → left (refused n) ram eeprom ≡ replay_of trace fault ram eeprom
    unfolding replay_of judgement
    file_refused n q =
        sym (ap (unless_refused fault ram eeprom) (past.0 ∙ refused_alike (file_rows trace) tt (list_of (numbers_of trace)) n (sym q)))

    module _ (q : taken tt ≡ judgement trace) where
      clear : Clear (file_rows trace)
      unfolding judgement
      clear = ((taken_exactly tt tt (file_rows trace)).0 (sym q)).0

      pub file_sound : is_faulty (numbers_of trace) ≡ false
      file_sound = clear.1.0

      pub replay_finished : (end : Chip) (ram' eeprom' : List ℕ) (o : Outcome)
          → state end ram' eeprom' ≡ played (list_of (numbers_of trace)) (state c ram eeprom)
          → o ≡ outcome end → left (taken o) ram' eeprom' ≡ replay_of trace fault ram eeprom
      unfolding replay_of
      replay_finished end ram' eeprom' o k t =
          ap (λ (x : Outcome). left (taken x) ram' eeprom') t
          ∙ ap finished (k ∙ ap (λ (x : Chip). played (list_of (numbers_of trace)) (state x ram eeprom)) past.1)
          ∙ sym (ap (unless_refused fault ram eeprom) (past.0 ∙ clear_taken (list_of (numbers_of trace)) (file_rows trace) clear))
