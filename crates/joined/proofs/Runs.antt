-- A run by what both starts answer; where both are taken, its host ends.
-- Assumes nothing.
use mathlib.Core.Bool.{true}
use mathlib.Core.List.{List}
use mathlib.Core.Path.{◌≡◌, sym, ap, ◌∙◌}
use Prim.Native.Nat.{ℕ}
use Rattle.terms.specs.Refusals.{refused, taken}
use Rattle.host.specs.Step.{host_start}
use Rattle.host.specs.declared.Host.{Host}
use Rattle.place.specs.Phases.{ended}
use Rattle.chip.specs.Step.{chip_start}
use Rattle.chip.specs.declared.Chip.{Chip}
use Rattle.eeprom.specs.declared.Fault.{Fault}
use Rattle.joined.specs.Joined.{rounded_down, host_ended, played, begun}
use Rattle.joined.specs.Run.{budget, Outcome, outcome, left, finished, from_chip, from_host, run_of, state}
use Rattle.joined.specs.declared.Joined.{Joined}
use Rattle.joined.proofs.Budget.{run_ends}

module _ (t h p command : ℕ) (image : List ℕ) (fault : Fault) (l : ℕ) (ram eeprom : List ℕ) where
  pub host_refused : (n : ℕ) → refused n ≡ host_start t h p command image
      → left (refused n) ram eeprom ≡ run_of t h p command image fault l ram eeprom
  unfolding run_of
  host_refused n q = ap (from_host (rounded_down p l) image ram eeprom fault) q

  module _ (host : Host) (started : taken host ≡ host_start t h p command image) where
    from_chip_lem : from_chip (rounded_down p l) image ram eeprom host (chip_start ram eeprom fault) ≡ run_of t h p command image fault l ram eeprom
    unfolding run_of
    from_chip_lem = ap (from_host (rounded_down p l) image ram eeprom fault) started

    pub chip_refused : (n : ℕ) → refused n ≡ chip_start ram eeprom fault
        → left (refused n) ram eeprom ≡ run_of t h p command image fault l ram eeprom
    chip_refused n w = ap (from_chip (rounded_down p l) image ram eeprom host) w ∙ from_chip_lem

    module _ (chip : Chip) (begins : taken chip ≡ chip_start ram eeprom fault) (j : Joined)
        (ram' eeprom' : List ℕ) (u : state j ram' eeprom' ≡ played (rounded_down p l) image budget (begun host chip ram eeprom)) where
      pub run_ended : ended j.host.session.place.phase ≡ true
      run_ended =
          let end = run_ends (rounded_down p l) image t h p command host (sym started) ram eeprom fault chip (sym begins) in
          ap host_ended (u ∙ end.run) ∙ end.ended

      pub run_finished : (o : Outcome) → o ≡ outcome j.host j.chip j.rise.0 j.risen
          → left (taken o) ram' eeprom' ≡ run_of t h p command image fault l ram eeprom
      run_finished o is =
          ap (λ (x : Outcome). left (taken x) ram' eeprom') is
          ∙ ap finished u
          ∙ ap (from_chip (rounded_down p l) image ram eeprom host) begins
          ∙ from_chip_lem
