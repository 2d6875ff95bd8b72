-- A chip that has ended does not listen, and so has the chip of a run that is taken, by demand 3.
-- Assumes nothing.
use mathlib.Core.Bool.{true≢false}
use mathlib.Core.Path.{◌≡◌, refl, sym, ap, ◌∙◌}
use mathlib.Core.List.{List}
use Prim.Native.Nat.{ℕ}
use native.Mathlib.Omega.{arith}
use Rattle.std.specs.Prelude.{Option, Some, IsSome}
use Rattle.std.specs.Prelude as prelude
use Rattle.terms.specs.Refusals.{taken}
use Rattle.eeprom.specs.declared.Fault.TheVariants.{None}
use Rattle.joined.specs.Run.{Left, left, run_of, told_report}
use Rattle.joined.specs.declared.Report.{Report}
use Rattle.phases.specs.Endings.{name, told_end}
use Rattle.phases.specs.declared.Ending.{Ending}
use Rattle.phases.proofs.Endings.{over, over_name}
use Rattle.success.proofs.Meeting.{met}
use Rattle.conversation.specs.Final.{AllBytes, chip_ending}

pub ended_some : (c : Option Ending) (e : Ending) → told_end c ≡ name e → IsSome c
ended_some (Some x) e p = refl
ended_some prelude.None e p = absurd (true≢false (sym (over_name e) ∙ ap over (sym p)))

-- The figures are those of the program.
pub run_ends : (image ram eeprom ram' eeprom' : List ℕ) (x : Report) → AllBytes image
    → left (taken (told_report x)) ram' eeprom' ≡ run_of 8600 8600 700000 1 image None 400000 ram eeprom → IsSome x.chip
run_ends image ram eeprom ram' eeprom' x bytes run =
    let ran = ap (λ (l : Left). l.answer) (sym run) in
    let all = met.run_succeeds 8600 8600 700000 1 image 400000 ram eeprom (told_report x) bytes (omega arith, omega arith) (omega arith) ran in
    ended_some x.chip (chip_ending 1) all.chip_ends
