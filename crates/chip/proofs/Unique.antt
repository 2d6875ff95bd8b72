-- Each public call has one answer, since what it tells can be turned back, and a step leaves one RAM and one EEPROM. `Post` is the
-- promise that is generated from the call's contract.
-- Assumes nothing.
use mathlib.Core.Path.{◌≡◌, sym, ap, ◌∙◌}
use Rattle.std.specs.Prelude.{Result, Ok, Err}
use Rattle.terms.specs.Refusals.{Answer}
use Rattle.terms.specs.declared.Refusal.{Refusal}
use Rattle.terms.proofs.Answers.{OneAnswer, OneOutcome, Leaves, named_number, back, one_told, told_one, one_left}
use Rattle.units.proofs.Lines.{seen_told}
use Rattle.units.specs.Line.{seen}
use Rattle.units.specs.declared.Seen.{Seen}
use Rattle.phases.specs.Endings.{told_end}
use Rattle.phases.proofs.Endings.{back_end, back_told_end}
use Rattle.chip.specs.Step.{Reply, Left, told_stepped}
use Rattle.chip.specs.declared.Played.{Played}
use Rattle.chip.proofs.Chip.end.Kinds as end_kinds
use Rattle.chip.proofs.Chip.end.Reads as end
use Rattle.chip.proofs.Chip.start.Kinds as start_kinds
use Rattle.chip.proofs.Chip.start.Reads as start
use Rattle.chip.proofs.Chip.step.Kinds as step_kinds
use Rattle.chip.proofs.Chip.step.Reads as step

-- The pulse that a reply tells of.
abbrev played : Result Reply Refusal → Result Played Refusal
played (Err r) = Err r
played (Ok p) = Ok (record { chip = p.chip; reply = seen p.reply })

abbrev back_stepped : Answer Reply → Result Played Refusal
back_stepped a = played (back a)

pub back_told_stepped : (r : Result Played Refusal) → back_stepped (told_stepped r) ≡ r
back_told_stepped (Err r) = ap Err (named_number r)
back_told_stepped (Ok p) = ap (λ (s : Seen). Ok (record { chip = p.chip; reply = s })) (seen_told p.reply)

pub start_one : OneAnswer start_kinds.ps start_kinds.r start.Post
start_one κs a r₁ r₂ e₁ e₂ p q = told_one r₁ r₂ p q

pub step_one : OneOutcome step_kinds.ps step_kinds.r step.Post {X = Leaves (Result Played Refusal)}
    (λ κs r e. record { answer = r; ram = e.1.0.now; eeprom = e.1.1.0.now })
step_one κs a r₁ r₂ e₁ e₂ p q =
    one_left told_stepped back_stepped back_told_stepped _ _
    (ap (λ (l : Left). record { answer = l.answer; ram = l.ram; eeprom = l.eeprom }) (p ∙ sym q))

pub end_one : OneAnswer end_kinds.ps end_kinds.r end.Post
end_one κs a r₁ r₂ e₁ e₂ p q = one_told told_end back_end back_told_end r₁ r₂ p q
