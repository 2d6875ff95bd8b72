-- The public call has one answer and leaves each lent memory in one way, since what it tells can be turned back. `Post` is the promise
-- that is generated from its contract.
-- Assumes nothing.
use mathlib.Core.Path.{◌≡◌, sym, ap, ◌∙◌}
use Rattle.std.specs.Prelude.{Result, Ok, Err}
use Rattle.terms.specs.Refusals.{Answer, refused, taken}
use Rattle.terms.specs.declared.Refusal.{Refusal}
use Rattle.terms.proofs.Answers.{OneOutcome, Leaves, named, named_number, one_left}
use Rattle.phases.proofs.Endings.{back_end, back_told_end}
use Rattle.margins.proofs.Unique as margins
use Rattle.replay.specs.Replay.{Outcome, Left, told_replayed}
use Rattle.replay.specs.declared.Report.{Report}
use Rattle.replay.proofs.replay.Kinds as replay_kinds
use Rattle.replay.proofs.replay.Reads as replay

abbrev back_replayed : Answer Outcome → Result Report Refusal
back_replayed (refused n) = Err (named n)
back_replayed (taken o) = Ok (record { chip = back_end o.chip; nearest = margins.back o.nearest })

pub back_told_replayed : (r : Result Report Refusal) → back_replayed (told_replayed r) ≡ r
back_told_replayed (Err r) = ap Err (named_number r)
back_told_replayed (Ok r) = λ i. Ok (record { chip = back_told_end r.chip i; nearest = margins.back_told r.nearest i })

pub replay_one : OneOutcome replay_kinds.ps replay_kinds.r replay.Post {X = Leaves (Result Report Refusal)}
    (λ κs r e. record { answer = r; ram = e.1.1.0.now; eeprom = e.1.1.1.0.now })
replay_one κs a r₁ r₂ e₁ e₂ p q =
    one_left told_replayed back_replayed back_told_replayed _ _
    (ap (λ (l : Left). record { answer = l.answer; ram = l.ram; eeprom = l.eeprom }) (p ∙ sym q))
