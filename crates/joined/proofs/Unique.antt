-- The public call has one answer and leaves each lent memory in one way, since what it tells can be turned back. `Post` is the promise
-- that is generated from its contract.
-- Assumes nothing.
use mathlib.Core.Path.{◌≡◌, sym, ap, ◌∙◌}
use Rattle.terms.proofs.Answers.{OneOutcome, Leaves, named, named_number, one_left}
use Rattle.std.specs.Prelude.{Result, Ok, Err}
use Rattle.terms.specs.Refusals.{Answer, refused, taken}
use Rattle.terms.specs.declared.Refusal.{Refusal}
use Rattle.place.specs.declared.Ending.{Ending}
use Rattle.place.specs.declared.Ending.TheVariants.{Lost}
use Rattle.place.specs.Endings as host
use Rattle.place.proofs.Endings.{numbered, numbered_number}
use Rattle.phases.proofs.Endings.{back_end, back_told_end}
use Rattle.margins.proofs.Unique as margins
use Rattle.joined.specs.Run.{Outcome, Left, told_ran}
use Rattle.joined.specs.declared.Report.{Report}
use Rattle.joined.proofs.run.Kinds as run_kinds
use Rattle.joined.proofs.run.Reads as run

-- The ending that is told of a host; of one that goes on none is told.
abbrev ending_of : host.End → Ending
ending_of host.going = Lost
ending_of (host.ended n) = numbered n

abbrev back_ran : Answer Outcome → Result Report Refusal
back_ran (refused n) = Err (named n)
back_ran (taken o) = Ok (record {
  pulses = o.pulses;
  ones = o.ones;
  zeros = o.zeros;
  ticks = record { 0 = o.ticks };
  risen = o.risen;
  phases = o.phases;
  host = ending_of o.host;
  chip = back_end o.chip;
  nearest = margins.back o.nearest;
})

pub back_told_ran : (r : Result Report Refusal) → back_ran (told_ran r) ≡ r
back_told_ran (Err n) = ap Err (named_number n)
back_told_ran (Ok r) =
    λ i. Ok (record {
      pulses = r.pulses;
      ones = r.ones;
      zeros = r.zeros;
      ticks = r.ticks;
      risen = r.risen;
      phases = r.phases;
      host = numbered_number r.host i;
      chip = back_told_end r.chip i;
      nearest = margins.back_told r.nearest i;
    })

pub run_one : OneOutcome run_kinds.ps run_kinds.r run.Post {X = Leaves (Result Report Refusal)}
    (λ κs r e. record { answer = r; ram = e.1.1.1.1.1.1.1.0.now; eeprom = e.1.1.1.1.1.1.1.1.0.now })
run_one κs a r₁ r₂ e₁ e₂ p q =
    one_left told_ran back_ran back_told_ran _ _
    (ap (λ (l : Left). record { answer = l.answer; ram = l.ram; eeprom = l.eeprom }) (p ∙ sym q))
