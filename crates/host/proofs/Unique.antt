-- Each public call has one answer, since what it tells can be turned back. `Post` is the promise that is generated from the call's
-- contract.
-- Assumes nothing.
use Rattle.terms.proofs.Answers.{OneAnswer, one_told, told_one}
use Rattle.place.specs.Endings.{told_end}
use Rattle.place.proofs.Endings.{back_end, back_told_end}
use Rattle.host.proofs.Host.end.Kinds as end_kinds
use Rattle.host.proofs.Host.end.Reads as end
use Rattle.host.proofs.Host.start.Kinds as start_kinds
use Rattle.host.proofs.Host.start.Reads as start
use Rattle.host.proofs.Host.step.Kinds as step_kinds
use Rattle.host.proofs.Host.step.Reads as step

pub start_one : OneAnswer start_kinds.ps start_kinds.r start.Post
start_one κs a r₁ r₂ e₁ e₂ p q = told_one r₁ r₂ p q

pub step_one : OneAnswer step_kinds.ps step_kinds.r step.Post
step_one κs a r₁ r₂ e₁ e₂ p q = told_one r₁ r₂ p q

pub end_one : OneAnswer end_kinds.ps end_kinds.r end.Post
end_one κs a r₁ r₂ e₁ e₂ p q = one_told told_end back_end back_told_end r₁ r₂ p q
