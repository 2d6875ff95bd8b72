-- Each public call has one answer, since what it tells can be turned back. `Post` is the promise that is generated from the call's
-- contract.
-- Assumes nothing.
use Rattle.terms.proofs.Answers.{OneAnswer, told_one}
use Rattle.session.proofs.Session.start.Kinds as start_kinds
use Rattle.session.proofs.Session.start.Reads as start
use Rattle.session.proofs.Session.step.Kinds as step_kinds
use Rattle.session.proofs.Session.step.Reads as step

pub start_one : OneAnswer start_kinds.ps start_kinds.r start.Post
start_one κs a r₁ r₂ e₁ e₂ p q = told_one r₁ r₂ p q

pub step_one : OneAnswer step_kinds.ps step_kinds.r step.Post
step_one κs a r₁ r₂ e₁ e₂ p q = told_one r₁ r₂ p q
