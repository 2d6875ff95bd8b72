-- Each public call has one answer, since what it tells can be turned back. `Post` is the promise that is generated from the call's
-- contract.
-- Assumes nothing.
use mathlib.Core.Path.{sym, ◌∙◌}
use Rattle.terms.proofs.Answers.{OneAnswer, one_told, told_one}
use Rattle.place.specs.Endings.{told_end}
use Rattle.place.proofs.Endings.{back_end, back_told_end}
use Rattle.serial.proofs.Serial.awaits_reply.Kinds as awaits_reply_kinds
use Rattle.serial.proofs.Serial.awaits_reply.Reads as awaits_reply
use Rattle.serial.proofs.Serial.end.Kinds as end_kinds
use Rattle.serial.proofs.Serial.end.Reads as end
use Rattle.serial.proofs.Serial.start.Kinds as start_kinds
use Rattle.serial.proofs.Serial.start.Reads as start
use Rattle.serial.proofs.Serial.step.Kinds as step_kinds
use Rattle.serial.proofs.Serial.step.Reads as step

pub start_one : OneAnswer start_kinds.ps start_kinds.r start.Post
start_one κs a r₁ r₂ e₁ e₂ p q = told_one r₁ r₂ p q

pub step_one : OneAnswer step_kinds.ps step_kinds.r step.Post
step_one κs a r₁ r₂ e₁ e₂ p q = told_one r₁ r₂ p q

pub awaits_reply_one : OneAnswer awaits_reply_kinds.ps awaits_reply_kinds.r awaits_reply.Post
awaits_reply_one κs a r₁ r₂ e₁ e₂ p q = p ∙ sym q

pub end_one : OneAnswer end_kinds.ps end_kinds.r end.Post
end_one κs a r₁ r₂ e₁ e₂ p q = one_told told_end back_end back_told_end r₁ r₂ p q
