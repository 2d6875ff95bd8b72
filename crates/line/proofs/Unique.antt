-- Each public call has one answer. `Post` is the promise that is generated from the call's contract.
-- Assumes nothing.
use mathlib.Core.Path.{sym, ◌∙◌}
use Rattle.terms.proofs.Answers.{OneAnswer}
use Rattle.line.proofs.grown.Kinds as grown_kinds
use Rattle.line.proofs.grown.Reads as grown
use Rattle.line.proofs.reads.Kinds as reads_kinds
use Rattle.line.proofs.reads.Reads as reads
use Rattle.line.proofs.reply_bit.Kinds as reply_bit_kinds
use Rattle.line.proofs.reply_bit.Reads as reply_bit_lem
use Rattle.line.proofs.threshold.Kinds as threshold_kinds
use Rattle.line.proofs.threshold.Reads as threshold

pub threshold_one : OneAnswer threshold_kinds.ps threshold_kinds.r threshold.Post
threshold_one κs a r₁ r₂ e₁ e₂ p q = λ i. record { 0 = (p ∙ sym q) i }

pub reads_one : OneAnswer reads_kinds.ps reads_kinds.r reads.Post
reads_one κs a r₁ r₂ e₁ e₂ p q = λ i. record { distance = record { 0 = (p.1 ∙ sym q.1) i }; bit = (p.0 ∙ sym q.0) i }

pub grown_one : OneAnswer grown_kinds.ps grown_kinds.r grown.Post
grown_one κs a r₁ r₂ e₁ e₂ p q = p ∙ sym q

pub reply_bit_one : OneAnswer reply_bit_kinds.ps reply_bit_kinds.r reply_bit_lem.Post
reply_bit_one κs a r₁ r₂ e₁ e₂ p q = p ∙ sym q
