-- Each public call has one answer. `Post` is the promise that is generated from the call's contract.
-- Assumes nothing.
use mathlib.Core.Path.{sym, ◌∙◌}
use Rattle.terms.proofs.Answers.{OneAnswer}
use Rattle.units.proofs.Bytes.to_longs.Kinds as to_longs_kinds
use Rattle.units.proofs.Bytes.to_longs.Reads as to_longs
use Rattle.units.proofs.Distance.size.Kinds as size_kinds
use Rattle.units.proofs.Distance.size.Reads as size
use Rattle.units.proofs.Longs.to_bytes.Kinds as to_bytes_kinds
use Rattle.units.proofs.Longs.to_bytes.Reads as to_bytes
use Rattle.units.proofs.Longs.to_end.Kinds as to_end_kinds
use Rattle.units.proofs.Longs.to_end.Reads as to_end
use Rattle.units.proofs.Loops.minus.Kinds as minus_kinds
use Rattle.units.proofs.Loops.minus.Reads as minus
use Rattle.units.proofs.Loops.of.Kinds as of_kinds
use Rattle.units.proofs.Loops.of.Reads as of
use Rattle.units.proofs.Ticks.to_loops.Kinds as to_loops_kinds
use Rattle.units.proofs.Ticks.to_loops.Reads as to_loops

pub to_longs_one : OneAnswer to_longs_kinds.ps to_longs_kinds.r to_longs.Post
to_longs_one κs a r₁ r₂ e₁ e₂ p q = λ i. record { 0 = (p ∙ sym q) i }

pub to_bytes_one : OneAnswer to_bytes_kinds.ps to_bytes_kinds.r to_bytes.Post
to_bytes_one κs a r₁ r₂ e₁ e₂ p q = λ i. record { 0 = (p ∙ sym q) i }

pub to_end_one : OneAnswer to_end_kinds.ps to_end_kinds.r to_end.Post
to_end_one κs a r₁ r₂ e₁ e₂ p q = λ i. record { 0 = (p ∙ sym q) i }

pub to_loops_one : OneAnswer to_loops_kinds.ps to_loops_kinds.r to_loops.Post
to_loops_one κs a r₁ r₂ e₁ e₂ p q = λ i. record { 0 = (p ∙ sym q) i }

pub of_one : OneAnswer of_kinds.ps of_kinds.r of.Post
of_one κs a r₁ r₂ e₁ e₂ p q = λ i. record { 0 = (p ∙ sym q) i }

pub minus_one : OneAnswer minus_kinds.ps minus_kinds.r minus.Post
minus_one κs a r₁ r₂ e₁ e₂ p q = λ i. record { 0 = (p ∙ sym q) i }

pub size_one : OneAnswer size_kinds.ps size_kinds.r size.Post
size_one κs a r₁ r₂ e₁ e₂ p q = p ∙ sym q
