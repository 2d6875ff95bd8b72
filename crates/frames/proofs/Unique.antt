-- Each public call has one answer. `Post` is the promise that is generated from the call's contract.
-- Assumes nothing.
use mathlib.Core.Path.{sym, ◌∙◌}
use Rattle.terms.proofs.Answers.{OneAnswer}
use Rattle.frames.proofs.Frame.fits.Kinds as fits_kinds
use Rattle.frames.proofs.Frame.fits.Reads as fits
use Rattle.frames.proofs.Frame.with.Kinds as with_kinds
use Rattle.frames.proofs.Frame.with.Reads as with
use Rattle.frames.proofs.Frame.byte.Kinds as byte_kinds
use Rattle.frames.proofs.Frame.byte.Reads as byte

pub fits_one : OneAnswer fits_kinds.ps fits_kinds.r fits.Post
fits_one κs a r₁ r₂ e₁ e₂ p q = p ∙ sym q

pub with_one : OneAnswer with_kinds.ps with_kinds.r with.Post
with_one κs a r₁ r₂ e₁ e₂ p q = p ∙ sym q

pub byte_one : OneAnswer byte_kinds.ps byte_kinds.r byte.Post
byte_one κs a r₁ r₂ e₁ e₂ p q = p ∙ sym q
