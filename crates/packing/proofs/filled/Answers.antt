-- `filled`: a byte that goes on after n bits has been filled n times; the loop counts from its second bit on.
-- Assumes nothing.
use mathlib.Core.Path.{sym, ◌∙◌}
use native.Mathlib.Omega.{arith}
use Rattle.packing.specs.Filling.{filled_to}
use Rattle.packing.proofs.Fills.{some_most, begins, alone, goes_on_lem, all_taken, bit_misfits, run_over}
use Rattle.packing.proofs.filled.Goals as goal

pub returns-then-not-more : goal.returns-then-not-more
returns-then-not-more c =
    alone c.args.packing c.args.load c.args.image.now c.args.place c.bit-bit.result c.bit-bit.ensures
    c.with-first.result c.onward-second.result c.with-first.ensures c.onward-second.ensures
    (sym c.goes_on-more.ensures ∙ c.if-not-more.true)

pub loop-n-init : goal.loop-n-init
unfolding filled_to
loop-n-init c =
    let a = c.args in
    let begun =
    begins a.packing a.load a.image.now a.place c.bit-bit.result c.bit-bit.ensures c.with-first.result c.onward-second.result
    c.with-first.ensures c.onward-second.ensures (sym c.goes_on-more.ensures ∙ c.if-not-more.false)
    in
    (omega arith, (omega (arith, c.most-most.ensures, some_most a.packing), begun))

pub loop-n-preserved : goal.loop-n-preserved
loop-n-preserved c =
    let next = goes_on_lem _ _ _ _ c.loop-n.n _ _ c.loop-n.invariant.1.1 c.bit-bit-in-loop-n.result c.bit-bit-in-loop-n.ensures c.with-longer.result c.onward-to.result
    (sym c.fits-fits.ensures ∙ c.if-not-fits.false) c.with-longer.ensures c.onward-to.ensures
    (sym c.goes_on-goes.ensures ∙ c.if-not-goes.false) in (
      omega arith,
      (omega (arith, c.loop-n-test.true), next),
    )

pub returns-after-loop-n : goal.returns-after-loop-n
returns-after-loop-n c =
    all_taken _ _ _ _ c.loop-n.n c.most-most.result _ _ c.loop-n.invariant.1.1 c.loop-n.invariant.1.0 (omega (arith, c.loop-n-test.false))
    c.most-most.ensures

pub returns-then-not-fits : goal.returns-then-not-fits
returns-then-not-fits c =
    bit_misfits _ _ _ _ c.loop-n.n c.most-most.result _ _ c.loop-n.invariant.1.1 c.bit-bit-in-loop-n.result c.bit-bit-in-loop-n.ensures
    (omega (arith, c.loop-n-test.true)) c.most-most.ensures (sym c.fits-fits.ensures ∙ c.if-not-fits.true)

pub returns-then-not-goes : goal.returns-then-not-goes
returns-then-not-goes c =
    run_over _ _ _ _ c.loop-n.n c.most-most.result _ _ c.loop-n.invariant.1.1 c.bit-bit-in-loop-n.result c.bit-bit-in-loop-n.ensures
    (omega (arith, c.loop-n-test.true)) c.most-most.ensures c.with-longer.result c.onward-to.result
    (sym c.fits-fits.ensures ∙ c.if-not-fits.false) c.with-longer.ensures c.onward-to.ensures
    (sym c.goes_on-goes.ensures ∙ c.if-not-goes.true)
