-- `trace::pairs` reads number after number, and keeps whether a wait is open.
-- Assumes nothing.
use native.Mathlib.Omega.{arith}
use Rattle.trace.proofs.Judging.{judging_first, judging_waits, judging_over, judging_more, judging_on, judging_none}
use Rattle.trace.proofs.pairs.Goals as goal

pub loop-at-init : goal.loop-at-init
loop-at-init c = search judging_first

pub returns-in_default : goal.returns-in_default
returns-in_default c = search judging_none

pub loop-at-smaller : goal.loop-at-smaller
loop-at-smaller c =
    let trace = c.args.trace.now in
    let l = c.loop-at in
    let on = judging_on trace l.at l.waits l.invariant c.loop-at-test.true c.read.result c.read.ensures c.in-Ok.number c.in-Ok.is in
    let inside = on.1 in
    omega (arith, on.0, inside)

pub loop-at-preserved : goal.loop-at-preserved
loop-at-preserved c = search judging_more

pub returns-then-waits : goal.returns-then-waits
returns-then-waits c = search (judging_waits, c.if-waits.true)

pub returns : goal.returns
returns c = search (judging_over, c.if-waits.false)
