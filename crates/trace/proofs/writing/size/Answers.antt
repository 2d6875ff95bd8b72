-- `writing::size` divides until one group is left.
-- Assumes nothing.
use native.Mathlib.Omega.{arith}
use Rattle.trace.proofs.Groups.{sizing_first, sizing_more, sizing_done, sizing_few}
use Rattle.trace.proofs.writing.size.Goals as goal

pub loop-rest-init : goal.loop-rest-init
loop-rest-init c = search sizing_first

pub overflow_add-size : goal.overflow_add-size
overflow_add-size c =
    let l = c.loop-rest in
    let a = c.args in
    let few = sizing_few a.number l.rest l.size l.invariant in
    omega (arith, few)

pub loop-rest-preserved : goal.loop-rest-preserved
loop-rest-preserved c = search sizing_more

pub returns : goal.returns
returns c = search sizing_done
