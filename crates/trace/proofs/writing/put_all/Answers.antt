-- `writing::put_all` stores the mark, then number after number.
-- Assumes nothing.
use mathlib.Core.Path.{◌∙◌}
use lib.ListN.{set, length-set}
use Rattle.trace.proofs.Groups.{small_at}
use Rattle.trace.proofs.Filling.{filling_first, filling_place, filling_done, filling_room, filling_more}
use Rattle.trace.proofs.writing.put_all.Goals as goal

pub loop-number-init : goal.loop-number-init
loop-number-init c =
    let a = c.args in
    let f = c.requires.1 in
    filling_first a.numbers.now (set a.buffer.now 0 1) (simp length-set f)

pub put-at-requires : goal.put-at-requires
put-at-requires c = search (small_at, filling_room)

pub loop-number-preserved : goal.loop-number-preserved
loop-number-preserved c = search filling_more

pub shape_of-buffer : goal.shape_of-buffer
shape_of-buffer c = c.loop-number.invariant.same ∙ simp length-set

pub returns : goal.returns
returns c = search (filling_place, filling_done)
