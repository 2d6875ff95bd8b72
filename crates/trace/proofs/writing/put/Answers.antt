-- `writing::put` stores group after group.
-- Assumes nothing.
use Rattle.trace.proofs.Groups.{putting_first, putting_more, putting_room, putting_place, putting_done}
use Rattle.trace.proofs.writing.put.Goals as goal

pub loop-rest-init : goal.loop-rest-init
loop-rest-init c = search putting_first

pub bounds-buffer-next : goal.bounds-buffer-next
bounds-buffer-next c = search putting_room

pub loop-rest-preserved : goal.loop-rest-preserved
loop-rest-preserved c = search putting_more

pub bounds-buffer-next-2 : goal.bounds-buffer-next-2
bounds-buffer-next-2 c = search putting_room

pub returns : goal.returns
returns c = search (putting_place, putting_done)
