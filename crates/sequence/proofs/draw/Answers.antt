-- `sequence::draw` reads bit 0 of the state at the draw's place in the table.
-- Assumes nothing.
use native.Mathlib.Nat.{div-one}
use lib.Bits.{and_mask}
use Rattle.sequence.proofs.Draws.{draw_place}
use Rattle.sequence.proofs.draw.Goals as goal

pub returns : goal.returns
returns c = rw (and_mask c.state_at.result 1, c.state_at.ensures, draw_place, div-one)
