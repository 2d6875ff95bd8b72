-- `sequence::states::state_at` reads the orbit's state. `simp` takes the code's own table for `orbit`'s, and computes what `orbit` asks
-- of it: that it starts at the seed, and the one test of its rule.
-- Assumes nothing.
use Prim.Native.Nat.{◌<◌}
use borrow.Author.Rules.{rules}
use Rattle.terms.specs.Choice.{both}
use Rattle.sequence.specs.Sequence.{advanced}
use Rattle.sequence.proofs.Orbit.{follows, orbit}
use Rattle.sequence.proofs.states.state_at.Goals as goal

pub returns : goal.returns
unfolding follows both advanced
returns c =
    let inside : c.args.place < 255 = search rules in
    simp orbit
