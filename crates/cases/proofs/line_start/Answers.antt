-- `cases::line_start` stands at the start of each line in turn.
-- Assumes nothing.
use mathlib.Core.Path.{◌≡◌, refl, ap, ◌∙◌}
use native.Mathlib.Omega.{arith}
use Rattle.cases.specs.Cases.{line_start}
use Rattle.cases.proofs.Ends.{start_next}
use Rattle.cases.proofs.line_start.Goals as goal

pub loop-init : goal.loop-init
unfolding line_start
loop-init c = refl

pub loop-preserved : goal.loop-preserved
loop-preserved c = rw (c.next_line-start.ensures, c.loop.invariant) (start_next c.args.text.now c.loop.counter)

pub returns : goal.returns
returns c =
    let last : c.loop.counter ≡ c.args.n = omega arith in
    c.loop.invariant ∙ ap (line_start c.args.text.now) last
