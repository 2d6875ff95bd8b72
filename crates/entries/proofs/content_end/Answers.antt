-- `entries::content_end`: the content ends, seen from each place that is reached, where it ends from the first.
-- Assumes nothing.
use mathlib.Core.Path.{◌≡◌, ◌∙◌}
use native.Mathlib.Omega.{arith}
use lib.ListN.{length}
use Rattle.terms.proofs.Refusals.{answered}
use Rattle.entries.proofs.Texts.{content_first, content_past, content_here, content_later}
use Rattle.entries.proofs.content_end.Goals as goal

pub loop-at-init : goal.loop-at-init
loop-at-init c = content_first _

pub returns-then-is_end : goal.returns-then-is_end
returns-then-is_end c =
    content_here _ _ c.loop-at-test.true (answered _ _ _ c.is_end.ensures c.if-is_end.true)
    ∙ c.loop-at.invariant

pub loop-at-preserved : goal.loop-at-preserved
loop-at-preserved c =
    content_later _ _ c.loop-at-test.true (answered _ _ _ c.is_end.ensures c.if-is_end.false)
    ∙ c.loop-at.invariant

pub returns : goal.returns
returns c =
    let line = c.args.line.now in
    let last : c.loop-at.at ≡ length line = omega arith in
    rw last at (content_past line c.loop-at.at (omega arith) ∙ c.loop-at.invariant)
