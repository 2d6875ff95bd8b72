-- `entries::word_start` stands at the start of each word in turn.
-- Assumes nothing.
use mathlib.Core.Path.{◌≡◌, ap, ◌∙◌}
use native.Mathlib.Omega.{arith}
use Rattle.entries.specs.Entries.{word_start}
use Rattle.entries.proofs.Texts.{start_first, start_next}
use Rattle.entries.proofs.word_start.Goals as goal

pub loop-init : goal.loop-init
loop-init c = c.skip-start.ensures ∙ start_first _

pub loop-preserved : goal.loop-preserved
loop-preserved c = rw (c.skip-start-in-loop.ensures, c.word_end.ensures, c.loop.invariant) (start_next c.args.text.now c.loop.counter)

pub returns : goal.returns
returns c =
    let last : c.loop.counter ≡ c.args.n = omega arith in
    c.loop.invariant ∙ ap (word_start c.args.text.now) last
