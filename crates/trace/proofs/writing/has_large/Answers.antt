-- `writing::has_large` asks of each number.
-- Assumes nothing.
use Rattle.std.proofs.Common.{leb, rules, tests, ◌∙◌}
use Rattle.std.proofs.lemmas.Iterator.{YieldsList-from_slice}
use Rattle.std.proofs.lemmas.Iterator.Search.{any_from_yields_List}
use Rattle.numbers.specs.Numbers.{bound}
use Rattle.trace.proofs.Groups.{any_large}
use Rattle.trace.proofs.writing.has_large.Goals as goal

pub returns : goal.returns
returns c =
    let numbers = c.args.numbers.now in
    any_from_yields_List (leb bound) _ _ _ c.any.ensures.ran (YieldsList-from_slice numbers cc) (λ x b q k. search (rules, tests))
    ∙ any_large bound numbers
