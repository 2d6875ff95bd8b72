-- `entries::until_blank` counts as the library does.
-- Assumes nothing.
use mathlib.Core.Bool.{not}
use mathlib.Core.Path.{refl}
use Rattle.std.proofs.Common.{rules, tests}
use Rattle.entries.specs.Entries.{is_blank}
use Rattle.entries.proofs.Texts.{others_counted, until_within, front_counted}
use Rattle.entries.proofs.until_blank.Goals as goal

pub returns : goal.returns
returns c =
    let text = c.args.text.now in
    let counted =
    front_counted (λ b. not (is_blank b)) text _ c.take_while.result _ c.count.ensures.ran c.iter.ensures.rest c.take_while.ensures.source
    c.take_while.ensures.closure c.take_while.ensures.done (λ x b q k. search (rules, tests))
    in
    rw (counted, others_counted text) (record { value = refl; within = until_within text })
