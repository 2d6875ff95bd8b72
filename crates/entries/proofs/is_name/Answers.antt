-- `entries::is_name` asks for each byte.
-- Assumes nothing.
use mathlib.Core.Path.{◌∙◌}
use Rattle.std.proofs.Common.{rules, tests}
use Rattle.std.proofs.lemmas.Iterator.{YieldsList-from_slice}
use Rattle.std.proofs.lemmas.Iterator.Search.{all_from_yields_List}
use Rattle.entries.specs.Entries.{may_be_named}
use Rattle.entries.proofs.Texts.{names_tested}
use Rattle.entries.proofs.is_name.Goals as goal

pub returns : goal.returns
returns c =
    let name = c.args.name.now in
    all_from_yields_List may_be_named _ _ _ c.all.ensures.ran (YieldsList-from_slice name cc) (λ x b q k. search (rules, tests))
    ∙ names_tested name
