-- `lent::sum` folds the bytes.
-- Assumes nothing.
use Rattle.std.proofs.Common.{◌≡◌, ◌+◌, ◌%◌, fold, rules, ◌∙◌}
use Rattle.lent.proofs.Totals.{added_all}
use Rattle.lent.proofs.sum.Goals as goal

pub returns : goal.returns
returns c =
    let folded : c.fold.result ≡ fold (λ sum byte. (sum + byte) % 256) 0 c.args.bytes.now = search rules in
    folded ∙ added_all 256 c.args.bytes.now
