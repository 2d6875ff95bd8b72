-- `lent::total` folds the bytes.
-- Assumes nothing.
use Rattle.std.proofs.Common.{◌≡◌, ◌+◌, ◌%◌, ◌^◌, fold, rules, ◌∙◌}
use Rattle.lent.proofs.Totals.{added_all}
use Rattle.lent.proofs.total.Goals as goal

pub returns : goal.returns
returns c =
    let folded : c.fold.result ≡ fold (λ sum byte. (sum + byte) % (2 ^ 64)) 0 c.args.bytes.now = search rules in
    folded ∙ added_all (2 ^ 64) c.args.bytes.now
