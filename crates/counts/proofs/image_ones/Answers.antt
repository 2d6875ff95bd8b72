-- `image_ones` adds the ones of byte after byte.
-- Assumes nothing.
use mathlib.Core.Path.{sym, ◌∙◌}
use native.Mathlib.Omega.{arith}
use Rattle.std.proofs.Common.{rules, tests}
use Rattle.std.proofs.lemmas.Iterator.{YieldsList-from_slice, YieldsList-from_map}
use Rattle.std.proofs.lemmas.Iterator.Consumers.{YieldsList-at, sum_by_from_yields_List, fits_by_from_yields_list}
use Rattle.counts.specs.Counts.{byte_ones}
use Rattle.counts.proofs.Ones.{image_sum, image_most}
use Rattle.counts.proofs.image_ones.Goals as goal

pub sum-requires-clause-fits : goal.sum-requires-clause-fits
sum-requires-clause-fits c =
    let image = c.args.image.now in
    fits_by_from_yields_list byte_ones image c.map.result _
    (YieldsList-from_map _ byte_ones (YieldsList-at c.map.ensures.source (YieldsList-from_slice image cc)) c.map.ensures.closure (λ x r q k. search (rules, tests)))
    (omega (arith, image_sum image, image_most image, c.requires))

pub returns : goal.returns
returns c =
    let image = c.args.image.now in
    sum_by_from_yields_List byte_ones image c.map.result _ c.sum.ensures.ran
    (YieldsList-from_map _ byte_ones (YieldsList-at c.map.ensures.source (YieldsList-from_slice image cc)) c.map.ensures.closure (λ x r q k. search (rules, tests)))
    ∙ sym (image_sum image)
