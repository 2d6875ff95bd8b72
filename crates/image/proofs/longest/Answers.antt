-- `image::longest`: what is stored and what is to come always give an image that counts up from byte 16 on.
-- Assumes nothing.
use Rattle.std.proofs.Common.{◌≡◌, ◌<◌, ◌≤◌, length, replicate, sym, ◌∙◌, arith, length-set}
use Rattle.image.proofs.Counting.{counted_on, count_turn, count_past, words_stored, first_stored}
use Rattle.image.proofs.longest.Goals as goal

pub loop-at-preserved : goal.loop-at-preserved
loop-at-preserved c =
    let here = c.loop-at in
    let within : here.at < length here.image = omega arith in
    (length-set here.image here.at _ ∙ here.invariant.0, count_turn here.image here.at within ∙ here.invariant.1)

pub returns : goal.returns
returns c =
    let image = c.loop-at.image in
    let whole : length image ≤ c.loop-at.at = omega arith in
    let counted : image ≡ counted_on 16 (replicate 32760 0) = sym (count_past image _ whole) ∙ c.loop-at.invariant.1 in
    first_stored _ c.sum.result _ (words_stored image counted) c.sum.ensures (omega arith) (omega arith)
