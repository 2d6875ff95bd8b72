-- `image::longest`: what is stored and what is to come always give an image that counts up from byte 16 on.
-- Assumes nothing.
use Rattle.std.proofs.Common.{◌≡◌, length, replicate}
use Rattle.image.proofs.Counting.{counted_on}
use Rattle.image.proofs.longest.Given as goal

abbrev pub invariant-loop-at : goal.invariant-loop-at
invariant-loop-at l = (length l.image ≡ 32760) × (counted_on l.at l.image ≡ counted_on 16 (replicate 32760 0))
