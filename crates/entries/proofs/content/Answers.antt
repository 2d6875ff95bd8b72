-- `entries::content` goes from the line's start to where the content ends, which is within the line.
-- Assumes nothing.
use mathlib.Core.Path.{refl}
use native.Mathlib.Omega.{arith}
use lib.ListN.{length-take}
use Rattle.entries.specs.Entries.{content_of}
use Rattle.entries.proofs.Texts.{content_within}
use Rattle.entries.proofs.content.Goals as goal

pub slice_bounds-result-end : goal.slice_bounds-result-end
slice_bounds-result-end c =
    let line = c.args.line.now in
    simp length-take (omega (arith, content_within line, c.content_end-end.ensures))

pub returns : goal.returns
unfolding content_of
returns c = record { result_value = rw c.content_end-end.ensures refl; ref_ptr_value = refl }
