-- `cases::line` goes from where the line starts to where it ends.
-- Assumes nothing.
use Rattle.cases.proofs.Ends.{line_here}
use Rattle.cases.proofs.line.Goals as goal

pub returns : goal.returns
returns c =
    let a = c.args in
    let found = line_here a.text.ref_ptr a.text.now a.n _ _ c.line_start-start.ensures c.line_end-end.ensures in
    record { result_value = found.0; ref_ptr_value = found.1 }
