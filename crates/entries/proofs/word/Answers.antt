-- `entries::word` goes from where the word starts to where it ends.
-- Assumes nothing.
use Rattle.entries.proofs.Texts.{word_here}
use Rattle.entries.proofs.word.Goals as goal

pub returns : goal.returns
returns c =
    let a = c.args in
    let text = c.content-text in
    let found = word_here a.line.now a.n _ _ _ _ _ text.ensures.result_value text.ensures.ref_ptr_value c.word_start-start.ensures c.word_end-end.ensures in
    record { result_value = found.0; ref_ptr_value = found.1 }
