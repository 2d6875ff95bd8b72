-- `replay::replay` walks both tables in their order, then plays.
-- Assumes nothing.
use Rattle.std.proofs.lemmas.Result.{err_from_is_err_and}
use Rattle.replay.proofs.Rows.{start_refused, file_refused, file_sound, replay_finished}
use Rattle.replay.proofs.replay.Goals as goal

pub returns-in_err-chip : goal.returns-in_err-chip
returns-in_err-chip c =
    let p = err_from_is_err_and c.from_residual.result c.from_residual.ensures.1 in
    rw (p.1, p.2) (start_refused _ _ _ _ _ c.in_err-chip.ensures)

pub returns-in_err-judge : goal.returns-in_err-judge
returns-in_err-judge c =
    let p = err_from_is_err_and c.from_residual-in_err-judge.result c.from_residual-in_err-judge.ensures.1 in
    rw (p.1, p.2) (file_refused _ _ _ _ _ c.in_ok-chip.ensures _ c.in_err-judge.ensures)

pub play-end-requires : goal.play-end-requires
play-end-requires c = file_sound _ _ _ _ _ c.in_ok-chip.ensures c.in_ok-judge.ensures

pub returns : goal.returns
returns c = replay_finished _ _ _ _ _ c.in_ok-chip.ensures c.in_ok-judge.ensures _ _ _ _ c.play-end.ensures c.reported.ensures
