-- `run` checks both starts in their order, then plays; its host has ended, so that there is an ending to report.
-- Assumes nothing.
use Rattle.std.proofs.lemmas.Result.{err_from_is_err_and}
use Rattle.joined.proofs.Runs.{host_refused, chip_refused, run_ended, run_finished}
use Rattle.joined.proofs.run.Goals as goal

pub returns-in_err-host : goal.returns-in_err-host
returns-in_err-host c =
    let p = err_from_is_err_and c.from_residual.result c.from_residual.ensures.1 in
    rw (p.1, p.2) (host_refused _ _ _ _ _ _ _ _ _ _ c.in_err-host.ensures)

pub returns-in_err-chip : goal.returns-in_err-chip
returns-in_err-chip c =
    let p = err_from_is_err_and c.from_residual-in_err-chip.result c.from_residual-in_err-chip.ensures.1 in
    rw (p.1, p.2) (chip_refused _ _ _ _ _ _ _ _ _ _ c.in_ok-host.ensures _ c.in_err-chip.ensures)

pub reported-requires : goal.reported-requires
reported-requires c = run_ended _ _ _ _ _ _ _ _ _ _ c.in_ok-host.ensures _ c.in_ok-chip.ensures _ _ _ c.play-end.ensures

pub returns : goal.returns
returns c = run_finished _ _ _ _ _ _ _ _ _ _ c.in_ok-host.ensures _ c.in_ok-chip.ensures _ _ _ c.play-end.ensures _ c.reported.ensures
