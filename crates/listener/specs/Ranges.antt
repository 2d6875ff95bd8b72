-- 01, row 13 of "Refusal numbers": the ranges of a listener's fields, as docs/RECORDS.md has them.
-- Assumes nothing.
use Rattle.std.specs.Prelude.{Bool, ltb}
use Rattle.terms.specs.Choice.{either}
use Rattle.phases.specs.Ranges.{phase_outside}
use Rattle.listener.specs.declared.Listener.{Listener}

-- 13: some field lies outside its range: the threshold, the command, the size, or the phase.
unfoldable pub listener_outside : Listener → Bool
listener_outside l =
    either (ltb 187499 l.threshold.0)
    (either (ltb 3 l.command)
    (either (ltb 8192 l.size.0)
    (phase_outside l.command l.size.0 l.phase)))
