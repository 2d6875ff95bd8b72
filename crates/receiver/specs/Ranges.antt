-- 01, row 13 of "Refusal numbers": the ranges of a receiver's fields, as docs/RECORDS.md has them.
-- Assumes nothing.
use Rattle.std.specs.Prelude.{Bool}
use Rattle.terms.specs.Choice.{either}
use Rattle.countdown.specs.Countdown.{left_outside}
use Rattle.listener.specs.Ranges.{listener_outside}
use Rattle.margins.specs.Margins.{margins_outside}
use Rattle.receiver.specs.declared.Receiver.{Receiver}

-- 13: some field lies outside its range.
unfoldable pub receiver_outside : Receiver → Bool
receiver_outside r =
    either (listener_outside r.listener)
    (either (left_outside r.listener.phase r.left.0)
    (margins_outside r.margins))
