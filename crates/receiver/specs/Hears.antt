-- 01, "What the chip does" and "Time-outs", and 02, "Two" and "Four": what a pulse leads to by its wait and its low, what is left of the
-- countdown, what the margins are, and what the work that the pulse calls for makes of that.
-- Assumes nothing.
use Rattle.std.specs.Prelude.{Bool, ℕ}
use Rattle.terms.specs.Choice.{when}
use Rattle.line.specs.Reading.{reads, distance_of}
use Rattle.phases.specs.declared.Phase.{Phase}
use Rattle.listener.specs.Heard.{heard}
use Rattle.listener.specs.Settled as listener
use Rattle.listener.specs.declared.Heard.{Heard}
use Rattle.countdown.specs.Countdown.{late, drawn, counting}
use Rattle.margins.specs.Margins.{with_pulse}
use Rattle.margins.specs.declared.Margins.{Margins}
use Rattle.receiver.specs.Late.{after_late}
use Rattle.receiver.specs.declared.Received.{Received}
use Rattle.receiver.specs.declared.Receiver.{Receiver}

-- What was heard, with what is left before the next pulse, and with the margins.
abbrev pub counted : Heard → Phase → ℕ → Margins → Received
counted h from left margins = record { heard = h; left = record { 0 = counting from h.listener.phase left }; margins = margins }

-- What a pulse leads to, by its wait and its low. One that times out draws nothing, and has no margin.
unfoldable pub hears : Receiver → ℕ → ℕ → Received
hears r wait low =
    when (late r.left.0 wait low)
    (counted (after_late r.listener r.listener.phase) r.listener.phase r.left.0 r.margins)
    (counted
    (heard r.listener r.listener.phase low (reads r.listener.threshold.0 low))
    r.listener.phase
    (drawn r.left.0 wait low)
    (with_pulse r.margins r.listener.phase (reads r.listener.threshold.0 low) (distance_of r.listener.threshold.0 low)))

-- The receiver once the work is done.
abbrev pub settled : Received → Bool → Receiver
settled r good = record { listener = listener.settled r.heard good; left = r.left; margins = r.margins }
