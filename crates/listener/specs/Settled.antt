-- 01, "What the chip does": what the work that a pulse calls for makes of what was heard.
-- Assumes nothing.
use Rattle.std.specs.Prelude.{Bool}
use Rattle.terms.specs.Choice.{when}
use Rattle.listener.specs.Heard.{in_phase}
use Rattle.phases.specs.declared.Acknowledgement.TheVariants.{Failed}
use Rattle.phases.specs.declared.Ending.TheVariants.{Shut}
use Rattle.listener.specs.declared.Event.{Event}
use Rattle.listener.specs.declared.Event.TheVariants.{Nothing, Store, Finish, Program, Verify, Launch, Boot}
use Rattle.listener.specs.declared.Heard.{Heard}
use Rattle.listener.specs.declared.Listener.{Listener}
use Rattle.phases.specs.declared.Phase.TheVariants.{Align, Ended}

-- Work that did not go well: a failure replies 1 in its place; what does not launch shuts down silently.
abbrev pub failed : Listener → Event → Listener
failed l Nothing = l
failed l (Store k long) = l
failed l (Finish k long) = in_phase l (Align Failed)
failed l Program = in_phase l (Align Failed)
failed l Verify = in_phase l (Align Failed)
failed l Launch = in_phase l (Ended Shut)
failed l Boot = in_phase l (Ended Shut)

-- The listener once the work is done.
unfoldable pub settled : Heard → Bool → Listener
settled h good = when good h.listener (failed h.listener h.event)
