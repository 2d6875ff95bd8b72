-- 01, row 13 of "Refusal numbers": the ranges of a session's fields, as docs/RECORDS.md has them.
-- Assumes nothing.
use Rattle.std.specs.Prelude.{Bool, not, ◌+◌, ltb, eqb}
use Rattle.terms.specs.Choice.{either}
use Rattle.load.specs.Load.{load_outside}
use Rattle.range.specs.Ranges.{before, place_outside}
use Rattle.session.specs.declared.Session.{Session}

-- 13: some field lies outside its range: the load, the place, more pulses than can have been sent before the place, or other ones and
-- zeros than pulses.
unfoldable pub session_outside : Session → Bool
session_outside s =
    either (load_outside s.load)
    (either (place_outside s.load s.place.phase s.place.index)
    (either (ltb (before s.load s.place.phase + s.place.index) s.pulses)
    (not (eqb (s.ones + s.zeros) s.pulses))))
