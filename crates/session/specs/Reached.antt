-- 01, row 13 of "Refusal numbers": the sessions got from a start by steps that weren't refused.
-- Assumes nothing.
use Rattle.std.specs.Prelude.{List, ◌≡◌, ℕ}
use Rattle.terms.specs.Refusals.{taken}
use Rattle.units.specs.declared.Seen.{Seen}
use Rattle.session.specs.Step.{session_start, session_step}
use Rattle.session.specs.declared.Pulse.{Pulse}
use Rattle.session.specs.declared.Session.{Session}

-- What a start and steps that weren't refused lead to.
pub data Reached : Session → Type 0 where
  started : (command : ℕ) (image : List ℕ) (s : Session) → session_start command image ≡ taken s → Reached s
  stepped : (s : Session) (image : List ℕ) (seen : Seen) (p : Pulse) → Reached s → session_step s image seen ≡ taken p
      → Reached p.session
