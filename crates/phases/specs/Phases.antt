-- 01, row 14 of "Refusal numbers": a chip that has ended.
-- Assumes nothing.
use Rattle.std.specs.Prelude.{Bool, true, false}
use Rattle.phases.specs.declared.Phase.{Phase}
use Rattle.phases.specs.declared.Phase.TheVariants.{First, Second, Handshake, Answer, Rest, Command, Size, Long, Align, Ended}

abbrev pub ended : Phase → Bool
ended First = false
ended (Second d) = false
ended (Handshake k) = false
ended (Answer r) = false
ended (Rest r) = false
ended (Command n bits) = false
ended (Size n bits) = false
ended (Long n k bits) = false
ended (Align a) = false
ended (Ended e) = true
