-- 01, "Time-outs": where they lead.
-- Assumes nothing.
use Rattle.listener.specs.Heard.{quiet, booting}
use Rattle.phases.specs.declared.Acknowledgement.{Acknowledgement}
use Rattle.phases.specs.declared.Acknowledgement.TheVariants.{Stored, Programmed, Verified, Failed}
use Rattle.phases.specs.declared.Ending.TheVariants.{Shut}
use Rattle.listener.specs.declared.Heard.{Heard}
use Rattle.listener.specs.declared.Listener.{Listener}
use Rattle.phases.specs.declared.Phase.{Phase}
use Rattle.phases.specs.declared.Phase.TheVariants.{First, Second, Handshake, Answer, Rest, Command, Size, Long, Align, Ended}
use Rattle.phases.specs.declared.Reply.{Reply}
use Rattle.phases.specs.declared.Reply.TheVariants.{Connection, Acknowledging}

-- Within a reply's two pulses: shut down; but where that reply was the 0 for programming or verification, the chip first aligns and
-- replies 1.
abbrev pub late_acknowledgement : Acknowledgement → Phase
late_acknowledgement Stored = Ended Shut
late_acknowledgement Programmed = Align Failed
late_acknowledgement Verified = Align Failed
late_acknowledgement Failed = Ended Shut

abbrev pub late_reply : Reply → Phase
late_reply (Connection k) = Ended Shut
late_reply (Acknowledging a) = late_acknowledgement a

-- While reading bits or aligning: boot. The pulse gets no reply and is used up.
abbrev pub after_late : Listener → Phase → Heard
after_late l First = booting l
after_late l (Second d) = booting l
after_late l (Handshake k) = booting l
after_late l (Answer r) = quiet l (late_reply r)
after_late l (Rest r) = quiet l (late_reply r)
after_late l (Command n bits) = booting l
after_late l (Size n bits) = booting l
after_late l (Long n k bits) = booting l
after_late l (Align a) = booting l
after_late l (Ended e) = quiet l (Ended e)
