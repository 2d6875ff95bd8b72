-- 01, "What the chip does": where a pulse leads.
-- Assumes nothing.
use Rattle.std.specs.Prelude.{Bool, true, false, not, ℕ, ◌+◌, ltb, eqb}
use Rattle.terms.specs.Choice.{when}
use Rattle.sequence.specs.Sequence.{draw}
use Rattle.units.specs.declared.Longs.{Longs}
use Rattle.units.specs.declared.Seen.{Seen}
use Rattle.units.specs.declared.Seen.TheVariants.{Silence}
use Rattle.line.specs.Reading.{threshold_of, grown}
use Rattle.line.specs.Replies.{reply_bit, shown}
use Rattle.phases.specs.declared.Acknowledgement.{Acknowledgement}
use Rattle.phases.specs.declared.Acknowledgement.TheVariants.{Stored, Programmed, Verified, Failed}
use Rattle.phases.specs.declared.Ending.TheVariants.{Launched, Booted, Shut, Off}
use Rattle.listener.specs.declared.Event.{Event}
use Rattle.listener.specs.declared.Event.TheVariants.{Nothing, Store, Finish, Program, Verify, Launch, Boot}
use Rattle.listener.specs.declared.Heard.{Heard}
use Rattle.listener.specs.declared.Listener.{Listener}
use Rattle.phases.specs.declared.Phase.{Phase}
use Rattle.phases.specs.declared.Phase.TheVariants.{First, Second, Handshake, Answer, Rest, Command, Size, Long, Align, Ended}
use Rattle.phases.specs.declared.Reply.{Reply}
use Rattle.phases.specs.declared.Reply.TheVariants.{Connection, Acknowledging}

-- A record in another phase, or with what was read.
abbrev pub in_phase : Listener → Phase → Listener
in_phase l phase = record { threshold = l.threshold; command = l.command; size = l.size; phase = phase }

abbrev pub with_threshold : Listener → ℕ → Listener
with_threshold l d = record { threshold = record { 0 = d }; command = l.command; size = l.size; phase = l.phase }

abbrev pub with_command : Listener → ℕ → Listener
with_command l command = record { threshold = l.threshold; command = command; size = l.size; phase = l.phase }

abbrev pub with_size : Listener → ℕ → Listener
with_size l n = record { threshold = l.threshold; command = l.command; size = record { 0 = n }; phase = l.phase }

-- A pulse that leads to a phase, with an event and a reply.
abbrev pub led : Listener → Phase → Event → Seen → Heard
led l phase event reply = record { listener = in_phase l phase; event = event; reply = reply }

-- With neither.
abbrev pub quiet : Listener → Phase → Heard
quiet l phase = led l phase Nothing Silence

abbrev pub booting : Listener → Heard
booting l = led l (Ended Booted) Boot Silence

abbrev pub launching : Listener → Heard
launching l = led l (Ended Launched) Launch Silence

abbrev pub shutting : Listener → Heard
shutting l = quiet l (Ended Shut)

-- Two bits are the same.
abbrev pub agree : Bool → Bool → Bool
agree true b = b
agree false b = not b

-- Handshake: 250 bits compared with the draws. A mismatch boots at once.
unfoldable pub after_draw : ℕ → Phase
after_draw k = when (ltb k 250) (Handshake (k + 1)) (Answer (Connection 0))

unfoldable pub compared : Listener → ℕ → Bool → Heard
compared l k bit = when (agree bit (draw k)) (quiet l (after_draw k)) (booting l)

-- Replies: 250 draws, then 8 version bits, 258 in all; then the command.
unfoldable pub after_connection : ℕ → Phase
after_connection k = when (ltb k 257) (Answer (Connection (k + 1))) (Command 0 0)

-- Commands 2, 3: programming follows a good checksum. Command 1 launches.
unfoldable pub stored : Listener → Heard
stored l = when (eqb l.command 1) (launching l) (led l (Align Programmed) Program Silence)

-- Ending: command 2 shuts down.
unfoldable pub verified : Listener → Heard
verified l = when (eqb l.command 2) (shutting l) (launching l)

-- What follows an acknowledgement.
abbrev pub acknowledged : Listener → Acknowledgement → Heard
acknowledged l Stored = stored l
acknowledged l Programmed = led l (Align Verified) Verify Silence
acknowledged l Verified = verified l
acknowledged l Failed = shutting l

abbrev pub replied : Listener → Reply → Heard
replied l (Connection k) = quiet l (after_connection k)
replied l (Acknowledging a) = acknowledged l a

-- Command: 0, or 4 and above: shut down.
unfoldable pub received_command : Listener → ℕ → Heard
received_command l command =
    when (eqb command 0) (shutting l)
    (when (ltb 3 command) (shutting l)
    (quiet (with_command l command) (Size 0 0)))

-- Size 0 or above 8,192 ends the model as off chart.
unfoldable pub received_size : Listener → ℕ → Heard
received_size l n =
    when (eqb n 0) (quiet l (Ended Off))
    (when (ltb 8192 n) (quiet l (Ended Off))
    (quiet (with_size l n) (Long 0 (record { 0 = 0 }) 0)))

-- RAM: longs go to address 0 up; after the last the load is finished.
unfoldable pub received_long : Listener → Longs → ℕ → Heard
received_long l k long =
    when (ltb (k.0 + 1) l.size.0)
    (led l (Long 0 (record { 0 = k.0 + 1 }) 0) (Store k long) Silence)
    (led l (Align Stored) (Finish k long) Silence)

-- Each value has 32 bits.
unfoldable pub read_command : Listener → ℕ → ℕ → Heard
read_command l n bits = when (ltb n 31) (quiet l (Command (n + 1) bits)) (received_command l bits)

unfoldable pub read_size : Listener → ℕ → ℕ → Heard
read_size l n bits = when (ltb n 31) (quiet l (Size (n + 1) bits)) (received_size l bits)

unfoldable pub read_long : Listener → Longs → ℕ → ℕ → Heard
read_long l k n bits = when (ltb n 31) (quiet l (Long (n + 1) k bits)) (received_long l k bits)

-- Acknowledging: pulses are read until one is 0; the reply is given with the next two.
unfoldable pub aligned : Listener → Acknowledgement → Bool → Heard
aligned l a bit = when bit (quiet l (Align a)) (quiet l (Answer (Acknowledging a)))

-- Where a pulse leads, by what it is to the chip: its low, or the bit that it reads as.
abbrev pub heard : Listener → Phase → ℕ → Bool → Heard
heard l First low bit = quiet l (Second (record { 0 = low }))
heard l (Second d) low bit = quiet (with_threshold l (threshold_of d.0 low)) (Handshake 1)
heard l (Handshake k) low bit = compared l k bit
heard l (Answer r) low bit = led l (Rest r) Nothing (shown (reply_bit r))
heard l (Rest r) low bit = replied l r
heard l (Command n bits) low bit = read_command l n (grown bits bit)
heard l (Size n bits) low bit = read_size l n (grown bits bit)
heard l (Long n k bits) low bit = read_long l k n (grown bits bit)
heard l (Align a) low bit = aligned l a bit
heard l (Ended e) low bit = quiet l (Ended e)
