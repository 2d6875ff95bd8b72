-- 02, "One": "the same bits in the same order", over whole sessions. The low runs of a serial session's bytes are the bits of a session by
-- 01's own steps, which is the one that 01 spells.
-- Assumes nothing.
use Rattle.std.specs.Prelude.{Bool, false, List, [], ◌∷◌, ◌++◌, map, ◌≡◌, ℕ, zero, suc, ◌+◌, ◌*◌, ◌≤◌, ◌<◌, length, get_or, replicate}
use Rattle.std.specs.Prelude.{Option, None, Some}
use Rattle.terms.specs.Refusals.{Answer, refused, taken}
use Rattle.units.specs.declared.Seen.{Seen}
use Rattle.units.specs.declared.Seen.TheVariants.{Silence}
use Rattle.place.specs.Phases.{ended}
use Rattle.place.specs.declared.Phase.TheVariants.{Ended}
use Rattle.session.specs.Step.{session_start, session_step}
use Rattle.session.specs.declared.Pulse.{Pulse}
use Rattle.session.specs.declared.Session.{Session}
use Rattle.frames.specs.LowRuns.{low_runs, run}
use Rattle.serial.specs.Replies.{came, wrong_reply}
use Rattle.serial.specs.Step.{serial_start, serial_step}
use Rattle.packing.specs.declared.Packing.{Packing}
use Rattle.serial.specs.declared.Serial.{Serial}
use Rattle.serial.specs.declared.Turn.{Turn}
use Rattle.sessions.specs.Spelled.{Mark, Spelled, spelled}

-- What a pulse of a session is lent, and told.
pub record Told : Type 0 where
  pub image : List ℕ
  pub seen : Seen

abbrev pub none : Told
none = record { image = []; seen = Silence }

-- A session by 01's own steps: lent and told so, one step after the other, it sends these bits and is left so.
pub data Steps : Session → List Told → List Bool → Session → Type 0 where
  stands : (s : Session) → Steps s [] [] s
  steps : (s : Session) (t : Told) (ts : List Told) (p : Pulse) (bits : List Bool) (left : Session)
      → session_step s t.image t.seen ≡ taken p → Steps p.session ts bits left → Steps s (t ∷ ts) (p.bit ∷ bits) left

-- The low runs of what a call sends.
abbrev pub runs_on : Option ℕ → List ℕ
runs_on None = []
runs_on (Some b) = low_runs b

-- What a call sends, and the record after it; a refused call sends nothing and leaves the record.
abbrev pub sent_by : Answer Turn → Option ℕ
sent_by (refused n) = None
sent_by (taken t) = t.sent

abbrev pub handed : Serial → Answer Turn → Serial
handed s (refused n) = s
handed s (taken t) = t.serial

-- Call n is lent the image `lent n`, and told that `back n` came back.
module _ (x : Serial) (lent : ℕ → List ℕ) (back : ℕ → Option ℕ) where
  -- The record before call n, and what call n sends.
  unfoldable pub serials : ℕ → Serial
  serials zero = x
  serials (suc n) = handed (serials n) (serial_step (serials n) (lent n) (back n))

  unfoldable pub wires : ℕ → Option ℕ
  wires n = sent_by (serial_step (serials n) (lent n) (back n))

  -- The low runs of the first n calls, one after the other.
  unfoldable pub runs_of : ℕ → List ℕ
  runs_of zero = []
  runs_of (suc n) = runs_of n ++ runs_on (wires n)

  -- Each low run is a pulse. It is lent what its byte's call was lent, and told what came back for that byte.
  abbrev pub told : ℕ → Told
  told n = record { image = lent n; seen = came (back (suc n)) }

  unfoldable pub tolds : ℕ → List Told
  tolds zero = []
  tolds (suc n) = tolds n ++ replicate (length (runs_on (wires n))) (told n)

  -- The session that 01 spells for these pulses, of a command with an image of a size.
  abbrev pub spelled_by : ℕ → ℕ → ℕ → Spelled
  spelled_by command size calls =
      spelled command size (λ k. (get_or (tolds calls) k none).image) (λ k. (get_or (tolds calls) k none).seen)

  pub record SameBits (command : ℕ) (image : List ℕ) : Type 0 where
    -- So many calls are made, each taken; the last of them ends the session, and only it may send nothing. No call follows.
    pub calls : ℕ
    pub turns : (n : ℕ) → n < calls
        → serial_step (serials n) (lent n) (back n) ≡ taken (record { sent = wires n; serial = serials (suc n) })
    pub going : (n : ℕ) → n < calls → ended (serials n).place.phase ≡ false
    pub sends : (n : ℕ) → suc n < calls → wires n ≡ None → ⊥
    pub closed : (lends : List ℕ) (reply : Option ℕ) → serial_step (serials calls) lends reply ≡ refused 14
    -- A session of the same command and image, by 01's steps, sends bits that the low runs spell, and is left where this one is.
    pub first : Session
    pub begins : session_start command image ≡ taken first
    pub bits : List Bool
    pub left : Session
    pub session : Steps first (tolds calls) bits left
    pub spells : runs_of calls ≡ map run bits
    pub alike : (serials calls).place ≡ left.place
    -- They are the bits that 01 spells, with its ending.
    pub pulses : bits ≡ map (λ (m : Mark). m.bit) (spelled_by command (length image) calls).pulses
    pub ending : (serials calls).place.phase ≡ Ended (spelled_by command (length image) calls).ending
    -- The session ends.
    pub bound : calls ≤ 1299 + length image * 8

-- For every packing, every start that is taken, images of the start's length, at which command 0 doesn't look, and whatever comes back
-- but for a wrong reply where it is looked at.
abbrev pub EverySerial : Type 0
EverySerial =
    (packing : Packing) (command : ℕ) (image : List ℕ) (x : Serial) (lent : ℕ → List ℕ) (back : ℕ → Option ℕ)
    → serial_start packing command image ≡ taken x
    → ((command ≡ 0 → ⊥) → (n : ℕ) → length (lent n) ≡ length image)
    → ((n : ℕ) → wrong_reply (serials x lent back n).place.phase (serials x lent back n).place.index (back n) ≡ false)
    → SameBits x lent back command image
