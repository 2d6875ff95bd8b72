-- 01, "What the host sends" and "Edges", and 02, "Six", over whole sessions: a host that was started sends the session that is spelled, call
-- for call.
-- Assumes nothing.
use Rattle.std.specs.Prelude.{false, List, map, ◌⊎◌, ◌≡◌, ℕ, ◌+◌, ◌*◌, ◌≤◌, ◌<◌, length, get_or, take}
use Rattle.terms.specs.Choice.{when}
use Rattle.terms.specs.Refusals.{refused, taken}
use Rattle.lent.specs.Bytes.{total}
use Rattle.settings.specs.declared.Settings.{Settings}
use Rattle.units.specs.declared.Seen.{Seen}
use Rattle.place.specs.Phases.{ended}
use Rattle.place.specs.declared.Phase.TheVariants.{Ended}
use Rattle.session.specs.Step.{session_step}
use Rattle.host.specs.Step.{host_start, host_step}
use Rattle.host.specs.Time.{tick}
use Rattle.host.specs.declared.Host.{Host}
use Rattle.ticks.specs.Ticks.{phase_number, ticks_of, sum}
use Rattle.sessions.specs.Legs as legs
use Rattle.sessions.specs.Phases.{calls_before, last_rise, stamp}
use Rattle.sessions.specs.Spelled.{Mark, Spelled, spelled}

-- The ones among some pulses, and the zeros.
unfoldable pub ones : List Mark → ℕ
ones marks = total (map (λ (m : Mark). when m.bit 1 0) marks)

unfoldable pub zeros : List Mark → ℕ
zeros marks = total (map (λ (m : Mark). when m.bit 0 1) marks)

-- What stands past the last pulse; it is in none of the ten phases.
abbrev pub unsent : Mark
unsent = record { bit = false; silent = false; phase = 10 }

-- Call n is lent the image `lent n`, and told that `seen n` was seen.
module _ (settings : Settings) (command size : ℕ) (lent : ℕ → List ℕ) (seen : ℕ → Seen) where
  abbrev pub session : Spelled
  session = spelled command size lent seen

  -- How many pulses the session has, and pulse n of them, from 0.
  abbrev pub many : ℕ
  many = length session.pulses

  abbrev pub pulse : ℕ → Mark
  pulse n = get_or session.pulses n unsent

  -- The exact time of edge k: pulse n falls at edge 2n and rises at edge 2n + 1.
  abbrev pub edge : ℕ → ℕ
  edge = legs.edge settings session.pulses

  -- The ticks of these two edges, and the phase of pulse n, by its number among the ten.
  abbrev pub falls : ℕ → ℕ
  falls n = (tick settings (edge (2 * n))).0

  abbrev pub rises : ℕ → ℕ
  rises n = (tick settings (edge (2 * n + 1))).0

  abbrev pub phase_at : ℕ → ℕ
  phase_at n = (pulse n).phase

  -- The tick at which phase q begins, as it is known before call n: its first fall, or the last rise where it is still to come.
  abbrev pub begins : ℕ → ℕ → ℕ
  begins n q = stamp falls rises n (calls_before phase_at n q)

  -- The host x sends the session.
  pub record Sends (x : Host) : Type 0 where
    -- The host before call n.
    pub hosts : ℕ → Host
    pub first : hosts 0 ≡ x
    -- Call n sends pulse n, with the ticks of its edges, and the exact time of the second.
    pub steps : (n : ℕ) → n < many
        → host_step (hosts n) (lent n) (seen n)
        ≡ taken (record {
          host = hosts (n + 1);
          fall = tick settings (edge (2 * n));
          rise = tick settings (edge (2 * n + 1));
          risen = edge (2 * n + 1);
        })
    pub pulses : (n : ℕ) → n < many
        → session_step (hosts n).session (lent n) (seen n)
        ≡ taken (record { bit = (pulse n).bit; silent = (pulse n).silent; session = (hosts (n + 1)).session })
    -- The record that the last call hands back has ended as the session does, none before it has, and no call follows.
    pub going : (n : ℕ) → n < many → ended (hosts n).session.place.phase ≡ false
    pub ending : (hosts many).session.place.phase ≡ Ended session.ending
    pub closed : (image : List ℕ) (s : Seen) → host_step (hosts many) image s ≡ refused 14
    -- Pulses, ones and zeros count what was sent.
    pub counted : (n : ℕ) → n ≤ many → (hosts n).session.pulses ≡ n
    pub counted_ones : (n : ℕ) → n ≤ many → (hosts n).session.ones ≡ ones (take n session.pulses)
    pub counted_zeros : (n : ℕ) → n ≤ many → (hosts n).session.zeros ≡ zeros (take n session.pulses)
    -- Call n stands in the phase of pulse n, and the next call in the same or in the next phase.
    pub stands : (n : ℕ) → n < many → phase_number (hosts n).session.place.phase ≡ phase_at n
    pub onwards : (n : ℕ) → n + 1 < many → (phase_at (n + 1) ≡ phase_at n + 1) ⊎ (phase_at (n + 1) ≡ phase_at n)
    -- Before each call, and after the last, the ten add up to the tick of the last rise. Each runs from its first fall to the next phase's
    -- first fall, or to the last rise where that is still to come. One in which no call stood has 0.
    pub phases_sum : (n : ℕ) → n ≤ many → sum (hosts n).phases ≡ last_rise rises n
    pub phases_each : (n q : ℕ) → n ≤ many → begins n q + ticks_of (hosts n).phases q ≡ begins n (q + 1)
    pub phases_none : (n q : ℕ) → n ≤ many → ((k : ℕ) → k < n → phase_at k ≡ q → ⊥) → ticks_of (hosts n).phases q ≡ 0
    -- No edge is late, and each is early by less than one tick.
    pub not_late : (k : ℕ) → (tick settings (edge k)).0 * settings.p ≤ edge k
    pub early : (k : ℕ) → edge k < (tick settings (edge k)).0 * settings.p + settings.p
    -- The session ends: after 2,282 pulses and the image's at most, and after 264,362 whatever the image is.
    pub bound : many ≤ 2282 + size * 8
    pub longest : many ≤ 264362

-- For every start that is taken, and whatever is lent and seen: images of the start's length, at which command 0 doesn't look.
abbrev pub EverySession : Type 0
EverySession =
    (t h p command : ℕ) (image : List ℕ) (x : Host) (lent : ℕ → List ℕ) (seen : ℕ → Seen) → host_start t h p command image ≡ taken x
    → ((command ≡ 0 → ⊥) → (n : ℕ) → length (lent n) ≡ length image)
    → Sends (record { t = t; h = h; p = p }) command (length image) lent seen x
