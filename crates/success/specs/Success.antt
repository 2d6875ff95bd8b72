-- 01, "Host joined to chip": demand 3. For any accepted image and settings and a sound EEPROM, host and chip finish with success, however
-- each pulse and pause is measured.
-- Assumes nothing.
use Rattle.std.specs.Prelude.{false, List, ◌≡◌, ℕ, ◌+◌, ◌*◌, ◌≤◌, ◌<◌, eqb, length}
use Rattle.terms.specs.Choice.{when}
use Rattle.terms.specs.Refusals.{taken}
use Rattle.place.specs.declared.Ending.TheVariants as ending
use Rattle.place.specs.declared.Phase.TheVariants as place
use Rattle.host.specs.Step.{host_start}
use Rattle.host.specs.declared.Host.{Host}
use Rattle.eeprom.specs.declared.Fault.TheVariants.{None}
use Rattle.phases.specs.Phases.{ended}
use Rattle.phases.specs.declared.Phase.TheVariants as chip
use Rattle.chip.specs.Step.{chip_start}
use Rattle.chip.specs.declared.Chip.{Chip}
use Rattle.conversation.specs.Final.{AllBytes, ram_after, eeprom_after, chip_ending}
use Rattle.joined.specs.Ends.{after, Unrefused}
use Rattle.joined.specs.Joined.{State, Measuring, host_ended, begun}

-- A low or wait lasting so many ticks of p ps may measure as c loops of l ps exactly when c × l differs from what it lasts by less than l.
pub record May (p l ticks c : ℕ) : Type 0 where
  pub above : c * l < ticks * p + l
  pub below : ticks * p < c * l + l

-- A chip's loop is 400,000 to 1,000,000 ps.
abbrev pub Loop : ℕ → Type 0
Loop l = (400000 ≤ l) × (l ≤ 1000000)

-- The unit time, in ns, is at least five loops and four ticks.
abbrev pub Margin : ℕ → ℕ → ℕ → Type 0
Margin t p l = 5 * l + 4 * p ≤ t * 1000

-- What is asked: the host's start takes the settings, the command and the image, which is a list of bytes; the chip is fresh, with an
-- EEPROM without fault and memories of their size; its loop and the margin are as above; and each measurement is one that may be. (No leg
-- comes to 90,001,000,000 ps, the longest spacer and the longest tick.)
pub record Asked (t h p command : ℕ) (image : List ℕ) (host : Host) (ram eeprom : List ℕ) (chip : Chip) (l : ℕ) (measured : Measuring) : Type 0 where
  pub host_starts : host_start t h p command image ≡ taken host
  pub bytes : AllBytes image
  pub chip_starts : chip_start ram eeprom None ≡ taken chip
  pub loop : Loop l
  pub margin : Margin t p l
  pub may : (n ticks : ℕ) → ticks * p < 90001000000 → May p l ticks (measured n ticks)

-- The pulses of a session, by the command and the image's length.
unfoldable pub pulses : ℕ → ℕ → ℕ
pulses command n = when (eqb command 0) 800 (when (eqb command 1) (836 + 8 * n) (844 + 8 * n))

module _ (command : ℕ) (image : List ℕ) (measured : Measuring) (s : State) where
  -- Both sides after so many pulses, and after the last.
  abbrev pub at : ℕ → State
  at n = after measured image n s

  abbrev pub last : State
  last = at (pulses command (length image))

  -- Before the last pulse neither side has ended, and no step is refused; after it the host has ended 0 and the chip as its command says,
  -- and both memories are left as 01 has it.
  pub record Succeeds : Type 0 where
    pub host_goes : (n : ℕ) → n < pulses command (length image) → host_ended (at n) ≡ false
    pub chip_goes : (n : ℕ) → n < pulses command (length image) → ended (at n).chip.receiver.listener.phase ≡ false
    pub unrefused : (n : ℕ) → n < pulses command (length image) → Unrefused measured image (at n)
    pub host_ends : last.host.session.place.phase ≡ place.Ended ending.Done
    pub chip_ends : last.chip.receiver.listener.phase ≡ chip.Ended (chip_ending command)
    pub ram_left : last.ram ≡ ram_after command image s.ram
    pub eeprom_left : last.eeprom ≡ eeprom_after command image s.eeprom
    pub counted : last.host.session.pulses ≡ pulses command (length image)

-- Demand 3.
abbrev pub Demand3 : Type 0
Demand3 =
    (t h p command : ℕ) (image : List ℕ) (host : Host) (ram eeprom : List ℕ) (chip : Chip) (l : ℕ) (measured : Measuring)
    → Asked t h p command image host ram eeprom chip l measured → Succeeds command image measured (begun host chip ram eeprom)
