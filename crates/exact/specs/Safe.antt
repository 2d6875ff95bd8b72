-- The batch report and demand 3: "safe for every chip" is all that demand 3 asks of the figures, for every loop of a real chip; and the loops
-- that the report names are those that leave it its margin.
-- Assumes nothing.
use Rattle.std.specs.Prelude.{true, List, None, Some, ◌↔◌, ◌≡◌, ℕ, ◌*◌, ◌≤◌, ◌<◌}
use Rattle.terms.specs.Refusals.{taken}
use Rattle.settings.specs.declared.Settings.{Settings}
use Rattle.host.specs.Step.{host_start}
use Rattle.host.specs.declared.Host.{Host}
use Rattle.eeprom.specs.declared.Fault.TheVariants as fault
use Rattle.chip.specs.Step.{chip_start}
use Rattle.chip.specs.declared.Chip.{Chip}
use Rattle.conversation.specs.Final.{AllBytes}
use Rattle.joined.specs.Joined.{Measuring, begun}
use Rattle.success.specs.Success.{May, Loop, Margin, Asked, Succeeds}
use Rattle.safe.specs.Safe.{loops_of, safe_of}

pub record SafeForAll : Type 0 where
  pub margin : (s : Settings) → safe_of s ≡ true → (l : ℕ) → Loop l → Margin s.t s.p l
  pub spacer : (s : Settings) → safe_of s ≡ true → s.t ≤ s.h
  -- Demand 3's premises, and so its success.
  pub asked : (t h p command : ℕ) (image : List ℕ) (host : Host) (ram eeprom : List ℕ) (chip : Chip) (l : ℕ) (measured : Measuring)
      → safe_of (record { t = t; h = h; p = p }) ≡ true → host_start t h p command image ≡ taken host → AllBytes image
      → chip_start ram eeprom fault.None ≡ taken chip → Loop l → ((n ticks : ℕ) → ticks * p < 90001000000 → May p l ticks (measured n ticks))
      → Asked t h p command image host ram eeprom chip l measured × Succeeds command image measured (begun host chip ram eeprom)
  -- No loop, or each up to the largest.
  pub no_loop : (s : Settings) → loops_of s ≡ None → (l : ℕ) → Loop l → Margin s.t s.p l → ⊥
  pub loops : (s : Settings) (largest : ℕ) → loops_of s ≡ Some largest → (l : ℕ) → Loop l → Margin s.t s.p l ↔ (l ≤ largest)
