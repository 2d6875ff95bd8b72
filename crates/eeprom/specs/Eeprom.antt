-- 01, "What the chip does": "Commands 2, 3", "Boot", and the EEPROM's faults.
-- Assumes nothing.
use Rattle.std.specs.Prelude.{Bool, true, false, not, List, [], ◌∷◌, ◌++◌, ℕ, ◌-◌, ◌*◌, min, ltb, leb, eqb, length, take, drop, set}
use Rattle.terms.specs.Choice.{when, both}
use Rattle.ram.specs.Ram.{launches}
use Rattle.eeprom.specs.declared.Fault.{Fault}
use Rattle.eeprom.specs.declared.Fault.TheVariants.{None, Accepts, Reads}
use Rattle.eeprom.specs.declared.Done.{Done}

-- 12: a fault out of its range, which is n pages from 0 to 512, or an address a below 32,768.
abbrev pub fault_outside : Fault → Bool
fault_outside None = false
fault_outside (Accepts n) = ltb 512 n
fault_outside (Reads v a) = leb 32768 a.0

-- RAM and EEPROM are 32,768 bytes each.
unfoldable pub whole : List ℕ → List ℕ → Bool
whole ram eeprom = both (eqb (length ram) 32768) (eqb (length eeprom) 32768)

-- It acknowledges as long as pages are left that it accepts.
abbrev pub acknowledges : Fault → Bool
acknowledges None = true
acknowledges (Accepts left) = not (eqb left 0)
acknowledges (Reads v a) = true

-- An EEPROM as it reads: the byte at a as v.
abbrev pub reads : Fault → List ℕ → List ℕ
reads None eeprom = eeprom
reads (Accepts left) eeprom = eeprom
reads (Reads v a) eeprom = set eeprom a.0 v

-- Of 512 pages, those that it accepts.
abbrev pub accepts : Fault → ℕ
accepts None = 512
accepts (Accepts left) = min left 512
accepts (Reads v a) = 512

-- Those that a programming of both memories writes: none where one of the two is not of its size.
unfoldable pub accepted : Fault → List ℕ → List ℕ → ℕ
accepted fault ram eeprom = when (whole ram eeprom) (accepts fault) 0

-- The fault once so many pages were accepted, which are no more than it accepts.
abbrev pub after : Fault → ℕ → Fault
after None pages = None
after (Accepts left) pages = Accepts (left - pages)
after (Reads v a) pages = Reads v a

-- Pages of 64 bytes go from RAM to EEPROM.
abbrev pub programmed : Fault → List ℕ → List ℕ → List ℕ
programmed fault ram eeprom = take (accepted fault ram eeprom * 64) ram ++ drop (accepted fault ram eeprom * 64) eeprom

-- It went well where all were accepted.
abbrev pub programming : Fault → List ℕ → List ℕ → Done
programming fault ram eeprom = record {
  good = eqb (accepted fault ram eeprom) 512;
  fault = after fault (accepted fault ram eeprom);
}

-- Two memories byte by byte.
unfoldable pub same : List ℕ → List ℕ → Bool
same [] [] = true
same [] (y ∷ ys) = false
same (x ∷ xs) [] = false
same (x ∷ xs) (y ∷ ys) = both (eqb x y) (same xs ys)

-- All bytes are compared, as they read.
unfoldable pub verifies : Fault → List ℕ → List ℕ → Bool
verifies fault ram eeprom = both (acknowledges fault) (same ram (reads fault eeprom))

-- RAM can be read whole from it: both are of their size, and it acknowledges.
unfoldable pub readable : Fault → List ℕ → List ℕ → Bool
readable fault ram eeprom = both (whole ram eeprom) (acknowledges fault)

-- RAM is read whole from EEPROM. Where it doesn't acknowledge, RAM is unchanged.
unfoldable pub booted : Fault → List ℕ → List ℕ → List ℕ
booted fault ram eeprom = when (readable fault ram eeprom) (reads fault eeprom) ram

-- Then it launches by the same test.
unfoldable pub boots : Fault → List ℕ → List ℕ → Bool
boots fault ram eeprom = both (readable fault ram eeprom) (launches (reads fault eeprom))
