-- The memories as the rules write them are those that the chip's work leaves, where both are of their size.
-- Assumes nothing.
use mathlib.Core.Bool.{Bool, true, false, not}
use mathlib.Core.List.{List, [], ◌∷◌, ◌++◌}
use mathlib.Core.Path.{◌≡◌, refl, sym, ap, ◌∙◌}
use Prim.Native.Nat.{ℕ, ◌+◌, ◌-◌, ◌*◌, ◌%◌, ◌≤◌, ◌<◌}
use native.Mathlib.Omega.{arith}
use lib.Dec.{ltb, eqb}
use lib.ListN.{length, take, drop, replicate}
use borrow.Author.Tests.{eq-eqb, ne_eqb, le-leb, ltb-true}
use Rattle.terms.specs.Choice.{when, both}
use Rattle.terms.proofs.Tests.{when_true, when_false, both_true}
use Rattle.lent.specs.Bytes.{word_at}
use Rattle.ram.specs.Ram.{stored, flag_at, flag_stored, launches}
use Rattle.ram.specs.Ram as ram
use Rattle.ram.proofs.Stored.{stored_length, zeroed_length, flag_stored_length}
use Rattle.eeprom.specs.Eeprom.{fault_outside, whole, acknowledges, reads, accepts, accepted, same, verifies, readable, booted, boots}
use Rattle.eeprom.specs.Eeprom as eeprom
use Rattle.eeprom.specs.declared.Fault.{Fault}
use Rattle.eeprom.specs.declared.Fault.TheVariants.{None, Accepts, Reads}
use Rattle.eeprom.proofs.Memories.{same_exactly, same_not}
use Rattle.eeprom.proofs.Turns.{copied_whole}
use Rattle.terms.proofs.Tests.{less_false}
use Rattle.listener.specs.declared.Event.TheVariants.{Boot, Program}
use Rattle.chip.specs.Work.{Worked, worked, went, done}
use Rattle.chip.specs.Work as work
use Rattle.rules.specs.Pulses.{put, bytes_of, flagged, zeroed, flagged_twice, loaded, pages, programmed, reading}

-- Two choices by one test, the same where it holds.
when_same : {A : Type 0} (b : Bool) (x x' y : A) → (b ≡ true → x ≡ x') → when b x y ≡ when b x' y
unfolding when
when_same true x x' y e = e refl
when_same false x x' y e = refl

-- RAM.
pub long_put : (k long : ℕ) (mem : List ℕ) → k < 8192 → length mem ≡ 32768 → stored (k * 4) long mem ≡ put (4 * k) (bytes_of long) mem
unfolding stored
long_put k long mem small size =
    let fits : k * 4 + 4 ≤ length mem = omega (arith, small, size) in
    let place : k * 4 ≡ 4 * k = omega arith in
    when_true _ _ (le-leb _ _ fits) ∙ ap (λ (at : ℕ). put at (bytes_of long) mem) place

flag_put : (at : ℕ) (mem : List ℕ) → at % 4 ≡ 0 → length mem ≡ 32768
    → flag_stored at mem ≡ when (ltb at 32768) (put at (0xFF ∷ 0xFF ∷ 0xF9 ∷ 0xFF ∷ []) mem) mem
unfolding flag_stored stored
flag_put at mem aligned size =
    when_same (ltb at 32768) _ _ mem
    (λ e.
    let below : at < 32768 = ltb-true at 32768 e in
    let fits : at + 4 ≤ length mem = omega (arith, below, aligned, size) in
    when_true _ _ (le-leb _ _ fits))

flag_stored_lem : (d below : ℕ) (mem : List ℕ) → length mem ≡ 32768 → flag_stored (flag_at d below) mem ≡ flagged d below mem
unfolding flagged
flag_stored_lem d below mem size = let aligned : flag_at d below % 4 ≡ 0 = omega arith in flag_put (flag_at d below) mem aligned size

flags_stored : (mem : List ℕ) → length mem ≡ 32768 → ram.flagged mem ≡ flagged_twice mem
unfolding ram.flagged
flags_stored mem size =
    let d = word_at mem 10 in
    flag_stored_lem d 8 (flag_stored (flag_at d 4) mem) (flag_stored_length (flag_at d 4) mem ∙ size) ∙ ap (flagged d 8) (flag_stored_lem d 4 mem size)

rest_zeroed : (k long : ℕ) (mem : List ℕ) → k < 8192 → length mem ≡ 32768 → ram.zeroed (k * 4 + 4) (stored (k * 4) long mem) ≡ zeroed k long mem
unfolding ram.zeroed
rest_zeroed k long mem small size =
    let place : k * 4 + 4 ≡ 4 * k + 4 = omega arith in
    let long_size : length (stored (k * 4) long mem) ≡ 32768 = stored_length (k * 4) long mem ∙ size in
    ap (λ (n : ℕ). take (k * 4 + 4) (stored (k * 4) long mem) ++ replicate (n - (k * 4 + 4)) 0) long_size
    ∙ ap (λ (n : ℕ). take n (stored (k * 4) long mem) ++ replicate (32768 - n) 0) place
    ∙ ap (λ (l : List ℕ). take (4 * k + 4) l ++ replicate (32768 - (4 * k + 4)) 0) (long_put k long mem small size)

pub load_finished : (k long : ℕ) (mem : List ℕ) → k < 8192 → length mem ≡ 32768 → work.loaded k long mem ≡ loaded k long mem
load_finished k long mem small size =
    flags_stored _ (zeroed_length (k * 4 + 4) (stored (k * 4) long mem) ∙ stored_length (k * 4) long mem ∙ size)
    ∙ ap flagged_twice (rest_zeroed k long mem small size)

-- EEPROM.
pub reads_so : (f : Fault) (rom : List ℕ) → reads f rom ≡ reading f rom
reads_so None rom = refl
reads_so (Accepts n) rom = refl
reads_so (Reads v a) rom = refl

pub alive : (f : Fault) → (f ≡ Accepts 0 → ⊥) → acknowledges f ≡ true
alive None e = refl
alive (Accepts n) e = ap not (ne_eqb n 0 (λ z. e (ap Accepts z)))
alive (Reads v a) e = refl

both_last : (a : Bool) {b : Bool} → b ≡ false → both a b ≡ false
unfolding both
both_last true e = e
both_last false e = refl

accepts_pages : (f : Fault) → fault_outside f ≡ false → accepts f ≡ pages f
accepts_pages None e = refl
accepts_pages (Accepts n) e = let most : n ≤ 512 = (less_false 512 n).0 e in omega (arith, most)
accepts_pages (Reads v a) e = refl

spent : (f : Fault) → eeprom.after f (pages f) ≡ programmed f
spent None = refl
spent (Accepts n) = let none : n - n ≡ 0 = omega arith in ap Accepts none
spent (Reads v a) = refl

module _ (mem rom : List ℕ) (mem_size : length mem ≡ 32768) (rom_size : length rom ≡ 32768) where
  both_whole : whole mem rom ≡ true
  unfolding whole
  both_whole = (both_true _ _).1 (eq-eqb _ _ mem_size, eq-eqb _ _ rom_size)

  module _ (f : Fault) where
    all_accepted : accepted f mem rom ≡ accepts f
    unfolding accepted
    all_accepted = when_true _ _ both_whole

    -- What work leaves, by how it went and by RAM.
    same_work : (a b : Bool) (l m : List ℕ) → a ≡ b → l ≡ m → worked (went a f) l rom ≡ worked (went b f) m rom
    same_work a b l m e d = ap (λ (c : Bool). worked (went c f) l rom) e ∙ ap (λ (n : List ℕ). worked (went b f) n rom) d

    module _ (a : acknowledges f ≡ true) where
      can_read : readable f mem rom ≡ true
      unfolding readable
      can_read = (both_true _ _).1 (both_whole, a)

      pub boot_done : (b : Bool) → launches (reading f rom) ≡ b → done f Boot mem rom ≡ worked (went b f) (reading f rom) rom
      unfolding booted boots both
      boot_done b e =
          let went_so : boots f mem rom ≡ b =
          ap (λ (c : Bool). both c (launches (reads f rom))) can_read ∙ ap launches (reads_so f rom) ∙ e in
          same_work (boots f mem rom) b (booted f mem rom) (reading f rom) went_so (when_true _ _ can_read ∙ reads_so f rom)

    module _ (a : acknowledges f ≡ false) where
      cannot_read : readable f mem rom ≡ false
      unfolding readable
      cannot_read = both_last (whole mem rom) a

      pub boot_dead : done f Boot mem rom ≡ worked (went false f) mem rom
      unfolding booted boots both
      boot_dead =
          same_work (boots f mem rom) false (booted f mem rom) mem (ap (λ (c : Bool). both c (launches (reads f rom))) cannot_read)
          (when_false _ _ cannot_read)

    pub program_done : fault_outside f ≡ false → (b : Bool) → eqb (pages f) 512 ≡ b
        → done f Program mem rom ≡ worked (went b (programmed f)) mem (take (64 * pages f) mem ++ drop (64 * pages f) rom)
    program_done sound b e =
        let place : pages f * 64 ≡ 64 * pages f = omega arith in
        let leave : ℕ → Worked = λ n. worked (went (eqb n 512) (eeprom.after f n)) mem (take (n * 64) mem ++ drop (n * 64) rom) in
        ap leave (all_accepted ∙ accepts_pages f sound)
        ∙ ap (λ (c : Bool). worked (went c (eeprom.after f (pages f))) mem (take (pages f * 64) mem ++ drop (pages f * 64) rom)) e
        ∙ ap (λ (g : Fault). worked (went b g) mem (take (pages f * 64) mem ++ drop (pages f * 64) rom)) (spent f)
        ∙ ap (λ (n : ℕ). worked (went b (programmed f)) mem (take n mem ++ drop n rom)) place

    pub all_copied : pages f ≡ 512 → take (64 * pages f) mem ++ drop (64 * pages f) rom ≡ mem
    all_copied n =
        let place : 64 * pages f ≡ length mem = omega (arith, n, mem_size) in
        ap (λ (k : ℕ). take k mem ++ drop k rom) place ∙ copied_whole mem rom (rom_size ∙ sym mem_size)

    -- All bytes compared, as they read.
    pub compares_so : acknowledges f ≡ true → mem ≡ reading f rom → verifies f mem rom ≡ true
    unfolding verifies
    compares_so a e = (both_true _ _).1 (a, (same_exactly mem (reads f rom)).1 (e ∙ sym (reads_so f rom)))

    pub compares_other : (mem ≡ reading f rom → ⊥) → verifies f mem rom ≡ false
    unfolding verifies
    compares_other e = both_last (acknowledges f) (same_not mem (reads f rom) (λ s. e (s ∙ reads_so f rom)))

    pub compares_not : acknowledges f ≡ false → verifies f mem rom ≡ false
    unfolding verifies both
    compares_not a = ap (λ (b : Bool). both b (same mem (reads f rom))) a
