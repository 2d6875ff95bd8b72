-- What the host is told by the chip's replies: the draws and the version that it wants, and in each wait silence, then a 0.
-- Assumes nothing.
use mathlib.Core.Bool.{false}
use mathlib.Core.List.{List}
use mathlib.Core.Path.{◌≡◌, refl}
use Prim.Native.Nat.{ℕ, zero, suc, ◌+◌, ◌*◌, ◌%◌, ◌≤◌, ◌<◌}
use native.Mathlib.Omega.{arith}
use lib.ListN.{length}
use borrow.Author.Tests.{ne_eqb}
use Rattle.terms.specs.Choice.{when, both}
use Rattle.terms.proofs.Tests.{when_false}
use Rattle.sequence.specs.Sequence.{draw}
use Rattle.units.specs.Units.{longs_in}
use Rattle.units.specs.declared.Seen.{Seen}
use Rattle.units.specs.declared.Seen.TheVariants.{Silence, Zero, One}
use Rattle.load.specs.Load.{load_of}
use Rattle.load.specs.declared.Load.{Load}
use Rattle.load.proofs.Facts.{Known}
use Rattle.bits.specs.Bits.{pair_bit}
use Rattle.bits.specs.Seeing.{around_first, sees}
use Rattle.follow.specs.Follow as host
use Rattle.follow.specs.Follow.{onward}
use Rattle.place.specs.declared.Acknowledgement as host_waits
use Rattle.place.specs.declared.Acknowledgement.TheVariants.{Ram, Programming, Verification}
use Rattle.phases.specs.declared.Acknowledgement.{Acknowledgement}
use Rattle.phases.specs.declared.Acknowledgement.TheVariants.{Stored, Programmed, Verified}
use Rattle.phases.specs.declared.Phase.TheVariants.{Align}
use Rattle.listener.specs.Heard.{after_connection, aligned}
use Rattle.listener.specs.Settled.{settled}
use Rattle.listener.specs.declared.Listener.{Listener}
use Rattle.line.specs.Replies.{connection_bit, acknowledged_bit, shown}
use Rattle.conversation.specs.Conversation.{Talk, talked, Reach, start}
use Rattle.conversation.specs.Final.{AllBytes, final_ram}
use Rattle.conversation.proofs.Closing.{waiting, answered, aligns, good_shown}
use Rattle.conversation.proofs.Computed.{talked_times, computed}
use Rattle.conversation.proofs.Conversations.{loaded, acknowledged, programmed}
use Rattle.conversation.proofs.Opening.{handshake, connecting, replied, answer, pair, connection, versioning}
use Rattle.conversation.proofs.Pulses.{listening}
use Rattle.conversation.proofs.Reaching.{counted, and_then, rounds}

-- So many pulses lead to where the host is told this by its next call.
pub record Told (load : Load) (image : List ℕ) (threshold : ℕ) (ram eeprom : List ℕ) (k : ℕ) (wanted : Seen) : Type 0 where
  pub at : Talk
  pub reached : Reach load image k (start threshold ram eeprom) at
  pub told : sees at.place.phase at.place.index at.reply ≡ wanted

module _ (load : Load) (image : List ℕ) (threshold : ℕ) (ram eeprom : List ℕ) where
  -- What follows some pulses that lead to a talk.
  on : {m k : ℕ} {a : Talk} {wanted : Seen} (n : ℕ) (b : Talk) → m + n ≡ k → Reach load image m (start threshold ram eeprom) a
      → Reach load image n a b → sees b.place.phase b.place.index b.reply ≡ wanted
      → Told load image threshold ram eeprom k wanted
  on n b e first more told = record { at = b; reached = counted e (and_then first more); told = told }

  connects : (j : ℕ) → j < 250 → Told load image threshold ram eeprom (251 + j * 2) (shown (draw (251 + j)))
  unfolding around_first
  connects j h =
      let count : 250 + j * 2 + 1 ≡ 251 + j * 2 = omega arith in
      let odd : (j * 2 + 1) % 2 ≡ 0 → ⊥ = omega arith in
      let second : pair_bit (j * 2 + 1) ≡ false = ne_eqb _ _ odd in
      on 1 (replied load image threshold ram eeprom j) count
      (and_then (handshake load image threshold ram eeprom)
      (rounds 2 (connecting load image threshold ram eeprom) j (λ i l. pair load image threshold ram eeprom i (omega (arith, l, h)))))
      (answer load image threshold ram eeprom j h)
      (when_false _ _ second)

  abbrev before : Talk
  before = versioning load image threshold ram eeprom

  opened : Reach load image 750 (start threshold ram eeprom) before
  opened = and_then (handshake load image threshold ram eeprom) (connection load image threshold ram eeprom)

  version_first : Told load image threshold ram eeprom 751 One
  unfolding talked settled when both onward host.next host.after_version after_connection connection_bit shown around_first
  version_first = on 1 (talked_times load image 1 before) refl opened (computed load image 1 before refl) refl

  version_rest : (j : ℕ) → j < 7 → Told load image threshold ram eeprom (753 + j * 2) Zero
  unfolding talked settled when both onward host.next host.after_version after_connection connection_bit shown around_first
  version_rest zero h = on 3 (talked_times load image 3 before) refl opened (computed load image 3 before refl) refl
  version_rest (suc zero) h = on 5 (talked_times load image 5 before) refl opened (computed load image 5 before refl) refl
  version_rest (suc (suc zero)) h = on 7 (talked_times load image 7 before) refl opened (computed load image 7 before refl) refl
  version_rest (suc (suc (suc zero))) h = on 9 (talked_times load image 9 before) refl opened (computed load image 9 before refl) refl
  version_rest (suc (suc (suc (suc zero)))) h = on 11 (talked_times load image 11 before) refl opened (computed load image 11 before refl) refl
  version_rest (suc (suc (suc (suc (suc zero))))) h =
      on 13 (talked_times load image 13 before) refl opened (computed load image 13 before refl) refl
  version_rest (suc (suc (suc (suc (suc (suc zero)))))) h =
      on 15 (talked_times load image 15 before) refl opened (computed load image 15 before refl) refl
  version_rest (suc (suc (suc (suc (suc (suc (suc j))))))) h = absurd (omega (arith, h))

  -- A wait that begins after so many pulses.
  pub record Waits (k : ℕ) : Type 0 where
    pub aligns : Told load image threshold ram eeprom (k + 1) Silence
    pub answers : Told load image threshold ram eeprom (k + 3) Zero

  module _ (c : Acknowledgement) (l : Listener) (ram' eeprom' : List ℕ) (good : acknowledged_bit c ≡ false) where
    abbrev waited : host_waits.Acknowledgement → Talk
    waited a = waiting load image c l ram' eeprom' a

    first_silent : (k : ℕ) (a : host_waits.Acknowledgement) → Reach load image k (start threshold ram eeprom) (waited a)
        → Told load image threshold ram eeprom (k + 1) Silence
    unfolding talked settled when both onward host.next aligned around_first
    first_silent k Ram first = on 1 (talked_times load image 1 (waited Ram)) refl first (computed load image 1 (waited Ram) refl) refl
    first_silent k Programming first =
        on 1 (talked_times load image 1 (waited Programming)) refl first (computed load image 1 (waited Programming) refl) refl
    first_silent k Verification first =
        on 1 (talked_times load image 1 (waited Verification)) refl first (computed load image 1 (waited Verification) refl) refl

    waits : (k : ℕ) (a : host_waits.Acknowledgement) → Reach load image k (start threshold ram eeprom) (waited a) → Waits k
    unfolding when around_first
    waits k a first = record {
      aligns = first_silent k a first;
      answers =
          on 3 (answered load image c l ram' eeprom' a) refl first (aligns load image c l ram' eeprom' a)
          (good_shown load image c l ram' eeprom' good);
    }

-- All that the host is told in the planned session.
pub record Replies (command : ℕ) (image : List ℕ) (threshold : ℕ) (ram eeprom : List ℕ) : Type 0 where
  pub connects : (j : ℕ) → j < 250 → Told (load_of command image) image threshold ram eeprom (251 + j * 2) (shown (draw (251 + j)))
  pub version_first : Told (load_of command image) image threshold ram eeprom 751 One
  pub version_rest : (j : ℕ) → j < 7 → Told (load_of command image) image threshold ram eeprom (753 + j * 2) Zero
  pub storing : (command ≡ 0 → ⊥) → Waits (load_of command image) image threshold ram eeprom (830 + 8 * length image)
  pub programming : (command ≡ 0 → ⊥) → (command ≡ 1 → ⊥) → Waits (load_of command image) image threshold ram eeprom (834 + 8 * length image)
  pub verification : (command ≡ 0 → ⊥) → (command ≡ 1 → ⊥) → Waits (load_of command image) image threshold ram eeprom (838 + 8 * length image)

pub replies : (command : ℕ) (image : List ℕ) (threshold : ℕ) (ram eeprom : List ℕ) → Known command image → AllBytes image
    → length ram ≡ 32768 → length eeprom ≡ 32768 → Replies command image threshold ram eeprom
replies command image threshold ram eeprom known all r e =
    let load = load_of command image in
    let l : Acknowledgement → Listener = λ c. listening threshold command (longs_in load.length.0) (Align c) in
    let many : (command ≡ 0 → ⊥) → (command ≡ 1 → ⊥) → 2 ≤ command = λ some other. omega (arith, some, other) in
    record {
      connects = connects load image threshold ram eeprom;
      version_first = version_first load image threshold ram eeprom;
      version_rest = version_rest load image threshold ram eeprom;
      storing = λ some.
          waits load image threshold ram eeprom Stored (l Stored) (final_ram image) eeprom refl _ Ram
          (loaded image threshold ram eeprom (known.good some) all r e command (omega (arith, some)) known.known);
      programming = λ some other.
          waits load image threshold ram eeprom Programmed (l Programmed) (final_ram image) (final_ram image) refl _ Programming
          (acknowledged image threshold ram eeprom (known.good some) all r e command (many some other) known.known);
      verification = λ some other.
          waits load image threshold ram eeprom Verified (l Verified) (final_ram image) (final_ram image) refl _ Verification
          (programmed image threshold ram eeprom (known.good some) all r e command (many some other) known.known);
    }
