-- The image goes over long by long, and its last long leaves the final RAM.
-- Assumes nothing.
use mathlib.Core.Bool.{Bool, true}
use mathlib.Core.List.{List}
use mathlib.Core.Path.{◌≡◌, refl, ap, ◌∙◌}
use Prim.Native.Nat.{ℕ, ◌+◌, ◌-◌, ◌*◌, ◌<◌, ◌≤◌}
use native.Mathlib.Omega.{arith}
use lib.ListN.{length, drop}
use Rattle.units.specs.declared.Longs.{Longs}
use Rattle.units.specs.declared.Seen.TheVariants.{Silence}
use Rattle.load.specs.declared.Load.{Load}
use Rattle.load.proofs.Facts.{Good}
use Rattle.follow.specs.Follow.{opened, onward}
use Rattle.place.specs.Phases.{places}
use Rattle.place.specs.declared.Acknowledgement.TheVariants.{Ram}
use Rattle.place.specs.declared.Phase.TheVariants as at
use Rattle.place.specs.declared.Place.{Place}
use Rattle.ram.specs.Ram.{sums_to_zero}
use Rattle.eeprom.specs.declared.Fault.TheVariants.{None}
use Rattle.phases.specs.declared.Acknowledgement.TheVariants.{Stored}
use Rattle.phases.specs.declared.Phase.{Phase}
use Rattle.phases.specs.declared.Phase.TheVariants.{Long, Align}
use Rattle.listener.specs.Heard.{received_long}
use Rattle.listener.specs.declared.Event.{Event}
use Rattle.listener.specs.declared.Event.TheVariants.{Store, Finish}
use Rattle.listener.specs.declared.Listener.{Listener}
use Rattle.chip.specs.Work.{worked, went, done}
use Rattle.conversation.specs.Conversation.{Talk, Reach}
use Rattle.conversation.specs.Final.{AllBytes, final_ram}
use Rattle.conversation.proofs.FinalRam.{final_sum, last_loaded}
use Rattle.conversation.proofs.Loading.{overlaid, long_stored}
use Rattle.conversation.proofs.Longs.{long_of, long_small, from_there, image_bit_lem}
use Rattle.conversation.proofs.Pulses.{talk, listening, hearing, onward_within, onward_last}
use Rattle.conversation.proofs.Reaching.{counted, and_then, rounds}
use Rattle.conversation.proofs.Receiving.{receives_long, long_taken, last_taken}
use Rattle.conversation.proofs.Values.{Sends, value}

module _ (load : Load) (image : List ℕ) (threshold size : ℕ) (ram eeprom : List ℕ) where
  abbrev chip : Phase → Listener
  chip = listening threshold load.command size

  -- The number k, and long k of the image.
  abbrev number : ℕ → Longs
  number k = record { 0 = k }

  abbrev long : ℕ → ℕ
  long k = long_of (drop (k * 4) image)

  -- Both before long k, and after the last.
  abbrev loading : ℕ → Talk
  loading k =
      talk (record { phase = at.Image; index = k * 32 }) (chip (Long 0 (number k) 0)) (overlaid image ram (k * 4)) eeprom Silence

  abbrev loaded : Talk
  loaded = talk (opened (at.Wait Ram)) (chip (Align Stored)) (final_ram image) eeprom Silence

  module _ (all : AllBytes image) (bytes : size * 4 ≡ length image) (pulses : places load at.Image ≡ size * 32) where
    sends_long : (k : ℕ) → k < size → Sends load image at.Image (k * 32) (long k)
    sends_long k h = record { going = refl; aloud = refl; bits = image_bit_lem image all k; unseen = λ i. refl; fits = omega (arith, pulses, h) }

    long_leads : (k : ℕ) (place : Place) (phase : Phase) (event : Event) (ram' : List ℕ) → k < size
        → onward load at.Image (k * 32 + 31) ≡ place
        → received_long (chip (Align Stored)) (number k) (long k) ≡ hearing (chip phase) event Silence
        → done None event (overlaid image ram (k * 4)) eeprom ≡ worked (went true None) ram' eeprom
        → Reach load image 32 (loading k) (talk place (chip phase) ram' eeprom Silence)
    long_leads k place phase event ram' h p r w =
        let l = chip (Align Stored) in
        value load image at.Image (k * 32) (long k) l (λ (i v : ℕ). Long i (number k) v) (received_long l (number k))
        (overlaid image ram (k * 4)) eeprom (sends_long k h) (receives_long l (number k)) place (chip phase) event ram' eeprom
        (long_small (drop (k * 4) image) (from_there image all k)) p r w

    module _ (good : Good image) (fits : length ram ≡ 32768) where
      next_long : (k : ℕ) → k < size - 1 → Reach load image 32 (loading k) (loading (k + 1))
      next_long k h =
          let short : length image ≤ 32760 = good.short in
          let more : k * 32 + 31 + 1 < places load at.Image = omega (arith, pulses) in
          let index : k * 32 + 31 + 1 ≡ (k + 1) * 32 = omega arith in
          let end : k * 4 + 4 ≡ (k + 1) * 4 = omega arith in
          long_leads k (record { phase = at.Image; index = (k + 1) * 32 }) (Long 0 (number (k + 1)) 0) (Store (number k) (long k))
          (overlaid image ram ((k + 1) * 4)) (omega arith)
          (onward_within load at.Image (k * 32 + 31) more ∙ ap (λ (n : ℕ). record { phase = at.Image; index = n }) index)
          (long_taken (chip (Align Stored)) k (long k) (omega arith))
          (ap (λ (m : List ℕ). worked (went true None) m eeprom)
          (long_stored image ram k all (omega (arith, bytes)) (omega (arith, fits, short)) ∙ ap (overlaid image ram) end))

      last_long : (k : ℕ) → k + 1 ≡ size → Reach load image 32 (loading k) loaded
      last_long k e =
          let ends : k * 4 + 4 ≡ length image = omega (arith, e, bytes) in
          let all_sent : places load at.Image ≤ k * 32 + 31 + 1 = omega (arith, pulses, e) in
          long_leads k (opened (at.Wait Ram)) (Align Stored) (Finish (number k) (long k)) (final_ram image) (omega (arith, e))
          (onward_last load at.Image (k * 32 + 31) all_sent)
          (last_taken (chip (Align Stored)) k (long k) (omega (arith, e)))
          (ap (λ (m : List ℕ). worked (went (sums_to_zero m) None) m eeprom) (last_loaded image good ram k all fits ends)
          ∙ ap (λ (b : Bool). worked (went b None) (final_ram image) eeprom) (final_sum image good))

      pub image_sent : Reach load image (8 * length image) (loading 0) loaded
      image_sent =
          let long_enough : 16 ≤ length image = good.long in
          let last : size - 1 + 1 ≡ size = omega (arith, bytes, long_enough) in
          let count : (size - 1) * 32 + 32 ≡ 8 * length image = omega (arith, bytes, long_enough) in
          counted count (and_then (rounds 32 loading (size - 1) next_long) (last_long (size - 1) last))
