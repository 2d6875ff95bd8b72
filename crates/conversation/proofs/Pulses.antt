-- One pulse, by what it is to each side: the host sends a bit and goes to a place, and the chip hears that bit and does good work.
-- Assumes nothing.
use mathlib.Core.Bool.{Bool, true, false}
use mathlib.Core.List.{List}
use mathlib.Core.Path.{◌≡◌, refl, ap, ◌∙◌}
use Prim.Native.Nat.{ℕ, ◌+◌, ◌<◌, ◌≤◌}
use borrow.Author.Tests.{lt-ltb, le-ltb}
use Rattle.terms.specs.Choice.{when}
use Rattle.terms.proofs.Tests.{when_true, when_false, when_elim}
use Rattle.units.specs.declared.Seen.{Seen}
use Rattle.load.specs.declared.Load.{Load}
use Rattle.bits.specs.Bits.{pair_bit}
use Rattle.follow.specs.Follow.{opened, after, onward, after_pair, next}
use Rattle.place.specs.Phases as host
use Rattle.place.specs.Phases.{places}
use Rattle.place.specs.declared.Phase.{Phase}
use Rattle.place.specs.declared.Place.{Place}
use Rattle.eeprom.specs.declared.Fault.TheVariants.{None}
use Rattle.phases.specs.declared.Phase as chip
use Rattle.listener.specs.Settled.{settled}
use Rattle.listener.specs.declared.Event.{Event}
use Rattle.listener.specs.declared.Event.TheVariants.{Nothing, Store, Finish, Program, Verify, Launch, Boot}
use Rattle.listener.specs.declared.Heard.{Heard}
use Rattle.listener.specs.declared.Listener.{Listener}
use Rattle.chip.specs.Work.{worked, went, done}
use Rattle.conversation.specs.Conversation.{Talk, bit_of, place_after, heard_of, passed, talked, Reach}
use Rattle.conversation.proofs.Computed.{converses, open_by}
use Rattle.conversation.proofs.Reaching.{one}

-- Both, by their parts.
abbrev pub talk : Place → Listener → List ℕ → List ℕ → Seen → Talk
talk place l ram eeprom reply = record { place = place; listener = l; ram = ram; eeprom = eeprom; reply = reply }

abbrev pub listening : ℕ → ℕ → ℕ → chip.Phase → Listener
listening threshold command size phase =
    record { threshold = record { 0 = threshold }; command = command; size = record { 0 = size }; phase = phase }

abbrev pub hearing : Listener → Event → Seen → Heard
hearing l event reply = record { listener = l; event = event; reply = reply }

-- A sound EEPROM stays sound, whatever is done: so no fault need be kept.
pub sound_stays : (event : Event) (ram eeprom : List ℕ) → (done None event ram eeprom).done.fault ≡ None
sound_stays Nothing ram eeprom = refl
sound_stays (Store k long) ram eeprom = refl
sound_stays (Finish k long) ram eeprom = refl
sound_stays Program ram eeprom = refl
sound_stays Verify ram eeprom = refl
sound_stays Launch ram eeprom = refl
sound_stays Boot ram eeprom = refl

-- Good work.
pub passed_well : (a : Talk) (place : Place) (l : Listener) (event : Event) (reply : Seen) (ram eeprom : List ℕ)
    → done None event a.ram a.eeprom ≡ worked (went true None) ram eeprom
    → passed a place (hearing l event reply) ≡ talk place l ram eeprom reply
unfolding settled when
passed_well a place l event reply ram eeprom e = rw e refl

module _ (load : Load) (image : List ℕ) where
  pub pulse : (a : Talk) (bit : Bool) (place : Place) (l : Listener) (event : Event) (reply : Seen) (ram eeprom : List ℕ)
      → host.ended a.place.phase ≡ false → converses a.place.phase a.listener.phase ≡ true
      → bit_of load image a ≡ bit → place_after load a ≡ place → heard_of a 0 bit ≡ hearing l event reply
      → done None event a.ram a.eeprom ≡ worked (went true None) ram eeprom
      → Reach load image 1 a (talk place l ram eeprom reply)
  unfolding talked
  pulse a bit place l event reply ram eeprom o c b p h w =
      one a _ (open_by a o c)
      (ap (λ (x : Place). passed a x (heard_of a 0 (bit_of load image a))) p
      ∙ ap (λ (x : Bool). passed a place (heard_of a 0 x)) b
      ∙ ap (λ (x : Heard). passed a place x) h
      ∙ passed_well a place l event reply ram eeprom w)

module _ (load : Load) (phase : Phase) (i : ℕ) where
  pub onward_within : i + 1 < places load phase → onward load phase i ≡ record { phase = phase; index = i + 1 }
  unfolding onward
  onward_within h = when_true _ _ (lt-ltb _ _ h)

  pub onward_last : places load phase ≤ i + 1 → onward load phase i ≡ opened (after load phase)
  unfolding onward
  onward_last h = when_false _ _ (le-ltb _ _ h)

  -- The first pulse of a pair, the second, and a pulse in whose phase there are none.
  pub next_first : (reply : Seen) → pair_bit i ≡ true → next load phase i reply ≡ onward load phase i
  unfolding next
  next_first reply e = when_true _ _ e

  pub next_second : (reply : Seen) → pair_bit i ≡ false → next load phase i reply ≡ after_pair load phase i reply
  unfolding next
  next_second reply e = when_false _ _ e

  pub next_single : (reply : Seen) → after_pair load phase i reply ≡ onward load phase i → next load phase i reply ≡ onward load phase i
  unfolding next
  next_single reply e = when_elim (λ (x : Place). x ≡ onward load phase i) (pair_bit i) _ _ (λ t. refl) (λ f. e)
