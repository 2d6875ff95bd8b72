-- A start hands out a record within its ranges, and each step keeps it there.
-- Assumes nothing.
use Rattle.std.specs.Prelude.{Option}
use mathlib.Core.Bool.{Bool, false}
use mathlib.Core.List.{List}
use mathlib.Core.Path.{◌≡◌, sym, subst}
use Prim.Native.Nat.{ℕ, ◌≤◌}
use native.Mathlib.Omega.{arith}
use borrow.Author.Tests.{leb-false, lt-leb}
use Rattle.terms.specs.Refusals.{taken}
use Rattle.terms.proofs.Refusals.{taken_exactly}
use Rattle.terms.proofs.Tests.{when_elim, either_false, less_false}
use Rattle.load.specs.Load.{load_of, load_outside}
use Rattle.load.specs.declared.Load.{Load}
use Rattle.load.proofs.Exactly.{load_taken}
use Rattle.load.proofs.Within.{load_within, start_within}
use Rattle.units.specs.declared.Seen.{Seen}
use Rattle.follow.specs.Follow.{onward, next}
use Rattle.follow.proofs.Stands.{Stands, opened_stands, onward_stands, next_stands}
use Rattle.place.specs.Phases.{ended}
use Rattle.range.specs.Ranges.{place_outside}
use Rattle.place.specs.declared.Phase.TheVariants.{Calibration}
use Rattle.place.specs.declared.Place.{Place}
use Rattle.serial.specs.Phases.{pending}
use Rattle.packing.specs.Phases.{in_pairs}
use Rattle.packing.specs.Filling.{paired, sent_at}
use Rattle.serial.specs.Replies.{came, resumed}
use Rattle.serial.specs.Step.{serial_start, serial_outside, serial_rows, resumed_at, turn_at, turn_of, serial_step}
use Rattle.packing.specs.declared.Filling.{Filling}
use Rattle.packing.specs.declared.Packing.{Packing}
use Rattle.serial.specs.declared.Serial.{Serial}
use Rattle.serial.specs.declared.Turn.{Turn}
use Rattle.packing.proofs.Full.{filled_byte}
use Rattle.packing.proofs.Phases.{plain, in_bits_lem}
use Rattle.packing.proofs.Walks.{Walks, stays, walks}
use Rattle.serial.proofs.Starts.{start_load}

-- The load and the place are within their ranges. Pulses are not counted here.
pub record Within (load : Load) (place : Place) : Type 0 where
  pub loaded : load_outside load ≡ false
  pub stands : Stands load 0 place

pub not_outside : (load : Load) (place : Place) → Within load place → serial_outside load place ≡ false
unfolding serial_outside place_outside
not_outside load place w =
    (either_false _ _).1 (w.loaded, (either_false _ _).1 ((less_false _ _).1 w.stands.had, lt-leb _ _ w.stands.short))

pub within : (load : Load) (place : Place) → serial_outside load place ≡ false → Within load place
unfolding serial_outside place_outside
within load place e =
    let parts = (either_false _ _).0 e in
    let there = (either_false _ _).0 parts.1 in
    record { loaded = parts.0; stands = record { had = (less_false _ _).0 there.0; short = leb-false _ _ there.1; sent = omega arith } }

module _ (load : Load) (loaded : load_outside load ≡ false) where
  long : 1 ≤ load.command → 16 ≤ load.length.0
  long = (load_within load loaded).long

  abbrev In : Place → Type 0
  In place = Stands load 0 place

  uncounted : (k : ℕ) (p : Place) → Stands load k p → In p
  uncounted k p w = record { had = w.had; short = w.short; sent = omega arith }

  -- One pulse.
  next_in : (p : Place) (s : Seen) → ended p.phase ≡ false → In p → In (next load p.phase p.index s)
  next_in p s on w = uncounted 1 _ (next_stands load long 0 p.index p.phase s on w)

  onward_in : (p : Place) → ended p.phase ≡ false → In p → In (onward load p.phase p.index)
  onward_in p on w = uncounted 1 _ (onward_stands load long 0 p.index p.phase on w)

  pub resumed_in : (p : Place) (s : Seen) → ended p.phase ≡ false → In p → In (resumed load p.phase p.index s)
  unfolding resumed
  resumed_in p s on w = when_elim In (pending p.phase p.index) _ _ (λ b. next_in p s on w) (λ b. w)

  module _ (packing : Packing) (image : List ℕ) where
    -- The bits of a byte lead within.
    walks_in : (p q : Place) (bits : List Bool) → Walks load image p bits q → In p → In q
    walks_in p _ _ (stays _) w = w
    walks_in p q _ (walks _ bits _ on way) w = walks_in _ q bits way (onward_in p (plain p.phase on).on w)

    sent_in : (p : Place) → ended p.phase ≡ false → In p → In (sent_at packing load image p.phase p.index).place
    unfolding sent_at paired
    sent_in p on w =
        when_elim (λ (f : Filling). In f.place) (in_pairs p.phase) _ _ (λ b. onward_in p on w)
        (λ b.
        let x = filled_byte packing load image p (in_bits_lem p.phase (record { bits = b; on = on })) in
        walks_in p _ x.bits x.way w)

-- A turn, from where its byte is filled.
turn_in : (s : Serial) (image : List ℕ) (p : Place) → load_outside s.load ≡ false → Stands s.load 0 p
    → Within (turn_at s image p.phase p.index).serial.load (turn_at s image p.phase p.index).serial.place
unfolding turn_at
turn_in s image p loaded w =
    when_elim (λ (t : Turn). Within t.serial.load t.serial.place) (ended p.phase) _ _
    (λ e. record { loaded = loaded; stands = w })
    (λ e. record { loaded = loaded; stands = sent_in s.load loaded s.packing image p e w })

pub start_keeps : (packing : Packing) (command : ℕ) (image : List ℕ) (s : Serial) → serial_start packing command image ≡ taken s
    → Within s.load s.place
start_keeps packing command image s e =
    let p = start_load packing command image s e in
    let load = load_of command image in
    let loaded = start_within command image ((load_taken command image load).0 p.0).0 in
    subst (λ (x : Serial). Within x.load x.place) (sym p.1)
    (record { loaded = loaded; stands = opened_stands load (load_within load loaded).long 0 Calibration (omega arith) (omega arith) })

pub step_keeps : (s : Serial) (image : List ℕ) (back : Option ℕ) (t : Turn) → serial_step s image back ≡ taken t
    → Within t.serial.load t.serial.place
unfolding serial_step turn_of
step_keeps s image back t e =
    let passed = (taken_exactly (turn_of s image back) t (serial_rows s image back)).0 e in
    let w = within s.load s.place passed.0.0 in
    subst (λ (x : Turn). Within x.serial.load x.serial.place) (sym passed.1)
    (turn_in s image (resumed_at s back) w.loaded (resumed_in s.load w.loaded s.place (came back) passed.0.1.0 w.stands))
