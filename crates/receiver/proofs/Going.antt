-- Where a pulse leads, as far as the countdown goes: on within one budget, or to the start of another, or to an end. One list for a pulse
-- that is read and for one that times out, whether the work that it calls for goes well or not.
-- Assumes nothing.
use mathlib.Core.Bool.{Bool, true, false}
use mathlib.Core.Path.{◌≡◌, refl}
use Prim.Native.Nat.{ℕ, ◌+◌, ◌<◌}
use Rattle.terms.proofs.Tests.{when_elim}
use Rattle.units.specs.declared.Longs.{Longs}
use Rattle.units.specs.declared.Loops.{Loops}
use Rattle.phases.specs.declared.Acknowledgement.{Acknowledgement}
use Rattle.phases.specs.declared.Ending.{Ending}
use Rattle.phases.specs.declared.Phase.{Phase}
use Rattle.phases.specs.declared.Phase.TheVariants.{First, Second, Handshake, Answer, Rest, Command, Size, Long, Align, Ended}
use Rattle.phases.specs.declared.Reply.{Reply}
use Rattle.listener.specs.Heard.{quiet, heard}
use Rattle.listener.specs.Settled.{failed, settled}
use Rattle.listener.specs.declared.Heard.{Heard}
use Rattle.listener.specs.declared.Listener.{Listener}
use Rattle.countdown.specs.Countdown.{aligns, counting}
use Rattle.receiver.specs.Late.{after_late}
use Rattle.receiver.proofs.Leads as leads
use Rattle.receiver.proofs.Leads.{Leads, heard_leads, late_leads}

-- A pulse of some low, that reads as a bit, leads from one phase to another.
pub data Goes (low : ℕ) (bit : Bool) : Phase → Phase → Type 0 where
  calibrating : Goes low bit First (Second (record { 0 = low }))
  shaking : (d : Loops) → Goes low bit (Second d) (Handshake 1)
  shaken : (k : ℕ) → k < 250 → Goes low bit (Handshake k) (Handshake (k + 1))
  resting : (r : Reply) → Goes low bit (Answer r) (Rest r)
  commanding : (n v w : ℕ) → n < 31 → Goes low bit (Command n v) (Command (n + 1) w)
  sizing : (n v w : ℕ) → n < 31 → Goes low bit (Size n v) (Size (n + 1) w)
  storing : (n v w : ℕ) (k : Longs) → n < 31 → Goes low bit (Long n k v) (Long (n + 1) k w)
  aligning : (a : Acknowledgement) → bit ≡ true → Goes low bit (Align a) (Align a)
  to_answer : (p : Phase) (r : Reply) → Goes low bit p (Answer r)
  to_command : (p : Phase) → Goes low bit p (Command 0 0)
  to_size : (p : Phase) → Goes low bit p (Size 0 0)
  to_long : (p : Phase) (k : Longs) → Goes low bit p (Long 0 k 0)
  to_align : (p : Phase) (a : Acknowledgement) → aligns p ≡ false → Goes low bit p (Align a)
  to_end : (p : Phase) (e : Ending) → Goes low bit p (Ended e)

-- What was heard goes so, well or badly; what is left is counted alike for both.
pub record Then (low : ℕ) (bit : Bool) (from : Phase) (h : Heard) : Type 0 where
  pub well : Goes low bit from h.listener.phase
  pub badly : Goes low bit from (failed h.listener h.event).phase
  pub same : (left : ℕ) → counting from (failed h.listener h.event).phase left ≡ counting from h.listener.phase left

-- After the work, what is left goes by the phase that the chip is then in.
pub settled_goes : (low : ℕ) (bit : Bool) (from : Phase) (h : Heard) (good : Bool) → Then low bit from h → Goes low bit from (settled h good).phase
unfolding settled
settled_goes low bit from h good t =
    when_elim (λ (l : Listener). Goes low bit from l.phase) good _ _ (λ e. t.well) (λ e. t.badly)

pub settled_counts : (low : ℕ) (bit : Bool) (from : Phase) (h : Heard) (good : Bool) → Then low bit from h → (left : ℕ)
    → counting from (settled h good).phase left ≡ counting from h.listener.phase left
unfolding settled
settled_counts low bit from h good t left =
    when_elim (λ (l : Listener). counting from l.phase left ≡ counting from h.listener.phase left) good _ _ (λ e. refl)
    (λ e. t.same left)

module _ (l : Listener) (low : ℕ) (bit : Bool) where
  -- No work.
  idle : (p q : Phase) (m : Listener) → Goes low bit p q → Then low bit p (quiet m q)
  idle p q m g = record { well = g; badly = g; same = λ left. refl }

  leads_then : (p : Phase) (h : Heard) → Leads l low bit p h → Then low bit p h
  leads_then _ _ leads.calibrates = idle First _ l calibrating
  leads_then _ _ (leads.shakes d) = record { well = shaking d; badly = shaking d; same = λ left. refl }
  leads_then _ _ (leads.matches k e m) = idle (Handshake k) _ l (shaken k m)
  leads_then _ _ (leads.matches_last k e m) = idle (Handshake k) _ l (to_answer _ _)
  leads_then _ _ (leads.answers r) = record { well = resting r; badly = resting r; same = λ left. refl }
  leads_then _ _ (leads.connects k m) = idle _ _ l (to_answer _ _)
  leads_then _ _ (leads.connects_last k m) = idle _ _ l (to_command _)
  leads_then _ _ (leads.command_bit_lem n v m) = idle (Command n v) _ l (commanding n v _ m)
  leads_then _ _ (leads.commands n v m some most) = record { well = to_size _; badly = to_size _; same = λ left. refl }
  leads_then _ _ (leads.size_bit n v m) = idle (Size n v) _ l (sizing n v _ m)
  leads_then _ _ (leads.sizes n v some most) = record { well = to_long _ _; badly = to_long _ _; same = λ left. refl }
  leads_then _ _ (leads.sizes_off n v) = idle (Size n v) _ l (to_end _ _)
  leads_then _ _ (leads.long_bit n k v m) = idle (Long n k v) _ l (storing n v _ k m)
  leads_then _ _ (leads.stores n k v m) = record { well = to_long _ _; badly = to_long _ _; same = λ left. refl }
  leads_then _ _ (leads.finishes n k v) = record { well = to_align _ _ refl; badly = to_align _ _ refl; same = λ left. refl }
  leads_then _ _ (leads.aligns a e) = idle (Align a) _ l (aligning a e)
  leads_then _ _ (leads.aligns_last a) = idle (Align a) _ l (to_answer _ _)
  leads_then _ _ (leads.programs other) = record { well = to_align _ _ refl; badly = to_align _ _ refl; same = λ left. refl }
  leads_then _ _ leads.verifies = record { well = to_align _ _ refl; badly = to_align _ _ refl; same = λ left. refl }
  leads_then _ _ (leads.launches_stored one) = record { well = to_end _ _; badly = to_end _ _; same = λ left. refl }
  leads_then _ _ (leads.launches_verified other) = record { well = to_end _ _; badly = to_end _ _; same = λ left. refl }
  leads_then _ _ (leads.fails_answering a) = idle _ _ l (to_align _ _ refl)
  leads_then _ _ (leads.fails_resting a) = idle _ _ l (to_align _ _ refl)
  leads_then _ _ (leads.boots p) = record { well = to_end p _; badly = to_end p _; same = λ left. refl }
  leads_then _ _ (leads.shuts p) = idle p _ l (to_end p _)
  leads_then _ _ (leads.stays e) = idle (Ended e) _ l (to_end _ _)

  -- A pulse that is read, and one that times out.
  pub heard_then : (p : Phase) → Then low bit p (heard l p low bit)
  heard_then p = leads_then p _ (heard_leads l low bit p)

  pub late_then : (p : Phase) → Then low bit p (after_late l p)
  late_then p = leads_then p _ (late_leads l low bit p)
