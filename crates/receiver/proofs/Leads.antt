-- Where a pulse leads, one constructor for each kind of move, with what its tests say: all that a pulse does which is read, and one that
-- times out. What each of these moves keeps, each pulse keeps.
-- Assumes nothing.
use mathlib.Core.Bool.{Bool, true, false}
use mathlib.Core.Path.{◌≡◌, refl, sym}
use Prim.Native.Nat.{ℕ, ◌+◌, ◌<◌, ◌≤◌}
use native.Mathlib.Omega.{arith}
use borrow.Author.Tests.{ltb-true, ltb-false, eqb-true, eqb-false}
use Rattle.terms.specs.Choice.{when}
use Rattle.terms.proofs.Tests.{when_elim}
use Rattle.units.specs.declared.Longs.{Longs}
use Rattle.units.specs.declared.Loops.{Loops}
use Rattle.units.specs.declared.Seen.TheVariants.{Silence}
use Rattle.sequence.specs.Sequence.{draw}
use Rattle.phases.specs.declared.Acknowledgement.{Acknowledgement}
use Rattle.phases.specs.declared.Acknowledgement.TheVariants.{Stored, Programmed, Verified, Failed}
use Rattle.phases.specs.declared.Ending.{Ending}
use Rattle.phases.specs.declared.Ending.TheVariants.{Off}
use Rattle.phases.specs.declared.Phase.{Phase}
use Rattle.phases.specs.declared.Phase.TheVariants.{First, Second, Handshake, Answer, Rest, Command, Size, Long, Align, Ended}
use Rattle.phases.specs.declared.Reply.{Reply}
use Rattle.phases.specs.declared.Reply.TheVariants.{Connection, Acknowledging}
use Rattle.line.specs.Reading.{threshold_of, grown}
use Rattle.line.specs.Replies.{reply_bit, shown}
use Rattle.listener.specs.Heard.{with_threshold, with_command, with_size, led, quiet, booting, launching, shutting, agree}
use Rattle.listener.specs.Heard.{after_draw, compared, after_connection, stored, verified, acknowledged}
use Rattle.listener.specs.Heard.{received_command, received_size, received_long, read_command, read_size, read_long, aligned, heard}
use Rattle.listener.specs.declared.Event.TheVariants.{Nothing, Store, Finish, Program, Verify}
use Rattle.listener.specs.declared.Heard.{Heard}
use Rattle.listener.specs.declared.Listener.{Listener}
use Rattle.receiver.specs.Late.{late_reply, after_late}

-- A pulse of some low, that reads as a bit, leads a listener from a phase to what is heard.
pub data Leads (l : Listener) (low : ℕ) (bit : Bool) : Phase → Heard → Type 0 where
  calibrates : Leads l low bit First (quiet l (Second (record { 0 = low })))
  shakes : (d : Loops) → Leads l low bit (Second d) (quiet (with_threshold l (threshold_of d.0 low)) (Handshake 1))
  matches : (k : ℕ) → bit ≡ draw k → k < 250 → Leads l low bit (Handshake k) (quiet l (Handshake (k + 1)))
  matches_last : (k : ℕ) → bit ≡ draw k → 250 ≤ k → Leads l low bit (Handshake k) (quiet l (Answer (Connection 0)))
  answers : (r : Reply) → Leads l low bit (Answer r) (led l (Rest r) Nothing (shown (reply_bit r)))
  connects : (k : ℕ) → k < 257 → Leads l low bit (Rest (Connection k)) (quiet l (Answer (Connection (k + 1))))
  connects_last : (k : ℕ) → 257 ≤ k → Leads l low bit (Rest (Connection k)) (quiet l (Command 0 0))
  command_bit_lem : (n v : ℕ) → n < 31 → Leads l low bit (Command n v) (quiet l (Command (n + 1) (grown v bit)))
  commands : (n v : ℕ) → 31 ≤ n → 1 ≤ grown v bit → grown v bit ≤ 3
      → Leads l low bit (Command n v) (quiet (with_command l (grown v bit)) (Size 0 0))
  size_bit : (n v : ℕ) → n < 31 → Leads l low bit (Size n v) (quiet l (Size (n + 1) (grown v bit)))
  sizes : (n v : ℕ) → 1 ≤ grown v bit → grown v bit ≤ 8192
      → Leads l low bit (Size n v) (quiet (with_size l (grown v bit)) (Long 0 (record { 0 = 0 }) 0))
  sizes_off : (n v : ℕ) → Leads l low bit (Size n v) (quiet l (Ended Off))
  long_bit : (n : ℕ) (k : Longs) (v : ℕ) → n < 31 → Leads l low bit (Long n k v) (quiet l (Long (n + 1) k (grown v bit)))
  stores : (n : ℕ) (k : Longs) (v : ℕ) → k.0 + 1 < l.size.0
      → Leads l low bit (Long n k v) (led l (Long 0 (record { 0 = k.0 + 1 }) 0) (Store k (grown v bit)) Silence)
  finishes : (n : ℕ) (k : Longs) (v : ℕ) → Leads l low bit (Long n k v) (led l (Align Stored) (Finish k (grown v bit)) Silence)
  aligns : (a : Acknowledgement) → bit ≡ true → Leads l low bit (Align a) (quiet l (Align a))
  aligns_last : (a : Acknowledgement) → Leads l low bit (Align a) (quiet l (Answer (Acknowledging a)))
  programs : (l.command ≡ 1 → ⊥) → Leads l low bit (Rest (Acknowledging Stored)) (led l (Align Programmed) Program Silence)
  verifies : Leads l low bit (Rest (Acknowledging Programmed)) (led l (Align Verified) Verify Silence)
  launches_stored : l.command ≡ 1 → Leads l low bit (Rest (Acknowledging Stored)) (launching l)
  launches_verified : (l.command ≡ 2 → ⊥) → Leads l low bit (Rest (Acknowledging Verified)) (launching l)
  fails_answering : (a : Acknowledgement) → Leads l low bit (Answer (Acknowledging a)) (quiet l (Align Failed))
  fails_resting : (a : Acknowledgement) → Leads l low bit (Rest (Acknowledging a)) (quiet l (Align Failed))
  boots : (p : Phase) → Leads l low bit p (booting l)
  shuts : (p : Phase) → Leads l low bit p (shutting l)
  stays : (e : Ending) → Leads l low bit (Ended e) (quiet l (Ended e))

agree_same : (a b : Bool) → agree a b ≡ true → a ≡ b
agree_same true b e = sym e
agree_same false true e = e
agree_same false false e = refl

module _ (l : Listener) (low : ℕ) (bit : Bool) where
  -- By the test of a choice.
  tested : (p : Phase) {b : Bool} {x y : Heard} → (b ≡ true → Leads l low bit p x) → (b ≡ false → Leads l low bit p y)
      → Leads l low bit p (when b x y)
  tested p t f = when_elim (Leads l low bit p) _ _ _ t f

  quietly : (p : Phase) {b : Bool} {x y : Phase} → (b ≡ true → Leads l low bit p (quiet l x)) → (b ≡ false → Leads l low bit p (quiet l y))
      → Leads l low bit p (quiet l (when b x y))
  quietly p t f = when_elim (λ (q : Phase). Leads l low bit p (quiet l q)) _ _ _ t f

  acknowledges : (a : Acknowledgement) → Leads l low bit (Rest (Acknowledging a)) (acknowledged l a)
  unfolding stored verified
  acknowledges Stored =
      tested (Rest (Acknowledging Stored)) (λ e. launches_stored (eqb-true l.command 1 e)) (λ e. programs (eqb-false l.command 1 e))
  acknowledges Programmed = verifies
  acknowledges Verified = tested (Rest (Acknowledging Verified)) (λ e. shuts _) (λ e. launches_verified (eqb-false l.command 2 e))
  acknowledges Failed = shuts _

  -- A pulse that is read.
  pub heard_leads : (p : Phase) → Leads l low bit p (heard l p low bit)
  unfolding after_draw compared after_connection read_command received_command read_size received_size read_long received_long aligned
  heard_leads First = calibrates
  heard_leads (Second d) = shakes d
  heard_leads (Handshake k) =
      tested (Handshake k)
      (λ e.
      let same = agree_same bit (draw k) e in
      quietly (Handshake k) (λ m. matches k same (ltb-true k 250 m)) (λ m. matches_last k same (ltb-false k 250 m)))
      (λ e. boots _)
  heard_leads (Answer r) = answers r
  heard_leads (Rest (Connection k)) =
      quietly (Rest (Connection k)) (λ m. connects k (ltb-true k 257 m)) (λ m. connects_last k (ltb-false k 257 m))
  heard_leads (Rest (Acknowledging a)) = acknowledges a
  heard_leads (Command n v) =
      tested (Command n v)
      (λ m. command_bit_lem n v (ltb-true n 31 m))
      (λ m.
      tested (Command n v)
      (λ z. shuts _)
      (λ z.
      let some : grown v bit ≡ 0 → ⊥ = eqb-false (grown v bit) 0 z in
      tested (Command n v)
      (λ b. shuts _)
      (λ b. commands n v (ltb-false n 31 m) (omega (arith, some)) (ltb-false 3 (grown v bit) b))))
  heard_leads (Size n v) =
      tested (Size n v)
      (λ m. size_bit n v (ltb-true n 31 m))
      (λ m.
      tested (Size n v)
      (λ z. sizes_off n v)
      (λ z.
      let some : grown v bit ≡ 0 → ⊥ = eqb-false (grown v bit) 0 z in
      tested (Size n v)
      (λ b. sizes_off n v)
      (λ b. sizes n v (omega (arith, some)) (ltb-false 8192 (grown v bit) b))))
  heard_leads (Long n k v) =
      tested (Long n k v)
      (λ m. long_bit n k v (ltb-true n 31 m))
      (λ m. tested (Long n k v) (λ f. stores n k v (ltb-true (k.0 + 1) l.size.0 f)) (λ f. finishes n k v))
  heard_leads (Align a) = tested (Align a) (aligns a) (λ e. aligns_last a)
  heard_leads (Ended e) = stays e

  -- One that times out.
  late_answer : (r : Reply) → Leads l low bit (Answer r) (quiet l (late_reply r))
  late_answer (Connection k) = shuts _
  late_answer (Acknowledging Stored) = shuts _
  late_answer (Acknowledging Programmed) = fails_answering Programmed
  late_answer (Acknowledging Verified) = fails_answering Verified
  late_answer (Acknowledging Failed) = shuts _

  late_rest : (r : Reply) → Leads l low bit (Rest r) (quiet l (late_reply r))
  late_rest (Connection k) = shuts _
  late_rest (Acknowledging Stored) = shuts _
  late_rest (Acknowledging Programmed) = fails_resting Programmed
  late_rest (Acknowledging Verified) = fails_resting Verified
  late_rest (Acknowledging Failed) = shuts _

  pub late_leads : (p : Phase) → Leads l low bit p (after_late l p)
  late_leads First = boots _
  late_leads (Second d) = boots _
  late_leads (Handshake k) = boots _
  late_leads (Answer r) = late_answer r
  late_leads (Rest r) = late_rest r
  late_leads (Command n v) = boots _
  late_leads (Size n v) = boots _
  late_leads (Long n k v) = boots _
  late_leads (Align a) = boots _
  late_leads (Ended e) = stays e
