-- The opening, 766 pulses: the handshake bits match, and the host sees the draws and the version that it wants.
-- Assumes nothing.
use mathlib.Core.Bool.{Bool, true, false}
use mathlib.Core.List.{List}
use mathlib.Core.Path.{◌≡◌, refl, ap, ◌∙◌}
use Prim.Native.Nat.{ℕ, ◌+◌, ◌*◌, ◌/◌, ◌%◌, ◌<◌}
use native.Mathlib.Omega.{arith}
use borrow.Author.Tests.{lt-ltb, eq-eqb, ne_eqb}
use Rattle.terms.specs.Choice.{when, both}
use Rattle.terms.proofs.Tests.{when_true}
use Rattle.sequence.specs.Sequence.{draw}
use Rattle.units.specs.declared.Seen.TheVariants.{Silence}
use Rattle.load.specs.declared.Load.{Load}
use Rattle.bits.specs.Bits.{pair_bit}
use Rattle.follow.specs.Follow as host
use Rattle.follow.specs.Follow.{opened, onward, shows}
use Rattle.place.specs.declared.Phase.TheVariants as at
use Rattle.place.specs.declared.Place.{Place}
use Rattle.phases.specs.declared.Phase.{Phase}
use Rattle.phases.specs.declared.Phase.TheVariants.{Handshake, Answer, Rest, Command}
use Rattle.phases.specs.declared.Reply.TheVariants.{Connection}
use Rattle.listener.specs.Heard.{quiet, agree, after_draw, compared, after_connection}
use Rattle.listener.specs.Settled.{settled}
use Rattle.line.specs.Replies.{connection_bit, shown}
use Rattle.listener.specs.declared.Event.TheVariants.{Nothing}
use Rattle.listener.specs.declared.Listener.{Listener}
use Rattle.conversation.specs.Conversation.{Talk, talked, Reach, start}
use Rattle.conversation.proofs.Computed.{computed}
use Rattle.conversation.proofs.Pulses.{talk, listening, hearing, pulse, onward_within, onward_last, next_first, next_second, next_single}
use Rattle.conversation.proofs.Reaching.{and_then, rounds}

-- The handshake: a draw agrees with itself.
agree_self : (b : Bool) → agree b b ≡ true
agree_self true = refl
agree_self false = refl

draw_matches : (l : Listener) (k : ℕ) → compared l k (draw k) ≡ quiet l (after_draw k)
unfolding compared
draw_matches l k = when_true _ _ (agree_self (draw k))

after_draw_lem : (k : ℕ) → k < 250 → after_draw k ≡ Handshake (k + 1)
unfolding after_draw
after_draw_lem k h = when_true _ _ (lt-ltb _ _ h)

after_last_draw : after_draw 250 ≡ Answer (Connection 0)
unfolding after_draw when
after_last_draw = refl

-- The connection: a reply is followed by the next, and what the chip shows is the draw that the host wants.
after_reply_lem : (k : ℕ) → k < 257 → after_connection k ≡ Answer (Connection (k + 1))
unfolding after_connection
after_reply_lem k h = when_true _ _ (lt-ltb _ _ h)

shows_shown : (b : Bool) → shows (shown b) b ≡ true
unfolding shown when
shows_shown true = refl
shows_shown false = refl

draw_replied : (k : ℕ) → k < 250 → connection_bit k ≡ draw (251 + k)
unfolding connection_bit
draw_replied k h = when_true _ _ (lt-ltb _ _ h)

draw_seen : (load : Load) (k : ℕ) → host.after_connection load (k * 2 + 1) (shown (draw (251 + k))) ≡ onward load at.Connection (k * 2 + 1)
unfolding host.after_connection
draw_seen load k =
    let half : (k * 2 + 1) / 2 ≡ k = omega arith in
    when_true _ _ (ap (λ (x : ℕ). shows (shown (draw (251 + k))) (draw (251 + x))) half ∙ shows_shown (draw (251 + k)))

module _ (load : Load) (image : List ℕ) (threshold : ℕ) (ram eeprom : List ℕ) where
  -- The chip before its command.
  abbrev fresh : Phase → Listener
  fresh = listening threshold 0 0

  -- Both before handshake bit i + 1, before connection pair k, and within it.
  abbrev shaking : ℕ → Talk
  shaking i = talk (record { phase = at.Handshake; index = i }) (fresh (Handshake (i + 1))) ram eeprom Silence

  abbrev pub connecting : ℕ → Talk
  connecting k = talk (record { phase = at.Connection; index = k * 2 }) (fresh (Answer (Connection k))) ram eeprom Silence

  abbrev pub replied : ℕ → Talk
  replied k = talk (record { phase = at.Connection; index = k * 2 + 1 }) (fresh (Rest (Connection k))) ram eeprom (shown (draw (251 + k)))

  shake : (i : ℕ) (place : Place) (phase : Phase) → onward load at.Handshake i ≡ place → after_draw (i + 1) ≡ phase
      → Reach load image 1 (shaking i) (talk place (fresh phase) ram eeprom Silence)
  shake i place phase p q =
      pulse load image (shaking i) (draw (i + 1)) place (fresh phase) Nothing Silence ram eeprom
      refl refl refl
      (next_single load at.Handshake i Silence refl ∙ p)
      (draw_matches (fresh (Handshake (i + 1))) (i + 1) ∙ ap (quiet (fresh (Handshake (i + 1)))) q)
      refl

  pub handshake : Reach load image 250 (start threshold ram eeprom) (connecting 0)
  handshake =
      and_then
      (rounds 1 shaking 249
      (λ i h. shake i _ _ (onward_within load at.Handshake i (omega arith)) (after_draw_lem (i + 1) (omega arith))))
      (shake 249 _ _ (onward_last load at.Handshake 249 (omega arith)) after_last_draw)

  pub answer : (k : ℕ) → k < 250 → Reach load image 1 (connecting k) (replied k)
  answer k h =
      let even : k * 2 % 2 ≡ 0 = omega arith in
      let first : pair_bit (k * 2) ≡ true = eq-eqb _ _ even in
      let within : k * 2 + 1 < 500 = omega arith in
      pulse load image (connecting k) true _ (fresh (Rest (Connection k))) Nothing (shown (draw (251 + k))) ram eeprom
      refl refl first
      (next_first load at.Connection (k * 2) Silence first ∙ onward_within load at.Connection (k * 2) within)
      (ap (λ (b : Bool). hearing (fresh (Rest (Connection k))) Nothing (shown b)) (draw_replied k h))
      refl

  rest : (k : ℕ) (place : Place) (phase : Phase) → onward load at.Connection (k * 2 + 1) ≡ place → after_connection k ≡ phase
      → Reach load image 1 (replied k) (talk place (fresh phase) ram eeprom Silence)
  rest k place phase p q =
      let odd : (k * 2 + 1) % 2 ≡ 0 → ⊥ = omega arith in
      let second : pair_bit (k * 2 + 1) ≡ false = ne_eqb _ _ odd in
      pulse load image (replied k) false place (fresh phase) Nothing Silence ram eeprom
      refl refl second
      (next_second load at.Connection (k * 2 + 1) (shown (draw (251 + k))) second ∙ draw_seen load k ∙ p)
      (ap (quiet (fresh (Rest (Connection k)))) q)
      refl

  pub pair : (k : ℕ) → k < 249 → Reach load image 2 (connecting k) (connecting (k + 1))
  pair k h =
      let within : k * 2 + 1 + 1 < 500 = omega arith in
      let index : k * 2 + 1 + 1 ≡ (k + 1) * 2 = omega arith in
      and_then (answer k (omega arith))
      (rest k _ _
      (onward_within load at.Connection (k * 2 + 1) within ∙ ap (λ (i : ℕ). record { phase = at.Connection; index = i }) index)
      (after_reply_lem k (omega arith)))

  -- Both before the version, and before the command.
  abbrev pub versioning : Talk
  versioning = talk (opened (at.Version 0)) (fresh (Answer (Connection 250))) ram eeprom Silence

  abbrev pub commanding : Talk
  commanding = talk (opened at.Command) (fresh (Command 0 0)) ram eeprom Silence

  pub connection : Reach load image 500 (connecting 0) versioning
  connection =
      and_then (rounds 2 connecting 249 pair)
      (and_then (answer 249 (omega arith))
      (rest 249 _ _ (onward_last load at.Connection (249 * 2 + 1) (omega arith)) (after_reply_lem 249 (omega arith))))

  -- Nothing in the version's pulses goes by the load or by the memories, so they are computed.
  version : Reach load image 16 versioning commanding
  unfolding talked settled when both onward host.next host.after_version after_connection connection_bit shown
  version = computed load image 16 versioning refl

  pub opening : Reach load image 766 (start threshold ram eeprom) commanding
  opening = and_then handshake (and_then connection version)
