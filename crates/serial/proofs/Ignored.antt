-- Where no reply is awaited, neither row 15 nor the place from which the next byte is filled goes by what came back.
-- Assumes nothing.
use Rattle.std.specs.Prelude.{Option}
use mathlib.Core.Bool.{false}
use mathlib.Core.Path.{◌≡◌, refl, sym, ◌∙◌}
use Prim.Native.Nat.{ℕ}
use borrow.Author.Tests.{not-false}
use Rattle.terms.specs.Choice.{both}
use Rattle.load.specs.declared.Load.{Load}
use Rattle.units.specs.declared.Seen.{Seen}
use Rattle.follow.specs.Follow.{next}
use Rattle.place.specs.declared.Phase.{Phase}
use Rattle.place.specs.declared.Phase.TheVariants.{Calibration, Handshake, Connection, Version, Command, Zeros, Size, Image, Wait, Ended}
use Rattle.serial.specs.Ignored.{ElsewhereIgnored}
use Rattle.serial.specs.Phases.{awaits}
use Rattle.serial.specs.Replies.{came, wrong_reply, resumed}
use Rattle.serial.specs.Step.{turn_of, serial_step}
use Rattle.serial.proofs.Places.{first_onward}

never_wrong : (phase : Phase) (i : ℕ) (back : Option ℕ) → awaits phase i ≡ false → wrong_reply phase i back ≡ false
unfolding wrong_reply both
never_wrong phase i back e = rw e refl

-- Pairs of steps 3, 4, 7 and 8 stand at their first pulse; the calibration's pair and bits lead onward.
module _ (load : Load) (i : ℕ) (a b : Seen) where
  same_next : (phase : Phase) → awaits phase i ≡ false → next load phase i a ≡ next load phase i b
  unfolding next awaits both
  same_next Calibration e = refl
  same_next Handshake e = refl
  same_next Connection e =
      let f = not-false _ e in first_onward load Connection i a f ∙ sym (first_onward load Connection i b f)
  same_next (Version v) e =
      let f = not-false _ e in first_onward load (Version v) i a f ∙ sym (first_onward load (Version v) i b f)
  same_next Command e = refl
  same_next Zeros e = refl
  same_next Size e = refl
  same_next Image e = refl
  same_next (Wait w) e =
      let f = not-false _ e in first_onward load (Wait w) i a f ∙ sym (first_onward load (Wait w) i b f)
  same_next (Ended x) e = refl

  same_resumed : (phase : Phase) → awaits phase i ≡ false → resumed load phase i a ≡ resumed load phase i b
  unfolding resumed
  same_resumed phase e = rw (same_next phase e) refl

pub elsewhere_ignored : ElsewhereIgnored
unfolding serial_step turn_of
elsewhere_ignored s image back other e =
    rw (
      never_wrong s.place.phase s.place.index back e,
      never_wrong s.place.phase s.place.index other e,
      same_resumed s.load s.place.index (came back) (came other) s.place.phase e,
    )
    refl
