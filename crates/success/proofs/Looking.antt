-- What the host sees where it doesn't look changes nothing.
-- Assumes nothing.
use mathlib.Core.Bool.{Bool, true, false}
use mathlib.Core.Path.{◌≡◌, refl}
use Prim.Native.Nat.{ℕ}
use Rattle.terms.specs.Choice.{when}
use Rattle.units.specs.declared.Seen.{Seen}
use Rattle.units.specs.declared.Seen.TheVariants.{Silence}
use Rattle.load.specs.declared.Load.{Load}
use Rattle.bits.specs.Bits.{pair_bit}
use Rattle.follow.specs.Follow.{after_connection, after_version_pair, after_wait_pair, next}
use Rattle.place.specs.declared.Phase.{Phase}
use Rattle.place.specs.declared.Phase.TheVariants.{Calibration, Handshake, Connection, Version, Command, Zeros, Size, Image, Wait, Ended}
use Rattle.bits.specs.Seeing.{around_first, sees}

unlooked : {A : Type 0} (b : Bool) (x : A) (f : Seen → A) (reply : Seen) → when b x (f (when b Silence reply)) ≡ when b x (f reply)
unfolding when
unlooked true x f reply = refl
unlooked false x f reply = refl

pub sees_enough : (load : Load) (phase : Phase) (i : ℕ) (reply : Seen) → next load phase i (sees phase i reply) ≡ next load phase i reply
unfolding next around_first
sees_enough load Calibration i reply = refl
sees_enough load Handshake i reply = refl
sees_enough load Connection i reply = unlooked (pair_bit i) _ (after_connection load i) reply
sees_enough load (Version v) i reply = unlooked (pair_bit i) _ (after_version_pair load v i) reply
sees_enough load Command i reply = refl
sees_enough load Zeros i reply = refl
sees_enough load Size i reply = refl
sees_enough load Image i reply = refl
sees_enough load (Wait a) i reply = unlooked (pair_bit i) _ (after_wait_pair load a i) reply
sees_enough load (Ended e) i reply = refl
