-- What a phase carries, and where a bit of it leads.
-- Assumes nothing.
use mathlib.Core.Bool.{true, false, true≢false, false≢true}
use mathlib.Core.Path.{◌≡◌, refl}
use Prim.Native.Nat.{ℕ, ◌+◌}
use Rattle.terms.specs.Choice.{either}
use Rattle.terms.proofs.Tests.{when_elim}
use Rattle.load.specs.declared.Load.{Load}
use Rattle.follow.specs.Follow.{opened, after, onward}
use Rattle.place.specs.Phases.{ended}
use Rattle.place.specs.declared.Phase.{Phase}
use Rattle.place.specs.declared.Phase.TheVariants.{Calibration, Handshake, Connection, Version, Command, Zeros, Size, Image, Wait, Ended}
use Rattle.place.specs.declared.Place.{Place}
use Rattle.packing.specs.Phases.{in_bits, in_pairs}
use Rattle.packing.specs.Filling.{goes_into, goes_on}
use Rattle.packing.specs.declared.Packing.{Packing}
use Rattle.packing.specs.declared.Packing.TheVariants.{One, Three, Fewest}

-- A phase of bits carries no pairs and goes on.
pub record Plain (phase : Phase) : Type 0 where
  pub bits : in_pairs phase ≡ false
  pub on : ended phase ≡ false

pub plain : (phase : Phase) → in_bits phase ≡ true → Plain phase
plain Calibration e = absurd (false≢true e)
plain Handshake e = record { bits = refl; on = refl }
plain Connection e = absurd (false≢true e)
plain (Version v) e = absurd (false≢true e)
plain Command e = record { bits = refl; on = refl }
plain Zeros e = record { bits = refl; on = refl }
plain Size e = record { bits = refl; on = refl }
plain Image e = record { bits = refl; on = refl }
plain (Wait a) e = absurd (false≢true e)
plain (Ended x) e = absurd (false≢true e)

pub in_bits_lem : (phase : Phase) → Plain phase → in_bits phase ≡ true
in_bits_lem Calibration p = absurd (true≢false p.bits)
in_bits_lem Handshake p = refl
in_bits_lem Connection p = absurd (true≢false p.bits)
in_bits_lem (Version v) p = absurd (true≢false p.bits)
in_bits_lem Command p = refl
in_bits_lem Zeros p = refl
in_bits_lem Size p = refl
in_bits_lem Image p = refl
in_bits_lem (Wait a) p = absurd (true≢false p.bits)
in_bits_lem (Ended x) p = absurd (true≢false p.on)

module _ (load : Load) where
  -- The next place of a phase, or another phase's first.
  pub onward_elim : (P : Place → Type 0) (phase : Phase) (i : ℕ) → P (record { phase = phase; index = i + 1 })
      → ((to : Phase) → P (opened to)) → P (onward load phase i)
  unfolding onward
  onward_elim P phase i here there = when_elim P _ _ _ (λ b. here) (λ b. there (after load phase))

  into_bits : (packing : Packing) (to : Phase) → goes_into packing to ≡ true → in_bits to ≡ true
  into_bits One to g = absurd (false≢true g)
  into_bits Three to g = absurd (false≢true g)
  into_bits Fewest to g = g

  -- Where a byte goes on there is a bit.
  pub goes_in_bits : (packing : Packing) (phase : Phase) (i : ℕ) → in_bits phase ≡ true → goes_on packing (onward load phase i) ≡ true
      → in_bits (onward load phase i).phase ≡ true
  unfolding goes_on either
  goes_in_bits packing phase i e =
      onward_elim (λ (q : Place). goes_on packing q ≡ true → in_bits q.phase ≡ true) phase i (λ g. e) (λ to g. into_bits packing to g)
