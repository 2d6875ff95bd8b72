-- What the chip makes of the command, of the size and of a long: each is read in 32 bits, and what a load has of them is taken.
-- Assumes nothing.
use mathlib.Core.Path.{◌≡◌, refl, ◌∙◌}
use Prim.Native.Nat.{ℕ, ◌+◌, ◌<◌, ◌≤◌}
use native.Mathlib.Omega.{arith}
use borrow.Author.Tests.{lt-ltb, le-ltb, ne_eqb}
use Rattle.terms.specs.Choice.{when}
use Rattle.terms.proofs.Tests.{when_true, when_false}
use Rattle.units.specs.declared.Longs.{Longs}
use Rattle.units.specs.declared.Seen.TheVariants.{Silence}
use Rattle.phases.specs.declared.Acknowledgement.TheVariants.{Stored}
use Rattle.phases.specs.declared.Phase.TheVariants.{Command, Size, Long, Align}
use Rattle.listener.specs.Heard.{quiet, led, shutting, with_command, with_size, received_command, received_size, received_long, read_command, read_size, read_long}
use Rattle.listener.specs.declared.Event.TheVariants.{Store, Finish}
use Rattle.listener.specs.declared.Listener.{Listener}
use Rattle.conversation.proofs.Values.{Receives}

module _ (l : Listener) where
  pub receives_command : Receives l Command (received_command l)
  unfolding read_command received_command
  receives_command = record { going = λ at i v. refl; hears = λ i v bit. refl }

  pub receives_size : Receives l Size (received_size l)
  unfolding read_size received_size
  receives_size = record { going = λ at i v. refl; hears = λ i v bit. refl }

  pub receives_long : (k : Longs) → Receives l (λ (i v : ℕ). Long i k v) (received_long l k)
  unfolding read_long received_long
  receives_long k = record { going = λ at i v. refl; hears = λ i v bit. refl }

  pub command_taken : (c : ℕ) → 1 ≤ c → c ≤ 3 → received_command l c ≡ quiet (with_command l c) (Size 0 0)
  unfolding received_command
  command_taken c least most =
      let some : c ≡ 0 → ⊥ = omega (arith, least) in
      when_false _ _ (ne_eqb c 0 some) ∙ when_false _ _ (le-ltb 3 c most)

  pub command_0_shuts : received_command l 0 ≡ shutting l
  unfolding received_command when
  command_0_shuts = refl

  pub size_taken : (n : ℕ) → 1 ≤ n → n ≤ 8192 → received_size l n ≡ quiet (with_size l n) (Long 0 (record { 0 = 0 }) 0)
  unfolding received_size
  size_taken n least most =
      let some : n ≡ 0 → ⊥ = omega (arith, least) in
      when_false _ _ (ne_eqb n 0 some) ∙ when_false _ _ (le-ltb 8192 n most)

  pub long_taken : (k v : ℕ) → k + 1 < l.size.0
      → received_long l (record { 0 = k }) v ≡ led l (Long 0 (record { 0 = k + 1 }) 0) (Store (record { 0 = k }) v) Silence
  unfolding received_long
  long_taken k v h = when_true _ _ (lt-ltb _ _ h)

  pub last_taken : (k v : ℕ) → l.size.0 ≤ k + 1
      → received_long l (record { 0 = k }) v ≡ led l (Align Stored) (Finish (record { 0 = k }) v) Silence
  unfolding received_long
  last_taken k v h = when_false _ _ (le-ltb _ _ h)
