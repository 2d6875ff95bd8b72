-- The bits of a byte are pulses of a session, all lent and told the same, that lead from where it is filled to where it is left.
-- Assumes nothing.
use mathlib.Core.Bool.{Bool, false}
use mathlib.Core.List.{List}
use mathlib.Core.Path.{◌≡◌, sym, subst}
use Prim.Native.Nat.{ℕ, ◌+◌, ◌≤◌}
use native.Mathlib.Omega.{arith}
use lib.ListN.{length, replicate}
use Rattle.load.specs.Load.{other_image}
use Rattle.load.specs.declared.Load.{Load}
use Rattle.follow.proofs.Stands.{Stands, onward_stands}
use Rattle.place.specs.declared.Place.{Place}
use Rattle.packing.proofs.Phases.{plain}
use Rattle.packing.proofs.Walks.{Walks, stays, walks}
use Rattle.serial.proofs.Places.{bits_onward}
use Rattle.spelling.specs.Spelling.{Told}
use Rattle.spelling.proofs.Bytes.{bytes_at, bit_grows}
use Rattle.spelling.proofs.Says.{Says, said, says}

module _ (load : Load) (t : Told) (lends : other_image load t.image ≡ false) where
  pub walks_say : (p q : Place) (bits : List Bool) → Walks load t.image p bits q → Says load p (replicate (length bits) t) bits q
  walks_say p _ _ (stays _) = said p
  walks_say p q _ (walks _ bits _ on way) =
      let here = plain p.phase on in
      says p t (replicate (length bits) t) bits q here.on lends
      (subst (λ (r : Place). Says load r (replicate (length bits) t) bits q) (sym (bits_onward load p.phase p.index t.seen here.bits))
      (walks_say _ q bits way))

  -- Each is one byte at most.
  pub walks_grow : (1 ≤ load.command → 16 ≤ load.length.0) → (k : ℕ) (p q : Place) (bits : List Bool) → Walks load t.image p bits q
      → Stands load k p → bytes_at load p.phase p.index + length bits ≤ bytes_at load q.phase q.index
  walks_grow long k p _ _ (stays _) s = omega arith
  walks_grow long k p q _ (walks _ bits _ on way) s =
      let here = plain p.phase on in
      let one = bit_grows load p.phase p.index here.bits here.on s.short in
      let rest = walks_grow long (k + 1) _ q bits way (onward_stands load long k p.index p.phase here.on s) in
      omega (arith, one, rest)
