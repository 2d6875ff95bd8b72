-- Laws of the sum of bytes.
-- Assumes nothing.
use Rattle.std.proofs.Common.{◌≡◌, ℕ, zero, suc, ◌+◌, ◌%◌, List, [], ◌∷◌, ◌++◌, fold, replicate, sym, refl, ap, ◌∙◌, add-zero, add_assoc, zero-add}
use native.Mathlib.Nat.{zero-mod, mod-add-mod}
use Rattle.lent.specs.Bytes.{total}

pub total_append : (a b : List ℕ) → total (a ++ b) ≡ total a + total b
unfolding total
total_append [] b = sym (zero-add (total b))
total_append (x ∷ a) b = ap (λ (n : ℕ). x + n) (total_append a b) ∙ sym (add_assoc x (total a) (total b))

pub total_zeros : (n : ℕ) → total (replicate n 0) ≡ 0
unfolding total
total_zeros zero = refl
total_zeros (suc n) = zero-add _ ∙ total_zeros n

-- Byte after byte added, modulo m, to a number.
added : (m a : ℕ) (bytes : List ℕ) → fold (λ sum byte. (sum + byte) % m) (a % m) bytes ≡ (a + total bytes) % m
unfolding total
added m a [] = rw add-zero refl
added m a (x ∷ bytes) =
    rw (mod-add-mod a m x) (added m (a + x) bytes ∙ ap (λ n. n % m) (add_assoc a x (total bytes)))

pub added_all : (m : ℕ) (bytes : List ℕ) → fold (λ sum byte. (sum + byte) % m) 0 bytes ≡ total bytes % m
added_all m bytes =
    let e = added m 0 bytes in
    rw (zero-mod, zero-add) at e
