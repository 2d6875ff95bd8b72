-- 02, "Three": "Writing then reading gives the same numbers"; and back.
-- Assumes nothing.
use Rattle.std.specs.Prelude.{true, List, ◌++◌, ◌≡◌, ℕ, ◌≤◌, length, take, drop}
use Rattle.std.proofs.Math.Pow.{are_bytes}
use Rattle.terms.specs.Refusals.{taken}
use Rattle.trace.specs.Traces.{file_of, left, writes}

pub record RoundTrip : Type 0 where
  -- What was written reads as the same numbers.
  pub written_read : (ns buffer : List ℕ) (n : ℕ) → (writes ns buffer).answer ≡ taken n → file_of (take n (writes ns buffer).buffer) ≡ taken ns
  -- A file that reads well is written again byte for byte, in every buffer that it fits.
  pub read_written : (trace : List ℕ) → are_bytes trace ≡ true → (ns : List ℕ) → file_of trace ≡ taken ns
      → (buffer : List ℕ) → length trace ≤ length buffer → writes ns buffer ≡ left (taken (length trace)) (trace ++ drop (length trace) buffer)
  -- So no two files read as the same numbers.
  pub one_file : (trace other : List ℕ) → are_bytes trace ≡ true → are_bytes other ≡ true → (ns : List ℕ)
      → file_of trace ≡ taken ns → file_of other ≡ taken ns → trace ≡ other
