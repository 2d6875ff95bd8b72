-- 01, "Worked checks": the table of what is proved of the definitions, under 01's names.
-- Assumes nothing.
use Rattle.std.specs.Prelude.{Bool, false, List, [], ◌∷◌, map, ◌≡◌, ℕ, zero, suc, ◌%◌, length, take, drop}
use Rattle.terms.specs.Choice.{when}
use Rattle.terms.specs.Refusals.{Answer, refused, taken}
use Rattle.host.specs.Step.{host_start, host_step}
use Rattle.host.specs.declared.Host.{Host}
use Rattle.host.specs.declared.Sent.{Sent}
use Rattle.lent.specs.Bytes.{word_at, total}
use Rattle.line.specs.Reading.{threshold_of, reads}
use Rattle.ram.specs.Ram.{flagged}
use Rattle.sequence.specs.Sequence.{state, handshake, connection}
use Rattle.units.specs.declared.Seen.TheVariants.{Silence}
use Rattle.checks.specs.Sample.{sample}

-- Bits as 01 writes them.
abbrev pub digits : List Bool → List ℕ
digits bits = map (λ (b : Bool). when b 1 0) bits

-- The edges of so many pulses, fall and rise by turns, where nothing is seen.
abbrev sent_edges : (Host → List ℕ) → Answer Sent → List ℕ
sent_edges rest (refused n) = []
sent_edges rest (taken s) = s.fall.0 ∷ s.rise.0 ∷ rest s.host

abbrev edges : ℕ → List ℕ → Host → List ℕ
edges zero image h = []
edges (suc n) image h = sent_edges (edges n image) (host_step h image Silence)

-- The same from a start.
abbrev pub start_edges : ℕ → List ℕ → Answer Host → List ℕ
start_edges n image (refused m) = []
start_edges n image (taken h) = edges n image h

pub record Checks : Type 0 where
  -- States 50 A1 42 85 0B.
  pub p1 : map state (0 ∷ 1 ∷ 2 ∷ 3 ∷ 4 ∷ []) ≡ 0x50 ∷ 0xA1 ∷ 0x42 ∷ 0x85 ∷ 0x0B ∷ []
  -- 8D then 1B: the states after 67 and 68 advances.
  pub p2 : map state (67 ∷ 68 ∷ []) ≡ 0x8D ∷ 0x1B ∷ []
  -- The handshake starts 0 1 0 1 1 1 0 0.
  pub p3 : digits (take 8 handshake) ≡ 0 ∷ 1 ∷ 0 ∷ 1 ∷ 1 ∷ 1 ∷ 0 ∷ 0 ∷ []
  -- The connection starts 0 1 0 0 0 0 1 0.
  pub p4 : digits (take 8 connection) ≡ 0 ∷ 1 ∷ 0 ∷ 0 ∷ 0 ∷ 0 ∷ 1 ∷ 0 ∷ []
  -- Lows 8, 17: threshold 12, 11 reads 1, 12 reads 0.
  pub p5 : threshold_of 8 17 ∷ digits (map (reads (threshold_of 8 17)) (11 ∷ 12 ∷ [])) ≡ 12 ∷ 1 ∷ 0 ∷ []
  -- Lows 0, 0: every low reads 0.
  pub p6 : (low : ℕ) → reads (threshold_of 0 0) low ≡ false
  -- S sums to 20 modulo 256.
  pub p7 : total sample % 256 ≡ 20
  -- t = h = 8,600 ns, p = 700,000 ps: the first edges at ticks 0, 12, 24, 49, 61.
  pub p8 : take 5 (start_edges 3 sample (host_start 8600 8600 700000 1 sample)) ≡ 0 ∷ 12 ∷ 24 ∷ 49 ∷ 61 ∷ []
  -- D = 4 stores at 0 and nowhere else.
  pub p9 : (ram : List ℕ) → length ram ≡ 32768 → word_at ram 10 ≡ 4 → flagged ram ≡ 0xFF ∷ 0xFF ∷ 0xF9 ∷ 0xFF ∷ drop 4 ram
  -- D = 0 stores nothing.
  pub p10 : (ram : List ℕ) → length ram ≡ 32768 → word_at ram 10 ≡ 0 → flagged ram ≡ ram
