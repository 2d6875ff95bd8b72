-- Lists of bits, each of at most ten bit times: where no list has room for the next one's first bit, no other such lists of the same bits
-- are fewer. Any byte's bits are such a list.
-- Assumes nothing.
use mathlib.Core.Bool.{Bool, true, false}
use mathlib.Core.List.{List, [], ◌∷◌, ◌++◌, map, append_assoc}
use mathlib.Core.Path.{◌≡◌, refl, sym, ap, ap₂, ◌∙◌}
use Prim.Native.Nat.{ℕ, zero, suc, ◌+◌, ◌≤◌, ◌<◌}
use native.Mathlib.Omega.{arith}
use lib.Dec.{eqb}
use lib.ListN.{length, length-append}
use Rattle.terms.specs.Choice.{when}
use Rattle.terms.proofs.Tests.{when_elim}
use Rattle.frames.specs.Frames.{width}
use Rattle.frames.specs.LowRuns.{levels, runs, low_runs, run}
use Rattle.frames.specs.Spells.{widths}
use Rattle.packing.specs.Fewest.{runs_in}

unfoldable pub cat : List (List Bool) → List Bool
cat [] = []
cat (c ∷ cs) = c ++ cat cs

unfoldable AllFit : List (List Bool) → Type 0
AllFit [] = Unit {0}
AllFit (c ∷ cs) = (widths c ≤ 10) × AllFit cs

-- None is empty, and none has room for the next one's first bit.
pub data Tight : List (List Bool) → Type 0 where
  nothing : Tight []
  last : (b : Bool) (c : List Bool) → Tight ((b ∷ c) ∷ [])
  full : (b : Bool) (c : List Bool) (d : Bool) (e : List Bool) (cs : List (List Bool)) → 10 < widths (b ∷ c) + width d
      → Tight ((d ∷ e) ∷ cs) → Tight ((b ∷ c) ∷ (d ∷ e) ∷ cs)

-- Two ways to cut one list.
data Cut (d rest x y : List Bool) : Type 0 where
  within : (e : List Bool) → rest ≡ e ++ y → Cut d rest x y
  beyond : (b : Bool) (e : List Bool) → d ≡ x ++ (b ∷ e) → y ≡ b ∷ (e ++ rest) → Cut d rest x y

abbrev head_of {ℓ} : {A : Type ℓ} → A → List A → A
head_of a [] = a
head_of a (x ∷ xs) = x

abbrev tail_of {ℓ} : {A : Type ℓ} → List A → List A
tail_of [] = []
tail_of (x ∷ xs) = xs

cut_more : (b a : Bool) (d rest x y : List Bool) → b ≡ a → Cut d rest x y → Cut (b ∷ d) rest (a ∷ x) y
cut_more b a d rest x y same (within e q) = within e q
cut_more b a d rest x y same (beyond c e p q) = beyond c e (ap₂ (λ (h : Bool) (l : List Bool). h ∷ l) same p) q

cut : (d rest x y : List Bool) → d ++ rest ≡ x ++ y → Cut d rest x y
cut [] rest x y e = within x e
cut (b ∷ d) rest [] y e = beyond b d refl (sym e)
cut (b ∷ d) rest (a ∷ x) y e = cut_more b a d rest x y (ap (head_of b) e) (cut d rest x y (ap tail_of e))

pub widths_append : (x y : List Bool) → widths (x ++ y) ≡ widths x + widths y
unfolding widths
widths_append [] y = omega arith
widths_append (b ∷ x) y = omega (arith, widths_append x y)

not_nothing : (extra : List Bool) (b : Bool) (l : List Bool) → [] ≡ extra ++ (b ∷ l) → ⊥
not_nothing extra b l e =
    let sizes = ap length e in
    let all = length-append extra (b ∷ l) in
    omega (arith, sizes, all)

-- What is cut beyond is too wide.
too_wide : (extra c d e rest : List Bool) (h k : Bool) (cs : List Bool) → d ≡ (extra ++ c) ++ (h ∷ e) → k ∷ cs ≡ h ∷ rest
    → 10 < widths c + width k → widths d ≤ 10 → ⊥
unfolding widths
too_wide extra c d e rest h k cs p q w fit =
    let one = ap widths p in
    let two = widths_append (extra ++ c) (h ∷ e) in
    let three = widths_append extra c in
    let same : width k ≡ width h = ap (λ (l : List Bool). width (head_of h l)) q in
    omega (arith, one, two, three, same, w, fit)

by_cut : (extra : List Bool) (b : Bool) (c d : List Bool) (h : Bool) (k : List Bool) (ds cs : List (List Bool)) → 10 < widths (b ∷ c) + width h
    → widths d ≤ 10 → ((g : List Bool) → cat ds ≡ g ++ cat ((h ∷ k) ∷ cs) → suc (length cs) ≤ length ds)
    → Cut d (cat ds) (extra ++ (b ∷ c)) (cat ((h ∷ k) ∷ cs)) → suc (suc (length cs)) ≤ suc (length ds)
unfolding cat
by_cut extra b c d h k ds cs w fit rest (within g q) = let more = rest g q in omega (arith, more)
by_cut extra b c d h k ds cs w fit rest (beyond x g p q) = absurd (too_wide extra (b ∷ c) d g _ x h _ p q w fit)

-- Never behind: `extra` is what the others still have to send of what is sent already.
shorter : (extra : List Bool) (cs ds : List (List Bool)) → Tight cs → AllFit ds → cat ds ≡ extra ++ cat cs → length cs ≤ length ds
unfolding cat AllFit
shorter extra _ ds nothing f e = omega arith
shorter extra _ [] (last b c) f e = absurd (not_nothing extra b _ e)
shorter extra _ (d ∷ ds) (last b c) f e = omega arith
shorter extra _ [] (full b c h k cs w t) f e = absurd (not_nothing extra b _ e)
shorter extra _ (d ∷ ds) (full b c h k cs w t) f e =
    by_cut extra b c d h k ds cs w f.0 (λ g q. shorter g ((h ∷ k) ∷ cs) ds t f.1 q)
    (cut d (cat ds) (extra ++ (b ∷ c)) (cat ((h ∷ k) ∷ cs)) (e ∙ sym (append_assoc extra (b ∷ c) (cat ((h ∷ k) ∷ cs)))))

-- The bit times of some low runs, each with a high one after it. A byte has ten.
unfoldable span : List ℕ → ℕ
span [] = 0
span (n ∷ ns) = n + 1 + span ns

span_bits : (bits : List Bool) → span (map run bits) ≡ widths bits
unfolding span widths
span_bits [] = refl
span_bits (b ∷ bits) = omega (arith, span_bits bits)

-- Low ones among some levels that end in a high one, with n before them.
span_runs : (n : ℕ) (ls : List Bool) → span (runs n (ls ++ (true ∷ []))) ≤ n + length ls + 1
unfolding span runs when
span_runs n [] = when_elim (λ (l : List ℕ). span l ≤ n + 0 + 1) (eqb n 0) _ _ (λ e. omega arith) (λ e. omega arith)
span_runs n (true ∷ ls) =
    let more = span_runs 0 ls in
    when_elim (λ (l : List ℕ). span l ≤ n + suc (length ls) + 1) (eqb n 0) _ _ (λ e. omega (arith, more)) (λ e. omega (arith, more))
span_runs n (false ∷ ls) = let more = span_runs (n + 1) ls in omega (arith, more)

count_levels : (n byte : ℕ) → length (levels n byte) ≡ n
unfolding levels
count_levels zero byte = refl
count_levels (suc n) byte = ap suc (count_levels n _)

span_byte : (byte : ℕ) → span (low_runs byte) ≤ 10
unfolding low_runs
span_byte byte = let most = span_runs 0 (false ∷ levels 8 byte) in let eight = count_levels 8 byte in omega (arith, most, eight)

-- Bits cut where a byte ends.
record Split (xs ys : List ℕ) (bits : List Bool) : Type 0 where
  front : List Bool
  back : List Bool
  all : bits ≡ front ++ back
  fronts : xs ≡ map run front
  backs : ys ≡ map run back

split : (xs ys : List ℕ) (bits : List Bool) → xs ++ ys ≡ map run bits → Split xs ys bits
split [] ys bits e = record { front = []; back = bits; all = refl; fronts = refl; backs = e }
split (x ∷ xs) ys [] e = absurd (let sizes = ap length e in omega (arith, sizes))
split (x ∷ xs) ys (b ∷ bits) e =
    let rest = split xs ys bits (ap tail_of e) in
    record {
      front = b ∷ rest.front;
      back = rest.back;
      all = ap (λ (l : List Bool). b ∷ l) rest.all;
      fronts = ap₂ (λ (n : ℕ) (l : List ℕ). n ∷ l) (ap (head_of 0) e) rest.fronts;
      backs = rest.backs;
    }

record Others (bytes : List ℕ) (bits : List Bool) : Type 0 where
  lists : List (List Bool)
  count : length lists ≡ length bytes
  fit : AllFit lists
  all : cat lists ≡ bits

others : (bytes : List ℕ) (bits : List Bool) → runs_in bytes ≡ map run bits → Others bytes bits
unfolding runs_in AllFit cat
others [] [] e = record { lists = []; count = refl; fit = tt; all = refl }
others [] (b ∷ bits) e = absurd (let sizes = ap length e in omega (arith, sizes))
others (byte ∷ bytes) bits e =
    let parts = split (low_runs byte) (runs_in bytes) bits e in
    let rest = others bytes parts.back parts.backs in
    let wide : span (low_runs byte) ≡ widths parts.front = ap span parts.fronts ∙ span_bits parts.front in
    record {
      lists = parts.front ∷ rest.lists;
      count = ap suc rest.count;
      fit = (omega (arith, wide, span_byte byte), rest.fit);
      all = ap (λ (l : List Bool). parts.front ++ l) rest.all ∙ sym parts.all;
    }

-- No bytes that spell the same are fewer.
pub no_fewer : (cs : List (List Bool)) (bytes : List ℕ) → Tight cs → runs_in bytes ≡ map run (cat cs) → length cs ≤ length bytes
no_fewer cs bytes t e =
    let o = others bytes (cat cs) e in
    let least = shorter [] cs o.lists t o.fit o.all in
    omega (arith, least, o.count)
