-- One byte: its low runs are the pulses that lead from where it was filled to where what comes back for it leads.
-- Assumes nothing.
use mathlib.Core.Bool.{Bool, true, false}
use mathlib.Core.List.{List, [], ◌∷◌, map}
use mathlib.Core.Path.{◌≡◌, sym, ap, ap₂, ◌∙◌, subst}
use Prim.Native.Nat.{ℕ, suc, ◌+◌, ◌≤◌}
use native.Mathlib.Omega.{arith}
use lib.ListN.{length, replicate}
use Rattle.terms.proofs.Tests.{when_elim}
use Rattle.load.specs.Load.{other_image}
use Rattle.load.specs.declared.Load.{Load}
use Rattle.units.specs.declared.Seen.{Seen}
use Rattle.bits.specs.Bits.{sent_bit}
use Rattle.follow.specs.Follow.{onward, next}
use Rattle.follow.proofs.Stands.{Stands, onward_stands}
use Rattle.place.specs.Phases.{ended}
use Rattle.place.specs.declared.Phase.{Phase}
use Rattle.place.specs.declared.Place.{Place}
use Rattle.frames.specs.Frames.{byte_of}
use Rattle.frames.specs.LowRuns.{low_runs, run}
use Rattle.frames.specs.Spells.{laid, widths}
use Rattle.frames.proofs.Spells.{frame_spells}
use Rattle.packing.specs.Phases.{in_pairs}
use Rattle.packing.proofs.Full.{filled_byte}
use Rattle.packing.proofs.Phases.{in_bits_lem}
use Rattle.serial.specs.Phases.{pending}
use Rattle.packing.specs.Filling.{paired, filled, sent_at}
use Rattle.serial.specs.Replies.{resumed}
use Rattle.packing.specs.declared.Filling.{Filling}
use Rattle.packing.specs.declared.Packing.{Packing}
use Rattle.spelling.specs.Spelling.{Told}
use Rattle.spelling.proofs.Bytes.{bytes_at, pair_grows}
use Rattle.spelling.proofs.Fills.{walks_say, walks_grow}
use Rattle.serial.proofs.Places.{first_even, settled_first, after_first, pending_second, first_onward, first_next, pair_bits, resumed_here, resumed_past, walks_settled}
use Rattle.spelling.proofs.Says.{Says, said, says, says_stands}

module _ (packing : Packing) (load : Load) (long : 1 ≤ load.command → 16 ≤ load.length.0) (t : Told)
    (lends : other_image load t.image ≡ false) (phase : Phase) (i k : ℕ)
    (on : ended phase ≡ false) (settled : pending phase i ≡ false) (stands : Stands load k (record { phase = phase; index = i })) where
  abbrev here : Place
  here = record { phase = phase; index = i }

  -- A byte that carries pulses from here on.
  pub record Carries (f : Filling) : Type 0 where
    pub bits : List Bool
    pub some : 1 ≤ length bits
    pub runs : low_runs (byte_of f.frame.lows) ≡ map run bits
    pub sent : Says load here (replicate (length bits) t) bits (resumed load f.place.phase f.place.index t.seen)
    pub grows : suc (bytes_at load phase i)
        ≤ bytes_at load (resumed load f.place.phase f.place.index t.seen).phase (resumed load f.place.phase f.place.index t.seen).index
    pub count : ℕ
    pub inside : Stands load count f.place

  pair_carries : in_pairs phase ≡ true → Carries (paired load phase i)
  unfolding paired laid widths
  pair_carries p =
      let first = settled_first phase i p settled in
      let second = after_first i first in
      let there : Place = record { phase = phase; index = i + 1 } in
      let to : (s : Seen) → next load phase i s ≡ there = λ s. first_next load phase i s p first stands.short in
      let bit : sent_bit load t.image phase i ≡ true = pair_bits load t.image phase i p ∙ first in
      let bit2 : sent_bit load t.image phase (i + 1) ≡ false = pair_bits load t.image phase (i + 1) p ∙ second in
      let past : resumed load phase (i + 1) t.seen ≡ next load phase (i + 1) t.seen =
      resumed_past load phase (i + 1) t.seen (pending_second phase (i + 1) p second) in
      let end : next load phase (i + 1) t.seen ≡ resumed load (onward load phase i).phase (onward load phase i).index t.seen =
      sym past ∙ ap (λ (q : Place). resumed load q.phase q.index t.seen) (sym (to t.seen) ∙ first_onward load phase i t.seen first) in
      let one : Says load there (t ∷ []) (sent_bit load t.image phase (i + 1) ∷ []) (next load phase (i + 1) t.seen) =
      says there t [] [] _ on lends (said _) in
      let both : Says load here (t ∷ t ∷ []) (sent_bit load t.image phase i ∷ sent_bit load t.image phase (i + 1) ∷ []) (next load phase (i + 1) t.seen) =
      says here t (t ∷ []) (sent_bit load t.image phase (i + 1) ∷ []) (next load phase (i + 1) t.seen) on lends
      (subst (λ (q : Place). Says load q (t ∷ []) (sent_bit load t.image phase (i + 1) ∷ []) (next load phase (i + 1) t.seen)) (sym (to t.seen)) one) in
      let bits : sent_bit load t.image phase i ∷ sent_bit load t.image phase (i + 1) ∷ [] ≡ true ∷ false ∷ [] =
      ap₂ (λ (a b : Bool). a ∷ b ∷ []) bit bit2 in
      record {
        bits = true ∷ false ∷ [];
        some = omega arith;
        runs = frame_spells true (false ∷ []) (omega arith);
        sent = subst (Says load here (t ∷ t ∷ []) (true ∷ false ∷ [])) end
            (subst (λ (l : List Bool). Says load here (t ∷ t ∷ []) l (next load phase (i + 1) t.seen)) bits both);
        grows = subst (λ (q : Place). suc (bytes_at load phase i) ≤ bytes_at load q.phase q.index) end
            (pair_grows load i (first_even i first) phase t.seen p second stands.short);
        count = k + 1;
        inside = onward_stands load long k i phase on stands;
      }

  run_carries : in_pairs phase ≡ false → Carries (filled packing load t.image here)
  run_carries p =
      let f = filled packing load t.image here in
      let x = filled_byte packing load t.image here (in_bits_lem phase (record { bits = p; on = on })) in
      let sent = walks_say load t lends here f.place x.bits x.way in
      let grows = walks_grow load t lends long k here f.place x.bits x.way stands in
      let left = walks_settled load t.image here f.place x.bits x.way settled in
      let there = sym (resumed_here load f.place.phase f.place.index t.seen left) in
      record {
        bits = x.bits;
        some = x.some;
        runs = x.runs;
        sent = subst (Says load here (replicate (length x.bits) t) x.bits) there sent;
        grows = subst (λ (q : Place). suc (bytes_at load phase i) ≤ bytes_at load q.phase q.index) there (omega (arith, grows, x.some));
        count = k + length (replicate (length x.bits) t);
        inside = says_stands load long k here f.place _ x.bits sent stands;
      }

  pub byte_carries : Carries (sent_at packing load t.image phase i)
  unfolding sent_at
  byte_carries = when_elim Carries (in_pairs phase) _ _ pair_carries run_carries
