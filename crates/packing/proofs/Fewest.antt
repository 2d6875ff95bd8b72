-- A run is filled to its end: each byte leaves fewer bits of it, and has no room for the next byte's first one.
-- Assumes nothing.
use mathlib.Core.Bool.{Bool, true, false}
use mathlib.Core.List.{List, [], ◌∷◌, ◌++◌, map, map-append}
use mathlib.Core.Path.{◌≡◌, refl, sym, ap, ap₂, ◌∙◌, subst}
use Prim.Native.Nat.{ℕ, zero, suc, ◌+◌, ◌-◌, ◌≤◌, ◌<◌}
use native.Mathlib.Nat.{zero-add}
use native.Mathlib.Omega.{arith}
use lib.Dec.{eqb}
use lib.ListN.{length}
use borrow.Author.Tests.{lt-ltb, le-ltb, eqb-false}
use Rattle.terms.proofs.Tests.{when_true, when_false, when_elim}
use Rattle.load.specs.declared.Load.{Load}
use Rattle.load.proofs.Within.{load_within}
use Rattle.follow.specs.Follow.{opened, after, after_command, onward}
use Rattle.place.specs.Phases.{places, image_pulses}
use Rattle.place.specs.declared.Ending.TheVariants.{Done, WrongVersion}
use Rattle.place.specs.declared.Acknowledgement.TheVariants.{Ram}
use Rattle.place.specs.declared.Phase.{Phase}
use Rattle.place.specs.declared.Phase.TheVariants.{Handshake, Connection, Command, Zeros, Size, Image, Wait, Ended}
use Rattle.place.specs.declared.Place.{Place}
use Rattle.frames.specs.Frames.{width, byte_of}
use Rattle.frames.specs.LowRuns.{low_runs, run}
use Rattle.frames.specs.Spells.{widths}
use Rattle.packing.specs.Phases.{in_bits}
use Rattle.packing.specs.Runs.{bits_from, bits_of, Run, handshake, command, zeros}
use Rattle.packing.specs.Fewest.{runs_in, Bytes, filled_at, Fills, done, fills, EveryRunPacked}
use Rattle.packing.specs.declared.Packing.TheVariants.{Fewest}
use Rattle.packing.proofs.Full.{whole_byte, full_byte}
use Rattle.packing.proofs.Shortest.{cat, Tight, nothing, last, full, no_fewer}
use Rattle.packing.proofs.Walks.{bit_at, Walks, stays, walks, walks_append, one_way, left, way_shrinks}

module _ (load : Load) (image : List ℕ) where
  -- The bytes from a place to the run's end.
  record Chain (p : Place) : Type 0 where
    bytes : List ℕ
    end : Place
    filled : Fills load image p bytes end
    over : in_bits end.phase ≡ false
    are : Bytes bytes
    lists : List (List Bool)
    tight : Tight lists
    count : length lists ≡ length bytes
    runs : runs_in bytes ≡ map run (cat lists)
    way : Walks load image p (cat lists) end

  abbrev Room : List Bool → Place → Type 0
  Room c q = in_bits q.phase ≡ true → 10 < widths c + width (bit_at load image q)

  -- The next byte's first bit is the next place's.
  next_first : (c : List Bool) (q r : Place) (d : Bool) (rest : List Bool) → Walks load image q (d ∷ rest) r → Room c q → 10 < widths c + width d
  next_first c q r _ rest (walks _ _ _ on way) room = room on

  put : (b : Bool) (c : List Bool) (q r : Place) (cs : List (List Bool)) → Tight cs → Walks load image q (cat cs) r → Room (b ∷ c) q → Tight ((b ∷ c) ∷ cs)
  unfolding cat
  put b c q r _ nothing way room = last b c
  put b c q r _ (last d e) way room = full b c d e [] (next_first (b ∷ c) q r d _ way room) (last d e)
  put b c q r _ (full d e g h cs w t) way room = full b c d e ((g ∷ h) ∷ cs) (next_first (b ∷ c) q r d _ way room) (full d e g h cs w t)

  put_some : (c : List Bool) (q r : Place) (cs : List (List Bool)) → 1 ≤ length c → Tight cs → Walks load image q (cat cs) r → Room c q → Tight (c ∷ cs)
  put_some [] q r cs some t way room = absurd (omega (arith, some))
  put_some (b ∷ c) q r cs some t way room = put b c q r cs t way room

  by_bits : (p : Place) → (in_bits p.phase ≡ true → Chain p) → (b : Bool) → in_bits p.phase ≡ b → Chain p
  unfolding runs_in cat Bytes
  by_bits p rest true e = rest e
  by_bits p rest false e = record {
    bytes = [];
    end = p;
    filled = done p;
    over = e;
    are = tt;
    lists = [];
    tight = nothing;
    count = refl;
    runs = refl;
    way = stays p;
  }

  one_more : (p : Place) (on : in_bits p.phase ≡ true) (bits : List Bool) → 1 ≤ length bits
      → low_runs (byte_of (filled_at load image p).frame.lows) ≡ map run bits → Walks load image p bits (filled_at load image p).place
      → Room bits (filled_at load image p).place → Chain (filled_at load image p).place → Chain p
  unfolding runs_in cat Bytes
  one_more p on bits some runs way room rest =
      let q = (filled_at load image p).place in
      record {
        bytes = byte_of (filled_at load image p).frame.lows ∷ rest.bytes;
        end = rest.end;
        filled = fills p rest.bytes rest.end on rest.filled;
        over = rest.over;
        are = (omega arith, rest.are);
        lists = bits ∷ rest.lists;
        tight = put_some bits q rest.end rest.lists some rest.tight rest.way room;
        count = ap suc rest.count;
        runs = ap₂ (λ (l m : List ℕ). l ++ m) runs rest.runs ∙ sym (map-append run bits (cat rest.lists));
        way = walks_append load image p q rest.end bits (cat rest.lists) way rest.way;
      }

  chain : (n : ℕ) (p : Place) → left load p.phase p.index < n → Chain p
  chain zero p h = absurd (omega (arith, h))
  chain (suc n) p h =
      by_bits p
      (λ on.
      let x = whole_byte Fewest load image p on in
      let less = way_shrinks load image p (filled_at load image p).place x.bits x.way in
      one_more p on x.bits x.some x.runs x.way (full_byte load image p on _ x)
      (chain n (filled_at load image p).place (omega (arith, h, less, x.some))))
      (in_bits p.phase) refl

  -- The bits of a phase.
  module _ (phase : Phase) (on : in_bits phase ≡ true) where
    phase_way : (n i : ℕ) → i + suc n ≡ places load phase
        → Walks load image (record { phase = phase; index = i }) (bits_from load image phase i (suc n)) (opened (after load phase))
    unfolding bits_from onward
    phase_way zero i e =
        walks (record { phase = phase; index = i }) [] (opened (after load phase)) on
        (subst (λ (q : Place). Walks load image q [] (opened (after load phase)))
        (sym (when_false _ _ (le-ltb (i + 1) (places load phase) (omega (arith, e))))) (stays (opened (after load phase))))
    phase_way (suc n) i e =
        walks (record { phase = phase; index = i }) (bits_from load image phase (i + 1) (suc n)) (opened (after load phase)) on
        (subst (λ (q : Place). Walks load image q (bits_from load image phase (i + 1) (suc n)) (opened (after load phase)))
        (sym (when_true _ _ (lt-ltb (i + 1) (places load phase) (omega (arith, e))))) (phase_way n (i + 1) (omega (arith, e))))

    all_way : (n : ℕ) → suc n ≡ places load phase → Walks load image (opened phase) (bits_of load image phase) (opened (after load phase))
    all_way n e =
        subst (λ (k : ℕ). Walks load image (opened phase) (bits_from load image phase 0 k) (opened (after load phase))) e
        (phase_way n 0 (zero-add (suc n) ∙ e))

  -- A run's bits lead out of it.
  record Out (first : Phase) (bits : List Bool) : Type 0 where
    end : Place
    way : Walks load image (opened first) bits end
    out : in_bits end.phase ≡ false

  module _ (long : 1 ≤ load.command → 16 ≤ load.length.0) where
    abbrev Whole : List Bool
    Whole = bits_of load image Command ++ (bits_of load image Size ++ bits_of load image Image)

    alone : eqb load.command 0 ≡ true → Out Command (bits_of load image Command)
    unfolding after_command
    alone e = record {
      end = opened (Ended Done);
      way = subst (λ (to : Phase). Walks load image (opened Command) (bits_of load image Command) (opened to)) (when_true _ _ e) (all_way Command refl 31 refl);
      out = refl;
    }

    loads : eqb load.command 0 ≡ false → Out Command Whole
    unfolding after_command
    loads e =
        let some = eqb-false load.command 0 e in
        let size = long (omega (arith, some)) in
        let pulses : suc (image_pulses load - 1) ≡ image_pulses load = omega (arith, size) in
        let one : Walks load image (opened Command) (bits_of load image Command) (opened Size) =
        subst (λ (to : Phase). Walks load image (opened Command) (bits_of load image Command) (opened to)) (when_false _ _ e) (all_way Command refl 31 refl) in
        let two = all_way Size refl 31 refl in
        let three = all_way Image refl (image_pulses load - 1) pulses in
        record {
          end = opened (Wait Ram);
          way = walks_append load image (opened Command) (opened Size) (opened (Wait Ram)) (bits_of load image Command)
              (bits_of load image Size ++ bits_of load image Image) one
              (walks_append load image (opened Size) (opened Image) (opened (Wait Ram)) (bits_of load image Size) (bits_of load image Image) two three);
          out = refl;
        }

    run_out : (first : Phase) (bits : List Bool) → Run load image first bits → Out first bits
    run_out _ _ handshake = record { end = opened Connection; way = all_way Handshake refl 249 refl; out = refl }
    run_out _ _ command = when_elim (Out Command) (eqb load.command 0) (bits_of load image Command) Whole alone loads
    run_out _ _ zeros = record { end = opened (Ended WrongVersion); way = all_way Zeros refl 31 refl; out = refl }

pub every_run_packed : EveryRunPacked
every_run_packed load image first bits within begins =
    let whole = chain load image (suc (left load first 0)) (opened first) (omega arith) in
    let out = run_out load image (load_within load within).long first bits begins in
    let same : cat whole.lists ≡ bits =
    one_way load image (opened first) whole.end out.end (cat whole.lists) bits whole.way out.way whole.over out.out in
    record {
      bytes = whole.bytes;
      left = whole.end;
      filled = whole.filled;
      over = whole.over;
      least = record {
        spells = record { are = whole.are; spell = whole.runs ∙ ap (map run) same };
        fewest = λ others spells.
            let least = no_fewer whole.lists others whole.tight (spells.spell ∙ ap (map run) (sym same)) in
            omega (arith, least, whole.count);
      };
    }
