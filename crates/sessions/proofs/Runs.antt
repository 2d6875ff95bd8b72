-- Each phase's ticks are the difference of the ticks at which it and the next one begin: what the phases before one have got is where it
-- begins. Numbers alone: no phase has a name here, and no host is met.
-- Assumes nothing.
use mathlib.Core.Bool.{Bool, true, false}
use mathlib.Core.Path.{◌≡◌, refl, sym, ap, ◌∙◌}
use Prim.Native.Nat.{ℕ, zero, suc, ◌+◌, ◌-◌, ◌≤◌, ◌<◌}
use native.Mathlib.Omega.{arith}
use lib.Dec.{ltb, eqb}
use borrow.Author.Tests.{ltb-true, ltb-false, eqb-true, eqb-false, lt-ltb, le-ltb}
use Rattle.terms.specs.Choice.{when}
use Rattle.terms.proofs.Tests.{when_true, when_false, when_elim}
use Rattle.ticks.proofs.Sums.{share, share_all, share_none}
use Rattle.sessions.specs.Phases.{calls_before, last_rise, stamp}

-- What the phases before q get of ticks that one of them, or another, holds.
abbrev portion : ℕ → ℕ → ℕ → ℕ
portion q holder x = when (ltb holder q) x 0

module _ (q holder x : ℕ) where
  portion_all : holder < q → portion q holder x ≡ x
  portion_all h = when_true _ _ (lt-ltb holder q h)

  portion_none : q ≤ holder → portion q holder x ≡ 0
  portion_none h = when_false _ _ (le-ltb holder q h)

portion_more : (q holder x : ℕ) → portion (suc q) holder x ≡ portion q holder x + share q holder x
portion_more q holder x = decide (ltb holder q) refl (eqb q holder) refl where
  decide : (b : Bool) → ltb holder q ≡ b → (d : Bool) → eqb q holder ≡ d → portion (suc q) holder x ≡ portion q holder x + share q holder x
  decide true e d f =
      let h = ltb-true holder q e in
      let none = share_none q holder x (λ z. omega (arith, h, z)) in
      omega (arith, none, portion_all q holder x h, portion_all (suc q) holder x (omega (arith, h)))
  decide false e true f =
      let h = eqb-true q holder f in
      let all = share_all q holder x h in
      omega (arith, all, portion_none q holder x (omega (arith, h)), portion_all (suc q) holder x (omega (arith, h)))
  decide false e false f =
      let h = ltb-false holder q e in
      let other = eqb-false q holder f in
      let none = share_none q holder x other in
      omega (arith, none, portion_none q holder x h, portion_none (suc q) holder x (omega (arith, h, other)))

-- The ticks of the phases before q.
unfoldable below : (ℕ → ℕ) → ℕ → ℕ
below ticks zero = 0
below ticks (suc q) = below ticks q + ticks q

below_none : (ticks : ℕ → ℕ) → ((q : ℕ) → ticks q ≡ 0) → (q : ℕ) → below ticks q ≡ 0
unfolding below
below_none ticks none zero = refl
below_none ticks none (suc q) = omega (arith, below_none ticks none q, none q)

below_more : (ticks more : ℕ → ℕ) (h x o y : ℕ) → ((q : ℕ) → more q ≡ ticks q + share q h x + share q o y)
    → (q : ℕ) → below more q ≡ below ticks q + portion q h x + portion q o y
unfolding below
below_more ticks more h x o y adds zero =
    omega (arith, portion_none 0 h x (omega arith), portion_none 0 o y (omega arith))
below_more ticks more h x o y adds (suc q) =
    omega (arith, below_more ticks more h x o y adds q, adds q, portion_more q h x, portion_more q o y)

-- How many calls stood in phases before q.
module _ (phase : ℕ → ℕ) where
  call_counts : (k q : ℕ) → phase k < q → calls_before phase (suc k) q ≡ suc (calls_before phase k q)
  unfolding calls_before
  call_counts k q h = omega (arith, when_true {A = ℕ} 1 0 (lt-ltb (phase k) q h))

  call_passes : (k q : ℕ) → q ≤ phase k → calls_before phase (suc k) q ≡ calls_before phase k q
  unfolding calls_before
  call_passes k q h = omega (arith, when_false {A = ℕ} 1 0 (le-ltb (phase k) q h))

  before_most : (k q : ℕ) → calls_before phase k q ≤ k
  unfolding calls_before
  before_most zero q = omega arith
  before_most (suc k) q =
      when_elim (λ (x : ℕ). calls_before phase k q + x ≤ suc k) (ltb (phase k) q) 1 0
      (λ e. omega (arith, before_most k q)) (λ e. omega (arith, before_most k q))

  -- All of them, where phases don't go back and the last stands before q.
  before_all : (k q : ℕ) → ((l : ℕ) → l < k → phase l ≤ phase (suc l)) → phase k < q → calls_before phase (suc k) q ≡ suc k
  unfolding calls_before
  before_all zero q on h = call_counts zero q h
  before_all (suc k) q on h =
      let rest = before_all k q (λ l b. on l (omega (arith, b))) (omega (arith, on k (omega arith), h)) in
      omega (arith, call_counts (suc k) q h, rest)

module _ (fall rise : ℕ → ℕ) where
  stamp_fall : (n k : ℕ) → k < n → stamp fall rise n k ≡ fall k
  unfolding stamp
  stamp_fall n k h = when_true _ _ (lt-ltb k n h)

  stamp_last : (n k : ℕ) → n ≤ k → stamp fall rise n k ≡ last_rise rise n
  unfolding stamp
  stamp_last n k h = when_false _ _ (le-ltb k n h)

-- Call n adds to the ticks of the phases what its pulse takes: the ticks since the last rise to `holder n`, those of its low to its own.
pub record Adds (phase holder fall rise : ℕ → ℕ) (ticks : ℕ → ℕ → ℕ) (n : ℕ) : Type 0 where
  pub adds : (q : ℕ) → ticks (suc n) q
      ≡ ticks n q + share q (holder n) (fall n - last_rise rise n) + share q (phase n) (rise n - fall n)

-- What comes before the next call's fall is of this call's phase, and phases don't go back.
pub record Keeps (phase holder : ℕ → ℕ) (n : ℕ) : Type 0 where
  pub held : holder (suc n) ≡ phase n
  pub onwards : phase n ≤ phase (suc n)

module _ (phase holder fall rise : ℕ → ℕ) (ticks : ℕ → ℕ → ℕ) (first_fall : fall 0 ≡ 0) (first_ticks : (q : ℕ) → ticks 0 q ≡ 0)
    (up : (k : ℕ) → fall k ≤ rise k) (down : (k : ℕ) → rise k ≤ fall (suc k)) where
  -- Where phase q begins, as it is known before call n.
  abbrev begins : ℕ → ℕ → ℕ
  begins n q = stamp fall rise n (calls_before phase n q)

  abbrev Begun : ℕ → Type 0
  Begun n = (q : ℕ) → below (ticks n) q ≡ begins n q

  -- Where all calls before call n stood in phases before q, that is the last rise.
  all_before : (n q : ℕ) → calls_before phase n q ≡ n → begins n q ≡ last_rise rise n
  all_before n q e = ap (stamp fall rise n) e ∙ stamp_last fall rise n n (omega arith)

  -- Call k is the first of phase q or of a later one, and came before call n.
  first_of : (n k q : ℕ) → calls_before phase n q ≡ k → k < n → begins n q ≡ fall k
  first_of n k q e h = ap (stamp fall rise n) e ∙ stamp_fall fall rise n k h

  module _ (n : ℕ) (adds : Adds phase holder fall rise ticks n) (q : ℕ) where
    after : below (ticks (suc n)) q
        ≡ below (ticks n) q + portion q (holder n) (fall n - last_rise rise n) + portion q (phase n) (rise n - fall n)
    after = below_more (ticks n) (ticks (suc n)) _ _ _ _ adds.adds q

  -- The first call.
  begun_first : Adds phase holder fall rise ticks 0 → Begun 1
  unfolding calls_before
  begun_first adds q = decide (ltb (phase 0) q) refl where
    nothing : portion q (holder 0) (fall 0 - last_rise rise 0) ≡ 0
    nothing = when_elim (λ (x : ℕ). x ≡ 0) (ltb (holder 0) q) (fall 0 - last_rise rise 0) 0 (λ e. omega (arith, first_fall)) (λ e. refl)

    got : below (ticks 1) q ≡ portion q (phase 0) (rise 0 - fall 0)
    got = omega (arith, after 0 adds q, below_none (ticks 0) first_ticks q, nothing)

    decide : (b : Bool) → ltb (phase 0) q ≡ b → below (ticks 1) q ≡ begins 1 q
    decide true e =
        let h = ltb-true (phase 0) q e in
        omega (arith, got, portion_all q (phase 0) (rise 0 - fall 0) h, first_fall, all_before 1 q (call_counts phase 0 q h))
    decide false e =
        let h = ltb-false (phase 0) q e in
        omega (arith, got, portion_none q (phase 0) (rise 0 - fall 0) h, first_fall, first_of 1 0 q (call_passes phase 0 q h) (omega arith))

  -- A call after call m.
  module _ (m : ℕ) (adds : Adds phase holder fall rise ticks (suc m)) (keeps : Keeps phase holder m)
      (on : (l : ℕ) → l < m → phase l ≤ phase (suc l)) (begun : Begun (suc m)) (q : ℕ) where
    abbrev n : ℕ
    n = suc m

    abbrev Next : Type 0
    Next = below (ticks (suc n)) q ≡ begins (suc n) q

    -- Both stand before q, call m alone, or neither.
    past : phase n < q → Next
    past h =
        let before : phase m < q = omega (arith, h, keeps.onwards) in
        let all = before_all phase m q on before in
        omega (
          arith,
          after n adds q,
          begun q,
          all_before n q all,
          down m,
          up n,
          portion_all q (holder n) (fall n - rise m) (omega (arith, keeps.held, before)),
          portion_all q (phase n) (rise n - fall n) h,
          all_before (suc n) q (omega (arith, call_counts phase n q h, all)),
        )

    opens : q ≤ phase n → phase m < q → Next
    opens h before =
        let all = before_all phase m q on before in
        omega (
          arith,
          after n adds q,
          begun q,
          all_before n q all,
          down m,
          portion_all q (holder n) (fall n - rise m) (omega (arith, keeps.held, before)),
          portion_none q (phase n) (rise n - fall n) h,
          first_of (suc n) n q (omega (arith, call_passes phase n q h, all)) (omega arith),
        )

    stays : q ≤ phase n → q ≤ phase m → Next
    stays h before =
        let first = calls_before phase m q in
        let early = before_most phase m q in
        let passed = call_passes phase m q before in
        omega (
          arith,
          after n adds q,
          begun q,
          portion_none q (holder n) (fall n - rise m) (omega (arith, keeps.held, before)),
          portion_none q (phase n) (rise n - fall n) h,
          first_of n first q passed (omega (arith, early)),
          first_of (suc n) first q (call_passes phase n q h ∙ passed) (omega (arith, early)),
        )

    begun_next : Next
    begun_next = decide (ltb (phase n) q) refl (ltb (phase m) q) refl where
      decide : (b : Bool) → ltb (phase n) q ≡ b → (d : Bool) → ltb (phase m) q ≡ d → Next
      decide true e d f = past (ltb-true (phase n) q e)
      decide false e true f = opens (ltb-false (phase n) q e) (ltb-true (phase m) q f)
      decide false e false f = stays (ltb-false (phase n) q e) (ltb-false (phase m) q f)

  begun_all : (n : ℕ) → ((k : ℕ) → suc k < n → Keeps phase holder k) → ((k : ℕ) → k < n → Adds phase holder fall rise ticks k) → Begun n
  unfolding calls_before
  begun_all zero on adds = λ q. below_none (ticks 0) first_ticks q ∙ sym (all_before 0 q refl)
  begun_all (suc zero) on adds = begun_first (adds 0 (omega arith))
  begun_all (suc (suc m)) on adds =
      begun_next m (adds (suc m) (omega arith)) (on m (omega arith)) (λ l b. (on l (omega (arith, b))).onwards)
      (begun_all (suc m) (λ k b. on k (omega (arith, b))) (λ k b. adds k (omega (arith, b))))

  -- A phase runs from where it begins to where the next one does.
  pub runs : (n : ℕ) → ((k : ℕ) → suc k < n → Keeps phase holder k) → ((k : ℕ) → k < n → Adds phase holder fall rise ticks k)
      → (q : ℕ) → begins n q + ticks n q ≡ begins n (suc q)
  unfolding below
  runs n on adds q = let begun = begun_all n on adds in omega (arith, begun q, begun (suc q))

-- A phase in which no call stood begins where the next one does.
pub none_before : (phase : ℕ → ℕ) (n q : ℕ) → ((k : ℕ) → k < n → phase k ≡ q → ⊥) → calls_before phase n (suc q) ≡ calls_before phase n q
unfolding calls_before
none_before phase zero q none = refl
none_before phase (suc n) q none = decide (none_before phase n q (λ k h. none k (omega (arith, h)))) (ltb (phase n) q) refl where
  decide : calls_before phase n (suc q) ≡ calls_before phase n q → (b : Bool) → ltb (phase n) q ≡ b
      → calls_before phase (suc n) (suc q) ≡ calls_before phase (suc n) q
  decide rest true e =
      let h = ltb-true (phase n) q e in
      omega (arith, rest, call_counts phase n q h, call_counts phase n (suc q) (omega (arith, h)))
  decide rest false e =
      let h = ltb-false (phase n) q e in
      let other = none n (omega arith) in
      omega (arith, rest, call_passes phase n q h, call_passes phase n (suc q) (omega (arith, h, other)))
