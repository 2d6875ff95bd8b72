-- Pulses of a session one after the other, from a place to a place; they are those that 01 spells.
-- Assumes nothing.
use mathlib.Core.Bool.{Bool, true, false, true≢false}
use mathlib.Core.List.{List, [], ◌∷◌, ◌++◌, map}
use mathlib.Core.Path.{◌≡◌, refl, sym, ap, ap₂, ◌∙◌, subst}
use Prim.Native.Nat.{ℕ, suc, ◌+◌, ◌≤◌}
use native.Mathlib.Nat.{add-zero}
use native.Mathlib.Omega.{arith}
use lib.ListN.{length, get_or, drop}
use lib.Seq.{get_or-drop, drop-drop}
use Rattle.terms.specs.Refusals.{taken}
use Rattle.terms.proofs.Refusals.{clear_taken}
use Rattle.load.specs.Load.{other_image}
use Rattle.load.specs.declared.Load.{Load}
use Rattle.units.specs.declared.Seen.{Seen}
use Rattle.bits.specs.Bits.{sent_bit}
use Rattle.follow.specs.Follow.{opened, next}
use Rattle.follow.proofs.Stands.{Stands, next_stands}
use Rattle.place.specs.Phases.{ended}
use Rattle.place.specs.declared.Ending.{Ending}
use Rattle.place.specs.declared.Phase.TheVariants.{Ended}
use Rattle.place.specs.declared.Place.{Place}
use Rattle.session.specs.Step.{step_rows, pulse_of, session_step}
use Rattle.session.specs.declared.Pulse.{Pulse}
use Rattle.session.specs.declared.Session.{Session}
use Rattle.session.proofs.Kept.{step_keeps}
use Rattle.session.proofs.Within.{Within, session_within}
use Rattle.sessions.specs.Spelled.{Mark}
use Rattle.sessions.proofs.Follows.{Follows, stops, goes_on}
use Rattle.spelling.specs.Spelling.{Told, none, Steps, stands, steps}

-- From a place on, pulses that are lent and told so send these bits, and lead to a place.
pub data Says (load : Load) : Place → List Told → List Bool → Place → Type 0 where
  said : (p : Place) → Says load p [] [] p
  says : (p : Place) (t : Told) (ts : List Told) (bits : List Bool) (q : Place) → ended p.phase ≡ false
      → other_image load t.image ≡ false → Says load (next load p.phase p.index t.seen) ts bits q
      → Says load p (t ∷ ts) (sent_bit load t.image p.phase p.index ∷ bits) q

module _ (load : Load) where
  pub says_append : (p q r : Place) (ts us : List Told) (bits more : List Bool) → Says load p ts bits q → Says load q us more r
      → Says load p (ts ++ us) (bits ++ more) r
  says_append p _ r _ us _ more (said _) rest = rest
  says_append p q r _ us _ more (says _ t ts bits _ on lends first) rest =
      says p t (ts ++ us) (bits ++ more) r on lends (says_append _ q r ts us bits more first rest)

  -- They keep a place in its range, and count.
  pub says_stands : (1 ≤ load.command → 16 ≤ load.length.0) → (k : ℕ) (p q : Place) (ts : List Told) (bits : List Bool)
      → Says load p ts bits q → Stands load k p → Stands load (k + length ts) q
  says_stands long k p _ _ _ (said _) s = subst (λ (n : ℕ). Stands load n p) (sym (add-zero k)) s
  says_stands long k p q _ _ (says _ t ts bits _ on lends first) s =
      let next = next_stands load long k p.index p.phase t.seen on s in
      let count : k + 1 + length ts ≡ k + suc (length ts) = omega arith in
      subst (λ (n : ℕ). Stands load n q) count (says_stands long (k + 1) _ q ts bits first next)

-- They are steps of a session that stands at the first place.
pub record Stepped (s : Session) (ts : List Told) (bits : List Bool) (q : Place) : Type 0 where
  pub left : Session
  pub session : Steps s ts bits left
  pub there : left.place ≡ q

module _ (load : Load) where
  abbrev at : Place → ℕ → ℕ → ℕ → Session
  at p pulses ones zeros = record { load = load; place = p; pulses = pulses; ones = ones; zeros = zeros }

  pub says_steps : (p q : Place) (ts : List Told) (bits : List Bool) → Says load p ts bits q → (k a b : ℕ) → Within (at p k a b)
      → Stepped (at p k a b) ts bits q
  unfolding session_step
  says_steps p _ _ _ (said _) k a b w = record { left = at p k a b; session = stands (at p k a b); there = refl }
  says_steps p q _ _ (says _ t ts bits _ on lends first) k a b w =
      let s = at p k a b in
      let pulse : Pulse = pulse_of s t.image t.seen in
      let e : session_step s t.image t.seen ≡ taken pulse =
      clear_taken pulse (step_rows s t.image) ((session_within s).1 w, (on, (lends, tt))) in
      let rest = says_steps _ q ts bits first pulse.session.pulses pulse.session.ones pulse.session.zeros
      (step_keeps s t.image t.seen pulse e) in
      record { left = rest.left; session = steps s t ts pulse bits rest.left e rest.session; there = rest.there }

-- What stands at a place of a list, and after it.
module _ (all : List Told) (n : ℕ) (t : Told) (ts : List Told) (e : drop n all ≡ t ∷ ts) where
  stands_there : get_or all n none ≡ t
  stands_there = ap (λ (k : ℕ). get_or all k none) (sym (add-zero n)) ∙ sym (get_or-drop n all 0 none) ∙ ap (λ (l : List Told). get_or l 0 none) e

  stands_after : drop (n + 1) all ≡ ts
  stands_after = sym (drop-drop 1 n all) ∙ ap (drop 1) e

-- Pulses that end a session are those that follow, each lent and told what stands at its number.
module _ (load : Load) (all : List Told) where
  abbrev pub lent_at : ℕ → List ℕ
  lent_at k = (get_or all k none).image

  abbrev pub seen_at : ℕ → Seen
  seen_at k = (get_or all k none).seen

  abbrev Same : List Bool → Place → List Mark → Ending → Type 0
  Same bits q marks e = (bits ≡ map (λ (m : Mark). m.bit) marks) × (q ≡ opened (Ended e))

  over_same : (n : ℕ) (p : Place) (marks : List Mark) (e : Ending) → Follows load lent_at seen_at n p marks e → ended p.phase ≡ true
      → Same [] p marks e
  over_same n _ _ e (stops _ _) over = (refl, refl)
  over_same n p _ e (goes_on _ _ m marks _ on is rest) over = absurd (true≢false (sym over ∙ on))

  -- One pulse, where what comes after it is the same.
  pulse_same : (n : ℕ) (p q : Place) (t : Told) (bits : List Bool) (marks : List Mark) (e : Ending) → ended p.phase ≡ false
      → get_or all n none ≡ t → Follows load lent_at seen_at n p marks e
      → ((rest : List Mark) → Follows load lent_at seen_at (n + 1) (next load p.phase p.index t.seen) rest e → Same bits q rest e)
      → Same (sent_bit load t.image p.phase p.index ∷ bits) q marks e
  pulse_same n _ q t bits _ e on is (stops _ _) then = absurd (true≢false on)
  pulse_same n p q t bits _ e on is (goes_on _ _ m marks _ _ mark rest) then =
      let more = then marks (subst (λ (x : Told). Follows load lent_at seen_at (n + 1) (next load p.phase p.index x.seen) marks e) is rest) in
      let bit : sent_bit load t.image p.phase p.index ≡ m.bit =
      ap (λ (x : Told). sent_bit load x.image p.phase p.index) (sym is) ∙ ap (λ (x : Mark). x.bit) mark in
      (ap₂ (λ (b : Bool) (l : List Bool). b ∷ l) bit more.0, more.1)

  pub says_same : (n : ℕ) (p q : Place) (ts : List Told) (bits : List Bool) → Says load p ts bits q → drop n all ≡ ts
      → ended q.phase ≡ true → (marks : List Mark) (e : Ending) → Follows load lent_at seen_at n p marks e → Same bits q marks e
  says_same n p _ _ _ (said _) at over marks e follows = over_same n p marks e follows over
  says_same n p q _ _ (says _ t ts bits _ on lends first) at over marks e follows =
      pulse_same n p q t bits marks e on (stands_there all n t ts at) follows
      (λ rest f. says_same (n + 1) _ q ts bits first (stands_after all n t ts at) over rest e f)
