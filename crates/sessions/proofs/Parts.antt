-- The parts of a session are followed: plain bits by one law, pairs by one, and over them the connection, the version and the waits.
-- Assumes nothing.
use mathlib.Core.Bool.{Bool, true, false}
use mathlib.Core.List.{List}
use mathlib.Core.Path.{◌≡◌, refl, sym, ap, ◌∙◌}
use Prim.Native.Nat.{ℕ, zero, suc, ◌+◌, ◌*◌, ◌/◌, ◌^◌, ◌<◌}
use native.Mathlib.Nat.{mul-one, mul_assoc, add-mul, pow-suc}
use native.Mathlib.Omega.{arith}
use lib.Dec.{eqb}
use lib.Pow.{pow-add}
use Rattle.terms.specs.Choice.{when}
use Rattle.terms.proofs.Tests.{when_true, when_false}
use Rattle.load.specs.declared.Load.{Load}
use Rattle.sequence.specs.Sequence.{draw}
use Rattle.units.specs.declared.Seen.{Seen}
use Rattle.units.specs.declared.Seen.TheVariants.{Silence, Zero, One}
use Rattle.bits.specs.Bits.{sent_bit}
use Rattle.follow.specs.Follow.{opened, after, after_version, onward, shows, after_connection, after_version_pair, after_good, bad}
use Rattle.follow.specs.Follow.{after_wait_pair, after_pair, is_silence, ends_silent, ends_silent_pair}
use Rattle.place.specs.Phases.{pairs, places}
use Rattle.place.specs.declared.Acknowledgement.{Acknowledgement}
use Rattle.place.specs.declared.Ending.TheVariants.{Lost}
use Rattle.place.specs.declared.Phase.{Phase}
use Rattle.place.specs.declared.Phase.TheVariants.{Connection, Version, Command, Zeros, Wait, Ended}
use Rattle.place.specs.declared.Place.{Place}
use Rattle.sessions.specs.Spelled.{Part, over, sends, pair, silent_pair, bits, by, connection, version, wait}
use Rattle.sessions.proofs.Follows.{From, stands_at, over_sent, pulse_sent, choice_sent}
use Rattle.sessions.proofs.Onward.{first_bit, second_bit, within, Plain, Paired, onward_pair, next_plain, next_first, next_second}

-- A number that stands above some zeros: halved, it stands above one less, and the top of 8 bits adds the bit above it.
halved : (v left w : ℕ) → w ≡ v * 2 ^ suc left → w / 2 ≡ v * 2 ^ left
halved v left w c =
    let twice : w ≡ v * 2 ^ left * 2 = c ∙ ap (λ (x : ℕ). v * x) (pow-suc 2 left) ∙ sym (mul_assoc v (2 ^ left) 2) in
    omega (arith, twice)

topped : (v j left w : ℕ) → j + left ≡ 7 → w ≡ v * 2 ^ suc left → w / 2 + 128 ≡ (v + 2 ^ j) * 2 ^ left
topped v j left w e c =
    let top : 2 ^ j * 2 ^ left ≡ 128 = sym (pow-add 2 j left) ∙ ap (λ (x : ℕ). 2 ^ x) e in
    ap (λ (x : ℕ). x + 128) (halved v left w c) ∙ ap (λ (x : ℕ). v * 2 ^ left + x) (sym top) ∙ sym (add-mul v (2 ^ j) (2 ^ left))

module _ (load : Load) (lent : ℕ → List ℕ) (seen : ℕ → Seen) where
  abbrev Sent : ℕ → Place → Part → Type 0
  Sent = From load lent seen

  -- A plain phase; its places have numbers, by which their bits go.
  module _ (phase : Phase) (plain : Plain load phase)
      (bit : ℕ → ℕ → Bool) (number : ℕ → ℕ) (counts : (i : ℕ) → number (i + 1) ≡ number i + 1)
      (is : (n i : ℕ) → sent_bit load (lent n) phase i ≡ bit n (number i))
      (rest : Part) (ahead : (n : ℕ) → Sent n (opened (after load phase)) rest) where
    pub bits_sent : (left i k n : ℕ) → i + left ≡ places load phase → k ≡ number i
        → Sent n (within load phase i left) (bits phase bit k left rest)
    unfolding bits
    bits_sent zero i k n e c = record { follows = (ahead n).follows }
    bits_sent (suc left) i k n e c =
        let more = bits_sent left (i + 1) (k + 1) (n + 1) (omega (arith, e)) (ap (λ (x : ℕ). x + 1) c ∙ sym (counts i)) in
        let here : Sent n (record { phase = phase; index = i }) (sends phase (bit n k) false (bits phase bit (k + 1) left rest)) =
        pulse_sent n phase i (bit n k) false _ plain.on (is n i ∙ ap (bit n) (sym c)) (plain.quiet i (seen n))
        (stands_at (next_plain load phase plain left i (seen n) e) more) in
        record { follows = here.follows }

  pub pair_sent : (phase : Phase) → Paired load phase → (n j : ℕ) (silent : Bool) (rest : Part) → j * 2 + 1 < places load phase
      → ends_silent_pair phase (j * 2 + 1) (seen (n + 1)) ≡ silent → Sent (n + 1 + 1) (after_pair load phase (j * 2 + 1) (seen (n + 1))) rest
      → Sent n (record { phase = phase; index = j * 2 }) (sends phase true false (sends phase false silent rest))
  pair_sent phase paired n j silent rest h q f =
      let second : Sent (n + 1) (record { phase = phase; index = j * 2 + 1 }) (sends phase false silent rest) =
      pulse_sent (n + 1) phase (j * 2 + 1) false silent rest paired.on (paired.bits (lent (n + 1)) (j * 2 + 1) ∙ second_bit j) q
      (stands_at (next_second load phase j (seen (n + 1))) f) in
      pulse_sent n phase (j * 2) true false _ paired.on (paired.bits (lent n) (j * 2) ∙ first_bit j)
      (paired.quiet (j * 2) (seen n) (first_bit j)) (stands_at (next_first load phase j (seen n) h) second)

  module _ (rest : Part) (ahead : (n : ℕ) → Sent n (opened (Version 0)) rest) where
    connection_paired : Paired load Connection
    connection_paired = record { on = refl; bits = λ image i. refl; quiet = λ i s e. refl }

    pub connection_sent : (left j k n : ℕ) → j + left ≡ 250 → k ≡ 251 + j
        → Sent n (within load Connection (j * 2) left) (connection seen k left rest)
    unfolding connection after_connection
    connection_sent zero j k n e c = record { follows = (ahead n).follows }
    connection_sent (suc left) j k n e c =
        let s = seen (n + 1) in
        let on = onward load Connection (j * 2 + 1) in
        let number : 251 + (j * 2 + 1) / 2 ≡ k = omega (arith, c) in
        let followed : after_connection load (j * 2 + 1) s ≡ when (shows s (draw k)) on (opened (Ended Lost)) =
        ap (λ (x : ℕ). when (shows s (draw x)) on (opened (Ended Lost))) number in
        let more = connection_sent left (j + 1) (k + 1) (n + 1 + 1) (omega (arith, e)) (omega (arith, c)) in
        let chosen =
        choice_sent (λ (p : Place). p) (n + 1 + 1) (shows s (draw k)) on (opened (Ended Lost)) _ _
        (λ b. stands_at (onward_pair load Connection left j (omega (arith, e))) more)
        (λ b. over_sent (n + 1 + 1) Lost) in
        record { follows = (pair_sent Connection connection_paired n j false _ (omega (arith, e)) refl (stands_at followed chosen)).follows }

  module _ (wrong good : Part) (zeros : (n : ℕ) → Sent n (opened Zeros) wrong) (command : (n : ℕ) → Sent n (opened Command) good) where
    version_paired : (w : ℕ) → Paired load (Version w)
    version_paired w = record { on = refl; bits = λ image i. refl; quiet = λ i s e. refl }

    -- The place holds w, the version so far above as many zeros as pairs are left.
    pub version_sent : (left j v w n : ℕ) → j + left ≡ 8 → w ≡ v * 2 ^ left
        → Sent n (within load (Version w) (j * 2) left) (version seen j left v wrong good)
    unfolding version after_version
    version_sent zero j v w n e c =
        let same : w ≡ v = c ∙ mul-one v in
        let chosen = choice_sent opened n (eqb v 1) Command Zeros good wrong (λ b. command n) (λ b. zeros n) in
        record { follows = (stands_at (ap (λ (x : ℕ). opened (when (eqb x 1) Command Zeros)) same) chosen).follows }
    version_sent (suc left) j v w n e c =
        let on : (x : ℕ) → onward load (Version x) (j * 2 + 1) ≡ within load (Version x) ((j + 1) * 2) left =
        λ x. onward_pair load (Version x) left j (omega (arith, e)) in
        let more : (u x : ℕ) → x ≡ u * 2 ^ left
        → Sent (n + 1 + 1) (onward load (Version x) (j * 2 + 1)) (version seen (j + 1) left u wrong good) =
        λ u x q. stands_at (on x) (version_sent left (j + 1) u x (n + 1 + 1) (omega (arith, e)) q) in
        let by_seen : (s : Seen) → Sent (n + 1 + 1) (after_version_pair load w (j * 2 + 1) s)
        (by s (over Lost) (version seen (j + 1) left v wrong good) (version seen (j + 1) left (v + 2 ^ j) wrong good)) = elim [
          | Silence ↦ over_sent (n + 1 + 1) Lost
          | Zero ↦ more v (w / 2) (halved v left w c)
          | One ↦ more (v + 2 ^ j) (w / 2 + 128) (topped v j left w (omega (arith, e)) c)
        ] in
        record { follows = (pair_sent (Version w) (version_paired w) n j false _ (omega (arith, e)) refl (by_seen (seen (n + 1)))).follows }

  module _ (a : Acknowledgement) (good : Part) (ahead : (n : ℕ) → Sent n (opened (after_good load.command a)) good) where
    wait_paired : Paired load (Wait a)
    unfolding ends_silent
    wait_paired = record { on = refl; bits = λ image i. refl; quiet = λ i s e. when_true _ _ e }

    second_silent : (n j : ℕ) (s : Seen) → seen (n + 1) ≡ s → ends_silent (j * 2 + 1) (seen (n + 1)) ≡ is_silence s
    unfolding ends_silent
    second_silent n j s e = when_false _ _ (second_bit j) ∙ ap is_silence e

    module _ (left j n : ℕ) (e : j + suc left ≡ pairs a) where
      seen_pair : (s : Seen) (rest : Part) → seen (n + 1) ≡ s → Sent (n + 1 + 1) (after_wait_pair load a (j * 2 + 1) s) rest
          → Sent n (record { phase = Wait a; index = j * 2 }) (sends (Wait a) true false (sends (Wait a) false (is_silence s) rest))
      seen_pair s rest is f =
          pair_sent (Wait a) wait_paired n j (is_silence s) rest (omega (arith, e)) (second_silent n j s is)
          (stands_at (ap (after_wait_pair load a (j * 2 + 1)) is) f)

      wait_pair : (on : Part) → Sent (n + 1 + 1) (within load (Wait a) ((j + 1) * 2) left) on → (s : Seen) → seen (n + 1) ≡ s
          → Sent n (record { phase = Wait a; index = j * 2 }) (by s (silent_pair (Wait a) on) (pair (Wait a) good) (pair (Wait a) (over (bad a))))
      wait_pair on more Silence is = seen_pair Silence on is (stands_at (onward_pair load (Wait a) left j (omega (arith, e))) more)
      wait_pair on more Zero is = seen_pair Zero good is (ahead (n + 1 + 1))
      wait_pair on more One is = seen_pair One (over (bad a)) is (over_sent (n + 1 + 1) (bad a))

    pub wait_sent : (left j n : ℕ) → j + left ≡ pairs a → Sent n (within load (Wait a) (j * 2) left) (wait seen a left (bad a) good)
    unfolding wait
    wait_sent zero j n e = record { follows = (over_sent n Lost).follows }
    wait_sent (suc left) j n e =
        let more = wait_sent left (j + 1) (n + 1 + 1) (omega (arith, e)) in
        record { follows = (wait_pair left j n e (wait seen a left (bad a) good) more (seen (n + 1)) refl).follows }
