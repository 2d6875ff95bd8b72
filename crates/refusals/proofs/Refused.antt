-- Demand 1, fact by fact: each call goes through a table of rows, so that what is proved of every table is proved of it. A run goes through
-- two, the second where the first lets it pass.
-- Assumes nothing.
use mathlib.Core.Bool.{true}
use mathlib.Core.List.{List, [], ◌∷◌, ◌++◌}
use mathlib.Core.Logic.{◌⊎◌, inl, inr}
use mathlib.Core.Path.{◌≡◌, refl, sym, ap, ◌∙◌, subst}
use Prim.Native.Nat.{ℕ}
use Rattle.terms.specs.Refusals.{Row, Answer, refused, taken, first, Given}
use Rattle.terms.proofs.Refusals.{Clear, refused_exactly, taken_exactly, clear_taken, clear_both, agrees, not_both}
use Rattle.settings.specs.Settings.{settings_rows}
use Rattle.settings.proofs.Exactly.{settings_refused}
use Rattle.load.specs.Load.{load_rows, load_of}
use Rattle.load.proofs.Exactly.{load_refused}
use Rattle.place.specs.Phases as place
use Rattle.session.specs.Step.{session_start, session_step}
use Rattle.session.specs.Step as session
use Rattle.session.specs.declared.Session.{Session}
use Rattle.session.proofs.Reached as session_reached
use Rattle.session.proofs.Within.{Within, session_within}
use Rattle.host.specs.Step.{fresh, host_start, host_rows, host_step}
use Rattle.host.specs.declared.Host.{Host}
use Rattle.host.proofs.Reached as host_reached
use Rattle.serial.specs.Step.{serial_start, serial_rows, serial_step}
use Rattle.serial.proofs.Reached as serial_reached
use Rattle.eeprom.specs.declared.Fault.{Fault}
use Rattle.chip.specs.Step.{start_rows, step_rows, chip_start, chip_step}
use Rattle.chip.specs.Step as chip
use Rattle.chip.specs.declared.Chip.{Chip}
use Rattle.chip.proofs.Reached as chip_reached
use Rattle.chip.proofs.Steps.{step_refused, step_given}
use Rattle.joined.specs.Joined.{rounded_down}
use Rattle.joined.specs.Run.{from_chip, from_host, run_of}
use Rattle.joined.specs.Run as runs
use Rattle.trace.specs.Traces.{file_rows, judgement, write_rows, writes}
use Rattle.trace.specs.Traces as traces
use Rattle.trace.proofs.Filling.{write_refused}
use Rattle.replay.specs.Replay.{replay_rows, replay_of}
use Rattle.replay.specs.Replay as replays
use Rattle.counts.specs.Counts.{counted}
use Rattle.times.specs.Times.{timed_rows, timed}
use Rattle.refusals.specs.Demand1.{Demand1, ReportRefusals}

-- What two tables refuse, one after the other: the first does, or lets it pass and the second does.
given_split : (n : ℕ) (rows more : List Row) → Given n (rows ++ more) → Given n rows ⊎ (Clear rows × Given n more)
given_split n [] more g = inr (tt, g)
given_split n (r ∷ rows) more (inl p) = inl (inl p)
given_split n (r ∷ rows) more (inr p) = elim (given_split n rows more p.1) [
  | inl g ↦ inl (inr (p.0, g))
  | inr q ↦ inr ((p.0, q.0), q.1)
]

chip_left : (c : Chip) (ram eeprom : List ℕ) (wait low n : ℕ) → Given n (step_rows c ram eeprom)
    → chip_step c ram eeprom wait low ≡ chip.left (refused n) ram eeprom
chip_left c ram eeprom wait low n g = sym (step_refused c ram eeprom wait low n (sym ((refused_exactly _ n (step_rows c ram eeprom)).1 g)))

module _ (t h p command : ℕ) (image : List ℕ) (fault : Fault) (l : ℕ) (ram eeprom : List ℕ) where
  abbrev host_rows_lem : List Row
  host_rows_lem = settings_rows t h p ++ load_rows command image

  abbrev start : Host
  start = fresh (record { t = t; h = h; p = p }) (session.fresh (load_of command image))

  abbrev ran : runs.Left
  ran = run_of t h p command image fault l ram eeprom

  host_left : (n : ℕ) → Given n host_rows_lem → ran ≡ runs.left (refused n) ram eeprom
  unfolding run_of host_start
  host_left n g = ap (from_host (rounded_down p l) image ram eeprom fault) ((refused_exactly _ n host_rows_lem).1 g)

  past_host : Clear host_rows_lem → (a : Answer Chip) → chip_start ram eeprom fault ≡ a
      → ran ≡ from_chip (rounded_down p l) image ram eeprom start a
  unfolding run_of host_start
  past_host c a e =
      ap (from_host (rounded_down p l) image ram eeprom fault) (clear_taken start host_rows_lem c) ∙ ap (from_chip (rounded_down p l) image ram eeprom start) e

  run_left : (n : ℕ) → Given n (host_rows_lem ++ start_rows ram eeprom fault) → ran ≡ runs.left (refused n) ram eeprom
  unfolding chip_start
  run_left n g = elim (given_split n host_rows_lem (start_rows ram eeprom fault) g) [
    | inl q ↦ host_left n q
    | inr q ↦ past_host q.0 (refused n) ((refused_exactly _ n (start_rows ram eeprom fault)).1 q.1)
  ]

  run_by : (n : ℕ) (a : Answer (Unit {0})) → first (host_rows_lem ++ start_rows ram eeprom fault) tt ≡ a → ran.answer ≡ refused n
      → Given n (host_rows_lem ++ start_rows ram eeprom fault)
  unfolding chip_start
  run_by n (refused m) e q =
      let g = (refused_exactly tt m (host_rows_lem ++ start_rows ram eeprom fault)).0 e in
      let told : ran.answer ≡ refused m = ap (λ (x : runs.Left). x.answer) (run_left m g) in
      let same : m ≡ n = cc in
      subst (λ (k : ℕ). Given k (host_rows_lem ++ start_rows ram eeprom fault)) same g
  run_by n (taken u) e q =
      let clear = clear_both (start_rows ram eeprom fault) host_rows_lem ((taken_exactly tt u (host_rows_lem ++ start_rows ram eeprom fault)).0 e).0 in
      let past = past_host clear.0 (taken _) (clear_taken _ (start_rows ram eeprom fault) clear.1) in
      let told = sym (ap (λ (x : runs.Left). x.answer) past) ∙ q in
      absurd (cc)

module _ (ns buffer : List ℕ) (n : ℕ) where
  write_left : Given n (write_rows ns buffer) → writes ns buffer ≡ traces.left (refused n) buffer
  write_left g = sym (write_refused ns buffer n (sym ((refused_exactly _ n (write_rows ns buffer)).1 g)))

  write_by : (a : Answer ℕ) → (traces.unless_refused ns buffer a).answer ≡ refused n → a ≡ refused n
  write_by (refused m) e = e
  write_by (taken k) e = absurd (not_both (sym e))

  write_given : (writes ns buffer).answer ≡ refused n → Given n (write_rows ns buffer)
  unfolding writes
  write_given e = (refused_exactly _ n (write_rows ns buffer)).0 (write_by _ e)

module _ (trace : List ℕ) (fault : Fault) (ram eeprom : List ℕ) (n : ℕ) where
  replay_left : Given n (replay_rows trace fault ram eeprom) → replay_of trace fault ram eeprom ≡ replays.left (refused n) ram eeprom
  unfolding replay_of
  replay_left g = ap (replays.unless_refused fault ram eeprom) ((refused_exactly _ n (replay_rows trace fault ram eeprom)).1 g)

  replay_by : (a : Answer (List ℕ)) → (replays.unless_refused fault ram eeprom a).answer ≡ refused n → a ≡ refused n
  replay_by (refused m) e = let same : m ≡ n = cc in ap refused same
  replay_by (taken ns) e = absurd (not_both (sym e))

  replay_given : (replay_of trace fault ram eeprom).answer ≡ refused n → Given n (replay_rows trace fault ram eeprom)
  unfolding replay_of
  replay_given e = (refused_exactly _ n (replay_rows trace fault ram eeprom)).0 (replay_by _ e)

session_14 : (s : Session) → Within s → place.ended s.place.phase ≡ true → (image : List ℕ) → Given 14 (session.step_rows s image)
session_14 s w e image = inr ((session_within s).1 w, inl (refl, e))

pub demand_1 : Demand1
unfolding session_start session_step host_start host_step serial_start serial_step chip_start judgement
demand_1 = record {
  settings = settings_refused;
  load = load_refused;
  session_start_lem = λ command image n. refused_exactly _ n (load_rows command image);
  host_start_lem = λ t h p command image n. refused_exactly _ n (settings_rows t h p ++ load_rows command image);
  serial_start_lem = λ packing command image n. refused_exactly _ n (load_rows command image);
  chip_start_lem = λ ram eeprom fault n. refused_exactly _ n (start_rows ram eeprom fault);
  session_step_lem = λ s image seen n. refused_exactly _ n (session.step_rows s image);
  host_step_lem = λ x image seen n. refused_exactly _ n (host_rows x image);
  serial_step_lem = λ s image back n. refused_exactly _ n (serial_rows s image back);
  chip_step_lem = λ c ram eeprom wait low n.
      (step_given c ram eeprom wait low n, λ g. ap (λ (x : chip.Left). x.answer) (chip_left c ram eeprom wait low n g));
  judge = λ trace n. refused_exactly _ n (file_rows trace);
  write = λ ns buffer n. (write_given ns buffer n, λ g. ap (λ (x : traces.Left). x.answer) (write_left ns buffer n g));
  replay = λ trace fault ram eeprom n.
      (replay_given trace fault ram eeprom n, λ g. ap (λ (x : replays.Left). x.answer) (replay_left trace fault ram eeprom n g));
  run = λ t h p command image fault l ram eeprom n. (
    run_by t h p command image fault l ram eeprom n _ refl,
    λ g. ap (λ (x : runs.Left). x.answer) (run_left t h p command image fault l ram eeprom n g),
  );
  chip_left = chip_left;
  run_left = run_left;
  replay_left = replay_left;
  write_left = write_left;
  session_never_13 = session_reached.never_13;
  host_never_13 = host_reached.never_13;
  serial_never_13 = serial_reached.never_13;
  chip_never_13 = chip_reached.never_13;
  session_ended = λ s r e image seen. (refused_exactly _ 14 (session.step_rows s image)).1 (session_14 s (session_reached.reached_within s r) e image);
  host_ended_lem = λ x r e image seen.
      let kept = host_reached.reached_kept x r in
      (refused_exactly _ 14 (host_rows x image)).1 (inr (kept.own, session_14 x.session kept.within e image));
  serial_ended = λ s r e image back. serial_reached.ended_14 s r image back e;
  chip_ended = λ c r e ram eeprom wait low w v.
      let kept = (chip_reached.chip_kept c).1 (chip_reached.reached_kept c r) in
      ap (λ (x : chip.Left). x.answer)
      (chip_left c ram eeprom wait low 14 (inr (agrees _ _ w, inr (agrees _ _ v, inr (kept, inl (refl, e))))));
}

pub report_refusals : ReportRefusals
unfolding counted timed
report_refusals = record {
  plan = λ command image n. refused_exactly _ n (load_rows command image);
  times = λ p s trackers n. refused_exactly _ n (timed_rows p s);
}
