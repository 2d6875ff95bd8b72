-- Demand 3: the calibration, then the conversation, in a run whose clock is right.
-- Assumes nothing.
use mathlib.Core.Bool.{Bool, true, false}
use mathlib.Core.List.{List}
use mathlib.Core.Path.{◌≡◌, refl, sym, ap, ◌∙◌, subst}
use Prim.Native.Nat.{ℕ, ◌+◌, ◌*◌, ◌<◌}
use native.Mathlib.Nat.{zero-add, zero-div}
use native.Mathlib.Omega.{arith}
use lib.Dec.{eqb}
use lib.ListN.{length}
use Rattle.terms.specs.Choice.{when}
use Rattle.terms.proofs.Refusals.{taken_exactly}
use Rattle.units.specs.declared.Seen.{Seen}
use Rattle.load.specs.Load.{load_of}
use Rattle.load.specs.declared.Load.{Load}
use Rattle.settings.specs.declared.Settings.{Settings}
use Rattle.settings.proofs.Exactly.{Fit}
use Rattle.bits.specs.Seeing.{sees}
use Rattle.load.proofs.Facts.{Known}
use Rattle.session.specs.Step as session
use Rattle.host.specs.Step as hosts
use Rattle.host.specs.declared.Host.{Host}
use Rattle.host.proofs.Starts.{start_gives}
use Rattle.eeprom.specs.declared.Fault.TheVariants.{None}
use Rattle.chip.specs.Step.{chip_start, start_rows}
use Rattle.chip.specs.Step as chips
use Rattle.chip.specs.declared.Chip.{Chip}
use Rattle.conversation.specs.Conversation.{Talk, Reach, start, Success}
use Rattle.conversation.specs.Final.{pulses_after}
use Rattle.conversation.proofs.Conversations.{success}
use Rattle.conversation.proofs.Replies.{Told, Replies, replies}
use Rattle.joined.specs.Ends.{after}
use Rattle.joined.specs.Joined.{State, Measuring, begun}
use Rattle.joined.proofs.Budget.{start_sound}
use Rattle.joined.proofs.Sound.{Sound}
use Rattle.place.specs.declared.Place.{Place}
use Rattle.success.specs.Success.{Asked, pulses, Succeeds, Demand3}
use Rattle.success.proofs.Calibration.{before, Calibrated, calibrates}
use Rattle.success.proofs.Clock.{Clocked, clock}
use Rattle.success.proofs.Countdown.{Paced, paced_fresh}
use Rattle.success.proofs.Simulation.{Meets, talk_of}
use Rattle.success.proofs.Timing.{Low, read_right}

-- What the host is told by its next call.
abbrev told : State → Seen
told s = sees s.host.session.place.phase s.host.session.place.index s.reply

-- Calibration and conversation together.
counts : (a b : Bool) (n : ℕ)
    → when a 798 (when b (834 + 8 * n) (842 + 8 * n)) + 1 + 1 ≡ when a 800 (when b (836 + 8 * n) (844 + 8 * n))
unfolding when
counts true b n = refl
counts false true n = omega arith
counts false false n = omega arith

pulses_all : (command n : ℕ) → pulses_after command n + 1 + 1 ≡ pulses command n
unfolding pulses pulses_after
pulses_all command n = counts (eqb command 0) (eqb command 1) n

module _ (t h p command : ℕ) (image : List ℕ) (host : Host) (ram eeprom : List ℕ) (chip : Chip) (l : ℕ) (measured : Measuring)
    (a : Asked t h p command image host ram eeprom chip l measured) where
  abbrev s : State
  s = begun host chip ram eeprom

  abbrev figures : Settings
  figures = record { t = t; h = h; p = p }

  abbrev load : Load
  load = load_of command image

  -- What both starts hand out.
  opened : (host ≡ hosts.fresh figures (session.fresh load)) × Fit t h p × Known command image
  opened = start_gives t h p command image host a.host_starts

  fresh_chip : chip ≡ chips.fresh None
  unfolding chip_start
  fresh_chip = ((taken_exactly _ chip (start_rows ram eeprom None)).0 a.chip_starts).1

  sound : Sound image s
  sound = start_sound measured image t h p command host a.host_starts ram eeprom None chip a.chip_starts

  meets : Meets measured image load s
  meets = record {
    sound = sound;
    loaded = ap (λ (x : Host). x.session.load) opened.0;
    faultless = ap (λ (x : Chip). x.fault) fresh_chip;
  }

  talks : talk_of s ≡ before ram eeprom
  talks =
      ap (λ (x : Host). talk_of (begun x chip ram eeprom)) opened.0
      ∙ ap (λ (x : Chip). talk_of (begun (hosts.fresh figures (session.fresh load)) x ram eeprom)) fresh_chip

  clocked : Clocked t h p l opened.1 a.loop a.margin measured a.may s
  clocked = record {
    settings = ap (λ (x : Host). x.settings) opened.0;
    rose = 0;
    space = 0;
    at = sym (zero-div p);
    next = ap (λ (x : Host). x.time) opened.0;
    short = omega arith;
    close = λ e w. omega arith;
    paced =
        subst (λ (x : Chip). Paced t h p l opened.1 a.loop x.receiver.listener.phase host.session.place.index x.receiver.left.0)
        (sym fresh_chip) (paced_fresh t h p l opened.1 a.loop host.session.place.index);
  }

  abbrev finish : (threshold : ℕ) → Success command image threshold ram eeprom
  finish threshold = success command image threshold ram eeprom opened.2 (λ n. a.bytes) sound.ram_size sound.eeprom_size

  -- Where so many pulses of the conversation lead, the run stands after as many and the calibration's two.
  leads : (n : ℕ) (end : ℕ → Talk) → ((threshold : ℕ) → Reach load image n (start threshold ram eeprom) (end threshold))
      → Calibrated measured image load (Low t p l a.margin) (Clocked t h p l opened.1 a.loop a.margin measured a.may)
      (clock t h p l opened.1 a.loop a.margin measured a.may image load) (read_right t p l a.margin) n s end
  leads =
      calibrates measured image load (Low t p l a.margin) (Clocked t h p l opened.1 a.loop a.margin measured a.may)
      (clock t h p l opened.1 a.loop a.margin measured a.may image load) (read_right t p l a.margin) s ram eeprom meets
      clocked talks

  -- What the host is told there.
  pub told_so : (k : ℕ) (wanted : Seen) → ((threshold : ℕ) → Told load image threshold ram eeprom k wanted)
      → told (after measured image (k + 1 + 1) s) ≡ wanted
  told_so k wanted t =
      let there = leads k (λ threshold. (t threshold).at) (λ threshold. (t threshold).reached) in
      ap (λ (x : Talk). sees x.place.phase x.place.index x.reply) there.runs.ends ∙ (t there.threshold).told

  pub replied : (threshold : ℕ) → Replies command image threshold ram eeprom
  replied threshold = replies command image threshold ram eeprom opened.2 a.bytes sound.ram_size sound.eeprom_size

  succeeds : Succeeds command image measured s
  succeeds =
      let n = pulses_after command (length image) + 1 + 1 in
      let all = pulses_all command (length image) in
      let run = leads (pulses_after command (length image)) (λ threshold. (finish threshold).end) (λ threshold. (finish threshold).reached) in
      let last = finish run.threshold in
      let ends : talk_of (after measured image (pulses command (length image)) s) ≡ last.end =
      ap (λ (k : ℕ). talk_of (after measured image k s)) (sym all) ∙ run.runs.ends in
      record {
        host_goes = λ k i. run.runs.host_goes k (subst (λ (m : ℕ). k < m) (sym all) i);
        chip_goes = λ k i. run.runs.chip_goes k (subst (λ (m : ℕ). k < m) (sym all) i);
        unrefused = λ k i. run.runs.unrefused k (subst (λ (m : ℕ). k < m) (sym all) i);
        host_ends = ap (λ (x : Talk). x.place.phase) ends ∙ ap (λ (x : Place). x.phase) last.host;
        chip_ends = ap (λ (x : Talk). x.listener.phase) ends ∙ last.chip;
        ram_left = ap (λ (x : Talk). x.ram) ends ∙ last.ram_left;
        eeprom_left = ap (λ (x : Talk). x.eeprom) ends ∙ last.eeprom_left;
        counted =
            ap (λ (k : ℕ). (after measured image k s).host.session.pulses) (sym all)
            ∙ run.runs.counted
            ∙ ap (λ (x : Host). x.session.pulses + n) opened.0
            ∙ zero-add n
            ∙ all;
      }

pub demand_3 : Demand3
demand_3 = succeeds
