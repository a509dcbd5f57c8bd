-- A tick of a host and its scripts, from what its phases leave.
use Rattle.std.proofs.Common.{◌≡◌, ℕ, List, length, map, fold, ap, ◌∙◌}
use Rattle.tas_model.specs.declared.entry.HostParams.{HostParams}
use Rattle.host_rounds.specs.Lists.{Each}
use Rattle.host_rounds.specs.Hosts.{Host}
use Rattle.host_rounds.specs.Deliveries.{Arrival, received_serially, delivered}
use Rattle.host_rounds.specs.Rounds.{on_host}
use Rattle.host_rounds.specs.SerialOrder.{slow_phase, ask_phase, emit_phase, serial_tick}
use Rattle.scenario_text.specs.declared.scenario.Scenario.{Scenario}
use Rattle.scenario_runs.specs.Applications.{Script}
use Rattle.scenario_runs.specs.Worlds.{scripts_of, starts_of}
use Rattle.scenario_host.specs.Sound.{IsFit, IsSound}
use Rattle.scenario_host.specs.Turns.{site_with}
use Rattle.scenario_host.proofs.Lasting.{Lasts, lasts_both, lasts_made, lasts_slow, lasts_frames}
use Rattle.scenario_host.proofs.Fit.{fit_more}
use Rattle.scenario_host.proofs.Walking.{each_weaker}

abbrev pub numbers_in : List Script → List ℕ
numbers_in scripts = map (λ (s : Script). s.number) scripts

-- scripts stay fit, and sound, while their host lasts
pub fits_later : (before after : Host) (scripts : List Script) → Lasts before after
    → Each (IsFit (length before.flows)) scripts → Each (IsFit (length after.flows)) scripts
fits_later before after scripts lasts fit =
    each_weaker (IsFit (length before.flows)) (IsFit (length after.flows))
    (λ s one. fit_more (length before.flows) (length after.flows) s lasts.grown one) scripts fit

pub sound_later : (before after : Host) (scripts : List Script) → Lasts before after
    → IsSound (site_with before scripts) → IsSound (site_with after scripts)
sound_later before after scripts lasts sound = record {
  listens = ap (λ (p : HostParams). p.fixed) lasts.params ∙ sound.listens;
  numbers = sound.numbers;
  scripts = fits_later before after scripts lasts sound.scripts;
}

-- the slow path and the frames
pub lasts_deliveries : (params : HostParams) (t : ℕ) (frames : List Arrival) (before mid after : Host)
    → mid ≡ slow_phase t before → after ≡ fold (delivered received_serially (starts_of params) t) mid frames
    → Lasts before after
lasts_deliveries params t frames before mid after slow came =
    lasts_both before mid after (lasts_made before mid (slow_phase t before) slow (lasts_slow t before))
    (lasts_made mid after (fold (delivered received_serially (starts_of params) t) mid frames) came
    (lasts_frames received_serially (starts_of params) t frames mid))

pub played : (s : Scenario) (params : HostParams) (t : ℕ) (frames : List Arrival) (start timed met asked sent : Host)
    (before after : List Script)
    → timed ≡ slow_phase t start → met ≡ fold (delivered received_serially (starts_of params) t) timed frames
    → site_with asked after ≡ ask_phase (scripts_of s params) t (site_with met before) (numbers_in before)
    → sent ≡ emit_phase t asked
    → site_with sent after
    ≡ serial_tick (scripts_of s params) t (site_with start before)
    (record { frames = frames; asks = numbers_in before })
unfolding serial_tick
played s params t frames start timed met asked sent before after slow came turns goes =
    let frame : Host → Host = λ host. fold (delivered received_serially (starts_of params) t) host frames in
    ap (λ (h : Host). site_with h after) goes
    ∙ ap (on_host (emit_phase t))
    (turns
    ∙ ap (λ (h : Host). ask_phase (scripts_of s params) t (site_with h before) (numbers_in before))
    (came ∙ ap frame slow))
