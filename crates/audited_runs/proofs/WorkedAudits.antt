-- The counts of worked runs, by computation.
use Rattle.std.proofs.Common.{◌≡◌, ℕ, List, Bool, true, false, Result, Ok, Err, refl, sym, subst, ap, ◌∙◌}
use Rattle.std.specs.Fmt.{digits}
use Rattle.tas_num.specs.Places.{nearest}
use Rattle.segment_fields.specs.Canon.{ip_header, tcp_fixed}
use Rattle.segment_fields.specs.Text.{refusal, mss_of, scale_of}
use Rattle.tas_model.specs.Receive.{rx, rx_later, rx_syn_sent}
use Rattle.tas_model.specs.NextSegment.{going}
use Rattle.tas_model.specs.Timers.{ticks, control}
use Rattle.tas_model.specs.LegalHistory.{step, replay}
use Rattle.host_rounds.specs.SerialOrder.{serial_tick}
use Rattle.scenario_text.specs.Statements.{reading}
use Rattle.scenario_text.specs.Reads.{reads}
use Rattle.scenario_text.specs.declared.reading.ScenarioFault.{ScenarioFault}
use Rattle.scenario_text.specs.declared.scenario.Scenario.{Scenario}
use Rattle.scenario_runs.specs.Runs.{serial_world, serial_from, serial_run}
use Rattle.scenario_runs.proofs.AllRuns.{serial_is_run}
use Rattle.scenario_runs.specs.WorkedRuns.{hello, killed_early}
use Rattle.trace_audit.specs.Verdicts.{IsLegal}
use Rattle.audited_runs.specs.Audited.{audited}
use Rattle.audited_runs.specs.LogLines.{flows_in, entries_in}
use Rattle.audited_runs.specs.WorkedAudits.{audited_counts, counts_of}
use Rattle.audited_runs.proofs.Whole.{run_legal}
use Rattle.audited_runs.proofs.WorkedFits.{fits, fits_is}

pub hello_counts : ◌≡◌ {A = ℕ × ℕ} (audited_counts hello) (2, 58)
unfolding reads reading digits nearest ip_header tcp_fixed refusal mss_of scale_of rx rx_later rx_syn_sent going
    ticks control step replay serial_tick serial_world serial_from
hello_counts = refl

pub killed_early_counts : ◌≡◌ {A = ℕ × ℕ} (audited_counts killed_early) (2, 20)
unfolding reads reading digits nearest ip_header tcp_fixed refusal mss_of scale_of rx rx_later rx_syn_sent going
    ticks control step replay serial_tick serial_world serial_from
killed_early_counts = refl

-- ----- verdicts
abbrev fits_of : Result Scenario ScenarioFault → Bool
fits_of (Err fault) = false
fits_of (Ok s) = fits (serial_run s)

hello_fits : fits_of (reads hello) ≡ true
unfolding reads reading digits nearest ip_header tcp_fixed refusal mss_of scale_of rx rx_later rx_syn_sent going
    ticks control step replay serial_tick serial_world serial_from
hello_fits = refl

as_counted : (text : List ℕ) (flows entries f e : ℕ) → ◌≡◌ {A = ℕ × ℕ} (f, e) (flows, entries) → IsLegal text f e
    → IsLegal text flows entries
as_counted text flows entries f e same legal =
    subst (λ (c : ℕ × ℕ). IsLegal text c.0 c.1) same legal

-- The audit of a worked run, no premise left.
pub hello_legal : (s : Scenario) → reads hello ≡ Ok s → IsLegal (audited s (serial_run s)) 2 58
hello_legal s read =
    as_counted (audited s (serial_run s)) 2 58 (flows_in (serial_run s).hosts) (entries_in (serial_run s).hosts)
    (ap counts_of (sym read) ∙ hello_counts)
    (run_legal hello s (serial_run s) read (serial_is_run s)
    (fits_is (serial_run s) (ap fits_of (sym read) ∙ hello_fits)))
