-- A scenario's canonical text, the mark and a run's report are judged legal.
use Rattle.std.proofs.Common.{◌≡◌, ℕ, ◌+◌, ◌≤◌, ◌<◌, ◌^◌, false, List, [], ◌∷◌, ◌++◌, length, refl}
use Rattle.std.proofs.Common.{sym}
use Rattle.std.proofs.Common.{subst, ap, ◌∙◌, Ok, arith, suc}
use Rattle.std.proofs.lemmas.List.{length-map}
use Rattle.host_rounds.specs.Lists.{Each}
use Rattle.host_rounds.specs.Logs.{HostRun, RunLog}
use Rattle.tas_runs.specs.Report as report
use Rattle.scenario_text.specs.Canonical.{canonical}
use Rattle.scenario_text.specs.Reads.{reads}
use Rattle.scenario_text.specs.declared.scenario.HostLine.{HostLine}
use Rattle.scenario_text.specs.declared.scenario.Scenario.{Scenario}
use Rattle.scenario_canonical.proofs.Back.{canonical_read}
use Rattle.scenario_ranges.specs.Ranges.{IsHostInRange}
use Rattle.scenario_ranges.proofs.Drafts.{read_in_range}
use Rattle.scenario_runs.specs.Histories.{AreInRange}
use Rattle.scenario_runs.specs.Runs.{Run}
use Rattle.scenario_runs.proofs.AllRuns.{runs_sound}
use Rattle.scenario_laws.specs.Ends.{OfEachLine, IsNamed}
use Rattle.scenario_laws.proofs.AllTicks.{hosts_named, hosts_opened}
use Rattle.log_ranges.specs.Ranges.{Fits, HostFits}
use Rattle.report_lines.specs.Shown.{AreNames, IsLine}
use Rattle.trace_audit.specs.TextLines.{text_lines, mark, AreHalves}
use Rattle.trace_audit.specs.Forms.{names_of, params_of, AreSaid}
use Rattle.trace_audit.specs.Verdicts.{IsLegal}
use Rattle.trace_audit.proofs.HostNames.{names_are}
use Rattle.audited_runs.specs.LogLines.{lines_of, flows_in, entries_in}
use Rattle.audited_runs.specs.Told.{AreTold}
use Rattle.audited_runs.proofs.Saying.{text_of, text_says, report_says}
use Rattle.audited_runs.proofs.Order.{in_order}
use Rattle.audited_runs.proofs.Right.{are_right}
use Rattle.audited_runs.proofs.Counts.{flows_counted, entries_counted}
use Rattle.audited_runs.proofs.Cutting.{Ends, lines_whole, marked_lines, canonical_ends}
use Rattle.audited_runs.proofs.Marks.{scenario_lacks}
use Rattle.audited_runs.proofs.Running.{AreAddrs, addrs_in, params_in, end_told}
use Rattle.audited_runs.proofs.Placing.{LogTold, log_told, same_names, all_told, few_flows}
use Rattle.audited_runs.proofs.ReadCounts.{few_read}
use Rattle.audited_runs.proofs.Fitting.{log_fits}

-- ----- a log by what is known of it
-- the report says its lines
pub report_said : (names : List (List ℕ)) (log : RunLog) → log.replay ≡ false → AreNames names
    → report.names_of log.hosts ≡ names → Each (IsLine names) (lines_of log)
    → AreSaid names (text_lines (report.report log)) (lines_of log)
report_said names log run ok same fits =
    subst (λ (text : List ℕ). AreSaid names (text_lines text) (lines_of log))
    (sym (report_says log run ∙ ap (λ (ns : List (List ℕ)). text_of ns (lines_of log)) same))
    (text_says names (lines_of log) ok fits)

-- the scenario and the report
halves_of : (s : Scenario) (scenario text : List ℕ) → reads scenario ≡ Ok s → Ends scenario
    → AreHalves (scenario ++ mark ++ text) (text_lines scenario) (text_lines text)
halves_of s scenario text back ends =
    record { lines = marked_lines scenario ends text; first = scenario_lacks scenario s back }

pub halves_are : (s : Scenario) (text : List ℕ) → reads (canonical s) ≡ Ok s
    → AreHalves (canonical s ++ mark ++ text) (text_lines (canonical s)) (text_lines text)
halves_are s text back = halves_of s (canonical s) text back (canonical_ends s)

-- the whole text
log_legal : (s : Scenario) (text : List ℕ) (log : RunLog) → reads text ≡ Ok s → Ends text → log.replay ≡ false
    → AreNames (names_of s.hosts) → report.names_of log.hosts ≡ names_of s.hosts
    → Each (IsLine (names_of s.hosts)) (lines_of log)
    → AreTold (params_of s.hosts) (params_of s.hosts) log.hosts
    → IsLegal (text ++ mark ++ report.report log) (flows_in log.hosts) (entries_in log.hosts)
log_legal s text log back ends run ok same fits told = record {
  said = record { scenario = s; before = length (text_lines text) + 1; lines = lines_of log };
  form = record {
    scenario = text_lines text;
    report = text_lines (report.report log);
    halves = halves_of s text (report.report log) back ends;
    before = refl;
    is = ap reads (lines_whole text) ∙ back;
    lines = report_said (names_of s.hosts) log run ok same fits;
    order = in_order (params_of s.hosts) log told;
  };
  right = are_right (params_of s.hosts) log told;
  flow_count = flows_counted log;
  entry_count = entries_counted log;
}

-- ----- a run
hosts_in_range : (hosts : List HostLine) → Each IsHostInRange hosts → AreInRange hosts
hosts_in_range [] each = tt
hosts_in_range (h ∷ hs) each = (each.0.params, hosts_in_range hs each.1)

same_count : (addrs : List ℕ) (lines : List HostLine) (hosts : List HostRun) → LogTold addrs lines hosts
    → length hosts ≡ length lines
same_count addrs [] [] told = refl
same_count addrs [] (h ∷ hs) told = absurd told
same_count addrs (l ∷ ls) [] told = absurd told
same_count addrs (l ∷ ls) (h ∷ hs) told = ap suc (same_count addrs ls hs told.1)

-- the addresses of a scenario's hosts are those of the log's
low_addrs : (lines : List HostLine) (hosts : List HostRun) → OfEachLine IsNamed lines hosts → Each HostFits hosts
    → AreAddrs (addrs_in (params_in lines))
low_addrs [] [] named fits = tt
low_addrs [] (h ∷ hs) named fits = absurd named
low_addrs (l ∷ ls) [] named fits = absurd named
low_addrs (l ∷ ls) (h ∷ hs) named fits =
    (subst (λ (a : ℕ). a < 2 ^ 32) named.0.1 fits.0.addr, low_addrs ls hs named.1 fits.1)

run_told : (s : Scenario) (log : RunLog) → AreAddrs (addrs_in (params_in s.hosts)) → Run s log
    → LogTold (addrs_in (params_in s.hosts)) s.hosts log.hosts
run_told s log low run =
    subst (λ (r : RunLog). LogTold (addrs_in (params_in s.hosts)) s.hosts r.hosts) (sym run.2)
    (log_told (addrs_in (params_in s.hosts)) s.hosts run.0.world (end_told s run.0 low run.1))

as_many : (hosts : List HostLine) → length (names_of hosts) ≡ length (addrs_in (params_in hosts))
as_many [] = refl
as_many (h ∷ hs) = ap suc (as_many hs)

few_names : (addrs : List ℕ) (lines : List HostLine) (hosts : List HostRun) → LogTold addrs lines hosts
    → length hosts ≤ length (names_of lines)
few_names addrs lines hosts told =
    let one : length hosts ≡ length lines = same_count addrs lines hosts told in
    let two : length (names_of lines) ≡ length lines = length-map lines (λ (h : HostLine). h.name) in
    omega (arith, one, two)

-- What a run's log tells an auditor.
pub record IsAuditable (s : Scenario) (log : RunLog) : Type 0 where
  pub run : log.replay ≡ false
  pub names : report.names_of log.hosts ≡ names_of s.hosts
  pub fits : Each (IsLine (names_of s.hosts)) (lines_of log)
  pub told : AreTold (params_of s.hosts) (params_of s.hosts) log.hosts

pub run_auditable : (s : Scenario) (log : RunLog) → AreInRange s.hosts → Run s log → Fits log → IsAuditable s log
run_auditable s log range run fits =
    let low : AreAddrs (addrs_in (params_in s.hosts)) =
    low_addrs s.hosts log.hosts (hosts_named s log run) fits.hosts in
    let told : LogTold (addrs_in (params_in s.hosts)) s.hosts log.hosts = run_told s log low run in
    record {
      run = ap (λ (r : RunLog). r.replay) run.2;
      names = same_names (addrs_in (params_in s.hosts)) s.hosts log.hosts told;
      fits =
          log_fits (names_of s.hosts) (addrs_in (params_in s.hosts)) (as_many s.hosts) s.hosts log
          (few_names (addrs_in (params_in s.hosts)) s.hosts log.hosts told) fits
          (few_flows s.hosts log.hosts (hosts_opened s log run)) (few_read s log range run fits.hosts) told;
      told = all_told (params_in s.hosts) s.hosts log.hosts told (runs_sound s log range run);
    }

-- behind any text of its scenario that ends in a line
pub run_legal_behind : (text other : List ℕ) (s : Scenario) (log : RunLog) → reads text ≡ Ok s → reads other ≡ Ok s
    → Ends other → Run s log → Fits log
    → IsLegal (other ++ mark ++ report.report log) (flows_in log.hosts) (entries_in log.hosts)
run_legal_behind text other s log read back ends run fits =
    let a : IsAuditable s log =
    run_auditable s log (hosts_in_range s.hosts (read_in_range text s read).hosts) run fits in
    log_legal s other log back ends a.run (names_are text s read) a.names a.fits a.told

pub run_legal : (text : List ℕ) (s : Scenario) (log : RunLog) → reads text ≡ Ok s → Run s log → Fits log
    → IsLegal (canonical s ++ mark ++ report.report log) (flows_in log.hosts) (entries_in log.hosts)
run_legal text s log read run fits =
    run_legal_behind text (canonical s) s log read (canonical_read text s read) (canonical_ends s) run fits
