-- What an auditor finds in the report that was written.
use Rattle.std.proofs.Common.{◌≡◌, ℕ, Bool, true, false, List, [], Ok, IfSome, subst, ap, if◌then◌else◌}
use Rattle.tas_num.specs.Streams.{Wrote}
use Rattle.host_rounds.specs.Logs.{RunLog}
use Rattle.scenario_text.specs.declared.scenario.Scenario as scenarios
use Rattle.scenario_text.specs.Reads.{reads}
use Rattle.scenario_runs.specs.Runs.{Run}
use Rattle.tas_runs.specs.Report.{report}
use Rattle.tas_runs.specs.SentFrames.{capture}
use Rattle.log_ranges.specs.Ranges.{Fits}
use Rattle.audited_runs.proofs.Cutting.{text_ends}
use Rattle.audited_runs.proofs.Whole.{run_legal, run_legal_behind}
use Rattle.program_words.specs.Words.{form_of, Input, Scenario, Request, Asks}
use Rattle.tas_top.specs.Runs.{bytes_of, IsRunOf, IsRun, Given}
use Rattle.tas_top.specs.Outputs.{text_of, output, IsOfReport, IsJudgedLegal, WritesLegalReport}
use Rattle.tas_top.proofs.Causes.{of_input, IsAll}

-- what is written of a run where its report is asked for
report_out : (pcap : Bool) (input : Input) (log : RunLog) → input ≡ Scenario → pcap ≡ false
    → (if pcap then capture log else text_of input log) ≡ report log
report_out true input log is plain = absurd (cc (plain))
report_out false input log is plain = ap (λ (i : Input). text_of i log) is

-- the run of a scenario that was read from this text
judged : (text : List ℕ) (s : scenarios.Scenario) (log : RunLog) → reads text ≡ Ok s → Run s log → Fits log
    → IsJudgedLegal text s log
judged text s log read run fits = record {
  canonical = run_legal text s log read run fits;
  own = λ ends. run_legal_behind text text s log read read (text_ends text ends.0 ends.1) run fits;
}

pub writes_legal : (g : Given) (b : List ℕ) (r : Request) (log : RunLog) → IsAll g r b → Asks (form_of g.words) r
    → IsRun r b log → Wrote g.sink (Ok tt) g.written (output r log) [] → (IsOfReport r → Fits log)
    → WritesLegalReport g
writes_legal g b r log same asked run wrote fits = (r, asked, by_report) where
  Judged : List ℕ → Type 0
  Judged text = (s : scenarios.Scenario) × (log : RunLog) × (reads text ≡ Ok s) × IsRun r text log
      × Wrote g.sink (Ok tt) g.written (report log) [] × IsJudgedLegal text s log

  by_report : IsOfReport r → IfSome g.source.left Judged
  by_report is =
      let of : IsRunOf Scenario b log = subst (λ (i : Input). IsRunOf i b log) is.0 run.run in
      of_input g.source.left b Judged
      (subst (λ (i : Input). IfSome (bytes_of i g.source.left) (λ (bytes : List ℕ). b ≡ bytes)) is.0 same) (
        of.0,
        log,
        of.1,
        run,
        subst (λ (text : List ℕ). Wrote g.sink (Ok tt) g.written text []) (report_out r.pcap r.input log is.0 is.1)
            wrote,
        judged b of.0 log of.1 of.2 (fits is),
      )
