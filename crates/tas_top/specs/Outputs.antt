-- What the program writes.
use Rattle.std.specs.Prelude.{◌≡◌, ◌⊎◌, ℕ, ◌≤◌, false, List, [], length, Some, IfSome, Ok, Err, if◌then◌else◌}
use Rattle.tas_num.specs.Causes.{Rose}
use Rattle.tas_num.specs.Streams.{Wrote}
use Rattle.tas_num.specs.declared.outside.IoFault.{IoFault}
use Rattle.host_rounds.specs.Logs.{RunLog}
use Rattle.scenario_text.specs.declared.scenario.Scenario as scenarios
use Rattle.scenario_text.specs.Reads.{reads}
use Rattle.tas_runs.specs.Report.{report}
use Rattle.tas_runs.specs.Summary.{summary}
use Rattle.tas_runs.specs.SentFrames.{capture}
use Rattle.trace_audit.specs.Verdicts.{IsLegal}
use Rattle.audited_runs.specs.Audited.{audited, audited_text, EndsInLine}
use Rattle.audited_runs.specs.LogLines.{flows_in, entries_in}
use Rattle.program_words.specs.Words.{form_of, Input, Scenario, Made, Request, Asks, most_bytes}
use Rattle.tas_top.specs.Runs.{bytes_of, IsInput, IsRun, Given, Ran}

-- the text of a run: of a made scenario its summary, and else its report
abbrev pub text_of : Input → RunLog → List ℕ
text_of (Made clients) log = summary clients log
text_of _ log = report log

-- What is written of a run: the capture of the frames that it sent, where that is asked for, and else its text.
abbrev pub output : Request → RunLog → List ℕ
output r log = if r.pcap then capture log else text_of r.input log

-- the status where all of it is written
abbrev pub end_status : RunLog → ℕ
end_status log = if log.stalled then 1 else 0

-- The sink grew by exactly the text of the run, and the status says whether it is stalled.
abbrev pub WritesAll : Given → (status : ℕ) → Type 0
WritesAll g status =
    Ran g (λ r log. Wrote g.sink (Ok tt) g.written (output r log) [] × (status ≡ end_status log))

-- ----- what an auditor finds in it
-- the words ask for the report of a scenario's run
abbrev pub IsOfReport : Request → Type 0
IsOfReport r = (r.input ≡ Scenario) × (r.pcap ≡ false)

-- Behind the scenario's canonical text and a line `==` the report is judged legal, with as many flows and entries as
-- the log has; and so it is behind the input, where the last line of that ends.
pub record IsJudgedLegal (input : List ℕ) (s : scenarios.Scenario) (log : RunLog) : Type 0 where
  pub canonical : IsLegal (audited s log) (flows_in log.hosts) (entries_in log.hosts)
  pub own : EndsInLine input → IsLegal (audited_text input log) (flows_in log.hosts) (entries_in log.hosts)

-- Where they ask for that, and the bytes of the input are told, the sink grew by a report that is judged legal.
abbrev pub WritesLegalReport : Given → Type 0
WritesLegalReport g =
    (r : Request) × Asks (form_of g.words) r
    × (IsOfReport r → IfSome g.source.left (λ b.
    (s : scenarios.Scenario) × (log : RunLog) × (reads b ≡ Ok s) × IsRun r b log
    × Wrote g.sink (Ok tt) g.written (report log) [] × IsJudgedLegal b s log))

-- ----- a front of it
-- The sink is as it was, or it grew by a front of the text of the run: by what a write of it did before a fault.
abbrev pub WritesFront : Given → Type 0
WritesFront g =
    (g.written ≡ g.sink)
    ⊎ Ran g (λ r log. (fault : IoFault) × Wrote g.sink (Err fault) g.written (output r log) [])

-- The words ask for a run, the input is told and is one of its kind within its length, and no count of faults rose. The
-- input of a made scenario is none at all, so that its words are all that it needs.
pub record IsWhole (g : Given) : Type 0 where
  pub request : Request
  pub asked : Asks (form_of g.words) request
  pub input : List ℕ
  pub told : bytes_of request.input g.source.left ≡ Some input
  pub short : length input ≤ most_bytes g.words
  pub reads : IsInput request.input input
  pub read : ¬ Rose g.source.faults g.read.faults
  pub written : ¬ Rose g.sink.faults g.written.faults
