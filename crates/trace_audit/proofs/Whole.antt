-- What is found in a whole text, by what is found in its halves.
use Rattle.std.proofs.Common.{◌≡◌, ℕ, ◌+◌, List, [], ◌∷◌, length, take, Ok, Err, sym, ◌∙◌, ap}
use Rattle.std.proofs.Common.{inl, inr}
use Rattle.std.specs.Prelude.{◌≢◌, Result, IfOk}
use Rattle.tas_model.specs.Valid.{InRange}
use Rattle.host_rounds.specs.Lists.{Each}
use Rattle.scenario_text.specs.Reads.{reads}
use Rattle.scenario_text.specs.declared.scenario.HostLine.{HostLine}
use Rattle.scenario_text.specs.declared.scenario.Scenario.{Scenario}
use Rattle.scenario_text.specs.declared.reading.ScenarioFault.{ScenarioFault}
use Rattle.scenario_text.specs.declared.reading.ScenarioFault.TheVariants as scenario_faults
use Rattle.scenario_ranges.specs.Ranges.{IsHostInRange}
use Rattle.trace_audit.specs.TextLines.{text_lines}
use Rattle.trace_audit.specs.Forms.{params_of, IsForm}
use Rattle.trace_audit.specs.Verdicts.{IsFound, IsUnfound, fault_in}
use Rattle.trace_audit.specs.Watching.{HasHalves, IsReportVerdict}
use Rattle.trace_audit.specs.declared.auditing.Verdict.{Verdict}
use Rattle.trace_audit.specs.declared.auditing.Verdict.TheVariants as verdicts
use Rattle.trace_audit.specs.declared.auditing.AuditFault.{AuditFault}
use Rattle.trace_audit.specs.declared.halves.Halves.{Halves}

-- ----- a text with one
pub marked_fault : (text : List ℕ) (h : Halves) (fault : ScenarioFault) → HasHalves text h
    → (fault ≢ scenario_faults.OutOfMemory → reads h.scenario.now ≡ Err fault) → IsUnfound text (fault_in fault)
marked_fault text h scenario_faults.OutOfMemory has refused = tt
marked_fault text h (scenario_faults.Refused number kind) has refused =
    inr (inl (
      take h.count (text_lines text),
      text_lines h.report.now,
      has.halves,
      kind,
      ap reads (sym has.scenario) ∙ refused (λ same. absurd (cc (same))),
    ))

-- how many lines stand before the report's
before_is : (text : List ℕ) (h : Halves) → HasHalves text h → h.count + 1 ≡ length (take h.count (text_lines text)) + 1
before_is text h has = ap (λ (n : ℕ). n + 1) has.count

formed : (text : List ℕ) (h : Halves) (s : Scenario) (v : Verdict) → HasHalves text h → reads h.scenario.now ≡ Ok s
    → (r : IsReportVerdict s.hosts (h.count + 1) (text_lines h.report.now) v)
    → IsForm text (record { scenario = s; before = h.count + 1; lines = r.lines })
formed text h s v has is r = record {
  scenario = take h.count (text_lines text);
  report = text_lines h.report.now;
  halves = has.halves;
  before = before_is text h has;
  is = ap reads (sym has.scenario) ∙ is;
  lines = r.said;
  order = r.order;
}

pub whole_verdict : (text : List ℕ) (h : Halves) (s : Scenario) (v : Verdict) → HasHalves text h
    → reads h.scenario.now ≡ Ok s → IsReportVerdict s.hosts (h.count + 1) (text_lines h.report.now) v → IsFound text v
whole_verdict text h s (verdicts.Legal flows entries) has is r = record {
  said = record { scenario = s; before = h.count + 1; lines = r.lines };
  form = formed text h s (verdicts.Legal flows entries) has is r;
  right = r.found.0;
  flow_count = r.found.1;
  entry_count = r.found.2;
}
whole_verdict text h s (verdicts.Illegal number) has is r = record {
  said = record { scenario = s; before = h.count + 1; lines = r.lines };
  form = formed text h s (verdicts.Illegal number) has is r;
  line = r.found.0;
  wrong = r.found.1;
  place = r.found.2;
}

-- ----- the hosts
pub ranges_of : (hosts : List HostLine) → Each IsHostInRange hosts → Each InRange (params_of hosts)
ranges_of [] each = tt
ranges_of (h ∷ hs) each = (each.0.params, ranges_of hs each.1)

-- ----- an answer
pub found_so : (r : Result Verdict AuditFault) (P Q : Verdict → Type 0) → IfOk r P → ((v : Verdict) → P v → Q v)
    → IfOk r Q
found_so (Ok v) P Q is so = so v is
found_so (Err fault) P Q is so = tt
