use Rattle.std.proofs.Common.{◌+◌, List, IfOk, subst, sym}
use Rattle.tas_model.specs.Valid.{InRange}
use Rattle.host_rounds.specs.Lists.{Each}
use Rattle.report_lines.specs.Shown.{AreNames}
use Rattle.scenario_text.specs.declared.scenario.HostLine.{HostLine}
use Rattle.trace_audit.specs.TextLines.{text_lines}
use Rattle.trace_audit.specs.Forms.{names_of, params_of}
use Rattle.trace_audit.specs.Verdicts.{IsFound, IsUnfound}
use Rattle.trace_audit.specs.Watching.{IsReportVerdict}
use Rattle.trace_audit.proofs.HostNames.{names_are}
use Rattle.trace_audit.proofs.Whole.{marked_fault, whole_verdict, found_so, ranges_of}
use Rattle.trace_audit.proofs.auditing.audited.Goals as goal

pub judged-requires-clause-names : goal.judged-requires-clause-names
judged-requires-clause-names c =
    subst (λ (l : List HostLine). AreNames (names_of l)) (sym c.as_slice.ensures)
    (names_are c.args.halves.now.scenario.now c.in-Ok.scenario c.in-Ok.ensures.read)

pub judged-requires-clause-ranges : goal.judged-requires-clause-ranges
judged-requires-clause-ranges c =
    subst (λ (l : List HostLine). Each InRange (params_of l)) (sym c.as_slice.ensures)
    (ranges_of c.in-Ok.scenario.hosts
    (c.what_is_read_is_in_range.ensures c.args.halves.now.scenario.now c.in-Ok.scenario c.in-Ok.ensures.read).hosts)

pub returns-in-Ok-clause-found : goal.returns-in-Ok-clause-found
returns-in-Ok-clause-found c =
    found_so c.judged.result
    (IsReportVerdict c.in-Ok.scenario.hosts (c.args.halves.now.count + 1) (text_lines c.args.halves.now.report.now))
    (IsFound c.args.text.now)
    (subst (λ (l : List HostLine). IfOk c.judged.result (IsReportVerdict l (c.args.halves.now.count + 1)
    (text_lines c.args.halves.now.report.now))) c.as_slice.ensures c.judged.ensures.found)
    (λ v. whole_verdict c.args.text.now c.args.halves.now c.in-Ok.scenario v c.requires c.in-Ok.ensures.read)

pub returns-in-Err-clause-unfound : goal.returns-in-Err-clause-unfound
returns-in-Err-clause-unfound c =
    subst (IsUnfound c.args.text.now) (sym c.fault_of.ensures)
    (marked_fault c.args.text.now c.args.halves.now c.in-Err.fault c.requires c.in-Err.ensures.refused)
