-- What an auditor knows of the lines that it has read.
use Rattle.std.specs.Prelude.{◌≡◌, ℕ, ◌+◌, ◌<◌, ◌≤◌, List, [], ◌∷◌, ◌++◌, length, take, count_by, slice_get}
use Rattle.std.specs.Prelude.{Option, Some, None, IfSome, ⊤}
use Rattle.std.specs.List.{concat}
use Rattle.tas_model.specs.declared.entry.Entry.{Entry}
use Rattle.tas_model.specs.declared.entry.HostParams.{HostParams}
use Rattle.tas_model.specs.Valid.{InRange}
use Rattle.scenario_text.specs.declared.scenario.HostLine.{HostLine}
use Rattle.report_lines.specs.Lines.{Line, Begins, Made, State, Read}
use Rattle.report_form.specs.Places.{IsAt}
use Rattle.report_form.specs.Reports.{IsReport}
use Rattle.flow_judge.specs.Judging.{Judge, HasJudged}
use Rattle.trace_audit.specs.TextLines.{text_lines, AreHalves}
use Rattle.trace_audit.specs.Forms.{IsSaid, AreSaid, IsFault, names_of, params_of, addrs_of}
use Rattle.trace_audit.specs.Shown.{ShownFlow, Now, shown, begun}
use Rattle.trace_audit.specs.Right.{IsRight, AreRight, IsFirstWrong}
use Rattle.trace_audit.specs.Verdicts.{begins_flow, is_entry}
use Rattle.trace_audit.specs.declared.auditing.Verdict.{Verdict}
use Rattle.trace_audit.specs.declared.auditing.Verdict.TheVariants as verdicts
use Rattle.trace_audit.specs.declared.auditing.AuditFault.{AuditFault}
use Rattle.trace_audit.specs.declared.auditing.AuditFault.TheVariants as faults
use Rattle.trace_audit.specs.declared.counts.Counts.{Counts}
use Rattle.trace_audit.specs.declared.halves.Halves.{Halves}
use Rattle.trace_audit.specs.declared.watch.Begun.{Begun}
use Rattle.trace_audit.specs.declared.watch.Watched.{Watched}
use Rattle.trace_audit.specs.declared.watch.Watched.TheVariants as watched
use Rattle.trace_audit.specs.declared.watch.Watch.{Watch}
use Rattle.trace_audit.specs.declared.auditor.Auditor.{Auditor}

-- ----- which line may come
abbrev pub IsOpen : ShownFlow → Type 0
IsOpen f = (f.state ≡ None) × (f.read ≡ None)

abbrev pub HasEntries : ShownFlow → Type 0
HasEntries f = (x : Entry) × (xs : List Entry) × (f.entries ≡ x ∷ xs)

-- What is shown where a line comes, of so many hosts: a flow is one of a host that there is; entries come before the
-- state, the state before what was read, and both behind an entry.
abbrev pub Comes : (hosts : ℕ) → Now → Line → Type 0
Comes hosts n (Begins number id tuple) = n.host < hosts
Comes hosts n (Made x) = IfSome n.flow IsOpen
Comes hosts n (State phase reason) = IfSome n.flow (λ f. HasEntries f × IsOpen f)
Comes hosts n (Read count bytes) = IfSome n.flow (λ f. HasEntries f × (f.read ≡ None))
Comes hosts n _ = ⊤

-- ----- the flow that is shown
-- It begins.
pub record HasBegun (hosts : List HostParams) (b : Begun) (n : Now) : Type 0 where
  pub flow : n.flow ≡ Some (begun b.tuple)
  pub params : slice_get hosts n.host ≡ Some b.params

-- It is right so far, and judged.
pub record IsJudged (hosts : List HostParams) (j : Judge) (n : Now) : Type 0 where
  pub shown : ShownFlow
  pub flow : n.flow ≡ Some shown
  pub params : slice_get hosts n.host ≡ Some j.params
  pub some : HasEntries shown
  pub judged : HasJudged j shown.entries
  pub right : IsRight hosts j.params shown

abbrev pub FlowWatched : (hosts : List HostParams) → Watched → Now → Type 0
FlowWatched hosts watched.Nothing n = n.flow ≡ None
FlowWatched hosts (watched.Begun b) n = HasBegun hosts b n
FlowWatched hosts (watched.Judged j) n = IsJudged hosts j n

-- The watch shows what is shown, and that is right.
pub record Watches (hosts : List HostParams) (w : Watch) (n : Now) : Type 0 where
  pub host : w.host ≡ n.host
  pub flow : FlowWatched hosts w.flow n

-- ----- all lines
pub record AreCounted (c : Counts) (read : List Line) : Type 0 where
  pub lines : c.lines ≡ length read
  pub flows : c.flows ≡ count_by begins_flow read
  pub entries : c.entries ≡ count_by is_entry read

-- up to each line the flow is right, or this is the first up to which it is not
abbrev pub IsJudgedBy : (hosts : List HostParams) → (wrong : Option ℕ) → Watch → List Line → Type 0
IsJudgedBy hosts None w lines = AreRight hosts lines × Watches hosts w (shown lines)
IsJudgedBy hosts (Some number) w lines = IsFirstWrong hosts lines number

-- The auditor has read these lines, with which a report begins.
pub record HasRead (hosts : List HostParams) (a : Auditor) (lines : List Line) : Type 0 where
  pub place : IsAt (addrs_of hosts) lines a.place
  pub counts : AreCounted a.counts lines
  pub judged : IsJudgedBy hosts a.wrong a.watch lines

-- It has read one line more, of this text.
pub record HasTaken (names : List (List ℕ)) (hosts : List HostParams) (a : Auditor) (earlier : List Line)
    (text : List ℕ) : Type 0 where
  pub said : Line
  pub is : IsSaid names text said
  pub read : HasRead hosts a (earlier ++ said ∷ [])

-- ----- what the auditor owes itself
-- a flow that begins is of a host whose parameters are in their ranges
abbrev pub IsReady : Watched → Type 0
IsReady (watched.Begun b) = InRange b.params
IsReady _ = ⊤

-- no count is above that of the lines
pub record IsBounded (a : Auditor) : Type 0 where
  pub ready : IsReady a.watch.flow
  pub flows : a.counts.flows ≤ a.counts.lines
  pub entries : a.counts.entries ≤ a.counts.lines
  pub wrong : IfSome a.wrong (λ n. n ≤ a.counts.lines)

-- ----- the whole report
-- So many of these lines have been read.
pub record HasReadSome (names : List (List ℕ)) (hosts : List HostParams) (a : Auditor) (texts : List (List ℕ))
    (count : ℕ) : Type 0 where
  pub lines : List Line
  pub said : AreSaid names (take count texts) lines
  pub read : HasRead hosts a lines

-- what is found behind so many lines
abbrev pub verdict_of : (before : ℕ) → (wrong : Option ℕ) → Counts → Verdict
verdict_of before (Some number) c = verdicts.Illegal (before + number)
verdict_of before None c = verdicts.Legal c.flows c.entries

abbrev pub IsVerdictOn : (hosts : List HostParams) → (before : ℕ) → List Line → Verdict → Type 0
IsVerdictOn hosts before lines (verdicts.Legal flows entries) =
    AreRight hosts lines × (flows ≡ count_by begins_flow lines) × (entries ≡ count_by is_entry lines)
IsVerdictOn hosts before lines (verdicts.Illegal number) =
    (line : ℕ) × IsFirstWrong hosts lines line × (number ≡ before + line)

-- The lines behind so many are a report of these hosts, and this is found in it.
pub record IsReportVerdict (hosts : List HostLine) (before : ℕ) (texts : List (List ℕ)) (v : Verdict) : Type 0 where
  pub lines : List Line
  pub said : AreSaid (names_of hosts) texts lines
  pub order : IsReport (addrs_of (params_of hosts)) lines
  pub found : IsVerdictOn (params_of hosts) before lines v

-- They are none, and this is the line at fault; want of memory is free.
abbrev pub IsReportFault : List HostLine → (before : ℕ) → (texts : List (List ℕ)) → AuditFault → Type 0
IsReportFault hosts before texts faults.OutOfMemory = ⊤
IsReportFault hosts before texts (faults.Refused number) =
    (right : ℕ) × IsFault hosts texts right × (number ≡ before + right + 1)

-- The halves of a text, as the code has them.
pub record HasHalves (text : List ℕ) (h : Halves) : Type 0 where
  pub halves : AreHalves text (take h.count (text_lines text)) (text_lines h.report.now)
  pub scenario : h.scenario.now ≡ concat (take h.count (text_lines text))
  pub count : h.count ≡ length (take h.count (text_lines text))
  pub few : h.count + length h.report.now + 1 ≤ length text
