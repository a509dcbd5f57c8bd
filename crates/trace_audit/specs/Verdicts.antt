-- What an audit finds.
use Rattle.std.specs.Prelude.{◌≡◌, ℕ, ◌+◌, Bool, true, false, List, count_by, ⊤}
use Rattle.scenario_text.specs.declared.reading.ScenarioFault.{ScenarioFault}
use Rattle.scenario_text.specs.declared.reading.ScenarioFault.TheVariants as scenario_faults
use Rattle.report_lines.specs.Lines.{Line, Begins, Made}
use Rattle.trace_audit.specs.Forms.{Said, IsForm, IsRefused, params_of}
use Rattle.trace_audit.specs.Right.{AreRight, IsFirstWrong}
use Rattle.trace_audit.specs.declared.auditing.Verdict.{Verdict}
use Rattle.trace_audit.specs.declared.auditing.Verdict.TheVariants as verdicts
use Rattle.trace_audit.specs.declared.auditing.AuditFault.{AuditFault}
use Rattle.trace_audit.specs.declared.auditing.AuditFault.TheVariants as faults

-- ----- counts
abbrev pub begins_flow : Line → Bool
begins_flow (Begins number id tuple) = true
begins_flow _ = false

abbrev pub is_entry : Line → Bool
is_entry (Made x) = true
is_entry _ = false

-- ----- verdicts
-- The text is of its form, and each of its flows is right up to its last line; so many flows with so many entries.
pub record IsLegal (text : List ℕ) (flows entries : ℕ) : Type 0 where
  pub said : Said
  pub form : IsForm text said
  pub right : AreRight (params_of said.scenario.hosts) said.lines
  pub flow_count : flows ≡ count_by begins_flow said.lines
  pub entry_count : entries ≡ count_by is_entry said.lines

-- The text is of its form, and the line of this number is the least up to which its flow is not right.
pub record IsIllegal (text : List ℕ) (number : ℕ) : Type 0 where
  pub said : Said
  pub form : IsForm text said
  pub line : ℕ
  pub wrong : IsFirstWrong (params_of said.scenario.hosts) said.lines line
  pub place : number ≡ said.before + line

abbrev pub IsFound : (text : List ℕ) → Verdict → Type 0
IsFound text (verdicts.Legal flows entries) = IsLegal text flows entries
IsFound text (verdicts.Illegal number) = IsIllegal text number

-- A text has no verdict where it is not of its form; want of memory is free.
abbrev pub IsUnfound : (text : List ℕ) → AuditFault → Type 0
IsUnfound text faults.OutOfMemory = ⊤
IsUnfound text (faults.Refused number) = IsRefused text number

-- the fault that a scenario's is
abbrev pub fault_in : ScenarioFault → AuditFault
fault_in scenario_faults.OutOfMemory = faults.OutOfMemory
fault_in (scenario_faults.Refused number kind) = faults.Refused number
