-- Which texts are a report, of a run or of a replay, and at which line a text is none.
use Rattle.std.specs.Prelude.{◌≡◌, ℕ, ◌+◌, Bool, true, false, List, [], ◌∷◌, ◌++◌, length, map, codes, bytes_eq, ⊤}
use Rattle.std.specs.Prelude.{Option, Some, None, is_some}
use Rattle.report_lines.specs.Fronts.{behind}
use Rattle.report_lines.specs.Lines.{Line, Title, End}
use Rattle.report_lines.specs.Views.{seen_line}
use Rattle.report_form.specs.Reports.{IsReport}
use Rattle.trace_audit.specs.TextLines.{text_lines}
use Rattle.trace_audit.specs.Forms.{IsSaid}
use Rattle.report_picture.specs.Hosts.{Named, replay_title, hosts_in}
use Rattle.report_picture.specs.declared.said.SaidLine.{SaidLine}
use Rattle.report_picture.specs.declared.said.SaidLine.TheVariants as said_lines

-- ----- what a line says
-- What a line of a run's report says, or that it is a replay's line of counts.
pub data Said : Type 0 where
  Plain : Line → Said
  Counts : Said

abbrev pub seen_said : SaidLine → Said
seen_said (said_lines.Plain line) = Plain (seen_line line)
seen_said said_lines.Counts = Counts

-- a line of counts is looked at no further than its first word
abbrev pub is_counts : (text : List ℕ) → Bool
is_counts text = is_some (behind (codes "records ") text)

abbrev pub is_run_title : Line → Bool
is_run_title Title = true
is_run_title _ = false

-- In a replay: its own title stands for that of a run, then there are counts, and every other line is a run's.
abbrev pub IsOfReplay : (title counts : Bool) → (names : List (List ℕ)) → (text : List ℕ) → Said → Type 0
IsOfReplay true counts names text said = said ≡ Plain Title
IsOfReplay false true names text said = said ≡ Counts
IsOfReplay false false names text Counts = ⊥
IsOfReplay false false names text (Plain Title) = ⊥
IsOfReplay false false names text (Plain l) = IsSaid names text l

-- A line of a text says this.
abbrev pub IsOf : (replay : Bool) → (names : List (List ℕ)) → (text : List ℕ) → Said → Type 0
IsOf false names text Counts = ⊥
IsOf false names text (Plain l) = IsSaid names text l
IsOf true names text said = IsOfReplay (bytes_eq text replay_title) (is_counts text) names text said

-- Lines of a text say these.
abbrev pub AreOf : (replay : Bool) → (names : List (List ℕ)) → (texts : List (List ℕ)) → List Said → Type 0
AreOf replay names [] [] = ⊤
AreOf replay names [] (s ∷ ss) = ⊥
AreOf replay names (text ∷ texts) [] = ⊥
AreOf replay names (text ∷ texts) (s ∷ ss) = IsOf replay names text s × AreOf replay names texts ss

-- ----- reports
-- A replay's report is one of a run, of its one host, with the counts above the last line.
pub record IsReplay (addrs : List ℕ) (said : List Said) (lines : List Line) : Type 0 where
  pub front : List Line
  pub ticks : ℕ
  pub is : lines ≡ front ++ End ticks ∷ []
  pub shown : said ≡ map Plain front ++ Counts ∷ Plain (End ticks) ∷ []
  pub order : IsReport addrs lines

-- What is said is a report of hosts with these addresses; its lines are those of a run.
abbrev pub IsReportOf : (replay : Bool) → (addrs : List ℕ) → List Said → List Line → Type 0
IsReportOf false addrs said lines = (said ≡ map Plain lines) × IsReport addrs lines
IsReportOf true addrs said lines = IsReplay addrs said lines

-- These lines of a text are a report of hosts that are named so, and say the lines of it.
abbrev pub AreReport : Named → (texts : List (List ℕ)) → List Line → Type 0
AreReport n texts lines =
    (said : List Said) × AreOf n.replay n.names texts said × IsReportOf n.replay n.addrs said lines

-- They are what such a report begins with.
abbrev pub BeginReport : Named → (texts : List (List ℕ)) → Type 0
BeginReport n texts = (said rest : List Said) × (lines : List Line) × AreOf n.replay n.names texts said
    × IsReportOf n.replay n.addrs (said ++ rest) lines

-- A text is a report of the hosts that it names, and says the lines of it.
abbrev pub IsForm : (text : List ℕ) → List Line → Type 0
IsForm text lines = AreReport (hosts_in text) (text_lines text) lines

-- ----- a text that is none
-- the next line is at fault: with it no report begins; or the lines end here and are no report
abbrev pub IsWrong : Named → (before rest : List (List ℕ)) → Type 0
IsWrong n before [] = (lines : List Line) → AreReport n before lines → ⊥
IsWrong n before (line ∷ rest) = BeginReport n (before ++ line ∷ []) → ⊥

-- Of these lines the one of this number, counted from 1, is the earliest that is at fault.
pub record IsFaultIn (n : Named) (texts : List (List ℕ)) (number : ℕ) : Type 0 where
  pub before : List (List ℕ)
  pub rest : List (List ℕ)
  pub texts_are : texts ≡ before ++ rest
  pub place : number ≡ length before + 1
  pub right : BeginReport n before
  pub wrong : IsWrong n before rest

-- A text is refused at the line of this number.
abbrev pub IsFault : (text : List ℕ) → (number : ℕ) → Type 0
IsFault text number = IsFaultIn (hosts_in text) (text_lines text) number
