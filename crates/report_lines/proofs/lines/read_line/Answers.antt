use Rattle.std.proofs.Common.{◌≡◌, List, ℕ, map, ◌∙◌, ap, sym, Option, Some, None}
use Rattle.std.specs.Prelude.{IfSome}
use Rattle.std.specs.Option.{option_map}
use denote.Ref.{Bor}
use Rattle.report_lines.specs.Lines.{line_in}
use Rattle.report_lines.specs.Shown.{AreNames, IsLine, line_text}
use Rattle.report_lines.specs.Views.{seen_line}
use Rattle.report_lines.specs.declared.line.ReportLine.{ReportLine}
use Rattle.report_lines.proofs.LineTexts.{line_found, line_back}
use Rattle.report_lines.proofs.lines.read_line.Goals as goal

found_by : (names : List (List ℕ)) (text : List ℕ) → AreNames names → (r : Option ReportLine)
    → option_map seen_line r ≡ line_in names text
    → IfSome r (λ l. (line_text names (seen_line l) ≡ text) × IsLine names (seen_line l))
found_by names text ok None e = tt
found_by names text ok (Some l) e = line_found names ok text (seen_line l) (sym e)

first : (P Q : ReportLine → Type 0) (o : Option ReportLine) → IfSome o (λ x. P x × Q x) → IfSome o P
first P Q None h = tt
first P Q (Some x) h = h.0

second : (P Q : ReportLine → Type 0) (o : Option ReportLine) → IfSome o (λ x. P x × Q x) → IfSome o Q
second P Q None h = tt
second P Q (Some x) h = h.1

pub returns-clause-found : goal.returns-clause-found
returns-clause-found c =
    first (λ (l : ReportLine). line_text (map (λ (n : Bor (List ℕ)). n.now) c.args.names.now) (seen_line l) ≡
    c.args.text.now)
    (λ (l : ReportLine). IsLine (map (λ (n : Bor (List ℕ)). n.now) c.args.names.now) (seen_line l))
    c.line_alone.result
    (found_by (map (λ (n : Bor (List ℕ)). n.now) c.args.names.now) c.args.text.now c.requires.names
    c.line_alone.result
    c.line_alone.ensures)

pub returns-clause-shown : goal.returns-clause-shown
returns-clause-shown c =
    second (λ (l : ReportLine). line_text (map (λ (n : Bor (List ℕ)). n.now) c.args.names.now) (seen_line l) ≡
    c.args.text.now)
    (λ (l : ReportLine). IsLine (map (λ (n : Bor (List ℕ)). n.now) c.args.names.now) (seen_line l))
    c.line_alone.result
    (found_by (map (λ (n : Bor (List ℕ)). n.now) c.args.names.now) c.args.text.now c.requires.names
    c.line_alone.result
    c.line_alone.ensures)

pub returns-clause-only : goal.returns-clause-only
returns-clause-only c = λ l fits e.
    c.line_alone.ensures
    ∙ (ap (line_in (map (λ (n : Bor (List ℕ)). n.now) c.args.names.now)) (sym e)
    ∙ line_back (map (λ (n : Bor (List ℕ)). n.now) c.args.names.now) c.requires.names l fits)
