use Rattle.std.proofs.Common.{◌≡◌, List, ℕ, map, Option, Some, ap, sym, ◌∙◌}
use Rattle.std.specs.Prelude.{bytes_eq}
use denote.Ref.{Bor}
use Rattle.std.proofs.lemmas.Option.{same_Some}
use Rattle.report_lines.specs.Lines.{Line}
use Rattle.report_lines.specs.Views.{seen_line}
use Rattle.report_picture.specs.Hosts.{replay_title}
use Rattle.report_picture.specs.Forms.{Said, Plain, is_counts, is_run_title}
use Rattle.report_picture.proofs.SaidLines.{IsLater, later_in_replay}
use Rattle.report_picture.proofs.said.later_line.Goals as goal

pub returns-in_err-line-clause-only : goal.returns-in_err-line-clause-only
returns-in_err-line-clause-only c = λ s of.
    let names = map (λ (n : Bor (List ℕ)). n.now) c.args.names.now in
    let later : IsLater names c.args.text.now s = later_in_replay names c.args.text.now
    (bytes_eq c.args.text.now replay_title) (is_counts c.args.text.now) s c.requires.title c.requires.counts of in
    absurd (cc (c.in_err-line.ensures.only later.said later.is))

pub returns-then-is_run_title-clause-only : goal.returns-then-is_run_title-clause-only
returns-then-is_run_title-clause-only c = λ s of.
    let names = map (λ (n : Bor (List ℕ)). n.now) c.args.names.now in
    let later : IsLater names c.args.text.now s = later_in_replay names c.args.text.now
    (bytes_eq c.args.text.now replay_title) (is_counts c.args.text.now) s c.requires.title c.requires.counts of in
    let same : seen_line c.in_ok-line.line ≡ later.said =
    same_Some (seen_line c.in_ok-line.line) later.said (c.in_ok-line.ensures.only later.said later.is) in
    absurd (cc (ap is_run_title same, later.other, c.is_run_title.ensures, c.if-is_run_title.true))

pub returns-clause-only : goal.returns-clause-only
returns-clause-only c = λ s of.
    let names = map (λ (n : Bor (List ℕ)). n.now) c.args.names.now in
    let later : IsLater names c.args.text.now s = later_in_replay names c.args.text.now
    (bytes_eq c.args.text.now replay_title) (is_counts c.args.text.now) s c.requires.title c.requires.counts of in
    let same : seen_line c.in_ok-line.line ≡ later.said =
    same_Some (seen_line c.in_ok-line.line) later.said (c.in_ok-line.ensures.only later.said later.is) in
    ap (λ (l : Line). Some (Plain l)) same ∙ ap (λ (x : Said). Some x) (sym later.shown)
