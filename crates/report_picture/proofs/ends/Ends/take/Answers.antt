use Rattle.std.proofs.Common.{Some, ap, sym, ◌∙◌}
use Rattle.report_lines.specs.Views.{seen_line}
use Rattle.report_picture.specs.Flows.{with_line}
use Rattle.report_picture.specs.declared.flows.Above.{Above}
use Rattle.report_picture.proofs.Shown.{above_more, shown_more}
use Rattle.report_picture.proofs.ends.Ends.take.Goals as goal

pub returns : goal.returns
returns c = λ lines shown. record {
  above = c.with_line-self.ensures
      ∙ (ap (λ (a : Above). with_line a (seen_line c.args.line.now)) shown.above
      ∙ sym (above_more lines (seen_line c.args.line.now)));
  ours = shown_more c.args.self.now.ours c.take.new.self (Some c.args.drawn.now) (Some c.args.drawn.now.host)
      c.args.self.now.above lines (seen_line c.args.line.now) shown.ours shown.above c.in_ok-take.ensures.rows
      c.in_ok-take.ensures.known c.in_ok-take.ensures.log;
  theirs = shown_more c.args.self.now.theirs c.take-2.new.self c.args.other c.args.peer c.args.self.now.above lines
      (seen_line c.args.line.now) shown.theirs shown.above c.in_ok-take-2.ensures.rows c.in_ok-take-2.ensures.known
      c.in_ok-take-2.ensures.log;
}
