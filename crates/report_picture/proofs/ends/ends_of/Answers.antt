use Rattle.std.proofs.Common.{◌≡◌, List, ℕ, [], subst}
use Rattle.trace_audit.specs.TextLines.{text_lines}
use Rattle.report_picture.specs.Hosts.{seen_hosts}
use Rattle.report_picture.proofs.EndsRead.{HasGone, gone_none, gone_more, gone_all}
use Rattle.report_picture.proofs.ends.ends_of.Goals as goal

pub loop-line-init : goal.loop-line-init
loop-line-init c = λ said of.
    gone_none (seen_hosts c.args.hosts.now) c.new-ends.result c.args.drawn.now c.args.peer c.args.other
    (text_lines c.args.report.now) said (c.new-ends.ensures c.args.drawn.now c.args.peer c.args.other) of

pub loop-line-preserved : goal.loop-line-preserved
loop-line-preserved c = λ said of.
    gone_more (seen_hosts c.args.hosts.now) c.loop-line.ends c.take_text.new.self c.args.drawn.now c.args.peer
    c.args.other c.in-Some.line.now (text_lines c.in-Some.more.now) said c.in_ok-take_text.ensures
    (subst (λ (ts : List (List ℕ)). HasGone (seen_hosts c.args.hosts.now) c.loop-line.ends c.args.drawn.now c.args.peer
    c.args.other ts said) c.in-Some.ensures.lines (c.loop-line.invariant said of))

pub returns : goal.returns
returns c = λ lines report.
    gone_all (seen_hosts c.args.hosts.now) c.loop-line.ends c.args.drawn.now c.args.peer c.args.other
    (text_lines c.args.report.now) lines report
    (subst (λ (t : List ℕ). HasGone (seen_hosts c.args.hosts.now) c.loop-line.ends c.args.drawn.now c.args.peer
    c.args.other (text_lines t) report.0) c.in_default.ensures.lines (c.loop-line.invariant report.0 report.1))
