use Rattle.std.proofs.Common.{subst}
use Rattle.report_lines.specs.Views.{seen_entry}
use Rattle.trace_audit.specs.Watching.{FlowWatched}
use Rattle.trace_audit.specs.declared.watch.Watched.{Watched}
use Rattle.trace_audit.proofs.Judged.{judged_wrong, judged_right}
use Rattle.trace_audit.proofs.watch.Watched.take.Goals as goal

pub returns-in_ok-may-in-Judged-clause-wrong : goal.returns-in_ok-may-in-Judged-clause-wrong
returns-in_ok-may-in-Judged-clause-wrong c = λ may n flow comes right.
    judged_wrong c.args.hosts.now c.in-Judged.judge n (seen_entry c.args.entry.now)
    (subst (λ (w : Watched). FlowWatched c.args.hosts.now w n) c.in-Judged.is flow)
    (c.in_ok-may-in-Judged.ensures.wrong may) right

pub returns-in_ok-may-in-Judged-clause-right : goal.returns-in_ok-may-in-Judged-clause-right
returns-in_ok-may-in-Judged-clause-right c = λ may n flow comes.
    judged_right c.args.hosts.now c.in-Judged.judge _ n (seen_entry c.args.entry.now)
    (subst (λ (w : Watched). FlowWatched c.args.hosts.now w n) c.in-Judged.is flow) comes
    c.in_ok-may-in-Judged.ensures.params (c.in_ok-may-in-Judged.ensures.right may)
