use Rattle.std.proofs.Common.{List, length}
use Rattle.trace_audit.specs.TextLines.{text_lines}
use Rattle.report_picture.specs.Forms.{Said, AreOf}
use Rattle.report_picture.specs.Hosts.{seen_hosts}
use Rattle.report_picture.proofs.EndsRead.{HasGone}
use Rattle.report_picture.proofs.ends.ends_of.Given as goal

abbrev pub invariant-loop-line : goal.invariant-loop-line
invariant-loop-line l = (said : List Said)
    → AreOf l.fn.hosts.replay (seen_hosts l.fn.hosts).names (text_lines l.fn.report) said
    → HasGone (seen_hosts l.fn.hosts) l.ends l.fn.drawn l.fn.peer l.fn.other (text_lines l.rest) said

abbrev pub decreases-loop-line : goal.decreases-loop-line
decreases-loop-line l = length l.rest
