use Rattle.std.proofs.Common.{◌≡◌, [], fold, length}
use Rattle.report_lines.specs.Shown.{AreNames}
use Rattle.trace_audit.specs.TextLines.{text_lines}
use Rattle.report_picture.specs.Hosts.{seen_hosts, is_replay, with_text}
use Rattle.report_picture.proofs.hosts.hosts_of.Given as goal

abbrev pub invariant-loop-line : goal.invariant-loop-line
invariant-loop-line l = record {
  hosts : fold with_text (seen_hosts l.hosts) (text_lines l.rest)
      ≡ fold with_text (record { replay = is_replay l.fn.report; names = []; addrs = [] }) (text_lines l.fn.report);
  names : AreNames (seen_hosts l.hosts).names;
}

abbrev pub decreases-loop-line : goal.decreases-loop-line
decreases-loop-line l = length l.rest
