use Rattle.std.proofs.Common.{◌≡◌, ◌≤◌, ◌+◌, ◌++◌, List, ℕ, length}
use Rattle.trace_audit.specs.TextLines.{text_lines}
use Rattle.report_picture.specs.Hosts.{seen_hosts}
use Rattle.report_picture.specs.Reading.{HasListed}
use Rattle.report_picture.proofs.listing.flows_of.Given as goal

abbrev pub invariant-loop-line : goal.invariant-loop-line
invariant-loop-line l = record {
  listed : (before : List (List ℕ)) × HasListed (seen_hosts l.fn.hosts) l.listing before
      × (text_lines l.fn.report ≡ before ++ text_lines l.rest);
  few : l.listing.count + length l.rest ≤ length l.fn.report;
}

abbrev pub decreases-loop-line : goal.decreases-loop-line
decreases-loop-line l = length l.rest
