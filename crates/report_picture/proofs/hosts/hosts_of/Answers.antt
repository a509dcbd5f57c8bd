use Rattle.std.proofs.Common.{List, ℕ, fold, subst, sym, ap, ◌∙◌}
use Rattle.report_lines.specs.Shown.{AreNames}
use Rattle.trace_audit.specs.TextLines.{text_lines}
use Rattle.report_picture.specs.Hosts.{Named, seen_hosts, with_text, hosts_in}
use Rattle.report_picture.proofs.HostNames.{names_kept}
use Rattle.report_picture.proofs.hosts.hosts_of.Goals as goal

pub loop-line-preserved : goal.loop-line-preserved
loop-line-preserved c =
    let old = seen_hosts c.loop-line.hosts in
    let line = c.in-Some.line.now in
    let more = text_lines c.in-Some.more.now in
    record {
      hosts = ap (λ (n : Named). fold with_text n more) c.in_ok-take.ensures
          ∙ (sym (ap (λ (ts : List (List ℕ)). fold with_text old ts) c.in-Some.ensures.lines)
          ∙ c.loop-line.invariant.hosts);
      names = subst (λ (n : Named). AreNames n.names) (sym c.in_ok-take.ensures)
          (names_kept old line c.loop-line.invariant.names);
    }

pub returns-clause-hosts : goal.returns-clause-hosts
unfolding hosts_in
returns-clause-hosts c =
    sym (ap (λ (t : List ℕ). fold with_text (seen_hosts c.loop-line.hosts) (text_lines t)) c.in_default.ensures.lines)
    ∙ c.loop-line.invariant.hosts
