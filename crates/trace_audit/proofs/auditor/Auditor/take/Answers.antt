use Rattle.std.proofs.Common.{◌≡◌, List, ℕ, [], ◌∷◌, ◌++◌, ◌+◌, Some, ap, subst, sym, ◌∙◌}
use Rattle.std.proofs.lemmas.List.{length-map}
use Rattle.tas_model.specs.declared.entry.HostParams.{HostParams}
use Rattle.report_lines.specs.Views.{seen_line}
use Rattle.report_form.specs.Places.{next_place, IsAt}
use Rattle.trace_audit.specs.Forms.{addrs_of}
use Rattle.trace_audit.specs.Shown.{shown}
use Rattle.trace_audit.specs.Watching.{Comes}
use Rattle.trace_audit.proofs.Coming.{comes_next}
use Rattle.trace_audit.proofs.auditor.Auditor.take.Goals as goal

pub returns-clause-taken : goal.returns-clause-taken
returns-clause-taken c = λ yes earlier read.
    let hosts = c.args.hosts.now in
    let line = seen_line c.in-Some.line in
    let place = c.in-Some-next.place in
    let at = subst (λ (as_ : List ℕ). IsAt as_ earlier c.args.self.now.place) (sym c.requires.addrs) read.place in
    let next = subst (λ (as_ : List ℕ). next_place as_ c.args.self.now.place line ≡ Some place) c.requires.addrs
    (sym c.next.ensures.exact ∙ c.in-Some-next.is) in
    record {
      said = line;
      is = c.in-Some.ensures.found;
      read = record {
        place = subst (λ (as_ : List ℕ). IsAt as_ (earlier ++ line ∷ []) place) c.requires.addrs
            (c.in-Some-next.ensures.beginning earlier at);
        counts = c.with_line-counts.ensures.counted earlier read.counts;
        judged = c.in_ok-self.ensures.judged earlier read.judged
            (subst (λ (n : ℕ). Comes n (shown earlier) line) (length-map hosts (λ (p : HostParams). p.addr))
            (comes_next (addrs_of hosts) earlier c.args.self.now.place line place read.place next))
            (c.with_line-counts.ensures.lines ∙ ap (λ (n : ℕ). n + 1) read.counts.lines);
      };
    }
