use Rattle.std.proofs.Common.{◌≡◌, ◌++◌, ◌∷◌, [], List, ℕ, ◌+◌, Some, None, ap, sym, ◌∙◌, subst, length}
use Rattle.std.proofs.Common.{length-append, arith}
use Rattle.std.proofs.lemmas.Option.{same_Some}
use Rattle.report_picture.specs.Forms.{Said, seen_said}
use Rattle.report_picture.specs.Hosts.{seen_hosts}
use Rattle.report_picture.specs.Reading.{plain, begun_by, above_by}
use Rattle.report_picture.specs.declared.flows.Flow.{Flow}
use Rattle.report_picture.specs.Stages.{start}
use Rattle.report_picture.proofs.Leading.{led_one}
use Rattle.report_picture.proofs.Reports.{not_begun, not_said, above_said, flows_said}
use Rattle.report_picture.proofs.SaidLines.{of_more}
use Rattle.report_picture.proofs.listing.Listing.take.Goals as goal

pub returns-in_default-clause-refused : goal.returns-in_default-clause-refused
returns-in_default-clause-refused c = λ never before has.
    not_said (seen_hosts c.args.hosts.now) before c.args.text.now
    (λ s of. absurd (cc (c.in_default.ensures.only s of)))

pub returns-in_default-next_by-clause-refused : goal.returns-in_default-next_by-clause-refused
returns-in_default-next_by-clause-refused c = λ never before has.
    not_begun (seen_hosts c.args.hosts.now) c.requires.names c.args.self.now before c.args.text.now
    (seen_said c.in-Some.said) has
    (λ s of. same_Some (seen_said c.in-Some.said) s (c.in-Some.ensures.only s of))
    (sym c.next_by.ensures ∙ c.in_default-next_by.is)

pub returns-clause-taken : goal.returns-clause-taken
returns-clause-taken c = λ so before has.
    let said = seen_said c.in-Some.said in
    let n = seen_hosts c.args.hosts.now in
    record {
      said = has.said ++ said ∷ [];
      of = of_more n.replay n.names before has.said c.args.text.now said has.of c.in-Some.ensures.found;
      at = led_one n.replay n.addrs start c.args.self.now.stage c.in-Some-next_by.stage has.said said has.at
          (sym c.next_by.ensures ∙ c.in-Some-next_by.is);
      above = c.in_ok-take_said.ensures.above ∙ above_said has.said said c.args.self.now.above has.above;
      flows = c.in_ok-take_said.ensures.flows
          ∙ (ap (λ (fs : List Flow). fs ++ begun_by c.args.self.now.above said) has.flows
          ∙ flows_said has.said said c.args.self.now.above has.above);
      count = ap (λ (k : ℕ). k + 1) (c.in_ok-take_said.ensures.count ∙ has.count)
          ∙ sym (length-append before (c.args.text.now ∷ []));
    }
