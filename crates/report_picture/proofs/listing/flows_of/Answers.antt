use Rattle.std.proofs.Common.{◌≡◌, ◌++◌, ◌∷◌, [], List, ℕ, ◌+◌, ap, sym, ◌∙◌, subst, refl, append_assoc, arith}
use Rattle.std.proofs.lemmas.List.{append-nil}
use Rattle.trace_audit.specs.TextLines.{text_lines}
use Rattle.report_picture.specs.Hosts.{seen_hosts}
use Rattle.report_picture.specs.Reading.{HasListed}
use Rattle.report_picture.proofs.Reports.{has_ended, fault_at, fault_end}
use Rattle.report_picture.proofs.listing.flows_of.Goals as goal

pub loop-line-init : goal.loop-line-init
loop-line-init c = record {
  listed = ([], c.new-listing.ensures.listed (seen_hosts c.args.hosts.now), refl);
  few = let none = c.new-listing.ensures.count in omega (arith, none);
}

pub returns-in-Ok-false-clause-unfound : goal.returns-in-Ok-false-clause-unfound
returns-in-Ok-false-clause-unfound c =
    let listed = c.loop-line.invariant.listed in
    fault_at (seen_hosts c.args.hosts.now) c.loop-line.listing (text_lines c.args.report.now) listed.0
    c.in-Some.line.now (text_lines c.in-Some.more.now) listed.1
    (listed.2 ∙ ap (λ (ts : List (List ℕ)). listed.0 ++ ts) c.in-Some.ensures.lines)
    (c.in-Ok-false.ensures.refused c.in-Ok-false.field-0-test listed.0 listed.1)

pub loop-line-preserved : goal.loop-line-preserved
loop-line-preserved c =
    let listed = c.loop-line.invariant.listed in
    let line = c.in-Some.line.now in
    let more = text_lines c.in-Some.more.now in
    let few = c.loop-line.invariant.few in
    let shorter = c.in-Some.ensures.shorter in
    let one = c.in-Ok-true.ensures.counted c.in-Ok-true.field-0-test in
    record {
      listed = (
        listed.0 ++ line ∷ [],
        c.in-Ok-true.ensures.taken c.in-Ok-true.field-0-test listed.0 listed.1,
        listed.2 ∙ (ap (λ (ts : List (List ℕ)). listed.0 ++ ts) c.in-Some.ensures.lines
            ∙ sym (append_assoc listed.0 (line ∷ []) more)),
      );
      few = omega (arith, few, shorter, one);
    }

pub returns-then-not-is_over-clause-unfound : goal.returns-then-not-is_over-clause-unfound
returns-then-not-is_over-clause-unfound c =
    let listed = c.loop-line.invariant.listed in
    fault_end (seen_hosts c.args.hosts.now) c.requires.names c.loop-line.listing (text_lines c.args.report.now) listed.0
    listed.1
    (listed.2 ∙ ap (λ (t : List ℕ). listed.0 ++ text_lines t) c.in_default.ensures.lines)
    (sym c.is_over.ensures ∙ c.if-not-is_over.true)

pub returns-clause-found : goal.returns-clause-found
returns-clause-found c =
    let listed = c.loop-line.invariant.listed in
    has_ended (seen_hosts c.args.hosts.now) c.loop-line.listing (text_lines c.args.report.now)
    (subst (λ (ts : List (List ℕ)). HasListed (seen_hosts c.args.hosts.now) c.loop-line.listing ts)
    (sym (listed.2 ∙ (ap (λ (t : List ℕ). listed.0 ++ text_lines t) c.in_default.ensures.lines
    ∙ append-nil listed.0))) listed.1)
    (sym c.is_over.ensures ∙ c.if-not-is_over.false)
