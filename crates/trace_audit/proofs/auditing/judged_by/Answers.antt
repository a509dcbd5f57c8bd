use Rattle.std.proofs.Common.{◌≡◌, List, ℕ, ◌+◌, suc, map, drop, ap, subst, sym, ◌∙◌, arith}
use Rattle.std.proofs.Common.{Bor}
use Rattle.trace_audit.specs.TextLines.{text_lines}
use Rattle.trace_audit.specs.Watching.{HasReadSome, IsReportVerdict}
use Rattle.trace_audit.proofs.Lists.{drop_next, below_next}
use Rattle.trace_audit.proofs.Reading.{none_read, read_more, fault_on, end_on, verdict_on}
use Rattle.trace_audit.proofs.auditing.judged_by.Goals as goal

pub loop-line-init : goal.loop-line-init
loop-line-init c =
    let names = map (λ (n : Bor (List ℕ)). n.now) c.args.names.now in
    let texts = text_lines c.args.report.now in
    let a = c.new-auditor.result in
    let none = c.new-auditor.ensures.lines in
    record {
      read = subst (λ (n : ℕ). HasReadSome names c.args.hosts.now a texts n) (sym none)
          (none_read names c.args.hosts.now a texts c.new-auditor.ensures.read);
      rest = ap (λ (n : ℕ). drop n texts) none;
      bounded = c.new-auditor.ensures.bounded;
      within = omega (arith, none);
      few = omega (arith, none);
    }

pub returns-in-Ok-false-clause-unfound : goal.returns-in-Ok-false-clause-unfound
returns-in-Ok-false-clause-unfound c = λ lines of_names of_params.
    fault_on lines (map (λ (n : Bor (List ℕ)). n.now) c.args.names.now) c.args.hosts.now c.loop-line.auditor
    (text_lines c.args.report.now) c.loop-line.auditor.counts.lines c.args.before c.in-Some.line.now
    (text_lines c.in-Some.behind.now) of_names of_params c.requires.names c.loop-line.invariant.read
    (c.loop-line.invariant.rest ∙ c.in-Some.ensures.lines) (c.in-Ok-false.ensures.refused c.in-Ok-false.field-0-test)

pub loop-line-preserved : goal.loop-line-preserved
loop-line-preserved c =
    let names = map (λ (n : Bor (List ℕ)). n.now) c.args.names.now in
    let texts = text_lines c.args.report.now in
    let count = c.loop-line.auditor.counts.lines in
    let behind = text_lines c.in-Some.behind.now in
    let next = c.loop-line.invariant.rest ∙ c.in-Some.ensures.lines in
    let one = c.in-Ok-true.ensures.counted c.in-Ok-true.field-0-test in
    let few = c.loop-line.invariant.few in
    let shorter = c.in-Some.ensures.shorter in
    let below = below_next texts count c.in-Some.line.now behind next in
    record {
      read = subst (λ (n : ℕ). HasReadSome names c.args.hosts.now c.take.new.self texts n) (sym one)
          (read_more names c.args.hosts.now c.loop-line.auditor c.take.new.self texts count c.in-Some.line.now behind
          c.loop-line.invariant.read next (c.in-Ok-true.ensures.taken c.in-Ok-true.field-0-test));
      rest = subst (λ (n : ℕ). drop n texts ≡ behind) (one_more count ∙ sym one)
          (drop_next texts count c.in-Some.line.now behind next);
      bounded = c.in-Ok-true.ensures.bounded;
      within = omega (arith, below, one);
      few = omega (arith, few, shorter, one);
    } where
      one_more : (n : ℕ) → suc n ≡ n + 1
      one_more n = omega arith

pub returns-then-not-is_over-clause-unfound : goal.returns-then-not-is_over-clause-unfound
returns-then-not-is_over-clause-unfound c = λ lines of_names of_params.
    end_on lines (map (λ (n : Bor (List ℕ)). n.now) c.args.names.now) c.args.hosts.now c.loop-line.auditor
    (text_lines c.args.report.now) c.loop-line.auditor.counts.lines c.args.before of_names of_params c.requires.names
    c.loop-line.invariant.read (c.loop-line.invariant.rest ∙ ap text_lines c.in_default.ensures.lines)
    c.loop-line.invariant.within (c.is_over.ensures.before c.if-not-is_over.true)

pub returns-clause-found : goal.returns-clause-found
returns-clause-found c = λ lines of_names of_params.
    subst (IsReportVerdict lines c.args.before (text_lines c.args.report.now)) (sym c.verdict.ensures)
    (verdict_on lines (map (λ (n : Bor (List ℕ)). n.now) c.args.names.now) c.args.hosts.now c.loop-line.auditor
    (text_lines c.args.report.now) c.loop-line.auditor.counts.lines c.args.before of_names of_params
    c.loop-line.invariant.read (c.loop-line.invariant.rest ∙ ap text_lines c.in_default.ensures.lines)
    (c.is_over.ensures.over c.if-not-is_over.false))
