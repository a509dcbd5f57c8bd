use Rattle.std.proofs.Common.{◌≡◌, ◌≤◌, ◌+◌, Bool, ap, sym, ◌∙◌, arith, length}
use Rattle.tas_model.specs.Segments.{one_if}
use Rattle.flow_clock.specs.Ledgers.{ledger}
use Rattle.flow_clock.proofs.Keeping.{two_steps}
use Rattle.flow_clock.proofs.Serving.{serving_more, serving_stops, serving_ends, fewer_left, on_err_stopped}
use Rattle.flow_clock.proofs.walking.serve_all.Goals as goal

pub returns-in_err-serve_at-clause-stopped : goal.returns-in_err-serve_at-clause-stopped
returns-in_err-serve_at-clause-stopped c =
    let l = c.loop-served in
    let n = c.serve_at.new in
    let e = c.in_err-serve_at.ensures in
    on_err_stopped c.from_residual.result
    (serving_stops c.args.tick c.args.served.now c.args.table.now _ l.slow n.slow l.pins.list n.pins.list
    l.doomed.list n.doomed.list
    l.filed.list n.filed.list l.index.pending n.index.pending l.kicks.list n.kicks.list l.path n.path l.served
    l.invariant.serving
    e.refused e.pins e.doomed e.filed e.pending e.unkicked e.untold)

pub loop-served-smaller-then-branch : goal.loop-served-smaller-then-branch
loop-served-smaller-then-branch c =
    let l = c.loop-served in
    let n = c.serve_at.new in
    fewer_left c.args.tick l.served
    (ledger l.slow.view l.pins.list l.doomed.list l.filed.list l.index.pending l.kicks.list l.path)
    (ledger n.slow.view n.pins.list n.doomed.list n.filed.list n.index.pending n.kicks.list n.path)
    c.in_ok-serve_at.field-0 (l.served + 1) c.in_ok-serve_at.ensures.served
    (ap (λ (b : Bool). l.served + one_if b) (sym c.if-branch.true))

pub loop-served-preserved-then-branch : goal.loop-served-preserved-then-branch
loop-served-preserved-then-branch c =
    let l = c.loop-served in
    let n = c.serve_at.new in
    let e = c.in_ok-serve_at.ensures in record {
      serving = serving_more c.args.tick c.args.served.now c.args.table.now _ l.slow n.slow l.pins.list n.pins.list
          l.doomed.list
          n.doomed.list l.filed.list n.filed.list l.index.pending n.index.pending l.kicks.list n.kicks.list l.path
          n.path l.served
          (l.served + 1) c.in_ok-serve_at.field-0 l.invariant.serving e.served
          (ap (λ (b : Bool). l.served + one_if b) (sym c.if-branch.true)) e.slow e.rights e.kept;
      params = e.params ∙ l.invariant.params;
      published = (e.published.0 ∙ l.invariant.published.0, e.published.1 ∙ l.invariant.published.1);
    }

pub loop-served-smaller : goal.loop-served-smaller
loop-served-smaller c =
    let l = c.loop-served in
    let n = c.serve_at.new in
    let same : l.served ≡ l.served + 0 = omega arith in
    fewer_left c.args.tick l.served
    (ledger l.slow.view l.pins.list l.doomed.list l.filed.list l.index.pending l.kicks.list l.path)
    (ledger n.slow.view n.pins.list n.doomed.list n.filed.list n.index.pending n.kicks.list n.path)
    c.in_ok-serve_at.field-0 l.served c.in_ok-serve_at.ensures.served
    (same ∙ ap (λ (b : Bool). l.served + one_if b) (sym c.if-branch.false))

pub loop-served-preserved : goal.loop-served-preserved
loop-served-preserved c =
    let l = c.loop-served in
    let n = c.serve_at.new in
    let e = c.in_ok-serve_at.ensures in
    let same : l.served ≡ l.served + 0 = omega arith in
    record {
      serving = serving_more c.args.tick c.args.served.now c.args.table.now _ l.slow n.slow l.pins.list n.pins.list
          l.doomed.list
          n.doomed.list l.filed.list n.filed.list l.index.pending n.index.pending l.kicks.list n.kicks.list l.path
          n.path l.served l.served
          c.in_ok-serve_at.field-0 l.invariant.serving e.served
          (same ∙ ap (λ (b : Bool). l.served + one_if b) (sym c.if-branch.false)) e.slow e.rights e.kept;
      params = e.params ∙ l.invariant.params;
      published = (e.published.0 ∙ l.invariant.published.0, e.published.1 ∙ l.invariant.published.1);
    }

pub returns-clause-done : goal.returns-clause-done
returns-clause-done c =
    let l = c.loop-served in
    let past : length l.pins.list ≤ l.served = let t = c.loop-served-test.false in let e = c.len.ensures in omega
    arith in
    serving_ends c.args.tick c.args.served.now c.args.table.now _ l.slow l.pins.list l.doomed.list l.filed.list
    l.index.pending
    l.kicks.list l.path l.served l.invariant.serving past

pub returns-in_err-serve_at-clause-rights : goal.returns-in_err-serve_at-clause-rights
returns-in_err-serve_at-clause-rights c =
    two_steps c.args.slow.now.view c.loop-served.slow.view c.serve_at.new.slow.view
    c.loop-served.invariant.serving.rights
    c.in_err-serve_at.ensures.rights
