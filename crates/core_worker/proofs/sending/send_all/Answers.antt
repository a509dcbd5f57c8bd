use Rattle.std.proofs.Common.{◌≡◌, ◌<◌, true, sym, ◌∙◌, subst}
use Rattle.app_reaper.specs.OneCall.{history}
use Rattle.fast_tx.specs.Going.{left_in}
use Rattle.flow_lock.specs.declared.view.History.{History}
use Rattle.core_worker.specs.Sending.{endpoint_of, may_go}
use Rattle.core_worker.proofs.Emissions.{one_more, less_left}
use Rattle.core_worker.proofs.sending.send_all.Goals as goal

pub loop-flow-preserved : goal.loop-flow-preserved
loop-flow-preserved c =
    let r = c.loop-flow.flow in
    let go : may_go (history r) ≡ true = sym c.may_send.ensures.going ∙ c.loop-flow-test.true in
    one_more c.args.core c.args.tick c.args.flow.now r c.emit.new.flow c.loop-flow.invariant go c.emit.ensures.id
    c.in_ok-emit.ensures.sent

pub loop-flow-smaller : goal.loop-flow-smaller
loop-flow-smaller c =
    let r = c.loop-flow.flow in
    let go : may_go (history r) ≡ true = sym c.may_send.ensures.going ∙ c.loop-flow-test.true in
    subst (λ (h : History). left_in (endpoint_of h) < left_in (endpoint_of (history r)))
    (sym c.in_ok-emit.ensures.sent)
    (less_left c.args.core c.args.tick (history r) c.may_send.ensures.legal go)
