use Rattle.std.proofs.Common.{◌≡◌, ◌∙◌, Bool, true, ap, sym}
use Rattle.tas_model.specs.declared.entry.FlowId.{FlowId}
use Rattle.app_reaper.specs.OneCall.{history}
use Rattle.flow_clock.specs.Histories.{is_over}
use Rattle.flow_clock.specs.Ledgers.{without, without_closed}
use Rattle.flow_clock.proofs.timing.tell.Goals as goal

pub returns-then-over-clause-told : goal.returns-then-over-clause-told
returns-then-over-clause-told c =
    let over : is_over (history c.args.flow.now) ≡ true = sym c.is_closed-over.ensures.closed ∙ c.if-over.true in
    c.left.ensures ∙ (ap (λ (f : FlowId). without f c.args.path.now) c.id.ensures
    ∙ ap (λ (b : Bool). without_closed b c.args.flow.now.id c.args.path.now) (sym over))
