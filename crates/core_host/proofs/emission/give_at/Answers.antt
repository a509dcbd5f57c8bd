-- Answers of the proof of emission/give_at.
use Rattle.std.proofs.Common.{ap, sym, ◌∙◌}
use Rattle.tas_model.specs.declared.entry.FlowId.{FlowId}
use Rattle.flow_lock.specs.Steps.{gave}
use Rattle.app_reaper.specs.OneCall.{history}
use Rattle.core_host.proofs.Sending.{pin_out, out_held}
use Rattle.core_host.proofs.emission.give_at.Goals as goal

pub slow_give-requires-clause-held : goal.slow_give-requires-clause-held
slow_give-requires-clause-held c =
    let out = c.requires.given in
    out_held c.args.table.now c.args.pins.now.list c.args.at c.pin.result.now c.args.flow out.0 c.args.slow.now
    c.pin.ensures out.1

pub returns : goal.returns
returns c =
    let s = c.args.slow.now in
    let out = c.requires.given in
    c.slow_give.ensures
    ∙ ap (λ (f : FlowId). record s { view = gave f (history c.args.flow) s.view })
    (sym (pin_out c.args.table.now c.args.pins.now.list c.args.at c.pin.result.now c.args.flow out.0 s c.pin.ensures
    out.1))
