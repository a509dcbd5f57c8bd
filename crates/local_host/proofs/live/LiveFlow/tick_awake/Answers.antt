use Rattle.std.proofs.Common.{◌≡◌, false, refl, sym, ap, ◌∙◌}
use Rattle.tas_model.specs.declared.entry.Caller.TheVariants.{Slow}
use Rattle.host_rounds.specs.Logs.{Flow}
use Rattle.host_rounds.specs.Hosts.{Live, is_over}
use Rattle.host_rounds.specs.Upkeep.{timed}
use Rattle.local_host.specs.Live.{flow_in}
use Rattle.local_host.specs.Inside.{live_of}
use Rattle.local_host.proofs.Sleeping.{none_missed}
use Rattle.local_host.proofs.Timing.{ticked}
use Rattle.local_host.proofs.Waking.{woken}
use Rattle.local_host.proofs.live.LiveFlow.tick_awake.Goals as goal

pub returns : goal.returns
returns c =
    let t = c.args.tick in
    let l : Live = record (live_of c.self.inside) { flow = flow_in c.wake.new.history } in
    let is : l ≡ c.args.self.now = woken c.self.inside _ c.args.self.now c.in_ok-wake.ensures c.self.view_is in
    let runs : is_over l ≡ false = sym c.is_closed.ensures.closed ∙ c.if-is_closed.false in
    let next : Flow = flow_in c.pass_one.new.flow in
    ap (λ (g : Flow). record l { flow = g })
    (none_missed c.rest-self-inside.result (flow_in c.control.new.history) c.rest-self-inside.ensures.missed)
    ∙ (c.in_ok-control.ensures (record l { flow = next }) refl
    ∙ (ticked l next t c.in_ok-pass_one.ensures.made runs ∙ ap (timed Slow t) is))
