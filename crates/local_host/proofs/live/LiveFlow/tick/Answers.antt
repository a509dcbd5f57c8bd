use Rattle.std.proofs.Common.{◌+◌, ◌<◌, sym, ap, ◌∙◌, arith}
use Rattle.tas_model.specs.declared.entry.Caller.TheVariants.{Slow}
use Rattle.host_rounds.specs.Logs.{Flow}
use Rattle.host_rounds.specs.Hosts.{Live}
use Rattle.host_rounds.specs.Upkeep.{timed, is_control_tick}
use Rattle.local_host.specs.Live.{flow_in}
use Rattle.local_host.specs.Inside.{live_of}
use Rattle.local_host.proofs.Sleeping.{still_asleep, not_over, one_passed, timed_alone}
use Rattle.local_host.proofs.live.LiveFlow.tick.Goals as goal

pub returns-then-pass : goal.returns-then-pass
returns-then-pass c =
    let l : Live = live_of c.self.inside in
    let f : Flow = flow_in c.self.inside.history in
    let t = c.args.tick in
    let p = c.pass.ensures in
    let passed = c.if-pass.true in
    let some : 0 < c.self.inside.sleep.missed + c.self.inside.sleep.left = omega (arith, p.some passed) in
    let still = still_asleep c.self.inside.sleep f c.parts-parts.ensures.legal c.self.invariant some in
    let one = one_passed c.self.inside.sleep c.pass.new.self f t (p.next passed) (p.first passed) (p.missed passed) in
    let free = ap (λ (m : Live). is_control_tick m.flow.params.fixed t) c.self.view_is
    ∙ (sym c.is_control_due.ensures ∙ c.if-is_control_due.false) in
    ap (λ (g : Flow). record l { flow = g }) one
    ∙ (timed_alone l t (not_over l still) free ∙ ap (timed Slow t) c.self.view_is)
