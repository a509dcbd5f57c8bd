use Rattle.std.proofs.Common.{ℕ, Option, Some, [], refl, sym, subst, ◌∙◌}
use Rattle.tas_model.specs.declared.entry.Call.TheVariants as calls
use Rattle.asked_host.specs.Asking.{IsAccepting, asked_by}
use Rattle.scenario_host.proofs.Stepping.{accepts_by}
use Rattle.scenario_host.proofs.script.AppScript.accept.Goals as goal

pub returns-clause-made : goal.returns-clause-made
returns-clause-made g c =
    let accepted : IsAccepting c.number-app.result c.args.tick c.in-Some.port (g.H.AskedHost.seen c.args.host.now)
    (g.H.AskedHost.seen c.accept.new.self) (Some c.in-Some-2.place) =
    subst (λ (o : Option ℕ). IsAccepting c.number-app.result c.args.tick c.in-Some.port
    (g.H.AskedHost.seen c.args.host.now) (g.H.AskedHost.seen c.accept.new.self) o) c.in-Some-2.is
    c.in_ok-place.ensures.made in
    accepts_by c.args.listener.now c.in-Some.port c.in-Some-2.place c.args.tick c.args.socket.now
    (g.H.AskedHost.seen c.args.host.now)
    (asked_by c.number-app.result c.in-Some-2.place c.args.tick calls.Accept [] (g.H.AskedHost.seen c.args.host.now))
    (g.H.AskedHost.seen c.accept.new.self) c.args.self.now c.bind.new.self c.step_over-2.new.self
    c.number-app.result c.number-app.ensures (sym c.port_of.ensures ∙ c.in-Some.is) accepted.0 refl accepted.1
    c.in_ok-bind.ensures c.step_over-2.ensures
