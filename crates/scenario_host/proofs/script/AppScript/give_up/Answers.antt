use Rattle.std.proofs.Common.{ℕ, [], refl, sym, subst, ◌∙◌}
use Rattle.flow_state.specs.Calls.{call_of}
use Rattle.asked_host.specs.Asking.{asked_by}
use Rattle.scenario_runs.specs.Applications.{ends}
use Rattle.scenario_host.specs.Turns.{turn_of}
use Rattle.scenario_host.proofs.Sockets.{socket_of, on_found}
use Rattle.scenario_host.proofs.Stepping.{ends_by}
use Rattle.scenario_host.proofs.script.AppScript.give_up.Goals as goal

pub give_up-requires-clause-socket : goal.give_up-requires-clause-socket
give_up-requires-clause-socket g c =
    subst (λ (app : ℕ). g.H.AskedHost.has_socket c.args.host.now app c.in-Some.place) (sym c.number.ensures)
    (socket_of (g.H.AskedHost.has_socket c.args.host.now c.args.self.now.number) c.args.self.now.names
    c.args.socket.now c.in-Some.place c.requires.names (sym c.flow_of.ensures ∙ c.in-Some.is))

pub returns-clause-made : goal.returns-clause-made
returns-clause-made g c =
    ends_by c.in-Some.place c.args.tick (call_of c.args.call.now) c.args.socket.now (g.H.AskedHost.seen c.args.host.now)
    (asked_by c.number.result c.in-Some.place c.args.tick (call_of c.args.call.now) []
    (g.H.AskedHost.seen c.args.host.now)) (g.H.AskedHost.seen c.give_up.new.self) c.args.self.now
    c.unbind.new.self c.step_over-2.new.self c.number.result c.number.ensures refl c.in_ok-give_up.ensures.made
    c.unbind.ensures c.step_over-2.ensures
    ∙ on_found c.args.socket.now (λ (n : ℕ). ends n c.args.tick (call_of c.args.call.now) c.args.socket.now)
    (turn_of (g.H.AskedHost.seen c.args.host.now) c.args.self.now) c.in-Some.place
    (sym c.flow_of.ensures ∙ c.in-Some.is)
