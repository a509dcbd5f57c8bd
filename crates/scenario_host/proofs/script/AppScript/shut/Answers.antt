use Rattle.std.proofs.Common.{ℕ, sym, subst, ◌∙◌}
use Rattle.tas_model.specs.declared.entry.Call.TheVariants as calls
use Rattle.scenario_runs.specs.Applications.{once}
use Rattle.scenario_host.specs.Turns.{turn_of}
use Rattle.scenario_host.proofs.Sockets.{socket_of, on_found}
use Rattle.scenario_host.proofs.Stepping.{once_by}
use Rattle.scenario_host.proofs.script.AppScript.shut.Goals as goal

pub ask-requires-clause-socket : goal.ask-requires-clause-socket
ask-requires-clause-socket g c =
    subst (λ (app : ℕ). g.H.AskedHost.has_socket c.args.host.now app c.in-Some.place) (sym c.number.ensures)
    (socket_of (g.H.AskedHost.has_socket c.args.host.now c.args.self.now.number) c.args.self.now.names
    c.args.socket.now c.in-Some.place c.requires.names (sym c.flow_of.ensures ∙ c.in-Some.is))

pub returns-clause-made : goal.returns-clause-made
returns-clause-made g c =
    once_by c.in-Some.place c.args.tick calls.Shut (g.H.AskedHost.seen c.args.host.now)
    (g.H.AskedHost.seen c.ask.new.self) c.args.self.now
    c.step_over-2.new.self c.number.result c.number.ensures c.in_ok-ask.ensures.made c.step_over-2.ensures
    ∙ on_found c.args.socket.now (λ (n : ℕ). once n c.args.tick calls.Shut)
    (turn_of (g.H.AskedHost.seen c.args.host.now) c.args.self.now) c.in-Some.place
    (sym c.flow_of.ensures ∙ c.in-Some.is)
