use Rattle.std.proofs.Common.{ℕ, take, drop, refl, sym, ap, ◌∙◌}
use Rattle.scenario_runs.specs.Applications.{most}
use Rattle.scenario_host.specs.Turns.{turn_of}
use Rattle.local_host.proofs.Places.{ok_by}
use Rattle.scenario_host.proofs.Offers.{rest_offered}
use Rattle.scenario_host.proofs.Sockets.{socket_of}
use Rattle.scenario_host.proofs.Stepping.{sent_found}
use Rattle.scenario_host.proofs.script.AppScript.send.Goals as goal

pub offer-requires-clause-socket : goal.offer-requires-clause-socket
offer-requires-clause-socket g c =
    socket_of (g.H.AskedHost.has_socket c.args.host.now c.args.self.now.number) c.args.self.now.names
    c.args.socket.now c.in-Some.place c.requires.names (sym c.flow_of.ensures ∙ c.in-Some.is)

pub returns-clause-made : goal.returns-clause-made
returns-clause-made g c =
    ok_by c.offer.result
    (sent_found c.args.tick c.args.socket.now c.args.text.now (turn_of (g.H.AskedHost.seen c.args.host.now)
    c.args.self.now)
    (turn_of (g.H.AskedHost.seen c.offer.new.host) c.offer.new.self) c.in-Some.place (sym c.flow_of.ensures ∙
    c.in-Some.is))
    (c.offer.ensures.made c.args.text.now refl
    (rest_offered c.args.text.now c.done.result c.requires.few
    ∙ ap (λ (n : ℕ). take most (drop n c.args.text.now)) c.done.ensures))
