use Rattle.std.proofs.Common.{◌≡◌, ◌+◌, ◌≤◌, ℕ, length, take, drop, sym, ap, ◌∙◌, arith, length-take}
use Rattle.std.proofs.Common.{length-drop}
use Rattle.scenario_runs.specs.Applications.{filling, most}
use Rattle.scenario_host.specs.Turns.{turn_of}
use Rattle.local_host.proofs.Places.{ok_by}
use Rattle.scenario_host.proofs.Offers.{length-filling}
use Rattle.scenario_host.proofs.Sockets.{socket_of}
use Rattle.scenario_host.proofs.Stepping.{sent_found}
use Rattle.scenario_host.proofs.script.AppScript.fill.Given.{Over}
use Rattle.scenario_host.proofs.script.AppScript.fill.Goals.{After-rest}
use Rattle.scenario_host.proofs.script.AppScript.fill.Goals as goal

-- what is offered
offered : (g : Over) (c : After-rest g) → c.rest.result.now ≡ take most (drop c.args.self.now.done (filling
    c.args.count))
offered g c = c.rest.ensures ∙ ap (λ (n : ℕ). take most (drop n (filling c.args.count))) c.done.ensures

-- and how much that is
count : (g : Over) (c : After-rest g)
    → (length c.rest.result.now ≤ most) × (c.args.self.now.done + length c.rest.result.now ≤ c.args.count)
count g c =
    let rest = drop c.args.self.now.done (filling c.args.count) in
    let len = ap length (offered g c) in (
      omega (arith, len, length-take most rest),
      omega (
        arith,
        len,
        length-take most rest,
        length-drop c.args.self.now.done (filling c.args.count),
        length-filling c.args.count,
        c.requires.part,
      ),
    )

pub offer-requires-clause-socket : goal.offer-requires-clause-socket
offer-requires-clause-socket g c =
    socket_of (g.H.AskedHost.has_socket c.args.host.now c.args.self.now.number) c.args.self.now.names
    c.args.socket.now c.in-Some.place c.requires.names (sym c.flow_of.ensures ∙ c.in-Some.is)

pub offer-requires-clause-few : goal.offer-requires-clause-few
offer-requires-clause-few g c = (count g c).0

pub offer-requires-clause-part : goal.offer-requires-clause-part
offer-requires-clause-part g c = (count g c).1

pub returns-clause-made : goal.returns-clause-made
returns-clause-made g c =
    ok_by c.offer.result
    (sent_found c.args.tick c.args.socket.now (filling c.args.count) (turn_of (g.H.AskedHost.seen c.args.host.now)
    c.args.self.now)
    (turn_of (g.H.AskedHost.seen c.offer.new.host) c.offer.new.self) c.in-Some.place (sym c.flow_of.ensures ∙
    c.in-Some.is))
    (c.offer.ensures.made (filling c.args.count) (length-filling c.args.count)
    (c.rest.ensures ∙ ap (λ (n : ℕ). take most (drop n (filling c.args.count))) c.done.ensures))
