use Rattle.std.proofs.Common.{◌≡◌, ◌≤◌, ℕ, [], sym, ap, subst, ◌∙◌}
use Rattle.tas_model.specs.declared.entry.Call.TheVariants as calls
use Rattle.scenario_runs.specs.Applications.{receives, asks_for}
use Rattle.scenario_host.specs.Answers.{gave}
use Rattle.scenario_host.specs.Turns.{turn_of}
use Rattle.scenario_host.proofs.Sockets.{socket_of, on_found}
use Rattle.scenario_host.proofs.Answering.{asked_as, asks_some, gave_few, gave_within, receives_by}
use Rattle.scenario_host.proofs.script.AppScript.receive.Goals as goal

pub ask-requires-clause-socket : goal.ask-requires-clause-socket
ask-requires-clause-socket g c =
    subst (λ (app : ℕ). g.H.AskedHost.has_socket c.args.host.now app c.in-Some.place) (sym c.number.ensures)
    (socket_of (g.H.AskedHost.has_socket c.args.host.now c.args.self.now.number) c.args.self.now.names
    c.args.socket.now c.in-Some.place c.requires.names (sym c.flow_of.ensures ∙ c.in-Some.is))

pub ask-requires-clause-kind : goal.ask-requires-clause-kind
ask-requires-clause-kind g c =
    subst (λ (n : ℕ). (1 ≤ n) × (n ≤ 65536))
    (sym (c.asks_for-most.ensures ∙ ap (asks_for c.args.all) c.done.ensures))
    (asks_some c.args.all c.args.self.now.done c.requires.part)

pub received-requires : goal.received-requires
received-requires g c =
    let asks : c.asks_for-most.result ≡ asks_for c.args.all c.args.self.now.done =
    c.asks_for-most.ensures ∙ ap (asks_for c.args.all) c.done.ensures in
    gave_within c.args.all c.args.self.now.done (gave c.in_ok-answer.answer) c.requires.part
    (subst (λ (n : ℕ). gave c.in_ok-answer.answer ≤ n) asks
    (gave_few c.number.result c.in-Some.place c.args.tick c.asks_for-most.result (g.H.AskedHost.seen c.args.host.now)
    (g.H.AskedHost.seen c.ask.new.self)
    c.in_ok-answer.answer
    (record {
      made = c.in_ok-answer.ensures.made;
      answered = c.in_ok-answer.ensures.answer;
    })))

pub returns-clause-made : goal.returns-clause-made
returns-clause-made g c =
    receives_by c.in-Some.place c.args.tick c.args.all (g.H.AskedHost.seen c.args.host.now)
    (g.H.AskedHost.seen c.ask.new.self) c.args.self.now
    c.received.new.self c.asks_for-most.result c.in_ok-answer.answer
    (asked_as c.number.result c.args.self.now.number c.in-Some.place c.args.tick (calls.Recv c.asks_for-most.result) []
    (g.H.AskedHost.seen c.args.host.now) (g.H.AskedHost.seen c.ask.new.self) c.in_ok-answer.answer c.number.ensures
    (record {
      made = c.in_ok-answer.ensures.made;
      answered = c.in_ok-answer.ensures.answer;
    }))
    c.received.ensures (c.asks_for-most.ensures ∙ ap (asks_for c.args.all) c.done.ensures)
    ∙ on_found c.args.socket.now (λ (n : ℕ). receives n c.args.tick c.args.all)
    (turn_of (g.H.AskedHost.seen c.args.host.now) c.args.self.now) c.in-Some.place
    (sym c.flow_of.ensures ∙ c.in-Some.is)
