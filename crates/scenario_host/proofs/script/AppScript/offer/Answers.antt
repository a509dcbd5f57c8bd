use Rattle.std.proofs.Common.{◌≤◌, length, arith}
use Rattle.tas_model.specs.declared.entry.Call.TheVariants as calls
use Rattle.local_host.specs.Live.{took}
use Rattle.scenario_host.proofs.Answering.{asked_as, took_few, sends_by}
use Rattle.scenario_host.proofs.script.AppScript.offer.Goals as goal

pub sent-requires : goal.sent-requires
sent-requires g c =
    let few : took c.in_ok-answer.answer ≤ length c.args.bytes.now =
    took_few c.number.result c.args.place c.args.tick c.args.bytes.now (g.H.AskedHost.seen c.args.host.now)
    (g.H.AskedHost.seen c.ask.new.self) c.in_ok-answer.answer
    (record { made = c.in_ok-answer.ensures.made; answered = c.in_ok-answer.ensures.answer }) in
    omega (arith, few, c.requires.part)

pub returns-clause-made : goal.returns-clause-made
returns-clause-made g c = λ whole count is.
    sends_by c.args.place c.args.tick c.args.bytes.now whole (g.H.AskedHost.seen c.args.host.now)
    (g.H.AskedHost.seen c.ask.new.self) c.args.self.now c.sent.new.self c.args.all c.in_ok-answer.answer
    (asked_as c.number.result c.args.self.now.number c.args.place c.args.tick (calls.Send (length c.args.bytes.now))
    c.args.bytes.now (g.H.AskedHost.seen c.args.host.now) (g.H.AskedHost.seen c.ask.new.self) c.in_ok-answer.answer
    c.number.ensures
    (record { made = c.in_ok-answer.ensures.made; answered = c.in_ok-answer.ensures.answer }))
    c.sent.ensures count is
