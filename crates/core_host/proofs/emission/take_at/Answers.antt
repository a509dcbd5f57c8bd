-- Answers of the proof of emission/take_at.
use Rattle.core_host.proofs.Sending.{pin_taken}
use Rattle.core_host.proofs.emission.take_at.Goals as goal

pub returns-clause-taken : goal.returns-clause-taken
returns-clause-taken c =
    let t = c.in-Ok.ensures in
    pin_taken c.args.pins.now.list c.args.at c.pin-pin.result.now c.in-Ok.flow c.args.slow.now.view
    c.slow_take.new.slow.view c.pin-pin.ensures t.own (record {
      own = t.own;
      legal = c.parts.ensures.legal;
      stands = c.parts.ensures.stands;
      seen = t.seen;
      known = t.known;
    }) t.taken
