use Rattle.flow_clock.proofs.Keeping.{pulled_to}
use Rattle.flow_clock.proofs.closing.close_at.Goals as goal

pub returns-clause-kept : goal.returns-clause-kept
returns-clause-kept c =
    c.sweep_one.ensures.kept c.remove-pin.new.self.list
    (pulled_to c.args.table.now.slots c.args.slow.now c.args.doomed.now.list c.reserve-2.new.self.list
    c.args.pins.now.list c.remove-pin.new.self.list c.args.at c.remove-pin.result c.remove-pin.ensures.pin
    c.reserve-2.ensures.list c.remove-pin.ensures.rest c.requires.kept)
