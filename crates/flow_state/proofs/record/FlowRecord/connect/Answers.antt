use Rattle.std.proofs.Common.{refl, rules, []}
use Rattle.flow_state.specs.Flow.{first_connect}
use Rattle.flow_state.proofs.Acting.{opens_record, first_entries}
use Rattle.flow_state.proofs.record.FlowRecord.connect.Goals as goal

pub invariant_of-result : goal.invariant_of-result
invariant_of-result c =
    opens_record c.in_ok-parts.parts c.args.params.now c.new.result.memory c.push.new.self.items
    c.in_ok-counts.counts.counts c.got_by.result c.connect_slot.result
    (first_connect c.args.caller c.args.tick c.args.iss)
    c.ranges.tick.fits c.requires.ranges c.in_ok-parts.ensures.params (search rules)
    (c.connect_slot.ensures.entry c.new.result.memory c.args.tick) (c.connect_slot.ensures.within _ _)
    (record { opens = tt; reply = refl; number = refl }) c.in_ok-counts.ensures c.in_ok-parts.ensures.stands
    (c.got_by.ensures [])

pub returns-clause-entries : goal.returns-clause-entries
returns-clause-entries c =
    first_entries c.new.result.memory c.push.new.self.items c.args.tick c.connect_slot.result _ (search rules)
    (c.connect_slot.ensures.entry c.new.result.memory c.args.tick)
