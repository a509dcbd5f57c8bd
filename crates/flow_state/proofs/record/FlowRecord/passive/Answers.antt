use Rattle.std.proofs.Common.{◌≡◌, ◌∷◌, [], ◌∙◌, length, ap, subst, sym, refl, rules}
use Rattle.std.specs.Prelude.{None}
use Rattle.flow_state.specs.Arena.{Memory, memory_of}
use Rattle.flow_state.specs.Calls.{seg_of}
use Rattle.flow_state.specs.Flow.{first_passive}
use Rattle.flow_state.specs.Slots.{entry_of, IsWithin, came_of}
use Rattle.flow_state.proofs.Acting.{opens_record, first_entries}
use Rattle.flow_state.proofs.record.FlowRecord.passive.Goals as goal

pub invariant_of-result : goal.invariant_of-result
invariant_of-result c =
    let memory = c.in_ok-arena.arena.memory in
    let first : Memory = memory_of c.args.seg.now.payload.now (came_of c.args.frame c.args.iss c.args.seg.now ∷ []) in
    let is : first ≡ memory = sym c.in_ok-arena.ensures in
    opens_record c.in_ok-parts.parts c.args.params.now memory c.push.new.self.items c.in_ok-counts.counts.counts
    None c.passive_slot.result (first_passive c.args.tick c.args.frame c.args.iss (seg_of c.args.seg.now))
    c.ranges.tick.fits c.requires.ranges c.in_ok-parts.ensures.params (search rules)
    (subst (λ (m : Memory). entry_of m c.args.tick c.passive_slot.result
    ≡ first_passive c.args.tick c.args.frame c.args.iss (seg_of c.args.seg.now)) is
    (c.passive_slot.ensures.entry c.args.frame c.args.iss c.args.tick))
    (subst (λ (m : Memory). IsWithin (length m.bytes) (length m.came) c.passive_slot.result) is
    c.passive_slot.ensures.within)
    (record { opens = tt; reply = refl; number = refl }) c.in_ok-counts.ensures
    (c.in_ok-parts.ensures.stands c.args.frame) refl

pub returns-clause-entries : goal.returns-clause-entries
returns-clause-entries c =
    first_entries c.in_ok-arena.arena.memory c.push.new.self.items c.args.tick c.passive_slot.result _ (search rules)
    (ap (λ (m : Memory). entry_of m c.args.tick c.passive_slot.result) c.in_ok-arena.ensures
    ∙ c.passive_slot.ensures.entry c.args.frame c.args.iss c.args.tick)
