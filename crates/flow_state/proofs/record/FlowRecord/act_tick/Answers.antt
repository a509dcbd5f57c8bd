use Rattle.std.proofs.Common.{◌≡◌, ◌+◌, ◌∙◌, [], cond, ℕ, List, length, ap, sym, subst, arith, take}
use Rattle.std.proofs.Common.{refl}
use Rattle.tas_model.specs.declared.entry.Call.TheVariants as calls
use Rattle.tas_model.specs.declared.entry.Caller.{Caller}
use Rattle.tas_model.specs.declared.entry.Entry.{Entry}
use Rattle.tas_model.specs.declared.entry.HostParams.{HostParams}
use Rattle.tas_model.specs.LegalHistory.{extended_by, replay, same_caller}
use Rattle.tas_model.proofs.MovesLaws.{places_of}
use Rattle.flow_state.specs.declared.call.CallIn.TheVariants as ins
use Rattle.flow_state.specs.declared.counts.CallerCount.{CallerCount}
use Rattle.flow_state.specs.declared.slot.Slot.{Slot}
use Rattle.flow_state.specs.declared.stretch.Stretch.{Stretch}
use Rattle.flow_state.specs.Flow.{Flow, reply_to}
use Rattle.flow_state.specs.Calls.{answer_of, answer_len, reply_of}
use Rattle.flow_state.specs.Counts.{counted_for}
use Rattle.flow_state.specs.Arena.{Memory}
use Rattle.flow_state.specs.Stretches.{entries_of, Added, AllWithin, tick_entry}
use Rattle.flow_state.proofs.Entries.{grows_self}
use Rattle.flow_state.proofs.Near.{near_of}
use Rattle.flow_state.proofs.Ready.{rings_of}
use Rattle.flow_state.proofs.Owning.{kept_by_tick}
use Rattle.flow_state.proofs.Sending.{same_reply}
use Rattle.flow_state.proofs.Acting.{Grown, kept_after}
use Rattle.flow_state.proofs.record.FlowRecord.act_tick.Goals as goal
use Rattle.flow_state.proofs.record.FlowRecord.act_tick.Goals.{After-add_tick}
use Rattle.flow_state.proofs.record.FlowRecord.act_tick.Given

grown : (g : Given.Over) (c : After-add_tick g)
    → Grown c.self.inside.parts c.run.new.parts c.self.inside.arena.memory c.self.inside.arena.memory
    c.self.inside.stretches.items c.add_tick.new.stretches.items c.count_one.new.self.counts
    c.self.inside.application (c.self.inside.made + 1) c.max-tick.result
    (c.self.inside.sent + c.segments.result) c.args.caller c.args.tick ins.Tick
    c.in-Some.answer
grown g c =
    let memory : Memory = c.self.inside.arena.memory in
    let out : List ℕ = c.run.new.out in
    let same : c.reserve.new.self.items ≡ c.self.inside.stretches.items = c.in_ok-reserve.ensures.items in
    let s : Slot = c.add_tick.ensures.added.0 in
    let bare : answer_len c.in-Some.answer ≡ 0 = omega (arith, c.in-Some.ensures.bytes) in
    let reply : reply_of c.in-Some.answer [] ≡ reply_of c.in-Some.answer out =
    same_reply c.in-Some.answer [] out (subst (λ (n : ℕ). take n [] ≡ take n out) (sym bare) refl) in
    kept_after c.self.inside.parts c.run.new.parts memory memory c.self.inside.stretches.items
    c.add_tick.new.stretches.items s c.self.inside.counts.counts c.count_one.new.self.counts
    c.self.inside.application c.self.inside.application c.self.inside.made c.self.inside.last c.self.inside.sent
    (c.self.inside.sent + c.segments.result) c.args.caller c.args.tick
    c.number_of-number.result c.max-tick.result ins.Tick c.in-Some.answer
    c.self.invariant c.run.ensures.params (grows_self memory)
    c.number_of-number.ensures
    (grind arith)
    (omega (arith, c.self.invariant.low, c.max-tick.ensures, c.ranges.tick.fits))
    (subst (λ (ss : List Stretch). Added ss c.add_tick.new.stretches.items c.max-tick.result s) same
    c.add_tick.ensures.added.2)
    (λ (other : Caller). c.count_one.ensures.counted other
    ∙ ap (λ (cs : List CallerCount). counted_for other cs + cond (same_caller c.args.caller other) 1 0)
    c.in_ok-reserve-2.ensures.counts)
    (λ answered. kept_by_tick c.self.inside.application c.args.caller (reply_of c.in-Some.answer answered))
    (ap (λ k. c.self.inside.sent + k) c.segments.ensures.count) (
      out,
      record {
        makes = c.in-Some.ensures.made;
        entry = c.add_tick.ensures.added.1.entry memory
            ∙ ap (λ r. record (tick_entry c.args.caller c.number_of-number.result c.max-tick.result c.in-Some.answer)
            { reply = r }) reply;
        within = c.add_tick.ensures.added.1.within (length memory.bytes) (length memory.came);
        bytes = omega (arith, bare);
      },
    )

pub add_tick-requires-clause-placed : goal.add_tick-requires-clause-placed
add_tick-requires-clause-placed g c =
    let n = length c.self.inside.arena.memory.bytes in
    let k = length c.self.inside.arena.memory.came in
    (n, k, subst (AllWithin n k) (sym c.in_ok-reserve.ensures.items) c.self.invariant.within)

pub invariant_of-self-2 : goal.invariant_of-self-2
invariant_of-self-2 g c = (grown g c).kept

pub returns-clause-exact : goal.returns-clause-exact
returns-clause-exact g c =
    subst (λ (f : Flow). entries_of c.self.inside.arena.memory c.add_tick.new.stretches.items
    ≡ extended_by f.params f.entries c.args.caller c.args.tick calls.Tick []) c.self.view_is (grown g c).exact

pub returns-clause-answer : goal.returns-clause-answer
returns-clause-answer g c =
    subst (λ (f : Flow). c.in-Some.answer ≡ answer_of (reply_to f.params f.entries c.args.tick calls.Tick []))
    c.self.view_is (grown g c).answer

pub returns-clause-legal : goal.returns-clause-legal
returns-clause-legal g c = (grown g c).kept.legal

pub returns-clause-stands : goal.returns-clause-stands
returns-clause-stands g c = (grown g c).kept.stands

pub run-requires-clause-near : goal.run-requires-clause-near
run-requires-clause-near g c =
    let h : List Entry = entries_of c.self.inside.arena.memory c.self.inside.stretches.items in
    let p : HostParams = c.self.inside.parts.params in
    near_of c.self.inside.parts (replay p h) (length h) c.self.invariant.stands
    (places_of p h c.self.invariant.fits c.self.invariant.legal)
    (omega (
      arith,
      c.self.invariant.made,
      c.self.invariant.few,
      c.self.invariant.low,
      c.self.inside.stretches.ok,
      c.self.inside.stretches.small,
    ))

pub run-requires-clause-rings : goal.run-requires-clause-rings
run-requires-clause-rings g c = rings_of c.self.inside.parts _ c.self.invariant.stands
