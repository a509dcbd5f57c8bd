use Rattle.std.proofs.Common.{◌≡◌, ◌+◌, ◌++◌, ◌∷◌, [], ◌∙◌, cond, List, length, ap, sym, subst, arith, rules}
use Rattle.std.specs.Option.{option_or}
use Rattle.tas_model.specs.LegalHistory.{extended_by, replay, last_tick, same_caller}
use Rattle.flow_state.specs.Flow.{Flow, reply_to}
use Rattle.flow_state.specs.Calls.{call_of, offer_of, answer_of}
use Rattle.flow_state.specs.Counts.{counted_for}
use Rattle.flow_state.specs.Arena.{Memory, Grows}
use Rattle.flow_state.specs.Slots.{entry_of}
use Rattle.flow_state.specs.Stretches.{AllWithin, entries_of}
use Rattle.flow_state.specs.declared.counts.CallerCount.{CallerCount}
use Rattle.flow_state.specs.declared.stretch.Stretch.{Stretch}
use Rattle.tas_model.specs.declared.entry.Caller.{Caller}
use Rattle.tas_model.specs.declared.entry.Entry.{Entry}
use Rattle.tas_model.specs.declared.entry.HostParams.{HostParams}
use Rattle.tas_model.proofs.MovesLaws.{places_of}
use Rattle.flow_state.proofs.Near.{near_of}
use Rattle.flow_state.proofs.Ready.{rings_of}
use Rattle.flow_state.proofs.Acting.{Grown, kept_after}
use Rattle.flow_state.proofs.record.FlowRecord.act.Goals as goal
use Rattle.flow_state.proofs.record.FlowRecord.act.Goals.{After-add}
use Rattle.flow_state.proofs.record.FlowRecord.act.Given

grown : (g : Given.Over) (c : After-add g)
    → Grown c.self.inside.parts c.answer.new.parts c.self.inside.arena.memory c.answer.new.self.memory
    c.self.inside.stretches.items c.add.new.stretches.items c.count_one.new.self.counts
    c.or-self-inside.result (c.self.inside.made + 1) c.max-tick.result
    (c.self.inside.sent + c.segments.result) c.args.caller c.args.tick c.args.call.now
    c.in-Some.answer
grown g c =
    let same : c.reserve.new.self.items ≡ c.self.inside.stretches.items = c.in_ok-reserve.ensures.items in
    let sizes : length c.add.new.stretches.items ≡ c.add.new.stretches.len = sym c.add.new.stretches.ok.0 in
    kept_after c.self.inside.parts c.answer.new.parts c.self.inside.arena.memory c.answer.new.self.memory
    c.self.inside.stretches.items c.add.new.stretches.items c.in-Some.slot c.self.inside.counts.counts
    c.count_one.new.self.counts c.self.inside.application c.or-self-inside.result
    c.self.inside.made c.self.inside.last c.self.inside.sent
    (c.self.inside.sent + c.segments.result) c.args.caller c.args.tick c.number_of-number.result c.max-tick.result
    c.args.call.now c.in-Some.answer
    c.self.invariant c.answer.ensures.params
    (subst (λ (m : Memory). Grows m c.answer.new.self.memory) c.reserve-3.ensures.memory c.answer.ensures.kept)
    c.number_of-number.ensures
    (grind arith)
    (omega (arith, c.self.invariant.low, c.max-tick.ensures, c.ranges.tick.fits))
    (record {
      entries = λ memory. c.add.ensures.entries memory
          ∙ ap (λ (ss : List Stretch). entries_of memory ss ++ entry_of memory c.max-tick.result c.in-Some.slot ∷ [])
          same;
      within = λ n k all is. c.add.ensures.within n k (subst (AllWithin n k) (sym same) all) is;
      few = λ memory low.
          let end : last_tick 0 (entries_of memory c.reserve.new.self.items)
          ≡ last_tick 0 (entries_of memory c.self.inside.stretches.items) =
          ap (λ (ss : List Stretch). last_tick 0 (entries_of memory ss)) same in
          let more = c.add.ensures.few memory (omega (arith, end, low)) in
          omega (arith, end, more, sizes, c.in_ok-reserve.ensures.len, c.self.inside.stretches.ok.0);
    })
    (λ (other : Caller). c.count_one.ensures.counted other
    ∙ ap (λ (cs : List CallerCount). counted_for other cs + cond (same_caller c.args.caller other) 1 0)
    c.reserve-2.ensures.counts)
    (λ out. c.or-self-inside.ensures ∙ ap (option_or c.self.inside.application) (c.got_by.ensures out))
    (ap (λ k. c.self.inside.sent + k) c.segments.ensures.count)
    c.in-Some.ensures.made

pub add-requires-clause-placed : goal.add-requires-clause-placed
add-requires-clause-placed g c =
    let n = length c.self.inside.arena.memory.bytes in
    let k = length c.self.inside.arena.memory.came in
    (n, k, subst (AllWithin n k) (sym c.in_ok-reserve.ensures.items) c.self.invariant.within)

pub invariant_of-self-2 : goal.invariant_of-self-2
invariant_of-self-2 g c = (grown g c).kept

pub returns-clause-exact : goal.returns-clause-exact
returns-clause-exact g c =
    subst (λ (f : Flow). entries_of c.answer.new.self.memory c.add.new.stretches.items
    ≡ extended_by f.params f.entries c.args.caller c.args.tick (call_of c.args.call.now) (offer_of c.args.call.now))
    c.self.view_is (grown g c).exact

pub returns-clause-answer : goal.returns-clause-answer
returns-clause-answer g c =
    subst (λ (f : Flow). c.in-Some.answer ≡ answer_of
    (reply_to f.params f.entries c.args.tick (call_of c.args.call.now) (offer_of c.args.call.now))) c.self.view_is
    (grown g c).answer

pub returns-clause-legal : goal.returns-clause-legal
returns-clause-legal g c = (grown g c).kept.legal

pub returns-clause-stands : goal.returns-clause-stands
returns-clause-stands g c = (grown g c).kept.stands

pub returns-in_err-reserve-3-clause-stands : goal.returns-in_err-reserve-3-clause-stands
returns-in_err-reserve-3-clause-stands g c =
    rw (c.in_err-reserve-3.ensures.memory, c.in_ok-reserve.ensures.items) c.self.invariant.stands

pub returns-in_default-answer : goal.returns-in_default-answer
returns-in_default-answer g c =
    record {
      exact = tt;
      answer = tt;
      unmade = search rules;
      unmade_parts = search rules;
      err = tt;
      err_parts = tt;
      serves = search rules;
      spare = search rules;
      spent_entries = search rules;
      spent_bytes = search rules;
      legal = search rules;
      stands = rw (
        c.in_default-answer.ensures.unmade,
        c.in_default-answer.ensures.unmade_memory,
        c.reserve-3.ensures.memory,
        c.in_ok-reserve.ensures.items,
      ) c.self.invariant.stands;
      id = search rules;
      tuple = search rules;
      params = search rules;
    }

pub answer-requires-clause-near : goal.answer-requires-clause-near
answer-requires-clause-near g c =
    let h : List Entry = entries_of c.self.inside.arena.memory c.self.inside.stretches.items in
    let p : HostParams = c.self.inside.parts.params in
    near_of c.self.inside.parts (replay p h) (length h) c.self.invariant.stands
    (places_of p h c.self.invariant.fits c.self.invariant.legal)
    (omega (
      arith,
      c.self.invariant.made,
      c.self.invariant.few,
      c.self.invariant.low,
      c.self.inside.stretches.ok,
      c.self.inside.stretches.small,
    ))

pub answer-requires-clause-rings : goal.answer-requires-clause-rings
answer-requires-clause-rings g c = rings_of c.self.inside.parts _ c.self.invariant.stands
