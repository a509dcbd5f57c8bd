use Rattle.std.proofs.Common.{rules, ◌≡◌, ◌+◌, ◌<◌, subst, arith}
use Rattle.tas_model.specs.LegalHistory.{last_tick}
use Rattle.flow_state.specs.Flow.{Flow, ticked_on}
use Rattle.flow_state.specs.Stretches.{entries_of}
use Rattle.flow_state.proofs.Ticking.{Ticked, kept_after_ticks, loud_next}
use Rattle.flow_state.proofs.record.FlowRecord.pass_quietly.Goals as goal
use Rattle.flow_state.proofs.record.FlowRecord.pass_quietly.Goals.{After-self-2-1}
use Rattle.flow_state.proofs.record.FlowRecord.pass_quietly.Given

ticked : (g : Given.Over) (c : After-self-2-1 g)
    → Ticked c.self.inside.parts c.pass-done.new.parts c.self.inside.arena.memory c.self.inside.stretches.items
    c.go_on.new.stretches.items c.count_slow.new.self.counts c.self.inside.application c.self.inside.made
    c.self.inside.last c.self.inside.sent c.args.tick c.pass-done.result
ticked g c =
    kept_after_ticks c.self.inside.parts c.pass-done.new.parts c.self.inside.arena.memory
    c.self.inside.stretches.items c.go_on.new.stretches.items c.self.inside.counts.counts
    c.count_slow.new.self.counts c.self.inside.application c.self.inside.made c.self.inside.last
    c.self.inside.sent c.slow-first.result c.args.tick c.pass-done.result c.self.invariant c.slow-first.ensures
    c.go_on.ensures.added (search rules) c.count_slow.ensures.counted c.pass-done.ensures.made

pub invariant_of-self : goal.invariant_of-self
invariant_of-self g c = (ticked g c).kept

pub returns-clause-made : goal.returns-clause-made
returns-clause-made g c =
    subst (λ (f : Flow). entries_of c.self.inside.arena.memory c.go_on.new.stretches.items
    ≡ ticked_on f.params f.entries c.args.tick c.pass-done.result) c.self.view_is (ticked g c).exact

pub returns-clause-all : goal.returns-clause-all
returns-clause-all g c some few =
    let told = ticked g c in
    let later : last_tick 0 (entries_of c.self.inside.arena.memory c.go_on.new.stretches.items)
    < c.args.tick + c.pass-done.result =
    omega (
      arith,
      told.kept.last,
      c.self.invariant.last,
      c.go_on.ensures.added.next c.self.inside.arena.memory,
    ) in
    loud_next c.pass-done.new.parts.params
    (entries_of c.self.inside.arena.memory c.go_on.new.stretches.items) c.pass-done.new.parts
    (c.args.tick + c.pass-done.result) told.kept.fits told.kept.legal told.kept.stands later
    (c.pass-done.ensures.all few)

pub returns-clause-legal : goal.returns-clause-legal
returns-clause-legal g c = (ticked g c).kept.legal

pub returns-clause-stands : goal.returns-clause-stands
returns-clause-stands g c = (ticked g c).kept.stands

pub overflow_add-self-2 : goal.overflow_add-self-2
overflow_add-self-2 g c =
    omega (
      arith,
      c.go_on.ensures.added.next c.self.inside.arena.memory,
      c.self.invariant.last,
      c.requires.room,
      c.pass-done.ensures.most,
    )
