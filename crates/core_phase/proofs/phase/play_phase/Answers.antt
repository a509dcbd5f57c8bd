-- Answers of the proof of phase/play_phase.
use Rattle.std.proofs.Common.{◌≡◌, ◌+◌, ◌++◌, length, ap, sym, ◌∙◌, subst}
use Rattle.flow_lock.specs.Passes.{Seen}
use Rattle.flow_lock.specs.Steps.{HasAll}
use Rattle.flow_lock.specs.Plays.{IsOrdered, IsCounted}
use Rattle.flow_lock.specs.Orders.{Order}
use Rattle.flow_lock.specs.declared.view.View.{View}
use Rattle.core_worker.specs.Workers.{Common}
use Rattle.core_phase.specs.Lanes.{IsIdle, IsReady, MayPlay, CanPlay, Works}
use Rattle.core_phase.specs.Phases.{AreLent, turns_in}
use Rattle.core_phase.proofs.Numbers.{every, of_every, are_done, has_all, idle_again, back_view, can_play, done_ready}
use Rattle.core_phase.proofs.Numbers.{is_phase}
use Rattle.core_phase.proofs.phase.play_phase.Goals as goal

pub phase-requires : goal.phase-requires
phase-requires g c =
    let vs = c.args.lanes.now.items in
    let ls = c.lend_lanes.new.lanes.items in
    of_every CanPlay ls
    (can_play c.args.shared.now c.args.slow.now.view.made vs ls
    (every (IsIdle c.args.shared.now) vs c.requires.idle) (every MayPlay vs c.requires.may) c.lend_lanes.ensures.lent)

pub collect_lanes-requires-clause-ready : goal.collect_lanes-requires-clause-ready
collect_lanes-requires-clause-ready g c =
    let vs = c.args.lanes.now.items in
    let ls = c.lend_lanes.new.lanes.items in
    let ms = c.phase.new.jobs.items in
    let lent : AreLent 0 vs ls = subst (λ k. AreLent k vs ls) c.requires.slow.1.2 c.lend_lanes.ensures.lent in
    let done = are_done c.args.shared.now 0 vs ls ms (every (IsIdle c.args.shared.now) vs c.requires.idle) lent
    c.phase.ensures.made (every Works ms (c.lanes_failed.ensures c.if-lanes_failed.false)) in
    of_every (IsReady c.args.shared.now) ms (done_ready c.args.shared.now 0 vs ms done)

pub learn-requires : goal.learn-requires
learn-requires g c =
    let v = c.args.slow.now.view in
    let vs = c.args.lanes.now.items in
    let ls = c.lend_lanes.new.lanes.items in
    let ms = c.phase.new.jobs.items in
    let alone = c.requires.slow.1 in
    let lent : AreLent 0 vs ls = subst (λ k. AreLent k vs ls) alone.2 c.lend_lanes.ensures.lent in
    let done = are_done c.args.shared.now 0 vs ls ms (every (IsIdle c.args.shared.now) vs c.requires.idle) lent
    c.phase.ensures.made (every Works ms (c.lanes_failed.ensures c.if-lanes_failed.false)) in
    let e : c.collect_lanes.new.slow.view ≡ record v { made = v.made + length vs; turns = v.turns ++ turns_in ms } =
    ap (λ (s : Seen). s.view) c.collect_lanes.ensures.slow
    ∙ ap (λ (s : Seen). record (s.view) { turns = s.view.turns ++ turns_in ms }) c.lend_lanes.ensures.slow in
    let view = back_view v c.collect_lanes.new.slow.view (length vs) ms alone e in (
      ap (λ (s : Seen). s.table) c.collect_lanes.ensures.slow
          ∙ (ap (λ (s : Seen). s.table) c.lend_lanes.ensures.slow
          ∙ (c.requires.slow.0 ∙ sym (ap (λ (x : Common). x.table) c.shared.view_is))),
      ap (λ (x : View). x.baton) view ∙ alone.0,
      subst HasAll (sym view) (has_all c.args.shared.now v vs ms done),
    )

pub returns-clause-idle : goal.returns-clause-idle
returns-clause-idle g c =
    let vs = c.args.lanes.now.items in
    let ls = c.lend_lanes.new.lanes.items in
    let ms = c.phase.new.jobs.items in
    let lent : AreLent 0 vs ls = subst (λ k. AreLent k vs ls) c.requires.slow.1.2 c.lend_lanes.ensures.lent in
    let done = are_done c.args.shared.now 0 vs ls ms (every (IsIdle c.args.shared.now) vs c.requires.idle) lent
    c.phase.ensures.made (every Works ms (c.lanes_failed.ensures c.if-lanes_failed.false)) in
    of_every (IsIdle c.args.shared.now) c.collect_lanes.new.lanes.items
    (idle_again c.args.shared.now ms c.collect_lanes.new.lanes.items (done_ready c.args.shared.now 0 vs ms done)
    c.collect_lanes.ensures.back)

pub returns-clause-phase : goal.returns-clause-phase
returns-clause-phase g c =
    let v = c.args.slow.now.view in
    let w = c.learn.new.slow.view in
    let vs = c.args.lanes.now.items in
    let ls = c.lend_lanes.new.lanes.items in
    let ms = c.phase.new.jobs.items in
    let n = length vs in
    let alone = c.requires.slow.1 in
    let lent : AreLent 0 vs ls = subst (λ k. AreLent k vs ls) alone.2 c.lend_lanes.ensures.lent in
    let done = are_done c.args.shared.now 0 vs ls ms (every (IsIdle c.args.shared.now) vs c.requires.idle) lent
    c.phase.ensures.made (every Works ms (c.lanes_failed.ensures c.if-lanes_failed.false)) in
    let e : c.collect_lanes.new.slow.view ≡ record v { made = v.made + length vs; turns = v.turns ++ turns_in ms } =
    ap (λ (s : Seen). s.view) c.collect_lanes.ensures.slow
    ∙ ap (λ (s : Seen). record (s.view) { turns = s.view.turns ++ turns_in ms }) c.lend_lanes.ensures.slow in
    let view = back_view v c.collect_lanes.new.slow.view n ms alone e in
    is_phase c.args.shared.now v w vs ms c.collect_lanes.new.lanes.items alone done c.collect_lanes.ensures.back
    (subst (λ (x : View). (order : Order) × IsOrdered order x w) view c.learn.ensures.order)
    (subst (λ (x : View). IsCounted x w) view c.learn.ensures.words)
