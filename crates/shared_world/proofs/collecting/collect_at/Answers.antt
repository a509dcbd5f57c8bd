-- Answers of the proof of collecting/collect_at.
use Rattle.std.proofs.Common.{◌≡◌, ◌++◌, set, sym, subst, OnOk}
use Rattle.host_rounds.specs.Logs.{Flow}
use Rattle.scenario_runs.specs.Worlds.{host_at, frames_of_entries}
use Rattle.sent_frames.specs.Sending.{of_tick, sent_by}
use Rattle.core_host.specs.Views.{seen_by}
use Rattle.shared_world.proofs.Collected.{number_there}
use Rattle.shared_world.proofs.collecting.collect_at.Goals as goal

pub collect_flow-done-requires-clause-number : goal.collect_flow-done-requires-clause-number
collect_flow-done-requires-clause-number c =
    number_there c.args.tick c.args.counts.now.flows.items c.args.place c.args.at c.take_record-flow.result
    (seen_by c.args.host.now) c.requires.there
    (c.take_record-flow.ensures.of_place c.args.place c.requires.there) c.requires.counted

pub returns-clause-frames : goal.returns-clause-frames
returns-clause-frames c world l same here =
    subst
    (λ (f : Flow). OnOk c.collect_flow-done.result (c.collect_flow-done.new.sent
    ≡ c.args.sent.now ++ of_tick c.args.tick (frames_of_entries c.args.sender.now.host c.args.place 0
    (host_at world f.tuple.raddr) f.tuple f.entries)))
    (sym (c.take_record-flow.ensures.of_place c.args.place c.requires.there l here))
    (c.collect_flow-done.ensures.frames world same)

pub returns-clause-flows : goal.returns-clause-flows
returns-clause-flows c l here =
    subst
    (λ (f : Flow). OnOk c.collect_flow-done.result (c.collect_flow-done.new.self.flows.items
    ≡ set c.args.counts.now.flows.items c.args.place (sent_by f.entries)))
    (sym (c.take_record-flow.ensures.of_place c.args.place c.requires.there l here))
    c.collect_flow-done.ensures.flows
