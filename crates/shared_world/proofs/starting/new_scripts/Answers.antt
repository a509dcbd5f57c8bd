-- Answers of the proof of starting/new_scripts.
use Rattle.std.proofs.Common.{◌≡◌, ◌≤◌, length, map, take, slice_get, Some, refl, sym, ap, ◌∙◌}
use Rattle.std.proofs.lemmas.List.{take_all}
use Rattle.std.proofs.lemmas.Option.{slice_get_read}
use Rattle.scenario_world.proofs.Lists.{mapped_more}
use Rattle.shared_world.proofs.Started.{own_scripts, scripts_mapped}
use Rattle.shared_world.proofs.starting.new_scripts.Goals as goal

pub loop-line-preserved : goal.loop-line-preserved
loop-line-preserved c =
    let lines = c.as_slice-line-items.result.now in
    let i = c.loop-line.line-index in
    let line = c.line-item.result in
    let here : slice_get lines i ≡ Some line =
    slice_get_read lines (length lines) i line refl c.loop-line-test.true c.line-item.is in
    mapped_more (own_scripts c.args.s.now) lines i line c.in_ok-at_start.field-0 c.loop-line.scripts.items
    c.push.new.self.items here c.loop-line.invariant c.in_ok-at_start.ensures c.in_ok-push.ensures.items

pub returns : goal.returns
returns c =
    let s = c.args.s.now in
    let lines = c.as_slice-line-items.result.now in
    let past : length lines ≤ c.loop-line.line-index = c.loop-line-test.false in
    let all : take c.loop-line.line-index lines ≡ s.hosts = take_all c.loop-line.line-index lines past
    ∙ c.as_slice-line-items.ensures in
    c.loop-line.invariant ∙ (ap (map (own_scripts s)) all ∙ sym (scripts_mapped s s.hosts))
