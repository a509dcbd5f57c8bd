use Rattle.std.proofs.Common.{◌≡◌, ◌≤◌, List, length, map, take, slice_get, Some, refl, sym, subst, ap, ◌∙◌}
use Rattle.std.proofs.lemmas.List.{take_all}
use Rattle.std.proofs.lemmas.Option.{slice_get_read}
use Rattle.host_rounds.specs.Scripts.{Site}
use Rattle.scenario_text.specs.declared.scenario.HostLine.{HostLine}
use Rattle.scenario_runs.specs.Applications.{Script}
use Rattle.scenario_runs.specs.Worlds.{site_of}
use Rattle.scenario_world.specs.Playing.{IsCounted}
use Rattle.scenario_world.proofs.Lists.{mapped_more}
use Rattle.scenario_world.proofs.Counted.{counted_more}
use Rattle.scenario_world.proofs.Starts.{start_counted, start_is}
use Rattle.scenario_world.proofs.playing.at_start.Goals as goal

pub loop-line-preserved : goal.loop-line-preserved
loop-line-preserved c =
    let s = c.args.s.now in
    let lines = c.as_slice-line-items.result.now in
    let i = c.loop-line.line-index in
    let line = c.line-item.result in
    let site = c.in_ok-at_start.field-0 in
    let new = c.new.result in
    let here : slice_get lines i ≡ Some line =
    slice_get_read lines (length lines) i line refl c.loop-line-test.true c.line-item.is in
    record {
      hosts = mapped_more (site_of s) lines i line site c.loop-line.hosts.items c.push.new.self.items here
          c.loop-line.invariant.hosts c.in_ok-at_start.ensures c.in_ok-push.ensures.items;
      addresses = mapped_more (λ (h : HostLine). h.params.addr) lines i line line.params.addr
          c.loop-line.addresses.items
          c.push-in-loop-line.new.self.items here c.loop-line.invariant.addresses refl c.in_ok-push-2.ensures.items;
      counted = counted_more c.loop-line.hosts.items c.push.new.self.items c.loop-line.counts.items
          c.push-in-loop-line-2.new.self.items site new c.loop-line.invariant.counted
          (subst (λ (x : Site (List Script)). IsCounted x.host new) (sym c.in_ok-at_start.ensures)
          (start_counted s line new c.new.ensures.flows c.new.ensures.answers c.new.ensures.lines))
          c.in_ok-push.ensures.items c.in_ok-push-3.ensures.items;
    }

pub returns-clause-world : goal.returns-clause-world
returns-clause-world c =
    let s = c.args.s.now in
    let lines = c.as_slice-line-items.result.now in
    let past : length lines ≤ c.loop-line.line-index = c.loop-line-test.false in
    let all : take c.loop-line.line-index lines ≡ s.hosts = take_all c.loop-line.line-index lines past
    ∙ c.as_slice-line-items.ensures in
    start_is s c.loop-line.hosts.items _ (c.loop-line.invariant.hosts ∙ ap (map (site_of s)) all)
    (c.loop-line.invariant.addresses ∙ ap (map (λ (h : HostLine). h.params.addr)) all) c.loop-line.invariant.counted
    c.new-2.ensures refl
