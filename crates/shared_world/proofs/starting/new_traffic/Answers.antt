-- Answers of the proof of starting/new_traffic.
use Rattle.std.proofs.Common.{◌≡◌, ◌≤◌, length, map, take, slice_get, Some, [], ◌∷◌, refl, sym, subst, ap, ◌∙◌}
use Rattle.std.proofs.lemmas.List.{map-append, take_all}
use Rattle.std.proofs.lemmas.Option.{slice_get_read}
use Rattle.scenario_runs.specs.Worlds.{World, at_start, site_of}
use Rattle.scenario_text.specs.declared.scenario.HostLine.{HostLine}
use Rattle.scenario_world.specs.Playing.{AreCounted}
use Rattle.scenario_world.proofs.Counted.{counted_more}
use Rattle.scenario_world.proofs.Lists.{mapped_more, taken_more}
use Rattle.scenario_world.proofs.Starts.{start_counted, start_is}
use Rattle.shared_world.proofs.starting.new_traffic.Goals as goal

pub loop-line-preserved : goal.loop-line-preserved
loop-line-preserved c =
    let s = c.args.s.now in
    let lines = c.as_slice-line-items.result.now in
    let i = c.loop-line.line-index in
    let line = c.line-item.result in
    let new = c.new.result in
    let here : slice_get lines i ≡ Some line =
    slice_get_read lines (length lines) i line refl c.loop-line-test.true c.line-item.is in
    record {
      addresses = mapped_more (λ (h : HostLine). h.params.addr) lines i line line.params.addr
          c.loop-line.addresses.items c.push.new.self.items here c.loop-line.invariant.addresses refl
          c.in_ok-push.ensures.items;
      counted = counted_more (map (site_of s) (take i lines)) _ c.loop-line.counts.items
          c.push-in-loop-line.new.self.items (site_of s line) new c.loop-line.invariant.counted
          (start_counted s line new c.new.ensures.flows c.new.ensures.answers c.new.ensures.lines)
          (ap (map (site_of s)) (taken_more lines i line here) ∙ map-append (site_of s) (take i lines) (line ∷ []))
          c.in_ok-push-2.ensures.items;
    }

pub returns : goal.returns
returns c =
    let s = c.args.s.now in
    let lines = c.as_slice-line-items.result.now in
    let past : length lines ≤ c.loop-line.line-index = c.loop-line-test.false in
    let all : take c.loop-line.line-index lines ≡ s.hosts = take_all c.loop-line.line-index lines past
    ∙ c.as_slice-line-items.ensures in
    start_is s (at_start s) _ refl
    (c.loop-line.invariant.addresses ∙ ap (map (λ (h : HostLine). h.params.addr)) all)
    (subst (λ (w : World). AreCounted w c.loop-line.counts.items) (ap (map (site_of s)) all)
    c.loop-line.invariant.counted) c.new-2.ensures refl
