-- Answers of the proof of ending/finish_each.
use Rattle.std.proofs.Common.{◌≡◌, length, sym, ap, ◌∙◌, subst, arith}
use Rattle.std.specs.Vec.Iter.{into_iter_items}
use Rattle.host_rounds.specs.Lists.{Each}
use Rattle.local_host.specs.Live.{IsLegal}
use Rattle.local_host.specs.declared.host.HostEnd.{HostEnd}
use Rattle.core_host.specs.Ending.{AreFiled}
use Rattle.core_host.specs.Sound.{IsStaffSound}
use Rattle.core_host.specs.Views.{Staffed}
use Rattle.scenario_world.proofs.Ended.{each_more}
use Rattle.shared_world.proofs.Ended.{all_left, left_more, none_left}
use Rattle.shared_world.proofs.ending.finish_each.Goals as goal

pub loop-host-preserved : goal.loop-host-preserved
loop-host-preserved g c =
    let now = c.loop-host.invariant in
    let first = c.in-Some.ensures.cases.0 in
    let gone = c.in-Some.ensures.cases.1 in
    let short = ap length first in
    let was = now.len in
    let sound = subst (Each IsStaffSound) first now.sound in
    let filed = subst (Each (λ (h : Staffed). AreFiled h.host)) first now.filed in
    record {
      len = omega (arith, gone, short, was);
      sound = sound.1;
      filed = filed.1;
      left = left_more _ (into_iter_items c.loop-host.left) (into_iter_items c.next.new.self) _ c.loop-host.ends.items
          c.push.new.self.items c.in-Some.host c.in_ok-finish.field-0 now.left first c.in_ok-finish.ensures.end
          c.in_ok-push.ensures.items;
      legal = each_more (λ (e : HostEnd). Each IsLegal e.flows.items) c.loop-host.ends.items c.push.new.self.items
          c.in_ok-finish.field-0 now.legal c.in_ok-finish.ensures.legal c.in_ok-push.ensures.items;
    }

pub returns-clause-ends : goal.returns-clause-ends
returns-clause-ends g c =
    let now = c.loop-host.invariant in
    all_left _ (into_iter_items c.loop-host.left) _ c.loop-host.ends.items now.left
    (sym now.len ∙ c.in_default.ensures.cases.0)
