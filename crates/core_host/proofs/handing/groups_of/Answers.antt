-- Answers of the proof of handing/groups_of.
use Rattle.std.proofs.Common.{◌<◌, All, ℕ, sym, subst}
use Rattle.std.proofs.lemmas.List.Elements.{All-push}
use Rattle.core_host.proofs.Dealing.{groups_more}
use Rattle.core_host.proofs.handing.groups_of.Goals as goal

pub loop-frame-preserved : goal.loop-frame-preserved
loop-frame-preserved c = record {
  groups = groups_more c.args.frames.now c.loop-frame.frame-index _ c.loop-frame.groups.items c.push.new.self.items
      c.group_for.result c.loop-frame-test.true c.in_ok-push.ensures.items c.loop-frame.invariant.groups
      c.group_for.ensures.group;
  below = subst (All (λ (k : ℕ). k < 64)) (sym c.in_ok-push.ensures.items)
      (All-push (λ (k : ℕ). k < 64) c.loop-frame.groups.items c.group_for.result c.loop-frame.invariant.below
      c.group_for.ensures.below);
}
