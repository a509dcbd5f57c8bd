-- Measures or invariants of ending/finish_each.
use Rattle.std.proofs.Common.{◌≡◌, length}
use Rattle.std.specs.Vec.Iter.{into_iter_items, into_iter_len}
use Rattle.host_rounds.specs.Lists.{Each}
use Rattle.local_host.specs.Live.{IsLegal}
use Rattle.local_host.specs.declared.host.HostEnd.{HostEnd}
use Rattle.core_host.specs.Ending.{AreFiled}
use Rattle.core_host.specs.Sound.{IsStaffSound}
use Rattle.core_host.specs.Views.{Staffed}
use Rattle.shared_world.proofs.Ended.{HaveLeft}
use Rattle.shared_world.proofs.ending.finish_each.Given as goal

-- those in front left their ends
abbrev pub invariant-loop-host : goal.invariant-loop-host
invariant-loop-host g l = record {
  len : into_iter_len l.left ≡ length (into_iter_items l.left);
  sound : Each IsStaffSound (into_iter_items l.left);
  filed : Each (λ (h : Staffed). AreFiled h.host) (into_iter_items l.left);
  left : HaveLeft (into_iter_items l.fn.left) (into_iter_items l.left) l.fn.ends.items l.ends.items;
  legal : Each (λ (e : HostEnd). Each IsLegal e.flows.items) l.ends.items;
}

abbrev pub decreases-loop-host : goal.decreases-loop-host
decreases-loop-host g l = into_iter_len l.left
