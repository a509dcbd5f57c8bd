use Rattle.std.proofs.Common.{◌∙◌}
use Rattle.local_host.proofs.HandingOut.{all_lent}
use Rattle.local_host.proofs.cores.fill_lanes.Goals as goal

pub returns : goal.returns
returns c = record {
  middle = c.hand_out.new.flows.items;
  jobs = c.in_ok-handing.handing.jobs.items;
  left = c.in_ok-handing.handing.left.items;
  handed = c.in_ok-handing.ensures;
  lending = all_lent c.in_ok-handing.handing.jobs.items c.in_ok-handing.handing.left.items c.take_jobs.ensures.jobs
      (c.deref.ensures.value ∙ c.take_jobs.ensures.left) c.in_ok-lanes.ensures c.in_ok-give_strays.ensures
      c.in_ok-lend_all.ensures;
}
