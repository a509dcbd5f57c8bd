-- Answers of the proof of staffing/lanes_of.
use Rattle.core_host.proofs.staffing.lanes_of.Goals as goal

pub returns : goal.returns
returns c = (
  c.put_cores.new.lanes.items,
  c.in_ok-put_apps.ensures.0,
  c.in_ok-put_apps.ensures.1,
  c.in_ok-put_cores.ensures,
  c.in_ok-put_apps.ensures.2,
)
