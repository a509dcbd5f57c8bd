-- A flow whose record got the ticks that it lacked.
use Rattle.std.proofs.Common.{◌≡◌, ◌+◌, ap, sym, ◌∙◌}
use Rattle.host_rounds.specs.Logs.{Flow}
use Rattle.host_rounds.specs.Hosts.{Live}
use Rattle.local_host.specs.declared.live.LiveFlow.TheInside.{Inside}
use Rattle.local_host.specs.Live.{flow_in}
use Rattle.local_host.specs.Sleep.{ticked_flow}
use Rattle.local_host.specs.Inside.{live_of}
use Rattle.local_host.proofs.Sleeping.{awake_flow}

-- it is the flow that it was
pub woken : (l : Inside) (f : Flow) (m : Live) → f ≡ ticked_flow l.sleep (flow_in l.history) → live_of l ≡ m
    → record (live_of l) { flow = f } ≡ m
woken l f m made is = ap (λ (g : Flow). record (live_of l) { flow = g }) made ∙ is

-- where it is awake, its record is all of it
pub as_recorded : (l : Inside) (m : Live) → l.sleep.missed + l.sleep.left ≡ 0 → live_of l ≡ m
    → record (live_of l) { flow = flow_in l.history } ≡ m
as_recorded l m awake is =
    woken l (flow_in l.history) m (sym (awake_flow l.sleep (flow_in l.history) awake)) is
