-- How a flow of the host is seen.
use Rattle.local_host.specs.declared.live.LiveFlow.TheInside.{Inside}
use Rattle.local_host.specs.Live.{flow_in, holder_in}
use Rattle.local_host.specs.Sleep.{ticked_flow, IsRested}
use Rattle.host_rounds.specs.Hosts.{Live}

abbrev pub live_of : Inside → Live
live_of l =
    record {
      flow = ticked_flow l.sleep (flow_in l.history);
      indexed = l.indexed;
      holder = holder_in l.holder;
      filed = l.filed;
    }

abbrev pub IsLive : Inside → Type 0
IsLive l = IsRested l.sleep (flow_in l.history)
