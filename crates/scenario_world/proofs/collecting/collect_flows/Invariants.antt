use Rattle.std.proofs.Common.{◌≡◌, ◌++◌, map, take, drop}
use Rattle.host_rounds.specs.Hosts.{Live}
use Rattle.scenario_runs.specs.Worlds.{World, frames_of_flows}
use Rattle.sent_frames.specs.Sending.{addresses_of, of_tick, AreUpTo, sent_by, sent_before}
use Rattle.scenario_world.proofs.collecting.collect_flows.Given as goal

abbrev pub invariant-loop-place : goal.invariant-loop-place
invariant-loop-place l = record {
  flows : l.counts.flows.items ≡ map (λ (m : Live). sent_by m.flow.entries) (take l.place l.host.flows)
      ++ map (λ (m : Live). sent_before l.tick m.flow.entries) (drop l.place l.host.flows);
  answers : l.counts.answers ≡ l.fn.counts.answers;
  lines : l.counts.lines ≡ l.fn.counts.lines;
  frames : (world : World) → l.sender.addresses.now ≡ addresses_of world
      → l.sent ≡ l.fn.sent ++ of_tick l.tick (frames_of_flows world l.sender.host 0 (take l.place l.host.flows));
  last : AreUpTo l.tick l.sent;
}
