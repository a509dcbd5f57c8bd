use Rattle.std.proofs.Common.{◌≡◌, ◌++◌, length, take, drop}
use Rattle.scenario_runs.specs.Worlds.{World, frames_of_hosts}
use Rattle.sent_frames.specs.Sending.{addresses_of, of_tick, AreUpTo}
use Rattle.scenario_world.specs.Playing.{AreCounted, AreCountedBefore}
use Rattle.scenario_world.proofs.collecting.collect_all.Given as goal

abbrev pub invariant-loop-number : goal.invariant-loop-number
invariant-loop-number l = record {
  len : length l.counts ≡ length l.hosts;
  done : AreCounted (take l.number l.hosts) (take l.number l.counts);
  left : AreCountedBefore l.tick (drop l.number l.hosts) (drop l.number l.counts);
  frames : (world : World) → l.addresses ≡ addresses_of world
      → l.sent ≡ l.fn.sent ++ of_tick l.tick (frames_of_hosts world 0 (take l.number l.hosts));
  last : AreUpTo l.tick l.sent;
}
