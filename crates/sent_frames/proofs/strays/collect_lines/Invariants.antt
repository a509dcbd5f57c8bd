use Rattle.std.proofs.Common.{◌≡◌, ◌+◌, ◌++◌, take}
use Rattle.scenario_runs.specs.Worlds.{World, frames_of_log}
use Rattle.tas_core.specs.Stretches.{lines_of}
use Rattle.sent_frames.specs.Sending.{addresses_of, of_tick, AreUpTo, answers_in}
use Rattle.sent_frames.proofs.strays.collect_lines.Given as goal

abbrev pub invariant-loop-stretch : goal.invariant-loop-stretch
invariant-loop-stretch l = record {
  number : l.number ≡ l.fn.number + answers_in (lines_of (take l.stretch-index l.stretches));
  frames : (world : World) → l.sender.addresses.now ≡ addresses_of world
      → l.sent ≡ l.fn.sent
      ++ of_tick l.tick
      (frames_of_log world l.sender.host l.fn.number (lines_of (take l.stretch-index l.stretches)));
  last : AreUpTo l.tick l.sent;
}
