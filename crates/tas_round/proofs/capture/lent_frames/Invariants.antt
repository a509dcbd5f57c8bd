use Rattle.std.proofs.Common.{◌≡◌, take, map}
use Rattle.host_rounds.specs.Lists.{Each}
use Rattle.run_texts.specs.Frames.{seen_host}
use Rattle.tas_round.specs.Runs.{unnamed_in, AreLegal}
use Rattle.tas_round.proofs.capture.lent_frames.Given as goal

abbrev pub invariant-loop-i : goal.invariant-loop-i
invariant-loop-i l = record {
  hosts : map seen_host l.frames.items ≡ map unnamed_in (take l.i l.hosts);
  legal : Each AreLegal (map seen_host l.frames.items);
}
