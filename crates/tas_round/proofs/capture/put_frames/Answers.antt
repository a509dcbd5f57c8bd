use Rattle.std.proofs.Common.{map}
use Rattle.run_texts.proofs.Writing.{wrote_as}
use Rattle.tas_round.specs.Runs.{unnamed_in}
use Rattle.tas_round.proofs.Lending.{frames_of}
use Rattle.tas_round.proofs.capture.put_frames.Goals as goal

pub returns : goal.returns
returns g c =
    wrote_as _ _ _ _ _ (frames_of c.args.ticks c.args.hosts.now)
    (c.write_frames.ensures.exact (map unnamed_in c.args.hosts.now) c.requires.order c.requires.short)
