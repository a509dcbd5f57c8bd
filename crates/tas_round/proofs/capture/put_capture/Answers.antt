use Rattle.std.proofs.Common.{rules, ◌≡◌, IsErr, map}
use Rattle.tas_runs.specs.SentFrames.{capture, ticks_from}
use Rattle.tas_round.specs.Runs.{host_in}
use Rattle.run_texts.proofs.Writing.{stopped_at, wrote_then}
use Rattle.tas_round.proofs.capture.put_capture.Goals as goal

pub returns-in_err-write_capture_header : goal.returns-in_err-write_capture_header
unfolding capture
returns-in_err-write_capture_header g c =
    let failed : IsErr c.from_residual.result = search rules in
    let same : c.from_residual.result ≡ c.write_capture_header.result = search rules in
    stopped_at _ _ _ _ _ (ticks_from c.args.log.now.ticks 0 (map host_in c.args.log.now.hosts)) failed same
    c.write_capture_header.ensures

pub returns : goal.returns
unfolding capture
returns g c = wrote_then _ _ _ _ _ _ c.in_ok-write_capture_header.ensures c.put_frames.ensures
