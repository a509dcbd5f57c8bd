-- Answers of the proof of alone/frames_that_open_keep_it.
use Rattle.sound_hosts.proofs.OpenedHosts.{opened_sound}
use Rattle.sound_hosts.proofs.alone.frames_that_open_keep_it.Goals as goal

pub returns : goal.returns
returns c h w tick iss frame seg id sound next apart few answer opened rest kept =
    opened_sound h w tick iss frame seg id sound next apart few answer opened rest kept
