-- Answers of the proof of alone/frames_alone_keep_it.
use Rattle.sound_hosts.proofs.Frames.{frame_sound}
use Rattle.sound_hosts.proofs.alone.frames_alone_keep_it.Goals as goal

pub returns : goal.returns
returns c h w at frame seg id f sound entered rest kept =
    frame_sound h w at frame seg id sound entered.entered.1 entered.after rest kept
