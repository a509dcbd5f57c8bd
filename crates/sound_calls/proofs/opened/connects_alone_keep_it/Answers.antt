-- Answers of the proof of opened/connects_alone_keep_it.
use Rattle.sound_calls.proofs.Connecting.{connected_alone}
use Rattle.sound_calls.proofs.opened.connects_alone_keep_it.Goals as goal

pub returns : goal.returns
returns c h front back a b w iss raddr rport tick id sound apps free few joined =
    connected_alone h front a back b w iss raddr rport tick id sound apps free few joined
