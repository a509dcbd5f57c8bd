-- Answers of the proof of opened/connects_keep_it.
use Rattle.sound_calls.proofs.Connecting.{connected_told}
use Rattle.sound_calls.proofs.opened.connects_keep_it.Goals as goal

pub returns : goal.returns
returns c h front back a b x raddr rport tick id sound apps next apart few empty opened joined kept =
    connected_told h front a back b x raddr rport tick id sound apps next apart few empty opened joined kept
