-- Answers of the proof of laws/own_sockets_are_seen.
use Rattle.script_tries.proofs.Owning.{own_seen}
use Rattle.script_tries.proofs.laws.own_sockets_are_seen.Goals as goal

pub returns : goal.returns
returns c = own_seen
