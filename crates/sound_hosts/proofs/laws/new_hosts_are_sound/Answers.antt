-- Answers of the proof of laws/new_hosts_are_sound.
use Rattle.sound_hosts.proofs.New.{new_sound}
use Rattle.sound_hosts.proofs.laws.new_hosts_are_sound.Goals as goal

pub returns : goal.returns
returns c table w xs new = new_sound table w xs new
