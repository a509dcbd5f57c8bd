-- Answers of the proof of alone/one_flow_led_keeps_it.
use Rattle.sound_hosts.proofs.OneFlow.{led_sound}
use Rattle.sound_hosts.proofs.alone.one_flow_led_keeps_it.Goals as goal

pub returns : goal.returns
returns c = led_sound
