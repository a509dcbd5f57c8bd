-- The worked ticks, by computation.
use Rattle.std.specs.Prelude.{◌≡◌}
use Rattle.std.proofs.Common.{refl}
use Rattle.tas_num.specs.Places.{nearest}
use Rattle.tas_model.specs.Receive.{rx, rx_later, rx_syn_sent}
use Rattle.tas_model.specs.NextSegment.{going}
use Rattle.tas_model.specs.Timers.{ticks, control}
use Rattle.tas_model.specs.LegalHistory.{step, replay}
use Rattle.host_rounds.specs.SerialOrder.{serial_tick, serial_ticks}
use Rattle.host_rounds.specs.WorkedTicks.{marks, ids, visited, visited_marks, visited_log, crowded, crowded_marks}
use Rattle.host_rounds.specs.WorkedTicks.{crowded_ids, crowded_log}

pub visited_is : marks visited ≡ visited_marks
unfolding nearest rx rx_later rx_syn_sent going ticks control step replay serial_tick serial_ticks
visited_is = refl

pub visited_log_is : visited.log ≡ visited_log
unfolding nearest rx rx_later rx_syn_sent going ticks control step replay serial_tick serial_ticks
visited_log_is = refl

pub crowded_is : marks crowded ≡ crowded_marks
unfolding nearest rx rx_later rx_syn_sent going ticks control step replay serial_tick serial_ticks
crowded_is = refl

pub crowded_ids_are : ids crowded ≡ crowded_ids
unfolding nearest rx rx_later rx_syn_sent going ticks control step replay serial_tick serial_ticks
crowded_ids_are = refl

pub crowded_log_is : crowded.log ≡ crowded_log
unfolding nearest rx rx_later rx_syn_sent going ticks control step replay serial_tick serial_ticks
crowded_log_is = refl
