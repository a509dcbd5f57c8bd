-- What the fast path takes, the letters and the replay, by computation.
use Rattle.std.specs.Prelude.{◌≡◌, false, map, replicate}
use Rattle.std.proofs.Common.{refl}
use Rattle.std.specs.Fmt.{digits}
use Rattle.tas_num.specs.Places.{nearest}
use Rattle.tas_num.specs.Captures.{form_of, first_record, capture_of}
use Rattle.segment_fields.specs.Text.{refusal, mss_of, scale_of}
use Rattle.tas_model.specs.declared.entry.Caller.TheVariants.{Slow}
use Rattle.tas_model.specs.Receive.{rx, rx_later, rx_syn_sent}
use Rattle.tas_model.specs.NextSegment.{going}
use Rattle.tas_model.specs.Timers.{ticks, control}
use Rattle.tas_model.specs.LegalHistory.{step, replay}
use Rattle.host_rounds.specs.SerialOrder.{serial_tick, serial_ticks}
use Rattle.tas_runs.specs.Records.{items_of}
use Rattle.tas_runs.specs.Batches.{batches_of}
use Rattle.tas_runs.specs.Starts.{first_start}
use Rattle.tas_runs.specs.SerialOrder.{serial_replay}
use Rattle.tas_runs.specs.Report.{flags_text, report}
use Rattle.tas_runs.specs.WorkedTexts.{host_address, replayed}
use Rattle.worked_histories.specs.WorkedReading.{takers, while_open, by_the_fast_path, while_not_open}
use Rattle.worked_histories.specs.WorkedReading.{all_flags, all_letters, broken_capture, broken_report}

pub open_by_fast_path : map takers while_open ≡ replicate 4 by_the_fast_path
unfolding nearest rx rx_later rx_syn_sent going ticks control step replay
open_by_fast_path = refl

pub else_by_slow_path : map takers while_not_open ≡ replicate 6 (replicate 9 Slow)
unfolding nearest rx rx_later rx_syn_sent going ticks control step replay
else_by_slow_path = refl

pub letters_are : map flags_text all_flags ≡ all_letters
letters_are = refl

pub broken_are : replayed host_address broken_capture false ≡ broken_report
unfolding digits nearest refusal mss_of scale_of rx rx_later rx_syn_sent going ticks control step replay form_of
    first_record capture_of items_of batches_of first_start serial_tick serial_ticks serial_replay report
broken_are = refl
