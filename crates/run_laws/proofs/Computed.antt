-- The worked ticks, frames, captures and runs, by computation.
use Rattle.std.specs.Prelude.{◌≡◌, false}
use Rattle.std.proofs.Common.{refl}
use Rattle.std.specs.Fmt.{digits}
use Rattle.tas_num.specs.Places.{nearest}
use Rattle.tas_num.specs.Captures.{form_of, first_record, capture_of}
use Rattle.segment_fields.specs.Canon.{ip_header, tcp_fixed}
use Rattle.segment_fields.specs.Text.{refusal, mss_of, scale_of}
use Rattle.tas_model.specs.Receive.{rx, rx_later, rx_syn_sent}
use Rattle.tas_model.specs.NextSegment.{going}
use Rattle.tas_model.specs.Timers.{ticks, control}
use Rattle.tas_model.specs.LegalHistory.{step, replay}
use Rattle.host_rounds.specs.SerialOrder.{serial_tick, serial_ticks}
use Rattle.host_rounds.specs.WorkedTicks.{ids}
use Rattle.link_script.specs.DueFrames.{due}
use Rattle.tas_runs.specs.Records.{items_of}
use Rattle.tas_runs.specs.Batches.{batches_of}
use Rattle.tas_runs.specs.Starts.{first_start}
use Rattle.tas_runs.specs.SerialOrder.{serial_replay}
use Rattle.tas_runs.specs.Report.{report}
use Rattle.tas_runs.specs.WorkedTexts.{host_address, replayed}
use Rattle.scenario_text.specs.Statements.{reading}
use Rattle.scenario_text.specs.Reads.{reads}
use Rattle.scenario_runs.specs.Runs.{serial_world, serial_from}
use Rattle.scenario_runs.specs.WorkedParts.{reported}
use Rattle.run_laws.specs.WorkedHosts.{filled, filled_log, filled_ids}
use Rattle.run_laws.specs.WorkedFrames.{some_lines, all_sent, all_due}
use Rattle.run_laws.specs.WorkedRecords.{broken_capture, broken_report}
use Rattle.run_laws.specs.WorkedRest.{late_answer, late_answer_report}

pub filled_log_is : filled.log ≡ filled_log
unfolding nearest rx rx_later rx_syn_sent going ticks control step replay serial_tick serial_ticks
filled_log_is = refl

pub filled_ids_are : ids filled ≡ filled_ids
unfolding nearest rx rx_later rx_syn_sent going ticks control step replay serial_tick serial_ticks
filled_ids_are = refl

pub all_due_are : due some_lines all_sent 10 ≡ all_due
all_due_are = refl

pub broken_is : replayed host_address broken_capture false ≡ broken_report
unfolding digits nearest refusal mss_of scale_of rx rx_later rx_syn_sent going ticks control step replay form_of
    first_record capture_of items_of batches_of first_start serial_tick serial_ticks serial_replay report
broken_is = refl

pub late_answer_is : reported late_answer ≡ late_answer_report
unfolding reads reading digits nearest ip_header tcp_fixed refusal mss_of scale_of rx rx_later rx_syn_sent going ticks
    control step replay serial_tick report serial_world serial_from
late_answer_is = refl
