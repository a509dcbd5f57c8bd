-- The worked replays of first numbers, local bytes and the order of frames, by computation.
use Rattle.std.specs.Prelude.{◌≡◌, false}
use Rattle.std.proofs.Common.{refl}
use Rattle.std.specs.Fmt.{digits}
use Rattle.tas_num.specs.Places.{nearest}
use Rattle.tas_num.specs.Captures.{form_of, first_record, capture_of}
use Rattle.segment_fields.specs.Canon.{ip_header, tcp_fixed}
use Rattle.tas_runs.specs.SentFrames.{capture}
use Rattle.segment_fields.specs.Text.{refusal, mss_of, scale_of}
use Rattle.tas_model.specs.Receive.{rx, rx_later, rx_syn_sent}
use Rattle.tas_model.specs.NextSegment.{going}
use Rattle.tas_model.specs.Timers.{ticks, control}
use Rattle.tas_model.specs.LegalHistory.{step, replay}
use Rattle.tas_runs.specs.Records.{items_of}
use Rattle.tas_runs.specs.Batches.{batches_of}
use Rattle.tas_runs.specs.Starts.{first_start}
use Rattle.host_rounds.specs.SerialOrder.{serial_tick, serial_ticks}
use Rattle.tas_runs.specs.SerialOrder.{serial_replay}
use Rattle.tas_runs.specs.Report.{report}
use Rattle.tas_runs.specs.WorkedTexts.{host_address, replayed, capture_or_none}
use Rattle.tas_runs.specs.WorkedOrders.{second_number_capture, second_number_report, syn_with_data_capture}
use Rattle.tas_runs.specs.WorkedOrders.{syn_with_data_report, local_gap_capture, local_gap_report, strays_last_capture}
use Rattle.tas_runs.specs.WorkedOrders.{strays_last_sent}

pub second_number_is : replayed host_address second_number_capture false ≡ second_number_report
unfolding digits nearest refusal mss_of scale_of rx rx_later rx_syn_sent going ticks control step replay
    form_of first_record capture_of items_of batches_of first_start serial_tick serial_ticks serial_replay report
second_number_is = refl

pub syn_with_data_is : replayed host_address syn_with_data_capture false ≡ syn_with_data_report
unfolding digits nearest refusal mss_of scale_of rx rx_later rx_syn_sent going ticks control step replay
    form_of first_record capture_of items_of batches_of first_start serial_tick serial_ticks serial_replay report
syn_with_data_is = refl

pub local_gap_is : replayed host_address local_gap_capture false ≡ local_gap_report
unfolding digits nearest refusal mss_of scale_of rx rx_later rx_syn_sent going ticks control step replay
    form_of first_record capture_of items_of batches_of first_start serial_tick serial_ticks serial_replay report
local_gap_is = refl

pub strays_last_is : capture_or_none (serial_replay host_address strays_last_capture false) ≡ strays_last_sent
unfolding digits nearest refusal mss_of scale_of ip_header tcp_fixed rx rx_later rx_syn_sent going ticks control step
    replay form_of first_record capture_of items_of batches_of first_start serial_tick serial_ticks serial_replay
    capture
strays_last_is = refl
