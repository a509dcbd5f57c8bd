-- The worked replays of records, by computation.
use Rattle.std.specs.Prelude.{◌≡◌, true, false}
use Rattle.std.proofs.Common.{refl}
use Rattle.std.specs.Fmt.{digits}
use Rattle.tas_num.specs.Places.{nearest}
use Rattle.tas_num.specs.Captures.{form_of, first_record, capture_of}
use Rattle.segment_fields.specs.Text.{refusal, mss_of, scale_of}
use Rattle.tas_model.specs.Receive.{rx, rx_later, rx_syn_sent}
use Rattle.tas_model.specs.NextSegment.{going}
use Rattle.tas_model.specs.Timers.{ticks, control}
use Rattle.tas_model.specs.LegalHistory.{step, replay}
use Rattle.tas_runs.specs.Records.{items_of}
use Rattle.tas_runs.specs.Batches.{batches_of}
use Rattle.tas_runs.specs.Starts.{first_start}
use Rattle.host_rounds.specs.SerialOrder.{serial_tick, serial_ticks}
use Rattle.tas_runs.specs.SerialOrder.{serial_replay}
use Rattle.tas_runs.specs.Report.{report}
use Rattle.tas_runs.specs.WorkedTexts.{host_address, replayed}
use Rattle.tas_runs.specs.WorkedRecords.{damaged_capture, damaged_report, loose_report, two_strays_capture}
use Rattle.tas_runs.specs.WorkedRecords.{two_strays_report, other_traffic_capture, other_traffic_report}
use Rattle.tas_runs.specs.WorkedRecords.{two_faults_capture, two_faults_report, later_number_capture}
use Rattle.tas_runs.specs.WorkedRecords.{later_number_report, counted_openings_capture, counted_openings_report}
use Rattle.tas_runs.specs.WorkedRecords.{data_and_end_capture, data_and_end_report, early_data_capture}
use Rattle.tas_runs.specs.WorkedRecords.{early_data_report, refused_connect_capture, refused_connect_report}
use Rattle.tas_runs.specs.WorkedRecords.{reset_while_opening_capture, reset_while_opening_report}
use Rattle.tas_runs.specs.WorkedRecords.{abort_while_opening_capture, abort_while_opening_report, used_again_capture}
use Rattle.tas_runs.specs.WorkedRecords.{used_again_report, late_segment_capture, late_segment_report}

pub damaged_is : replayed host_address damaged_capture false ≡ damaged_report
unfolding digits nearest refusal mss_of scale_of rx rx_later rx_syn_sent going ticks control step replay form_of
    first_record capture_of items_of batches_of first_start serial_tick serial_ticks serial_replay report
damaged_is = refl

pub loose_is : replayed host_address damaged_capture true ≡ loose_report
unfolding digits nearest refusal mss_of scale_of rx rx_later rx_syn_sent going ticks control step replay form_of
    first_record capture_of items_of batches_of first_start serial_tick serial_ticks serial_replay report
loose_is = refl

pub two_strays_is : replayed host_address two_strays_capture false ≡ two_strays_report
unfolding digits nearest refusal mss_of scale_of rx rx_later rx_syn_sent going ticks control step replay form_of
    first_record capture_of items_of batches_of first_start serial_tick serial_ticks serial_replay report
two_strays_is = refl

pub other_traffic_is : replayed host_address other_traffic_capture false ≡ other_traffic_report
unfolding digits nearest refusal mss_of scale_of rx rx_later rx_syn_sent going ticks control step replay form_of
    first_record capture_of items_of batches_of first_start serial_tick serial_ticks serial_replay report
other_traffic_is = refl

pub two_faults_is : replayed host_address two_faults_capture false ≡ two_faults_report
unfolding digits nearest refusal mss_of scale_of rx rx_later rx_syn_sent going ticks control step replay form_of
    first_record capture_of items_of batches_of first_start serial_tick serial_ticks serial_replay report
two_faults_is = refl

pub later_number_is : replayed host_address later_number_capture false ≡ later_number_report
unfolding digits nearest refusal mss_of scale_of rx rx_later rx_syn_sent going ticks control step replay form_of
    first_record capture_of items_of batches_of first_start serial_tick serial_ticks serial_replay report
later_number_is = refl

pub counted_openings_is : replayed host_address counted_openings_capture false ≡ counted_openings_report
unfolding digits nearest refusal mss_of scale_of rx rx_later rx_syn_sent going ticks control step replay form_of
    first_record capture_of items_of batches_of first_start serial_tick serial_ticks serial_replay report
counted_openings_is = refl

pub data_and_end_is : replayed host_address data_and_end_capture false ≡ data_and_end_report
unfolding digits nearest refusal mss_of scale_of rx rx_later rx_syn_sent going ticks control step replay form_of
    first_record capture_of items_of batches_of first_start serial_tick serial_ticks serial_replay report
data_and_end_is = refl

pub early_data_is : replayed host_address early_data_capture false ≡ early_data_report
unfolding digits nearest refusal mss_of scale_of rx rx_later rx_syn_sent going ticks control step replay form_of
    first_record capture_of items_of batches_of first_start serial_tick serial_ticks serial_replay report
early_data_is = refl

pub refused_connect_is : replayed host_address refused_connect_capture false ≡ refused_connect_report
unfolding digits nearest refusal mss_of scale_of rx rx_later rx_syn_sent going ticks control step replay form_of
    first_record capture_of items_of batches_of first_start serial_tick serial_ticks serial_replay report
refused_connect_is = refl

pub reset_while_opening_is : replayed host_address reset_while_opening_capture false ≡ reset_while_opening_report
unfolding digits nearest refusal mss_of scale_of rx rx_later rx_syn_sent going ticks control step replay form_of
    first_record capture_of items_of batches_of first_start serial_tick serial_ticks serial_replay report
reset_while_opening_is = refl

pub abort_while_opening_is : replayed host_address abort_while_opening_capture false ≡ abort_while_opening_report
unfolding digits nearest refusal mss_of scale_of rx rx_later rx_syn_sent going ticks control step replay form_of
    first_record capture_of items_of batches_of first_start serial_tick serial_ticks serial_replay report
abort_while_opening_is = refl

pub used_again_is : replayed host_address used_again_capture false ≡ used_again_report
unfolding digits nearest refusal mss_of scale_of rx rx_later rx_syn_sent going ticks control step replay form_of
    first_record capture_of items_of batches_of first_start serial_tick serial_ticks serial_replay report
used_again_is = refl

pub late_segment_is : replayed host_address late_segment_capture false ≡ late_segment_report
unfolding digits nearest refusal mss_of scale_of rx rx_later rx_syn_sent going ticks control step replay form_of
    first_record capture_of items_of batches_of first_start serial_tick serial_ticks serial_replay report
late_segment_is = refl
