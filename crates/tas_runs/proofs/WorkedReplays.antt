-- The worked replays, by computation.
use Rattle.std.specs.Prelude.{◌≡◌, false, Err}
use Rattle.std.proofs.Common.{refl}
use Rattle.std.specs.Fmt.{digits}
use Rattle.tas_num.specs.Places.{nearest}
use Rattle.tas_num.specs.Captures.{form_of, first_record, capture_of, CutShort}
use Rattle.segment_fields.specs.Canon.{ip_header, tcp_fixed}
use Rattle.tas_runs.specs.SentFrames.{capture}
use Rattle.segment_fields.specs.Text.{refusal, mss_of, scale_of}
use Rattle.tas_model.specs.Receive.{rx, rx_later, rx_syn_sent}
use Rattle.tas_model.specs.NextSegment.{going}
use Rattle.tas_model.specs.Timers.{ticks, control}
use Rattle.tas_model.specs.LegalHistory.{step, replay}
use Rattle.tas_runs.specs.Records.{items_of}
use Rattle.tas_runs.specs.Batches.{batches_of}
use Rattle.tas_runs.specs.Starts.{first_start}
use Rattle.host_rounds.specs.SerialOrder.{serial_tick, serial_ticks}
use Rattle.tas_runs.specs.SerialOrder.{serial_replay}
use Rattle.tas_runs.specs.Report.{report}
use Rattle.tas_runs.specs.WorkedTexts.{host_address, replayed, capture_or_none}
use Rattle.tas_runs.specs.WorkedReplays.{hello_capture, hello_report, hello_sent, cut_capture, late_start_capture}
use Rattle.tas_runs.specs.WorkedReplays.{late_start_report, sending_capture, sending_report, both_ends_capture}
use Rattle.tas_runs.specs.WorkedReplays.{both_ends_report, resets_capture, resets_report}

pub hello_is : replayed host_address hello_capture false ≡ hello_report
unfolding digits nearest refusal mss_of scale_of rx rx_later rx_syn_sent going ticks control step replay form_of
    first_record capture_of items_of batches_of first_start serial_tick serial_ticks serial_replay report
hello_is = refl

pub late_start_is : replayed host_address late_start_capture false ≡ late_start_report
unfolding digits nearest refusal mss_of scale_of rx rx_later rx_syn_sent going ticks control step replay form_of
    first_record capture_of items_of batches_of first_start serial_tick serial_ticks serial_replay report
late_start_is = refl

pub sending_is : replayed host_address sending_capture false ≡ sending_report
unfolding digits nearest refusal mss_of scale_of rx rx_later rx_syn_sent going ticks control step replay form_of
    first_record capture_of items_of batches_of first_start serial_tick serial_ticks serial_replay report
sending_is = refl

pub both_ends_is : replayed host_address both_ends_capture false ≡ both_ends_report
unfolding digits nearest refusal mss_of scale_of rx rx_later rx_syn_sent going ticks control step replay form_of
    first_record capture_of items_of batches_of first_start serial_tick serial_ticks serial_replay report
both_ends_is = refl

pub resets_is : replayed host_address resets_capture false ≡ resets_report
unfolding digits nearest refusal mss_of scale_of rx rx_later rx_syn_sent going ticks control step replay form_of
    first_record capture_of items_of batches_of first_start serial_tick serial_ticks serial_replay report
resets_is = refl

pub hello_sent_is : capture_or_none (serial_replay host_address hello_capture false) ≡ hello_sent
unfolding digits nearest refusal mss_of scale_of ip_header tcp_fixed rx rx_later rx_syn_sent going ticks control step
    replay form_of first_record capture_of items_of batches_of first_start serial_tick serial_ticks serial_replay
    capture
hello_sent_is = refl

pub cut_is : serial_replay host_address cut_capture false ≡ Err (CutShort 3)
unfolding form_of first_record capture_of serial_replay
cut_is = refl
