-- The worked replays whose windows are scaled, by computation.
use Rattle.std.specs.Prelude.{◌≡◌, false}
use Rattle.std.proofs.Common.{refl}
use Rattle.std.specs.Fmt.{digits}
use Rattle.tas_num.specs.Places.{nearest}
use Rattle.tas_num.specs.Captures.{form_of, first_record, capture_of}
use Rattle.segment_fields.specs.Text.{refusal, mss_of, scale_of}
use Rattle.tas_model.specs.Receive.{rx, rx_later, rx_syn_sent}
use Rattle.tas_model.specs.NextSegment.{going}
use Rattle.tas_model.specs.Timers.{ticks, control}
use Rattle.tas_model.specs.LegalHistory.{step, replay}
use Rattle.tas_runs.specs.Records.{items_of}
use Rattle.tas_runs.specs.Batches.{batches_of}
use Rattle.tas_runs.specs.Starts.{first_start}
use Rattle.host_rounds.specs.SerialOrder.{serial_tick, serial_ticks}
use Rattle.tas_runs.specs.SerialOrder.{serial_replay}
use Rattle.tas_runs.specs.Report.{report}
use Rattle.tas_runs.specs.WorkedTexts.{host_address, replayed}
use Rattle.tas_runs.specs.WorkedScales.{scaled_upload_capture, scaled_upload_report, own_scales_capture}
use Rattle.tas_runs.specs.WorkedScales.{own_scales_report}

pub scaled_upload_is : replayed host_address scaled_upload_capture false ≡ scaled_upload_report
unfolding digits nearest refusal mss_of scale_of rx rx_later rx_syn_sent going ticks control step replay form_of
    first_record capture_of items_of batches_of first_start serial_tick serial_ticks serial_replay report
scaled_upload_is = refl

pub own_scales_is : replayed host_address own_scales_capture false ≡ own_scales_report
unfolding digits nearest refusal mss_of scale_of rx rx_later rx_syn_sent going ticks control step replay form_of
    first_record capture_of items_of batches_of first_start serial_tick serial_ticks serial_replay report
own_scales_is = refl
