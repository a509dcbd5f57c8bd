-- The worked runs, by computation.
use Rattle.std.specs.Prelude.{◌≡◌, Err}
use Rattle.std.proofs.Common.{refl}
use Rattle.std.specs.Fmt.{digits}
use Rattle.tas_num.specs.Places.{nearest}
use Rattle.segment_fields.specs.Canon.{ip_header, tcp_fixed}
use Rattle.segment_fields.specs.Text.{refusal, mss_of, scale_of}
use Rattle.tas_model.specs.Receive.{rx, rx_later, rx_syn_sent}
use Rattle.tas_model.specs.NextSegment.{going}
use Rattle.tas_model.specs.Timers.{ticks, control}
use Rattle.tas_model.specs.LegalHistory.{step, replay}
use Rattle.host_rounds.specs.SerialOrder.{serial_tick}
use Rattle.tas_runs.specs.Report.{report}
use Rattle.scenario_text.specs.Statements.{reading}
use Rattle.scenario_text.specs.declared.reading.ScenarioFault.TheVariants.{Refused}
use Rattle.scenario_text.specs.Reads.{reads}
use Rattle.scenario_runs.specs.Runs.{serial_world, serial_from}
use Rattle.scenario_runs.specs.WorkedParts.{reported}
use Rattle.worked_scenarios.specs.WorkedScaling.{both_scale, both_scale_report, one_scales, one_scales_report}
use Rattle.worked_scenarios.specs.WorkedScaling.{coarse_for_ring, large_for_slots}

pub both_scale_is : reported both_scale ≡ both_scale_report
unfolding reads reading digits nearest ip_header tcp_fixed refusal mss_of scale_of rx rx_later rx_syn_sent going ticks
    control step replay serial_tick report serial_world serial_from
both_scale_is = refl

pub one_scales_is : reported one_scales ≡ one_scales_report
unfolding reads reading digits nearest ip_header tcp_fixed refusal mss_of scale_of rx rx_later rx_syn_sent going ticks
    control step replay serial_tick report serial_world serial_from
one_scales_is = refl

pub coarse_for_ring_is : reads coarse_for_ring ≡ Err (Refused 1 8)
unfolding reads reading digits
coarse_for_ring_is = refl

pub large_for_slots_is : reads large_for_slots ≡ Err (Refused 1 8)
unfolding reads reading digits
large_for_slots_is = refl
