-- The worked runs, by computation.
use Rattle.std.specs.Prelude.{◌≡◌}
use Rattle.std.proofs.Common.{refl}
use Rattle.std.specs.Fmt.{digits}
use Rattle.tas_num.specs.Places.{nearest}
use Rattle.segment_fields.specs.Canon.{ip_header, tcp_fixed}
use Rattle.segment_fields.specs.Text.{refusal, mss_of, scale_of}
use Rattle.tas_model.specs.Receive.{rx, rx_later, rx_syn_sent}
use Rattle.tas_model.specs.NextSegment.{going}
use Rattle.tas_model.specs.Timers.{ticks, control}
use Rattle.tas_model.specs.LegalHistory.{step, replay}
use Rattle.host_rounds.specs.SerialOrder.{serial_tick}
use Rattle.tas_runs.specs.Report.{report}
use Rattle.scenario_text.specs.Statements.{reading}
use Rattle.scenario_text.specs.Reads.{reads}
use Rattle.scenario_runs.specs.Runs.{serial_world, serial_from}
use Rattle.scenario_runs.specs.WorkedParts.{reported}
use Rattle.worked_scenarios.specs.WorkedLinks.{own_host, own_host_report, silent, silent_report, one_waits}
use Rattle.worked_scenarios.specs.WorkedLinks.{one_waits_report}

pub own_host_is : reported own_host ≡ own_host_report
unfolding reads reading digits nearest ip_header tcp_fixed refusal mss_of scale_of rx rx_later rx_syn_sent going ticks
    control step replay serial_tick report serial_world serial_from
own_host_is = refl

pub silent_is : reported silent ≡ silent_report
unfolding reads reading digits nearest ip_header tcp_fixed refusal mss_of scale_of rx rx_later rx_syn_sent going ticks
    control step replay serial_tick report serial_world serial_from
silent_is = refl

pub one_waits_is : reported one_waits ≡ one_waits_report
unfolding reads reading digits nearest ip_header tcp_fixed refusal mss_of scale_of rx rx_later rx_syn_sent going ticks
    control step replay serial_tick report serial_world serial_from
one_waits_is = refl
