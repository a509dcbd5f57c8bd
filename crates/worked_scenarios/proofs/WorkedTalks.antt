-- The worked runs, by computation.
use Rattle.std.specs.Prelude.{◌≡◌}
use Rattle.std.proofs.Common.{refl}
use Rattle.std.specs.Fmt.{digits}
use Rattle.tas_num.specs.Places.{nearest}
use Rattle.segment_fields.specs.Canon.{ip_header, tcp_fixed}
use Rattle.segment_fields.specs.Text.{refusal, mss_of, scale_of}
use Rattle.tas_model.specs.Receive.{rx, rx_later, rx_syn_sent}
use Rattle.tas_model.specs.NextSegment.{going}
use Rattle.tas_model.specs.Timers.{ticks, control}
use Rattle.tas_model.specs.LegalHistory.{step, replay}
use Rattle.host_rounds.specs.SerialOrder.{serial_tick}
use Rattle.tas_runs.specs.Report.{report}
use Rattle.scenario_text.specs.Statements.{reading}
use Rattle.scenario_text.specs.Reads.{reads}
use Rattle.scenario_runs.specs.Runs.{serial_world, serial_from}
use Rattle.scenario_runs.specs.WorkedParts.{reported}
use Rattle.worked_scenarios.specs.WorkedTalks.{lost, lost_report, doubled, doubled_report, wrapped, wrapped_report}
use Rattle.worked_scenarios.specs.WorkedTalks.{nobody, nobody_report, lone, lone_report}

pub lost_is : reported lost ≡ lost_report
unfolding reads reading digits nearest ip_header tcp_fixed refusal mss_of scale_of rx rx_later rx_syn_sent going ticks
    control step replay serial_tick report serial_world serial_from
lost_is = refl

pub doubled_is : reported doubled ≡ doubled_report
unfolding reads reading digits nearest ip_header tcp_fixed refusal mss_of scale_of rx rx_later rx_syn_sent going ticks
    control step replay serial_tick report serial_world serial_from
doubled_is = refl

pub wrapped_is : reported wrapped ≡ wrapped_report
unfolding reads reading digits nearest ip_header tcp_fixed refusal mss_of scale_of rx rx_later rx_syn_sent going ticks
    control step replay serial_tick report serial_world serial_from
wrapped_is = refl

pub nobody_is : reported nobody ≡ nobody_report
unfolding reads reading digits nearest ip_header tcp_fixed refusal mss_of scale_of rx rx_later rx_syn_sent going ticks
    control step replay serial_tick report serial_world serial_from
nobody_is = refl

pub lone_is : reported lone ≡ lone_report
unfolding reads reading digits nearest ip_header tcp_fixed refusal mss_of scale_of rx rx_later rx_syn_sent going ticks
    control step replay serial_tick report serial_world serial_from
lone_is = refl
