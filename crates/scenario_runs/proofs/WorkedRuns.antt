-- The worked runs, by computation.
use Rattle.std.specs.Prelude.{◌≡◌}
use Rattle.std.proofs.Common.{refl}
use Rattle.std.specs.Fmt.{digits}
use Rattle.tas_num.specs.Places.{nearest}
use Rattle.segment_fields.specs.Canon.{ip_header, tcp_fixed}
use Rattle.segment_fields.specs.Text.{refusal, mss_of, scale_of}
use Rattle.tas_model.specs.Receive.{rx, rx_later, rx_syn_sent}
use Rattle.tas_model.specs.NextSegment.{going}
use Rattle.tas_model.specs.Timers.{ticks, control}
use Rattle.tas_model.specs.LegalHistory.{step, replay}
use Rattle.host_rounds.specs.SerialOrder.{serial_tick}
use Rattle.tas_runs.specs.Report.{report}
use Rattle.scenario_text.specs.Statements.{reading}
use Rattle.scenario_text.specs.Reads.{reads}
use Rattle.scenario_runs.specs.Runs.{serial_world, serial_from}
use Rattle.scenario_runs.specs.WorkedParts.{reported}
use Rattle.scenario_runs.specs.WorkedRuns.{hello, hello_report, damaged, damaged_report, killed_early}
use Rattle.scenario_runs.specs.WorkedRuns.{killed_early_report, one_slot, one_slot_report}

pub hello_is : reported hello ≡ hello_report
unfolding reads reading digits nearest ip_header tcp_fixed refusal mss_of scale_of rx rx_later rx_syn_sent going ticks
    control step replay serial_tick report serial_world serial_from
hello_is = refl

pub damaged_is : reported damaged ≡ damaged_report
unfolding reads reading digits nearest ip_header tcp_fixed refusal mss_of scale_of rx rx_later rx_syn_sent going ticks
    control step replay serial_tick report serial_world serial_from
damaged_is = refl

pub killed_early_is : reported killed_early ≡ killed_early_report
unfolding reads reading digits nearest ip_header tcp_fixed refusal mss_of scale_of rx rx_later rx_syn_sent going ticks
    control step replay serial_tick report serial_world serial_from
killed_early_is = refl

pub one_slot_is : reported one_slot ≡ one_slot_report
unfolding reads reading digits nearest ip_header tcp_fixed refusal mss_of scale_of rx rx_later rx_syn_sent going ticks
    control step replay serial_tick report serial_world serial_from
one_slot_is = refl
