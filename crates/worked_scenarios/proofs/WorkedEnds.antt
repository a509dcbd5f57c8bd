-- The worked runs, by computation.
use Rattle.std.specs.Prelude.{◌≡◌}
use Rattle.std.proofs.Common.{refl}
use Rattle.std.specs.Fmt.{digits}
use Rattle.tas_num.specs.Places.{nearest}
use Rattle.segment_fields.specs.Canon.{ip_header, tcp_fixed}
use Rattle.segment_fields.specs.Text.{refusal, mss_of, scale_of}
use Rattle.tas_model.specs.Receive.{rx, rx_later, rx_syn_sent}
use Rattle.tas_model.specs.NextSegment.{going}
use Rattle.tas_model.specs.Timers.{ticks, control}
use Rattle.tas_model.specs.LegalHistory.{step, replay}
use Rattle.host_rounds.specs.SerialOrder.{serial_tick}
use Rattle.tas_runs.specs.Report.{report}
use Rattle.scenario_text.specs.Statements.{reading}
use Rattle.scenario_text.specs.Reads.{reads}
use Rattle.scenario_runs.specs.Runs.{serial_world, serial_from}
use Rattle.scenario_runs.specs.WorkedParts.{reported}
use Rattle.scenario_runs.specs.WorkedRuns.{hello_report}
use Rattle.worked_scenarios.specs.WorkedTalks.{nobody_report}
use Rattle.worked_scenarios.specs.WorkedEnds.{unanswered, killed_late, killed_late_report}
use Rattle.worked_scenarios.specs.WorkedEnds.{killed_after, slot_kept, slot_kept_report, stalled}
use Rattle.worked_scenarios.specs.WorkedEnds.{stalled_report, cut_short, cut_short_report, open_flows}
use Rattle.worked_scenarios.specs.WorkedEnds.{open_flows_report, no_such_byte, all_steps, all_steps_report}

pub unanswered_is : reported unanswered ≡ nobody_report
unfolding reads reading digits nearest ip_header tcp_fixed refusal mss_of scale_of rx rx_later rx_syn_sent going ticks
    control step replay serial_tick report serial_world serial_from
unanswered_is = refl

pub killed_late_is : reported killed_late ≡ killed_late_report
unfolding reads reading digits nearest ip_header tcp_fixed refusal mss_of scale_of rx rx_later rx_syn_sent going ticks
    control step replay serial_tick report serial_world serial_from
killed_late_is = refl

pub killed_after_is : reported killed_after ≡ hello_report
unfolding reads reading digits nearest ip_header tcp_fixed refusal mss_of scale_of rx rx_later rx_syn_sent going ticks
    control step replay serial_tick report serial_world serial_from
killed_after_is = refl

pub slot_kept_is : reported slot_kept ≡ slot_kept_report
unfolding reads reading digits nearest ip_header tcp_fixed refusal mss_of scale_of rx rx_later rx_syn_sent going ticks
    control step replay serial_tick report serial_world serial_from
slot_kept_is = refl

pub stalled_is : reported stalled ≡ stalled_report
unfolding reads reading digits nearest ip_header tcp_fixed refusal mss_of scale_of rx rx_later rx_syn_sent going ticks
    control step replay serial_tick report serial_world serial_from
stalled_is = refl

pub cut_short_is : reported cut_short ≡ cut_short_report
unfolding reads reading digits nearest ip_header tcp_fixed refusal mss_of scale_of rx rx_later rx_syn_sent going ticks
    control step replay serial_tick report serial_world serial_from
cut_short_is = refl

pub open_flows_is : reported open_flows ≡ open_flows_report
unfolding reads reading digits nearest ip_header tcp_fixed refusal mss_of scale_of rx rx_later rx_syn_sent going ticks
    control step replay serial_tick report serial_world serial_from
open_flows_is = refl

pub no_such_byte_is : reported no_such_byte ≡ hello_report
unfolding reads reading digits nearest ip_header tcp_fixed refusal mss_of scale_of rx rx_later rx_syn_sent going ticks
    control step replay serial_tick report serial_world serial_from
no_such_byte_is = refl

pub all_steps_is : reported all_steps ≡ all_steps_report
unfolding reads reading digits nearest ip_header tcp_fixed refusal mss_of scale_of rx rx_later rx_syn_sent going ticks
    control step replay serial_tick report serial_world serial_from
all_steps_is = refl
