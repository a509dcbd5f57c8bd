-- The worked runs, by computation.
use Rattle.std.specs.Prelude.{◌≡◌, Err}
use Rattle.std.proofs.Common.{refl}
use Rattle.std.specs.Fmt.{digits}
use Rattle.tas_num.specs.Places.{nearest}
use Rattle.segment_fields.specs.Canon.{ip_header, tcp_fixed}
use Rattle.segment_fields.specs.Text.{refusal, mss_of, scale_of}
use Rattle.tas_model.specs.Receive.{rx, rx_later, rx_syn_sent}
use Rattle.tas_model.specs.NextSegment.{going}
use Rattle.tas_model.specs.Timers.{ticks, control}
use Rattle.tas_model.specs.LegalHistory.{step, replay}
use Rattle.host_rounds.specs.SerialOrder.{serial_tick}
use Rattle.tas_runs.specs.Report.{report}
use Rattle.scenario_text.specs.Statements.{reading}
use Rattle.scenario_text.specs.declared.reading.ScenarioFault.TheVariants.{Refused}
use Rattle.scenario_text.specs.Reads.{reads}
use Rattle.scenario_runs.specs.Runs.{serial_world, serial_from}
use Rattle.scenario_runs.specs.WorkedParts.{reported}
use Rattle.scenario_runs.specs.WorkedRuns.{hello_report}
use Rattle.worked_scenarios.specs.WorkedForms.{spaced_text, spaced_text_report, spaced_lines}
use Rattle.worked_scenarios.specs.WorkedForms.{idle_report, between_steps, blank_text, blank_text_report}
use Rattle.worked_scenarios.specs.WorkedForms.{killed_at_once, strange_byte, bare_return}
use Rattle.worked_scenarios.specs.WorkedForms.{wrong_name, unknown_name, many_options, unknown_option, half_option}

pub spaced_text_is : reported spaced_text ≡ spaced_text_report
unfolding reads reading digits nearest ip_header tcp_fixed refusal mss_of scale_of rx rx_later rx_syn_sent going ticks
    control step replay serial_tick report serial_world serial_from
spaced_text_is = refl

pub spaced_lines_is : reported spaced_lines ≡ idle_report
unfolding reads reading digits nearest ip_header tcp_fixed refusal mss_of scale_of rx rx_later rx_syn_sent going ticks
    control step replay serial_tick report serial_world serial_from
spaced_lines_is = refl

pub between_steps_is : reported between_steps ≡ hello_report
unfolding reads reading digits nearest ip_header tcp_fixed refusal mss_of scale_of rx rx_later rx_syn_sent going ticks
    control step replay serial_tick report serial_world serial_from
between_steps_is = refl

pub blank_text_is : reported blank_text ≡ blank_text_report
unfolding reads reading digits nearest ip_header tcp_fixed refusal mss_of scale_of rx rx_later rx_syn_sent going ticks
    control step replay serial_tick report serial_world serial_from
blank_text_is = refl

pub killed_at_once_is : reported killed_at_once ≡ idle_report
unfolding reads reading digits nearest ip_header tcp_fixed refusal mss_of scale_of rx rx_later rx_syn_sent going ticks
    control step replay serial_tick report serial_world serial_from
killed_at_once_is = refl

pub strange_byte_is : reads strange_byte ≡ Err (Refused 2 2)
unfolding reads reading
strange_byte_is = refl

pub bare_return_is : reads bare_return ≡ Err (Refused 1 2)
unfolding reads reading
bare_return_is = refl

pub wrong_name_is : reads wrong_name ≡ Err (Refused 4 6)
unfolding reads reading
wrong_name_is = refl

pub unknown_name_is : reads unknown_name ≡ Err (Refused 3 6)
unfolding reads reading
unknown_name_is = refl

pub many_options_is : reads many_options ≡ Err (Refused 1 4)
unfolding reads reading
many_options_is = refl

pub unknown_option_is : reads unknown_option ≡ Err (Refused 2 6)
unfolding reads reading
unknown_option_is = refl

pub half_option_is : reads half_option ≡ Err (Refused 2 4)
unfolding reads reading
half_option_is = refl
