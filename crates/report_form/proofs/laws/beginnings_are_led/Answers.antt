use Rattle.report_form.proofs.Beginnings.{begins_where_led, led_where_begins}
use Rattle.report_form.proofs.laws.beginnings_are_led.Goals as goal

pub returns : goal.returns
returns c = λ addrs lines. (begins_where_led addrs lines, led_where_begins addrs lines)
