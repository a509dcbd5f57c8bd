use Rattle.report_form.proofs.Left.{left_by}
use Rattle.report_form.proofs.Led.{report_leads}
use Rattle.report_form.specs.declared.place.Place.TheVariants as places
use Rattle.report_form.proofs.laws.reports_are_led_to_the_end.Goals as goal

pub returns : goal.returns
returns c = λ addrs lines. (left_by addrs places.Start lines, report_leads addrs lines)
