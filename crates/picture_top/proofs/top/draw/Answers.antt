use Rattle.picture_top.proofs.Ends.{drawn_at_0, stopped_else, ends_well}
use Rattle.picture_top.proofs.top.draw.Goals as goal

pub returns-clause-drawn : goal.returns-clause-drawn
returns-clause-drawn g c = drawn_at_0 _ c.answered.result c.answered.ensures

pub returns-clause-cause : goal.returns-clause-cause
returns-clause-cause g c = stopped_else _ c.answered.result c.answered.ensures

pub returns-clause-complete : goal.returns-clause-complete
returns-clause-complete g c = ends_well c.a_report_has_no_fault.ensures _ c.answered.result c.answered.ensures
