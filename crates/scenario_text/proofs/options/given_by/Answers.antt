use Rattle.std.proofs.Common.{◌∙◌}
use Rattle.scenario_text.proofs.Others.{next_option}
use Rattle.scenario_text.proofs.options.given_by.Goals as goal

pub loop-rest-preserved : goal.loop-rest-preserved
loop-rest-preserved c = rw (c.with-given.ensures, c.option_of.ensures)
    (next_option c.loop-rest.given c.loop-rest.rest.now _ _ c.in-len2-up.len_at_least ∙ c.loop-rest.invariant)
