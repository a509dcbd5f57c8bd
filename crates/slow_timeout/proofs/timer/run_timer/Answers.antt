use Rattle.std.proofs.Common.{sym, ◌∙◌}
use Rattle.slow_timeout.proofs.Ticking.{still_quiet, runs_out}
use Rattle.slow_timeout.proofs.timer.run_timer.Goals as goal

pub returns-in-Some-clause-made : goal.returns-in-Some-clause-made
returns-in-Some-clause-made c out e v s none =
    still_quiet e c.set_age.new.parts c.in-Some.age out (sym (c.next_age.ensures e v s) ∙ c.in-Some.is)
    (c.set_age.ensures.after e s)

pub returns-in-None-clause-made : goal.returns-in-None-clause-made
returns-in-None-clause-made c out e v s none =
    runs_out e c.expire.new.parts c.expire.result out (sym (c.next_age.ensures e v s) ∙ c.in-None.is)
    (c.expire.ensures.made out e v s none)
