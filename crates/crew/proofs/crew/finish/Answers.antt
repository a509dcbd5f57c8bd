-- Answers of the proof of crew/finish.
use Rattle.std.proofs.Common.{refl, sym, subst}
use Rattle.crew.proofs.crew.finish.Goals as goal

pub receive-requires : goal.receive-requires
receive-requires g c = (c.requires.0, c.in_default.ensures.none refl c.requires.0 c.requires.2)

pub returns-in_default-clause-made : goal.returns-in_default-clause-made
returns-in_default-clause-made g c =
    λ x out. c.receive.ensures.made x (c.in_default.ensures.none refl x out)

pub work-requires : goal.work-requires
work-requires g c = subst g.W.Job.can (sym (c.in-Some.ensures.job c.requires.0 c.requires.2)) c.requires.1

pub returns-clause-made : goal.returns-clause-made
returns-clause-made g c =
    λ x out. subst (λ (y : g.row.W.Denot). g.W.Job.made y c.work.new.self) (c.in-Some.ensures.job x out) c.work.ensures
