use Rattle.std.proofs.Common.{ap, ◌∙◌, subst, sym}
use Rattle.std.specs.Prelude.{◌≤◌}
use Rattle.link_script.specs.DueFrames.{act_on, delay_by, longest_delay}
use Rattle.link_script.proofs.Delays.{no_longer}
use Rattle.link_script.proofs.script.LinkScript.longest_delay.Goals as goal

pub returns-clause-longest : goal.returns-clause-longest
returns-clause-longest c = c.self.invariant.1 ∙ ap longest_delay c.self.view_is

pub returns-clause-most : goal.returns-clause-most
returns-clause-most c id =
    subst (λ n. delay_by (act_on c.args.self.now id) ≤ n)
    (sym (c.self.invariant.1 ∙ ap longest_delay c.self.view_is)) (no_longer id c.args.self.now)
