use Rattle.std.proofs.Common.{◌∙◌, ap₂}
use Rattle.scenario_text.proofs.names.has_name.Goals as goal

pub returns : goal.returns
returns c = λ test h.
    c.contains.ensures ∙ (h c.in_ok-name.name ∙ ap₂ test c.in_ok-name.ensures.host c.in_ok-name.ensures.name)
