use Rattle.std.proofs.Common.{◌≡◌, sym, ◌∙◌, ap, subst}
use Rattle.tas_model.specs.ApplicationCalls.{Column, Running, column, shut_in}
use Rattle.flow_state.specs.App.{column_of}
use Rattle.flow_state.specs.Made.{IsOutcome}
use Rattle.flow_state.proofs.app_end.shut.Goals as goal

pub returns-in-Running-clause-made : goal.returns-in-Running-clause-made
returns-in-Running-clause-made c out e v s =
    let there : Running ≡ column e = ap column_of (sym c.in-Running.is) ∙ c.stage.ensures.column e s in
    subst (λ (k : Column). IsOutcome c.shut_open.new.parts c.shut_open.result out (shut_in k e)) there
    (c.shut_open.ensures.made out e v s (sym there))
