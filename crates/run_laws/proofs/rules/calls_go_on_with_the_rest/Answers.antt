use Rattle.std.specs.Prelude.{ℕ, take, drop}
use Rattle.std.proofs.Common.{refl, ap}
use Rattle.tas_model.specs.declared.entry.Call.TheVariants as calls
use Rattle.scenario_runs.specs.Applications.{called, most}
use Rattle.run_laws.proofs.OneByOne.{offer_length, goes_on, is_done}
use Rattle.run_laws.proofs.rules.calls_go_on_with_the_rest.Goals as goal

pub returns-clause-offered : goal.returns-clause-offered
returns-clause-offered c = λ n t bytes x.
    ap (λ (k : ℕ). (called n t (calls.Send k) (take most (drop x.script.done bytes)) x).host)
    (offer_length bytes x.script.done)

pub returns-clause-rest : goal.returns-clause-rest
returns-clause-rest c = goes_on

pub returns-clause-waits : goal.returns-clause-waits
returns-clause-waits c = λ all s. refl

pub returns-clause-taken : goal.returns-clause-taken
returns-clause-taken c = is_done

pub returns-clause-shut : goal.returns-clause-shut
returns-clause-shut c = λ all s. refl

pub returns-clause-not_open : goal.returns-clause-not_open
returns-clause-not_open c = λ all s. refl

pub returns-clause-closed : goal.returns-clause-closed
returns-clause-closed c = λ why all s. refl

pub returns-clause-asked : goal.returns-clause-asked
returns-clause-asked c = λ n t all x. refl

pub returns-clause-drained : goal.returns-clause-drained
returns-clause-drained c = λ n t x. refl
