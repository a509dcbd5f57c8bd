use Rattle.scenario_canonical.proofs.Back.{printed_back}
use Rattle.scenario_canonical.proofs.printed.print_canonical.Goals as goal

pub returns-clause-reads : goal.returns-clause-reads
returns-clause-reads c = printed_back c.args.s.now c.print_scenario.result c.print_scenario.ensures
