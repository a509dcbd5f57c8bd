use Rattle.tas_top.proofs.runs.scenario_of.Goals as goal

pub returns-in-Ok-clause-ranges : goal.returns-in-Ok-clause-ranges
returns-in-Ok-clause-ranges c =
    c.what_is_read_is_in_range.ensures c.args.bytes.now c.in-Ok.scenario c.in-Ok.ensures.read
