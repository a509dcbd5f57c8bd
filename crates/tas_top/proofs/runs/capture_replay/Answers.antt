use Rattle.tas_top.proofs.runs.capture_replay.Goals as goal

pub returns-in-Err-clause-refused : goal.returns-in-Err-clause-refused
returns-in-Err-clause-refused c =
    c.stop_of.ensures c.args.local c.args.loose c.args.bytes.now c.in-Err.ensures.refused
