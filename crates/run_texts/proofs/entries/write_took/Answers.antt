use Rattle.std.proofs.Common.{rules}
use Rattle.run_texts.proofs.Writing.{stopped_at, wrote_then}
use Rattle.run_texts.proofs.entries.write_took.Goals as goal

pub returns-in_err-put : goal.returns-in_err-put
returns-in_err-put g c = stopped_at _ _ _ _ _ _ (search rules) (search rules) c.put.ensures

pub returns : goal.returns
returns g c = wrote_then _ _ _ _ _ _ c.in_ok-put.ensures (search rules)
