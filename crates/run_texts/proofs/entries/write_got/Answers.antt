use Rattle.std.proofs.Common.{rules, List, ℕ, ◌++◌, codes}
use Rattle.tas_runs.specs.Report.{hex, update_text}
use Rattle.run_texts.proofs.Writing.{stopped, stopped_at, wrote_then}
use Rattle.run_texts.proofs.entries.write_got.Goals as goal

pub returns-in_err-put : goal.returns-in_err-put
returns-in_err-put g c =
    let bytes : List ℕ = hex c.args.bytes.now in
    let update : List ℕ = update_text c.args.update in
    stopped _ _ _ (codes "got " ++ bytes) update (search rules)
    (stopped_at _ _ _ _ (codes "got ") bytes (search rules) (search rules) c.put.ensures)

pub returns-in_err-write_hex : goal.returns-in_err-write_hex
returns-in_err-write_hex g c = stopped_at _ _ _ _ _ _ (search rules) (search rules)
    (wrote_then _ _ _ _ _ _ c.in_ok-put.ensures c.write_hex.ensures)

pub returns : goal.returns
returns g c = wrote_then _ _ _ _ _ _ (wrote_then _ _ _ _ _ _ c.in_ok-put.ensures c.in_ok-write_hex.ensures)
    (search rules)
