use Rattle.std.proofs.Common.{rules, codes}
use Rattle.tas_runs.specs.Report.{hex_bytes}
use Rattle.run_texts.proofs.Writing.{wrote_both, stopped_in, some_data}
use Rattle.run_texts.proofs.entries.write_data.Goals as goal

pub returns-in_err-put : goal.returns-in_err-put
returns-in_err-put g c = stopped_in _ _ _ (codes " data ") (hex_bytes c.args.bytes.now) _
    (some_data c.args.bytes.now (search rules)) (search rules) (search rules)

pub returns : goal.returns
returns g c = wrote_both _ _ _ _ (codes " data ") (hex_bytes c.args.bytes.now) _
    (some_data c.args.bytes.now (search rules)) c.in_ok-put.ensures c.put_hex.ensures
