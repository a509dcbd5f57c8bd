use Rattle.std.proofs.Common.{rules, ◌≡◌, IsErr, ◌∷◌, []}
use Rattle.tas_model.specs.Outputs.{bytes_read}
use Rattle.tas_runs.specs.Report.{hex}
use Rattle.run_texts.proofs.Writing.{stopped, stopped_at, wrote_then}
use Rattle.run_texts.proofs.flows.write_counted.Goals as goal

pub returns-in_err-put_text : goal.returns-in_err-put_text
returns-in_err-put_text g c =
    let failed : IsErr c.from_residual.result = search rules in
    let same : c.from_residual.result ≡ c.put_text.result = search rules in
    let part0 = stopped_at _ _ _ _ _ (hex (bytes_read c.args.flow.now.entries)) failed same c.put_text.ensures in
    stopped _ _ _ _ (10 ∷ []) failed part0

pub returns-in_err-write_bytes_read : goal.returns-in_err-write_bytes_read
returns-in_err-write_bytes_read g c =
    let failed : IsErr c.from_residual-in_err-write_bytes_read.result = search rules in
    let same : c.from_residual-in_err-write_bytes_read.result ≡ c.write_bytes_read.result = search rules in
    stopped_at _ _ _ _ _ (10 ∷ []) failed same
    (wrote_then _ _ _ _ _ _ c.in_ok-put_text.ensures c.write_bytes_read.ensures)

pub returns : goal.returns
returns g c = wrote_then _ _ _ _ _ _ (wrote_then _ _ _ _ _ _ c.in_ok-put_text.ensures c.in_ok-write_bytes_read.ensures)
    (search rules)
