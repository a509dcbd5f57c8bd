use Rattle.std.proofs.Common.{rules, ◌≡◌, IsErr, map, ◌∷◌, []}
use Rattle.tas_runs.specs.Report.{event_text}
use Rattle.run_texts.proofs.Writing.{stopped, stopped_at, wrote_then}
use Rattle.run_texts.proofs.logs.write_line.Goals as goal

pub returns-in_err-put_text : goal.returns-in_err-put_text
returns-in_err-put_text g c =
    let failed : IsErr c.from_residual.result = search rules in
    let same : c.from_residual.result ≡ c.put_text.result = search rules in
    let part0 = stopped_at _ _ _ _ _ (event_text (map (λ n. n.now) c.args.names.now) c.args.entry.now.event) failed same
    c.put_text.ensures in
    stopped _ _ _ _ (10 ∷ []) failed part0

pub returns-in_err-write_event : goal.returns-in_err-write_event
returns-in_err-write_event g c =
    let failed : IsErr c.from_residual-in_err-write_event.result = search rules in
    let same : c.from_residual-in_err-write_event.result ≡ c.write_event.result = search rules in
    stopped_at _ _ _ _ _ (10 ∷ []) failed same (wrote_then _ _ _ _ _ _ c.in_ok-put_text.ensures c.write_event.ensures)

pub returns : goal.returns
returns g c = wrote_then _ _ _ _ _ _ (wrote_then _ _ _ _ _ _ c.in_ok-put_text.ensures c.in_ok-write_event.ensures)
    (search rules)
