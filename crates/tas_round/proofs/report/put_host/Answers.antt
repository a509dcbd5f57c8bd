use Rattle.std.proofs.Common.{rules, ◌≡◌, IsErr, map}
use Rattle.tas_runs.specs.Report.{log_text, flows_text}
use Rattle.run_texts.specs.Frames.{history_of}
use Rattle.run_texts.proofs.Writing.{stopped, stopped_at, wrote_then}
use Rattle.tas_round.proofs.report.put_host.Goals as goal

pub returns-in_err-put_name-clause-writes : goal.returns-in_err-put_name-clause-writes
returns-in_err-put_name-clause-writes g c =
    let names = map (λ n. n.now) c.args.names.now in
    let failed : IsErr c.from_residual.result = search rules in
    let same : c.from_residual.result ≡ c.put_name.result = search rules in
    let part = stopped_at _ _ _ _ _ (log_text names c.args.host.now.log) failed same c.put_name.ensures in
    stopped _ _ _ _ (flows_text names 0 (map history_of c.args.host.now.flows)) failed part

pub returns-in_err-put_log-clause-writes : goal.returns-in_err-put_log-clause-writes
returns-in_err-put_log-clause-writes g c =
    let names = map (λ n. n.now) c.args.names.now in
    let failed : IsErr c.from_residual-in_err-put_log.result = search rules in
    let same : c.from_residual-in_err-put_log.result ≡ c.put_log.result = search rules in
    stopped_at _ _ _ _ _ (flows_text names 0 (map history_of c.args.host.now.flows)) failed same
    (wrote_then _ _ _ _ _ _ c.in_ok-put_name.ensures c.put_log.ensures.writes)

pub returns-clause-writes : goal.returns-clause-writes
returns-clause-writes g c =
    wrote_then _ _ _ _ _ _ (wrote_then _ _ _ _ _ _ c.in_ok-put_name.ensures c.in_ok-put_log.ensures.writes)
    c.put_flows.ensures.writes
