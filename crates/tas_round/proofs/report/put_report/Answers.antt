use Rattle.std.proofs.Common.{rules, ◌≡◌, ◌++◌, [], codes, decimal, IsErr, if◌then◌else◌}
use Rattle.tas_runs.specs.Report.{report, line, names_of, hosts_text, counts_text}
use Rattle.tas_round.specs.Runs.{log_in}
use Rattle.run_texts.proofs.Writing.{stopped, stopped_at, wrote_then}
use Rattle.tas_round.proofs.report.put_report.Goals as goal

pub returns-in_err-write_title-clause-writes : goal.returns-in_err-write_title-clause-writes
unfolding report
returns-in_err-write_title-clause-writes g c =
    let log = log_in c.args.log.now in
    let failed : IsErr c.from_residual.result = search rules in
    let same : c.from_residual.result ≡ c.write_title.result = search rules in
    let part0 = stopped_at _ _ _ _ _ (hosts_text (names_of log.hosts) log.hosts) failed same c.write_title.ensures in
    let part1 = stopped _ _ _ _ (if log.replay then counts_text log else []) failed part0 in
    stopped _ _ _ _ (line (codes "end " ++ decimal log.ticks ++ codes " ticks")) failed part1

pub returns-in_err-put_hosts-clause-writes : goal.returns-in_err-put_hosts-clause-writes
unfolding report
returns-in_err-put_hosts-clause-writes g c =
    let log = log_in c.args.log.now in
    let failed : IsErr c.from_residual-in_err-put_hosts.result = search rules in
    let same : c.from_residual-in_err-put_hosts.result ≡ c.put_hosts.result = search rules in
    let part0 = stopped_at _ _ _ _ _ (if log.replay then counts_text log else []) failed same
    (wrote_then _ _ _ _ _ _ c.in_ok-write_title.ensures c.put_hosts.ensures.writes) in
    stopped _ _ _ _ (line (codes "end " ++ decimal log.ticks ++ codes " ticks")) failed part0

pub returns-in_err-put_counts-clause-writes : goal.returns-in_err-put_counts-clause-writes
unfolding report
returns-in_err-put_counts-clause-writes g c =
    let log = log_in c.args.log.now in
    let failed : IsErr c.from_residual-in_err-put_counts.result = search rules in
    let same : c.from_residual-in_err-put_counts.result ≡ c.put_counts.result = search rules in
    stopped_at _ _ _ _ _ (line (codes "end " ++ decimal log.ticks ++ codes " ticks")) failed same
    (wrote_then _ _ _ _ _ _ (wrote_then _ _ _ _ _ _ c.in_ok-write_title.ensures c.in_ok-put_hosts.ensures.writes)
    c.put_counts.ensures)

pub returns-clause-writes : goal.returns-clause-writes
unfolding report
returns-clause-writes g c = wrote_then _ _ _ _ _ _
    (wrote_then _ _ _ _ _ _ (wrote_then _ _ _ _ _ _ c.in_ok-write_title.ensures c.in_ok-put_hosts.ensures.writes)
    c.in_ok-put_counts.ensures) c.write_end.ensures
