use Rattle.std.proofs.Common.{rules, ◌≡◌, IsErr, map, ◌++◌, codes}
use Rattle.tas_model.specs.LegalHistory.{replay}
use Rattle.tas_model.specs.Outputs.{bytes_read}
use Rattle.tas_runs.specs.Report.{line, entries_text, state_text, read_text}
use Rattle.run_texts.proofs.Writing.{stopped, stopped_at, wrote_then}
use Rattle.run_texts.proofs.flows.write_flow.Goals as goal

pub returns-in_err-write_ends-clause-writes : goal.returns-in_err-write_ends-clause-writes
returns-in_err-write_ends-clause-writes g c =
    let failed : IsErr c.from_residual.result = search rules in
    let same : c.from_residual.result ≡ c.write_ends.result = search rules in
    let part0 = stopped_at _ _ _ _ _ (entries_text (map (λ n. n.now) c.args.names.now) c.args.flow.now.entries) failed
    same c.write_ends.ensures in
    let part1 = stopped _ _ _ _
    (line (codes "state " ++ state_text (replay c.args.flow.now.params c.args.flow.now.entries))) failed part0 in
    stopped _ _ _ _ (line (read_text (bytes_read c.args.flow.now.entries))) failed part1

pub returns-in_err-write_entries-clause-writes : goal.returns-in_err-write_entries-clause-writes
returns-in_err-write_entries-clause-writes g c =
    let failed : IsErr c.from_residual-in_err-write_entries.result = search rules in
    let same : c.from_residual-in_err-write_entries.result ≡ c.write_entries.result = search rules in
    let part0 = stopped_at _ _ _ _ _
    (line (codes "state " ++ state_text (replay c.args.flow.now.params c.args.flow.now.entries))) failed same
    (wrote_then _ _ _ _ _ _ c.in_ok-write_ends.ensures c.write_entries.ensures.writes) in
    stopped _ _ _ _ (line (read_text (bytes_read c.args.flow.now.entries))) failed part0

pub returns-in_err-write_state-clause-writes : goal.returns-in_err-write_state-clause-writes
returns-in_err-write_state-clause-writes g c =
    let failed : IsErr c.from_residual-in_err-write_state.result = search rules in
    let same : c.from_residual-in_err-write_state.result ≡ c.write_state.result = search rules in
    stopped_at _ _ _ _ _ (line (read_text (bytes_read c.args.flow.now.entries))) failed same
    (wrote_then _ _ _ _ _ _ (wrote_then _ _ _ _ _ _ c.in_ok-write_ends.ensures c.in_ok-write_entries.ensures.writes)
    c.write_state.ensures)

pub returns-clause-writes : goal.returns-clause-writes
returns-clause-writes g c = wrote_then _ _ _ _ _ _
    (wrote_then _ _ _ _ _ _ (wrote_then _ _ _ _ _ _ c.in_ok-write_ends.ensures c.in_ok-write_entries.ensures.writes)
    c.in_ok-write_state.ensures) (search rules)
