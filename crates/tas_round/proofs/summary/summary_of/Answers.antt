use Rattle.std.proofs.Common.{refl, ap, ◌∙◌, length, count_by, List}
use Rattle.host_rounds.specs.Logs.{Flow}
use Rattle.tas_runs.specs.Summary.{all_read, is_done}
use Rattle.tas_round.specs.Runs.{log_in}
use Rattle.tas_round.proofs.Summing.{summary_is}
use Rattle.tas_round.proofs.summary.summary_of.Goals as goal

pub returns-clause-some : goal.returns-clause-some
returns-clause-some c =
    summary_is c.args.clients _ _ _ (log_in c.args.log.now) refl
    (c.in_ok-read.ensures.some ∙ ap (λ (flows : List Flow). length (all_read flows)) c.flows_on.ensures)
    (c.count_done-closed.ensures ∙ ap (count_by is_done) c.flows_on-2.ensures)
