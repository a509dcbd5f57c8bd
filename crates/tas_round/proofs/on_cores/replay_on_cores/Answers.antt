use Rattle.std.proofs.Common.{ap, subst}
use Rattle.host_rounds.specs.Cores.{CoresBelow}
use Rattle.local_host.specs.Steered.{Steered}
use Rattle.tas_round.specs.Runs.{log_in, EndedRight}
use Rattle.tas_round.proofs.CoresPlaying.{found_is_run, host_low}
use Rattle.tas_round.proofs.on_cores.replay_on_cores.Goals as goal

pub returns-clause-run : goal.returns-clause-run
returns-clause-run g c =
    let found = c.in_ok-items.field-0 in
    let ended : EndedRight c.args.local c.in_ok-cores.cores.count found.items c.in_ok-ending.ending =
    c.in_ok-ending.ensures.ended in
    found_is_run c.args.capture.now c.args.local c.args.loose found (log_in c.in_ok-log.log)
    c.in_ok-items.ensures.found (
      c.in_ok-ending.ending.replay,
      ended.played,
      c.in_ok-log.ensures c.args.local found.items ended.ticks ended.met ended.refused,
    )

pub returns-clause-below : goal.returns-clause-below
returns-clause-below g c =
    let found = c.in_ok-items.field-0 in
    let ended : EndedRight c.args.local c.in_ok-cores.cores.count found.items c.in_ok-ending.ending =
    c.in_ok-ending.ensures.ended in
    subst (λ n. CoresBelow n (log_in c.in_ok-log.log).hosts) (ap (λ (s : Steered). s.count) c.in_ok-cores.ensures)
    (host_low c.in_ok-cores.cores.count c.args.local found.records found.items c.in_ok-ending.ending.replay
    (log_in c.in_ok-log.log) (c.in_ok-log.ensures c.args.local found.items ended.ticks ended.met ended.refused)
    ended.below)
