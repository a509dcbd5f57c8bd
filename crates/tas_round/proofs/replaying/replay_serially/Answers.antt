use Rattle.std.proofs.Common.{rules, ◌≡◌, Ok, sym, ap, ◌∙◌, arith}
use Rattle.host_rounds.specs.Logs.{RunLog}
use Rattle.host_rounds.specs.Cores.{CoresBelow}
use Rattle.tas_runs.specs.Replays.{Replay, replay_log}
use Rattle.tas_runs.specs.SerialOrder.{serial_log, serial_replay}
use Rattle.tas_runs.proofs.SerialRun.{serial_is_replay, serial_replay_low}
use Rattle.capture_items.proofs.Replays.{found_is_replayed}
use Rattle.tas_round.specs.Runs.{log_in, Ended}
use Rattle.tas_round.proofs.Playing.{ok_gives}
use Rattle.tas_round.proofs.replaying.replay_serially.Goals as goal

pub log_of-requires : goal.log_of-requires
log_of-requires c = record {
  items = omega (arith, c.in_ok-ending.ensures.ended.met, c.in_ok-items.ensures.few);
  refused = c.in_ok-ending.ensures.few;
}

pub returns-clause-serial : goal.returns-clause-serial
returns-clause-serial c =
    let found = c.in_ok-items.field-0 in
    let ended : Ended c.args.local found.items c.in_ok-ending.ending = c.in_ok-ending.ensures.ended in
    let same : log_in c.in_ok-log.log ≡ serial_log c.args.local found.records found.items =
    c.in_ok-log.ensures c.args.local found.items ended.ticks ended.met ended.refused
    ∙ ap (λ site. replay_log c.args.local found.records found.items site.host) ended.played in
    found_is_replayed c.args.capture.now c.args.local c.args.loose found c.in_ok-items.ensures.found
    ∙ ap (λ (log : RunLog). Ok log) (sym same)

pub returns-clause-run : goal.returns-clause-run
returns-clause-run c =
    let run = serial_replay c.args.local c.args.capture.now c.args.loose in
    let is_run = Replay c.args.local c.args.capture.now c.args.loose in
    let right = serial_is_replay c.args.local c.args.capture.now c.args.loose in
    ok_gives run is_run (log_in c.in_ok-log.log) (returns-clause-serial c) right

pub returns-clause-below : goal.returns-clause-below
returns-clause-below c =
    let run = serial_replay c.args.local c.args.capture.now c.args.loose in
    let low = serial_replay_low c.args.local c.args.capture.now c.args.loose in
    ok_gives run (λ (log : RunLog). CoresBelow 1 log.hosts) (log_in c.in_ok-log.log) (returns-clause-serial c) low
