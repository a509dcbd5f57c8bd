use Rattle.std.proofs.Common.{ap, sym, ◌∙◌}
use Rattle.core_worker.specs.Workers.{Common}
use Rattle.slow_worker.specs.Workers.{Worker}
use Rattle.host_tests.proofs.Added.{slow_given, turn_given, app_added, app_still, all_cores}
use Rattle.host_tests.proofs.starting.add_both.Goals as goal

pub returns-clause-apps : goal.returns-clause-apps
returns-clause-apps c =
    let one = c.in-Ok.ensures in
    let two = c.in-Ok-add_app.ensures in
    let same = ap (λ (x : Common). x.table) one.shared in
    let table = c.requires.slow.slow.sound.0.ready.0 in
    let first = app_added c.args.shared.now c.add_app.new.shared 0 c.args.slow.now.pass c.in-Ok.first one.app table same
    one.queue in
    let then = ap (λ (x : Worker). x.pass.table) one.slow ∙ (table ∙ sym same) in (
      app_still c.add_app.new.shared c.add_app-2.new.shared 0 1 _ c.in-Ok.first two.added first,
      app_added c.add_app.new.shared c.add_app-2.new.shared 1 c.add_app.new.slow.pass c.in-Ok-add_app.second two.app
          then (ap (λ (x : Common). x.table) two.shared) two.queue,
    )

pub returns-clause-slow : goal.returns-clause-slow
returns-clause-slow c =
    let one = c.in-Ok.ensures in
    let two = c.in-Ok-add_app.ensures in
    let first = slow_given c.args.shared.now c.add_app.new.shared 0 _ _ c.args.slow.now c.add_app.new.slow one.added
    one.slow one.slow_senders c.requires.slow.turn c.requires.slow.slow in
    slow_given c.add_app.new.shared c.add_app-2.new.shared 1 _ _ c.add_app.new.slow c.add_app-2.new.slow two.added
    two.slow two.slow_senders (turn_given _ c.args.slow.now c.add_app.new.slow one.slow c.requires.slow.turn) first

pub returns-clause-cores : goal.returns-clause-cores
returns-clause-cores c =
    let one = c.in-Ok.ensures in
    let two = c.in-Ok-add_app.ensures in
    all_cores c.add_app-2.new.shared c.add_app-2.new.cores
    (two.free (one.free c.requires.cores.0), two.queues (one.queues c.requires.cores.1), two.senders)
