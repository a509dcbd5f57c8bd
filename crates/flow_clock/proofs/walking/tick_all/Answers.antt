use Rattle.flow_clock.proofs.Serving.{on_ok_done}
use Rattle.flow_clock.proofs.walking.tick_all.Goals as goal

pub returns-clause-done : goal.returns-clause-done
returns-clause-done c =
    on_ok_done c.args.tick c.args.served.now c.args.slow.now.view c.sweep_again.new.slow.view c.args.pins.now.list
    c.args.doomed.now.list
    c.sweep_again.new.doomed.list c.args.filed.now.list c.sweep_again.new.filed.list c.args.index.now.pending
    c.args.kicks.now.list c.args.path.now _ c.serve_all.result
    (c.in_ok-sweep_again.ensures.done c.args.pins.now.list c.args.index.now.pending c.args.kicks.now.list
    c.args.path.now)
    c.serve_all.ensures.done
