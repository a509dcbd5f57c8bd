use Rattle.std.proofs.Common.{ap, ◌∙◌}
use Rattle.flow_lock.specs.Passes.{Seen}
use Rattle.flow_clock.proofs.Keeping.{after_use, kept_after_refusal}
use Rattle.flow_clock.proofs.Serving.{busy_there, timed_there, closed_there, unkicked_there, untold_there, kept_timed}
use Rattle.flow_clock.proofs.Serving.{on_err_stopped, refused_there}
use Rattle.flow_clock.proofs.walking.serve_at.Goals as goal

pub returns-in-Err-Busy-clause-kept : goal.returns-in-Err-Busy-clause-kept
returns-in-Err-Busy-clause-kept c =
    kept_after_refusal c.args.table.now.slots c.pin.result.now _ c.args.slow.now c.pass_time.new.slow
    c.args.doomed.now.list c.args.pins.now.list c.in-Err-Busy.ensures.refused c.requires.kept

pub returns-in-Err-Busy-clause-served : goal.returns-in-Err-Busy-clause-served
returns-in-Err-Busy-clause-served c =
    busy_there c.args.tick c.args.at c.pin.result.now c.args.slow.now.view c.pass_time.new.slow.view
    c.args.pins.now.list c.args.doomed.now.list c.args.filed.now.list c.args.index.now.pending c.args.kicks.now.list
    c.pass_time.new.kicks.list c.args.path.now c.pass_time.new.path c.in-Err-Busy.field-0 _ c.in-Err-Busy.field-0-is
    c.pin.ensures
    c.in-Err-Busy.ensures.refused c.in-Err-Busy.ensures.unkicked c.in-Err-Busy.ensures.untold

pub returns-in-Err-OutOfMemory-clause-kept : goal.returns-in-Err-OutOfMemory-clause-kept
returns-in-Err-OutOfMemory-clause-kept c =
    kept_after_refusal c.args.table.now.slots c.pin.result.now _ c.args.slow.now c.pass_time.new.slow
    c.args.doomed.now.list c.args.pins.now.list c.in-Err-OutOfMemory.ensures.refused c.requires.kept

pub returns-in_default-clause-kept : goal.returns-in_default-clause-kept
returns-in_default-clause-kept c =
    kept_timed c.args.table.now.slots c.args.tick c.pin.result.now c.in-Ok.timed c.args.slow.now c.pass_time.new.slow
    c.args.doomed.now.list c.args.pins.now.list c.args.kicks.now.list c.pass_time.new.kicks.list
    c.args.path.now c.pass_time.new.path c.in-Ok.ensures.timed
    c.requires.kept

pub returns-in_default-clause-served : goal.returns-in_default-clause-served
returns-in_default-clause-served c =
    timed_there c.args.tick c.args.at c.pin.result.now c.args.slow.now.view c.pass_time.new.slow.view
    c.args.pins.now.list c.args.doomed.now.list c.args.filed.now.list c.args.index.now.pending c.args.kicks.now.list
    c.pass_time.new.kicks.list c.args.path.now c.pass_time.new.path c.in-Ok.timed c.in_default.not-Closed
    c.pin.ensures c.in-Ok.ensures.timed

pub close_at-requires-clause-kept : goal.close_at-requires-clause-kept
close_at-requires-clause-kept c =
    kept_timed c.args.table.now.slots c.args.tick c.pin.result.now c.in-Ok.timed c.args.slow.now c.pass_time.new.slow
    c.args.doomed.now.list c.args.pins.now.list c.args.kicks.now.list c.pass_time.new.kicks.list
    c.args.path.now c.pass_time.new.path c.in-Ok.ensures.timed
    c.requires.kept

pub returns-clause-served : goal.returns-clause-served
returns-clause-served c =
    let e = c.in_ok-close_at.ensures in
    closed_there c.args.tick c.args.at c.pin.result.now c.in-Closed.tuple c.in-Ok.timed c.args.slow.now.view
    c.pass_time.new.slow.view c.close_at.new.slow.view c.args.pins.now.list c.close_at.new.pins.list
    c.args.doomed.now.list c.close_at.new.doomed.list c.args.filed.now.list c.close_at.new.filed.list
    c.args.index.now.pending c.close_at.new.index.pending c.args.kicks.now.list c.pass_time.new.kicks.list
    c.args.path.now c.pass_time.new.path c.close_at.new.path
    c.in-Closed.is c.pin.ensures c.in-Ok.ensures.timed
    (e.told c.pin.result.now c.pin.ensures) e.rest (e.swept c.pin.result.now c.pin.ensures) e.index

pub returns-in_err-close_at-clause-refused : goal.returns-in_err-close_at-clause-refused
returns-in_err-close_at-clause-refused c =
    on_err_stopped c.from_residual.result
    (refused_there c.args.tick c.args.at c.pin.result.now c.in-Closed.tuple c.in-Ok.timed c.args.slow.now.view
    c.pass_time.new.slow.view c.close_at.new.slow.view c.args.pins.now.list c.args.kicks.now.list
    c.pass_time.new.kicks.list c.args.path.now c.pass_time.new.path c.in-Closed.is c.pin.ensures c.in-Ok.ensures.timed
    (ap (λ (s : Seen). s.view) c.in_err-close_at.ensures.unchanged))

pub returns-in_err-close_at-clause-unkicked : goal.returns-in_err-close_at-clause-unkicked
returns-in_err-close_at-clause-unkicked c =
    on_err_stopped c.from_residual.result
    (unkicked_there c.args.tick c.pin.result.now c.in-Closed.tuple c.in-Ok.timed c.args.slow.now.view
    c.pass_time.new.slow.view c.args.kicks.now.list c.pass_time.new.kicks.list
    c.args.path.now c.pass_time.new.path c.in-Closed.is c.in-Ok.ensures.timed)

pub returns-in_default-clause-rights : goal.returns-in_default-clause-rights
returns-in_default-clause-rights c =
    let t = c.in-Ok.ensures.timed in
    after_use c.pin.result.now t.0 t.1 c.args.slow.now.view c.pass_time.new.slow.view t.4

pub returns-in_err-close_at-clause-untold : goal.returns-in_err-close_at-clause-untold
returns-in_err-close_at-clause-untold c =
    on_err_stopped c.from_residual.result
    (c.in_err-close_at.ensures.untold ∙ untold_there c.args.tick c.pin.result.now c.in-Closed.tuple c.in-Ok.timed
    c.args.slow.now.view c.pass_time.new.slow.view c.args.kicks.now.list c.pass_time.new.kicks.list
    c.args.path.now c.pass_time.new.path c.in-Closed.is c.in-Ok.ensures.timed)
