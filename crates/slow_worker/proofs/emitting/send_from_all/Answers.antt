use Rattle.std.proofs.Common.{◌≤◌, ◌∙◌, ap, sym, subst, suc, arith, length, take, drop, ◌++◌}
use Rattle.std.proofs.lemmas.List.{take_all, take-append-drop}
use Rattle.core_worker.specs.Sending.{IsAllSent}
use Rattle.flow_clock.proofs.Serving.{drop_more}
use Rattle.slow_worker.specs.Alone.{AreUsed, IsSendStopped}
use Rattle.slow_worker.proofs.Serving.{err_of}
use Rattle.slow_worker.proofs.Walks.{all_stay, next_pinned, used_next}
use Rattle.slow_worker.proofs.emitting.send_from_all.Goals as goal

pub send_at-requires-clause-slot : goal.send_at-requires-clause-slot
send_at-requires-clause-slot c =
    let l = c.loop-at in
    let s = c.args.slow.now in
    let pins = c.args.pins.now.list in
    let stays = all_stay (IsAllSent 0 c.args.tick) (take l.at pins) s.view l.slow.view l.invariant.sent in
    (next_pinned c.args.table.now s l.slow pins l.at c.pin.result.now stays c.requires.pins c.pin.ensures).1

pub send_at-requires-clause-slow : goal.send_at-requires-clause-slow
send_at-requires-clause-slow c =
    let l = c.loop-at in
    let s = c.args.slow.now in
    let pins = c.args.pins.now.list in
    let stays = all_stay (IsAllSent 0 c.args.tick) (take l.at pins) s.view l.slow.view l.invariant.sent in (
      l.invariant.table ∙ c.requires.slow.0,
      (next_pinned c.args.table.now s l.slow pins l.at c.pin.result.now stays c.requires.pins c.pin.ensures).0,
      stays.alone c.requires.alone,
    )

pub send_at-requires-clause-free : goal.send_at-requires-clause-free
send_at-requires-clause-free c =
    let l = c.loop-at in
    let s = c.args.slow.now in
    (all_stay (IsAllSent 0 c.args.tick) (take l.at c.args.pins.now.list) s.view l.slow.view l.invariant.sent).idle
    c.requires.slow.2

pub loop-at-preserved : goal.loop-at-preserved
loop-at-preserved c =
    let l = c.loop-at in
    record {
      table = c.send_at.ensures.table ∙ l.invariant.table;
      sent = used_next (IsAllSent 0 c.args.tick) c.args.pins.now.list l.at c.pin.result.now c.args.slow.now.view
          l.slow.view c.send_at.new.slow.view l.invariant.sent c.pin.ensures c.in_ok-send_at.ensures.sent;
    }

pub returns-in_err-send_at-clause-part : goal.returns-in_err-send_at-clause-part
returns-in_err-send_at-clause-part c =
    let l = c.loop-at in
    let pins = c.args.pins.now.list in
    err_of (IsSendStopped c.args.tick pins c.args.slow.now.view c.send_at.new.slow.view) (record {
      done = take l.at pins;
      at = c.pin.result.now;
      left = drop (suc l.at) pins;
      all = sym (take-append-drop l.at pins)
          ∙ ap (λ xs. take l.at pins ++ xs) (drop_more pins l.at c.pin.result.now c.pin.ensures);
      before = l.slow.view;
      sent = l.invariant.sent;
      part = c.in_err-send_at.ensures.part;
    }) c.from_residual.result

pub returns-clause-sent : goal.returns-clause-sent
returns-clause-sent c =
    let l = c.loop-at in
    let past : length c.args.pins.now.list ≤ l.at = let t = c.loop-at-test.false in let e = c.len-at-end.ensures in
    omega arith in
    subst (λ xs. AreUsed (IsAllSent 0 c.args.tick) xs c.args.slow.now.view l.slow.view)
    (take_all l.at c.args.pins.now.list past) l.invariant.sent
