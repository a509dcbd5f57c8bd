use Rattle.std.proofs.Common.{◌≤◌, ◌∙◌, ℕ, ap, sym, subst, arith, length, take}
use Rattle.std.proofs.lemmas.List.{take_all}
use Rattle.flow_lock.specs.Passes.{Seen}
use Rattle.slow_worker.specs.Alone.{AreUsed, IsAsItWas, kicks_due}
use Rattle.slow_worker.proofs.Walks.{all_stay, next_pinned, used_next, due_next}
use Rattle.slow_worker.proofs.Serving.{err_of}
use Rattle.slow_worker.proofs.looking.look_at_all.Goals as goal

pub look_at-requires-clause-slot : goal.look_at-requires-clause-slot
look_at-requires-clause-slot c =
    let l = c.loop-at in
    let s = c.args.slow.now in
    let stays = all_stay IsAsItWas (take l.at c.args.pins.now.list) s.view l.slow.view l.invariant.looked in
    (next_pinned c.args.table.now s l.slow c.args.pins.now.list l.at c.pin.result.now stays c.requires.pins
    c.pin.ensures).1

pub look_at-requires-clause-slow : goal.look_at-requires-clause-slow
look_at-requires-clause-slow c =
    let l = c.loop-at in
    let s = c.args.slow.now in
    let stays = all_stay IsAsItWas (take l.at c.args.pins.now.list) s.view l.slow.view l.invariant.looked in (
      l.invariant.table ∙ c.requires.slow.0,
      (next_pinned c.args.table.now s l.slow c.args.pins.now.list l.at c.pin.result.now stays c.requires.pins
          c.pin.ensures).0,
      stays.alone c.requires.alone,
    )

pub look_at-requires-clause-free : goal.look_at-requires-clause-free
look_at-requires-clause-free c =
    let l = c.loop-at in
    let s = c.args.slow.now in
    (all_stay IsAsItWas (take l.at c.args.pins.now.list) s.view l.slow.view l.invariant.looked).idle c.requires.slow.2

pub loop-at-preserved : goal.loop-at-preserved
loop-at-preserved c =
    let l = c.loop-at in
    let s = c.args.slow.now in
    let pins = c.args.pins.now.list in
    let e = c.in_ok-look_at.ensures in
    record {
      table = c.look_at.ensures.table ∙ l.invariant.table;
      looked = used_next IsAsItWas pins l.at c.pin.result.now s.view l.slow.view c.look_at.new.slow.view
          l.invariant.looked c.pin.ensures e.looked;
      kicks = due_next pins l.at c.pin.result.now s.view l.slow.view l.kicks.list c.look_at.new.kicks.list
          c.requires.alone l.invariant.looked c.pin.ensures l.invariant.kicks e.kicked;
    }

pub returns-in_err-look_at-clause-part : goal.returns-in_err-look_at-clause-part
returns-in_err-look_at-clause-part c =
    let l = c.loop-at in
    let pins = c.args.pins.now.list in
    let v = c.args.slow.now.view in
    err_of ((count : ℕ) × AreUsed IsAsItWas (take count pins) v c.look_at.new.slow.view) (
      l.at,
      subst (λ (n : Seen). AreUsed IsAsItWas (take l.at pins) v n.view) (sym c.in_err-look_at.ensures.unlooked)
          l.invariant.looked,
    ) c.from_residual.result

pub returns-clause-looked : goal.returns-clause-looked
returns-clause-looked c =
    let l = c.loop-at in
    let past : length c.args.pins.now.list ≤ l.at = let t = c.loop-at-test.false in let e = c.len-at-end.ensures in
    omega arith in
    subst (λ xs. AreUsed IsAsItWas xs c.args.slow.now.view l.slow.view) (take_all l.at c.args.pins.now.list past)
    l.invariant.looked

pub returns-clause-kicked : goal.returns-clause-kicked
returns-clause-kicked c =
    let l = c.loop-at in
    let past : length c.args.pins.now.list ≤ l.at = let t = c.loop-at-test.false in let e = c.len-at-end.ensures in
    omega arith in
    l.invariant.kicks ∙ ap (kicks_due c.args.slow.now.view.base) (take_all l.at c.args.pins.now.list past)
