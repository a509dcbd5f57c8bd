-- Answers of the proof of staffing/add_apps.
use Rattle.std.proofs.Common.{◌≡◌, ◌+◌, ◌++◌, ◌∷◌, [], get_or, length, sym, ap, ◌∙◌, arith}
use Rattle.std.proofs.lemmas.List.{take_more}
use Rattle.std.proofs.lemmas.Option.{slice_get-get_or}
use Rattle.core_worker.specs.Workers.{Common}
use Rattle.core_host.proofs.Hiring.{added_all, apps_next, manned_next, next_is_none}
use Rattle.core_host.proofs.staffing.add_apps.Goals as goal

pub add_one-requires-clause-manned : goal.add_one-requires-clause-manned
add_one-requires-clause-manned c =
    let may = c.requires.manned in (
      may.0,
      may.1,
      may.1 + c.loop-number.number-index,
      omega (arith, may.2, c.loop-number-test.true, c.requires.numbers.1),
      c.loop-number.invariant.manned may.0 may.1 may.3,
    )

pub add_one-requires-clause-none : goal.add_one-requires-clause-none
add_one-requires-clause-none c =
    let ns = c.args.numbers.now in
    let i = c.loop-number.number-index in
    next_is_none ns i (get_or ns i 0) c.loop-number.shared.queues c.requires.numbers.0
    (slice_get-get_or ns i 0 c.loop-number-test.true) c.loop-number.invariant.queues

pub loop-number-preserved : goal.loop-number-preserved
loop-number-preserved c =
    let ns = c.args.numbers.now in
    let i = c.loop-number.number-index in
    let now = c.loop-number.invariant in
    let new = c.add_one.new.shared in record {
      manned = λ params n is. manned_next params n i new c.add_one.new.slow c.add_one.new.workers.items
          (c.in_ok-app.ensures.manned params n (n + i) (now.manned params n is));
      near = omega (arith, c.loop-number-test.true);
      queues = c.in_ok-app.ensures.queues
          ∙ (ap (λ ms. ms ++ get_or ns i 0 ∷ []) now.queues ∙ sym (take_more ns i 0 c.loop-number-test.true));
      apps = apps_next c.args.shared.now.table new.table ns i c.loop-number.apps.items c.push.new.self.items
          c.in_ok-app.app c.loop-number-test.true now.apps
          (ap (λ (x : Common). x.table) c.add_one.ensures.same ∙ ap (λ (x : Common). x.table) now.same)
          c.in_ok-app.ensures.app c.in_ok-push.ensures.items;
      same = c.add_one.ensures.same ∙ ap (λ (x : Common). record x { queues = new.queues }) now.same;
    }

pub returns-clause-added : goal.returns-clause-added
returns-clause-added c params n is =
    let ns = c.args.numbers.now in
    let i = c.loop-number.number-index in
    let now = c.loop-number.invariant in
    let all : i ≡ length ns = let a = c.loop-number-test.false in let b = now.near in omega (arith, a, b) in
    added_all params n i ns c.args.shared.now c.loop-number.shared c.loop-number.slow c.loop-number.workers.items
    c.loop-number.apps.items all (now.manned params n is) now.queues now.apps now.same
