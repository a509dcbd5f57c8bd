use Rattle.std.proofs.Common.{rules, ◌≡◌, ◌<◌, ◌≤◌, ◌++◌, ◌∷◌, [], length, sym, ap, ◌∙◌, arith}
use Rattle.tas_runs.specs.LocalScript.{Shown, nothing_shown, all_shown}
use Rattle.local_host.proofs.Serving.{all_enough, shown_more}
use Rattle.local_host.proofs.replay.show_all.Goals as goal

pub loop-alloc-preserved : goal.loop-alloc-preserved
loop-alloc-preserved c = λ flows same.
    let few : length c.loop-alloc.shown.items < c.args.count = search rules in
    let pushed : c.push.new.self.items ≡ c.loop-alloc.shown.items ++ nothing_shown ∷ [] =
    c.in_ok-push.ensures.items ∙ ap (λ (s : Shown). c.loop-alloc.shown.items ++ s ∷ []) c.new.ensures in
    ap (all_shown flows) pushed
    ∙ (shown_more flows c.loop-alloc.shown.items (omega (arith, few, same)) ∙ c.loop-alloc.invariant flows same)

pub returns-clause-shown : goal.returns-clause-shown
returns-clause-shown c = λ flows same.
    let enough : c.args.count ≤ length c.loop-alloc.shown.items = search rules in
    sym (all_enough flows c.loop-alloc.shown.items (omega (arith, enough, same))) ∙ c.loop-alloc.invariant flows same
