use Rattle.std.proofs.Common.{◌≡◌, ℕ, ◌<◌, ◌+◌, ◌||◌, not, cond, Bool, set, length, ap, sym, ◌∙◌, subst, arith}
use Rattle.flow_lock.specs.Answers.{is_open_in}
use Rattle.libtas_sockets.specs.Connecting.{fits}
use Rattle.libtas_sockets.specs.declared.begun.Begun.{Begun}
use Rattle.libtas_sockets.proofs.Waiting.{Kept, kept_here, kept_more}
use Rattle.libtas_sockets.proofs.connecting.forget_ended.Goals as goal

pub is_still_begun-requires : goal.is_still_begun-requires
is_still_begun-requires c =
    let l = c.loop-at in
    let x : Begun = c.index.result.now in
    let stays : Begun → Bool = λ b. not (fits c.args.target.now b) || is_open_in c.args.sp.now.view.marks b.id in
    let near : l.at < length l.begun.items = omega (arith, c.loop-at-test.true, c.len.ensures, l.begun.ok) in
    let same = l.invariant.same in
    let here = kept_here stays c.args.begun.now.items l.begun.items l.kept l.at x l.invariant near
    (sym c.index.ensures) in
    subst (λ (b : Begun). b.id.slot < c.args.sp.now.table.slots) here
    (c.requires l.at x (subst (λ n. l.at < n) same near))

pub loop-at-preserved : goal.loop-at-preserved
loop-at-preserved c =
    let l = c.loop-at in
    let x : Begun = c.index.result.now in
    let stays : Begun → Bool = λ b. not (fits c.args.target.now b) || is_open_in c.args.sp.now.view.marks b.id in
    let near : l.at < length l.begun.items = omega (arith, c.loop-at-test.true, c.len.ensures, l.begun.ok) in
    let count : l.kept + cond (stays x) 1 0 ≡ l.kept + c.count_of-kept.result =
    ap (λ n. l.kept + n) (sym (c.count_of-kept.ensures ∙ ap (λ b. cond {A = ℕ} b 1 0) c.is_still_begun.ensures)) in
    subst (λ n. Kept stays c.args.begun.now.items (set l.begun.items l.kept x) n (l.at + 1)) count
    (kept_more stays c.args.begun.now.items l.begun.items l.kept l.at x l.invariant near (sym c.index.ensures))
