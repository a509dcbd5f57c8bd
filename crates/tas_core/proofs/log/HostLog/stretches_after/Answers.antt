use Rattle.std.proofs.Common.{◌≡◌, ◌+◌, ◌-◌, ◌<◌, List, drop, length, take, sym, ap, ◌∙◌, subst, arith}
use Rattle.std.proofs.lemmas.List.{take_rest}
use Rattle.host_rounds.specs.declared.log.LogLine.{LogLine}
use Rattle.tas_core.specs.declared.stretch.LogStretch.{LogStretch}
use Rattle.tas_core.specs.Stretches.{lines_in, lines_of, ComeAfter}
use Rattle.tas_core.proofs.Newest.{some_left, come_next, come_behind}
use Rattle.tas_core.proofs.log.HostLog.stretches_after.Goals as goal

pub returns-then-more-left : goal.returns-then-more-left
returns-then-more-left c =
    let ss : List LogStretch = c.self.inside.stretches.items in
    let i = c.loop-left.i in
    let j = i - 1 in
    let d = c.index.result.now in
    let some : 0 < i = some_left ss i c.args.lines c.loop-left.left c.loop-left.invariant.count c.loop-left-test.true in
    let below : j < length ss = omega (arith, c.loop-left.invariant.inside, some) in
    let next : j + 1 ≡ i = omega (arith, some) in
    let same : drop (j + 1) ss ≡ take (length c.deref.result.now - i) (drop i c.deref.result.now) =
    ap (λ n. drop n ss) next
    ∙ sym (take_rest c.deref.result.now i ∙ ap (drop i) c.deref.ensures.value) in
    subst (λ (log : List LogLine). ComeAfter c.args.lines log (take (length c.deref.result.now - i)
    (drop i c.deref.result.now))) c.self.view_is
    (subst (λ (after : List LogStretch). ComeAfter c.args.lines (lines_of ss) after) same
    (come_behind ss j c.args.lines c.loop-left.left c.more-more.result d below
    (ap (λ n. length (lines_of (take n ss))) next ∙ c.loop-left.invariant.count)
    (c.more-more.ensures ∙ ap (λ s. length (lines_in s)) c.index.ensures) c.if-more-left.true c.loop-left-test.true))

pub returns : goal.returns
returns c =
    let ss : List LogStretch = c.self.inside.stretches.items in
    let i = c.loop-left.i in
    let same : drop i ss ≡ take (length c.deref-2.result.now - i) (drop i c.deref-2.result.now) =
    sym (take_rest c.deref-2.result.now i ∙ ap (drop i) c.deref-2.ensures.value) in
    subst (λ (log : List LogLine). ComeAfter c.args.lines log (take (length c.deref-2.result.now - i)
    (drop i c.deref-2.result.now))) c.self.view_is
    (subst (λ (after : List LogStretch). ComeAfter c.args.lines (lines_of ss) after) same
    (come_next ss i c.args.lines (omega (arith, c.loop-left.invariant.count, c.loop-left-test.false))))
