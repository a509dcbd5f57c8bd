use Rattle.std.proofs.Common.{◌<◌, ◌-◌, ◌+◌, ◌≡◌, [], nat_lt, filter, drop, take, subst, arith}
use Rattle.tas_model.specs.declared.entry.Entry.{Entry}
use Rattle.tas_model.specs.LegalHistory.{last_tick}
use Rattle.tas_model.specs.Outputs.{sent}
use Rattle.flow_state.specs.Views.{seen_stretch}
use Rattle.sent_frames.proofs.Starting.{joined, ended, none_more}
use Rattle.sent_frames.proofs.flows.first_since.Goals as goal

pub returns-then-ended_before-clause-earlier : goal.returns-then-ended_before-clause-earlier
returns-then-ended_before-clause-earlier c =
    λ some.
    let xss = c.args.stretches.now in
    let t = c.args.tick in
    let whole : c.loop-first.first - 1 + 1 ≡ c.loop-first.first = omega arith in
    subst (λ n. last_tick 0 (joined (take n xss)) < t) whole
    (ended t xss (c.loop-first.first - 1) (seen_stretch c.get.result) c.get.ensures.entries
    (c.ended_before.ensures.earlier c.if-ended_before.true))

pub loop-first-preserved : goal.loop-first-preserved
loop-first-preserved c =
    let xss = c.args.stretches.now in
    let t = c.args.tick in
    let whole : c.loop-first.first ≡ c.loop-first.first - 1 + 1 = omega arith in
    record {
      bound = omega arith;
      later = none_more t xss (c.loop-first.first - 1) (seen_stretch c.get.result) c.get.ensures.entries
          (c.ended_before.ensures.later c.if-ended_before.false)
          (subst (λ n. sent (filter (λ (x : Entry). nat_lt x.tick t) (joined (drop n xss))) ≡ []) whole
          c.loop-first.invariant.later);
    }
