use Rattle.std.proofs.Common.{◌<◌, ◌≤◌, ◌+◌, suc, nat_lt, filter, sym, subst, ap, ◌∙◌, arith}
use Rattle.std.proofs.lemmas.Bool.Decides.{nat_tests}
use Rattle.tas_model.specs.declared.entry.Entry.{Entry}
use Rattle.tas_model.specs.LegalHistory.{last_tick}
use Rattle.tas_model.specs.Outputs.{sent}
use Rattle.flow_state.specs.Views.{seen_stretch}
use Rattle.sent_frames.proofs.Starting.{quiet_last, quiet_sends_none}
use Rattle.flow_state.specs.Stretches.{pace_of}
use Rattle.flow_state.specs.Views.{IsFit}
use Rattle.sent_frames.proofs.Paced.{paced_last, paced_sends_none}
use Rattle.sent_frames.proofs.flows.ended_before.Goals as goal

pub returns-in-Quiet-clause-earlier : goal.returns-in-Quiet-clause-earlier
returns-in-Quiet-clause-earlier c =
    λ e n.
    let r = c.in-Quiet.run' in
    let l : r.tick + r.more < c.args.tick = grind (arith, nat_tests, e) in
    subst (λ m. m < c.args.tick) (sym (ap (λ s. last_tick n (seen_stretch s)) c.in-Quiet.is
    ∙ quiet_last r.caller n r.number r.tick r.more)) l

pub returns-in-Quiet-clause-later : goal.returns-in-Quiet-clause-later
returns-in-Quiet-clause-later c =
    λ e.
    let r = c.in-Quiet.run' in
    let p = λ (x : Entry). nat_lt x.tick c.args.tick in
    ap (λ s. sent (filter p (seen_stretch s))) c.in-Quiet.is ∙ quiet_sends_none p r.caller r.number r.tick (suc r.more)

pub returns-in-Paced-clause-earlier : goal.returns-in-Paced-clause-earlier
returns-in-Paced-clause-earlier c =
    λ e n.
    let runs = c.in-Paced.runs in
    let low : runs.tick ≤ c.args.tick = grind (arith, nat_tests, e) in
    let last = paced_last runs n (subst IsFit c.in-Paced.is c.requires) in
    omega (arith, low, last, ap (λ s. last_tick n (seen_stretch s)) c.in-Paced.is)

pub returns-in-Paced-clause-later : goal.returns-in-Paced-clause-later
returns-in-Paced-clause-later c =
    λ e.
    let runs = c.in-Paced.runs in
    let p = λ (x : Entry). nat_lt x.tick c.args.tick in
    ap (λ s. sent (filter p (seen_stretch s))) c.in-Paced.is
    ∙ paced_sends_none p (pace_of runs) runs.run.number runs.run.tick (suc runs.more)
