use Rattle.std.proofs.Common.{rules, ◌≡◌, length, map, slice_get, Some, refl, ap, sym, subst, ◌∙◌, arith}
use Rattle.std.proofs.Common.{length-append, ◌∷◌, []}
use Rattle.std.proofs.lemmas.Iterator.Adapters.{YieldsList-from_vec}
use Rattle.std.proofs.lemmas.Iterator.Consumers.{YieldsList-turn, YieldsList-end}
use Rattle.std.proofs.lemmas.List.{map-id}
use Rattle.std.proofs.lemmas.Option.{slice_get_read}
use Rattle.host_rounds.specs.Lists.{Each}
use Rattle.local_host.specs.Live.{IsLegal}
use Rattle.local_host.specs.declared.host.HostEnd.{HostEnd}
use Rattle.scenario_world.specs.Ends.{host_runs}
use Rattle.tas_round.specs.Runs.{host_in}
use Rattle.tas_round.proofs.HostEnds.{each_there, inside, no_ends, run_more}
use Rattle.tas_round.proofs.running.host_runs.Goals as goal

pub loop-end-init : goal.loop-end-init
loop-end-init c = record {
  runs = ap (map host_in) c.in_ok-runs.ensures.items ∙ sym (no_ends c.args.lines.now);
  count = ap length c.in_ok-runs.ensures.items;
}

pub item-line-requires : goal.item-line-requires
item-line-requires c =
    let ends = c.args.ends.items in
    let place : c.len-in-loop-end.result ≡ length c.loop-end.yielded = search rules in
    let all = YieldsList-from_vec ends c.into_iter-end-iterator.ensures.into_iter_gives.0 (search rules) in
    let turn = YieldsList-turn all c.loop-end.yielded c.loop-end.end-iterator c.loop-end.yielded_by c.next.result
    c.next.new.self c.in-Some.end c.in-Some.is c.next.ensures.steps in
    inside (length ends) (length c.args.lines.now) (length c.loop-end.yielded) c.len-in-loop-end.result turn.0
    c.requires.hosts place

pub host_run-requires : goal.host_run-requires
host_run-requires c =
    let ends = c.args.ends.items in
    let all = YieldsList-from_vec ends c.into_iter-end-iterator.ensures.into_iter_gives.0 (search rules) in
    let turn = YieldsList-turn all c.loop-end.yielded c.loop-end.end-iterator c.loop-end.yielded_by
    c.next.result c.next.new.self c.in-Some.end c.in-Some.is c.next.ensures.steps in
    let here : slice_get ends (length c.loop-end.yielded) ≡ Some c.in-Some.end = slice_get_read ends (length ends)
    (length c.loop-end.yielded) c.in-Some.end refl turn.0 turn.1 in
    each_there (λ (e : HostEnd). Each IsLegal e.flows.items) ends (length c.loop-end.yielded) c.in-Some.end
    c.requires.legal here

pub loop-end-preserved : goal.loop-end-preserved
loop-end-preserved c =
    let place : c.len-in-loop-end.result ≡ length c.loop-end.yielded = search rules in
    let here : slice_get c.args.lines.now (length c.loop-end.yielded) ≡ Some c.item-line.result.now = subst
    (λ i. slice_get c.args.lines.now i ≡ Some c.item-line.result.now) place c.item-line.ensures in
    record {
      runs = run_more c.args.lines.now c.loop-end.yielded c.loop-end.runs.items c.push.new.self.items
          c.item-line.result.now c.in-Some.end c.in_ok-host_run.field-0 here c.in_ok-host_run.ensures
          c.in_ok-push.ensures.items c.loop-end.invariant.runs;
      count = ap length c.in_ok-push.ensures.items
          ∙ omega (
            arith,
            length-append c.loop-end.runs.items (c.in_ok-host_run.field-0 ∷ []),
            length-append c.loop-end.yielded (c.in-Some.end ∷ []),
            c.loop-end.invariant.count,
          );
    }

pub returns : goal.returns
returns c =
    let ends = c.args.ends.items in
    let all = YieldsList-from_vec ends c.into_iter-end-iterator.ensures.into_iter_gives.0 (search rules) in
    let end = YieldsList-end all c.loop-end.yielded c.loop-end.end-iterator c.loop-end.yielded_by c.next.result
    c.next.new.self c.in-None.is c.next.ensures.steps in
    c.loop-end.invariant.runs ∙ ap (host_runs c.args.lines.now) (sym (map-id c.loop-end.yielded) ∙ end.0)
