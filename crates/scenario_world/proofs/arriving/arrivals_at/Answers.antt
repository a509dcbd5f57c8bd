use Rattle.std.proofs.Common.{◌==◌, ◌++◌, ◌∷◌, [], map, filter, take, sym, ap, ◌∙◌}
use Rattle.std.proofs.lemmas.List.{map-append}
use Rattle.std.proofs.lemmas.List.Elements.{filter-append}
use Rattle.link_script.specs.declared.frames.Sent.{Sent}
use Rattle.scenario_runs.specs.Worlds.{arrival}
use Rattle.scenario_world.proofs.Lists.{taken_more}
use Rattle.scenario_world.proofs.arriving.arrivals_at.Goals as goal

pub loop-i-preserved : goal.loop-i-preserved
loop-i-preserved c =
    let p = λ (f : Sent). f.to == c.args.host in
    let front = take c.loop-i.i c.args.due.now in
    let last = c.get.result.now ∷ [] in
    c.in_ok-take_arrival.ensures
    ∙ (ap (λ fs. fs ++ map arrival (filter p last)) c.loop-i.invariant
    ∙ sym (ap (λ fs. map arrival (filter p fs)) (taken_more c.args.due.now c.loop-i.i c.get.result.now c.get.ensures)
    ∙ (ap (map arrival) (filter-append p front last) ∙ map-append arrival (filter p front) (filter p last))))
