use Rattle.std.proofs.Common.{ℕ, ◌<◌, All, List, map, ap, sym, subst, ◌∙◌}
use Rattle.host_rounds.specs.Scripts.{Site}
use Rattle.host_rounds.specs.Deliveries as arrivals
use Rattle.core_rounds.specs.CoreTicks.{IsCoresTick}
use Rattle.tas_runs.specs.LocalScript.{Shown, capture_scripts, due_in}
use Rattle.capture_items.specs.Items.{item_in}
use Rattle.local_host.specs.declared.arrival.Arrival.{Arrival}
use Rattle.local_host.specs.Arriving.{arrival_in}
use Rattle.local_host.proofs.OfCores.{phase_of}
use Rattle.local_host.proofs.Places.{ok_by}
use Rattle.local_host.proofs.CoreRecording.{rests, played_on_cores}
use Rattle.local_host.proofs.replay.LocalReplay.play_on_cores.Goals as goal

pub returns-clause-tick : goal.returns-clause-tick
returns-clause-tick g c = λ items are.
    let site : Site (List Shown) = record { host = c.self.inside.host; scripts = c.self.inside.shown.items } in
    let met : Site (List Shown) = record site { host = c.receive_on_cores.new.self } in
    let asked : Site (List Shown) = record { host = c.self-2.inside.host; scripts = c.self-2.inside.shown.items } in
    let count : ℕ = c.args.cores.now.count in
    let frames : List arrivals.Arrival = map arrival_in c.deref-2.result.now in
    let rest : List arrivals.Arrival = map arrival_in c.in_ok-rest.rest.items in
    let below : All (λ (core : ℕ). core < count) c.deref-3.result.now = subst (All (λ (core : ℕ). core < count))
    (sym c.deref-3.ensures.value) c.in_ok-steered.ensures.below in
    let took = phase_of count c.args.tick c.pass_time_on_cores.new.self c.deref-3.result.now frames rest
    c.receive_on_cores.new.self below c.in_ok-rest.ensures.steered in
    let some : 0 < count = subst (λ (n : ℕ). 0 < n) c.count.ensures.count c.count.ensures.some in
    ok_by c.send_all_on_cores.result
    (λ made.
    subst
    (λ (s : Site (List Shown)).
    IsCoresTick (capture_scripts items) count c.args.tick (due_in (map item_in c.args.batch.now)) s
    (record asked { host = c.send_all_on_cores.new.self }))
    c.self.view_is
    (played_on_cores items count c.args.tick (map item_in c.args.batch.now) site c.pass_time_on_cores.new.self
    (map arrival_in c.deref-2.result.now) (map arrival_in c.in_ok-rest.rest.items) c.receive_on_cores.new.self
    c.deliver_rest.new.self asked c.send_all_on_cores.new.self c.in_ok-pass_time_on_cores.ensures.made
    (ap (map arrival_in) c.deref-2.ensures.value ∙ c.in_ok-arrivals.ensures) took
    (c.in_ok-deliver_rest.ensures items are
    ∙ ap (λ (xs : List Arrival). rests items c.args.tick met (map arrival_in xs)) c.deref-4.ensures.value)
    (c.self-2.view_is ∙ c.in_ok-serve_all.ensures items are) made some))
    c.send_all_on_cores.ensures.made
