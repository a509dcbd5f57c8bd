use Rattle.std.proofs.Common.{◌≡◌, ℕ, ◌++◌, ◌∷◌, [], ◌∙◌, List, map, ap, subst, sym}
use Rattle.std.proofs.lemmas.List.{map-append}
use Rattle.host_rounds.specs.Hosts.{Live}
use Rattle.host_rounds.specs.Deliveries.{Arrival}
use Rattle.local_host.specs.Arriving.{arrival_in}
use Rattle.local_host.specs.Handing.{TookSome}
use Rattle.local_host.proofs.InTurn.{some_left, turn_left, turn_taken}
use Rattle.local_host.proofs.cores.take_next.Goals.{in-Some+in_ok-take+else-branch, in_default}
use Rattle.local_host.proofs.cores.take_next.Goals as goal

pub returns-then-branch-clause-took : goal.returns-then-branch-clause-took
returns-then-branch-clause-took c old cores frames some =
    turn_taken c.args.core c.in-Some.place (arrival_in c.args.arrival) c.index-flows-place.result c.take.new.self
    c.in_ok-take.field-0 (c.requires ∙ c.in-Some.is) c.in_ok-take.ensures.taken c.if-branch.true
    c.in_ok-take.ensures.made some

flows_are : (c : goal.In_ok-push) → c.match-place.flows ≡ c.args.flows.now
flows_are c =
    elim c.match-place.branch [
      | in-Some+in_ok-take+else-branch w ↦ w.flows-is
          ∙ turn_left c.args.core c.args.tick w.in-Some.place c.args.flows.now (arrival_in c.args.arrival)
          w.index-flows-place.result w.take.new.self w.in_ok-take.field-0 (c.requires ∙ w.in-Some.is)
          w.in_ok-take.ensures.taken w.if-branch.false w.in_ok-take.ensures.made
      | in_default w ↦ w.flows-is
    ]

pub returns-clause-took : goal.returns-clause-took
returns-clause-took c old cores frames some =
    let x : Arrival = arrival_in c.args.arrival in
    let sent : List ℕ = cores ++ c.args.core ∷ [] in
    subst
    (λ (F : List Live). TookSome c.args.tick old sent (frames ++ x ∷ []) (map arrival_in c.push.new.self.items) F)
    (sym (flows_are c))
    (subst (λ (rest : List Arrival). TookSome c.args.tick old sent (frames ++ x ∷ []) rest c.args.flows.now)
    (sym (ap (map arrival_in) c.in_ok-push.ensures.items
    ∙ map-append arrival_in c.args.rest.now.items (c.args.arrival ∷ []))) (some_left c.args.core x some))
