use Rattle.std.proofs.Common.{◌≡◌, List, Some, None, position, sym, subst, ◌∙◌}
use Rattle.host_rounds.specs.Hosts.{is_indexed_as}
use Rattle.host_rounds.specs.Scripts.{Site}
use Rattle.tas_runs.specs.LocalScript.{Shown}
use Rattle.local_host.proofs.Places.{ok_by}
use Rattle.local_host.proofs.Serving.{found_at, later_served_at, later_served_nowhere}
use Rattle.local_host.proofs.replay.LocalReplay.ask.Goals as goal

pub returns-in-Some : goal.returns-in-Some
returns-in-Some c = λ content remote resets.
    let found : position (is_indexed_as c.args.tuple.now) c.args.self.now.host.flows ≡ Some c.in-Some.i =
    subst (λ (s : Site (List Shown)). position (is_indexed_as c.args.tuple.now) s.host.flows ≡ Some c.in-Some.i)
    c.self.view_is
    (sym c.find.ensures.place ∙ c.in-Some.is) in
    let there = found_at (is_indexed_as c.args.tuple.now) c.args.self.now.host.flows c.in-Some.i found in
    ok_by c.ask_at.result
    (λ made.
    made
    ∙ sym
    (later_served_at c.args.tick content c.args.tuple.now c.in-Some.i there.0 c.args.self.now
    (record { found = found; here = there.1 })))
    (c.ask_at.ensures content there.0 remote resets there.1)

pub returns-in-None : goal.returns-in-None
returns-in-None c = λ content remote resets.
    later_served_nowhere c.args.tick content c.args.tuple.now c.args.self.now
    (subst (λ (s : Site (List Shown)). position (is_indexed_as c.args.tuple.now) s.host.flows ≡ None) c.self.view_is
    (sym c.find.ensures.place ∙ c.in-None.is))
