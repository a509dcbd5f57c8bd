use Rattle.std.proofs.Common.{◌≡◌, ap, sym, ◌∙◌, subst, ◌∷◌, length}
use Rattle.slow_worker.specs.contracts.worker.SlowWorker.{the_view}
use Rattle.slow_worker.specs.Workers.{Worker, Sight, sight_of, setting_of}
use Rattle.slow_worker.specs.Serving.{IsUnserved}
use Rattle.slow_worker.specs.Queues.{standing_of}
use Rattle.slow_worker.proofs.Serving.{joined, none_of, first_left}
use Rattle.slow_worker.proofs.worker.SlowWorker.serve_deferred.Goals as goal

pub returns-in-Err-clause-left : goal.returns-in-Err-clause-left
returns-in-Err-clause-left g c =
    let f = c.in-Some.first in
    let u : Worker = the_view c.self.inside in
    let m : Worker = the_view c.self-in-Err.inside in
    let n : Worker = record m { deferred = c.put_back.new.self } in
    let rest = c.self-in-Err.view_is ∙ c.in-Err.ensures.rest in
    let long = ap (λ (w : Worker). length w.exceptions.list) c.self.view_is in
    let none = none_of u.exceptions.list (long ∙ c.requires.none) in
    let first = joined _ _ _ _ none c.in-Some.ensures.first in
    let exceptions : n.exceptions.list ≡ u.exceptions.list = ap (λ (w : Worker). w.exceptions.list) rest in
    let deferred : n.deferred.list ≡ u.deferred.list =
    c.put_back.ensures.list
    ∙ (ap (λ (w : Worker). f ∷ w.deferred.list) rest ∙ sym c.in-Some.ensures.first) in
    first_left (g.N.NumberSource.number c.args.numbers.now) c.args.shared.now c.args.tick u c.args.self.now n f _
    c.self.view_is first
    (subst (λ (s : Sight). IsUnserved (setting_of
    (g.N.NumberSource.number c.args.numbers.now) c.args.shared.now c.args.tick u) f.frame.packet (sight_of u) s)
    (ap sight_of (sym c.self-in-Err.view_is)) c.in-Err.ensures.unserved)
    (joined _ _ _ _ exceptions deferred)
    (ap standing_of rest)
