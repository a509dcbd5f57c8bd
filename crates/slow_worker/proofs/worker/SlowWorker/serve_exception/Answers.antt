use Rattle.std.proofs.Common.{◌≡◌, ap, sym, ◌∙◌, subst, ◌++◌, ◌∷◌, length, ◌-◌, arith, append_assoc}
use Rattle.slow_worker.specs.contracts.worker.SlowWorker.{the_view}
use Rattle.slow_worker.specs.Workers.{Worker, Sight, sight_of, setting_of}
use Rattle.slow_worker.specs.Serving.{IsUnserved}
use Rattle.slow_worker.specs.Queues.{kept_of, IsOneServed, standing_of}
use Rattle.slow_worker.proofs.Serving.{joined, first_left, first_served}
use Rattle.slow_worker.proofs.worker.SlowWorker.serve_exception.Goals as goal

pub returns-in-Err-clause-left : goal.returns-in-Err-clause-left
returns-in-Err-clause-left g c =
    let f = c.in-Some.first in
    let u : Worker = the_view c.self.inside in
    let m : Worker = the_view c.self-in-Err.inside in
    let n : Worker = record m { exceptions = c.put_back.new.self } in
    let rest = c.self-in-Err.view_is ∙ c.in-Err.ensures.rest in
    let first = ap (λ l. l ++ u.deferred.list) c.in-Some.ensures.first in
    let exceptions : n.exceptions.list ≡ f ∷ c.take_first.new.self.list =
    c.put_back.ensures.list ∙ ap (λ (w : Worker). f ∷ w.exceptions.list) rest in
    let deferred : n.deferred.list ≡ u.deferred.list =
    ap (λ (w : Worker). w.deferred.list) rest ∙ c.reserve.ensures.list in
    first_left (g.N.NumberSource.number c.args.numbers.now) c.args.shared.now c.args.tick u c.args.self.now n f _
    c.self.view_is first
    (subst (λ (s : Sight). IsUnserved (setting_of
    (g.N.NumberSource.number c.args.numbers.now) c.args.shared.now c.args.tick u) f.frame.packet (sight_of u) s)
    (ap sight_of (sym c.self-in-Err.view_is)) c.in-Err.ensures.unserved)
    (joined _ _ _ _ exceptions deferred ∙ sym first)
    (ap standing_of rest)

pub returns-in-Ok-clause-served : goal.returns-in-Ok-clause-served
returns-in-Ok-clause-served g c =
    let f = c.in-Some.first in
    let u : Worker = the_view c.self.inside in
    let n : Worker = c.keep.new.self in
    let m : Worker = c.frame-served.new.self in
    let last : n ≡ record m { deferred = n.deferred } = c.keep.ensures.rest in
    let rest = c.in-Ok.ensures.rest in
    let first = ap (λ l. l ++ u.deferred.list) c.in-Some.ensures.first in
    let exceptions : n.exceptions.list ≡ c.take_first.new.self.list =
    ap (λ (w : Worker). w.exceptions.list) last ∙ ap (λ (w : Worker). w.exceptions.list) rest in
    let deferred : n.deferred.list ≡ u.deferred.list ++ kept_of f c.in-Ok.served =
    c.keep.ensures.deferred
    ∙ ap (λ l. l ++ kept_of f c.in-Ok.served) (ap (λ (w : Worker). w.deferred.list) rest ∙ c.reserve.ensures.list) in
    let fewer : length n.exceptions.list ≡ length u.exceptions.list - 1 =
    let long = ap length c.in-Some.ensures.first in
    let left = ap length exceptions in omega (arith, long, left) in
    first_served (g.N.NumberSource.number c.args.numbers.now) c.args.shared.now c.args.tick u c.args.self.now n f
    (c.take_first.new.self.list ++ u.deferred.list)
    c.in-Ok.served c.self.view_is first
    (subst (λ (s : Sight). IsOneServed (setting_of
    (g.N.NumberSource.number c.args.numbers.now) c.args.shared.now c.args.tick u) f (sight_of u) s c.in-Ok.served)
    (ap sight_of (sym last)) c.in-Ok.ensures.served)
    (joined _ _ _ _ exceptions deferred ∙ sym (append_assoc c.take_first.new.self.list u.deferred.list _)) fewer
    (ap standing_of last ∙ ap standing_of rest)
