use Rattle.std.proofs.Common.{◌<◌, ◌-◌, sym, subst, arith}
use Rattle.std.specs.Prelude.{vec_len}
use Rattle.std.specs.HashMap.{get, hash_map_len, spare}
use Rattle.app_reaper.specs.Lists.{Roomy}
use Rattle.flow_index.specs.Changes.{is_same}
use Rattle.slow_worker.specs.declared.known.KnownFlow.{KnownFlow}
use Rattle.slow_worker.proofs.Found.{put_flows}
use Rattle.slow_worker.proofs.known.KnownFlows.put.Goals as goal

pub invariant_of-self : goal.invariant_of-self
invariant_of-self c =
    let spare_is : 0 < c.self.inside.room - vec_len c.self.inside.flows =
    subst (λ (r : Roomy KnownFlow). 0 < r.spare) (sym c.self.view_is) c.requires.room in
    let len = c.self.inside.flows.ok.0 in
    put_flows c.self.inside.flows.items _ c.self.inside.room _ _ (get is_same c.self.inside.firsts)
    (get is_same c.note.new.firsts) (hash_map_len c.self.inside.firsts) (hash_map_len c.note.new.firsts)
    (spare c.self.inside.firsts) (spare c.note.new.firsts) (record { tuple = c.args.tuple; id = c.args.id })
    c.self.invariant (omega (arith, spare_is, len)) c.push_reserved.ensures.items c.push_reserved.ensures.capacity
    c.note.ensures.flows c.note.ensures.few c.note.ensures.room
