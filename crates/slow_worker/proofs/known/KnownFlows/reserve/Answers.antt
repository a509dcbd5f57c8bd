use Rattle.std.proofs.Common.{◌≡◌, ◌≤◌, ◌+◌, arith, length}
use Rattle.std.specs.Prelude.{vec_capacity}
use Rattle.std.specs.HashMap.{get, hash_map_len, spare}
use Rattle.flow_index.specs.Changes.{is_same}
use Rattle.slow_worker.proofs.Found.{reserved}
use Rattle.slow_worker.proofs.known.KnownFlows.reserve.Goals as goal

pub invariant_of-self-2 : goal.invariant_of-self-2
invariant_of-self-2 c =
    let own = c.self.inside.flows.ok.0 in
    let len = c.len-len.ensures in
    let room : c.len-len.result + 1 ≡ length c.self.inside.flows.items + 1 = omega (arith, own, len) in
    let listed : c.len-len.result + 1 ≤ vec_capacity c.reserve.new.self =
    let more = c.in_ok-reserve.ensures.ok in let same = c.reserve.ensures.len in omega (arith, len, more, same) in
    let count = c.reserve-2.ensures.entries.1 in
    let placed : c.len-len.result + 1 ≤ hash_map_len c.reserve-2.new.self + spare c.reserve-2.new.self =
    let before = c.len.ensures.len in
    let more = c.in_ok-reserve-2.ensures.ok in omega (arith, before, more, count) in
    reserved c.self.inside.flows.items c.reserve.new.self.items c.self.inside.room (c.len-len.result + 1)
    (vec_capacity c.reserve.new.self) (get is_same c.self.inside.firsts) (get is_same c.reserve-2.new.self)
    (hash_map_len c.self.inside.firsts) (hash_map_len c.reserve-2.new.self) (spare c.self.inside.firsts)
    (spare c.reserve-2.new.self) _ c.self.invariant c.reserve.ensures.items room listed
    c.reserve-2.ensures.entries.2 count placed
