use Rattle.std.proofs.Common.{ℕ, ◌<◌, ◌-◌, sym, subst, ◌∙◌, arith}
use Rattle.std.specs.Prelude.{nat_eq, vec_len}
use Rattle.std.specs.HashMap.{get, hash_map_len, spare}
use Rattle.app_reaper.specs.Lists.{Roomy}
use Rattle.app_reaper.proofs.Places.{put_numbers}
use Rattle.app_reaper.proofs.number_list.NumberList.put.Goals as goal

pub invariant_of-self-2 : goal.invariant_of-self-2
invariant_of-self-2 c =
    let spare_is : 0 < c.self.inside.room - vec_len c.self.inside.numbers =
    subst (λ (r : Roomy ℕ). 0 < r.spare) (sym c.self.view_is) c.requires.room in
    let len = c.self.inside.numbers.ok.0 in
    put_numbers c.self.inside.numbers.items _ c.self.inside.is_indexed c.self.inside.room _ _
    (get nat_eq c.self.inside.places) (get nat_eq c.note.new.places) (hash_map_len c.self.inside.places)
    (hash_map_len c.note.new.places) (spare c.self.inside.places) (spare c.note.new.places) c.args.number c.len.result
    c.self.invariant c.if-not-self.false (omega (arith, spare_is, len))
    (c.len.ensures ∙ len) c.push_reserved-2.ensures.items c.push_reserved-2.ensures.capacity c.note.ensures.places
    c.note.ensures.few c.note.ensures.room
