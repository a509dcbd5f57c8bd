use Rattle.std.proofs.Common.{◌+◌, ◌==◌, ◌||◌, ℕ, cond, nat_eq, nat_le, false, get_or, ap, subst, sym, ◌∙◌}
use Rattle.std.specs.HashMap.{get}
use Rattle.tas_model.specs.declared.entry.FlowId.{FlowId}
use Rattle.tas_model.specs.declared.entry.FourTuple.{FourTuple}
use Rattle.host_rounds.specs.Hosts.{first_port}
use Rattle.capture_items.specs.Starts.{equal_tuple}
use Rattle.local_host.specs.Index.{IsKnown, number_of}
use Rattle.local_host.proofs.Places.{ok_both}
use Rattle.local_host.proofs.Standing.{known_push}
use Rattle.local_host.proofs.flows.Table.add.Goals as goal

pub returns-clause-sound : goal.returns-clause-sound
returns-clause-sound c =
    ok_both c.keep.result
    (λ places flows.
    subst (IsKnown (get equal_tuple c.note.new.openings) (get nat_eq c.note.new.generations) c.keep.new.standing.items
    (c.args.self.now.given + c.count_given.result) c.note.new.taken) (sym flows)
    (known_push (get equal_tuple c.args.self.now.openings) (get equal_tuple c.note.new.openings)
    (get nat_eq c.args.self.now.generations) (get nat_eq c.note.new.generations) c.args.self.now.standing.items
    c.keep.new.standing.items c.args.self.now.given (c.args.self.now.given + c.count_given.result)
    c.args.self.now.taken c.note.new.taken c.args.tuple c.args.now c.args.self.now.flows.items c.args.flow
    c.requires.latest c.requires.count c.in_ok-note.ensures.openings
    (λ slot. c.in_ok-note.ensures.generations slot ∙ ap (λ (id : FlowId). number_of
    (get nat_eq c.args.self.now.generations slot) + cond (id.slot == slot) 1 0) c.id-slot.ensures)
    places
    (ap (λ (n : ℕ). c.args.self.now.given + n)
    (c.count_given.ensures ∙ ap (λ (t : FourTuple). cond (nat_le first_port t.lport) 1 0) (sym c.requires.own)))
    (λ slot. c.in_ok-note.ensures.taken slot ∙ ap (λ (id : FlowId). get_or c.args.self.now.taken slot false
    || id.slot == slot) c.id-slot.ensures)
    c.requires.own c.requires.fresh c.requires.standing c.requires.sound))
    c.keep.ensures.standing c.keep.ensures.flows
