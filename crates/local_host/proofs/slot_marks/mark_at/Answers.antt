use Rattle.std.proofs.Common.{◌<◌, ◌≤◌, ◌||◌, Bool, false, get_or, length, rules, ap, sym, ◌∙◌}
use Rattle.host_rounds.specs.Hosts.{is_in_slot}
use Rattle.local_host.proofs.Slots.{or_none}
use Rattle.local_host.proofs.Standing.{passes_get, passes_past}
use Rattle.local_host.proofs.slot_marks.mark_at.Goals as goal

pub returns-in-Some-clause-taken : goal.returns-in-Some-clause-taken
returns-in-Some-clause-taken c = λ slot low.
    let below : c.args.place < length c.args.flows.now = search rules in
    c.mark.ensures.taken slot low
    ∙ ap (λ (b : Bool). get_or c.args.taken.now slot false || b)
    (ap (is_in_slot slot) c.in-Some.ensures.lookup.1
    ∙ sym (passes_get (is_in_slot slot) c.args.flows.now c.args.place c.in-Some.flow.now below))

pub returns-in-None-clause-taken : goal.returns-in-None-clause-taken
returns-in-None-clause-taken c = λ slot low.
    let past : length c.args.flows.now ≤ c.args.place = search rules in
    sym (or_none (get_or c.args.taken.now slot false))
    ∙ ap (λ (b : Bool). get_or c.args.taken.now slot false || b)
    (sym (passes_past (is_in_slot slot) c.args.flows.now c.args.place past))
