use Rattle.std.proofs.Common.{Bool, List, subst, sym}
use Rattle.local_host.specs.Index.{AreMarked}
use Rattle.local_host.proofs.Places.{lowest_is, none_is}
use Rattle.local_host.proofs.slot_marks.SlotMarks.first_free.Goals as goal

pub returns-then-self-slots : goal.returns-then-self-slots
returns-then-self-slots c = λ flows marked.
    lowest_is c.self.inside.marks.items flows c.args.slots c.self.inside.lowest c.self.invariant
    (subst (λ (ms : List Bool). AreMarked ms flows) (sym c.self.view_is) marked) c.if-self-slots.true

pub returns-else-self-slots : goal.returns-else-self-slots
returns-else-self-slots c = λ flows marked.
    none_is c.self.inside.marks.items flows c.args.slots c.self.inside.lowest c.self.invariant
    (subst (λ (ms : List Bool). AreMarked ms flows) (sym c.self.view_is) marked) c.if-self-slots.false
