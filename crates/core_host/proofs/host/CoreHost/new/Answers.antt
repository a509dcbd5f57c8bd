-- Answers of the proof of host/CoreHost/new.
use Rattle.std.proofs.Common.{length, sym, ap, ◌∙◌}
use Rattle.std.specs.Arc.{arc_value}
use Rattle.steering.specs.Tables.{Sight, Place}
use Rattle.core_host.proofs.NewHosts.{assembled, seen_as, sound_as, staff_sound}
use Rattle.core_host.proofs.host.CoreHost.new.Goals as goal

pub hire-requires-clause-assembled : goal.hire-requires-clause-assembled
hire-requires-clause-assembled g c =
    let a = c.in_ok-shared.ensures in
    let new = c.in_ok-shared.field-0 in
    let is = assembled c.args.params c.args.number c.args.cores new.shared new.slow new.cores.items
    c.requires.cores.1 a.slow a.can a.slots a.count a.numbers a.turns a.new a.free a.queues a.senders in
    (c.args.params, c.args.cores, c.requires.cores.1, is)

pub returns-in-Ok-clause-seen : goal.returns-in-Ok-clause-seen
returns-in-Ok-clause-seen g c =
    let a = c.in_ok-shared.ensures in
    let new = c.in_ok-shared.field-0 in
    let is = assembled c.args.params c.args.number c.args.cores new.shared new.slow new.cores.items
    c.requires.cores.1 a.slow a.can a.slots a.count a.numbers a.turns a.new a.free a.queues a.senders in
    let shared = arc_value c.in-Ok.staff.shared in
    let lanes = c.in-Ok.staff.lanes.items in
    let hired = c.in-Ok.ensures.hired c.args.params c.args.cores is in
    seen_as c.args.params c.args.cores c.args.apps.now shared c.hire.new.slow lanes c.requires.ranges hired
    c.requires.apps.0 new.steer (length c.in-Ok.staff.buffer.items) c.new.result c.in-Ok.staff.names.items
    c.new.ensures c.in-Ok.ensures.names

pub returns-in-Ok-clause-sound : goal.returns-in-Ok-clause-sound
returns-in-Ok-clause-sound g c =
    let a = c.in_ok-shared.ensures in
    let new = c.in_ok-shared.field-0 in
    let is = assembled c.args.params c.args.number c.args.cores new.shared new.slow new.cores.items
    c.requires.cores.1 a.slow a.can a.slots a.count a.numbers a.turns a.new a.free a.queues a.senders in
    let shared = arc_value c.in-Ok.staff.shared in
    let lanes = c.in-Ok.staff.lanes.items in
    let hired = c.in-Ok.ensures.hired c.args.params c.args.cores is in
    let room = length c.in-Ok.staff.buffer.items in
    sound_as c.args.params c.args.cores c.args.apps.now shared c.hire.new.slow lanes c.requires.ranges hired
    c.requires.apps.0 new.steer room c.new.result c.in-Ok.staff.names.items c.new.ensures c.in-Ok.ensures.names
    (staff_sound c.args.params c.args.cores c.args.apps.now shared c.hire.new.slow lanes c.requires.ranges hired
    c.requires.apps.0 new.steer room c.requires.cores.0
    (ap (λ (p : Place). p.cores) c.in-Ok.ensures.steering ∙ a.steering)
    (ap (λ (s : Sight). s.place) a.steer ∙ sym c.in-Ok.ensures.steering) c.in-Ok.ensures.room)

pub returns-in-Ok-clause-clear : goal.returns-in-Ok-clause-clear
returns-in-Ok-clause-clear g c =
    let a = c.in_ok-shared.ensures in
    let new = c.in_ok-shared.field-0 in
    let is = assembled c.args.params c.args.number c.args.cores new.shared new.slow new.cores.items
    c.requires.cores.1 a.slow a.can a.slots a.count a.numbers a.turns a.new a.free a.queues a.senders in
    (c.in-Ok.ensures.hired c.args.params c.args.cores is).clear

pub returns-in-Ok-clause-unasked : goal.returns-in-Ok-clause-unasked
returns-in-Ok-clause-unasked g c =
    let a = c.in_ok-shared.ensures in
    let new = c.in_ok-shared.field-0 in
    let is = assembled c.args.params c.args.number c.args.cores new.shared new.slow new.cores.items
    c.requires.cores.1 a.slow a.can a.slots a.count a.numbers a.turns a.new a.free a.queues a.senders in
    (c.in-Ok.ensures.hired c.args.params c.args.cores is).unasked

pub returns-in-Ok-clause-time : goal.returns-in-Ok-clause-time
returns-in-Ok-clause-time g c =
    let a = c.in_ok-shared.ensures in
    let new = c.in_ok-shared.field-0 in
    let is = assembled c.args.params c.args.number c.args.cores new.shared new.slow new.cores.items
    c.requires.cores.1 a.slow a.can a.slots a.count a.numbers a.turns a.new a.free a.queues a.senders in
    (c.in-Ok.ensures.hired c.args.params c.args.cores is).slow.time

pub returns-in-Ok-clause-checks : goal.returns-in-Ok-clause-checks
returns-in-Ok-clause-checks g c =
    let a = c.in_ok-shared.ensures in
    let new = c.in_ok-shared.field-0 in
    let is = assembled c.args.params c.args.number c.args.cores new.shared new.slow new.cores.items
    c.requires.cores.1 a.slow a.can a.slots a.count a.numbers a.turns a.new a.free a.queues a.senders in
    (c.in-Ok.ensures.hired c.args.params c.args.cores is).slow.check_sums

pub returns-in-Ok-clause-filed : goal.returns-in-Ok-clause-filed
returns-in-Ok-clause-filed g c =
    let a = c.in_ok-shared.ensures in
    let new = c.in_ok-shared.field-0 in
    let is = assembled c.args.params c.args.number c.args.cores new.shared new.slow new.cores.items
    c.requires.cores.1 a.slow a.can a.slots a.count a.numbers a.turns a.new a.free a.queues a.senders in
    (c.in-Ok.ensures.hired c.args.params c.args.cores is).slow.filed
