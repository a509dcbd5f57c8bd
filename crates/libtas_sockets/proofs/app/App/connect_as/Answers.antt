use Rattle.std.proofs.Common.{◌≡◌, ◌<◌, ap, sym, ◌∙◌, subst, All}
use Rattle.atomic_table.specs.Seated.{TableId}
use Rattle.libtas_sockets.specs.Apps.{Application}
use Rattle.libtas_sockets.specs.declared.begun.Begun.{Begun}
use Rattle.libtas_sockets.specs.declared.begun.Target.TheVariants.{Of}
use Rattle.libtas_sockets.proofs.Pins.{sound_begun}
use Rattle.libtas_sockets.proofs.Waiting.{begun_near, still_near}
use Rattle.libtas_sockets.proofs.app.App.connect_as.Goals as goal

pub invariant_of-self : goal.invariant_of-self
invariant_of-self g c =
    let i = c.self.inside in
    let d = c.forget_ended.new.begun.items in
    sound_begun i.pass i.begun.items d i.sockets.list
    (still_near i.pass.table.slots (Of c.args.tuple) c.args.sp.now.view.marks i.begun.items d c.forget_ended.ensures
    c.self.invariant.slots)
    c.self.invariant

pub invariant_of-self-in_default : goal.invariant_of-self-in_default
invariant_of-self-in_default g c =
    let i = c.self.inside in
    let d = c.forget_ended.new.begun.items in
    sound_begun i.pass i.begun.items d i.sockets.list
    (still_near i.pass.table.slots (Of c.args.tuple) c.args.sp.now.view.marks i.begun.items d c.forget_ended.ensures
    c.self.invariant.slots)
    c.self.invariant

pub take_up-requires-clause-slot : goal.take_up-requires-clause-slot
take_up-requires-clause-slot g c =
    let i = c.self.inside in
    let d = c.forget_ended.new.begun.items in
    let table : i.pass.table ≡ c.args.t.now =
    ap (λ (x : Application). x.pass.table) c.self.view_is ∙ c.requires.pass.0 in
    let all : All (λ (q : Begun). q.id.slot < c.args.t.now.slots) d =
    subst (λ (x : TableId). All (λ (q : Begun). q.id.slot < x.slots) d) table
    (still_near i.pass.table.slots (Of c.args.tuple) c.args.sp.now.view.marks i.begun.items d c.forget_ended.ensures
    c.self.invariant.slots) in
    begun_near c.args.t.now.slots (Of c.args.tuple) c.deref.result.now c.in-Some.id (sym c.begun_for.ensures
    ∙ c.in-Some.is)
    (subst (All (λ (q : Begun). q.id.slot < c.args.t.now.slots)) (sym c.deref.ensures.value) all)
