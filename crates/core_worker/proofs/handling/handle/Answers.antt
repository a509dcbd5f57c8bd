use Rattle.std.proofs.Common.{sym, ◌∙◌, refl}
use Rattle.std.specs.Prelude.{Some, None}
use Rattle.core_worker.specs.Frames.{tuple_of}
use Rattle.core_worker.specs.Workers.{sight}
use Rattle.core_worker.specs.Handling.{setting_on}
use Rattle.core_worker.proofs.Packets.{refused_so, refused_not, named_so, read_all, read_so, read_not, both_err}
use Rattle.core_worker.proofs.handling.handle.Goals as goal

pub returns-in-Err-clause-handled : goal.returns-in-Err-clause-handled
returns-in-Err-clause-handled g c =
    refused_so (setting_on c.args.shared.now c.args.duty) c.args.frame c.args.packet.now c.in-Err.refused
    c.args.pass.now c.args.reader.now c.args.log.now c.refuse.new.log c.args.senders.now c.refuse.result
    c.in-Err.ensures.refused c.refuse.ensures.answer c.refuse.ensures.line

pub returns-in-Err-clause-full : goal.returns-in-Err-clause-full
returns-in-Err-clause-full g c =
    refused_not (setting_on c.args.shared.now c.args.duty) c.args.packet.now c.in-Err.refused c.args.pass.now
    c.args.reader.now c.args.log.now c.refuse.new.log c.args.senders.now c.refuse.result
    c.in-Err.ensures.refused c.refuse.ensures.full

pub returns-clause-handled : goal.returns-clause-handled
returns-clause-handled g c =
    let slots = c.args.shared.now.table.slots in
    let reader = c.named_flow.new.reader in
    read_all (setting_on c.args.shared.now c.args.duty) c.args.frame c.args.packet.now c.in-Ok.seg (Some c.in-Some.flow)
    (sight c.args.pass.now c.args.reader.now c.args.log.now c.args.senders.now)
    (sight c.receive.new.pass reader c.args.log.now c.receive.new.senders) c.receive.result
    (record {
      accepted = c.in-Ok.ensures.accepted;
      text = c.in-Ok.ensures.text;
      later = c.named_flow.ensures.later;
      named =
          named_so slots reader c.tuple_of.result (tuple_of c.in-Ok.seg) (Some c.in-Some.flow) c.named_flow.result
          c.in-Some.is c.named_flow.ensures.named c.tuple_of.ensures;
      table = c.receive.ensures.pass.0.0 ∙ sym c.requires.free.0.0;
      log = refl;
    })
    c.receive.ensures.received

pub returns-clause-full : goal.returns-clause-full
returns-clause-full g c =
    let slots = c.args.shared.now.table.slots in
    let reader = c.named_flow.new.reader in
    read_not (setting_on c.args.shared.now c.args.duty) c.args.packet.now c.in-Ok.seg (Some c.in-Some.flow)
    (sight c.args.pass.now c.args.reader.now c.args.log.now c.args.senders.now)
    (sight c.receive.new.pass reader c.args.log.now c.receive.new.senders) c.receive.result
    (record {
      accepted = c.in-Ok.ensures.accepted;
      text = c.in-Ok.ensures.text;
      later = c.named_flow.ensures.later;
      named =
          named_so slots reader c.tuple_of.result (tuple_of c.in-Ok.seg) (Some c.in-Some.flow) c.named_flow.result
          c.in-Some.is c.named_flow.ensures.named c.tuple_of.ensures;
      table = c.receive.ensures.pass.0.0 ∙ sym c.requires.free.0.0;
      log = refl;
    })
    (both_err _ _ c.receive.result c.receive.ensures.full c.receive.ensures.untold)

pub returns-in_default-clause-handled : goal.returns-in_default-clause-handled
returns-in_default-clause-handled g c =
    let slots = c.args.shared.now.table.slots in
    let reader = c.named_flow.new.reader in
    read_so (setting_on c.args.shared.now c.args.duty) c.args.frame c.args.packet.now c.in-Ok.seg None
    (sight c.args.pass.now c.args.reader.now c.args.log.now c.args.senders.now)
    (sight c.args.pass.now reader c.args.log.now c.args.senders.now) _
    (record {
      accepted = c.in-Ok.ensures.accepted;
      text = c.in-Ok.ensures.text;
      later = c.named_flow.ensures.later;
      named =
          named_so slots reader c.tuple_of.result (tuple_of c.in-Ok.seg) None c.named_flow.result c.in_default.is
          c.named_flow.ensures.named c.tuple_of.ensures;
      table = refl;
      log = refl;
    })
    (refl, refl, refl)
