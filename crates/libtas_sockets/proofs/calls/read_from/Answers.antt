use Rattle.std.proofs.Common.{◌≤◌, sym, subst, List, ℕ, length}
use Rattle.libtas_sockets.proofs.Receiving.{reply_room, entry_bytes, entry_len, received_is}
use Rattle.libtas_sockets.proofs.Receiving.{received_only, received_kept}
use Rattle.libtas_sockets.proofs.calls.read_from.Goals as goal

pub received-requires-clause-bytes : goal.received-requires-clause-bytes
received-requires-clause-bytes c =
    entry_len _ _ _ c.args.flow.now c.act_on.new.flow _ c.in-Ok-Some.answer c.last_bytes.result.now
    c.in-Ok-Some.field-0-is c.in-Ok-Some.ensures.made c.last_bytes.ensures

pub received-requires-clause-room : goal.received-requires-clause-room
received-requires-clause-room c =
    let most = length c.args.buf.now in
    let bytes = entry_bytes _ _ most c.args.flow.now c.act_on.new.flow _ c.in-Ok-Some.answer c.last_bytes.result.now
    c.in-Ok-Some.field-0-is c.in-Ok-Some.ensures.made c.last_bytes.ensures in
    subst (λ (l : List ℕ). length l ≤ most) (sym bytes) (reply_room c.args.flow.now c.args.tick most)

pub returns-in-Ok-Some-clause-made : goal.returns-in-Ok-Some-clause-made
returns-in-Ok-Some-clause-made c =
    received_is _ _ c.args.flow.now c.act_on.new.flow _ c.in-Ok-Some.answer c.args.buf.now _
    c.last_bytes.result.now _ c.in-Ok-Some.field-0-is c.in-Ok-Some.ensures.made c.last_bytes.ensures
    c.received.ensures.made c.received.ensures.copied

pub returns-in-Ok-Some-clause-only : goal.returns-in-Ok-Some-clause-only
returns-in-Ok-Some-clause-only c =
    received_only _ _ (length c.args.buf.now) c.args.flow.now c.act_on.new.flow _ c.in-Ok-Some.answer _
    c.in-Ok-Some.field-0-is c.in-Ok-Some.ensures.made c.received.ensures.made

pub returns-in-Ok-Some-clause-kept : goal.returns-in-Ok-Some-clause-kept
returns-in-Ok-Some-clause-kept c =
    received_kept _ _ c.args.flow.now c.act_on.new.flow _ c.in-Ok-Some.answer c.args.buf.now _ c.last_bytes.result.now _
    c.in-Ok-Some.field-0-is c.in-Ok-Some.ensures.made c.last_bytes.ensures c.received.ensures.made
    c.received.ensures.copied
