use Rattle.std.proofs.Common.{◌≡◌, ℕ, ◌+◌, List, length, take, drop, subst}
use Rattle.tas_model.specs.declared.entry.Reply.{Reply}
use Rattle.flow_state.specs.Calls.{call_of, reply_of, payload_of, answer_len}
use Rattle.flow_state.specs.Arena.{memory_of}
use Rattle.flow_state.specs.Slots.{entry_of}
use Rattle.flow_state.proofs.Memory.{kept_below}
use Rattle.flow_state.proofs.Sending.{same_reply}
use Rattle.flow_state.proofs.arena.keep_entry.Goals as goal

pub returns-clause-kept : goal.returns-clause-kept
returns-clause-kept c =
    kept_below _ _ c.args.used _ c.keep-kept.ensures.before c.close_entry-slot.ensures.kept

pub returns-clause-entry : goal.returns-clause-entry
returns-clause-entry c came has =
    let kept = c.keep-kept.result in
    let n : ℕ = answer_len c.args.answer.now in
    let mem : List ℕ = c.args.bytes.now.items in
    let same : take n (drop kept.start mem) ≡ take n (drop c.args.used mem) =
    rw (c.bytes.ensures, c.deref.ensures.value) at c.keep-kept.ensures.same in
    let reply : reply_of c.args.answer.now (drop kept.start mem) ≡ reply_of c.args.answer.now (drop c.args.used mem) =
    same_reply c.args.answer.now _ _ same in
    subst
    (λ (r : Reply). entry_of
    (memory_of (take (kept.end + length (payload_of c.args.call.now)) c.close_entry-slot.new.bytes.items) came)
    c.args.stamp.tick c.close_entry-slot.result
    ≡ record {
      caller = c.args.stamp.caller;
      number = c.args.stamp.number;
      tick = c.args.stamp.tick;
      call = call_of c.args.call.now;
      reply = r;
    }) reply (c.close_entry-slot.ensures.entry came has)
