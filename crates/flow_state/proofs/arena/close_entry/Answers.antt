use Rattle.std.proofs.Common.{◌≡◌, ◌+◌, ◌≤◌, ◌++◌, ℕ, List, length, take, drop, refl, ◌∙◌, arith}
use Rattle.flow_state.specs.Calls.{call_of, reply_of, payload_of, answer_len}
use Rattle.flow_state.specs.Arena.{memory_of}
use Rattle.flow_state.specs.Slots.{bytes_at, call_in, reply_part, reply_in}
use Rattle.flow_state.proofs.Memory.{holds_end, before_cut, put_front}
use Rattle.flow_state.proofs.arena.close_entry.Goals as goal

pub returns-clause-entry : goal.returns-clause-entry
returns-clause-entry c came has =
    let a = c.args.bytes.now.items in
    let n = answer_len c.args.answer.now in
    let p = payload_of c.args.call.now in
    let start : ℕ = c.args.kept.start in
    let at : ℕ = c.args.kept.end in
    let end : ℕ = at + length p in
    let fits : at ≤ length a = omega (arith, c.args.bytes.now.ok, c.requires.room) in
    let memory : take end c.put.new.bytes.items ≡ take at a ++ p =
    cc (c.put.ensures.items, c.payload.ensures, put_front a p (drop (at + length p) a) at end fits refl) in
    let bytes : List ℕ = bytes_at (take at a ++ p) c.call_slot-call.result.1 in
    let call : call_in came bytes c.call_slot-call.result.0 ≡ call_of c.args.call.now =
    c.call_slot-call.ensures.means (memory_of (take at a ++ p) came) (holds_end a p at fits) has in
    let part : reply_part c.call_slot-call.result.0 bytes ≡ take n (drop start (take at a ++ p)) =
    rw (c.bytes.ensures) at c.call_slot-call.ensures.reply (take at a ++ p) in
    let reply : reply_in (reply_part c.call_slot-call.result.0 bytes) c.reply_slot.result
    ≡ reply_of c.args.answer.now (drop start a) =
    c.reply_slot.ensures _ _ (part ∙ before_cut a p start n at c.requires.within fits) in
    rw memory (cc (call, reply))

pub returns-clause-within : goal.returns-clause-within
returns-clause-within c came has =
    let at : ℕ = c.args.kept.end in
    let fits : c.args.kept.start + answer_len c.args.answer.now ≤ at + length (payload_of c.args.call.now) =
    omega (arith, c.requires.within) in
    record {
      bytes = c.call_slot-call.ensures.within _ (omega (arith, fits, c.bytes.ensures)) (omega arith);
      came = c.call_slot-call.ensures.came came has;
    }
