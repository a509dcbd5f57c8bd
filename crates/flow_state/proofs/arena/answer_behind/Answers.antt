use Rattle.std.proofs.Common.{◌≡◌, ℕ, ◌≤◌, ◌+◌, ◌-◌, length, take, drop, vec_len, ap, sym, subst, List, arith}
use Rattle.std.proofs.Common.{length-take, length-drop}
use Rattle.std.proofs.lemmas.Grind.{common_steps}
use Rattle.flow_state.specs.Calls.{answer_len, reply_room, payload_of}
use Rattle.flow_state.specs.Made.{IsMadeAt}
use Rattle.flow_state.specs.Arena.{memory_of}
use Rattle.flow_state.specs.Slots.{IsWithin}
use Rattle.flow_state.proofs.Sending.{bare_reply}
use Rattle.flow_state.proofs.arena.answer_behind.Goals as goal

pub keep_entry-requires-clause-bare : goal.keep_entry-requires-clause-bare
keep_entry-requires-clause-bare g c =
    bare_reply c.args.parts.now c.args.call.now (answer_len c.in_ok-answer.answer) c.in_ok-answer.ensures.bytes

pub returns-clause-need : goal.returns-clause-need
returns-clause-need g c =
    let room : answer_len c.in_ok-answer.answer ≤ reply_room c.args.parts.now c.args.call.now =
    c.in_ok-answer.ensures.bytes in
    omega (arith, room, ap length c.payload.ensures, c.keep_entry.ensures.past)

pub returns-clause-few : goal.returns-clause-few
returns-clause-few g c =
    let room : answer_len c.in_ok-answer.answer ≤ reply_room c.args.parts.now c.args.call.now =
    c.in_ok-answer.ensures.bytes in
    omega (
      arith,
      room,
      ap length c.payload.ensures,
      c.need.ensures,
      c.fill_with_zeros.ensures.end,
      c.keep_entry.ensures.len,
      c.keep_entry.ensures.past,
    )

pub returns-clause-made : goal.returns-clause-made
returns-clause-made g c came has =
    let room : answer_len c.in_ok-answer.answer ≤ reply_room c.args.parts.now c.args.call.now =
    c.in_ok-answer.ensures.bytes in
    let all : List ℕ = c.deref_mut.result.now in
    let end : ℕ = c.keep_entry.result.1.end + length (payload_of c.args.call.now) in
    let whole : length all ≡ vec_len c.fill_with_zeros.new.bytes =
    omega (arith, ap length c.deref_mut.ensures.value, c.fill_with_zeros.new.bytes.ok) in
    let kept : length (take end c.keep_entry.new.bytes.items) ≡ end =
    omega (
      arith,
      room,
      length-take end c.keep_entry.new.bytes.items,
      c.keep_entry.new.bytes.ok,
      c.need.ensures,
      c.fill_with_zeros.ensures.end,
      c.keep_entry.ensures.len,
      c.keep_entry.ensures.past,
    ) in
    let same : end ≡ c.keep_entry.result.1.end + length c.payload.result.now =
    omega (arith, ap length c.payload.ensures) in
    subst (λ (n : ℕ). IsMadeAt c.args.parts.now c.run.new.parts (memory_of (take n c.keep_entry.new.bytes.items) came)
    c.args.stamp.caller c.args.stamp.number c.args.stamp.tick c.args.call.now c.in_ok-answer.answer
    c.keep_entry.result.0) same (
      c.run.new.out,
      record {
        makes = c.in_ok-answer.ensures.made;
        entry = grind (arith, common_steps, c.keep_entry.ensures.entry came has);
        within = subst (λ (n : ℕ). IsWithin n (length came) c.keep_entry.result.0) (sym kept)
            (c.keep_entry.ensures.within came has);
        bytes = omega (
          arith,
          room,
          length-take (length all - c.args.used) (drop c.args.used all),
          length-drop c.args.used all,
          whole,
          c.need.ensures,
          c.fill_with_zeros.ensures.end,
        );
      },
    )
