use Rattle.std.proofs.Common.{◌≡◌, ℕ, sym, ◌∙◌, ap, subst}
use Rattle.tas_model.specs.Endpoint.{Endpoint, next_place}
use Rattle.tas_model.specs.Segments.{offered_window, seg_len}
use Rattle.tas_model.specs.Receive.{after_ack, place_of_ack}
use Rattle.flow_state.specs.Stands.{Stands}
use Rattle.flow_state.specs.Calls.{seg_of}
use Rattle.fast_rx.proofs.receiving.take_bare.Goals as goal

pub returns-clause-made : goal.returns-clause-made
returns-clause-made c out e v s a good =
    let after : ℕ → ℕ → ℕ → Endpoint = λ a q len. after_ack e c.args.tick a q len
    (offered_window e.scaling (seg_of c.args.seg.now)) in
    let one : Stands c.take_ack.new.parts (after c.args.a c.next_place-next.result c.len_of.result) =
    subst (λ (w : ℕ). Stands c.take_ack.new.parts
    (after_ack e c.args.tick c.args.a c.next_place-next.result c.len_of.result w))
    (c.offered_window-offered.ensures e v s)
    (c.take_ack.ensures.stands e v s (c.is_ended-ended.ensures e v s) good) in
    let is : after c.args.a c.next_place-next.result c.len_of.result
    ≡ after (place_of_ack e (seg_of c.args.seg.now)) (next_place e.rx) (seg_len (seg_of c.args.seg.now)) =
    ap (λ (n : ℕ). after n c.next_place-next.result c.len_of.result) a
    ∙ (ap (λ (n : ℕ). after (place_of_ack e (seg_of c.args.seg.now)) n c.len_of.result)
    (c.next_place-next.ensures.next e v s)
    ∙ ap (after (place_of_ack e (seg_of c.args.seg.now)) (next_place e.rx)) c.len_of.ensures.len) in
    let two : Stands c.take_ack.new.parts
    (after (place_of_ack e (seg_of c.args.seg.now)) (next_place e.rx) (seg_len (seg_of c.args.seg.now))) =
    subst (Stands c.take_ack.new.parts) is one in
    record {
      reply = sym (c.ack_answer.ensures.reply out
          (after (place_of_ack e (seg_of c.args.seg.now)) (next_place e.rx) (seg_len (seg_of c.args.seg.now))) two);
      state = two;
    }
