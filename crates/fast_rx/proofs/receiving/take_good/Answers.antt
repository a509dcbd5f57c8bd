use Rattle.std.proofs.Common.{◌≡◌, ℕ, Bool, true, false, cond, sym, ◌∙◌, ap, subst, rules}
use Rattle.tas_model.specs.declared.entry.Reply.TheVariants as replies
use Rattle.tas_model.specs.declared.entry.Seg.{Seg}
use Rattle.tas_model.specs.Endpoint.{Endpoint, wnd}
use Rattle.tas_model.specs.Segments.{offered_window, seg_len, acks}
use Rattle.tas_model.specs.Receive.{after_ack, after_data, place_of_ack, is_heard}
use Rattle.flow_state.specs.Stands.{Stands}
use Rattle.flow_state.specs.Calls.{seg_of}
use Rattle.fast_rx.proofs.receiving.take_good.Goals as goal

pub returns-then-not-is_heard-clause-made : goal.returns-then-not-is_heard-clause-made
returns-then-not-is_heard-clause-made c out e v s a good =
    let seg : Seg = seg_of c.args.seg.now in
    let acked : ℕ → ℕ → Endpoint = λ a len. after_ack e c.args.tick a c.args.q len (offered_window e.scaling seg) in
    let is : after_ack e c.args.tick c.args.a c.args.q c.len_of.result c.offered_window-offered.result
    ≡ acked (place_of_ack e seg) (seg_len seg) =
    ap (λ (n : ℕ). after_ack e c.args.tick n c.args.q c.len_of.result c.offered_window-offered.result) a
    ∙ (ap (λ (n : ℕ). after_ack e c.args.tick (place_of_ack e seg) c.args.q n c.offered_window-offered.result)
    c.len_of.ensures.len
    ∙ ap (λ (w : ℕ). after_ack e c.args.tick (place_of_ack e seg) c.args.q (seg_len seg) w)
    (c.offered_window-offered.ensures e v s)) in
    let ended : c.is_ended-ended.result ≡ e.rx.ended = c.is_ended-ended.ensures e v s in
    let one : Stands c.take_ack.new.parts (acked (place_of_ack e seg) (seg_len seg)) =
    subst (Stands c.take_ack.new.parts) is (c.take_ack.ensures.stands e v s ended good) in
    let after : Endpoint = after_data (acked (place_of_ack e seg) (seg_len seg)) c.args.tick (wnd e) c.args.q seg in
    let two : Stands c.take_rest.new.parts after =
    subst (λ (n : ℕ). Stands c.take_rest.new.parts
    (after_data (acked (place_of_ack e seg) (seg_len seg)) c.args.tick n c.args.q seg))
    (c.window-window.ensures.wnd e s)
    (c.take_rest.ensures.stands (acked (place_of_ack e seg) (seg_len seg)) v.rx ended one) in
    let heard : is_heard seg ≡ false = search rules in
    record { reply = ap (λ (t : Bool). cond t (acks after) replies.Nothing) heard; state = two }

pub returns-clause-made : goal.returns-clause-made
returns-clause-made c out e v s a good =
    let seg : Seg = seg_of c.args.seg.now in
    let acked : ℕ → ℕ → Endpoint = λ a len. after_ack e c.args.tick a c.args.q len (offered_window e.scaling seg) in
    let is : after_ack e c.args.tick c.args.a c.args.q c.len_of.result c.offered_window-offered.result
    ≡ acked (place_of_ack e seg) (seg_len seg) =
    ap (λ (n : ℕ). after_ack e c.args.tick n c.args.q c.len_of.result c.offered_window-offered.result) a
    ∙ (ap (λ (n : ℕ). after_ack e c.args.tick (place_of_ack e seg) c.args.q n c.offered_window-offered.result)
    c.len_of.ensures.len
    ∙ ap (λ (w : ℕ). after_ack e c.args.tick (place_of_ack e seg) c.args.q (seg_len seg) w)
    (c.offered_window-offered.ensures e v s)) in
    let ended : c.is_ended-ended.result ≡ e.rx.ended = c.is_ended-ended.ensures e v s in
    let one : Stands c.take_ack.new.parts (acked (place_of_ack e seg) (seg_len seg)) =
    subst (Stands c.take_ack.new.parts) is (c.take_ack.ensures.stands e v s ended good) in
    let after : Endpoint = after_data (acked (place_of_ack e seg) (seg_len seg)) c.args.tick (wnd e) c.args.q seg in
    let two : Stands c.take_rest.new.parts after =
    subst (λ (n : ℕ). Stands c.take_rest.new.parts
    (after_data (acked (place_of_ack e seg) (seg_len seg)) c.args.tick n c.args.q seg))
    (c.window-window.ensures.wnd e s)
    (c.take_rest.ensures.stands (acked (place_of_ack e seg) (seg_len seg)) v.rx ended one) in
    let heard : is_heard seg ≡ true = search rules in
    record {
      reply = ap (λ (t : Bool). cond t (acks after) replies.Nothing) heard
          ∙ sym (c.ack_answer.ensures.reply out after two);
      state = two;
    }
