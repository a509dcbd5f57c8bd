use Rattle.std.proofs.Common.{◌≡◌, ℕ, ◌+◌, Bool, refl, cond, eqb, ◌∙◌, ap, subst}
use Rattle.tas_model.specs.declared.entry.Phase.{Phase}
use Rattle.tas_model.specs.Endpoint.{Sending, Rate, is_fin_acked}
use Rattle.tas_model.specs.Receive.{after_advance, with_window, moves_window, is_duplicate, rate_after, sending_after}
use Rattle.tas_model.proofs.ValidSteps.{good_tells}
use Rattle.flow_state.specs.Stands.{Stands}
use Rattle.fast_rx.proofs.Acknowledging.{in_order, counted_twice, fin_after, end_is, settled}
use Rattle.fast_rx.proofs.acking.take_ack.Goals as goal

pub returns-clause-stands : goal.returns-clause-stands
returns-clause-stands c e v s ended good =
    let a : ℕ = c.args.a in
    let una : c.una_place-una.result ≡ e.tx.una = c.una_place-una.ensures.una e v s in
    let max_is : c.max_place-max.result ≡ e.tx.max = c.max_place-max.ensures.max e v s in
    let duplicate : c.is_duplicate-duplicate.result ≡ is_duplicate e.tx a c.args.len c.args.window =
    c.is_duplicate-duplicate.ensures ∙ rw (una, max_is, s.window) refl in
    let moves : c.moves_window-moves.result ≡ moves_window e.tx a c.args.q =
    c.moves_window-moves.ensures ∙ rw (una, s.wl1, s.wl2) refl in
    let rate : Rate = rate_after e.rate e.tx a c.args.len c.args.window in
    let one : Stands c.count.new.parts (record e { rate = rate }) =
    c.count.ensures.stands e c.args.len c.args.window s una duplicate in
    let two : Stands c.advance.new.parts (record e { rate = rate; tx = after_advance e.tx a }) =
    c.advance.ensures.stands (record e { rate = rate }) v.tx one una (c.nxt_place-nxt.ensures e v s) ended
    (good_tells e.tx a good) in
    let three : Stands c.count_duplicate.new.parts
    (record e { rate = rate; tx = counted_twice c.is_duplicate-duplicate.result (after_advance e.tx a) }) =
    c.count_duplicate.ensures.stands (record e { rate = rate; tx = after_advance e.tx a }) two in
    let T : Bool → Sending → Sending = λ m tx. cond m (with_window tx a c.args.q c.args.window) tx in
    let four : Stands c.take_window.new.parts (record e {
      rate = rate;
      tx = T c.moves_window-moves.result (counted_twice c.is_duplicate-duplicate.result (after_advance e.tx a));
    }) =
    c.take_window.ensures.stands (record e {
      rate = rate;
      tx = counted_twice c.is_duplicate-duplicate.result (after_advance e.tx a);
    }) three in
    let tx : T c.moves_window-moves.result (counted_twice c.is_duplicate-duplicate.result (after_advance e.tx a))
    ≡ sending_after e.tx a c.args.q c.args.len c.args.window =
    ap (λ (m : Bool). T m (counted_twice c.is_duplicate-duplicate.result (after_advance e.tx a))) moves
    ∙ ap (T (moves_window e.tx a c.args.q))
    (in_order e.tx a c.args.len c.args.window c.is_duplicate-duplicate.result duplicate) in
    let five : Stands c.take_window.new.parts (record e {
      rate = rate;
      tx = sending_after e.tx a c.args.q c.args.len c.args.window;
    }) =
    subst (λ (x : Sending). Stands c.take_window.new.parts (record e { rate = rate; tx = x })) tx four in
    let fin : eqb c.max.result (c.end.result + 2) ≡ is_fin_acked
    (sending_after e.tx a c.args.q c.args.len c.args.window) =
    rw (c.max.ensures, una, c.end.ensures.end, end_is c.args.parts.now e s)
    (fin_after e.tx a c.args.q c.args.len c.args.window) in
    let six : Stands c.settle.new.parts
    (settled e rate c.args.parts.now.phase c.args.tick (sending_after e.tx a c.args.q c.args.len c.args.window)) =
    c.settle.ensures.stands (record e { rate = rate; tx = sending_after e.tx a c.args.q c.args.len c.args.window }) five
    fin in
    subst (λ (p : Phase). Stands c.settle.new.parts
    (settled e rate p c.args.tick (sending_after e.tx a c.args.q c.args.len c.args.window))) s.phase six
