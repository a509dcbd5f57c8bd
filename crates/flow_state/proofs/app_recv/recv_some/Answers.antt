use Rattle.std.proofs.Common.{◌≡◌, ℕ, List, ◌-◌, ◌≤◌, sym, Option, length, take, drop, min, ap, arith, length-drop, ◌∙◌}
use Rattle.tas_model.specs.declared.entry.Head.{Head}
use Rattle.tas_model.specs.declared.entry.Reply.TheVariants as replies
use Rattle.tas_model.specs.Endpoint.{free}
use Rattle.tas_model.specs.ApplicationCalls.{after_recv, update_of}
use Rattle.tas_model.proofs.ValidCalls.{read_keeps}
use Rattle.flow_state.specs.App.{update_from}
use Rattle.flow_state.specs.Stands.{Stands}
use Rattle.flow_state.proofs.Receiving.{stands_recv}
use Rattle.flow_state.proofs.app_recv.recv_some.Goals as goal

pub returns-clause-made : goal.returns-clause-made
returns-clause-made c e v s =
    let n : ℕ = min c.args.most (length e.rx.got - e.rx.read) in
    let unread : length c.args.parts.now.rx.bytes ≡ length e.rx.got - e.rx.read =
    omega (arith, ap (length {A = ℕ}) s.rx.bytes, length-drop e.rx.read e.rx.got) in
    let count : c.min-count.result ≡ n = grind (arith, c.len.ensures.len, unread) in
    let after : Stands (record (c.args.parts.now) { rx = c.drop_front.new.self }) (after_recv e n) =
    stands_recv c.args.parts.now e n c.drop_front.new.self s (rw (← count) c.drop_front.ensures) in
    let left : Stands c.rewind_empty.new.parts (after_recv e n) = c.rewind_empty.ensures.same (after_recv e n) after in
    let bytes : take c.min-count.result c.copy_front.new.out ≡ take n (drop e.rx.read e.rx.got) =
    c.copy_front.ensures ∙ (ap (λ (k : ℕ). take k c.args.parts.now.rx.bytes) count ∙ ap (take n) s.rx.bytes) in
    let room : c.room-before.result ≡ free e = grind (arith, unread, s.rx.size) in
    let fits : n ≤ length e.rx.got - e.rx.read = omega arith in
    let tells : c.update.result ≡ update_of e (after_recv e n) =
    c.update.ensures (after_recv e n) (read_keeps e n fits v) left
    ∙ ap (λ (k : ℕ). update_from k (after_recv e n)) room in
    record {
      reply = sym (ap (λ (bs : List ℕ). replies.Got bs c.update.result) bytes
          ∙ ap (λ (u : Option Head). replies.Got (take n (drop e.rx.read e.rx.got)) u) tells);
      state = left;
    }
