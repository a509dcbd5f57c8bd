use Rattle.std.proofs.Common.{◌≡◌, sym, true, false, length, eqb, ap, arith, length-drop, ℕ}
use Rattle.std.proofs.lemmas.Bool.Decides.{nat_tests}
use Rattle.tas_model.specs.Endpoint.{unread}
use Rattle.flow_state.proofs.app_recv.recv_open.Goals as goal

pub returns-then-len-eq0-clause-made : goal.returns-then-len-eq0-clause-made
returns-then-len-eq0-clause-made c e v s =
    let len : c.len.result ≡ unread e.rx =
    omega (arith, c.len.ensures.len, ap (length {A = ℕ}) s.rx.bytes, length-drop e.rx.read e.rx.got) in
    let none : eqb (unread e.rx) 0 ≡ true = grind (arith, nat_tests) in
    rw none (record { reply = sym (c.empty_answer.ensures.made c.args.out.now e v s); state = s })

pub returns-clause-made : goal.returns-clause-made
returns-clause-made c e v s =
    let len : c.len.result ≡ unread e.rx =
    omega (arith, c.len.ensures.len, ap (length {A = ℕ}) s.rx.bytes, length-drop e.rx.read e.rx.got) in
    let some : eqb (unread e.rx) 0 ≡ false = grind (arith, nat_tests) in
    rw some (c.recv_some.ensures.made e v s)
