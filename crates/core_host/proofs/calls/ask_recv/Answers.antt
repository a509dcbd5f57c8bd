-- Answers of the proof of calls/ask_recv.
use Rattle.std.proofs.Common.{◌≡◌, ◌≤◌, length, take, arith, subst}
use Rattle.std.proofs.lemmas.List.{length-take}
use Rattle.flow_state.specs.declared.call.CallIn.TheVariants as ins
use Rattle.core_host.specs.Alone.{HasAsked}
use Rattle.core_host.proofs.Alone.{all_ok, given_as, recv_refused, recv_told}
use Rattle.core_host.proofs.calls.ask_recv.Goals as goal

pub returns-in-Ok-Bytes-clause-asked : goal.returns-in-Ok-Bytes-clause-asked
returns-in-Ok-Bytes-clause-asked c =
    let buf = c.deref_mut.result.now in
    let long : length (take c.args.most buf) ≡ c.args.most =
    (let t = length-take c.args.most buf in let l = c.deref_mut.ensures.len in let r = c.requires.room in
    let m = c.requires.most.1 in omega (arith, t, l, r, m)) in
    subst (λ y. HasAsked c.args.socket c.args.tick (ins.Recv c.args.most) (given_as y) c.args.app.now c.recv.new.self)
    c.in-Ok-Bytes.field-0-is
    (recv_told c.args.app.now c.recv.new.self c.args.socket c.args.tick c.args.most (length (take c.args.most buf))
    (take c.args.most buf) c.recv.new.buf c.in-Ok-Bytes.field-0 long c.in-Ok-Bytes.ensures.made)

pub returns-in-Err-clause-asked : goal.returns-in-Err-clause-asked
returns-in-Err-clause-asked c =
    let buf = c.deref_mut.result.now in
    let long : length (take c.args.most buf) ≡ c.args.most =
    (let t = length-take c.args.most buf in let l = c.deref_mut.ensures.len in let r = c.requires.room in
    let m = c.requires.most.1 in omega (arith, t, l, r, m)) in
    all_ok c.refused.result _ _
    (λ answer by. recv_refused c.args.app.now c.recv.new.self c.args.socket c.args.tick c.args.most
    (length (take c.args.most buf)) (take c.args.most buf) c.recv.new.buf c.in-Err.error answer long by
    c.in-Err.ensures.made) c.refused.ensures
