use Rattle.std.proofs.Common.{◌≡◌, ℕ, sym, ◌∙◌, refl, subst, length}
use Rattle.std.specs.Prelude.{Result, IfErr}
use Rattle.flow_state.specs.Calls.{reply_bytes}
use Rattle.libtas_sockets.specs.Answers.{answer_by, fault_in, IsRefusalOf}
use Rattle.libtas_sockets.specs.Apps.{Application, flow_of}
use Rattle.libtas_sockets.specs.Calling.{HasCalled}
use Rattle.libtas_sockets.specs.declared.socket_error.SocketError.{SocketError}
use Rattle.libtas_sockets.proofs.Calling.{called, called_only, not_called, not_only}
use Rattle.libtas_sockets.proofs.Pins.{same_socket, viewed}
use Rattle.libtas_sockets.proofs.app.App.call.Goals.{in-Ok-Some, in-Err}
use Rattle.libtas_sockets.proofs.app.App.call.Goals as goal

pub returns-clause-made : goal.returns-clause-made
returns-clause-made c =
    let a : Application = c.args.self.now in
    let i = c.self.inside in
    let o : Application =
    record { number = i.number; pass = i.pass; notes = i.notes; begun = i.begun.items; sockets = i.sockets.list } in
    let b : Application = record o { pass = c.make_call.new.pass } in
    let s = c.args.s in
    let f = c.pin-pin.result.now in
    let same : f ≡ flow_of o s =
    same_socket o a s c.place-at.result f c.self.view_is c.place-at.ensures.pin c.pin-pin.ensures in
    let moved = viewed o o c.make_call.new.pass refl c.make_call.ensures.table in
    subst (λ (x : Application). HasCalled x b s c.args.tick c.args.call.now (fault_in c.match-make_call.result)
    (λ reply. c.match-make_call.result ≡ answer_by reply (length (reply_bytes reply)))) c.self.view_is
    (elim c.match-make_call.branch [
      | in-Ok-Some w ↦ called o b s c.args.tick c.args.call.now f w.in-Ok-Some.field-0 w.in-Ok-Some.answer
          c.match-make_call.result same w.in-Ok-Some.field-0-is w.in-Ok-Some.ensures.made
          (w.result-is ∙ w.told.ensures) moved
      | in-Err w ↦ subst (λ (q : Result ℕ SocketError). HasCalled o b s c.args.tick c.args.call.now (fault_in q)
          (λ reply. q ≡ answer_by reply (length (reply_bytes reply)))) (sym w.result-is)
          (not_called o b s c.args.tick c.args.call.now f w.in-Err.fault w.error_by.result same w.error_by.ensures
          w.in-Err.ensures.refused moved)
    ])

pub returns-clause-only : goal.returns-clause-only
returns-clause-only c =
    elim c.match-make_call.branch [
      | in-Ok-Some w ↦ called_only _ _ _ c.args.call.now _ _ _ w.in-Ok-Some.answer c.match-make_call.result
          c.requires.app
          w.in-Ok-Some.field-0-is w.in-Ok-Some.ensures.made (w.result-is ∙ w.told.ensures)
      | in-Err w ↦ subst (λ (q : Result ℕ SocketError). IfErr q (IsRefusalOf c.args.call.now)) (sym w.result-is)
          (not_only c.args.call.now _ _ w.error_by.ensures)
    ]
