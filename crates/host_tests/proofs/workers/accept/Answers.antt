use Rattle.std.proofs.Common.{sym, ◌∙◌, subst}
use Rattle.std.specs.Prelude.{Option, Ok, IfSome}
use Rattle.tas_model.specs.declared.entry.FlowId.{FlowId}
use Rattle.libtas_sockets.specs.Accepting.{IsAcceptance}
use Rattle.host_tests.proofs.Steps.{accepts}
use Rattle.host_tests.proofs.workers.accept.Goals as goal

pub returns-clause-app : goal.returns-clause-app
returns-clause-app c =
    let a = c.args.app.now in
    let b = c.accept.new.self in
    let made = subst (λ (o : Option FlowId). IfSome o (λ id. IsAcceptance id 1 a b (Ok c.in-Ok.socket)))
    (sym c.ready.ensures ∙ c.in-Some.is) c.in-Ok.ensures.made in
    (accepts c.args.shared.now c.args.number c.in-Some.id 1 a b c.in-Ok.socket made c.requires.1).0
