use Rattle.std.proofs.Common.{ap}
use Rattle.local_host.specs.Script.{Served}
use Rattle.local_host.proofs.Staging.{six_stages}
use Rattle.local_host.proofs.script.Shown.serve.Goals as goal

pub returns-clause-flow : goal.returns-clause-flow
returns-clause-flow c = λ content remote resets.
    ap (λ (p : Served). p.live)
    (six_stages c.args.tick content c.args.flow.now c.accept.new.flow c.send.new.flow c.shut.new.flow c.abort.new.flow
    c.read.new.flow c.leave.new.flow
    c.args.self.now c.send.new.self c.shut.new.self (c.in_ok-accept.ensures content c.args.self.now)
    (c.in_ok-send.ensures.flow content) (c.in_ok-send.ensures.shown content) (c.in_ok-shut.ensures.flow content)
    (c.in_ok-shut.ensures.shown content)
    (c.in_ok-abort.ensures content c.shut.new.self resets) (c.in_ok-read.ensures content c.shut.new.self remote)
    (c.leave.ensures content c.shut.new.self c.args.tick))

pub returns-clause-shown : goal.returns-clause-shown
returns-clause-shown c = λ content remote resets.
    ap (λ (p : Served). p.shown)
    (six_stages c.args.tick content c.args.flow.now c.accept.new.flow c.send.new.flow c.shut.new.flow c.abort.new.flow
    c.read.new.flow c.leave.new.flow
    c.args.self.now c.send.new.self c.shut.new.self (c.in_ok-accept.ensures content c.args.self.now)
    (c.in_ok-send.ensures.flow content) (c.in_ok-send.ensures.shown content) (c.in_ok-shut.ensures.flow content)
    (c.in_ok-shut.ensures.shown content)
    (c.in_ok-abort.ensures content c.shut.new.self resets) (c.in_ok-read.ensures content c.shut.new.self remote)
    (c.leave.ensures content c.shut.new.self c.args.tick))
