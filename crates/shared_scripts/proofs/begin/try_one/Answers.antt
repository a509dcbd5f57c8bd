-- Answers of the proof of begin/try_one.
use Rattle.std.proofs.Common.{ℕ, OnOk, sym, subst}
use Rattle.core_host.specs.Attempts.{HasSocketAt, IsTrying}
use Rattle.shared_scripts.proofs.Begins.{try_socket, one_tried}
use Rattle.shared_scripts.proofs.Trying.{trial_of, trial_kind}
use Rattle.shared_scripts.proofs.begin.try_one.Goals as goal

pub try_call-requires-clause-socket : goal.try_call-requires-clause-socket
try_call-requires-clause-socket c =
    subst (λ (n : ℕ). HasSocketAt n c.in-Some.attempt.place c.args.host.now) (sym c.number.ensures)
    (try_socket c.args.tick c.args.host.now c.args.script.now c.requires.own c.in-Some.attempt c.in-Some.ensures.call)

pub try_call-requires-clause-kind : goal.try_call-requires-clause-kind
try_call-requires-clause-kind c =
    trial_kind c.args.tick c.args.script.now c.in-Some.attempt
    (trial_of c.args.tick c.args.script.now c.in-Some.attempt c.in-Some.ensures.call) c.requires.step

pub returns : goal.returns
returns c =
    one_tried c.args.tick c.args.host.now c.args.script.now c.requires.own c.in-Some.attempt c.try_call.new.self
    c.try_call.result c.in-Some.ensures.call
    (λ b at.
    subst (λ (n : ℕ). OnOk c.try_call.result (IsTrying n b.id c.in-Some.attempt.call c.args.host.now
    c.try_call.new.self)) c.number.ensures (c.try_call.ensures b at))
