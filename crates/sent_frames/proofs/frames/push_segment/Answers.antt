use Rattle.std.proofs.Common.{ℕ, List, ◌++◌, ◌∷◌, [], sym, subst, ap, ◌∙◌, arith}
use Rattle.std.proofs.lemmas.Result.{on_ok_weaker}
use Rattle.link_script.specs.declared.frames.Sent.{Sent}
use Rattle.sent_frames.specs.declared.frames.Origin.{Origin}
use Rattle.sent_frames.specs.Sending.{AreUpTo}
use Rattle.sent_frames.proofs.Ticks.{behind_all, up_to_more}
use Rattle.sent_frames.proofs.frames.push_segment.Goals as goal

abbrev pushed : Origin → (number tick : ℕ) → (packet : List ℕ) → Sent
pushed o n t packet = record {
  id = record { host = o.host; flow = o.flow; number = n; copy = 0 };
  tick = t;
  to = o.to;
  packet = packet;
}

pub returns-clause-frame : goal.returns-clause-frame
returns-clause-frame c =
    let frame : Sent = pushed c.args.origin.now c.args.number c.args.tick c.in_ok-packet.packet in
    on_ok_weaker c.push.result
    (λ e. e ∙ (behind_all c.args.sent.now frame c.requires.last
    ∙ ap (λ p. c.args.sent.now ++ (record frame { packet = p }) ∷ []) c.in_ok-packet.ensures))
    c.push.ensures.ok

pub returns-clause-last : goal.returns-clause-last
returns-clause-last c =
    let frame : Sent = pushed c.args.origin.now c.args.number c.args.tick c.in_ok-packet.packet in
    on_ok_weaker c.push.result
    (λ e. subst (λ fs. AreUpTo c.args.tick fs) (sym (e ∙ behind_all c.args.sent.now frame c.requires.last))
    (up_to_more c.args.tick c.args.sent.now frame (omega arith) c.requires.last))
    c.push.ensures.ok
