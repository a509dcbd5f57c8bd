use Rattle.std.proofs.Common.{sym, ap}
use Rattle.tas_model.specs.declared.entry.Head.{Head}
use Rattle.tas_model.specs.declared.entry.Reply.TheVariants as replies
use Rattle.tas_model.specs.Segments.{bare}
use Rattle.tas_model.specs.Receive.{connected}
use Rattle.flow_state.specs.Stands.{Stands}
use Rattle.flow_state.specs.Calls.{seg_of}
use Rattle.slow_handshake.proofs.syn_sent.connect.Goals as goal

pub returns-clause-made : goal.returns-clause-made
returns-clause-made c out e v s here =
    let after : Stands c.take_syn.new.parts (connected e (seg_of c.args.seg.now)) =
    c.take_syn.ensures.stands e v s here in
    record {
      reply = ap (λ (h : Head). replies.Sent (bare h))
          (sym (c.ack_head.ensures (connected e (seg_of c.args.seg.now)) after));
      state = after;
    }
