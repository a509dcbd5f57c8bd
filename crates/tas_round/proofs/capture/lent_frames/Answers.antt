use Rattle.std.proofs.Common.{arith}
use Rattle.tas_round.proofs.Lending.{lent_more, lent_whole, legal_more}
use Rattle.tas_round.proofs.capture.lent_frames.Goals as goal

pub loop-i-preserved : goal.loop-i-preserved
loop-i-preserved c = record {
  hosts = lent_more c.loop-i.frames.items c.push.new.self.items c.args.hosts.now c.loop-i.i c.frames_of.result
      c.item.result.now c.item.ensures c.loop-i.invariant.hosts c.frames_of.ensures.host c.in_ok-push.ensures.items;
  legal = legal_more c.loop-i.frames.items c.push.new.self.items c.frames_of.result c.item.result.now
      c.in_ok-push.ensures.items c.loop-i.invariant.legal c.frames_of.ensures.host c.frames_of.ensures.legal;
}

pub returns-clause-hosts : goal.returns-clause-hosts
returns-clause-hosts c = lent_whole _ c.args.hosts.now c.loop-i.i
    (omega (arith, c.loop-i-test.false, c.len-i-end.ensures)) c.loop-i.invariant.hosts
