use Rattle.ladder_picture.specs.ArrowTexts.{sent_text}
use Rattle.ladder_picture.specs.Views.{seen_sent}
use Rattle.ladder_picture.proofs.Appended.{one_seen}
use Rattle.ladder_picture.proofs.arrows.put_all_sent.Goals as goal

pub loop-arrow-preserved : goal.loop-arrow-preserved
loop-arrow-preserved c =
    one_seen (sent_text c.args.look.now) seen_sent c.args.sent.now c.loop-arrow.arrow-index c.arrow-item.result
    c.args.out.now.items
    c.loop-arrow.out.items c.put_sent.new.out.items c.loop-arrow-test.true c.arrow-item.is c.loop-arrow.invariant
    c.in_ok-put_sent.ensures
