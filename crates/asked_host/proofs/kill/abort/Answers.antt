use Rattle.asked_host.proofs.Accepting.{still_below}
use Rattle.asked_host.proofs.Aborting.{aborted_held, aborted_free}
use Rattle.asked_host.proofs.kill.abort.Goals as goal

pub hold-requires : goal.hold-requires
hold-requires c = still_below _ c.args.place c.args.host.now c.ask.new.self c.in_ok-ask.ensures.made c.requires

pub returns-then-is_held : goal.returns-then-is_held
returns-then-is_held c =
    aborted_held c.args.place c.args.tick c.args.host.now c.ask.new.self c.hold.new.self c.flow.result.now
    c.flow.ensures c.if-is_held.ensures c.in_ok-ask.ensures.made c.hold.ensures

pub returns-else-is_held : goal.returns-else-is_held
returns-else-is_held c =
    aborted_free c.args.place c.args.tick c.args.host.now c.ask.new.self c.flow.result.now
    c.flow.ensures c.if-is_held.ensures c.in_ok-ask.ensures.made
