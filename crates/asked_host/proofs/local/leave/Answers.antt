use Rattle.std.proofs.Common.{ℕ, List, ap, ◌∙◌}
use Rattle.flow_state.specs.Calls.{call_of}
use Rattle.host_rounds.specs.Hosts.{GivenUp}
use Rattle.asked_host.specs.Asking.{asked_by}
use Rattle.asked_host.proofs.Accepting.{still_below, held_after, no_offer}
use Rattle.asked_host.proofs.local.leave.Goals as goal

pub hold-requires : goal.hold-requires
hold-requires c =
    still_below _ c.args.place c.args.host.now c.ask.new.self c.in_ok-ask.ensures.made c.requires.place

pub returns : goal.returns
returns c =
    held_after GivenUp c.args.app c.args.place c.args.tick (call_of c.args.call.now) c.args.host.now c.ask.new.self
    c.hold.new.self
    (c.in_ok-ask.ensures.made
    ∙ ap (λ (offer : List ℕ). asked_by c.args.app c.args.place c.args.tick (call_of c.args.call.now) offer
    c.args.host.now) (no_offer c.args.call.now c.requires.kind))
    c.hold.ensures
