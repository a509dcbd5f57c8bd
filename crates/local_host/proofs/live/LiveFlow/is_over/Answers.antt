use Rattle.std.proofs.Common.{◌≡◌, true, not, ap, sym, ◌∙◌}
use Rattle.host_rounds.specs.Hosts.{Live, is_over}
use Rattle.local_host.specs.Live.{flow_in}
use Rattle.local_host.specs.Inside.{live_of}
use Rattle.local_host.proofs.Sleeping.{still_asleep, not_over}
use Rattle.local_host.proofs.Waking.{as_recorded}
use Rattle.local_host.proofs.live.LiveFlow.is_over.Goals as goal

pub returns-then-not-is_asleep : goal.returns-then-not-is_asleep
returns-then-not-is_asleep c =
    c.is_closed.ensures.closed
    ∙ ap is_over (as_recorded c.self.inside c.args.self.now (c.is_asleep.ensures.awake c.if-not-is_asleep.true)
    c.self.view_is)

pub returns-else-not-is_asleep : goal.returns-else-not-is_asleep
returns-else-not-is_asleep c =
    let l : Live = live_of c.self.inside in
    let asleep : c.is_asleep.result ≡ true = c.if-not-is_asleep.false in
    let still = still_asleep c.self.inside.sleep (flow_in c.self.inside.history) c.parts-parts.ensures.legal
    c.self.invariant (c.is_asleep.ensures.asleep asleep) in
    ap not asleep ∙ (sym (not_over l still) ∙ ap is_over c.self.view_is)
