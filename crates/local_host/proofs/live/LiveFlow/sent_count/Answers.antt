use Rattle.std.proofs.Common.{ℕ, length, ap, sym, ◌∙◌}
use Rattle.host_rounds.specs.Hosts.{Live, endpoint}
use Rattle.local_host.specs.Live.{flow_in}
use Rattle.local_host.proofs.Sleeping.{lags, out_slept}
use Rattle.local_host.proofs.live.LiveFlow.sent_count.Goals as goal

pub returns-clause-count : goal.returns-clause-count
returns-clause-count c =
    let so = lags c.self.inside.sleep (flow_in c.self.inside.history) c.parts-parts.ensures.legal c.self.invariant in
    c.sent_count.ensures.count
    ∙ (ap (length {A = ℕ}) (sym (out_slept _ _ _ so.slept))
    ∙ ap (λ (l : Live). length (endpoint l).tx.out) c.self.view_is)
