use Rattle.std.proofs.Common.{◌≡◌}
use Rattle.host_rounds.specs.Hosts.{endpoint}
use Rattle.host_rounds.specs.Upkeep.{quieted}
use Rattle.fast_tx.specs.Going.{left_in}
use Rattle.local_host.proofs.live.LiveFlow.send_all.Given as goal

-- what is left to send leads to the same end
abbrev pub invariant-loop : goal.invariant-loop
invariant-loop l = quieted l.tick l.self ≡ quieted l.tick l.fn.self

abbrev pub decreases-loop : goal.decreases-loop
decreases-loop l = left_in (endpoint l.self)
