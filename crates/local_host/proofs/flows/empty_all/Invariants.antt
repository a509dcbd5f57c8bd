use Rattle.host_rounds.specs.Upkeep.{quieted}
use Rattle.local_host.proofs.Standing.{Leads}
use Rattle.local_host.proofs.flows.empty_all.Given as goal

abbrev pub invariant-loop-place : goal.invariant-loop-place
invariant-loop-place l = Leads (quieted l.tick) l.standing l.place-index l.flows.items l.fn.flows.items
