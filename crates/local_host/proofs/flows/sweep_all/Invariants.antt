use Rattle.host_rounds.specs.Upkeep.{swept}
use Rattle.local_host.proofs.Standing.{Leads}
use Rattle.local_host.proofs.flows.sweep_all.Given as goal

abbrev pub invariant-loop-place : goal.invariant-loop-place
invariant-loop-place l = Leads swept l.standing l.place-index l.flows.items l.fn.flows.items
