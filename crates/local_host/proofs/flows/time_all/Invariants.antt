use Rattle.tas_model.specs.declared.entry.Caller.TheVariants.{Slow}
use Rattle.host_rounds.specs.Upkeep.{timed}
use Rattle.local_host.proofs.Standing.{Leads}
use Rattle.local_host.proofs.flows.time_all.Given as goal

abbrev pub invariant-loop-place : goal.invariant-loop-place
invariant-loop-place l = Leads (timed Slow l.tick) l.standing l.place-index l.flows.items l.fn.flows.items
