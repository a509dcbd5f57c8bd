use Rattle.std.proofs.Common.{◌≡◌, ◌+◌, ◌-◌, ◌++◌, List}
use Rattle.tas_futures.specs.declared.waiters.Place.{Place}
use Rattle.tas_futures.proofs.waiters.Waiters.reach.Given as goal

abbrev pub invariant-loop-self : goal.invariant-loop-self
invariant-loop-self l = (more : List Place) × (l.self-inside.places.items ≡ l.initial.self-inside.places.items ++ more)

abbrev pub decreases-loop-self : goal.decreases-loop-self
decreases-loop-self l = l.at + 1 - l.self-inside.places.len
