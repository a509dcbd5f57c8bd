-- Measures or invariants of hiring/+fn-hire-join+arg3+hire.
use Rattle.std.proofs.Common.{◌-◌, ◌+◌, ◌*◌, length}
use Rattle.crew.proofs.hiring.+fn-hire-join+arg3+hire.Given as goal

abbrev pub decreases-hire : goal.decreases-hire
decreases-hire g l = 2 * (l.threads - length l.posts.items) + 1

abbrev pub decreases-join+arg3 : goal.decreases-join+arg3
decreases-join+arg3 g l = 2 * (l.threads - length l.posts.items) + 2
