use Rattle.std.proofs.Common.{◌+◌, ◌*◌}
use Rattle.local_host.proofs.parts.+parts.Given as goal

abbrev pub decreases-work_parts : goal.decreases-work_parts
decreases-work_parts g l = 4 * l.threads

abbrev pub decreases-work_halves : goal.decreases-work_halves
decreases-work_halves g l = 4 * l.threads + 2

abbrev pub decreases-work_halves-front : goal.decreases-work_halves-front
decreases-work_halves-front g l = 4 * l.threads + 1

abbrev pub decreases-work_halves-back : goal.decreases-work_halves-back
decreases-work_halves-back g l = 4 * l.threads + 1
