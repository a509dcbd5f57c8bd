use Rattle.std.proofs.Common.{◌≡◌, ◌+◌, ◌%◌, ap, ◌∙◌, arith}
use Rattle.steering.proofs.Packed.{spread_at, spread-length}
use Rattle.steering.proofs.laws.groups_start_on_their_numbers.Goals as goal

pub returns-clause-starts : goal.returns-clause-starts
returns-clause-starts c cores group h = let e : 0 + group ≡ group = omega arith in
    spread_at cores 0 64 group h ∙ ap (λ g. g % cores) e

pub returns-clause-size : goal.returns-clause-size
returns-clause-size c cores = spread-length cores 0 64
