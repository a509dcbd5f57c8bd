use Rattle.std.proofs.Common.{arith, rules}
use Rattle.fast_rx.proofs.Placing.{far_of}
use Rattle.fast_rx.proofs.hearing.place_from.Goals as goal

pub returns-clause-far : goal.returns-clause-far
returns-clause-far c = far_of c.place.result c.args.near c.minus.result (search rules)
    (omega (arith, c.minus.ensures.difference)) (search rules)
