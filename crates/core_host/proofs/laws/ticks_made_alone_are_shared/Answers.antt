-- Answers of the proof of laws/ticks_made_alone_are_shared.
use Rattle.core_rounds.proofs.SharedRounds.{shared_round}
use Rattle.core_host.proofs.Ticks.{alone_shared, alone_between}
use Rattle.core_host.specs.Ticks.{site_in}
use Rattle.core_host.proofs.laws.ticks_made_alone_are_shared.Goals as goal

pub returns-clause-shared : goal.returns-clause-shared
returns-clause-shared g c = alone_shared

pub returns-clause-right : goal.returns-clause-right
returns-clause-right g c = λ scripts t due before after state next moves histories between k.
    shared_round scripts before.cores t due (site_in before state) (site_in after next) moves histories
    (alone_shared scripts t due before after state next between k)

pub returns-clause-between : goal.returns-clause-between
returns-clause-between g c = alone_between
