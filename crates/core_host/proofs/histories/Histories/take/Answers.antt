-- Answers of the proof of histories/Histories/take.
use Rattle.std.proofs.Common.{ap, ◌∙◌}
use Rattle.core_host.specs.Ending.{found_in}
use Rattle.core_host.proofs.histories.Histories.take.Goals as goal

pub returns-clause-rest : goal.returns-clause-rest
returns-clause-rest c = λ other e.
    c.remove.ensures.updates.2 (other.slot, other.generation) e ∙ ap (λ es. found_in es other) c.self.view_is
