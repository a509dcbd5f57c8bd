use Rattle.flow_index.proofs.Steps.{admits}
use Rattle.flow_index.proofs.index.sit_down.Goals as goal

pub reader-requires : goal.reader-requires
reader-requires g c = admits
