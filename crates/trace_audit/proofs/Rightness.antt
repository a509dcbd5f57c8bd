-- Up to which line the flow is right, before the first line.
use Rattle.std.proofs.Common.{zero, suc, List, []}
use Rattle.tas_model.specs.declared.entry.HostParams.{HostParams}
use Rattle.trace_audit.specs.Right.{AreRight}

-- Nothing is wrong with no lines.
pub none_right : (hosts : List HostParams) → AreRight hosts []
none_right hosts zero = tt
none_right hosts (suc n) = tt
