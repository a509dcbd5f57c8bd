-- What SYN-SENT tells of an endpoint, and the state that the peer's SYN leads to.
use Rattle.std.proofs.Common.{◌≡◌, ℕ, Bool, true, false, cond, Option, Some, None, refl}
use Rattle.tas_model.specs.declared.entry.Phase.TheVariants as phases
use Rattle.tas_model.specs.declared.entry.Reason.{Reason}
use Rattle.tas_model.specs.Endpoint.{phase_by}

pub connected_phase : (reason : Option Reason) (peer : Option ℕ) (una first : ℕ)
    (shut acked fin_acked ended ended_first : Bool)
    → phase_by reason peer una shut acked ended ended_first ≡ phases.SynSent → shut ≡ false
    → phase_by reason (Some first) 1 shut fin_acked ended ended_first ≡ cond ended phases.CloseWait phases.Established
connected_phase (Some why) peer una first shut acked fin_acked ended ended_first is unshut = absurd (cc (is))
connected_phase None peer una first true acked fin_acked ended ended_first is unshut = absurd (cc (unshut))
connected_phase None peer una first false acked fin_acked ended ended_first is unshut = refl
