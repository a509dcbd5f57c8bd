-- Answers of the proof of sending/emissions_alone_are_emit_phases.
use Rattle.slow_rounds.proofs.Emissions.{emissions_made}
use Rattle.slow_rounds.proofs.sending.emissions_alone_are_emit_phases.Goals as goal

pub returns : goal.returns
returns c s tick ids v w alone indexed sent silent = emissions_made s tick ids v w alone indexed sent silent
