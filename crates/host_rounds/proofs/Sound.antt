-- A legal history within its parameters is sound.
use Rattle.tas_model.specs.LegalHistory.{Legal}
use Rattle.tas_model.specs.Valid.{InRange}
use Rattle.tas_model.proofs.MovesLaws.{read_is_of_stream}
use Rattle.tas_model.proofs.AckLaw.{acks_in_order}
use Rattle.host_rounds.specs.Logs.{Flow}
use Rattle.host_rounds.specs.Histories.{IsSound}

pub sound : (f : Flow) → InRange f.params → Legal f.params f.entries → IsSound f
sound f fits legal = record {
  legal = legal;
  reads = λ stream one. read_is_of_stream f.params stream f.entries fits legal one;
  acknowledges = acks_in_order f.params f.entries legal;
}
