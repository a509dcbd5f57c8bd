-- What holds of each flow of every run.
use Rattle.std.specs.Prelude.{◌≡◌, List, ℕ, None}
use Rattle.tas_model.specs.NextSegment.{going}
use Rattle.tas_model.specs.LegalHistory.{Legal, replay}
use Rattle.tas_model.specs.Outputs.{AcksInOrder, bytes_read}
use Rattle.tas_model.specs.OneStream.{OneStream, IsPrefixOf}
use Rattle.host_rounds.specs.Logs.{Flow}
use Rattle.host_rounds.specs.Hosts.{Live}

-- The flow has a history of RFC 9293's endpoint. Whatever one stream its peer sends, what was read is a prefix of it;
-- and each segment that acknowledges something acknowledges the next place that is expected: all bytes that stand in
-- order, and no other.
pub record IsSound (f : Flow) : Type 0 where
  pub legal : Legal f.params f.entries
  pub reads : (stream : List ℕ) → OneStream f.params stream f.entries → IsPrefixOf (bytes_read f.entries) stream
  pub acknowledges : AcksInOrder f.params f.entries

-- While the run goes on, what a flow has is a history of the endpoint.
abbrev pub HasHistory : Live → Type 0
HasHistory l = Legal l.flow.params l.flow.entries

-- its endpoint has nothing that may go
abbrev pub HasSentAll : Flow → Type 0
HasSentAll f = going (replay f.params f.entries) ≡ None
