use Rattle.std.proofs.Common.{◌∙◌}
use Rattle.segment_fields.specs.Canon.{canon}
use Rattle.segment_fields.proofs.RoundTrip.{fields_in-canon, fields_in-canon_same, fields_of-text, length-canon}
use Rattle.segment_fields.proofs.RoundTrip.{refusal-canon}
use Rattle.segment_fields.proofs.laws.what_is_written_is_read.Goals as goal

pub returns-clause-accepted : goal.returns-clause-accepted
returns-clause-accepted c = refusal-canon

pub returns-clause-fields : goal.returns-clause-fields
returns-clause-fields c = fields_in-canon

pub returns-clause-same : goal.returns-clause-same
returns-clause-same c = fields_in-canon_same

pub returns-clause-segment : goal.returns-clause-segment
returns-clause-segment c f s alone text = fields_of-text (canon f) s text ∙ fields_in-canon_same f alone

pub returns-clause-len : goal.returns-clause-len
returns-clause-len c = length-canon
