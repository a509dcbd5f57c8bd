use Rattle.segment_fields.proofs.RoundTrip.{fields_of-text}
use Rattle.segment_fields.proofs.laws.texts_spell_fields.Goals as goal

pub returns : goal.returns
returns c = fields_of-text
