use Rattle.std.proofs.Common.{◌∙◌}
use Rattle.flow_judge.proofs.NoBytes.{no_bytes}
use Rattle.flow_judge.proofs.replies.is_nothing.Goals as goal

pub returns : goal.returns
returns c = c.is_empty.ensures ∙ no_bytes c.args.bytes.now
