use Rattle.picture_top.proofs.Spelling.{stripped}
use Rattle.picture_top.proofs.words.behind.Goals as goal

pub returns : goal.returns
returns c = stripped c.args.name.now c.args.word.now c.strip_prefix.result c.strip_prefix.ensures.cases
