use Rattle.two_ends.proofs.Faithful.{none_corrupts, one_corrupts}
use Rattle.two_ends.proofs.laws.links_are_faithful_where_no_line_corrupts.Goals as goal

pub returns-clause-faithful : goal.returns-clause-faithful
returns-clause-faithful c = none_corrupts

pub returns-clause-corrupt : goal.returns-clause-corrupt
returns-clause-corrupt c = one_corrupts
