use Rattle.std.proofs.Common.{rules}
use Rattle.run_texts.proofs.Writing.{broken, flushed}
use Rattle.run_texts.proofs.writer.flush.Goals as goal

pub returns-in_err-write_all-clause-writes : goal.returns-in_err-write_all-clause-writes
returns-in_err-write_all-clause-writes g c = broken _ _ _ _ _ _ (search rules) c.as_slice.ensures (search rules)

pub returns-clause-writes : goal.returns-clause-writes
returns-clause-writes g c = flushed _ _ _ _ _ _ c.as_slice.ensures c.clear.ensures (search rules)
