use Rattle.worked_histories.proofs.WorkedReading.{open_by_fast_path, else_by_slow_path, letters_are, broken_are}
use Rattle.worked_histories.proofs.worked.worked_reading.Goals as goal

pub returns-clause-common : goal.returns-clause-common
returns-clause-common c = open_by_fast_path

pub returns-clause-other : goal.returns-clause-other
returns-clause-other c = else_by_slow_path

pub returns-clause-letters : goal.returns-clause-letters
returns-clause-letters c = letters_are

pub returns-clause-broken : goal.returns-clause-broken
returns-clause-broken c = broken_are
