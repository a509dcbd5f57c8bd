-- Answers of the proof of alone/calls_alone_are_moves.
use Rattle.host_books.proofs.AloneCalls.{still_alone, call_moved}
use Rattle.host_books.proofs.alone.calls_alone_are_moves.Goals as goal

pub returns-clause-alone : goal.returns-clause-alone
returns-clause-alone c = λ id caller t call v w r. still_alone id r _ v w

pub returns-clause-moved : goal.returns-clause-moved
returns-clause-moved c = call_moved
