-- Answers of the proof of counting/calls_keep_the_count.
use Rattle.sound_calls.proofs.Counted.{handed_counted, called_counted, left_counted, accepted_counted}
use Rattle.sound_calls.proofs.Counted.{listens_counted, killed_counted, connected_counted}
use Rattle.sound_calls.proofs.counting.calls_keep_the_count.Goals as goal

pub returns-clause-handed : goal.returns-clause-handed
returns-clause-handed c = handed_counted

pub returns-clause-called : goal.returns-clause-called
returns-clause-called c = called_counted

pub returns-clause-left : goal.returns-clause-left
returns-clause-left c = left_counted

pub returns-clause-accepted : goal.returns-clause-accepted
returns-clause-accepted c = accepted_counted

pub returns-clause-listens : goal.returns-clause-listens
returns-clause-listens c = listens_counted

pub returns-clause-killed : goal.returns-clause-killed
returns-clause-killed c = killed_counted

pub returns-clause-connected : goal.returns-clause-connected
returns-clause-connected c = connected_counted
