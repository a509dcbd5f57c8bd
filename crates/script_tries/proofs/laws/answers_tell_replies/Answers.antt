-- Answers of the proof of laws/answers_tell_replies.
use Rattle.script_tries.proofs.Telling.{told_alike, told_by}
use Rattle.script_tries.proofs.laws.answers_tell_replies.Goals as goal

pub returns-clause-alike : goal.returns-clause-alike
returns-clause-alike c = told_alike

pub returns-clause-answer : goal.returns-clause-answer
returns-clause-answer c = told_by
