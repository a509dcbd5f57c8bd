-- Answers of the proof of laws/tried_scripts_go_on.
use Rattle.script_tries.proofs.Due.{asks_are_tried}
use Rattle.script_tries.proofs.Going.{all_go_on, reply_at}
use Rattle.script_tries.proofs.laws.tried_scripts_go_on.Goals as goal

pub returns-clause-scripts : goal.returns-clause-scripts
returns-clause-scripts c =
    λ t books scripts tries replies rising are. all_go_on t books tries replies scripts rising are

pub returns-clause-reply : goal.returns-clause-reply
returns-clause-reply c =
    λ t books scripts tries replies k x r are at reply. reply_at tries replies k x r are.once at reply

pub returns-clause-asks : goal.returns-clause-asks
returns-clause-asks c = asks_are_tried
