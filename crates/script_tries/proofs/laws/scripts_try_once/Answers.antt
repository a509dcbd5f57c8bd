-- Answers of the proof of laws/scripts_try_once.
use Rattle.script_tries.proofs.Once.{tried_in_order, nothing_in_front, one_nothing, one_left_out}
use Rattle.script_tries.proofs.laws.scripts_try_once.Goals as goal

pub returns-clause-all : goal.returns-clause-all
returns-clause-all c = tried_in_order

pub returns-clause-front : goal.returns-clause-front
returns-clause-front c = λ t books scripts tries n are. nothing_in_front t books scripts n tries are

pub returns-clause-nothing : goal.returns-clause-nothing
returns-clause-nothing c = one_nothing

pub returns-clause-out : goal.returns-clause-out
returns-clause-out c = one_left_out
