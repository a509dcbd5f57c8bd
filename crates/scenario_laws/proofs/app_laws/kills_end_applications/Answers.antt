use Rattle.scenario_laws.proofs.Silent.{killed_is_silent}
use Rattle.scenario_laws.proofs.Kills.{ticks_kill, hosts_once}
use Rattle.scenario_laws.proofs.Held.{held_are_aborted, none_is_left}
use Rattle.scenario_laws.proofs.app_laws.kills_end_applications.Goals as goal

pub returns-clause-calls : goal.returns-clause-calls
returns-clause-calls c = killed_is_silent

pub returns-clause-aborted : goal.returns-clause-aborted
returns-clause-aborted c = ticks_kill

pub returns-clause-once : goal.returns-clause-once
returns-clause-once c = hosts_once

pub returns-clause-held : goal.returns-clause-held
returns-clause-held c = held_are_aborted

pub returns-clause-left : goal.returns-clause-left
returns-clause-left c = none_is_left
