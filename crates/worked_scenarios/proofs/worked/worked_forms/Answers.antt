use Rattle.worked_scenarios.proofs.WorkedForms.{spaced_text_is, spaced_lines_is, between_steps_is, blank_text_is}
use Rattle.worked_scenarios.proofs.WorkedForms.{killed_at_once_is}
use Rattle.worked_scenarios.proofs.WorkedForms.{strange_byte_is, bare_return_is, wrong_name_is, unknown_name_is}
use Rattle.worked_scenarios.proofs.WorkedForms.{many_options_is, unknown_option_is, half_option_is}
use Rattle.worked_scenarios.proofs.worked.worked_forms.Goals as goal

pub returns-clause-spaced_text : goal.returns-clause-spaced_text
returns-clause-spaced_text c = spaced_text_is

pub returns-clause-spaced_lines : goal.returns-clause-spaced_lines
returns-clause-spaced_lines c = spaced_lines_is

pub returns-clause-between_steps : goal.returns-clause-between_steps
returns-clause-between_steps c = between_steps_is

pub returns-clause-blank_text : goal.returns-clause-blank_text
returns-clause-blank_text c = blank_text_is

pub returns-clause-killed_at_once : goal.returns-clause-killed_at_once
returns-clause-killed_at_once c = killed_at_once_is

pub returns-clause-strange_byte : goal.returns-clause-strange_byte
returns-clause-strange_byte c = strange_byte_is

pub returns-clause-bare_return : goal.returns-clause-bare_return
returns-clause-bare_return c = bare_return_is

pub returns-clause-wrong_name : goal.returns-clause-wrong_name
returns-clause-wrong_name c = wrong_name_is

pub returns-clause-unknown_name : goal.returns-clause-unknown_name
returns-clause-unknown_name c = unknown_name_is

pub returns-clause-many_options : goal.returns-clause-many_options
returns-clause-many_options c = many_options_is

pub returns-clause-unknown_option : goal.returns-clause-unknown_option
returns-clause-unknown_option c = unknown_option_is

pub returns-clause-half_option : goal.returns-clause-half_option
returns-clause-half_option c = half_option_is
