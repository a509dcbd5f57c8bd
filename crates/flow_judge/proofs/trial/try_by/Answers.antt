use Rattle.report_lines.specs.Views.{seen_entry}
use Rattle.flow_judge.proofs.Steps.{tried}
use Rattle.flow_judge.proofs.trial.try_by.Goals as goal

pub returns-clause-tried : goal.returns-clause-tried
returns-clause-tried c =
    tried c.in_ok-answer.answer c.args.flow.now c.make.new.flow (seen_entry c.args.entry.now) c.args.call.now
    c.requires.within c.requires.call c.requires.offer c.in_ok-answer.ensures.made
