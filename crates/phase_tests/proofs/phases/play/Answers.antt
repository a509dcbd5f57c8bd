-- Answers of the proof of phases/play.
use Rattle.phase_tests.proofs.Playing.{all_idle, all_may, all_between, as_known}
use Rattle.phase_tests.proofs.phases.play.Goals as goal

pub play_phase-requires-clause-idle : goal.play_phase-requires-clause-idle
play_phase-requires-clause-idle g c = all_idle c.args.shared.now c.args.lanes.now.items c.requires.lanes

pub play_phase-requires-clause-may : goal.play_phase-requires-clause-may
play_phase-requires-clause-may g c = all_may c.args.shared.now c.args.lanes.now.items c.requires.lanes

pub returns-clause-lanes : goal.returns-clause-lanes
returns-clause-lanes g c =
    all_between c.args.shared.now c.args.lanes.now.items c.play_phase.new.lanes.items c.args.slow.now.view
    c.play_phase.new.slow.view c.requires.lanes c.in-Ok.ensures.idle c.in-Ok.ensures.phase

pub returns-clause-slow : goal.returns-clause-slow
returns-clause-slow g c = record {
  table = c.in-Ok.ensures.table;
  view = as_known c.args.slow.now.view c.play_phase.new.slow.view _ c.in-Ok.ensures.phase.known;
}
