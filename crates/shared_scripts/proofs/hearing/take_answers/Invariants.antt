-- Measures or invariants of hearing/take_answers.
use Rattle.std.proofs.Common.{◌≡◌, map, take, drop}
use Rattle.core_host.specs.Emission.{AreTriesSet}
use Rattle.host_rounds.specs.Lists.{Each}
use Rattle.scenario_runs.specs.Applications.{Script}
use Rattle.shared_scripts.specs.Answers.{answer_for, answer_to}
use Rattle.shared_scripts.proofs.hearing.take_answers.Given as goal

-- those of the first scripts; the others' stand in their lanes still
abbrev pub invariant-loop-script : goal.invariant-loop-script
invariant-loop-script l = record {
  taken : l.answers.items ≡ map (answer_to l.fn.host.lanes) (take l.script-index l.scripts);
  set : AreTriesSet l.fn.host l.host;
  rest : Each (λ (x : Script). answer_for x.number l.host.lanes ≡ answer_for x.number l.fn.host.lanes)
      (drop l.script-index l.scripts);
}
