use Rattle.std.proofs.Common.{◌≡◌, ◌+◌, ◌≤◌, length}
use Rattle.std.specs.Str.Lines.{lines}
use Rattle.scenario_text.specs.Drafts.{AreNames, no_draft}
use Rattle.scenario_text.specs.Reads.{read_from}
use Rattle.scenario_text.proofs.reading.read_scenario.Given as goal

abbrev pub invariant-loop-front : goal.invariant-loop-front
invariant-loop-front l = record {
  names : AreNames l.names l.draft;
  few : length l.draft.hosts ≤ 8;
  line : l.line + length l.rest ≤ length l.fn.text + 1;
  reads : read_from l.line l.draft (lines l.rest) ≡ read_from 1 no_draft (lines l.fn.text);
}

abbrev pub decreases-loop-front : goal.decreases-loop-front
decreases-loop-front l = length l.rest
