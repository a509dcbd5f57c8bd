use Rattle.std.proofs.Common.{◌≡◌, ◌+◌, ◌≤◌, length, arith}
use Rattle.scenario_text.specs.Reads.{reads}
use Rattle.scenario_text.proofs.Readings.{line_taken, line_refused}
use Rattle.scenario_text.proofs.reading.read_scenario.Goals as goal

pub loop-front-preserved : goal.loop-front-preserved
loop-front-preserved c =
    let read = rw c.in-Ok-None.field-0-is at c.in-Ok-None.ensures.line in
    record {
      names = c.in-Ok-None.ensures.names c.in-Ok-None.field-0-is;
      few = c.in-Ok-None.ensures.few c.in-Ok-None.field-0-is;
      line = omega (arith, c.in-Some.ensures.shorter, c.loop-front.invariant.line);
      reads = line_taken c.loop-front.line c.loop-front.draft c.take_line.new.self c.loop-front.rest.now
          c.in-Some.front.now c.in-Some.behind.now c.without_return.result.now c.in-Some.ensures.parts
          c.without_return.ensures read _ c.loop-front.invariant.reads;
    }

pub returns-in-Ok-Some-clause-refused : goal.returns-in-Ok-Some-clause-refused
unfolding reads
returns-in-Ok-Some-clause-refused c = λ other.
    let refused = rw c.in-Ok-Some.field-0-is at c.in-Ok-Some.ensures.line in
    line_refused c.loop-front.line c.in-Ok-Some.kind c.loop-front.draft c.loop-front.rest.now c.in-Some.front.now
    c.in-Some.behind.now c.without_return.result.now c.in-Some.ensures.parts c.without_return.ensures refused _
    c.loop-front.invariant.reads
