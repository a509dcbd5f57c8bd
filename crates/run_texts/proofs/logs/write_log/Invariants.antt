use Rattle.std.proofs.Common.{take, flat_map, map, Ok}
use Rattle.host_rounds.specs.Lists.{Each}
use Rattle.tas_runs.specs.Report.{log_text}
use Rattle.tas_core.specs.Stretches.{lines_in}
use Rattle.log_ranges.specs.Ranges.{LineFits}
use Rattle.run_texts.specs.Writes.{Writes}
use Rattle.run_texts.proofs.logs.write_log.Given as goal

abbrev pub invariant-loop-stretch : goal.invariant-loop-stretch
invariant-loop-stretch g l =
    Writes (g.K.Sink.state l.fn.sink) l.fn.writer (Ok tt) (g.K.Sink.state l.sink) l.writer
    (flat_map (λ s. log_text (map (λ n. n.now) l.names) (lines_in s)) (take l.stretch-index l.log))
    × Each (λ s. Each LineFits (lines_in s)) (take l.stretch-index l.log)
