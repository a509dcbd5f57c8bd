use Rattle.std.proofs.Common.{take, map, Ok}
use Rattle.host_rounds.specs.Lists.{Each}
use Rattle.tas_runs.specs.Report.{flows_text}
use Rattle.log_ranges.specs.Ranges.{FlowFits}
use Rattle.run_texts.specs.Frames.{history_of}
use Rattle.run_texts.specs.Writes.{Writes}
use Rattle.tas_round.proofs.report.put_flows.Given as goal

abbrev pub invariant-loop-i : goal.invariant-loop-i
invariant-loop-i g l =
    Writes (g.K.Sink.state l.fn.sink) l.fn.writer (Ok tt) (g.K.Sink.state l.sink) l.writer
    (flows_text (map (λ n. n.now) l.names) 0 (take l.i (map history_of l.flows)))
    × Each FlowFits (take l.i (map history_of l.flows))
