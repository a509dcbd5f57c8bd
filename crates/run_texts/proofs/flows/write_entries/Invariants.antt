use Rattle.std.proofs.Common.{take, flat_map, map, Ok}
use Rattle.host_rounds.specs.Lists.{Each}
use Rattle.tas_runs.specs.Report.{entries_text}
use Rattle.log_ranges.specs.Ranges.{EntryFits}
use Rattle.run_texts.specs.Writes.{Writes}
use Rattle.run_texts.proofs.flows.write_entries.Given as goal

abbrev pub invariant-loop-i : goal.invariant-loop-i
invariant-loop-i g l =
    Writes (g.K.Sink.state l.fn.sink) l.fn.writer (Ok tt) (g.K.Sink.state l.sink) l.writer
    (flat_map (entries_text (map (λ n. n.now) l.names)) (take l.i l.stretches))
    × Each (Each EntryFits) (take l.i l.stretches)
