use Rattle.std.proofs.Common.{take, flat_map, map, Ok}
use Rattle.host_rounds.specs.Lists.{Each}
use Rattle.log_ranges.specs.Ranges.{HostFits}
use Rattle.run_texts.specs.Writes.{Writes}
use Rattle.tas_round.specs.Runs.{host_in}
use Rattle.tas_round.proofs.Flowing.{host_lines}
use Rattle.tas_round.proofs.report.put_hosts.Given as goal

abbrev pub invariant-loop-i : goal.invariant-loop-i
invariant-loop-i g l =
    Writes (g.K.Sink.state l.fn.sink) l.fn.writer (Ok tt) (g.K.Sink.state l.sink) l.writer
    (flat_map (host_lines (map (λ n. n.now) l.names)) (take l.i l.hosts))
    × Each (λ h. HostFits (host_in h)) (take l.i l.hosts)
