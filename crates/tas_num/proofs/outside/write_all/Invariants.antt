use Rattle.std.proofs.Common.{◌≡◌, ◌-◌, ◌≤◌, length, take}
use Rattle.std.specs.Io.KnownBytes.{Appends}
use Rattle.tas_num.proofs.outside.write_all.Given as goal

abbrev pub invariant-loop-written : goal.invariant-loop-written
invariant-loop-written g l =
    let before = g.K.Sink.state l.fn.sink in
    let now = g.K.Sink.state l.sink in
    record {
      bytes : Appends before.held now.held (take l.written l.bytes);
      within : l.written ≤ length l.bytes;
      counts : now.faults ≡ before.faults;
      same : now.grows ≡ before.grows;
    }

abbrev pub decreases-loop-written : goal.decreases-loop-written
decreases-loop-written g l = length l.bytes - l.written
