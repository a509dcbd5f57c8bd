use Rattle.std.proofs.Common.{◌-◌, ◌≤◌, ◌≡◌, vec_len, length}
use Rattle.std.specs.Io.KnownBytes.{Consumes}
use Rattle.picture_top.proofs.input.read_report.Given as goal

abbrev pub invariant-loop-buf : goal.invariant-loop-buf
invariant-loop-buf g l =
    let before = g.S.Source.state l.fn.source in
    let now = g.S.Source.state l.source in
    record {
      bytes : Consumes before.left now.left l.all.items;
      counts : now.faults ≡ before.faults;
      short : vec_len l.all ≤ 67108865;
      room : length l.buf ≡ 32768;
    }

abbrev pub decreases-loop-buf : goal.decreases-loop-buf
decreases-loop-buf g l = 67108865 - vec_len l.all
