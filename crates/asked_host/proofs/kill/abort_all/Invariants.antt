use Rattle.std.proofs.Common.{◌≡◌, length}
use Rattle.asked_host.proofs.Aborting.{Aborts}
use Rattle.asked_host.proofs.kill.abort_all.Given as goal

-- the flows before the place are as the kill leaves them
abbrev pub invariant-loop-place : goal.invariant-loop-place
invariant-loop-place l = record {
  so_far : Aborts l.app l.tick l.place l.fn.host l.host;
  count : l.place-end ≡ length l.fn.host.flows;
}
