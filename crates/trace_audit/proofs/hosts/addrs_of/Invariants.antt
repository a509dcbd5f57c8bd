use Rattle.std.proofs.Common.{◌≡◌, take}
use Rattle.trace_audit.specs.Forms.{addrs_of as model_addrs_of}
use Rattle.trace_audit.proofs.hosts.addrs_of.Given as goal

abbrev pub invariant-loop-host : goal.invariant-loop-host
invariant-loop-host l = l.addrs.items ≡ model_addrs_of (take l.host-index l.hosts)
