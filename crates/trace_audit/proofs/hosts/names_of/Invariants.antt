use Rattle.std.proofs.Common.{◌≡◌, map, take}
use Rattle.trace_audit.specs.Forms.{names_of as model_names_of}
use Rattle.trace_audit.proofs.hosts.names_of.Given as goal

abbrev pub invariant-loop-host : goal.invariant-loop-host
invariant-loop-host l = map (λ n. n.now) l.names.items ≡ model_names_of (take l.host-index l.hosts)
