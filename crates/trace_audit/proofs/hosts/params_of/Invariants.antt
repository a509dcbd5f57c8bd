use Rattle.std.proofs.Common.{◌≡◌, take}
use Rattle.trace_audit.specs.Forms.{params_of as model_params_of}
use Rattle.trace_audit.proofs.hosts.params_of.Given as goal

abbrev pub invariant-loop-host : goal.invariant-loop-host
invariant-loop-host l = l.params.items ≡ model_params_of (take l.host-index l.hosts)
