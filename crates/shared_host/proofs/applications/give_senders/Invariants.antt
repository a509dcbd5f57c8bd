use Rattle.std.proofs.Common.{◌≡◌}
use Rattle.shared_host.specs.Applications.{AreGiven}
use Rattle.shared_host.proofs.applications.give_senders.Given as goal

-- the workers before this one have their senders
abbrev pub invariant-loop-core : goal.invariant-loop-core
invariant-loop-core l = record {
  line : l.notes.line ≡ l.queue.line;
  senders : l.notes.senders ≡ l.core-index;
  given : AreGiven l.number l.queue.line 0 l.core-index l.fn.cores l.cores;
}
