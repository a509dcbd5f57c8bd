use Rattle.std.proofs.Common.{◌≡◌, ◌++◌, length}
use Rattle.kv_sessions.specs.Lines.{words_of}
use Rattle.kv_sessions.specs.Outcomes.{values_text}
use Rattle.kv_sessions.proofs.replies.say_values.Given as goal

abbrev pub invariant-loop-key : goal.invariant-loop-key
invariant-loop-key l =
    l.replies.items ++ values_text l.store (words_of l.rest)
    ≡ l.fn.replies.items ++ values_text l.store (words_of l.fn.keys)

abbrev pub decreases-loop-key : goal.decreases-loop-key
decreases-loop-key l = length l.rest
