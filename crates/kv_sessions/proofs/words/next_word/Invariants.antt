use Rattle.std.proofs.Common.{◌≡◌, ◌≤◌, length}
use Rattle.kv_sessions.specs.Lines.{words_of}
use Rattle.kv_sessions.proofs.words.next_word.Given as goal

abbrev pub invariant-loop-word : goal.invariant-loop-word
invariant-loop-word l = record {
  words : words_of l.rest ≡ words_of l.fn.text;
  shorter : length l.rest ≤ length l.fn.text;
}

abbrev pub decreases-loop-word : goal.decreases-loop-word
decreases-loop-word l = length l.rest
