use Rattle.std.proofs.Common.{◌≡◌, ℕ, ◌+◌, ◌-◌, ◌*◌, ◌<◌, ◌^◌, fold, drop}
use Rattle.kv_sessions.specs.Lines.{value_of}
use Rattle.kv_sessions.proofs.words.number_of.Given as goal

abbrev pub invariant-loop-c : goal.invariant-loop-c
invariant-loop-c l = record {
  within : l.value < 2 ^ 32;
  value : fold (λ (n : ℕ) (c : ℕ). n * 10 + (c - 48)) l.value (drop l.c-index l.word) ≡ value_of l.word;
}
