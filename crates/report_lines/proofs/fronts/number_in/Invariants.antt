use Rattle.std.proofs.Common.{◌≡◌, ℕ, ◌+◌, ◌-◌, ◌*◌, ◌≤◌, fold, drop}
use Rattle.scenario_text.specs.Words.{value_of}
use Rattle.report_lines.proofs.fronts.number_in.Given as goal

abbrev pub invariant-loop-c : goal.invariant-loop-c
invariant-loop-c l = record {
  within : l.value ≤ l.high;
  value : fold (λ (n : ℕ) (c : ℕ). n * 10 + (c - 48)) l.value (drop l.c-index l.word) ≡ value_of l.word;
}
