use Rattle.std.proofs.Common.{◌≡◌, ◌++◌, ◌∷◌, ℕ, List, take, map}
use Rattle.std.specs.List.{flat_map}
use Rattle.scenario_text.proofs.printing.put_line.Given as goal

abbrev pub invariant-loop-word : goal.invariant-loop-word
invariant-loop-word l = l.out.items ≡ l.fn.out.items ++ l.fn.word
    ++ flat_map (λ (w : List ℕ). 32 ∷ w) (map (λ w. w.now) (take l.word-index l.words))
