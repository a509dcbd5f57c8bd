use Rattle.std.proofs.Common.{◌≡◌, ◌+◌, ◌<◌, ℕ, Bool, List, [], ◌∷◌, ◌++◌, length, take, get_or, map, filter}
use Rattle.std.proofs.Common.{sym, ap, ◌∙◌}
use Rattle.std.proofs.lemmas.List.{map-append, take_more}
use Rattle.std.proofs.lemmas.List.Elements.{filter-append}
use Rattle.scenario_host.specs.GroupMoves.{is_move_of, group_move}
use Rattle.scenario_host.proofs.moves.moves_at.Goals as goal

-- one item more of those that pass a test, each as it is shown
one_more : {A B : Type 0} (p : A → Bool) (f : A → B) (xs : List A) (i : ℕ) (x : A) (now after : List B)
    → i < length xs → x ≡ get_or xs i x → now ≡ map f (filter p (take i xs))
    → after ≡ now ++ map f (filter p (x ∷ [])) → after ≡ map f (filter p (take (i + 1) xs))
one_more {A} {B} p f xs i x now after below is so_far more =
    let front : take (i + 1) xs ≡ take i xs ++ x ∷ [] =
    take_more xs i x below ∙ ap (λ (y : A). take i xs ++ y ∷ []) (sym is) in
    more
    ∙ (ap (λ (t : List B). t ++ map f (filter p (x ∷ []))) so_far
    ∙ (sym (map-append f (filter p (take i xs)) (filter p (x ∷ [])))
    ∙ (ap (map f) (sym (filter-append p (take i xs) (x ∷ []))) ∙ ap (λ (t : List A). map f (filter p t)) (sym front))))

pub loop-line-preserved : goal.loop-line-preserved
loop-line-preserved c = record {
  made = one_more (is_move_of c.args.name.now c.args.tick) group_move c.args.lines.now c.loop-line.line-index
      c.line-item.result c.loop-line.moves.items c.take_move.new.moves.items c.loop-line-test.true c.line-item.is
      c.loop-line.invariant.made c.in_ok-take_move.ensures.moves;
  below = c.in_ok-take_move.ensures.below c.loop-line.invariant.below;
}
