-- What the writer knows after a publish, by its answer, and what a reader finds.
use Rattle.std.proofs.Common.{◌≡◌, List, [], ◌++◌, fold, sym, ap, ◌∙◌, subst, append-nil}
use Rattle.std.specs.Prelude.{Result, Ok, Err, MatchResult, OnOk}
use Rattle.flow_index.specs.declared.change.Change.{Change}
use Rattle.flow_index.specs.declared.store.Store.{Store}
use Rattle.flow_index.specs.declared.order.Sight.{Sight}
use Rattle.flow_index.specs.declared.change.Found.{Found}
use Rattle.tas_model.specs.declared.entry.FourTuple.{FourTuple}
use Rattle.flow_index.specs.Changes.{Begins, AnswerAlike, found_after}
use Rattle.flow_index.specs.Entries.{changed, found_in}
use Rattle.flow_index.specs.Published.{IsMadeBy, looked}
use Rattle.flow_index.proofs.Maps.{answer_alike, found_made}

module _ {A B : Type 0} (v w : Sight) (x y : Store) (before after : List Change) where
  abbrev pub Said : Result A B → Type 0
  Said r = MatchResult r (λ _. looked v x y w) (λ _. w ≡ v)

  abbrev pub Valued : Result A B → Type 0
  Valued r = MatchResult r (λ _. (y.map.entries ≡ fold changed x.map.entries before) × (after ≡ [])) (λ _. (y ≡ x)
      × (after ≡ before))

  pub later : (r : Result A B) → Said r → Begins v.seen w.seen
  later (Ok _) h = h.0
  later (Err _) h = ([], ap (λ (s : Sight). s.seen) h ∙ sym (append-nil v.seen))

  pub published : (r : Result A B) → Said r → Valued r → IsMadeBy x v → OnOk r (AnswerAlike w.seen (v.seen ++ before))
  published (Ok _) h e made = answer_alike v.seen before w.seen x.map.entries y.map.entries made e.0 h.1
  published (Err _) h e made = tt

  pub made : (r : Result A B) → Said r → Valued r → IsMadeBy x v → IsMadeBy y w
  made (Ok _) h e was = h.1
  made (Err _) h e was = subst (λ (s : Sight). IsMadeBy y s) (sym h) (subst (λ (z : Store). IsMadeBy z v) (sym e.0) was)

-- what is found in what is published is what the changes that were then seen say
pub found_seen : (x y : Store) (v w : Sight) (t : FourTuple) (found : Found) → found ≡ found_in y.map.entries t
    → y ≡ x → IsMadeBy x v → w ≡ v → found ≡ found_after t w.seen
found_seen x y v w t found is same made seen =
    is ∙ (ap (λ (s : Store). found_in s.map.entries t) same
    ∙ (ap (λ es. found_in es t) made ∙ (found_made v.seen t ∙ ap (λ (s : Sight). found_after t s.seen) (sym seen))))
