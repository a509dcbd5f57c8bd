-- Each step keeps the order of the changes.
use Rattle.std.proofs.Common.{◌≡◌, ℕ, zero, suc, List, [], ◌∷◌, ◌++◌, fold, set, sym, refl, ap, ◌∙◌, subst, ⊎_elim}
use Rattle.std.proofs.Common.{append_assoc, append-nil}
use mathlib.Core.Option.{some, some-ne-none, some-injective}
use lib.ListN.{get_elem?}
use Rattle.crossbeam_utils.specs.Register.{Admits, TurnsAt, Turns}
use Rattle.atomic_table.proofs.Lists.{at_set, at_snoc}
use Rattle.flow_index.specs.Changes.{Begins}
use Rattle.flow_index.specs.Entries.{Entries, changed, entries_of}
use Rattle.flow_index.specs.Published.{newcomer, OneOrder, looked}
use Rattle.flow_index.specs.declared.change.Change.{Change}
use Rattle.flow_index.specs.declared.store.Store.{Store}
use Rattle.flow_index.specs.declared.order.Sight.{Sight}

begins_more : (xs ys zs : List Change) → Begins xs ys → Begins xs (ys ++ zs)
begins_more xs ys zs b = (b.0 ++ zs, ap (λ l. l ++ zs) b.1 ∙ append_assoc xs b.0 zs)

pub fold-append : (es : Entries) (xs ys : List Change)
    → fold changed es (xs ++ ys) ≡ fold changed (fold changed es xs) ys
fold-append es [] ys = refl
fold-append es (x ∷ xs) ys = fold-append (changed es x) xs ys

-- one end knows more, and the others what they knew
others : (views : List Sight) (log : List Change) (id : ℕ) (w : Sight) → Begins w.seen log
    → ((k : ℕ) (v : Sight) → get_elem? views k ≡ some v → Begins v.seen log) → (k : ℕ) (v : Sight)
    → get_elem? (set views id w) k ≡ some v → Begins v.seen log
others views log id w mine h k v e =
    ⊎_elim (λ (t : (k ≡ id)
    × (w ≡ v)). subst (λ (u : Sight). Begins u.seen log) t.1 mine) (λ t. h k v t.1) (at_set views id k w v e)

pub begins : (x : Store) → x.map.entries ≡ [] → OneOrder x (newcomer ∷ [])
begins x e = ([], e, one)
  where
    one : (k : ℕ) (v : Sight) → get_elem? (newcomer ∷ []) k ≡ some v → Begins v.seen []
    one zero v e = subst (λ (u : Sight). Begins u.seen []) (some-injective newcomer v e) ([], refl)
    one (suc k) v e = absurd (some-ne-none v (sym e))

pub admits : Admits OneOrder newcomer
admits x views h =
    let new = λ (v : Sight) (same : newcomer ≡ v). subst (λ (u : Sight). Begins u.seen h.0) same (h.0, refl) in
    (h.0, h.1, λ k v e. ⊎_elim (h.2 k v) (new v) (at_snoc views newcomer v k e))

-- more changes are published, or none
pub publishes : (id : ℕ) (v : Sight) (x y : Store) (new : List Change)
    → y.map.entries ≡ fold changed x.map.entries new → TurnsAt OneOrder id v x y looked
publishes id v x y new is views h at =
    let log = h.0 ++ new in
    let w : Sight = record { seen = log } in
    let e : y.map.entries ≡ entries_of log = is
    ∙ (ap (λ es. fold changed es new) h.1 ∙ sym (fold-append [] h.0 new)) in (
      w,
      (log, e, others views log id w ([], sym (append-nil log)) (λ j u q. begins_more u.seen h.0 new (h.2 j u q))),
      (begins_more v.seen h.0 new (h.2 id v at), e),
    )

pub looks : (id : ℕ) (v : Sight) → Turns OneOrder id v (λ x. x) looked
looks id v x = publishes id v x x [] refl
