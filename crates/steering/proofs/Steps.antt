-- Each step keeps the order.
use Rattle.std.proofs.Common.{◌≡◌, ℕ, zero, suc, List, [], ◌∷◌, ◌++◌, set, map, sym, refl, ap, ◌∙◌, subst, ⊎_elim}
use Rattle.std.proofs.Common.{append_assoc, append-nil}
use mathlib.Core.Option.{some, some-ne-none, some-injective}
use lib.ListN.{get_elem?}
use Rattle.std.proofs.lemmas.List.{map-append}
use Rattle.crossbeam_utils.specs.Register.{Turns, Forks}
use Rattle.atomic_table.proofs.Lists.{at_set, at_snoc, set_again}
use Rattle.steering.specs.declared.order.Seen.{Seen}
use Rattle.steering.specs.Tables.{Table, Begins, EndsWith}
use Rattle.steering.specs.Order.{first_words, newcomer, OneOrder, loaded, swapped}

begins_more : (xs ys zs : List (List ℕ)) → Begins xs ys → Begins xs (ys ++ zs)
begins_more xs ys zs b = (b.0 ++ zs, ap (λ l. l ++ zs) b.1 ∙ append_assoc xs b.0 zs)

-- one pass knows more, and the others what they knew
others : (views : List Seen) (log : List (List ℕ)) (id : ℕ) (w : Seen) → Begins w.words log
    → ((k : ℕ) (v : Seen) → get_elem? views k ≡ some v → Begins v.words log) → (k : ℕ) (v : Seen)
    → get_elem? (set views id w) k ≡ some v → Begins v.words log
others views log id w mine h k v e =
    ⊎_elim (λ (t : (k ≡ id)
    × (w ≡ v)). subst (λ (u : Seen). Begins u.words log) t.1 mine) (λ t. h k v t.1) (at_set views id k w v e)

pub begins : OneOrder first_words (newcomer ∷ [])
begins = (first_words ∷ [], ([], refl), one)
  where
    one : (k : ℕ) (v : Seen) → get_elem? (newcomer ∷ []) k ≡ some v → Begins v.words (first_words ∷ [])
    one zero v e = subst (λ (u : Seen). Begins u.words (first_words ∷ [])) (some-injective newcomer v e) ([], refl)
    one (suc k) v e = absurd (some-ne-none v (sym e))

pub loads : (id : ℕ) (v : Seen) → Turns OneOrder id v (λ x. x) loaded
loads id v cell views h at =
    let w : Seen = record { words = h.0 } in
    (w, (h.0, h.1, others views h.0 id w ([], sym (append-nil h.0)) h.2), (h.2 id v at, h.1))

pub swaps : (id : ℕ) (v : Seen) (new : List ℕ) → Turns OneOrder id v (λ _. new) swapped
swaps id v new cell views h at =
    let log = h.0 ++ new ∷ [] in
    let w : Seen = record { words = log } in
    let more = λ (k : ℕ) (u : Seen) (e : get_elem? views k ≡ some u). begins_more u.words h.0 (new ∷ []) (h.2 k u e) in
    let b = h.2 id v at in (
      w,
      (log, (h.0, refl), others views log id w ([], sym (append-nil log)) more),
      (b.0, ap (λ l. l ++ new ∷ []) b.1),
    )

pub forks : (id : ℕ) (v : Seen) → Forks OneOrder id v v v
forks id v cell views h at = (
  h.0,
  h.1,
  λ k u e. ⊎_elim
      (λ was. h.2 k u (subst (λ l. get_elem? l k ≡ some u) (set_again views id v at) was))
      (λ (same : v ≡ u). subst (λ (y : Seen). Begins y.words h.0) same (h.2 id v at))
      (at_snoc (set views id v) v u k e),
)

-- The same of tables as of their words.
module _ (f : List ℕ → Table) where
  pub begins_mapped : (xs ys : List (List ℕ)) → Begins xs ys → Begins (map f xs) (map f ys)
  begins_mapped xs ys b = (map f b.0, ap (map f) b.1 ∙ map-append f xs b.0)

  pub ends_mapped : (x : List ℕ) (xs : List (List ℕ)) → EndsWith x xs → EndsWith (f x) (map f xs)
  ends_mapped x xs e = (map f e.0, ap (map f) e.1 ∙ map-append f e.0 (x ∷ []))

  pub swap_mapped : (now between ws : List (List ℕ)) (new : List ℕ) (table : Table)
      → ws ≡ (now ++ between) ++ new ∷ [] → f new ≡ table → map f ws ≡ (map f now ++ map f between) ++ table ∷ []
  swap_mapped now between ws new table e is =
      ap (map f) e ∙ (map-append f (now ++ between) (new ∷ []) ∙ (λ i. map-append f now between i ++ is i ∷ []))
