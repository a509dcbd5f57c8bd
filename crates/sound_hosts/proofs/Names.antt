-- The names of the books that pass a test, and where one of them stands: for the laws of flows that are accepted, and
-- of the time of a tick.
use Rattle.std.proofs.Common.{◌≡◌, ◌+◌, cond, Bool, true, false, List, [], ◌∷◌, ◌++◌, map, refl, sym, ap, ◌∙◌, arith}
use Rattle.std.proofs.Common.{count_by}
use Rattle.std.specs.Prelude.{IsPermutation}
use Rattle.std.specs.List.{filter}
use Rattle.std.proofs.lemmas.List.Sorted.{IsPermutation-sym, IsPermutation-push_more, IsPermutation-middle}
use Rattle.tas_model.specs.declared.entry.FlowId.{FlowId}
use Rattle.host_rounds.proofs.Lists.{map_append, filter_append}
use Rattle.core_rounds.proofs.Filters.{tally, count_cons}
use Rattle.flow_lock.specs.Orders.{same_flow}
use Rattle.host_books.specs.Books.{Book}
use Rattle.host_books.proofs.Indexing.{is_same_flow}
use Rattle.host_books.proofs.Orders.{same_self}
use Rattle.sound_hosts.specs.Hosts.{id_of}
use Rattle.sound_hosts.proofs.Counts.{count_middle, count_same, found, by_counts, IsFound}

-- the names of those that pass
abbrev pub names : (Book → Bool) → List Book → List FlowId
names p bs = map id_of (filter p bs)

pub names_split : (p : Book → Bool) (xs : List Book) (b : Book) (cs : List Book)
    → names p (xs ++ b ∷ cs) ≡ names p xs ++ cond (p b) (b.id ∷ names p cs) (names p cs)
names_split p xs b cs =
    ap (map id_of) (filter_append p xs (b ∷ cs))
    ∙ (map_append id_of (filter p xs) (cond (p b) (b ∷ filter p cs) (filter p cs))
    ∙ ap (λ l. names p xs ++ l) (by (p b)))
  where
    by : (t : Bool) → map id_of (cond t (b ∷ filter p cs) (filter p cs)) ≡ cond t (b.id ∷ names p cs) (names p cs)
    by true = refl
    by false = refl

pub names_with : (p : Book → Bool) (xs : List Book) (b : Book) (cs : List Book) → p b ≡ true
    → names p (xs ++ b ∷ cs) ≡ names p xs ++ b.id ∷ names p cs
names_with p xs b cs e = names_split p xs b cs ∙ ap (λ t. names p xs ++ cond t (b.id ∷ names p cs) (names p cs)) e

pub names_without : (p : Book → Bool) (xs : List Book) (b : Book) (cs : List Book) → p b ≡ false
    → names p (xs ++ b ∷ cs) ≡ names p xs ++ names p cs
names_without p xs b cs e = names_split p xs b cs ∙ ap (λ t. names p xs ++ cond t (b.id ∷ names p cs) (names p cs)) e

pub names_swap : (p : Book → Bool) (xs : List Book) (b c : Book) (cs : List Book) → c.id ≡ b.id → p c ≡ p b
    → names p (xs ++ c ∷ cs) ≡ names p (xs ++ b ∷ cs)
names_swap p xs b c cs named same =
    names_split p xs c cs
    ∙ ((λ i. names p xs ++ cond (same i) (named i ∷ names p cs) (names p cs)) ∙ sym (names_split p xs b cs))

-- ----- where a name stands
pub record IsSplit (p : Book → Bool) (id : FlowId) (front back : List FlowId) (bs : List Book) : Type 0 where
  pub before : List Book
  pub book : Book
  pub behind : List Book
  pub is : bs ≡ before ++ book ∷ behind
  pub name : book.id ≡ id
  pub passes : p book ≡ true
  pub fronts : names p before ≡ front
  pub backs : names p behind ≡ back

pub split_at : (p : Book → Bool) (id : FlowId) (front back : List FlowId) (bs : List Book)
    → names p bs ≡ front ++ id ∷ back → IsSplit p id front back bs
split_at p id [] back [] e = absurd (cc (e))
split_at p id (f ∷ front) back [] e = absurd (cc (e))
split_at p id front back (b ∷ bs) e = by (p b) refl front e (λ fs q. split_at p id fs back bs q)
  where
    head_is : (x y : FlowId) (xs ys : List FlowId) → ◌≡◌ {A = List FlowId} (x ∷ xs) (y ∷ ys) → x ≡ y
    head_is x y xs ys q = cc (q)

    tail_is : (x y : FlowId) (xs ys : List FlowId) → ◌≡◌ {A = List FlowId} (x ∷ xs) (y ∷ ys) → xs ≡ ys
    tail_is x y xs ys q = cc (q)

    by : (t : Bool) → p b ≡ t → (fs : List FlowId)
        → map id_of (cond t (b ∷ filter p bs) (filter p bs)) ≡ fs ++ id ∷ back
        → ((gs : List FlowId) → names p bs ≡ gs ++ id ∷ back → IsSplit p id gs back bs)
        → IsSplit p id fs back (b ∷ bs)
    by true t [] q rest = record {
      before = [];
      book = b;
      behind = bs;
      is = refl;
      name = head_is b.id id (names p bs) back q;
      passes = t;
      fronts = refl;
      backs = tail_is b.id id (names p bs) back q;
    }
    by true t (f ∷ fs) q rest =
        let r = rest fs (tail_is b.id f (names p bs) (fs ++ id ∷ back) q) in
        record {
          before = b ∷ r.before;
          book = r.book;
          behind = r.behind;
          is = ap (λ l. b ∷ l) r.is;
          name = r.name;
          passes = r.passes;
          fronts = ap (λ s. map id_of (cond s (b ∷ filter p r.before) (filter p r.before))) t
              ∙ (λ i. head_is b.id f (names p bs) (fs ++ id ∷ back) q i ∷ r.fronts i);
          backs = r.backs;
        }
    by false t fs q rest =
        let r = rest fs q in
        record {
          before = b ∷ r.before;
          book = r.book;
          behind = r.behind;
          is = ap (λ l. b ∷ l) r.is;
          name = r.name;
          passes = r.passes;
          fronts = ap (λ s. map id_of (cond s (b ∷ filter p r.before) (filter p r.before))) t ∙ r.fronts;
          backs = r.backs;
        }

-- one that is first in an order of all names
pub split_of : (p : Book → Bool) (id : FlowId) (rest : List FlowId) (bs : List Book)
    → IsPermutation (id ∷ rest) (names p bs)
    → (front : List FlowId) × (back : List FlowId) × IsSplit p id front back bs × IsPermutation rest (front ++ back)
split_of p id rest bs perm =
    let a : count_by (same_flow id) (id ∷ rest) ≡ tally (same_flow id id) + count_by (same_flow id) rest =
    count_cons (same_flow id) id rest in
    let b : tally (same_flow id id) ≡ 1 = ap tally (same_self id) in
    let c : count_by (same_flow id) (id ∷ rest) ≡ count_by (same_flow id) (names p bs) =
    count_same (same_flow id) (id ∷ rest) (names p bs) perm in
    let f = found same_flow is_same_flow same_self id (names p bs) (omega (arith, a, b, c)) in (
      f.before,
      f.behind,
      split_at p id f.before f.behind bs f.is,
      by_counts same_flow is_same_flow same_self rest (f.before ++ f.behind) (λ z. fewer f z),
    )
  where
    fewer : (f : IsFound id (names p bs)) (z : FlowId)
        → count_by (same_flow z) rest ≡ count_by (same_flow z) (f.before ++ f.behind)
    fewer f z =
        let a : count_by (same_flow z) (id ∷ rest) ≡ tally (same_flow z id) + count_by (same_flow z) rest =
        count_cons (same_flow z) id rest in
        let b : count_by (same_flow z) (id ∷ rest) ≡ count_by (same_flow z) (names p bs) =
        count_same (same_flow z) (id ∷ rest) (names p bs) perm in
        let c : count_by (same_flow z) (names p bs) ≡ count_by (same_flow z) (f.before ++ id ∷ f.behind) =
        ap (λ l. count_by (same_flow z) l) f.is in
        let d : count_by (same_flow z) (f.before ++ id ∷ f.behind)
        ≡ tally (same_flow z id) + count_by (same_flow z) (f.before ++ f.behind) =
        count_middle (same_flow z) f.before id f.behind in
        omega (arith, a, b, c, d)

-- one more at the end of the one, and in the middle of the other
pub one_more : (fs front back : List FlowId) (id : FlowId) → IsPermutation fs (front ++ back)
    → IsPermutation (fs ++ id ∷ []) (front ++ id ∷ back)
one_more fs front back id perm =
    IsPermutation-push_more fs (front ++ back) (front ++ id ∷ back) id perm
    (IsPermutation-sym (front ++ id ∷ back) (id ∷ (front ++ back)) (IsPermutation-middle front id back))
