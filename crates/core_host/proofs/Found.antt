-- Histories that are found by their flows: for the answers for `CoreHost::finish` and its parts.
use Rattle.std.proofs.Common.{◌≡◌, ℕ, cond, Bool, true, false, true≢false, List, [], ◌∷◌, ◌++◌, map, refl, sym, ap, ◌∙◌}
use Rattle.std.proofs.Common.{subst}
use Rattle.std.proofs.Common.{append_assoc, append-nil, arith, zero, suc, ◌+◌, ◌<◌, ◌≤◌, length, take, drop}
use Rattle.std.proofs.lemmas.List.{map-append, take_all}
use Rattle.std.specs.Prelude.{Option, Some, None, IsSome, is_some, slice_get}
use Rattle.tas_model.specs.declared.entry.FlowId.{FlowId}
use Rattle.host_rounds.specs.Lists.{Each}
use Rattle.host_rounds.proofs.Lists.{each_append}
use Rattle.host_books.specs.Books.{Book}
use Rattle.sound_hosts.specs.Hosts.{id_of}
use Rattle.host_books.proofs.Indexing.{is_same_flow}
use Rattle.host_books.proofs.Orders.{same_self}
use Rattle.flow_state.specs.Flow.{Flow, History, left_of}
use Rattle.flow_lock.specs.Orders.{same_flow}
use Rattle.flow_lock.specs.declared.view.Held.{Held}
use Rattle.core_host.specs.Ending.{IsFiledAs, record_id, left_in, found_in, AreFound, AreApart, IsLegal}

abbrev pub Entries : Type 0
Entries = List ((ℕ × ℕ) × History)

-- a record whose history is the one that is known leaves that one
pub left_as : (known : List Held) (r : Flow) → IsFiledAs known r → left_of r ≡ left_in known r.id
left_as known r is =
    λ i. record { id = r.id; tuple = (is i).tuple; params = (is i).params; entries = (is i).entries }

some_is : (h k : History) → ◌≡◌ {A = Option History} (Some h) (Some k) → h ≡ k
some_is h k e = cc e

-- a history more, the one that is known of its flow
module _ (known : List Held) (es fs : Entries) (h : History) (f : FlowId) (is : h ≡ left_in known f)
    (put : (id : FlowId) → found_in fs id ≡ cond (same_flow h.id id) (Some h) (found_in es id)) where
  named : h.id ≡ f
  named = ap (λ (x : History). x.id) is

  at : (id : FlowId) → found_in fs id ≡ cond (same_flow f id) (Some h) (found_in es id)
  at id = put id ∙ ap (λ g. cond (same_flow g id) (Some h) (found_in es id)) named

  still : (id : FlowId) → IsSome (found_in es id) → IsSome (found_in fs id)
  still id some = subst IsSome (sym (at id)) (by (same_flow f id))
    where
      by : (t : Bool) → IsSome (cond t (Some h) (found_in es id))
      by true = refl
      by false = some

  right : (AreFound known es []) → (id : FlowId) (k : History) → found_in fs id ≡ Some k → k ≡ left_in known id
  right found id k e = by (same_flow f id) refl (sym (at id) ∙ e)
    where
      by : (t : Bool) → same_flow f id ≡ t → cond t (Some h) (found_in es id) ≡ Some k → k ≡ left_in known id
      by true same here = sym (some_is h k here) ∙ (is ∙ ap (left_in known) (is_same_flow f id same))
      by false same there = found.right id k there

  all_still : (ids : List FlowId) → Each (λ (id : FlowId). IsSome (found_in es id)) ids
      → Each (λ (id : FlowId). IsSome (found_in fs id)) ids
  all_still [] all = tt
  all_still (id ∷ ids) all = (still id all.0, all_still ids all.1)

  here : IsSome (found_in fs f)
  here = subst IsSome (sym (at f ∙ ap (λ t. cond t (Some h) (found_in es f)) (same_self f))) refl

  pub found_more : (ids : List FlowId) → AreFound known es ids → AreFound known fs (ids ++ f ∷ [])
  found_more ids found = record {
    right = right (record { right = found.right; all = tt });
    all = each_append (λ (id : FlowId). IsSome (found_in fs id)) ids (f ∷ []) (all_still ids found.all) (here, tt);
  }

pub found_nothing : (known : List Held) → AreFound known [] []
found_nothing known = record { right = λ id h e. absurd (cc (e)); all = tt }

-- ----- records that were filed
-- what is left of them is still to be found
abbrev pub FiledFrom : Entries → (all left : List Flow) → Entries → Type 0
FiledFrom es all left fs = (known : List Held) (ids : List FlowId) → AreFound known es ids → Each (IsFiledAs known) all
    → (done : List FlowId) × (ids ++ map record_id all ≡ done ++ map record_id left) × AreFound known fs done
    × Each (IsFiledAs known) left

pub filed_begins : (es : Entries) (all : List Flow) → FiledFrom es all all es
filed_begins es all known ids found are = (ids, refl, found, are)

pub filed_more : (es fs gs : Entries) (all left rest : List Flow) (r : Flow) → FiledFrom es all left fs
    → left ≡ r ∷ rest
    → ((id : FlowId) → found_in gs id ≡ cond (same_flow (left_of r).id id) (Some (left_of r)) (found_in fs id))
    → FiledFrom es all rest gs
filed_more es fs gs all left rest r is first put known ids found are =
    let (done, same, there, each) = is known ids found are in
    let e : Each (IsFiledAs known) (r ∷ rest) = subst (Each (IsFiledAs known)) first each in (
      done ++ r.id ∷ [],
      same ∙ (ap (λ l. done ++ map record_id l) first ∙ sym (append_assoc done (r.id ∷ []) (map record_id rest))),
      found_more known fs gs (left_of r) r.id (left_as known r e.0) put done there,
      e.1,
    )

pub filed_ends : (es fs : Entries) (all left : List Flow) → FiledFrom es all left fs → left ≡ []
    → (known : List Held) (ids : List FlowId) → AreFound known es ids → Each (IsFiledAs known) all
    → AreFound known fs (ids ++ map record_id all)
filed_ends es fs all left is none known ids found are =
    let (done, same, there, each) = is known ids found are in
    subst (AreFound known fs)
    (sym (same ∙ (ap (λ l. done ++ map record_id l) none ∙ append-nil done))) there

-- ----- in the order of books
-- the book at a place, those before it and those behind it
split_at : (i : ℕ) (bs : List Book) → i < length bs
    → (b : Book) × (slice_get bs i ≡ Some b) × (drop i bs ≡ b ∷ drop (i + 1) bs) × (take (i + 1) bs ≡ take i bs ++ b ∷
    [])
split_at i [] near = absurd (omega (arith, near))
split_at zero (b ∷ bs) near = (b, refl, refl, refl)
split_at (suc i) (b ∷ bs) near =
    let (c, at, behind, before) = split_at i bs (omega (arith, near)) in
    let e : suc i + 1 ≡ suc (i + 1) = omega arith in (
      c,
      at,
      behind ∙ ap (λ n. c ∷ drop n (b ∷ bs)) (sym e),
      ap (λ n. take n (b ∷ bs)) e ∙ ap (λ l. b ∷ l) before,
    )

-- The histories of the first so many books stand there, and those of the others are still to be taken.
pub record AreTaken (es : Entries) (books : List Book) (i : ℕ) (fs : Entries) (flows : List History) : Type 0 where
  pub rest : (known : List Held) → AreFound known es (map id_of books) → AreApart books
      → AreFound known fs (map id_of (drop i books)) × AreApart (drop i books)
      × (flows ≡ map (left_in known) (map id_of (take i books)))
  pub legal : Each IsLegal flows

pub taking_begins : (es : Entries) (books : List Book) → AreTaken es books 0 es []
taking_begins es books = record { rest = λ known found apart. (found, apart, refl); legal = tt }

-- the next one is there
pub never_gone : (known : List Held) (es : Entries) (books : List Book) (i : ℕ) (fs : Entries) (flows : List History)
    (id : FlowId) → AreTaken es books i fs flows → AreFound known es (map id_of books) → AreApart books
    → i < length books → ((b : Book) → slice_get books i ≡ Some b → b.id ≡ id) → found_in fs id ≡ None → ⊥
never_gone known es books i fs flows id is found apart near named none =
    let (b, at, behind, before) = split_at i books near in
    let there : AreFound known fs (map id_of (b ∷ drop (i + 1) books)) =
    subst (λ (l : List Book). AreFound known fs (map id_of l)) behind (is.rest known found apart).0 in
    absurd (true≢false (sym there.all.0 ∙ (ap (λ f. is_some (found_in fs f)) (named b at) ∙ ap is_some none)))

module _ (known : List Held) (fs gs : Entries) (b : Book) (bs : List Book)
    (gone : found_in gs b.id ≡ None)
    (rest : (other : FlowId) → same_flow b.id other ≡ false → found_in gs other ≡ found_in fs other) where
  taken_right : AreFound known fs (map id_of (b ∷ bs)) → (id : FlowId) (h : History) → found_in gs id ≡ Some h
      → h ≡ left_in known id
  taken_right found id h e = by (same_flow b.id id) refl
    where
      by : (t : Bool) → same_flow b.id id ≡ t → h ≡ left_in known id
      by true same =
          let none : found_in gs id ≡ None = ap (found_in gs) (sym (is_same_flow b.id id same)) ∙ gone in
          absurd (cc (none, e))
      by false other = found.right id h (sym (rest id other) ∙ e)

  taken_all : (cs : List Book) → Each (λ (c : Book). same_flow b.id c.id ≡ false) cs
      → Each (λ (id : FlowId). IsSome (found_in fs id)) (map id_of cs)
      → Each (λ (id : FlowId). IsSome (found_in gs id)) (map id_of cs)
  taken_all [] apart all = tt
  taken_all (c ∷ cs) apart all =
      (ap (λ x. is_some x) (rest c.id apart.0) ∙ all.0, taken_all cs apart.1 all.1)

  pub one_taken : Each (λ (c : Book). same_flow b.id c.id ≡ false) bs → AreFound known fs (map id_of (b ∷ bs))
      → AreFound known gs (map id_of bs)
  one_taken apart found = record { right = taken_right found; all = taken_all bs apart found.all.1 }

pub taking_more : (es : Entries) (books : List Book) (i : ℕ) (fs gs : Entries) (flows : List History) (id : FlowId)
    (h : History) → AreTaken es books i fs flows → i < length books
    → ((b : Book) → slice_get books i ≡ Some b → b.id ≡ id) → found_in fs id ≡ Some h → found_in gs id ≡ None
    → ((other : FlowId) → same_flow id other ≡ false → found_in gs other ≡ found_in fs other) → IsLegal h
    → AreTaken es books (i + 1) gs (flows ++ h ∷ [])
taking_more es books i fs gs flows id h is near named at gone others legal = record {
  rest = λ known found apart.
      let (b, place, behind, before) = split_at i books near in
      let (there, away, flows_are) = is.rest known found apart in
      let e : b.id ≡ id = named b place in
      let here : AreFound known fs (map id_of (b ∷ drop (i + 1) books)) =
      subst (λ (l : List Book). AreFound known fs (map id_of l)) behind there in
      let parts : AreApart (b ∷ drop (i + 1) books) = subst AreApart behind away in (
        one_taken known fs gs b (drop (i + 1) books) (ap (found_in gs) e ∙ gone)
            (subst (λ f. (other : FlowId) → same_flow f other ≡ false → found_in gs other ≡ found_in fs other) (sym e)
            others) parts.0 here,
        parts.1,
        (λ j. flows_are j ++ (here.right id h at ∙ ap (left_in known) (sym e)) j ∷ [])
            ∙ (sym (map-append (left_in known) (map id_of (take i books)) (b.id ∷ []))
            ∙ (ap (map (left_in known)) (sym (map-append id_of (take i books) (b ∷ [])))
            ∙ ap (λ l. map (left_in known) (map id_of l)) (sym before))),
      );
  legal = each_append IsLegal flows (h ∷ []) is.legal (legal, tt);
}

pub taking_ends : (es : Entries) (books : List Book) (i : ℕ) (fs : Entries) (flows : List History)
    → AreTaken es books i fs flows → length books ≤ i → (known : List Held) → AreFound known es (map id_of books)
    → AreApart books → flows ≡ map (left_in known) (map id_of books)
taking_ends es books i fs flows is all known found apart =
    (is.rest known found apart).2 ∙ ap (λ l. map (left_in known) (map id_of l)) (take_all i books all)
