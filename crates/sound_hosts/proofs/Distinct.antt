-- No two books are of one flow, and a flow that waits for Accept has no socket: for the law
-- no_call_finds_its_slot_in_use.
use Rattle.std.proofs.Common.{◌≡◌, ℕ, ◌+◌, ◌≤◌, ◌==◌, ◌&&◌, ◌||◌, cond, Bool, true, false, List, [], ◌∷◌, ◌++◌}
use Rattle.std.proofs.Common.{map, refl}
use Rattle.std.proofs.Common.{sym, ap, ◌∙◌, subst, arith, Some, Option, None, count_by, suc, slice_get}
use Rattle.std.specs.List.{filter, list_any, find}
use Rattle.std.specs.Option.{option_map}
use Rattle.std.proofs.lemmas.Bool.Decides.{nat_tests}
use Rattle.tas_model.specs.declared.entry.FlowId.{FlowId}
use Rattle.host_rounds.specs.Lists.{Each}
use Rattle.core_rounds.proofs.Filters.{tally, count_cons}
use Rattle.flow_lock.specs.Orders.{same_flow}
use Rattle.flow_lock.specs.declared.view.Held.{Held}
use Rattle.slow_handshake.specs.Openings.{id_of as passive_id}
use Rattle.slow_handshake.specs.declared.openings.PassiveFlow.{PassiveFlow}
use Rattle.host_books.specs.Books.{Book}
use Rattle.sound_hosts.proofs.OpenSockets.{each_at}
use Rattle.sound_hosts.specs.Hosts.{id_of, is_of_slot, waits, passive_flow, waiting_in}
use Rattle.sound_hosts.specs.Hosts.{AreNumbered}

-- ----- counts
pub count_push : (p : Book → Bool) (bs : List Book) (b : Book) → count_by p (bs ++ b ∷ []) ≡ count_by p bs + tally (p b)
count_push p [] b = let e : count_by p (b ∷ []) ≡ tally (p b) + count_by p [] = count_cons p b [] in omega (arith, e)
count_push p (c ∷ cs) b =
    let rest : count_by p (cs ++ b ∷ []) ≡ count_by p cs + tally (p b) = count_push p cs b in
    let x : count_by p (c ∷ (cs ++ b ∷ [])) ≡ tally (p c) + count_by p (cs ++ b ∷ []) = count_cons p c (cs ++ b ∷ []) in
    let y : count_by p (c ∷ cs) ≡ tally (p c) + count_by p cs = count_cons p c cs in
    omega (arith, rest, x, y)

-- ----- names
-- those behind have other slots or later generations
later : (slots : ℕ) (i g : ℕ) (before bs : List Book) → AreNumbered slots before bs
    → g ≤ count_by (is_of_slot i) before
    → Each (λ (c : Book). ((i == c.id.slot) && (g == c.id.generation)) ≡ false) bs
later slots i g before [] numbered le = tt
later slots i g before (c ∷ cs) (slot, generation, more) le =
    let pushed : count_by (is_of_slot i) (before ++ c ∷ []) ≡ count_by (is_of_slot i) before + tally (is_of_slot i c) =
    count_push (is_of_slot i) before c in
    (other (i == c.id.slot) refl, later slots i g (before ++ c ∷ []) cs more (omega (arith, pushed, le)))
  where
    other : (s : Bool) → (i == c.id.slot) ≡ s → ((i == c.id.slot) && (g == c.id.generation)) ≡ false
    other false e = ap (λ s. s && (g == c.id.generation)) e
    other true e =
        let same : i ≡ c.id.slot = grind (arith, nat_tests, e) in
        let least : g ≤ count_by (is_of_slot c.id.slot) before =
        subst (λ j. g ≤ count_by (is_of_slot j) before) same le in
        let differs : (g == c.id.generation) ≡ false = grind (arith, nat_tests, generation, least) in
        ap (λ s. s && (g == c.id.generation)) e ∙ differs

own_slot : (b : Book) → is_of_slot b.id.slot b ≡ true
own_slot b = grind (arith, nat_tests)

-- ----- a flow that waits
abbrev Others : Book → List Book → Type 0
Others b bs = Each (λ (c : Book). same_flow b.id c.id ≡ false) bs

pub distinct : (slots : ℕ) (before : List Book) (b : Book) (bs : List Book) → AreNumbered slots before (b ∷ bs)
    → Others b bs
distinct slots before b bs (slot, generation, more) =
    let pushed : count_by (is_of_slot b.id.slot) (before ++ b ∷ [])
    ≡ count_by (is_of_slot b.id.slot) before + tally (is_of_slot b.id.slot b) =
    count_push (is_of_slot b.id.slot) before b in
    let one : tally (is_of_slot b.id.slot b) ≡ 1 = ap tally (own_slot b) in
    later slots b.id.slot b.id.generation (before ++ b ∷ []) bs more (omega (arith, pushed, one, generation))

same_sym : (f g : FlowId) → same_flow f g ≡ same_flow g f
same_sym f g = grind (arith, nat_tests)

-- the names of those that pass a test which b doesn't pass
not_named : (test : Book → Bool) (b : Book) (bs : List Book) → Others b bs
    → list_any (same_flow b.id) (map id_of (filter test bs)) ≡ false
not_named test b [] others = refl
not_named test b (c ∷ cs) others = by (test c) (not_named test b cs others.1)
  where
    by : (t : Bool) → list_any (same_flow b.id) (map id_of (filter test cs)) ≡ false
        → list_any (same_flow b.id) (map id_of (cond t (c ∷ filter test cs) (filter test cs))) ≡ false
    by true rest = (λ i. others.0 i || rest i)
    by false rest = rest

-- What holds of a flow that is found among those that wait: it is a book's that waits.
pub record IsWaiting (known : List Held) (test : Book → Bool) (bs : List Book) (id : FlowId) : Type 0 where
  pub book : Book
  pub place : ℕ
  pub at : slice_get bs place ≡ Some book
  pub name : book.id ≡ id
  pub waiting : waits known book ≡ true
  pub apart : list_any (same_flow id) (map id_of (filter test bs)) ≡ false

module _ (known : List Held) (test : Book → Bool) (never : (b : Book) → waits known b ≡ true → test b ≡ false)
    (pass : PassiveFlow → Bool) where
  abbrev found : List Book → Option FlowId
  found bs = option_map passive_id (find pass (waiting_in known bs))

  no_some : (id : FlowId) → ◌≡◌ {A = Option FlowId} None (Some id) → ⊥
  no_some id e = absurd (cc e)

  some_is : (f g : FlowId) → ◌≡◌ {A = Option FlowId} (Some f) (Some g) → f ≡ g
  some_is f g e = cc e

  pub is_waiting : (slots : ℕ) (before bs : List Book) (id : FlowId) → AreNumbered slots before bs → found bs ≡ Some id
      → IsWaiting known test bs id
  is_waiting slots before [] id numbered e = absurd (no_some id e)
  is_waiting slots before (b ∷ bs) id numbered e =
      by_wait (waits known b) refl e (is_waiting slots (before ++ b ∷ []) bs id numbered.2)
    where
      behind : IsWaiting known test bs id → IsWaiting known test (b ∷ bs) id
      behind w = record {
        book = w.book;
        place = suc w.place;
        at = w.at;
        name = w.name;
        waiting = w.waiting;
        apart = by (test b) refl;
      }
        where
          by : (t : Bool) → test b ≡ t
              → list_any (same_flow id) (map id_of (cond t (b ∷ filter test bs) (filter test bs))) ≡ false
          by false q = w.apart
          by true q =
              let other : same_flow b.id w.book.id ≡ false =
              each_at (λ (c : Book). same_flow b.id c.id ≡ false) bs w.place w.book
              (distinct slots before b bs numbered) w.at in
              let own : same_flow id b.id ≡ false =
              ap (λ f. same_flow f b.id) (sym w.name) ∙ (same_sym w.book.id b.id ∙ other) in
              (λ i. own i || w.apart i)

      by_pass : waits known b ≡ true → (p : Bool)
          → option_map passive_id (cond p (Some (passive_flow known b)) (find pass (waiting_in known bs))) ≡ Some id
          → (found bs ≡ Some id → IsWaiting known test bs id) → IsWaiting known test (b ∷ bs) id
      by_pass w true q rest =
          let name : b.id ≡ id = some_is b.id id q in
          record {
            book = b;
            place = 0;
            at = refl;
            name = name;
            waiting = w;
            apart = subst (λ f. list_any (same_flow f) (map id_of (filter test (b ∷ bs))) ≡ false) name
                (ap (λ t. list_any (same_flow b.id) (map id_of (cond t (b ∷ filter test bs) (filter test bs))))
                (never b w)
                ∙ not_named test b bs (distinct slots before b bs numbered));
          }
      by_pass w false q rest = behind (rest q)

      by_wait : (w : Bool) → waits known b ≡ w
          → option_map passive_id
          (find pass (cond w (passive_flow known b ∷ waiting_in known bs) (waiting_in known bs)))
          ≡ Some id
          → (found bs ≡ Some id → IsWaiting known test bs id) → IsWaiting known test (b ∷ bs) id
      by_wait true w q rest = by_pass w (pass (passive_flow known b)) q rest
      by_wait false w q rest = behind (rest q)
