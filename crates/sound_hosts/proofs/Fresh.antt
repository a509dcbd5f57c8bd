-- What books have of the flows where a history of a further flow is known: for the law frames_that_open_keep_it.
use Rattle.std.proofs.Common.{◌≡◌, ℕ, zero, suc, ◌&&◌, not, cond, Bool, true, false, List, [], ◌∷◌, ◌++◌, length}
use Rattle.std.proofs.Common.{refl, sym, ap}
use Rattle.std.proofs.Common.{◌∙◌, subst, inl, inr, true≢false}
use Rattle.std.specs.Prelude.{◌⊎◌}
use Rattle.tas_model.specs.declared.entry.FlowId.{FlowId}
use Rattle.tas_model.specs.declared.entry.FourTuple.{FourTuple}
use Rattle.host_rounds.specs.Hosts.{Holder, is_indexed_as, is_waiting_by, same_tuple}
use Rattle.host_rounds.specs.Lists.{Each}
use Rattle.flow_lock.specs.Orders.{known_of, same_flow}
use Rattle.flow_lock.specs.declared.view.Held.{Held}
use Rattle.flow_lock.specs.declared.view.History.{History}
use Rattle.flow_clock.specs.Histories.{is_over, is_running}
use Rattle.host_books.specs.Books.{Book, live_in, IsAt}
use Rattle.host_books.specs.Indexes.{AreIndexed, AreOnce, IsFindable}
use Rattle.host_books.proofs.Indexing.{is_same_flow}
use Rattle.host_books.proofs.Orders.{same_self}
use Rattle.sound_hosts.specs.Hosts.{flows_in, waiting_in, tuple_of, known_flow, passive_flow, waits}
use Rattle.sound_hosts.specs.Opening.{new_book}

module _ (known : List Held) (id : FlowId) (k : History) where
  abbrev after : List Held
  after = record { flow = id; history = k } ∷ known

  abbrev IsOther : Book → Type 0
  IsOther c = same_flow id c.id ≡ false

  pub other : (f : FlowId) → same_flow id f ≡ false → known_of f after ≡ known_of f known
  other f e = ap (λ s. cond s k (known_of f known)) e

  pub own : known_of id after ≡ k
  own = ap (λ s. cond s k (known_of id known)) (same_self id)

  -- ----- lists of the books before
  flows_fresh : (bs : List Book) → Each IsOther bs → flows_in after bs ≡ flows_in known bs
  flows_fresh [] each = refl
  flows_fresh (b ∷ bs) each =
      λ i. cond b.indexed (record { tuple = (other b.id each.0 i).tuple; id = b.id } ∷ flows_fresh bs each.1 i)
      (flows_fresh bs each.1 i)

  pub waiting_fresh : (bs : List Book) → Each IsOther bs → waiting_in after bs ≡ waiting_in known bs
  waiting_fresh [] each = refl
  waiting_fresh (b ∷ bs) each =
      λ i. cond (is_waiting_by b.holder && not (is_over (other b.id each.0 i)))
      (record { id = b.id; port = (other b.id each.0 i).tuple.lport; ready = is_running (other b.id each.0 i) }
      ∷ waiting_fresh bs each.1 i)
      (waiting_fresh bs each.1 i)

  -- ----- with the flow more
  module _ (holder : Holder) where
    abbrev b : Book
    b = new_book id holder

    pub flows_more : (bs : List Book) → Each IsOther bs
        → flows_in after (bs ++ b ∷ []) ≡ flows_in known bs ++ record { tuple = k.tuple; id = id } ∷ []
    flows_more [] each = λ i. record { tuple = (own i).tuple; id = id } ∷ []
    flows_more (c ∷ cs) each = by c.indexed (flows_more cs each.1)
      where
        by : (x : Bool)
            → flows_in after (cs ++ b ∷ []) ≡ flows_in known cs ++ record { tuple = k.tuple; id = id } ∷ []
            → cond x (known_flow after c ∷ flows_in after (cs ++ b ∷ [])) (flows_in after (cs ++ b ∷ []))
            ≡ cond x (known_flow known c ∷ flows_in known cs) (flows_in known cs)
            ++ record { tuple = k.tuple; id = id } ∷ []
        by true rest = λ i. record { tuple = (other c.id each.0 i).tuple; id = c.id } ∷ rest i
        by false rest = rest

    -- the flows that wait, where the new one does
    pub waiting_more : is_waiting_by holder ≡ true → is_over k ≡ false → (bs : List Book) → Each IsOther bs
        → waiting_in after (bs ++ b ∷ [])
        ≡ waiting_in known bs ++ record { id = id; port = k.tuple.lport; ready = is_running k } ∷ []
    waiting_more waits_ open_ [] each =
        (λ i. cond (waits_ i && not (is_over (own i)))
        (record { id = id; port = (own i).tuple.lport; ready = is_running (own i) } ∷ []) [])
        ∙ ap (λ o. cond (not o) (record { id = id; port = k.tuple.lport; ready = is_running k } ∷ []) []) open_
    waiting_more waits_ open_ (c ∷ cs) each =
        (λ i. cond (is_waiting_by c.holder && not (is_over (other c.id each.0 i)))
        (record { id = c.id; port = (other c.id each.0 i).tuple.lport; ready = is_running (other c.id each.0 i) }
        ∷ waiting_more waits_ open_ cs each.1 i)
        (waiting_more waits_ open_ cs each.1 i))
        ∙ by (waits known c)
      where
        by : (x : Bool)
            → cond x (passive_flow known c
            ∷ (waiting_in known cs ++ record { id = id; port = k.tuple.lport; ready = is_running k } ∷ []))
            (waiting_in known cs ++ record { id = id; port = k.tuple.lport; ready = is_running k } ∷ [])
            ≡ cond x (passive_flow known c ∷ waiting_in known cs) (waiting_in known cs)
            ++ record { id = id; port = k.tuple.lport; ready = is_running k } ∷ []
        by true = refl
        by false = refl

    -- ----- the index
    findable : (bs : List Book) → Each IsOther bs → Each (IsFindable known) bs → Each (IsFindable after) (bs ++ b ∷ [])
    findable [] each are = (λ f. absurd (true≢false f), tt)
    findable (c ∷ cs) each are =
        (λ f. ap is_over (other c.id each.0) ∙ are.0 f, findable cs each.1 are.1)

    -- no flow of the index has its four-tuple
    abbrev IsApart : Book → Type 0
    IsApart c = c.indexed ≡ true → same_tuple (tuple_of known c) k.tuple ≡ false

    not_more : (t u : FourTuple) → u ≡ t → same_tuple t k.tuple ≡ false → (bs : List Book) → Each IsOther bs
        → Each (λ (c : Book). is_indexed_as t (live_in known c) ≡ false) bs
        → Each (λ (c : Book). is_indexed_as u (live_in after c) ≡ false) (bs ++ b ∷ [])
    not_more t u e apart [] others each =
        ((λ i. same_tuple (e i) (own i).tuple) ∙ apart, tt)
    not_more t u e apart (c ∷ cs) others each = (
      (λ i. c.indexed && same_tuple (e i) (other c.id others.0 i).tuple) ∙ each.0,
      not_more t u e apart cs others.1 each.1,
    )

    once : (bs : List Book) → Each IsOther bs → Each IsApart bs → AreOnce known bs → AreOnce after (bs ++ b ∷ [])
    once [] others apart are = (λ is. tt, tt)
    once (c ∷ cs) others apart are = (
      λ is. not_more (known_of c.id known).tuple (known_of c.id after).tuple
          (ap (λ (x : History). x.tuple) (other c.id others.0)) (apart.0 is) cs others.1 (are.0 is),
      once cs others.1 apart.1 are.1,
    )

    -- places
    at_end : (bs : List Book) → Each IsOther bs → IsAt (length bs) id (bs ++ b ∷ [])
    at_end [] each = (refl, tt)
    at_end (c ∷ cs) each = (each.0, at_end cs each.1)

    others_push : (f : FlowId) (bs : List Book) → same_flow f id ≡ false
        → Each (λ (c : Book). same_flow f c.id ≡ false) bs
        → Each (λ (c : Book). same_flow f c.id ≡ false) (bs ++ b ∷ [])
    others_push f [] e each = (e, tt)
    others_push f (c ∷ cs) e each = (each.0, others_push f cs e each.1)

    at_still : (n : ℕ) (f : FlowId) (bs : List Book) → same_flow f id ≡ false → IsAt n f bs → IsAt n f (bs ++ b ∷ [])
    at_still n f [] e at = absurd at
    at_still zero f (c ∷ cs) e at = (at.0, others_push f cs e at.1)
    at_still (suc n) f (c ∷ cs) e at = (at.0, at_still n f cs e at.1)

    pub indexed_more : (bs : List Book) → Each IsOther bs → Each IsApart bs → AreIndexed bs known
        → AreIndexed (bs ++ b ∷ []) after
    indexed_more bs others apart are = record {
      running = findable bs others are.running;
      once = once bs others apart are.once;
      all = λ f. by f (same_flow id f) refl (same_flow f id) refl;
    }
      where
        still : (f : FlowId) → same_flow id f ≡ false → same_flow f id ≡ false
            → ((known_of f known).entries ≡ []) ⊎ ((n : ℕ) × IsAt n f bs)
            → ((known_of f after).entries ≡ []) ⊎ ((n : ℕ) × IsAt n f (bs ++ b ∷ []))
        still f e s (inl none) = inl (ap (λ (x : History). x.entries) (other f e) ∙ none)
        still f e s (inr (n, at)) = inr (n, at_still n f bs s at)

        by : (f : FlowId) (x : Bool) → same_flow id f ≡ x → (y : Bool) → same_flow f id ≡ y
            → ((known_of f after).entries ≡ []) ⊎ ((n : ℕ) × IsAt n f (bs ++ b ∷ []))
        by f true e y s =
            inr (length bs, subst (λ g. IsAt (length bs) g (bs ++ b ∷ [])) (is_same_flow id f e) (at_end bs others))
        by f false e true s =
            inr (
              length bs,
              subst (λ g. IsAt (length bs) g (bs ++ b ∷ [])) (sym (is_same_flow f id s)) (at_end bs others),
            )
        by f false e false s = still f e s (are.all f)
