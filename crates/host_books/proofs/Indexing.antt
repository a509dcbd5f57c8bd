-- The index leads to each flow that isn't closed, and a deed leaves that so: for the laws open_flows_are_found and
-- deeds_keep_the_index.
use Rattle.std.proofs.Common.{◌≡◌, ℕ, zero, suc, ◌==◌, ◌&&◌, Bool, true, false, List, [], ◌∷◌, map, refl, sym, ap, ◌∙◌}
use Rattle.std.proofs.Common.{subst, arith, inl, inr, true≢false}
use Rattle.std.specs.Prelude.{◌⊎◌}
use Rattle.std.proofs.lemmas.Bool.Decides.{nat_tests}
use Rattle.tas_model.specs.declared.entry.FlowId.{FlowId}
use Rattle.tas_model.specs.declared.entry.FourTuple.{FourTuple}
use Rattle.tas_model.specs.declared.entry.Entry.{Entry}
use Rattle.tas_model.specs.declared.entry.HostParams.{HostParams}
use Rattle.tas_model.specs.Endpoint.{is_closed}
use Rattle.tas_model.specs.LegalHistory.{Legal}
use Rattle.host_rounds.specs.Lists.{Each}
use Rattle.host_rounds.specs.Hosts.{is_indexed_as, is_over, same_tuple}
use Rattle.flow_lock.specs.Orders.{known_of, put, same_flow}
use Rattle.flow_lock.specs.declared.view.Deed.{Deed}
use Rattle.flow_lock.specs.declared.view.Held.{Held}
use Rattle.flow_lock.specs.declared.view.History.{History}
use Rattle.host_rounds.specs.Hosts.{Holder}
use Rattle.host_books.specs.Books.{Book, live_in, IsAt, IsFirstAt}
use Rattle.host_books.specs.Deeds.{with_holder}
use Rattle.host_books.specs.Indexes.{endpoint_of, AreOnce, IsFindable, AreIndexed, KeepsClosed}

and_both : (a b : Bool) → (a && b) ≡ true → (a ≡ true) × (b ≡ true)
and_both true b h = (refl, h)
and_both false b h = absurd (true≢false (sym h))

same_number : (n m : ℕ) → (n == m) ≡ true → n ≡ m
same_number n m h = grind (arith, nat_tests, h)

pub is_same_flow : (f g : FlowId) → same_flow f g ≡ true → f ≡ g
is_same_flow f g h =
    let b = and_both (f.slot == g.slot) (f.generation == g.generation) h in
    let slot : f.slot ≡ g.slot = same_number f.slot g.slot b.0 in
    let generation : f.generation ≡ g.generation = same_number f.generation g.generation b.1 in
    λ i. record { slot = slot i; generation = generation i }

pub is_same_tuple : (a b : FourTuple) → same_tuple a b ≡ true → a ≡ b
is_same_tuple a b h =
    let last = and_both (a.laddr == b.laddr && a.lport == b.lport && a.raddr == b.raddr) (a.rport == b.rport) h in
    let third = and_both (a.laddr == b.laddr && a.lport == b.lport) (a.raddr == b.raddr) last.0 in
    let front = and_both (a.laddr == b.laddr) (a.lport == b.lport) third.0 in
    let laddr : a.laddr ≡ b.laddr = same_number a.laddr b.laddr front.0 in
    let lport : a.lport ≡ b.lport = same_number a.lport b.lport front.1 in
    let raddr : a.raddr ≡ b.raddr = same_number a.raddr b.raddr third.1 in
    let rport : a.rport ≡ b.rport = same_number a.rport b.rport last.1 in
    λ i. record { laddr = laddr i; lport = lport i; raddr = raddr i; rport = rport i }

pub tuple_self : (t : FourTuple) → same_tuple t t ≡ true
tuple_self t = grind (arith, nat_tests)

by_bool : {P : Type 0} (b : Bool) → (b ≡ true → P) → (b ≡ false → P) → P
by_bool true t f = t refl
by_bool false t f = f refl

-- ----- what is found
-- what holds of each holds of the one at this place
at_place : (P : Book → Type 0) (n : ℕ) (id : FlowId) (bs : List Book) → Each P bs → IsAt n id bs
    → (b : Book) × (b.id ≡ id) × P b
at_place P n id [] each at = absurd at
at_place P zero id (b ∷ bs) each at = (b, at.0, each.0)
at_place P (suc n) id (b ∷ bs) each at = at_place P n id bs each.1 at.1

-- the index has it, where it isn't closed
indexed_open : (known : List Held) (b : Book) → (b.indexed ≡ false → is_over (live_in known b) ≡ true)
    → is_over (live_in known b) ≡ false → b.indexed ≡ true
indexed_open known b kept open_ =
    by_bool b.indexed (λ t. t) (λ f. absurd (true≢false (sym (kept f) ∙ open_)))

pub found : (known : List Held) (n : ℕ) (id : FlowId) (bs : List Book)
    → Each (IsFindable known) bs → AreOnce known bs → IsAt n id bs
    → is_closed (endpoint_of (known_of id known)) ≡ false
    → IsFirstAt (is_indexed_as (known_of id known).tuple) n (map (live_in known) bs)
found known n id [] running once at open_ = absurd at
found known zero id (b ∷ bs) running once at open_ =
    let over : is_over (live_in known b) ≡ false =
    ap (λ f. is_closed (endpoint_of (known_of f known))) at.0 ∙ open_ in
    let here : b.indexed ≡ true = indexed_open known b running.0 over in
    (λ i. here i && same_tuple (known_of id known).tuple (known_of (at.0 i) known).tuple)
    ∙ tuple_self (known_of id known).tuple
found known (suc n) id (b ∷ bs) running once at open_ = (
  by_bool (is_indexed_as (known_of id known).tuple (live_in known b))
      (λ t.
      let both = and_both b.indexed (same_tuple (known_of id known).tuple (known_of b.id known).tuple) t in
      let alike : (known_of id known).tuple ≡ (known_of b.id known).tuple =
      is_same_tuple (known_of id known).tuple (known_of b.id known).tuple both.1 in
      let c = at_place
      (λ (c : Book). (is_indexed_as (known_of b.id known).tuple (live_in known c) ≡ false)
      × (c.indexed ≡ false → is_over (live_in known c) ≡ true)) n id bs
      (both_each (λ (c : Book). is_indexed_as (known_of b.id known).tuple (live_in known c) ≡ false)
      (λ (c : Book). c.indexed ≡ false → is_over (live_in known c) ≡ true) bs (once.0 both.0) running.1) at.1 in
      let over : is_over (live_in known c.0) ≡ false =
      ap (λ f. is_closed (endpoint_of (known_of f known))) c.1 ∙ open_ in
      let there : c.0.indexed ≡ true = indexed_open known c.0 c.2.1 over in
      let is : is_indexed_as (known_of b.id known).tuple (live_in known c.0) ≡ true =
      (λ i. there i && same_tuple (sym alike i) (known_of (c.1 i) known).tuple)
      ∙ tuple_self (known_of id known).tuple in
      absurd (true≢false (sym is ∙ c.2.0)))
      (λ f. f),
  found known n id bs running.1 once.1 at.1 open_,
)
  where
    both_each : (P Q : Book → Type 0) (bs : List Book) → Each P bs → Each Q bs → Each (λ (c : Book). P c × Q c) bs
    both_each P Q [] p q = tt
    both_each P Q (c ∷ cs) p q = ((p.0, q.0), both_each P Q cs p.1 q.1)

-- ----- a deed at a flow that isn't closed
no_entries : (params : HostParams) (es : List Entry) → es ≡ [] → Legal params es → ⊥
no_entries params es e legal = subst (λ l. Legal params l) e legal

module _ (known : List Held) (d : Deed) (there : d.before ≡ known_of d.flow known) where
  pub tuple_kept : (f : FlowId) → (known_of f (put known d)).tuple ≡ (known_of f known).tuple
  tuple_kept f = by_bool (same_flow d.flow f)
      (λ t. rw t (ap (λ (h : History). h.tuple) there ∙ ap (λ g. (known_of g known).tuple) (is_same_flow d.flow f t)))
      (λ e. rw e refl)

  alike : (t : FourTuple) (b : Book) → is_indexed_as t (live_in (put known d) b) ≡ is_indexed_as t (live_in known b)
  alike t b = ap (λ u. b.indexed && same_tuple t u) (tuple_kept b.id)

  still_not : (t u : FourTuple) → u ≡ t → (bs : List Book)
      → Each (λ (c : Book). is_indexed_as t (live_in known c) ≡ false) bs
      → Each (λ (c : Book). is_indexed_as u (live_in (put known d) c) ≡ false) bs
  still_not t u e [] each = tt
  still_not t u e (c ∷ cs) each =
      (alike u c ∙ (ap (λ x. is_indexed_as x (live_in known c)) e ∙ each.0), still_not t u e cs each.1)

  still_once : (bs : List Book) → AreOnce known bs → AreOnce (put known d) bs
  still_once [] once = tt
  still_once (b ∷ bs) once = (
    λ is. still_not (known_of b.id known).tuple (known_of b.id (put known d)).tuple (tuple_kept b.id) bs (once.0 is),
    still_once bs once.1,
  )

  module _ (keeps : KeepsClosed d) where
    over_still : (b : Book) → is_over (live_in known b) ≡ true → is_over (live_in (put known d) b) ≡ true
    over_still b over = by_bool (same_flow d.flow b.id)
        (λ t.
        let here : is_over (live_in known b) ≡ is_closed (endpoint_of d.before) =
        ap (λ h. is_closed (endpoint_of h))
        (ap (λ g. known_of g known) (sym (is_same_flow d.flow b.id t)) ∙ sym there) in
        rw t (keeps (sym here ∙ over)))
        (λ e. rw e over)

    still_running : (bs : List Book) → Each (IsFindable known) bs → Each (IsFindable (put known d)) bs
    still_running [] each = tt
    still_running (b ∷ bs) each = (λ f. over_still b (each.0 f), still_running bs each.1)

    pub has_place : (books : List Book) → Legal d.before.params d.before.entries → AreIndexed books known
        → (place : ℕ) × IsAt place d.flow books
    has_place books legal are = by_known (are.all d.flow)
      where
        by_known : ((known_of d.flow known).entries ≡ []) ⊎ ((place : ℕ) × IsAt place d.flow books)
            → (place : ℕ) × IsAt place d.flow books
        by_known (inl none) =
            absurd (no_entries d.before.params d.before.entries (ap (λ (h : History). h.entries) there ∙ none) legal)
        by_known (inr at) = at

    still_all : (books : List Book) → Legal d.before.params d.before.entries → AreIndexed books known → (f : FlowId)
        → ((known_of f (put known d)).entries ≡ []) ⊎ ((place : ℕ) × IsAt place f books)
    still_all books legal are f = by_bool (same_flow d.flow f)
        (λ t.
        let p = has_place books legal are in
        inr (p.0, subst (λ g. IsAt p.0 g books) (is_same_flow d.flow f t) p.1))
        (λ e. rw e (are.all f))

    pub still_indexed : (books : List Book) → Legal d.before.params d.before.entries → AreIndexed books known
        → AreIndexed books (put known d)
    still_indexed books legal are = record {
      running = still_running books are.running;
      once = still_once books are.once;
      all = still_all books legal are;
    }

-- ----- another holder
-- the index doesn't look at holders
held_not : (known : List Held) (t : FourTuple) (n : ℕ) (holds : Holder → Holder) (bs : List Book)
    → Each (λ (c : Book). is_indexed_as t (live_in known c) ≡ false) bs
    → Each (λ (c : Book). is_indexed_as t (live_in known c) ≡ false) (with_holder n holds bs)
held_not known t n holds [] each = tt
held_not known t zero holds (b ∷ bs) each = each
held_not known t (suc n) holds (b ∷ bs) each = (each.0, held_not known t n holds bs each.1)

held_once : (known : List Held) (n : ℕ) (holds : Holder → Holder) (bs : List Book) → AreOnce known bs
    → AreOnce known (with_holder n holds bs)
held_once known n holds [] once = tt
held_once known zero holds (b ∷ bs) once = once
held_once known (suc n) holds (b ∷ bs) once =
    (λ is. held_not known (known_of b.id known).tuple n holds bs (once.0 is), held_once known n holds bs once.1)

held_running : (known : List Held) (n : ℕ) (holds : Holder → Holder) (bs : List Book) → Each (IsFindable known) bs
    → Each (IsFindable known) (with_holder n holds bs)
held_running known n holds [] each = tt
held_running known zero holds (b ∷ bs) each = each
held_running known (suc n) holds (b ∷ bs) each = (each.0, held_running known n holds bs each.1)

others_held : (id : FlowId) (n : ℕ) (holds : Holder → Holder) (bs : List Book)
    → Each (λ (c : Book). same_flow id c.id ≡ false) bs
    → Each (λ (c : Book). same_flow id c.id ≡ false) (with_holder n holds bs)
others_held id n holds [] each = tt
others_held id zero holds (b ∷ bs) each = each
others_held id (suc n) holds (b ∷ bs) each = (each.0, others_held id n holds bs each.1)

pub held_at : (m : ℕ) (id : FlowId) (n : ℕ) (holds : Holder → Holder) (bs : List Book) → IsAt m id bs
    → IsAt m id (with_holder n holds bs)
held_at m id n holds [] at = absurd at
held_at zero id zero holds (b ∷ bs) at = at
held_at zero id (suc n) holds (b ∷ bs) at = (at.0, others_held id n holds bs at.1)
held_at (suc m) id zero holds (b ∷ bs) at = at
held_at (suc m) id (suc n) holds (b ∷ bs) at = (at.0, held_at m id n holds bs at.1)

pub held_indexed : (known : List Held) (n : ℕ) (holds : Holder → Holder) (books : List Book) → AreIndexed books known
    → AreIndexed (with_holder n holds books) known
held_indexed known n holds books are = record {
  running = held_running known n holds books are.running;
  once = held_once known n holds books are.once;
  all = λ f. still f (are.all f);
}
  where
    still : (f : FlowId) → ((known_of f known).entries ≡ []) ⊎ ((place : ℕ) × IsAt place f books)
        → ((known_of f known).entries ≡ []) ⊎ ((place : ℕ) × IsAt place f (with_holder n holds books))
    still f (inl none) = inl none
    still f (inr (place, at)) = inr (place, held_at place f n holds books at)
