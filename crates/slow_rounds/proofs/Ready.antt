-- The flow that an accept finds is the first that is ready in a run: for the law ready_flows_are_first.
use Rattle.std.proofs.Common.{◌≡◌, ℕ, zero, suc, ◌+◌, ◌==◌, ◌&&◌, not, cond, Bool, true, false, List, [], ◌∷◌, map}
use Rattle.std.proofs.Common.{refl, sym, ap, ◌∙◌, subst, arith, true≢false, is_some}
use Rattle.std.specs.Prelude.{Option, Some, None, position}
use Rattle.std.specs.List.{find}
use Rattle.std.specs.Option.{option_map}
use Rattle.tas_model.specs.declared.entry.FlowId.{FlowId}
use Rattle.tas_model.specs.declared.entry.Reason.{Reason}
use Rattle.tas_model.specs.ApplicationCalls.{column_by}
use Rattle.host_rounds.specs.Hosts.{Live, is_ready, is_waiting_by}
use Rattle.host_rounds.specs.Lists.{Each}
use Rattle.flow_lock.specs.Orders.{known_of, same_flow}
use Rattle.flow_lock.specs.declared.view.Held.{Held}
use Rattle.flow_lock.specs.declared.view.History.{History}
use Rattle.flow_clock.specs.Histories.{endpoint_of, is_over, is_running, is_running_in}
use Rattle.slow_handshake.specs.Openings.{first_ready, is_ready_at, id_of}
use Rattle.slow_handshake.specs.declared.openings.PassiveFlow.{PassiveFlow}
use Rattle.host_books.specs.Books.{Book, live_in, IsAt, IsFirstAt}
use Rattle.sound_hosts.specs.Hosts.{CoreHost, host_of, known_in, tuple_of, waiting_in, passive_flow}
use Rattle.sound_hosts.specs.Sound.{IsHostSound}
use Rattle.sound_hosts.proofs.Leaving.{AreApart, apart_of}
use Rattle.sound_hosts.proofs.Led.{at_place}
use Rattle.slow_rounds.proofs.Found.{flipped}
use Rattle.slow_rounds.proofs.Phased.{running_alike}
use Rattle.slow_rounds.proofs.Slots.{position_here, position_past}

-- ----- the first that passes a test
first_position : {X : Type 0} (p : X → Bool) (n : ℕ) (xs : List X) → IsFirstAt p n xs → position p xs ≡ Some n
first_position p n [] at = absurd at
first_position p zero (x ∷ xs) at = position_here p x xs at
first_position p (suc n) (x ∷ xs) at =
    position_past p x xs at.0
    ∙ (ap (option_map (λ i. 1 + i)) (first_position p n xs at.1)
    ∙ ap (λ i. Some i) (let one : 1 + n ≡ suc n = omega arith in one))

none_position : {X : Type 0} (p : X → Bool) (xs : List X) → Each (λ (x : X). p x ≡ false) xs → position p xs ≡ None
none_position p [] each = refl
none_position p (x ∷ xs) each =
    position_past p x xs each.0 ∙ ap (option_map (λ i. 1 + i)) (none_position p xs each.1)

-- ----- one flow
-- one that runs isn't closed
running_open : (h : History) → is_running h ≡ true → is_over h ≡ false
running_open h runs = by (endpoint_of h).reason runs
  where
    by : (r : Option Reason) → is_running_in (column_by r (endpoint_of h).peer (endpoint_of h).tx.una) ≡ true
        → is_some r ≡ false
    by (Some why) e = absurd (true≢false (sym e))
    by None e = refl

and_all : (x y z : Bool) → (x && y && z) ≡ true → (x ≡ true) × (y ≡ true) × (z ≡ true)
and_all true true z e = (refl, refl, e)
and_all true false z e = absurd (true≢false (sym e))
and_all false y z e = absurd (true≢false (sym e))

some_is : (f g : FlowId) → ◌≡◌ {A = Option FlowId} (Some f) (Some g) → f ≡ g
some_is f g e = cc e

not_none : (f : FlowId) → ◌≡◌ {A = Option FlowId} (Some f) None → ⊥
not_none f e = absurd (cc e)

module _ (known : List Held) (port : ℕ) where
  abbrev Finds : List PassiveFlow → Option FlowId
  Finds fs = option_map id_of (find (is_ready_at port) fs)

  same_test : (b : Book) → is_ready port (live_in known b)
      ≡ ((tuple_of known b).lport == port && is_waiting_by b.holder && is_running (known_of b.id known))
  same_test b =
      ap (λ r. (tuple_of known b).lport == port && is_waiting_by b.holder && r) (sym (running_alike (live_in known b)))

  -- a ready flow is found
  ready_here : (b : Book) (bs : List Book) → is_ready port (live_in known b) ≡ true
      → Finds (waiting_in known (b ∷ bs)) ≡ Some b.id
  ready_here b bs e =
      (λ i. Finds (cond (all.1 i && not (running_open (known_of b.id known) all.2 i))
      (passive_flow known b ∷ waiting_in known bs) (waiting_in known bs)))
      ∙ (λ i. option_map id_of
      (cond (all.0 i && all.2 i) (Some (passive_flow known b)) (find (is_ready_at port) (waiting_in known bs))))
    where
      all : (((tuple_of known b).lport == port) ≡ true) × (is_waiting_by b.holder ≡ true)
          × (is_running (known_of b.id known) ≡ true)
      all = and_all ((tuple_of known b).lport == port) (is_waiting_by b.holder) (is_running (known_of b.id known))
          (sym (same_test b) ∙ e)

  -- another isn't
  ready_not : (b : Book) (bs : List Book) → is_ready port (live_in known b) ≡ false
      → Finds (waiting_in known (b ∷ bs)) ≡ Finds (waiting_in known bs)
  ready_not b bs e = by (is_waiting_by b.holder) refl (is_over (known_of b.id known))
      (sym (same_test b) ∙ e)
    where
      both : (x r : Bool) → (x && true && r) ≡ false → (x && r) ≡ false
      both true r q = q
      both false r q = refl

      by : (w : Bool) → is_waiting_by b.holder ≡ w → (o : Bool)
          → ((tuple_of known b).lport == port && is_waiting_by b.holder && is_running (known_of b.id known)) ≡ false
          → Finds (cond (is_waiting_by b.holder && not o) (passive_flow known b ∷ waiting_in known bs)
          (waiting_in known bs))
          ≡ Finds (waiting_in known bs)
      by false f o q =
          ap (λ w. Finds (cond (w && not o) (passive_flow known b ∷ waiting_in known bs) (waiting_in known bs))) f
      by true f true q =
          ap (λ w. Finds (cond (w && false) (passive_flow known b ∷ waiting_in known bs) (waiting_in known bs))) f
      by true f false q =
          ap (λ w. Finds (cond (w && true) (passive_flow known b ∷ waiting_in known bs) (waiting_in known bs))) f
          ∙ ap (λ c. option_map id_of
          (cond c (Some (passive_flow known b)) (find (is_ready_at port) (waiting_in known bs))))
          (both ((tuple_of known b).lport == port) (is_running (known_of b.id known))
          (ap (λ w. (tuple_of known b).lport == port && w && is_running (known_of b.id known)) (sym f) ∙ q))

  -- ----- all flows
  ready_first : (bs : List Book) → AreApart bs → (id : FlowId) → Finds (waiting_in known bs) ≡ Some id
      → (n : ℕ) × IsAt n id bs × IsFirstAt (is_ready port) n (map (live_in known) bs)
  ready_first [] apart id e = absurd (not_none id (sym e))
  ready_first (b ∷ bs) apart id e = by (is_ready port (live_in known b)) refl (λ q. ready_first bs apart.1 id q)
    where
      Place : Type 0
      Place = (n : ℕ) × IsAt n id (b ∷ bs) × IsFirstAt (is_ready port) n (map (live_in known) (b ∷ bs))

      here : is_ready port (live_in known b) ≡ true → b.id ≡ id → Place
      here s same = (0, (same, subst (λ g. Each (λ (c : Book). same_flow g c.id ≡ false) bs) same apart.0), s)

      there : is_ready port (live_in known b) ≡ false
          → (n : ℕ) × IsAt n id bs × IsFirstAt (is_ready port) n (map (live_in known) bs) → Place
      there s (n, at, first) =
          let c = at_place (λ (c : Book). same_flow b.id c.id ≡ false) n id bs apart.0 at in
          (suc n, (flipped b.id id (ap (same_flow b.id) (sym c.1) ∙ c.2), at), (s, first))

      by : (s : Bool) → is_ready port (live_in known b) ≡ s
          → (Finds (waiting_in known bs) ≡ Some id
          → (n : ℕ) × IsAt n id bs × IsFirstAt (is_ready port) n (map (live_in known) bs))
          → Place
      by true s rest = here s (some_is b.id id (sym (ready_here b bs s) ∙ e))
      by false s rest = there s (rest (sym (ready_not b bs s) ∙ e))

  ready_none : (bs : List Book) → Finds (waiting_in known bs) ≡ None
      → Each (λ (l : Live). is_ready port l ≡ false) (map (live_in known) bs)
  ready_none [] e = tt
  ready_none (b ∷ bs) e = by (is_ready port (live_in known b)) refl (λ q. ready_none bs q)
    where
      by : (s : Bool) → is_ready port (live_in known b) ≡ s
          → (Finds (waiting_in known bs) ≡ None → Each (λ (l : Live). is_ready port l ≡ false) (map (live_in known) bs))
          → Each (λ (l : Live). is_ready port l ≡ false) (map (live_in known) (b ∷ bs))
      by true s rest = absurd (not_none b.id (sym (ready_here b bs s) ∙ e))
      by false s rest = (s, rest (sym (ready_not b bs s) ∙ e))

-- ----- a host
pub some_ready : (h : CoreHost) (port : ℕ) (id : FlowId) → IsHostSound h → first_ready h.slow.path port ≡ Some id
    → (n : ℕ) × IsAt n id h.books × (position (is_ready port) (host_of h).flows ≡ Some n)
some_ready h port id sound e =
    by (ready_first (known_in h) port h.books (apart_of h.table.slots [] h.books sound.numbered) id
    (ap (λ (fs : List PassiveFlow). option_map id_of (find (is_ready_at port) fs)) (sym sound.opening.flows) ∙ e))
  where
    by : (n : ℕ) × IsAt n id h.books × IsFirstAt (is_ready port) n (host_of h).flows
        → (n : ℕ) × IsAt n id h.books × (position (is_ready port) (host_of h).flows ≡ Some n)
    by (n, at, first) = (n, at, first_position (is_ready port) n (host_of h).flows first)

pub none_ready : (h : CoreHost) (port : ℕ) → IsHostSound h → first_ready h.slow.path port ≡ None
    → position (is_ready port) (host_of h).flows ≡ None
none_ready h port sound e =
    none_position (is_ready port) (host_of h).flows
    (ready_none (known_in h) port h.books
    (ap (λ (fs : List PassiveFlow). option_map id_of (find (is_ready_at port) fs)) (sym sound.opening.flows) ∙ e))
