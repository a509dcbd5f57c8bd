-- An order of deeds in the table, as the host sees it: for the laws orders_are_of_cores and orders_are_of_all.
use Rattle.std.proofs.Common.{◌≡◌, ℕ, zero, suc, Bool, true, false, List, [], ◌∷◌, ◌++◌, map, fold, refl, sym, ap, ◌∙◌}
use Rattle.std.proofs.Common.{arith, inl, inr}
use Rattle.std.proofs.lemmas.Bool.Decides.{nat_tests}
use Rattle.std.specs.List.{list_any}
use Rattle.tas_model.specs.declared.entry.FlowId.{FlowId}
use Rattle.tas_model.specs.declared.entry.Caller.{Caller}
use Rattle.tas_model.specs.declared.entry.Caller.TheVariants.{Core, App}
use Rattle.tas_model.specs.declared.entry.Call.{Call}
use Rattle.tas_model.specs.declared.entry.Call.TheVariants as calls
use Rattle.host_rounds.specs.Lists.{Each, change_first, change_at}
use Rattle.host_rounds.specs.Hosts.{Live, Host, is_indexed_as, next_start, with_call}
use Rattle.host_rounds.specs.Deliveries.{Packet, received, delivered_packet, arrived}
use Rattle.host_rounds.specs.Upkeep.{emits, emits_where}
use Rattle.host_rounds.specs.Scripts.{Scripts, Site}
use Rattle.host_rounds.specs.Rounds as rounds
use Rattle.host_rounds.specs.Rounds.{does}
use Rattle.flow_lock.specs.Orders.{Order, known_of, put, played, same_flow}
use Rattle.flow_lock.specs.declared.view.Deed.{Deed}
use Rattle.flow_lock.specs.declared.view.Held.{Held}
use Rattle.flow_lock.specs.declared.view.History.{History}
use Rattle.host_books.specs.Books.{Book, Setting, live_as, live_in, host_of, site_of, IsAt, IsFirstAt}
use Rattle.host_books.specs.Deeds.{Makes, IsFrameOf, IsSendOf, IsCoreDeed, AreCoreDeeds, held_as, asked_as, IsAskOf}
use Rattle.host_books.specs.Deeds.{IsDoneAs, AreDoneAs}

-- ----- what is known of a flow
pub same_self : (f : FlowId) → same_flow f f ≡ true
same_self f = grind (arith, nat_tests)

-- where another flow's history is known anew, the others' stay
pub others : (known : List Held) (x : Held) (bs : List Book) → Each (λ (c : Book). same_flow x.flow c.id ≡ false) bs
    → map (live_in (x ∷ known)) bs ≡ map (live_in known) bs
others known x [] each = refl
others known x (b ∷ bs) each = λ i. live_as b (other i) ∷ others known x bs each.1 i
  where
    other : known_of b.id (x ∷ known) ≡ known_of b.id known
    other = rw (each.0) refl

-- where this flow's is, and perhaps its book changes, the flow at its place changes
pub known_at : (n : ℕ) (known : List Held) (x : Held) (f : Live → Live) (g : Book → Book) (bs : List Book)
    → IsAt n x.flow bs → ((b : Book) → b.id ≡ x.flow → live_as (g b) x.history ≡ f (live_in known b))
    → ((b : Book) → (g b).id ≡ b.id)
    → map (live_in (x ∷ known)) (change_at n g bs) ≡ change_at n f (map (live_in known) bs)
known_at n known x f g [] at is keeps = absurd at
known_at zero known x f g (b ∷ bs) at is keeps =
    λ i. (ap (live_as (g b)) here ∙ is b at.0) i ∷ others known x bs at.1 i
  where
    here : known_of (g b).id (x ∷ known) ≡ x.history
    here = rw (keeps b, at.0, same_self x.flow) refl
known_at (suc n) known x f g (b ∷ bs) at is keeps =
    λ i. live_as b (other i) ∷ known_at n known x f g bs at.1 is keeps i
  where
    other : known_of b.id (x ∷ known) ≡ known_of b.id known
    other = rw (at.0) refl

changed_to_itself : (n : ℕ) (bs : List Book) → change_at n (λ (b : Book). b) bs ≡ bs
changed_to_itself n [] = refl
changed_to_itself zero (b ∷ bs) = refl
changed_to_itself (suc n) (b ∷ bs) = ap (λ cs. b ∷ cs) (changed_to_itself n bs)

-- the book stays
pub history_at : (n : ℕ) (known : List Held) (x : Held) (f : Live → Live) (bs : List Book) → IsAt n x.flow bs
    → ((b : Book) → b.id ≡ x.flow → live_as b x.history ≡ f (live_in known b))
    → map (live_in (x ∷ known)) bs ≡ change_at n f (map (live_in known) bs)
history_at n known x f bs at is =
    ap (map (live_in (x ∷ known))) (sym (changed_to_itself n bs))
    ∙ known_at n known x f (λ b. b) bs at is (λ b. refl)

-- ----- one deed
-- the flow with the call made
called : (by : Caller) (t : ℕ) (call : Call) (offer : List ℕ) (known : List Held) (d : Deed)
    → Makes by t call offer known d → (b : Book) → b.id ≡ d.flow
    → live_as b (record (d.before) { entries = d.before.entries ++ d.entry ∷ [] })
    ≡ with_call (live_in known b) by t call offer
called by t call offer known d o b is =
    ap (live_as b) o.made
    ∙ ap (λ (h : History). with_call (live_as b h) by t call offer)
    (o.there ∙ ap (λ f. known_of f known) (sym is))

first_any : {X : Type 0} (test : X → Bool) (n : ℕ) (xs : List X) → IsFirstAt test n xs → list_any test xs ≡ true
first_any test n [] at = absurd at
first_any test zero (x ∷ xs) at = rw at refl
first_any test (suc n) (x ∷ xs) at = rw at.0 (first_any test n xs at.1)

first_changed : {X : Type 0} (test : X → Bool) (f : X → X) (n : ℕ) (xs : List X) → IsFirstAt test n xs
    → change_first test f xs ≡ change_at n f xs
first_changed test f n [] at = absurd at
first_changed test f zero (x ∷ xs) at = rw (at, change_first) refl
first_changed {X} test f (suc n) (x ∷ xs) at =
    let rest : change_first test f xs ≡ change_at n f xs = first_changed test f n xs at.1 in
    rw (at.0, change_first) (ap (λ (zs : List X). x ∷ zs) rest)

module _ {S A : Type 0} (scripts : Scripts S A) (t : ℕ) where
  frame_taken : (s : Setting) (state : S) (known : List Held) (d : Deed) (m : rounds.Deed A)
      → IsFrameOf t s.books known d m → does scripts t (site_of s known state) m ≡ site_of s (put known d) state
  frame_taken s state known d m o =
      let host : Host = host_of s known in
      let take_in : Live → Live = received (Core o.core) t o.arrival.frame o.seg in
      ap (λ (z : rounds.Deed A). does scripts t (site_of s known state) z) o.is
      ∙ ap (λ (h : Host). record { host = h; scripts = state })
      (ap (λ (p : Packet). delivered_packet (received (Core o.core)) scripts.starts t host o.arrival.frame p) o.packet
      ∙ ap (λ b. arrived b take_in (next_start scripts.starts host o.tuple) t host o.arrival.frame o.tuple o.seg)
      (first_any (is_indexed_as o.tuple) o.place host.flows o.leads)
      ∙ ap (λ (ls : List Live). record host { flows = ls })
      (first_changed (is_indexed_as o.tuple) take_in o.place host.flows o.leads
      ∙ sym (history_at o.place known _ take_in s.books o.at
      (called (Core o.core) t (calls.Rx o.arrival.frame o.seg) [] known d o.makes))))

  sent_out : (s : Setting) (known : List Held) (d : Deed) (m : rounds.Deed A) (o : IsSendOf t s.books known d m)
      (b : Book) → b.id ≡ d.flow
      → live_as b (record (d.before) { entries = d.before.entries ++ d.entry ∷ [] })
      ≡ emits (Core o.core) t (live_in known b)
  sent_out s known d m o b is =
      let same : d.before ≡ known_of b.id known = o.makes.there ∙ ap (λ f. known_of f known) (sym is) in
      let goes : emits (Core o.core) t (live_as b d.before)
      ≡ with_call (live_as b d.before) (Core o.core) t calls.Emit [] =
      ap (λ g. emits_where g (Core o.core) t (live_as b d.before)) o.goes in
      ap (live_as b) o.makes.made
      ∙ (sym goes ∙ ap (λ (h : History). emits (Core o.core) t (live_as b h)) same)

  send_done : (s : Setting) (state : S) (known : List Held) (d : Deed) (m : rounds.Deed A)
      → IsSendOf t s.books known d m → does scripts t (site_of s known state) m ≡ site_of s (put known d) state
  send_done s state known d m o =
      ap (λ (z : rounds.Deed A). does scripts t (site_of s known state) z) o.is
      ∙ ap (λ (ls : List Live). record { host = record (host_of s known) { flows = ls }; scripts = state })
      (sym (history_at o.place known _ (emits (Core o.core) t) s.books o.at (sent_out s known d m o)))

  core_done : (s : Setting) (state : S) (known : List Held) (d : Deed) (m : rounds.Deed A)
      → IsCoreDeed t s.books known d m → does scripts t (site_of s known state) m ≡ site_of s (put known d) state
  core_done s state known d m (inl o) = frame_taken s state known d m o
  core_done s state known d m (inr o) = send_done s state known d m o

  ask_done : (s : Setting) (state : S) (known : List Held) (d : Deed) (m : rounds.Deed A) (after : List Book) (next : S)
      → IsAskOf scripts t s state known d m after next
      → does scripts t (site_of s known state) m ≡ site_of (record s { books = after }) (put known d) next
  ask_done s state known d m after next o =
      let f : Live → Live = asked_as o.app t o.call o.offer o.holds in
      ap (λ (z : rounds.Deed A). does scripts t (site_of s known state) z) o.is
      ∙ o.asked
      ∙ ap (λ (ls : List Live). record { host = record (host_of s known) { flows = ls }; scripts = next })
      (sym (known_at o.place known _ f (held_as o.holds) s.books o.at
      (λ b is. ap (λ (l : Live). record l { holder = o.holds b.holder })
      (called (App o.app) t o.call o.offer known d o.makes b is)) (λ b. refl)))
      ∙ ap (λ bs. site_of (record s { books = bs }) (put known d) next) (sym o.kept)

  one_done : (s : Setting) (state : S) (known : List Held) (d : Deed) (m : rounds.Deed A) (after : List Book) (next : S)
      → IsDoneAs scripts t s state known d m after next
      → does scripts t (site_of s known state) m ≡ site_of (record s { books = after }) (put known d) next
  one_done s state known d m after next (inl (o, same, still)) =
      core_done s state known d m o
      ∙ (λ i. site_of (record s { books = sym same i }) (put known d) (sym still i))
  one_done s state known d m after next (inr o) = ask_done s state known d m after next o

  -- ----- all of them
  pub cores_done : (s : Setting) (state : S) (known : List Held) (order : Order) (deeds : List (rounds.Deed A))
      → AreCoreDeeds t s.books known order deeds
      → fold (does scripts t) (site_of s known state) deeds ≡ site_of s (played known order) state
  cores_done s state known [] [] are = refl
  cores_done s state known [] (m ∷ ms) are = absurd are
  cores_done s state known (y ∷ ys) [] are = absurd are
  cores_done s state known (y ∷ ys) (m ∷ ms) are =
      ap (λ (z : Site S). fold (does scripts t) z ms) (core_done s state known y.1 m are.0)
      ∙ cores_done s state (put known y.1) ys ms are.1

  pub all_done : (s : Setting) (state : S) (known : List Held) (order : Order) (deeds : List (rounds.Deed A))
      (after : List Book) (next : S) → AreDoneAs scripts t s state known order deeds after next
      → fold (does scripts t) (site_of s known state) deeds
      ≡ site_of (record s { books = after }) (played known order) next
  all_done s state known [] [] after next are =
      λ i. site_of (record s { books = sym are.0 i }) known (sym are.1 i)
  all_done s state known [] (m ∷ ms) after next are = absurd are
  all_done s state known (y ∷ ys) [] after next are = absurd are
  all_done s state known (y ∷ ys) (m ∷ ms) after next (between, then, one, more) =
      ap (λ (z : Site S). fold (does scripts t) z ms) (one_done s state known y.1 m between then one)
      ∙ all_done (record s { books = between }) then (put known y.1) ys ms after next more
