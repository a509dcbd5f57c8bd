-- Names stand for own sockets after tries that were answered: for the laws tries_keep_names and own_sockets_are_seen.
use Rattle.std.proofs.Common.{◌≡◌, ◌↔◌, ℕ, zero, suc, ◌+◌, ◌==◌, ◌<◌, not, Bool, true, false, List, [], ◌∷◌}
use Rattle.std.proofs.Common.{length, map, filter, bytes_eq, slice_get, Option, Some, None, IfSome, refl, sym, ap, ◌∙◌}
use Rattle.std.proofs.Common.{subst, if◌then◌else◌}
use Rattle.std.specs.List.{find}
use Rattle.tas_model.specs.declared.entry.FlowId.{FlowId}
use Rattle.tas_model.specs.declared.entry.Reply.{Reply}
use Rattle.tas_model.specs.declared.entry.Reply.TheVariants as replies
use Rattle.host_rounds.specs.Lists.{Each, change_first}
use Rattle.host_rounds.specs.Hosts.{Holder, Application}
use Rattle.flow_lock.specs.Orders.{same_flow}
use Rattle.flow_lock.specs.declared.view.Held.{Held}
use Rattle.host_books.specs.Books.{Book, Setting, live_in, host_of, IsAt}
use Rattle.host_books.specs.Deeds.{held_as, with_holder}
use Rattle.host_books.specs.Leavings.{leaving_by, book_after, books_after, scripts_after}
use Rattle.host_books.proofs.Telling.{changed}
use Rattle.scenario_text.specs.declared.scenario.Step.{Step}
use Rattle.scenario_text.specs.declared.scenario.Step.TheVariants as steps
use Rattle.scenario_runs.specs.Applications.{Bound, AListener, ASocket, Script, bound_in, done_or, sent_on, received_on}
use Rattle.scenario_laws.specs.Names.{holder_at, IsHeld, AreTwo, AreApart, AreOwn}
use Rattle.script_tries.specs.Names.{holder_by, holder_in, IsHeldIn, AreOwnIn, AreRising, AreOfDifferentFlows}
use Rattle.script_tries.specs.Names.{HaveOwnSockets}
use Rattle.script_tries.specs.Replies.{leavings_of}
use Rattle.script_tries.specs.Steps.{socket_at, holds_at, by_reply, step_in, place_named}
use Rattle.script_tries.specs.Tries.{ScriptTry, try_for, try_at, try_by, try_of, IsTriedBy, AreTriedBy}
use Rattle.script_tries.proofs.Lists.{by_bool, get_other, first_here, first_later, found_here, found_later}
use Rattle.script_tries.proofs.Turns.{same_place, two_places}
use Rattle.script_tries.proofs.Asks.{is_numbered, keeps_number}
use Rattle.script_tries.proofs.Together.{IsTryAs, tries_as, IsNamedSocket, named_socket, bound_has, own_holder}
use Rattle.script_tries.proofs.Together.{found_has}
use Rattle.script_tries.proofs.Together.{flows_differ}
use Rattle.script_tries.proofs.Once.{below_differs}
use Rattle.script_tries.proofs.Going.{tried_later, rising_still}

-- ----- by the flows of the host
seen_holder : (known : List Held) (books : List Book) (k : ℕ)
    → holder_at (map (live_in known) books) k ≡ holder_in books k
seen_holder known [] k = refl
seen_holder known (b ∷ bs) zero = refl
seen_holder known (b ∷ bs) (suc k) = seen_holder known bs k

seen_held : (known : List Held) (books : List Book) (n : ℕ) (names : List (List ℕ × Bound))
    → Each (λ (b : List ℕ × Bound). IsHeldIn books n b.1) names
    → Each (λ (b : List ℕ × Bound). IsHeld (map (live_in known) books) n b.1) names
seen_held known books n [] each = tt
seen_held known books n (b ∷ bs) each = (one b.1 each.0, seen_held known books n bs each.1) where
  one : (c : Bound) → IsHeldIn books n c → IsHeld (map (live_in known) books) n c
  one (AListener port) h = tt
  one (ASocket k) h = seen_holder known books k ∙ h

held_seen : (known : List Held) (books : List Book) (n : ℕ) (names : List (List ℕ × Bound))
    → Each (λ (b : List ℕ × Bound). IsHeld (map (live_in known) books) n b.1) names
    → Each (λ (b : List ℕ × Bound). IsHeldIn books n b.1) names
held_seen known books n [] each = tt
held_seen known books n (b ∷ bs) each = (one b.1 each.0, held_seen known books n bs each.1) where
  one : (c : Bound) → IsHeld (map (live_in known) books) n c → IsHeldIn books n c
  one (AListener port) h = tt
  one (ASocket k) h = sym (seen_holder known books k) ∙ h

pub own_seen : (s : Setting) (known : List Held) (n : ℕ) (names : List (List ℕ × Bound))
    → AreOwnIn s.books n names ↔ AreOwn (host_of s known).flows n names
own_seen s known n names = (
  λ own. record { held = seen_held known s.books n names own.held; apart = own.apart },
  λ own. record { held = held_seen known s.books n names own.held; apart = own.apart },
)

-- ----- names of the script
done_names : (over : Bool) (n : ℕ) (s : Script) → (done_or over n s).names ≡ s.names
done_names true n s = refl
done_names false n s = refl

sent_names : (reply : Reply) (all : ℕ) (s : Script) → (sent_on reply all s).names ≡ s.names
sent_names (replies.Took bytes) all s = done_names (s.done + length bytes == all) (s.done + length bytes) s
sent_names replies.NotYet all s = refl
sent_names reply all s = refl

received_names : (reply : Reply) (all : Option ℕ) (s : Script) → (received_on reply all s).names ≡ s.names
received_names (replies.Got bytes update) None s = refl
received_names (replies.Got bytes update) (Some all) s =
    done_names (s.done + length bytes == all) (s.done + length bytes) s
received_names replies.NotYet all s = refl
received_names reply all s = refl

-- without the name of a socket that was given up
abbrev without : (name : List ℕ) → List (List ℕ × Bound) → List (List ℕ × Bound)
without name names = filter (λ (b : List ℕ × Bound). not (bytes_eq b.0 name)) names

each_kept : (P : List ℕ × Bound → Type 0) (name : List ℕ) (names : List (List ℕ × Bound)) → Each P names
    → Each P (without name names)
each_kept P name [] each = tt
each_kept P name (b ∷ bs) each = by_name (bytes_eq b.0 name) (each_kept P name bs each.1) where
  by_name : (c : Bool) → Each P (without name bs) → Each P (if not c then b ∷ without name bs else without name bs)
  by_name true rest = rest
  by_name false rest = (each.0, rest)

apart_kept : (name : List ℕ) (names : List (List ℕ × Bound)) → AreApart names → AreApart (without name names)
apart_kept name [] apart = tt
apart_kept name (b ∷ bs) apart = by_name (bytes_eq b.0 name) (apart_kept name bs apart.1) where
  by_name : (c : Bool) → AreApart (without name bs) → AreApart (if not c then b ∷ without name bs else without name bs)
  by_name true rest = rest
  by_name false rest = (each_kept (λ (c : List ℕ × Bound). AreTwo b.1 c.1) name bs apart.0, rest)

-- where all sockets but one have the holders that they had
module _ (books after : List Book) (n k : ℕ) (same : (j : ℕ) → (k ≡ j → ⊥) → holder_in after j ≡ holder_in books j)
  where
    other_held : (c : Bound) → AreTwo (ASocket k) c → IsHeldIn books n c → IsHeldIn after n c
    other_held (AListener port) two h = tt
    other_held (ASocket j) two h = same j two ∙ h

    held_other : (c : Bound) → AreTwo c (ASocket k) → IsHeldIn books n c → IsHeldIn after n c
    held_other (AListener port) two h = tt
    held_other (ASocket j) two h = same j (λ e. two (sym e)) ∙ h

    others_held : (names : List (List ℕ × Bound)) → Each (λ (c : List ℕ × Bound). AreTwo (ASocket k) c.1) names
        → Each (λ (b : List ℕ × Bound). IsHeldIn books n b.1) names
        → Each (λ (b : List ℕ × Bound). IsHeldIn after n b.1) names
    others_held [] two held = tt
    others_held (b ∷ bs) two held = (other_held b.1 two.0 held.0, others_held bs two.1 held.1)

    kept_held : (name : List ℕ) (names : List (List ℕ × Bound)) → AreApart names
        → Each (λ (b : List ℕ × Bound). IsHeldIn books n b.1) names → bound_in names name ≡ Some (ASocket k)
        → Each (λ (b : List ℕ × Bound). IsHeldIn after n b.1) (without name names)
    kept_held name [] apart held bound = absurd (cc (bound))
    kept_held name (b ∷ bs) apart held bound =
        by_name (bytes_eq b.0 name) (λ h. kept_held name bs apart.1 held.1 h) bound
      where
        by_name : (c : Bool)
            → (bound_in bs name ≡ Some (ASocket k)
            → Each (λ (b : List ℕ × Bound). IsHeldIn after n b.1) (without name bs))
            → elim c [ true ↦ Some b.1 | false ↦ bound_in bs name ] ≡ Some (ASocket k)
            → Each (λ (b : List ℕ × Bound). IsHeldIn after n b.1)
            (if not c then b ∷ without name bs else without name bs)
        by_name true rest h =
            let is : b.1 ≡ ASocket k = cc (h) in
            each_kept (λ (c : List ℕ × Bound). IsHeldIn after n c.1) name bs
            (others_held bs (subst (λ (d : Bound). Each (λ (c : List ℕ × Bound). AreTwo d c.1) bs) is apart.0) held.1)
        by_name false rest h =
            (held_other b.1 (bound_has (AreTwo b.1) bs name (ASocket k) apart.0 h) held.0, rest h)

    pub own_without : (name : List ℕ) (names : List (List ℕ × Bound)) → bound_in names name ≡ Some (ASocket k)
        → AreOwnIn books n names → AreOwnIn after n (without name names)
    own_without name names bound own = record {
      held = kept_held name names own.apart own.held bound;
      apart = apart_kept name names own.apart;
    }

-- ----- one try
same_books : (n : ℕ) (holds : Holder → Holder) (books : List Book) → ((h : Holder) → holds h ≡ h)
    → with_holder n holds books ≡ books
same_books n holds [] same = refl
same_books zero holds (b ∷ bs) same = λ i. (record b { holder = same b.holder i }) ∷ bs
same_books (suc n) holds (b ∷ bs) same = ap (λ (cs : List Book). b ∷ cs) (same_books n holds bs same)

-- another holder of this socket alone
but_one : (n : ℕ) (holds : Holder → Holder) (books : List Book) (j : ℕ) → (n ≡ j → ⊥)
    → holder_in (with_holder n holds books) j ≡ holder_in books j
but_one n holds books j other = ap holder_by (get_other n j (held_as holds) books other)

module _ (books : List Book) (s : Script) (n : ℕ) (own : AreOwnIn books s.number s.names) where
  stays_own : (holds : Holder → Holder) (names : List (List ℕ × Bound)) → ((h : Holder) → holds h ≡ h)
      → names ≡ s.names → AreOwnIn (with_holder n holds books) s.number names
  stays_own holds names same is =
      subst (λ (bs : List Book). AreOwnIn bs s.number names) (sym (same_books n holds books same))
      (subst (AreOwnIn books s.number) (sym is) own)

  leaves_own : (holds : Holder → Holder) (socket : List ℕ) → bound_in s.names socket ≡ Some (ASocket n)
      → AreOwnIn (with_holder n holds books) s.number (without socket s.names)
  leaves_own holds socket bound =
      own_without books (with_holder n holds books) s.number n (but_one n holds books) socket s.names bound own

  -- the script's own names
  pub own_after : (step : Step) (r : Reply) → (at : IsNamedSocket step s n)
      → AreOwnIn (with_holder n (holds_at step r) books) s.number (by_reply step r s).names
  own_after (steps.Send socket text) r at = stays_own _ _ (λ h. refl) (sent_names r _ s)
  own_after (steps.Fill socket count) r at = stays_own _ _ (λ h. refl) (sent_names r _ s)
  own_after (steps.Recv socket count) r at = stays_own _ _ (λ h. refl) (received_names r (Some count) s)
  own_after (steps.Drain socket) r at = stays_own _ _ (λ h. refl) (received_names r None s)
  own_after (steps.Shut socket) r at = stays_own _ _ (λ h. refl) refl
  own_after (steps.Close socket) r at =
      let same : socket ≡ at.socket = cc (at.named) in
      leaves_own _ socket (ap (bound_in s.names) same ∙ at.bound)
  own_after (steps.Abort socket) r at =
      let same : socket ≡ at.socket = cc (at.named) in
      leaves_own _ socket (ap (bound_in s.names) same ∙ at.bound)
  own_after (steps.Listen name port) r at = stays_own _ _ (λ h. refl) refl
  own_after (steps.Accept socket listener) r at = stays_own _ _ (λ h. refl) refl
  own_after (steps.Connect socket host port) r at = stays_own _ _ (λ h. refl) refl
  own_after (steps.Wait ticks) r at = stays_own _ _ (λ h. refl) refl

app_differs : (n m k : ℕ) (books : List Book) (j : ℕ) → holder_in books n ≡ Application m
    → holder_in books j ≡ Application k → (m ≡ k → ⊥) → n ≡ j → ⊥
app_differs n m k books j mine other differ same = differ (numbers (sym mine ∙ (ap (holder_in books) same ∙ other)))
  where
    numbers : Application m ≡ Application k → m ≡ k
    numbers h = cc (h)

module _ (books : List Book) (n m : ℕ) (holds : Holder → Holder) (mine : holder_in books n ≡ Application m) where
  other_each : (k : ℕ) (names : List (List ℕ × Bound)) → (m ≡ k → ⊥)
      → Each (λ (b : List ℕ × Bound). IsHeldIn books k b.1) names
      → Each (λ (b : List ℕ × Bound). IsHeldIn (with_holder n holds books) k b.1) names
  other_each k [] differ held = tt
  other_each k (b ∷ bs) differ held = (one b.1 held.0, other_each k bs differ held.1) where
    one : (c : Bound) → IsHeldIn books k c → IsHeldIn (with_holder n holds books) k c
    one (AListener port) h = tt
    one (ASocket j) h = but_one n holds books j (app_differs n m k books j mine h differ) ∙ h

  -- another script's
  pub other_after : (s : Script) → (m ≡ s.number → ⊥) → AreOwnIn books s.number s.names
      → AreOwnIn (with_holder n holds books) s.number s.names
  other_after s differ own = record { held = other_each s.number s.names differ own.held; apart = own.apart }

  others_behind : (ss : List Script) → Each (λ (s : Script). m < s.number) ss
      → Each (λ (s : Script). AreOwnIn books s.number s.names) ss
      → Each (λ (s : Script). AreOwnIn (with_holder n holds books) s.number s.names) ss
  others_behind [] low own = tt
  others_behind (s ∷ ss) low own =
      (other_after s (below_differs m s.number low.0) own.0, others_behind ss low.1 own.1)

  pub all_after : (f : Script → Script) (x : Script) (scripts : List Script) → AreRising scripts
      → find (is_numbered m) scripts ≡ Some x
      → Each (λ (s : Script). AreOwnIn books s.number s.names) scripts
      → AreOwnIn (with_holder n holds books) (f x).number (f x).names
      → Each (λ (s : Script). AreOwnIn (with_holder n holds books) s.number s.names)
      (change_first (is_numbered m) f scripts)
  all_after f x [] rising found own one = absurd (cc (found))
  all_after f x (s ∷ ss) rising found own one =
      by_bool (is_numbered m s) here (λ h. later h (all_after f x ss rising.1
      (sym (found_later (is_numbered m) s ss h) ∙ found) own.1 one))
    where
      Own : List Script → Type 0
      Own ys = Each (λ (y : Script). AreOwnIn (with_holder n holds books) y.number y.names) ys

      here : is_numbered m s ≡ true → Own (change_first (is_numbered m) f (s ∷ ss))
      here h =
          let both : Some s ≡ Some x = sym (found_here (is_numbered m) s ss h) ∙ found in
          let is : s ≡ x = cc (both) in
          let number : s.number ≡ m = same_place s.number m h in
          subst Own (sym (first_here (is_numbered m) f s ss h)) (
            subst (λ (y : Script). AreOwnIn (with_holder n holds books) (f y).number (f y).names) (sym is) one,
            others_behind ss (subst (λ k. Each (λ (y : Script). k < y.number) ss) number rising.0) own.1,
          )

      later : is_numbered m s ≡ false → Own (change_first (is_numbered m) f ss)
          → Own (change_first (is_numbered m) f (s ∷ ss))
      later h rest =
          subst Own (sym (first_later (is_numbered m) f s ss h))
          (other_after s (λ e. two_places s.number m h (sym e)) own.0, rest)

-- ----- the books then
-- the flow of a book stands at its place
is_at : (books : List Book) (n : ℕ) (b : Book) → AreOfDifferentFlows books → slice_get books n ≡ Some b
    → IsAt n b.id books
is_at [] n b flows at = absurd (cc (at))
is_at (c ∷ cs) zero b flows at =
    let same : c ≡ b = cc (at) in
    subst (λ (d : Book). IsAt zero d.id (c ∷ cs)) same (refl, flows.0)
is_at (c ∷ cs) (suc n) b flows at = (flows_differ c.id b.id (first cs n flows.0 at), is_at cs n b flows.1 at) where
  first : (ds : List Book) (k : ℕ) → Each (λ (d : Book). same_flow c.id d.id ≡ false) ds → slice_get ds k ≡ Some b
      → same_flow c.id b.id ≡ false
  first [] k each there = absurd (cc (there))
  first (d ∷ ds) zero each there =
      let same : d ≡ b = cc (there) in
      subst (λ (e : Book). same_flow c.id e.id ≡ false) same each.0
  first (d ∷ ds) (suc k) each there = first ds k each.1 there

each_flow : (id : FlowId) (n : ℕ) (holds : Holder → Holder) (books : List Book)
    → Each (λ (c : Book). same_flow id c.id ≡ false) books
    → Each (λ (c : Book). same_flow id c.id ≡ false) (with_holder n holds books)
each_flow id n holds [] each = tt
each_flow id zero holds (b ∷ bs) each = (each.0, each.1)
each_flow id (suc n) holds (b ∷ bs) each = (each.0, each_flow id n holds bs each.1)

flows_after : (n : ℕ) (holds : Holder → Holder) (books : List Book) → AreOfDifferentFlows books
    → AreOfDifferentFlows (with_holder n holds books)
flows_after n holds [] flows = tt
flows_after zero holds (b ∷ bs) flows = (flows.0, flows.1)
flows_after (suc n) holds (b ∷ bs) flows = (each_flow b.id n holds bs flows.0, flows_after n holds bs flows.1)

-- what scripts try is the same with other holders
for_held : (m n : ℕ) (holds : Holder → Holder) (books : List Book) (step : Step) (s : Script)
    → try_for (slice_get (with_holder n holds books) m) step s ≡ try_for (slice_get books m) step s
for_held m n holds [] step s = refl
for_held zero zero holds (b ∷ bs) step s = refl
for_held zero (suc n) holds (b ∷ bs) step s = refl
for_held (suc m) zero holds (b ∷ bs) step s = refl
for_held (suc m) (suc n) holds (b ∷ bs) step s = for_held m n holds bs step s

of_held : (t n : ℕ) (holds : Holder → Holder) (books : List Book) (s : Script)
    → try_of t (with_holder n holds books) s ≡ try_of t books s
of_held t n holds books s = by_step (step_in t s) where
  by_place : (o : Option ℕ) (step : Step) → try_at o (with_holder n holds books) step s ≡ try_at o books step s
  by_place None step = refl
  by_place (Some m) step = for_held m n holds books step s

  by_step : (o : Option Step) → try_by o (with_holder n holds books) s ≡ try_by o books s
  by_step None = refl
  by_step (Some step) = by_place (place_named (socket_at step) s) step

each_tried : (t n : ℕ) (holds : Holder → Holder) (books : List Book) (scripts : List Script)
    (tries : List (Option ScriptTry)) → Each (λ (o : Option ScriptTry). IfSome o (IsTriedBy t books scripts)) tries
    → Each (λ (o : Option ScriptTry). IfSome o (IsTriedBy t (with_holder n holds books) scripts)) tries
each_tried t n holds books scripts [] each = tt
each_tried t n holds books scripts (None ∷ os) each = (tt, each_tried t n holds books scripts os each.1)
each_tried t n holds books scripts (Some x ∷ os) each = (
  record {
    script = each.0.script;
    found = each.0.found;
    tries = of_held t n holds books each.0.script ∙ each.0.tries;
  },
  each_tried t n holds books scripts os each.1,
)

-- ----- all that were answered
pub own_still : (t : ℕ) (tries : List (Option ScriptTry)) (replies : List (Option Reply)) (books : List Book)
    (scripts : List Script) → HaveOwnSockets books scripts → AreTriedBy t books scripts tries
    → HaveOwnSockets (books_after (leavings_of tries replies) books) (scripts_after (leavings_of tries replies) scripts)
own_still t [] replies books scripts own are = own
own_still t (o ∷ os) [] books scripts own are = own
own_still t (None ∷ os) (r ∷ rs) books scripts own are =
    own_still t os rs books scripts own (record { each = are.each.1; once = are.once.1 })
own_still t (Some x ∷ os) (None ∷ rs) books scripts own are =
    own_still t os rs books scripts own (record { each = are.each.1; once = are.once.1 })
own_still t (Some x ∷ os) (Some r ∷ rs) books scripts own are =
    own_still t os rs (book_after books (leaving_by x r)) (x.next r scripts)
    (subst (λ (bs : List Book). HaveOwnSockets bs (x.next r scripts)) (sym goes)
    (subst (HaveOwnSockets held) (sym went) now))
    (subst (λ (bs : List Book). AreTriedBy t bs (x.next r scripts) os) (sym goes)
    (subst (λ (xs : List Script). AreTriedBy t held xs os) (sym went) still))
  where
    by : IsTriedBy t books scripts x
    by = are.each.0

    s : Script
    s = by.script

    tries : IsTryAs t books s x
    tries = tries_as t books s x by.tries

    ask : x.ask ≡ s.number
    ask = ap (λ (y : ScriptTry). y.ask) tries.is

    found : find (is_numbered s.number) scripts ≡ Some s
    found = ap (λ k. find (is_numbered k) scripts) (sym ask) ∙ by.found

    held : List Book
    held = with_holder tries.place (holds_at tries.step r) books

    next : List Script
    next = change_first (is_numbered s.number) (by_reply tries.step r) scripts

    goes : book_after books (leaving_by x r) ≡ held
    goes =
        ap (λ (y : ScriptTry). book_after books (leaving_by y r)) tries.is
        ∙ sym (changed tries.place tries.book.id (holds_at tries.step r) books
        (is_at books tries.place tries.book own.flows tries.there))

    went : x.next r scripts ≡ next
    went = ap (λ (y : ScriptTry). y.next r scripts) tries.is

    mine : AreOwnIn books s.number s.names
    mine = found_has (λ (y : Script). AreOwnIn books y.number y.names) (is_numbered s.number) scripts s found own.own

    one : AreOwnIn held (by_reply tries.step r s).number (by_reply tries.step r s).names
    one = subst (λ k. AreOwnIn held k (by_reply tries.step r s).names) (sym (keeps_number tries.step r s))
        (own_after books s tries.place mine tries.step r (named_socket tries.step s tries.place tries.named))

    now : HaveOwnSockets held next
    now = record {
      rising = rising_still t books s.number tries.step r scripts own.rising;
      flows = flows_after tries.place (holds_at tries.step r) books own.flows;
      own = all_after books tries.place s.number (holds_at tries.step r)
          (own_holder books tries.step s tries.place mine tries.named) (by_reply tries.step r) s scripts own.rising
          found own.own one;
    }

    later : AreTriedBy t books next os
    later = tried_later t books s.number tries.step r scripts x os ask are

    still : AreTriedBy t held next os
    still = record {
      each = each_tried t tries.place (holds_at tries.step r) books next os later.each;
      once = later.once;
    }
