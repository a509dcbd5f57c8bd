-- What scripts try, one by one and all together: for the laws tries_stand and tries_are_independent.
use Rattle.std.proofs.Common.{◌≡◌, ◌≢◌, ℕ, zero, suc, Bool, true, false, List, [], ◌∷◌, Option, Some, None}
use Rattle.std.proofs.Common.{IfSome, slice_get, bytes_eq, refl, sym, ap, ◌∙◌, subst, true≢false, inl, inr, ◌⊎◌}
use Rattle.std.specs.List.{find}
use Rattle.tas_model.specs.declared.entry.FlowId.{FlowId}
use Rattle.tas_model.specs.declared.entry.HostParams.{HostParams}
use Rattle.host_rounds.specs.Lists.{Each}
use Rattle.host_rounds.specs.Hosts.{Application}
use Rattle.flow_lock.specs.Orders.{same_flow}
use Rattle.host_books.specs.Books.{Book, Setting}
use Rattle.host_books.specs.Tries.{IsTry}
use Rattle.host_books.specs.Words.{ArePairs}
use Rattle.host_books.proofs.Indexing.{is_same_flow}
use Rattle.host_books.proofs.Orders.{same_self}
use Rattle.scenario_text.specs.declared.scenario.Scenario.{Scenario}
use Rattle.scenario_text.specs.declared.scenario.Step.{Step}
use Rattle.scenario_runs.specs.Applications.{Bound, AListener, ASocket, Script, bound_in, flow_of, is_killed_at}
use Rattle.scenario_runs.specs.Worlds.{starts_of, address_in, scripts_of}
use Rattle.script_tries.specs.Steps.{place_for, socket_at, by_reply, step_where, step_in, place_named}
use Rattle.script_tries.specs.Tries.{IsTryOfStep}
use Rattle.script_tries.specs.Tries.{ScriptTry, try_on, try_for, try_at, try_by, try_of, IsTriedBy, DifferInAsk}
use Rattle.script_tries.specs.Tries.{AreAsks, AreIndependent, MayStandTogether, AreAllIndependent}
use Rattle.script_tries.specs.Names.{holder_in, IsHeldIn, AreOwnIn, HaveOwnSockets}
use Rattle.script_tries.proofs.Lists.{firsts_pass, by_bool, found_here, found_later, each_at}
use Rattle.script_tries.proofs.Turns.{tried_step, tries_call, turn_with, at_step}
use Rattle.script_tries.proofs.Asks.{IsTurn, is_numbered, two_scripts, stands, precedes}

-- ----- one
-- The step under way is tried, on the flow of this book.
pub record IsTryAs (t : ℕ) (books : List Book) (s : Script) (x : ScriptTry) : Type 0 where
  pub step : Step
  pub place : ℕ
  pub book : Book
  pub under_way : step_in t s ≡ Some step
  pub named : place_named (socket_at step) s ≡ Some place
  pub there : slice_get books place ≡ Some book
  pub is : x ≡ try_on book.id step s

pub tries_as : (t : ℕ) (books : List Book) (s : Script) (x : ScriptTry) → try_of t books s ≡ Some x
    → IsTryAs t books s x
tries_as t books s x tries = by_step (step_in t s) refl tries where
  by_book : (step : Step) (n : ℕ) → step_in t s ≡ Some step → place_named (socket_at step) s ≡ Some n
      → (o : Option Book) → slice_get books n ≡ o → try_for o step s ≡ Some x → IsTryAs t books s x
  by_book step n under_way named None there is = absurd (cc (is))
  by_book step n under_way named (Some b) there is = record {
    step = step;
    place = n;
    book = b;
    under_way = under_way;
    named = named;
    there = there;
    is = sym (some_same is);
  }
    where
      some_same : Some (try_on b.id step s) ≡ Some x → try_on b.id step s ≡ x
      some_same h = cc (h)

  by_place : (step : Step) → step_in t s ≡ Some step → (o : Option ℕ) → place_named (socket_at step) s ≡ o
      → try_at o books step s ≡ Some x → IsTryAs t books s x
  by_place step under_way None named is = absurd (cc (is))
  by_place step under_way (Some n) named is = by_book step n under_way named (slice_get books n) refl is

  by_step : (o : Option Step) → step_in t s ≡ o → try_by o books s ≡ Some x → IsTryAs t books s x
  by_step None under_way is = absurd (cc (is))
  by_step (Some step) under_way is = by_place step under_way (place_named (socket_at step) s) refl is

pub step_tried : (t : ℕ) (books : List Book) (s : Script) (x : ScriptTry) → try_of t books s ≡ Some x
    → IsTryOfStep t books s x
step_tried t books s x tries =
    let a : IsTryAs t books s x = tries_as t books s x tries in
    record {
      step = a.step;
      under_way = a.under_way;
      place = a.place;
      at = ap (λ o. place_for o s) a.under_way ∙ a.named;
      book = a.book;
      there = a.there;
      is = a.is;
    }

-- what stands for a step under way
pub record IsUnderWay (t : ℕ) (s : Script) (step : Step) : Type 0 where
  pub lives : is_killed_at t s.kill ≡ false
  pub rest : List Step
  pub left : s.left ≡ step ∷ rest

pub under_way_as : (t : ℕ) (s : Script) (step : Step) → step_in t s ≡ Some step → IsUnderWay t s step
under_way_as t s step is = by_kill (is_killed_at t s.kill) refl is where
  by_left : (left : List Step) → s.left ≡ left → is_killed_at t s.kill ≡ false → step_where false left ≡ Some step
      → IsUnderWay t s step
  by_left [] left lives h = absurd (cc (h))
  by_left (first ∷ rest) left lives h =
      let same : first ≡ step = cc (h) in
      record { lives = lives; rest = rest; left = left ∙ ap (λ (x : Step). x ∷ rest) same }

  by_kill : (b : Bool) → is_killed_at t s.kill ≡ b → step_where b s.left ≡ Some step → IsUnderWay t s step
  by_kill true lives h = absurd (cc (h))
  by_kill false lives h = by_left s.left refl lives h

-- its turn is that of the try
pub turn_is : (sc : Scenario) (p : HostParams) (t n : ℕ) (s : Script) (step : Step) → step_in t s ≡ Some step
    → place_named (socket_at step) s ≡ Some n → IsTurn sc p t n step s
turn_is sc p t n s step is named host =
    let way : IsUnderWay t s step = under_way_as t s step is in
    at_step (starts_of p) (address_in sc.hosts) t s host (step ∷ way.rest) way.lives way.left
    ∙ tried_step (starts_of p) (address_in sc.hosts) t n step (turn_with host s) named

-- the one flow isn't the other, nor the other the one
pub flows_differ : (id other : FlowId) → same_flow id other ≡ false → same_flow other id ≡ false
flows_differ id other apart = by_bool (same_flow other id) same (λ h. h) where
  same : same_flow other id ≡ true → same_flow other id ≡ false
  same h =
      let ids : other ≡ id = is_same_flow other id h in
      absurd (true≢false (sym (same_self id) ∙ (ap (same_flow id) (sym ids) ∙ apart)))

-- who asks is the script's application
pub asks_as : (t : ℕ) (books : List Book) (scripts : List Script) (x : ScriptTry) (by : IsTriedBy t books scripts x)
    → x.ask ≡ by.script.number
asks_as t books scripts x by =
    ap (λ (y : ScriptTry). y.ask) (tries_as t books by.script x by.tries).is

module _ (sc : Scenario) (p : HostParams) (t : ℕ) where
  try_stands : (s : Setting) (state : List Script) (x : Script) (y : ScriptTry)
      → find (is_numbered x.number) state ≡ Some x → try_of t s.books x ≡ Some y
      → IsTry (scripts_of sc p) t s state y
  try_stands s state x y found tries =
      let a : IsTryAs t s.books x y = tries_as t s.books x y tries in
      subst (IsTry (scripts_of sc p) t s state) (sym a.is)
      (stands sc p t s state a.place a.step x a.book found a.there
      (turn_is sc p t a.place x a.step a.under_way a.named))

  pub one_stands : (s : Setting) (state : List Script) (x : Script) → find (is_numbered x.number) state ≡ Some x
      → IfSome (try_of t s.books x) (IsTry (scripts_of sc p) t s state)
  one_stands s state x found = by_try (try_of t s.books x) refl where
    by_try : (o : Option ScriptTry) → try_of t s.books x ≡ o → IfSome o (IsTry (scripts_of sc p) t s state)
    by_try None is = tt
    by_try (Some y) is = try_stands s state x y found is

  pub all_stand : (s : Setting) (state : List Script) (tries : List (Option ScriptTry))
      → Each (λ (o : Option ScriptTry). IfSome o (IsTriedBy t s.books state)) tries
      → AreAsks (scripts_of sc p) t s state tries
  all_stand s state [] each = tt
  all_stand s state (None ∷ os) each = (tt, all_stand s state os each.1)
  all_stand s state (Some x ∷ os) each =
      let by : IsTriedBy t s.books state x = each.0 in
      let found : find (is_numbered by.script.number) state ≡ Some by.script =
      ap (λ k. find (is_numbered k) state) (sym (asks_as t s.books state x by)) ∙ by.found in
      (try_stands s state by.script x found by.tries, all_stand s state os each.1)

  -- ----- two
  two_on : (id other : FlowId) (step next : Step) (x y : Script) (n m : ℕ)
      → place_named (socket_at step) x ≡ Some n → place_named (socket_at next) y ≡ Some m → (x.number ≡ y.number → ⊥)
      → same_flow id other ≡ false → same_flow other id ≡ false
      → AreIndependent (scripts_of sc p) t (try_on id step x) (try_on other next y)
  two_on id other step next x y n m named called differ apart back = record {
    first = precedes sc p t id other step next x y (tries_call next y m called) differ apart;
    second = precedes sc p t other id next step y x (tries_call step x n named) (λ h. differ (sym h)) back;
    flow = apart;
    next = λ r q state. firsts_pass (is_numbered x.number) (is_numbered y.number) (by_reply step r) (by_reply next q)
        state (two_scripts x.number y.number step r differ)
        (two_scripts y.number x.number next q (λ h. differ (sym h)));
  }

  pub two_apart : (books others : List Book) (x y : Script) (a b : ScriptTry) → try_of t books x ≡ Some a
      → try_of t others y ≡ Some b → x.number ≢ y.number → same_flow a.flow b.flow ≡ false
      → AreIndependent (scripts_of sc p) t a b
  two_apart books others x y a b tries also differ apart =
      let one : IsTryAs t books x a = tries_as t books x a tries in
      let two : IsTryAs t others y b = tries_as t others y b also in
      let flows : same_flow one.book.id two.book.id ≡ false =
      ap (λ (z : ScriptTry). same_flow z.flow two.book.id) (sym one.is)
      ∙ (ap (λ (z : ScriptTry). same_flow a.flow z.flow) (sym two.is) ∙ apart) in
      subst (λ (z : ScriptTry). AreIndependent (scripts_of sc p) t z b) (sym one.is)
      (subst (AreIndependent (scripts_of sc p) t (try_on one.book.id one.step x)) (sym two.is)
      (two_on one.book.id two.book.id one.step two.step x y one.place two.place one.named two.named differ flows
      (flows_differ one.book.id two.book.id flows)))

-- ----- sockets
pub bound_has : (P : Bound → Type 0) (names : List (List ℕ × Bound)) (name : List ℕ) (bound : Bound)
    → Each (λ (b : List ℕ × Bound). P b.1) names → bound_in names name ≡ Some bound → P bound
bound_has P [] name bound each is = absurd (cc (is))
bound_has P (b ∷ bs) name bound each is =
    by_name (bytes_eq b.0 name) (λ later. bound_has P bs name bound each.1 later) is
  where
    by_name : (c : Bool) → (bound_in bs name ≡ Some bound → P bound)
        → elim c [ true ↦ Some b.1 | false ↦ bound_in bs name ] ≡ Some bound → P bound
    by_name true rest h = let same : b.1 ≡ bound = cc (h) in subst P same each.0
    by_name false rest h = rest h

is_socket : (o : Option Bound) (n : ℕ) → flow_of o ≡ Some n → o ≡ Some (ASocket n)
is_socket None n h = absurd (cc (h))
is_socket (Some (AListener port)) n h = absurd (cc (h))
is_socket (Some (ASocket k)) n h = let same : k ≡ n = cc (h) in ap (λ j. Some (ASocket j)) same

no_name : {P : Type 0} (n : ℕ) → None ≡ Some n → P
no_name n h = absurd (cc (h))

-- the name of a step's socket stands for it
pub record IsNamedSocket (step : Step) (s : Script) (place : ℕ) : Type 0 where
  pub socket : List ℕ
  pub named : socket_at step ≡ Some socket
  pub bound : bound_in s.names socket ≡ Some (ASocket place)

pub named_socket : (step : Step) (s : Script) (n : ℕ) → place_named (socket_at step) s ≡ Some n
    → IsNamedSocket step s n
named_socket step s n named = by_name (socket_at step) refl named where
  by_name : (o : Option (List ℕ)) → socket_at step ≡ o → place_named o s ≡ Some n → IsNamedSocket step s n
  by_name None is h = no_name n h
  by_name (Some socket) is h = record { socket = socket; named = is; bound = is_socket _ n h }

-- the script's own application has it
pub own_holder : (books : List Book) (step : Step) (s : Script) (n : ℕ) → AreOwnIn books s.number s.names
    → place_named (socket_at step) s ≡ Some n → holder_in books n ≡ Application s.number
own_holder books step s n own named =
    let at : IsNamedSocket step s n = named_socket step s n named in
    bound_has (IsHeldIn books s.number) s.names at.socket (ASocket n) own.held at.bound

-- of two places one is before the other
pub pairs_at : {X : Type 0} (R : X → X → Type 0) (xs : List X) (n m : ℕ) (x y : X) → ArePairs R xs
    → slice_get xs n ≡ Some x → slice_get xs m ≡ Some y → (n ≡ m → ⊥) → R x y ⊎ R y x
pairs_at R [] n m x y pairs at also differ = absurd (cc (at))
pairs_at R (z ∷ zs) zero zero x y pairs at also differ = absurd (differ refl)
pairs_at {X} R (z ∷ zs) zero (suc m) x y pairs at also differ =
    let same : z ≡ x = cc (at) in
    inl (subst (λ (w : X). R w y) same (each_at (R z) zs m y pairs.0 also))
pairs_at {X} R (z ∷ zs) (suc n) zero x y pairs at also differ =
    let same : z ≡ y = cc (also) in
    inr (subst (λ (w : X). R w x) same (each_at (R z) zs n x pairs.0 at))
pairs_at R (z ∷ zs) (suc n) (suc m) x y pairs at also differ =
    pairs_at R zs n m x y pairs.1 at also (λ h. differ (ap suc h))

pub found_has : (P : Script → Type 0) (test : Script → Bool) (bs : List Script) (x : Script) → find test bs ≡ Some x
    → Each P bs → P x
found_has P test [] x found each = absurd (cc (found))
found_has P test (b ∷ bs) x found each =
    by_bool (test b) here (λ h. found_has P test bs x (sym (found_later test b bs h) ∙ found) each.1)
  where
    here : test b ≡ true → P x
    here h =
        let both : Some b ≡ Some x = sym (found_here test b bs h) ∙ found in
        let same : b ≡ x = cc (both) in
        subst P same each.0

same_app : (n k : ℕ) → Application n ≡ Application k → n ≡ k
same_app n k h = cc (h)

-- ----- all
module _ (sc : Scenario) (p : HostParams) (t : ℕ) (books : List Book) (scripts : List Script)
    (own : HaveOwnSockets books scripts) where
  -- tries of two scripts are of two flows
  pub flows_apart : (x y : ScriptTry) → IsTriedBy t books scripts x → IsTriedBy t books scripts y → x.ask ≢ y.ask
      → same_flow x.flow y.flow ≡ false
  flows_apart x y by also differ =
      subst (λ (z : ScriptTry). same_flow z.flow y.flow ≡ false) (sym one.is)
      (subst (λ (z : ScriptTry). same_flow one.book.id z.flow ≡ false) (sym two.is)
      (by_order (pairs_at (λ (b c : Book). same_flow b.id c.id ≡ false) books one.place two.place one.book two.book
      own.flows one.there two.there places)))
    where
      one : IsTryAs t books by.script x
      one = tries_as t books by.script x by.tries

      two : IsTryAs t books also.script y
      two = tries_as t books also.script y also.tries

      mine : holder_in books one.place ≡ Application by.script.number
      mine = own_holder books one.step by.script one.place
          (found_has (λ (s : Script). AreOwnIn books s.number s.names) (is_numbered x.ask) scripts by.script by.found
          own.own) one.named

      other : holder_in books two.place ≡ Application also.script.number
      other = own_holder books two.step also.script two.place
          (found_has (λ (s : Script). AreOwnIn books s.number s.names) (is_numbered y.ask) scripts also.script
          also.found own.own) two.named

      places : one.place ≡ two.place → ⊥
      places same = differ
          (asks_as t books scripts x by
          ∙ (same_app _ _ (sym mine ∙ (ap (holder_in books) same ∙ other))
          ∙ sym (asks_as t books scripts y also)))

      by_order : (same_flow one.book.id two.book.id ≡ false) ⊎ (same_flow two.book.id one.book.id ≡ false)
          → same_flow one.book.id two.book.id ≡ false
      by_order (inl h) = h
      by_order (inr h) = flows_differ two.book.id one.book.id h

  two_together : (x y : ScriptTry) → IsTriedBy t books scripts x → IsTriedBy t books scripts y → x.ask ≢ y.ask
      → AreIndependent (scripts_of sc p) t x y
  two_together x y by also differ =
      two_apart sc p t books books by.script also.script x y by.tries also.tries
      (λ same. differ (asks_as t books scripts x by ∙ (same ∙ sym (asks_as t books scripts y also))))
      (flows_apart x y by also differ)

  one_and_all : (o : Option ScriptTry) (qs : List (Option ScriptTry)) → IfSome o (IsTriedBy t books scripts)
      → Each (λ (q : Option ScriptTry). IfSome q (IsTriedBy t books scripts)) qs → Each (DifferInAsk o) qs
      → Each (MayStandTogether (scripts_of sc p) t o) qs
  one_and_all o [] by each differ = tt
  one_and_all None (q ∷ qs) by each differ = (tt, one_and_all None qs by each.1 differ.1)
  one_and_all (Some x) (None ∷ qs) by each differ = (tt, one_and_all (Some x) qs by each.1 differ.1)
  one_and_all (Some x) (Some y ∷ qs) by each differ =
      (two_together x y by each.0 differ.0, one_and_all (Some x) qs by each.1 differ.1)

  pub all_independent : (tries : List (Option ScriptTry))
      → Each (λ (o : Option ScriptTry). IfSome o (IsTriedBy t books scripts)) tries → ArePairs DifferInAsk tries
      → AreAllIndependent (scripts_of sc p) t tries
  all_independent [] each pairs = tt
  all_independent (o ∷ os) each pairs =
      (one_and_all o os each.0 each.1 pairs.0, all_independent os each.1 pairs.1)
