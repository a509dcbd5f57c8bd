-- What the turn of an application is: the call that its script tries, or one that leaves no such call.
use Rattle.std.proofs.Common.{◌≡◌, ℕ, zero, suc, ◌+◌, ◌==◌, ◌^◌, Bool, true, false, List, [], ◌∷◌, ◌++◌, map, position}
use Rattle.std.proofs.Common.{slice_get, nat_lt, Option, Some, None, refl, sym, ap, ◌∙◌, subst, arith, tests}
use Rattle.std.specs.Option.{option_map}
use Rattle.std.proofs.lemmas.Option.{slice_get-map}
use Rattle.tas_model.specs.declared.entry.Entry.{Entry}
use Rattle.tas_model.specs.declared.entry.Caller.{Caller}
use Rattle.tas_model.specs.declared.entry.Caller.TheVariants.{Slow, App}
use Rattle.tas_model.specs.declared.entry.Call.{Call}
use Rattle.tas_model.specs.declared.entry.Call.TheVariants as calls
use Rattle.tas_model.specs.declared.entry.Reply.{Reply}
use Rattle.tas_model.specs.LegalHistory.{extended_by}
use Rattle.host_rounds.specs.Lists.{change_at}
use Rattle.host_rounds.specs.Hosts.{Live, Host, Application, GivenUp, Starts, with_call, at_flow, answer_of}
use Rattle.host_rounds.specs.Hosts.{is_listened, is_ready, lowest_free, first_port, ports_given}
use Rattle.host_rounds.proofs.Rows.{change_twice}
use Rattle.host_books.specs.Deeds.{asked_as}
use Rattle.scenario_text.specs.declared.scenario.Step.{Step}
use Rattle.scenario_text.specs.declared.scenario.Step.TheVariants as steps
use Rattle.scenario_runs.specs.Applications.{Script, Turn, bound_in, flow_of, port_of, is_killed_at, stepped, unbind}
use Rattle.scenario_runs.specs.Applications.{called, sends, receives, once, ends, filling, on_flow, waits_for, step_of}
use Rattle.scenario_runs.specs.Applications.{listens_where, accepts_one, accepts, opens_where, connects, connects_on}
use Rattle.scenario_runs.specs.Applications.{is_concerned, aborted_where, killed, goes_on, turn_where, turn}
use Rattle.script_tries.specs.Steps.{socket_at, offer_at, call_at, holds_at, by_reply, place_named}
use Rattle.script_tries.proofs.Lists.{get_changed, get_other, by_bool}

-- ----- a call that is tried
unfoldable pub reply_in : (place t : ℕ) → Step → Turn → Reply
reply_in n t step x = answer_of n (called n t (call_at step x.script) (offer_at step x.script) x).host

-- what it leaves
abbrev pub tried : (place t : ℕ) → Step → Turn → Turn
tried n t step x =
    record {
      host =
          at_flow n (asked_as x.script.number t (call_at step x.script) (offer_at step x.script)
          (holds_at step (reply_in n t step x))) x.host;
      script = by_reply step (reply_in n t step x) x.script;
    }

ends_once : (n t : ℕ) (call : Call) (socket : List ℕ) (x : Turn)
    → ends n t call socket x ≡ record {
      host = at_flow n (λ (l : Live). record (with_call l (App x.script.number) t call []) { holder = GivenUp }) x.host;
      script = stepped (unbind socket x.script);
    }
ends_once n t call socket x =
    ap (λ (ls : List Live). record { host = record (x.host) { flows = ls }; script = stepped (unbind socket x.script) })
    (change_twice n (λ (l : Live). with_call l (App x.script.number) t call [])
    (λ (l : Live). record l { holder = GivenUp }) x.host.flows)

none_named : {P : Type 0} (n : ℕ) → None ≡ Some n → P
none_named n h = absurd (cc (h))

pub tried_step : (starts : Starts) (address : List ℕ → ℕ) (t n : ℕ) (step : Step) (x : Turn)
    → place_named (socket_at step) x.script ≡ Some n → step_of starts address t step x ≡ tried n t step x
unfolding reply_in
tried_step starts address t n (steps.Listen name port) x at = none_named n at
tried_step starts address t n (steps.Accept socket listener) x at = none_named n at
tried_step starts address t n (steps.Connect socket host port) x at = none_named n at
tried_step starts address t n (steps.Send socket text) x at = ap (λ o. on_flow o (λ (k : ℕ). sends k t text) x) at
tried_step starts address t n (steps.Fill socket count) x at =
    ap (λ o. on_flow o (λ (k : ℕ). sends k t (filling count)) x) at
tried_step starts address t n (steps.Recv socket count) x at =
    ap (λ o. on_flow o (λ (k : ℕ). receives k t (Some count)) x) at
tried_step starts address t n (steps.Drain socket) x at = ap (λ o. on_flow o (λ (k : ℕ). receives k t None) x) at
tried_step starts address t n (steps.Shut socket) x at = ap (λ o. on_flow o (λ (k : ℕ). once k t calls.Shut) x) at
tried_step starts address t n (steps.Close socket) x at =
    ap (λ o. on_flow o (λ (k : ℕ). ends k t calls.Close socket) x) at ∙ ends_once n t calls.Close socket x
tried_step starts address t n (steps.Abort socket) x at =
    ap (λ o. on_flow o (λ (k : ℕ). ends k t calls.Abort socket) x) at ∙ ends_once n t calls.Abort socket x
tried_step starts address t n (steps.Wait ticks) x at = none_named n at

-- ----- the calls that are tried
abbrev pub IsTryCall : Call → Type 0
IsTryCall (calls.Send count) = Unit {0}
IsTryCall (calls.Recv most) = Unit {0}
IsTryCall calls.Shut = Unit {0}
IsTryCall calls.Close = Unit {0}
IsTryCall calls.Abort = Unit {0}
IsTryCall _ = ⊥

pub tries_call : (step : Step) (s : Script) (n : ℕ) → place_named (socket_at step) s ≡ Some n
    → IsTryCall (call_at step s)
tries_call (steps.Listen name port) s n at = none_named n at
tries_call (steps.Accept socket listener) s n at = none_named n at
tries_call (steps.Connect socket host port) s n at = none_named n at
tries_call (steps.Send socket text) s n at = tt
tries_call (steps.Fill socket count) s n at = tt
tries_call (steps.Recv socket count) s n at = tt
tries_call (steps.Drain socket) s n at = tt
tries_call (steps.Shut socket) s n at = tt
tries_call (steps.Close socket) s n at = tt
tries_call (steps.Abort socket) s n at = tt
tries_call (steps.Wait ticks) s n at = none_named n at

-- ----- all other turns
-- The flow has the entries that it had, or one more, which is no call that an application tries.
pub data LeftAs (t : ℕ) (l m : Live) : Type 0 where
  Still : m.flow.entries ≡ l.flow.entries → LeftAs t l m
  More : (by : Caller) (call : Call) (offer : List ℕ)
      → m.flow.entries ≡ extended_by l.flow.params l.flow.entries by t call offer
      → ((app : ℕ) → by ≡ App app → IsTryCall call → ⊥) → LeftAs t l m

-- so is the flow at this place
abbrev pub LeavesAt : (t place : ℕ) → (before after : List Live) → Type 0
LeavesAt t m before after =
    (l : Live) → slice_get before m ≡ Some l → (k : Live) × (slice_get after m ≡ Some k) × LeftAs t l k

pub all_left : (t m : ℕ) (ls : List Live) → LeavesAt t m ls ls
all_left t m ls l at = (l, at, Still refl)

get_append : {X : Type 0} (xs ys : List X) (m : ℕ) (x : X) → slice_get xs m ≡ Some x
    → slice_get (xs ++ ys) m ≡ Some x
get_append [] ys m x at = absurd (cc (at))
get_append (z ∷ zs) ys zero x at = at
get_append (z ∷ zs) ys (suc m) x at = get_append zs ys m x at

one_more_left : (t m : ℕ) (ls more : List Live) → LeavesAt t m ls (ls ++ more)
one_more_left t m ls more l at = (l, get_append ls more m l at, Still refl)

pub same_place : (n m : ℕ) → (n == m) ≡ true → n ≡ m
same_place n m h = grind (arith, tests, h)

pub two_places : (n m : ℕ) → (n == m) ≡ false → n ≡ m → ⊥
two_places n m h same = grind (arith, tests, h, same)

at_left : (t m n : ℕ) (f : Live → Live) (ls : List Live) → ((l : Live) → LeftAs t l (f l))
    → LeavesAt t m ls (change_at n f ls)
at_left t m n f ls left l at = by_bool (n == m) here other where
  here : (n == m) ≡ true → (k : Live) × (slice_get (change_at n f ls) m ≡ Some k) × LeftAs t l k
  here h =
      let same : n ≡ m = same_place n m h in (
        f l,
        subst (λ (j : ℕ). slice_get (change_at j f ls) m ≡ Some (f l)) (sym same) (get_changed m f ls l at),
        left l,
      )

  other : (n == m) ≡ false → (k : Live) × (slice_get (change_at n f ls) m ≡ Some k) × LeftAs t l k
  other h = (l, get_other n m f ls (two_places n m h) ∙ at, Still refl)

map_left : (t m : ℕ) (f : Live → Live) (ls : List Live) → ((l : Live) → LeftAs t l (f l))
    → LeavesAt t m ls (map f ls)
map_left t m f ls left l at = (f l, slice_get-map f ls m ∙ ap (option_map f) at, left l)

-- what a turn leaves of the flow at a place
abbrev pub Leaves : (t place : ℕ) → Turn → Turn → Type 0
Leaves t m x y = LeavesAt t m x.host.flows y.host.flows

listens_left : (taken : Bool) (t m : ℕ) (name : List ℕ) (port : ℕ) (x : Turn)
    → Leaves t m x (listens_where taken t name port x)
listens_left true t m name port x = all_left t m x.host.flows
listens_left false t m name port x = all_left t m x.host.flows

accepted_left : (ready : Option ℕ) (t m : ℕ) (socket : List ℕ) (port : ℕ) (x : Turn)
    → Leaves t m x (accepts_one ready t socket port x)
accepted_left None t m socket port x = all_left t m x.host.flows
accepted_left (Some n) t m socket port x =
    let call_in : Live → Live = λ (l : Live). with_call l (App x.script.number) t calls.Accept [] in
    let hold : Live → Live = λ (l : Live). record l { holder = Application x.script.number } in
    subst (LeavesAt t m x.host.flows) (sym (change_twice n call_in hold x.host.flows))
    (at_left t m n (λ (l : Live). hold (call_in l)) x.host.flows
    (λ l. More (App x.script.number) calls.Accept [] refl (λ app same kind. kind)))

accepts_left : (port : Option ℕ) (t m : ℕ) (socket : List ℕ) (x : Turn) → Leaves t m x (accepts port t socket x)
accepts_left None t m socket x = all_left t m x.host.flows
accepts_left (Some port) t m socket x = accepted_left (position (is_ready port) x.host.flows) t m socket port x

opens_left : (starts : Starts) (left : Bool) (slot port t m : ℕ) (socket : List ℕ) (raddr rport : ℕ) (x : Turn)
    → Leaves t m x (opens_where left starts slot port t socket raddr rport x)
opens_left starts true slot port t m socket raddr rport x = one_more_left t m x.host.flows _
opens_left starts false slot port t m socket raddr rport x = all_left t m x.host.flows

connects_left : (starts : Starts) (free : Option ℕ) (t m : ℕ) (socket : List ℕ) (raddr rport : ℕ) (x : Turn)
    → Leaves t m x (connects starts free t socket raddr rport x)
connects_left starts None t m socket raddr rport x = all_left t m x.host.flows
connects_left starts (Some slot) t m socket raddr rport x =
    opens_left starts (nat_lt (first_port + ports_given x.host) (2 ^ 16)) slot (first_port + ports_given x.host) t m
    socket raddr rport x

waits_left : (place : Option ℕ) (t m : ℕ) (x : Turn)
    → Leaves t m x (on_flow place (λ (n : ℕ). waits_for n t calls.Ready) x)
waits_left None t m x = all_left t m x.host.flows
waits_left (Some n) t m x =
    at_left t m n (λ (l : Live). with_call l (App x.script.number) t calls.Ready []) x.host.flows
    (λ l. More (App x.script.number) calls.Ready [] refl (λ app same kind. kind))

begun_left : (starts : Starts) (begun : Bool) (t m : ℕ) (socket : List ℕ) (raddr rport : ℕ) (x : Turn)
    → Leaves t m x (connects_on starts begun t socket raddr rport x)
begun_left starts false t m socket raddr rport x =
    connects_left starts (lowest_free x.host) t m socket raddr rport x
begun_left starts true t m socket raddr rport x = waits_left (flow_of (bound_in x.script.names socket)) t m x

-- a step whose name stands for no socket is over without a call
none_left : (act : ℕ → Turn → Turn) (place : Option ℕ) (t m : ℕ) (x : Turn) → place ≡ None
    → Leaves t m x (on_flow place act x)
none_left act place t m x none =
    subst (λ (o : Option ℕ). Leaves t m x (on_flow o act x)) (sym none) (all_left t m x.host.flows)

step_left : (starts : Starts) (address : List ℕ → ℕ) (t m : ℕ) (step : Step) (x : Turn)
    → place_named (socket_at step) x.script ≡ None → Leaves t m x (step_of starts address t step x)
step_left starts address t m (steps.Listen name port) x none = listens_left (is_listened port x.host) t m name port x
step_left starts address t m (steps.Accept socket listener) x none =
    accepts_left (port_of (bound_in x.script.names listener)) t m socket x
step_left starts address t m (steps.Connect socket host port) x none =
    begun_left starts x.script.begun t m socket (address host) port x
step_left starts address t m (steps.Send socket text) x none = none_left _ _ t m x none
step_left starts address t m (steps.Fill socket count) x none = none_left _ _ t m x none
step_left starts address t m (steps.Recv socket count) x none = none_left _ _ t m x none
step_left starts address t m (steps.Drain socket) x none = none_left _ _ t m x none
step_left starts address t m (steps.Shut socket) x none = none_left _ _ t m x none
step_left starts address t m (steps.Close socket) x none = none_left _ _ t m x none
step_left starts address t m (steps.Abort socket) x none = none_left _ _ t m x none
step_left starts address t m (steps.Wait ticks) x none = all_left t m x.host.flows

not_app : (app : ℕ) → Slow ≡ App app → ⊥
not_app app h = absurd (cc (h))

aborted_left : (b : Bool) (t : ℕ) (l : Live) → LeftAs t l (aborted_where b t l)
aborted_left true t l = More Slow calls.Abort [] refl (λ app same kind. not_app app same)
aborted_left false t l = Still refl

killed_left : (t m : ℕ) (x : Turn) → Leaves t m x (killed t x)
killed_left t m x =
    map_left t m (λ (l : Live). aborted_where (is_concerned x.script.number x.host l) t l) x.host.flows
    (λ l. aborted_left (is_concerned x.script.number x.host l) t l)

-- ----- what a turn is
abbrev pub turn_with : Host → Script → Turn
turn_with host s = record { host = host; script = s }

pub data View (t : ℕ) (s : Script) : Type 0 where
  Tries : (step : Step) (n : ℕ)
      → ((starts : Starts) (address : List ℕ → ℕ) (host : Host)
      → turn starts address t (turn_with host s) ≡ tried n t step (turn_with host s)) → View t s
  Rests : ((starts : Starts) (address : List ℕ → ℕ) (host : Host) (m : ℕ)
      → Leaves t m (turn_with host s) (turn starts address t (turn_with host s))) → View t s

-- the turn at this step, where the application isn't killed
pub at_step : (starts : Starts) (address : List ℕ → ℕ) (t : ℕ) (s : Script) (host : Host) (left : List Step)
    → is_killed_at t s.kill ≡ false → s.left ≡ left
    → turn starts address t (turn_with host s) ≡ goes_on starts address t left (turn_with host s)
at_step starts address t s host left lives is =
    ap (λ b. turn_where b starts address t (turn_with host s)) lives
    ∙ ap (λ (xs : List Step). goes_on starts address t xs (turn_with host s)) is

pub turn_view : (t : ℕ) (s : Script) → View t s
turn_view t s = by_bool (is_killed_at t s.kill) dies (by_left s.left refl) where
  dies : is_killed_at t s.kill ≡ true → View t s
  dies h = Rests (λ starts address host m.
      subst (λ b. Leaves t m (turn_with host s) (turn_where b starts address t (turn_with host s))) (sym h)
      (killed_left t m (turn_with host s)))

  by_place : (step : Step) (rest : List Step) → s.left ≡ step ∷ rest → is_killed_at t s.kill ≡ false
      → (o : Option ℕ) → place_named (socket_at step) s ≡ o → View t s
  by_place step rest is lives None at = Rests (λ starts address host m.
      subst (Leaves t m (turn_with host s)) (sym (at_step starts address t s host (step ∷ rest) lives is))
      (step_left starts address t m step (turn_with host s) at))
  by_place step rest is lives (Some n) at = Tries step n (λ starts address host.
      at_step starts address t s host (step ∷ rest) lives is
      ∙ tried_step starts address t n step (turn_with host s) at)

  by_left : (left : List Step) → s.left ≡ left → is_killed_at t s.kill ≡ false → View t s
  by_left [] is lives = Rests (λ starts address host m.
      subst (Leaves t m (turn_with host s)) (sym (at_step starts address t s host [] lives is))
      (all_left t m host.flows))
  by_left (step ∷ rest) is lives = by_place step rest is lives (place_named (socket_at step) s) refl

-- ----- a turn that adds such a call is none of the others
not_longer : {X : Type 0} (xs : List X) (x : X) → xs ++ x ∷ [] ≡ xs → ⊥
not_longer [] x h = absurd (cc (h))
not_longer (y ∷ ys) x h = not_longer ys x (cc (h))

same_last : {X : Type 0} (xs : List X) (x y : X) → xs ++ x ∷ [] ≡ xs ++ y ∷ [] → x ≡ y
same_last [] x y h = cc (h)
same_last (z ∷ zs) x y h = same_last zs x y (cc (h))

pub no_other : (t app : ℕ) (call : Call) (offer : List ℕ) (l m : Live) → IsTryCall call
    → m.flow.entries ≡ extended_by l.flow.params l.flow.entries (App app) t call offer → LeftAs t l m → ⊥
no_other t app call offer l m kind is (Still same) = not_longer l.flow.entries _ (sym is ∙ same)
no_other t app call offer l m kind is (More by other with_ same differs) =
    let entries : _ ≡ _ = same_last l.flow.entries _ _ (sym same ∙ is) in
    let callers : by ≡ App app = ap (λ (x : Entry). x.caller) entries in
    let made : other ≡ call = ap (λ (x : Entry). x.call) entries in
    differs app callers (subst IsTryCall (sym made) kind)
