-- The applications of a host try the calls of their scripts, one script after the other: for the answers for `try_one`
-- and `try_all`.
use Rattle.std.proofs.Common.{◌≡◌, ◌<◌, ◌≤◌, ◌==◌, ℕ, zero, suc, Bool, true, false, List, [], ◌∷◌, ◌++◌, map}
use Rattle.std.proofs.Common.{length, drop, cond, refl, sym, ap, subst, ◌∙◌, arith, true≢false}
use Rattle.std.proofs.Common.{length-take, slice_get}
use Rattle.std.specs.Prelude.{Option, Some, None}
use Rattle.std.specs.List.{find}
use Rattle.flow_state.specs.Calls.{call_of, offer_of}
use Rattle.flow_state.specs.declared.call.CallIn.{CallIn}
use Rattle.flow_state.specs.declared.call.CallIn.TheVariants as ins
use Rattle.tas_model.specs.declared.entry.Call.{Call}
use Rattle.tas_model.specs.declared.entry.FlowId.{FlowId}
use Rattle.tas_model.specs.declared.entry.Call.TheVariants as calls
use Rattle.core_phase.specs.Attempts.{MayTry, IsCallOf}
use Rattle.core_phase.specs.Lanes.{MayPlay}
use Rattle.core_phase.specs.declared.lane.AppLane.{AppLane}
use Rattle.core_phase.specs.declared.lane.Lane.{Lane}
use Rattle.core_phase.specs.declared.lane.Lane.TheVariants as lanes
use Rattle.host_books.specs.Books.{Book}
use Rattle.host_rounds.specs.Hosts.{Application}
use Rattle.host_rounds.specs.Lists.{Each, change_at}
use Rattle.local_host.specs.declared.attempts.Attempt as local
use Rattle.phase_orders.specs.Lanes.{IsTryBy}
use Rattle.scenario_host.proofs.Answering.{asks_some}
use Rattle.scenario_host.specs.Sound.{IsPart, IsPartOfFirst}
use Rattle.scenario_host.specs.Tries.{IsAtStep, IsTrialAt, IsTrialFirst, IsTrialWhere, IsTrialIn}
use Rattle.scenario_runs.specs.Applications.{Script, is_killed_at, most, filling}
use Rattle.scenario_text.specs.declared.scenario.Step.{Step}
use Rattle.scenario_text.specs.declared.scenario.Step.TheVariants as steps
use Rattle.script_tries.specs.Names.{AreOwnIn, holder_by}
use Rattle.script_tries.specs.Steps.{call_at, offer_at, socket_at, step_in, step_where, place_named}
use Rattle.script_tries.specs.Tries.{ScriptTry, try_on, try_at, try_by, try_for, try_of}
use Rattle.script_tries.proofs.Together as together
use Rattle.script_tries.proofs.Together.{own_holder}
use Rattle.script_tries.proofs.Turns as calls_of
use Rattle.core_host.specs.Attempts.{IsTryCall, IsTrying, with_attempt}
use Rattle.core_host.specs.Emission.{AreTriesSet, AreButTried}
use Rattle.core_host.specs.Sound.{IsStaffSound, IsUnasked, IsResting}
use Rattle.core_host.specs.Ticks.{IsSetTo, AreSetTo}
use Rattle.core_host.specs.Views.{Staffed}
use Rattle.shared_scripts.specs.Begun.{has_number, try_in, lane_try, HasTried}
use Rattle.shared_scripts.proofs.LaneTries.{IsOther, AreOnce, once_later, once_first}
use Rattle.shared_scripts.proofs.Rising.{same_number, is_number, apart_number, each_more}

-- ----- one script's try
-- the attempt is the call of the step under way, on the flow of its socket
pub record IsTrialOf (t : ℕ) (x : Script) (a : local.Attempt) : Type 0 where
  pub step : Step
  pub under : step_in t x ≡ Some step
  pub named : place_named (socket_at step) x ≡ Some a.place
  pub call : call_of a.call ≡ call_at step x
  pub offer : offer_of a.call ≡ offer_at step x
  pub left : List Step
  pub first : x.left ≡ step ∷ left

trial_at : (t : ℕ) (x : Script) (a : local.Attempt) (step : Step) (left : List Step) → step_in t x ≡ Some step
    → x.left ≡ step ∷ left → IsTrialAt step x (Some a) → IsTrialOf t x a
trial_at t x a (steps.Send socket text) left under first on =
    record { step = _; under = under; named = on.0; call = on.1; offer = on.2; left = left; first = first }
trial_at t x a (steps.Fill socket count) left under first on =
    record { step = _; under = under; named = on.0; call = on.1; offer = on.2; left = left; first = first }
trial_at t x a (steps.Recv socket count) left under first on =
    record { step = _; under = under; named = on.0; call = on.1; offer = on.2; left = left; first = first }
trial_at t x a (steps.Drain socket) left under first on =
    record { step = _; under = under; named = on.0; call = on.1; offer = on.2; left = left; first = first }
trial_at t x a (steps.Shut socket) left under first on =
    record { step = _; under = under; named = on.0; call = on.1; offer = on.2; left = left; first = first }
trial_at t x a (steps.Close socket) left under first on =
    record { step = _; under = under; named = on.0; call = on.1; offer = on.2; left = left; first = first }
trial_at t x a (steps.Abort socket) left under first on =
    record { step = _; under = under; named = on.0; call = on.1; offer = on.2; left = left; first = first }
trial_at t x a (steps.Listen name port) left under first on = absurd (cc (on))
trial_at t x a (steps.Accept socket listener) left under first on = absurd (cc (on))
trial_at t x a (steps.Connect socket host port) left under first on = absurd (cc (on))
trial_at t x a (steps.Wait ticks) left under first on = absurd (cc (on))

not_some : {X : Type 0} (x : X) → Some x ≡ None → ⊥
not_some x e = absurd (cc (e))

pub trial_of : (t : ℕ) (x : Script) (a : local.Attempt) → IsTrialIn t x (Some a) → IsTrialOf t x a
trial_of t x a is = by (is_killed_at t x.kill) refl where
  by_left : (left : List Step) → x.left ≡ left → is_killed_at t x.kill ≡ false → IsTrialFirst x.left x (Some a)
      → IsTrialOf t x a
  by_left [] same spared first =
      absurd (not_some a (subst (λ (l : List Step). IsTrialFirst l x (Some a)) same first))
  by_left (step ∷ rest) same spared first =
      trial_at t x a step rest
      (ap (λ (c : Bool). step_where c x.left) spared ∙ ap (step_where false) same) same
      (subst (λ (l : List Step). IsTrialFirst l x (Some a)) same first)

  by : (b : Bool) → is_killed_at t x.kill ≡ b → IsTrialOf t x a
  by true killed = absurd (not_some a (subst (λ (c : Bool). IsTrialWhere c x (Some a)) killed is))
  by false spared = by_left x.left refl spared (subst (λ (c : Bool). IsTrialWhere c x (Some a)) spared is)

-- nothing is tried
none_at : (step : Step) (x : Script) → IsTrialAt step x None → place_named (socket_at step) x ≡ None
none_at (steps.Send socket text) x none = none
none_at (steps.Fill socket count) x none = none
none_at (steps.Recv socket count) x none = none
none_at (steps.Drain socket) x none = none
none_at (steps.Shut socket) x none = none
none_at (steps.Close socket) x none = none
none_at (steps.Abort socket) x none = none
none_at (steps.Listen name port) x none = refl
none_at (steps.Accept socket listener) x none = refl
none_at (steps.Connect socket host port) x none = refl
none_at (steps.Wait ticks) x none = refl

pub no_trial : (t : ℕ) (books : List Book) (x : Script) → IsTrialIn t x None → try_of t books x ≡ None
no_trial t books x is = by (is_killed_at t x.kill) refl where
  by_left : (left : List Step) → x.left ≡ left → IsTrialFirst x.left x None
      → try_by (step_where false x.left) books x ≡ None
  by_left [] same first = ap (λ (l : List Step). try_by (step_where false l) books x) same
  by_left (step ∷ rest) same first =
      ap (λ (l : List Step). try_by (step_where false l) books x) same
      ∙ ap (λ (o : Option ℕ). try_at o books step x)
      (none_at step x (subst (λ (l : List Step). IsTrialFirst l x None) same first))

  by : (b : Bool) → is_killed_at t x.kill ≡ b → try_of t books x ≡ None
  by true killed = ap (λ (c : Bool). try_by (step_where c x.left) books x) killed
  by false spared =
      ap (λ (c : Bool). try_by (step_where c x.left) books x) spared
      ∙ by_left x.left refl (subst (λ (c : Bool). IsTrialWhere c x None) spared is)

-- the book of its flow
pub record HasBook (t : ℕ) (books : List Book) (x : Script) (a : local.Attempt) : Type 0 where
  pub book : Book
  pub there : slice_get books a.place ≡ Some book
  pub held : book.holder ≡ Application x.number
  pub try_ : ScriptTry
  pub tries : try_of t books x ≡ Some try_
  pub flow : try_.flow ≡ book.id
  pub call : call_of a.call ≡ try_.call
  pub offer : offer_of a.call ≡ try_.offer

pub trial_book : (t : ℕ) (books : List Book) (x : Script) (a : local.Attempt) → IsTrialOf t x a
    → AreOwnIn books x.number x.names → HasBook t books x a
trial_book t books x a is own =
    by (slice_get books a.place) refl (own_holder books is.step x a.place own is.named)
  where
    by : (o : Option Book) → slice_get books a.place ≡ o → holder_by o ≡ Application x.number → HasBook t books x a
    by None there held = absurd (cc (held))
    by (Some b) there held = record {
      book = b;
      there = there;
      held = held;
      try_ = try_on b.id is.step x;
      tries = ap (λ (o : Option Step). try_by o books x) is.under
          ∙ (ap (λ (o : Option ℕ). try_at o books is.step x) is.named
          ∙ ap (λ (o : Option Book). try_for o is.step x) there);
      flow = refl;
      call = is.call;
      offer = is.offer;
    }

-- ----- which calls they are
few_offered : (step : Step) (x : Script) → length (offer_at step x) ≤ 65536
few_offered (steps.Send socket text) x = omega (arith, length-take most (drop x.done text))
few_offered (steps.Fill socket count) x = omega (arith, length-take most (drop x.done (filling count)))
few_offered (steps.Recv socket count) x = omega arith
few_offered (steps.Drain socket) x = omega arith
few_offered (steps.Shut socket) x = omega arith
few_offered (steps.Close socket) x = omega arith
few_offered (steps.Abort socket) x = omega arith
few_offered (steps.Listen name port) x = omega arith
few_offered (steps.Accept socket listener) x = omega arith
few_offered (steps.Connect socket host port) x = omega arith
few_offered (steps.Wait ticks) x = omega arith

-- a Recv asks for some bytes
abbrev AsksSome : Call → Type 0
AsksSome (calls.Recv n) = (1 ≤ n) × (n ≤ 65536)
AsksSome call = Unit {0}

asks_at : (step : Step) (x : Script) → IsPart step x.done → AsksSome (call_at step x)
asks_at (steps.Send socket text) x part = tt
asks_at (steps.Fill socket count) x part = tt
asks_at (steps.Recv socket count) x part = asks_some (Some count) x.done part
asks_at (steps.Drain socket) x part = asks_some None x.done tt
asks_at (steps.Shut socket) x part = tt
asks_at (steps.Close socket) x part = tt
asks_at (steps.Abort socket) x part = tt
asks_at (steps.Listen name port) x part = tt
asks_at (steps.Accept socket listener) x part = tt
asks_at (steps.Connect socket host port) x part = tt
asks_at (steps.Wait ticks) x part = tt

try_kind : (c : CallIn) (step : Step) (x : Script) → calls_of.IsTryCall (call_of c) → call_of c ≡ call_at step x
    → offer_of c ≡ offer_at step x → IsPart step x.done → IsTryCall c
try_kind (ins.Send b) step x kind call offer part = omega (arith, few_offered step x, ap length offer)
try_kind (ins.Recv n) step x kind call offer part = subst AsksSome (sym call) (asks_at step x part)
try_kind ins.Shut step x kind call offer part = tt
try_kind ins.Close step x kind call offer part = tt
try_kind ins.Abort step x kind call offer part = tt
try_kind (ins.Connect iss) step x kind call offer part = absurd kind
try_kind (ins.Passive frame iss seg) step x kind call offer part = absurd kind
try_kind (ins.Rx frame seg) step x kind call offer part = absurd kind
try_kind ins.Emit step x kind call offer part = absurd kind
try_kind ins.Tick step x kind call offer part = absurd kind
try_kind ins.Control step x kind call offer part = absurd kind
try_kind ins.Accept step x kind call offer part = absurd kind
try_kind ins.Ready step x kind call offer part = absurd kind

pub trial_kind : (t : ℕ) (x : Script) (a : local.Attempt) → IsTrialOf t x a → IsAtStep x → IsTryCall a.call
trial_kind t x a is at =
    try_kind a.call is.step x
    (subst calls_of.IsTryCall (sym is.call) (calls_of.tries_call is.step x a.place is.named)) is.call is.offer
    (subst (λ (l : List Step). IsPartOfFirst l x.done) is.first at.part)

-- ----- a lane of a place
turned_number : (a b : ℕ) → (a == b) ≡ false → (b == a) ≡ false
turned_number a b e = by (b == a) refl where
  by : (c : Bool) → (b == a) ≡ c → (b == a) ≡ false
  by true same = absurd (true≢false (sym (same_number a b (sym (is_number b a same))) ∙ e))
  by false apart = apart

-- one lane changes, of an application that no other lane is of
one_changed : (P Q : Lane → Type 0) (n : ℕ) (m : Lane) → ((l : Lane) → IsOther n l → P l → Q l) → Q m
    → (ls : List Lane) (k : ℕ) (l : AppLane) → slice_get ls k ≡ Some (lanes.App l) → l.app.number ≡ n → AreOnce ls
    → Each P ls → Each Q (change_at k (λ (v : Lane). m) ls)
one_changed P Q n m other own [] k l there number once each = absurd (cc (there))
one_changed P Q n m other own (v ∷ ls) zero l there number once each =
    (own, others_kept ls (later v there once) each.1)
  where
    later : (w : Lane) → ◌≡◌ {A = Option Lane} (Some w) (Some (lanes.App l)) → AreOnce (w ∷ ls)
        → Each (IsOther n) ls
    later (lanes.Core c) same once = absurd (cc (same))
    later (lanes.App c) same once =
        let is : c ≡ l = cc (same) in
        subst (λ (k : ℕ). Each (IsOther k) ls) (ap (λ (y : AppLane). y.app.number) is ∙ number) (once_first c ls once)

    others_kept : (ws : List Lane) → Each (IsOther n) ws → Each P ws → Each Q ws
    others_kept [] others each = tt
    others_kept (w ∷ ws) others each = (other w others.0 each.0, others_kept ws others.1 each.1)
one_changed P Q n m other own (v ∷ ls) (suc k) l there number once each = (
  other v (first v once) each.0,
  one_changed P Q n m other own ls k l there number (once_later v ls once) each.1,
)
  where
    at_other : (a : ℕ) (ws : List Lane) (j : ℕ) → Each (IsOther a) ws → slice_get ws j ≡ Some (lanes.App l)
        → (l.app.number == a) ≡ false
    at_other a [] j others at = absurd (cc (at))
    at_other a (lanes.Core c ∷ ws) zero others at = absurd (cc (at))
    at_other a (lanes.App c ∷ ws) zero others at =
        let is : c ≡ l = cc (at) in subst (λ (y : AppLane). (y.app.number == a) ≡ false) is others.0
    at_other a (w ∷ ws) (suc j) others at = at_other a ws j others.1 at

    first : (w : Lane) → AreOnce (w ∷ ls) → IsOther n w
    first (lanes.Core c) once = tt
    first (lanes.App c) once =
        subst (λ (b : ℕ). (c.app.number == b) ≡ false) number
        (turned_number l.app.number c.app.number (at_other c.app.number ls k (once_first c ls once) there))

-- ----- what the lanes are set to
pub set_each : (f : Lane → Option ScriptTry) (ls : List Lane) → Each (λ (l : Lane). IsSetTo (f l) l) ls
    → AreSetTo (map f ls) ls
set_each f [] each = tt
set_each f (l ∷ ls) each = (each.0, set_each f ls each.1)

-- so it is where these scripts were asked what they try, and the calls may be tried
pub record IsSetBy (t : ℕ) (books : List Book) (scripts : List Script) (l : Lane) : Type 0 where
  pub set : IsSetTo (lane_try t books scripts l) l
  pub may : MayPlay l

abbrev pub AreSetBy : (t : ℕ) → List Script → Staffed → Type 0
AreSetBy t scripts h = Each (IsSetBy t h.host.books scripts) h.lanes

-- none were asked
pub none_set : (t : ℕ) (books : List Book) (check : Bool) (ls : List Lane) → Each IsUnasked ls
    → Each (IsResting check) ls → Each (IsSetBy t books []) ls
none_set t books check [] none resting = tt
none_set t books check (lanes.Core l ∷ ls) none resting =
    (record { set = refl; may = tt }, none_set t books check ls none.1 resting.1)
none_set t books check (lanes.App l ∷ ls) none resting = (
  record {
    set = none.0.0;
    may = (subst (MayTry l.app l.socket) (sym none.0.0) tt, resting.0);
  },
  none_set t books check ls none.1 resting.1,
)

-- ----- one script more
module _ (t : ℕ) (books : List Book) where
  found_more : (m : ℕ) (ys : List Script) (x : Script) → (x.number == m) ≡ false
      → find (has_number m) (ys ++ x ∷ []) ≡ find (has_number m) ys
  found_more m [] x other = ap (λ (b : Bool). cond b (Some x) None) other
  found_more m (y ∷ ys) x other = ap (λ (o : Option Script). cond (y.number == m) (Some y) o) (found_more m ys x other)

  found_last : (ys : List Script) (x : Script) → Each (λ (y : Script). y.number < x.number) ys
      → find (has_number x.number) (ys ++ x ∷ []) ≡ Some x
  found_last [] x below = ap (λ (b : Bool). cond b (Some x) None) (same_number x.number x.number refl)
  found_last (y ∷ ys) x below =
      ap (λ (b : Bool). cond b (Some y) (find (has_number x.number) (ys ++ x ∷ [])))
      (apart_number y.number x.number below.0)
      ∙ found_last ys x below.1

  -- nothing more is tried where the script tries nothing
  none_more : (m : ℕ) (ys : List Script) (x : Script) → try_of t books x ≡ None
      → try_in t books (find (has_number m) (ys ++ x ∷ [])) ≡ try_in t books (find (has_number m) ys)
  none_more m [] x none = by (x.number == m) where
    by : (b : Bool) → try_in t books (cond b (Some x) None) ≡ None
    by true = none
    by false = refl
  none_more m (y ∷ ys) x none = by (y.number == m) (none_more m ys x none) where
    by : (b : Bool) → try_in t books (find (has_number m) (ys ++ x ∷ [])) ≡ try_in t books (find (has_number m) ys)
        → try_in t books (cond b (Some y) (find (has_number m) (ys ++ x ∷ [])))
        ≡ try_in t books (cond b (Some y) (find (has_number m) ys))
    by true rest = refl
    by false rest = rest

  same_tries : (ys : List Script) (x : Script) → try_of t books x ≡ None → (ls : List Lane)
      → Each (IsSetBy t books ys) ls → Each (IsSetBy t books (ys ++ x ∷ [])) ls
  same_tries ys x none [] each = tt
  same_tries ys x none (lanes.Core l ∷ ls) each =
      (record { set = each.0.set; may = each.0.may }, same_tries ys x none ls each.1)
  same_tries ys x none (lanes.App l ∷ ls) each = (
    record {
      set = subst (λ (o : Option ScriptTry). IsTryBy o l) (sym (none_more l.app.number ys x none)) each.0.set;
      may = each.0.may;
    },
    same_tries ys x none ls each.1,
  )

  -- the lane of another application
  other_still : (ys : List Script) (x : Script) (l : Lane) → IsOther x.number l → IsSetBy t books ys l
      → IsSetBy t books (ys ++ x ∷ []) l
  other_still ys x (lanes.Core l) other is = record { set = is.set; may = is.may }
  other_still ys x (lanes.App l) other is = record {
    set = subst (λ (o : Option ScriptTry). IsTryBy o l)
        (sym (ap (try_in t books) (found_more l.app.number ys x (turned_number l.app.number x.number other)))) is.set;
    may = is.may;
  }

  -- and its own
  own_set : (ys : List Script) (x : Script) (y : ScriptTry) (id : FlowId) (call : CallIn) (h k : Staffed)
      → Each (λ (z : Script). z.number < x.number) ys → try_of t books x ≡ Some y → y.app ≡ x.number → y.flow ≡ id
      → (is : IsTrying x.number id call h k) → call_of call ≡ y.call → offer_of call ≡ y.offer
      → is.lane.host < 67108863
      → IsSetBy t books (ys ++ x ∷ []) (with_attempt is.socket is.attempt is.lane)
  own_set ys x y id call h k below tries app flow is called offered host = record {
    set = subst (λ (o : Option ScriptTry). IsTryBy o (record (is.lane) { socket = is.socket; attempt = is.attempt }))
        (sym (ap (λ (m : ℕ). try_in t books (find (has_number m) (ys ++ x ∷ []))) is.own.number
        ∙ (ap (try_in t books) (found_last ys x below) ∙ tries))) (record {
          app_is = app ∙ sym is.own.number;
          flow = flow ∙ sym is.flow;
          call_is = subst (IsCallOf is.attempt) called is.call_is.0;
          offer = sym (is.call_is.1 ∙ offered);
        });
    may = (is.may, host);
  }

-- ----- the next script
-- the lane's application is of this host
lane_host : (check : Bool) (ls : List Lane) (k : ℕ) (l : AppLane) → Each (IsResting check) ls
    → slice_get ls k ≡ Some (lanes.App l) → l.host < 67108863
lane_host check [] k l resting at = absurd (cc (at))
lane_host check (lanes.Core c ∷ ls) zero l resting at = absurd (cc (at))
lane_host check (lanes.App c ∷ ls) zero l resting at =
    let is : c ≡ l = cc (at) in subst (λ (y : AppLane). y.host < 67108863) is resting.0
lane_host check (c ∷ ls) (suc k) l resting at = lane_host check ls k l resting.1 at

try_app : (t : ℕ) (books : List Book) (x : Script) (y : ScriptTry) → try_of t books x ≡ Some y → y.app ≡ x.number
try_app t books x y e = ap (λ (z : ScriptTry). z.app) (together.tries_as t books x y e).is

pub set_more : (t : ℕ) (ys : List Script) (x : Script) (h k : Staffed) → IsStaffSound h → AreOnce h.lanes
    → Each (λ (z : Script). z.number < x.number) ys → AreSetBy t ys h
    → HasTried x.number (try_of t h.host.books x) h k → AreSetBy t (ys ++ x ∷ []) k
set_more t ys x h k sound once below set tried = by (try_of t h.host.books x) refl tried where
  by : (o : Option ScriptTry) → try_of t h.host.books x ≡ o → HasTried x.number o h k → AreSetBy t (ys ++ x ∷ []) k
  by None e same =
      subst (AreSetBy t (ys ++ x ∷ [])) (sym same) (same_tries t h.host.books ys x e h.lanes set)
  by (Some y) e (call, is, called, offered) =
      let books : k.host.books ≡ h.host.books = ap (λ (z : Staffed). z.host.books) is.same in
      subst (λ (bs : List Book). Each (IsSetBy t bs (ys ++ x ∷ [])) k.lanes) (sym books)
      (subst (Each (IsSetBy t h.host.books (ys ++ x ∷ []))) (sym is.lanes)
      (one_changed (IsSetBy t h.host.books ys) (IsSetBy t h.host.books (ys ++ x ∷ [])) x.number
      (with_attempt is.socket is.attempt is.lane) (other_still t h.host.books ys x)
      (own_set t h.host.books ys x y y.flow call h k below e (try_app t h.host.books x y e) refl is called offered
      (lane_host h.host.slow.check_sums h.lanes is.place is.lane sound.resting is.own.there)) h.lanes is.place is.lane
      is.own.there is.own.number once set))

pub sets_tries : (t : ℕ) (scripts : List Script) (h : Staffed) → AreSetBy t scripts h
    → AreSetTo (map (lane_try t h.host.books scripts) h.lanes) h.lanes
sets_tries t scripts h set =
    set_each (lane_try t h.host.books scripts) h.lanes
    (each_more (IsSetBy t h.host.books scripts) (λ (l : Lane). IsSetTo (lane_try t h.host.books scripts l) l)
    (λ l is. is.set) h.lanes set)

pub sets_may : (t : ℕ) (scripts : List Script) (h : Staffed) → AreSetBy t scripts h → Each MayPlay h.lanes
sets_may t scripts h set = each_more (IsSetBy t h.host.books scripts) MayPlay (λ l is. is.may) h.lanes set

-- ----- nothing but what is tried
pub tried_same : (ls : List Lane) → AreButTried ls ls
tried_same [] = refl
tried_same (lanes.Core l ∷ ls) = (refl, tried_same ls)
tried_same (lanes.App l ∷ ls) = (refl, tried_same ls)

pub set_itself : (h : Staffed) → IsStaffSound h → AreTriesSet h h
set_itself h sound = record { tries = tried_same h.lanes; sound = sound; same = refl }

-- what has been set so far, and one more
pub tried_more : (app : ℕ) (o : Option ScriptTry) (start h k : Staffed) → AreTriesSet start h → HasTried app o h k
    → ((id : FlowId) (call : CallIn) (before after : Staffed) → IsTrying app id call before after
    → AreTriesSet before after)
    → ((f g e : Staffed) → AreTriesSet f g → AreTriesSet g e → AreTriesSet f e) → AreTriesSet start k
tried_more app None start h k set same one both = subst (AreTriesSet start) (sym same) set
tried_more app (Some y) start h k set (call, is, called, offered) one both = both start h k set (one y.flow call h k is)
