-- Records that the slow path takes and gives back alone, one after the other.
use Rattle.std.proofs.Common.{◌≡◌, ap, sym, ◌∙◌, refl, subst, ℕ, suc, ◌+◌, ◌<◌, cond, Bool, true, false}
use Rattle.std.proofs.Common.{List, [], ◌∷◌, ◌++◌, append_assoc, append-nil, take, drop, arith}
use Rattle.std.proofs.lemmas.List.{take-append-drop}
use Rattle.std.specs.Prelude.{◌==◌, Option, Some, Result, Ok, Err, OnOk, OnErr, slice_get}
use lib.ListN.{get_elem?}
use Rattle.atomic_table.specs.Seated.{TableId}
use Rattle.tas_model.specs.declared.entry.FlowId.{FlowId}
use Rattle.flow_state.specs.Flow.{Flow}
use Rattle.flow_lock.specs.Answers.{IsTaken}
use Rattle.flow_lock.specs.Claims.{HasPin}
use Rattle.flow_lock.specs.Histories.{IsLonger}
use Rattle.flow_lock.specs.Orders.{known_of, same_flow}
use Rattle.flow_lock.specs.Passes.{Seen}
use Rattle.flow_lock.specs.Steps.{IsAlone, alone_or, gave}
use Rattle.flow_lock.specs.declared.view.Held.{Held}
use Rattle.flow_lock.specs.declared.view.History.{History}
use Rattle.flow_lock.specs.declared.view.Turn.{Turn}
use Rattle.flow_lock.specs.declared.view.View.{View}
use Rattle.app_reaper.specs.OneCall.{history, IsOwn}
use Rattle.app_reaper.proofs.Calls.{used}
use Rattle.host_rounds.specs.Lists.{Each}
use Rattle.flow_clock.specs.Ledgers as clock
use Rattle.flow_clock.proofs.Keeping.{after_use, each_at}
use Rattle.flow_clock.proofs.Serving.{take_more}
use Rattle.core_worker.specs.Sending.{IsAllSent, IsPartSent}
use Rattle.core_worker.specs.Kicks.{kick_of, one_kick}
use Rattle.core_worker.specs.declared.kicks.Kick.{Kick}
use Rattle.slow_worker.specs.Alone.{IsUsed, AreUsed, IsAsItWas, kicks_due, IsLookedAt, IsLookStopped}
use Rattle.slow_worker.specs.Alone.{IsSendStopped}
use Rattle.slow_worker.specs.Workers.{Worker, AreKept}
use Rattle.slow_worker.specs.declared.known.KnownFlow.{KnownFlow}
use Rattle.slow_worker.proofs.Found.{both, same_number}
use Rattle.slow_worker.proofs.Keeping.{kept_used}

-- ----- one record
pub as_it_was : (h : History) → IsLonger h h
as_it_was h = ([], ap (λ l. record h { entries = l }) (sym (append-nil h.entries)))

pub looked_at : (id : FlowId) (r : Flow) (v u w : View) → IsOwn id v r → IsTaken id (history r) v u
    → w ≡ gave id (history r) u → IsUsed IsAsItWas id v w
looked_at id r v u w own taken given = (r, history r, own, refl, used id r (history r) v u w taken given)

pub kick_put : (id : FlowId) (r : Flow) (v : View) (kicks kicks' : List Kick) (k : Option Kick) → IsOwn id v r
    → IsAlone v → k ≡ kick_of r.id (history r) → kicks' ≡ kicks ++ one_kick k
    → kicks' ≡ kicks ++ one_kick (kick_of id (known_of id v.base))
kick_put id r v kicks kicks' k own alone of put =
    put ∙ ap (λ x. kicks ++ one_kick x)
    (of ∙ (ap (λ f. kick_of f (history r)) own.own ∙ ap (kick_of id) (own.known alone)))

-- with all that became of it, or a part
pub all_used : {A E : Type 0} (became : History → History → Type 0) (id : FlowId) (r : Flow) (k : History)
    (v u w : View) (x : Result A E) → IsOwn id v r → IsTaken id (history r) v u → w ≡ gave id k u
    → OnOk x (became (history r) k) → OnOk x (IsUsed became id v w)
all_used became id r k v u w (Ok a) own taken given is = (r, k, own, is, used id r k v u w taken given)
all_used became id r k v u w (Err e) own taken given is = tt

pub part_used : {A E : Type 0} (became : History → History → Type 0) (id : FlowId) (r : Flow) (k : History)
    (v u w : View) (x : Result A E) → IsOwn id v r → IsTaken id (history r) v u → w ≡ gave id k u
    → OnErr x (became (history r) k) → OnErr x (IsUsed became id v w)
part_used became id r k v u w (Ok a) own taken given is = tt
part_used became id r k v u w (Err e) own taken given is = (r, k, own, is, used id r k v u w taken given)

-- ----- what stays
pub record Stays (v w : View) : Type 0 where
  pub alone : IsAlone v → IsAlone w
  pub idle : v.held ≡ [] → w.held ≡ []
  pub pins : w.pins ≡ v.pins
  pub marks : w.marks ≡ v.marks

one_stays : (became : History → History → Type 0) (id : FlowId) (v w : View) → IsUsed became id v w → Stays v w
one_stays became id v w (r, k, own, is, u) = record {
  alone = (after_use id r k v w u).alone;
  idle = λ e. ap (λ (x : View). x.held) u.3;
  pins = ap (λ (x : View). x.pins) u.3;
  marks = ap (λ (x : View). x.marks) u.3;
}

pub all_stay : (became : History → History → Type 0) (ids : List FlowId) (v w : View) → AreUsed became ids v w
    → Stays v w
all_stay became [] v w same = subst (Stays v) (sym same)
    (record { alone = λ a. a; idle = λ e. e; pins = refl; marks = refl })
all_stay became (id ∷ ids) v w (u, one, rest) =
    let a = one_stays became id v u one in
    let b = all_stay became ids u w rest in
    record {
      alone = λ is. b.alone (a.alone is);
      idle = λ is. b.idle (a.idle is);
      pins = b.pins ∙ a.pins;
      marks = b.marks ∙ a.marks;
    }

-- what the next record's take asks for
pub next_pinned : (t : TableId) (s n : Seen) (pins : List FlowId) (at : ℕ) (f : FlowId) → Stays s.view n.view
    → Each (clock.IsKept t.slots s) pins → slice_get pins at ≡ Some f → HasPin n.view f × (f.slot < t.slots)
next_pinned t s n pins at f stays each there =
    let own = each_at (clock.IsKept t.slots s) pins at f each there in
    ((own.0.0.0, ap (λ l. get_elem? l own.0.0.0) stays.pins ∙ own.0.0.1), own.1)

-- ----- all records
used_more : (became : History → History → Type 0) (ids : List FlowId) (f : FlowId) (v u w : View)
    → AreUsed became ids v u → IsUsed became f u w → AreUsed became (ids ++ f ∷ []) v w
used_more became [] f v u w same one = (w, subst (λ x. IsUsed became f x w) same one, refl)
used_more became (g ∷ gs) f v u w (x, first, rest) one = (x, first, used_more became gs f x u w rest one)

pub used_next : (became : History → History → Type 0) (pins : List FlowId) (at : ℕ) (f : FlowId) (v u w : View)
    → AreUsed became (take at pins) v u → slice_get pins at ≡ Some f → IsUsed became f u w
    → AreUsed became (take (at + 1) pins) v w
used_next became pins at f v u w all there one =
    let next : at + 1 ≡ suc at = omega arith in
    subst (λ l. AreUsed became l v w) (sym (ap (λ n. take n pins) next ∙ take_more pins at f there))
    (used_more became (take at pins) f v u w all one)

-- the worker may go on
pub used_kept : (became : History → History → Type 0) (t : TableId) (ids : List FlowId) (s n : Seen)
    (doomed pins : List FlowId) (flows : List KnownFlow) → n.table ≡ s.table → AreUsed became ids s.view n.view
    → AreKept t s doomed pins flows → AreKept t n doomed pins flows
used_kept became t [] s n doomed pins flows table same k =
    let is : s ≡ n = λ i. record { table = sym table i; view = sym same i } in
    subst (λ (x : Seen). AreKept t x doomed pins flows) is k
used_kept became t (id ∷ ids) s n doomed pins flows table (u, one, rest) k =
    let m : Seen = record s { view = u } in
    used_kept became t ids m n doomed pins flows table rest
    (kept_used t id one.0 one.1 s m doomed pins flows refl one.4 k)

-- ----- histories that stayed
is_same : (f g : FlowId) → same_flow f g ≡ true → f ≡ g
is_same f g h =
    let two = both (f.slot == g.slot) (f.generation == g.generation) h in
    let slot : f.slot ≡ g.slot = same_number f.slot g.slot two.0 in
    let generation : f.generation ≡ g.generation = same_number f.generation g.generation two.1 in
    λ i. record { slot = slot i; generation = generation i }

one_same : (id : FlowId) (v w : View) → IsAlone v → IsUsed IsAsItWas id v w → (f : FlowId)
    → known_of f w.base ≡ known_of f v.base
one_same id v w alone (r, k, own, is, u) f = ap (known_of f) base ∙ by_flow (same_flow id f) refl
  where
    base : w.base ≡ record { flow = id; history = k } ∷ v.base
    base = ap (λ (x : View). x.base) u.3
        ∙ ap (λ (ts : List Turn). alone_or ts (record { flow = id; history = k } ∷ v.base) v.base) alone.1

    by_flow : (b : Bool) → same_flow id f ≡ b → cond (same_flow id f) k (known_of f v.base) ≡ known_of f v.base
    by_flow true e = ap (λ (c : Bool). cond c k (known_of f v.base)) e
        ∙ (is ∙ (own.known alone ∙ ap (λ g. known_of g v.base) (is_same id f e)))
    by_flow false e = ap (λ (c : Bool). cond c k (known_of f v.base)) e

pub all_same : (ids : List FlowId) (v w : View) → IsAlone v → AreUsed IsAsItWas ids v w → (f : FlowId)
    → known_of f w.base ≡ known_of f v.base
all_same [] v w alone same f = ap (λ (x : View). known_of f x.base) same
all_same (id ∷ ids) v w alone (u, one, rest) f =
    all_same ids u w ((one_stays IsAsItWas id v u one).alone alone) rest f ∙ one_same id v u alone one f

-- ----- kicks
due_more : (known : List Held) (ids : List FlowId) (f : FlowId)
    → kicks_due known (ids ++ f ∷ []) ≡ kicks_due known ids ++ one_kick (kick_of f (known_of f known))
due_more known [] f = append-nil (one_kick (kick_of f (known_of f known)))
due_more known (g ∷ gs) f =
    ap (λ l. one_kick (kick_of g (known_of g known)) ++ l) (due_more known gs f)
    ∙ sym (append_assoc (one_kick (kick_of g (known_of g known))) (kicks_due known gs)
    (one_kick (kick_of f (known_of f known))))

pub due_next : (pins : List FlowId) (at : ℕ) (f : FlowId) (v u : View) (kicks kicks' : List Kick) → IsAlone v
    → AreUsed IsAsItWas (take at pins) v u → slice_get pins at ≡ Some f → kicks ≡ kicks_due v.base (take at pins)
    → kicks' ≡ kicks ++ one_kick (kick_of f (known_of f u.base)) → kicks' ≡ kicks_due v.base (take (at + 1) pins)
due_next pins at f v u kicks kicks' alone all there so more =
    let next : at + 1 ≡ suc at = omega arith in
    let known : known_of f u.base ≡ known_of f v.base = all_same (take at pins) v u alone all f in
    more
    ∙ (ap (λ l. l ++ one_kick (kick_of f (known_of f u.base))) so
    ∙ (ap (λ h. kicks_due v.base (take at pins) ++ one_kick (kick_of f h)) known
    ∙ (sym (due_more v.base (take at pins) f)
    ∙ sym (ap (λ n. kicks_due v.base (take n pins)) next ∙ ap (kicks_due v.base) (take_more pins at f there)))))

-- ----- the worker
pub looked_so : (u v : Worker) (n : Seen) (kicks : List Kick) → u ≡ v → n.table ≡ u.pass.table
    → AreUsed IsAsItWas u.pins u.pass.view n.view → kicks ≡ kicks_due u.pass.view.base u.pins
    → IsLookedAt v (record u { pass = n; kicks = kicks })
looked_so u v n kicks is table looked due =
    subst (λ (x : Worker). IsLookedAt x (record u { pass = n; kicks = kicks })) is (record {
      looked = looked;
      due = due;
      rest = ap (λ t. record u { pass = record { table = t; view = n.view }; kicks = kicks }) table;
    })

pub look_stopped : (u v : Worker) (n : Seen) (count : ℕ) → u ≡ v → n.table ≡ u.pass.table
    → AreUsed IsAsItWas (take count u.pins) u.pass.view n.view → IsLookStopped v (record u { pass = n })
look_stopped u v n count is table looked =
    subst (λ (x : Worker). IsLookStopped x (record u { pass = n })) is (record {
      done = take count u.pins;
      left = drop count u.pins;
      all = sym (take-append-drop count u.pins);
      looked = looked;
      rest = ap (λ t. record u { pass = record { table = t; view = n.view } }) table;
    })

-- what was sent, or a part of it
pub sent_kept : {A E : Type 0} (tick : ℕ) (t : TableId) (s n : Seen) (doomed pins : List FlowId)
    (flows : List KnownFlow) (x : Result A E) → n.table ≡ s.table
    → OnOk x (AreUsed (IsAllSent 0 tick) pins s.view n.view) → OnErr x (IsSendStopped tick pins s.view n.view)
    → AreKept t s doomed pins flows → AreKept t n doomed pins flows
sent_kept tick t s n doomed pins flows (Ok a) table sent part k =
    used_kept (IsAllSent 0 tick) t pins s n doomed pins flows table sent k
sent_kept tick t s n doomed pins flows (Err e) table sent part k =
    let m : Seen = record s { view = part.before } in
    used_kept (IsPartSent 0 tick) t (part.at ∷ []) m n doomed pins flows table (n.view, part.part, refl)
    (used_kept (IsAllSent 0 tick) t part.done s m doomed pins flows refl part.sent k)

pub sent_alone : {A E : Type 0} (tick : ℕ) (pins : List FlowId) (v w : View) (x : Result A E)
    → OnOk x (AreUsed (IsAllSent 0 tick) pins v w) → OnErr x (IsSendStopped tick pins v w) → IsAlone v → IsAlone w
sent_alone tick pins v w (Ok a) sent part alone = (all_stay (IsAllSent 0 tick) pins v w sent).alone alone
sent_alone tick pins v w (Err e) sent part alone =
    (one_stays (IsPartSent 0 tick) part.at part.before w part.part).alone
    ((all_stay (IsAllSent 0 tick) part.done v part.before part.sent).alone alone)
