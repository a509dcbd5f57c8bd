-- Passes with a turn each, and what they are once the turns are back.
use Rattle.std.proofs.Common.{◌≡◌, ℕ, zero, suc, ◌+◌, ◌==◌, cond, true, List, [], ◌∷◌, ◌++◌, map, arith}
use Rattle.std.proofs.Common.{tests}
use Rattle.std.proofs.Common.{ap, sym, ◌∙◌, refl, subst}
use Rattle.std.specs.Prelude.{Result, Ok, Err, IfOk, IfNone, Some, Bool, slice_get}
use Rattle.std.specs.List.{list_any, find, filter}
use Rattle.std.proofs.lemmas.Bool.Decides.{nat_tests}
use Rattle.std.proofs.lemmas.List.{map-append}
use lib.ListN.{get_elem?}
use Rattle.atomic_table.specs.Seated.{TableId}
use Rattle.tas_model.specs.declared.entry.Caller.TheVariants as callers
use Rattle.tas_model.specs.declared.entry.FlowId.{FlowId}
use Rattle.slow_handshake.specs.Openings.{Openings}
use Rattle.flow_state.specs.Flow.{Flow}
use Rattle.flow_lock.specs.Claims.{HasPin}
use Rattle.flow_lock.specs.Orders.{Order, total, once_below}
use Rattle.flow_lock.specs.Passes.{Seen, first, left, right, with_turns, peeled, new_turn}
use Rattle.flow_lock.specs.Plays.{IsOrdered}
use Rattle.flow_lock.specs.Steps.{HasAll, IsAlone, counted, pinned, opened}
use Rattle.flow_lock.specs.declared.view.Turn.{Turn}
use Rattle.flow_lock.specs.declared.view.View.{View}
use Rattle.flow_lock.specs.declared.view.History.{History}
use Rattle.app_reaper.specs.Lists.{is_on}
use Rattle.app_reaper.specs.OneCall.{IsUse, IsCallRefused, history}
use Rattle.app_reaper.specs.declared.one_call.CallFault.{CallFault}
use Rattle.app_reaper.specs.declared.one_call.CallFault.TheVariants.{Busy, OutOfMemory}
use Rattle.app_reaper.proofs.Walking.{use_keeps, alone_still}
use Rattle.libtas_sockets.specs.Apps.{Application, with_view}
use Rattle.libtas_sockets.specs.Connecting.{Opener, IsConnection, first_history, next_tuple}
use Rattle.libtas_sockets.specs.declared.socket.Socket.{Socket}
use Rattle.libtas_sockets.specs.declared.socket_error.SocketError.{SocketError}
use Rattle.phase_tests.specs.Resting.{turns_of, HasFirstTurn, HasSecondTurn, IsRested, IsSettled, IsOff}

-- ----- turns by their names
named_by : (p : ℕ) (ts : List Turn) → total (λ (t : Turn). cond {A = ℕ} (t.name == p) 1 0) ts
    ≡ total (λ n. cond {A = ℕ} (n == p) 1 0) (map (λ (t : Turn). t.name) ts)
named_by p [] = refl
named_by p (t ∷ ts) = ap (λ n. cond {A = ℕ} (t.name == p) 1 0 + n) (named_by p ts)

two_named : (p : ℕ) → total (λ n. cond {A = ℕ} (n == p) 1 0) (0 ∷ 1 ∷ []) ≡ once_below p 2
two_named zero = refl
two_named (suc zero) = refl
two_named (suc (suc p)) = grind (arith, tests)

one_named : (p : ℕ) → total (λ n. cond {A = ℕ} (n == p) 1 0) (0 ∷ []) ≡ once_below p 1
one_named zero = refl
one_named (suc p) = grind (arith, tests)

-- both turns are there, and no other was made
pub has_both : (v w : View) → turns_of v ≡ 0 ∷ [] → turns_of w ≡ 1 ∷ [] → v.made ≡ 2 → HasAll (with_turns v w)
has_both v w a b made p =
    let names : map (λ (t : Turn). t.name) (v.turns ++ w.turns) ≡ 0 ∷ 1 ∷ [] =
    map-append (λ (t : Turn). t.name) v.turns w.turns ∙ (ap (λ l. l ++ turns_of w) a ∙ ap (λ l. (0 ∷ []) ++ l) b) in
    named_by p (v.turns ++ w.turns) ∙ (ap (total (λ n. cond {A = ℕ} (n == p) 1 0)) names ∙ (two_named p
    ∙ ap (once_below p) (sym made)))

-- the one turn of a pass that was split off alone
pub has_one : (v : View) → IsAlone v → HasAll (with_turns (left v) (right v))
has_one v alone p =
    let names : map (λ (t : Turn). t.name) (v.turns ++ new_turn v.made ∷ []) ≡ 0 ∷ [] =
    (λ i. map (λ (t : Turn). t.name) (alone.1 i ++ new_turn (alone.2 i) ∷ [])) in
    named_by p (v.turns ++ new_turn v.made ∷ [])
    ∙ (ap (total (λ n. cond {A = ℕ} (n == p) 1 0)) names ∙ (one_named p ∙ ap (λ n. once_below p (n + 1)) (sym alone.2)))

-- ----- an application connects
pub first_connects : (t : TableId) (raddr rport tick : ℕ) (o : Openings) (a b : Application) (s n : Opener)
    (x : Result Socket SocketError) → IsConnection raddr rport tick o a b s n x → s.pass.table ≡ t
    → s.pass.view ≡ left (first 2) → s.pins ≡ [] → IfOk x (λ q. HasFirstTurn t n.pins n.pass)
first_connects t raddr rport tick o a b s n (Ok q) c table view pins =
    let e = c.1.1 in
    let h : History =
    first_history (next_tuple o raddr rport) o.params (callers.App a.number) tick o.next_iss in record {
      table = ap (λ (y : Opener). y.pass.table) e ∙ table;
      turns = ap (λ (y : Opener). turns_of y.pass.view) e
          ∙ ap (λ (v : View). turns_of (opened c.0 h v)) view;
      baton = ap (λ (y : Opener). y.pass.view.baton) e ∙ ap (λ (v : View). v.baton) view;
      made = ap (λ (y : Opener). y.pass.view.made) e ∙ ap (λ (v : View). v.made) view;
      held = ap (λ (y : Opener). y.pass.view.held) e ∙ ap (λ (v : View). v.held) view;
      parts = ap (λ (y : Opener). y.pass.view.parts) e ∙ ap (λ (v : View). v.parts) view;
      pin = (
        c.0,
        ap (λ (y : Opener). y.pins) e ∙ ap (λ l. l ++ c.0 ∷ []) pins,
        (0, ap (λ (y : Opener). get_elem? y.pass.view.pins 0) e),
      );
    }
first_connects t raddr rport tick o a b s n (Err e) c table view pins = tt

own_slot : (id : FlowId) → list_any (is_on id.slot) (id ∷ []) ≡ true
own_slot id = grind (arith, nat_tests)

pub second_connects : (t : TableId) (raddr rport tick : ℕ) (o : Openings) (a b : Application) (s n : Opener)
    (x : Result Socket SocketError) → IsConnection raddr rport tick o a b s n x → a.pass.table ≡ t
    → a.pass.view ≡ right (first 2) → a.sockets ≡ [] → IfOk x (λ q. HasSecondTurn t q b)
second_connects t raddr rport tick o a b s n (Ok q) c table view none =
    let j = c.2 in
    let e = j.1.3 in
    let id = c.0 in
    let x = j.1.0 in record {
      table = ap (λ (y : Application). y.pass.table) j.2 ∙ table;
      turns = ap turns_of e ∙ ap (λ (v : View). turns_of (pinned id (counted id.slot x (counted id.slot x v)))) view;
      plain = (
        ap (λ (v : View). v.slow) e ∙ ap (λ (v : View). v.slow) view,
        ap (λ (v : View). v.baton) e ∙ ap (λ (v : View). v.baton) view,
      );
      socket_is = (λ i. list_any (is_on (j.0 i).0) (j.2 i).sockets)
          ∙ (ap (λ l. list_any (is_on id.slot) (l ++ id ∷ [])) none ∙ own_slot id);
    }
second_connects t raddr rport tick o a b s n (Err e) c table view none = tt

pub none_found : {A : Type 0} (p q : A → Bool) (l : List A) (X : Type 0) → l ≡ [] → IfNone (find p (filter q l)) X → X
none_found {A} p q l X e found = subst (λ (m : List A). IfNone (find p (filter q m)) X) e found

-- the one pin of the list
pub first_of : (t : TableId) (pins : List FlowId) (p : FlowId) (s : Seen) → HasFirstTurn t pins s
    → slice_get pins 0 ≡ Some p → HasFirstTurn t (p ∷ []) s
first_of t pins p s h got =
    let some : Some (h.pin.0) ≡ Some p = ap (λ l. slice_get l 0) (sym h.pin.1) ∙ got in
    let same : h.pin.0 ≡ p = cc (some) in record {
      table = h.table;
      turns = h.turns;
      baton = h.baton;
      made = h.made;
      held = h.held;
      parts = h.parts;
      pin = (p, refl, subst (HasPin s.view) same h.pin.2);
    }

-- which the pass has, whatever else of it changes
pub pin_of : (t : TableId) (p : FlowId) (s n : Seen) → HasFirstTurn t (p ∷ []) s → n.view.pins ≡ s.view.pins
    → HasPin n.view p
pin_of t p s n h e =
    let same : p ≡ h.pin.0 = cc (h.pin.1) in
    let got : HasPin s.view p = subst (HasPin s.view) (sym same) h.pin.2 in
    (got.0, ap (λ (l : List FlowId). get_elem? l got.0) e ∙ got.1)

-- ----- the turns come back
pub rests : (t : TableId) (id : FlowId) (s n : Seen) (order : Order) → IsOrdered order s.view n.view → n.table ≡ s.table
    → s.table ≡ t → s.view.baton ≡ true → s.view.held ≡ [] → HasPin s.view id → IsRested t id n
rests t id s n order is same table baton held pin =
    let e = is.3 in record {
      table = same ∙ table;
      alone = (ap (λ (x : View). x.baton) e ∙ baton, ap (λ (x : View). x.turns) e, ap (λ (x : View). x.made) e);
      held = ap (λ (x : View). x.held) e ∙ held;
      pin = (pin.0, ap (λ (x : View). get_elem? x.pins pin.0) e ∙ pin.1);
    }

pub settles : (t : TableId) (socket : Socket) (a b : Application) → HasSecondTurn t socket a
    → b ≡ with_view (peeled a.pass.view) a → IsSettled t socket b
settles t socket a b h e = record {
  table = ap (λ (x : Application). x.pass.table) e ∙ h.table;
  turns = ap (λ (x : Application). x.pass.view.turns) e;
  plain = (
    ap (λ (x : Application). x.pass.view.slow) e ∙ h.plain.0,
    ap (λ (x : Application). x.pass.view.baton) e ∙ h.plain.1,
  );
  socket_is = ap (λ (x : Application). list_any (is_on socket.0) x.sockets) e ∙ h.socket_is;
}

-- ----- a call alone
pub rested_use : (t : TableId) (id : FlowId) (r : Flow) (after : History) (s n : Seen) → IsRested t id s
    → IsUse id r after s.view n.view → n.table ≡ s.table → IsRested t id n
rested_use t id r after s n h used same =
    let e = used.3 in record {
      table = same ∙ h.table;
      alone = alone_still s.view n.view (use_keeps id r after s.view n.view used) h.alone;
      held = ap (λ (x : View). x.held) e;
      pin = (h.pin.0, ap (λ (x : View). get_elem? x.pins h.pin.0) e ∙ h.pin.1);
    }

-- where it was refused, too
pub rested_refused : (t : TableId) (id : FlowId) (e : CallFault) (s n : Seen) → IsRested t id s
    → IsCallRefused id s.view n.view e → n.table ≡ s.table → IsRested t id n
rested_refused t id (Busy x) s n h r same = absurd (r.1 h.alone)
rested_refused t id OutOfMemory s n h r same = rested_use t id r.0 (history r.0) s n h r.2 same

-- a pass that was split off alone, and whose turn came back
pub off : (t : TableId) (v : View) (s n : Seen) → s.table ≡ t → s.view ≡ right v
    → n ≡ record s { view = peeled s.view } → IsOff t n
off t v s n table view e = record {
  table = ap (λ (x : Seen). x.table) e ∙ table;
  turns = ap (λ (x : Seen). x.view.turns) e;
  plain = (
    ap (λ (x : Seen). x.view.slow) e ∙ ap (λ (x : View). x.slow) view,
    ap (λ (x : Seen). x.view.baton) e ∙ ap (λ (x : View). x.baton) view,
  );
  pins = ap (λ (x : Seen). x.view.pins) e ∙ ap (λ (x : View). x.pins) view;
  held = ap (λ (x : Seen). x.view.held) e ∙ ap (λ (x : View). x.held) view;
}
