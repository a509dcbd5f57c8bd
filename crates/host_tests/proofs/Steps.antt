-- What the slow path, cores and applications may do after a call.
use Rattle.std.proofs.Common.{◌≡◌, ℕ, ◌+◌, ◌<◌, ◌≤◌, Bool, true, false, List, [], ◌∷◌, ◌++◌, length, refl, sym, ap, ◌∙◌}
use Rattle.std.proofs.Common.{suc, subst, cond, eq-eqb, append-nil, arith, tests}
use Rattle.std.specs.Prelude.{◌==◌, Result, Ok, Err, OnOk, OnErr, IfOk, Option, Some, None, IfSome, ◌||◌}
use Rattle.std.specs.List.{list_any}
use Rattle.std.proofs.lemmas.List.Folds.{list_any-append}
use Rattle.atomic_table.specs.Seated.{TableId}
use Rattle.tas_model.specs.declared.entry.FlowId.{FlowId}
use Rattle.tas_model.specs.declared.entry.Reply.{Reply}
use Rattle.flow_state.specs.declared.call.CallIn.{CallIn}
use Rattle.flow_lock.specs.Callers.{IsTurned}
use Rattle.flow_lock.specs.Histories.{longer}
use Rattle.flow_lock.specs.declared.view.History.{History}
use Rattle.flow_lock.specs.Passes.{Seen}
use Rattle.flow_lock.specs.Answers.{IsPinned}
use Rattle.flow_lock.specs.declared.view.View.{View}
use Rattle.flow_lock.proofs.Calling.{still_turn}
use Rattle.app_reaper.specs.Lists.{is_on}
use Rattle.app_reaper.specs.declared.one_call.CallFault.{CallFault}
use Rattle.app_reaper.proofs.Walking.{use_turned, refused_turned}
use Rattle.core_worker.specs.Workers as cores
use Rattle.slow_worker.specs.Kicking.{CanKick}
use Rattle.slow_worker.specs.Clocks.{HasRisen, last_tick}
use Rattle.slow_worker.specs.Queues.{IsCollected, IsUncollected}
use Rattle.slow_worker.specs.declared.clock.Clock.{Clock}
use Rattle.slow_worker.specs.Workers as slow
use Rattle.libtas_sockets.specs.Apps.{Application, IsSocket, flow_of, socket_on}
use Rattle.libtas_sockets.specs.Accepting.{IsAcceptance}
use Rattle.libtas_sockets.specs.Calling.{HasCalled}
use Rattle.libtas_sockets.specs.declared.socket.Socket.{Socket}
use Rattle.libtas_sockets.specs.declared.socket_error.SocketError.{SocketError}
use Rattle.host_tests.specs.Hosts.{IsCore, IsSlow, MayTurn, IsApp, IsClient, KeepsSockets}

-- ----- a history that grows by nothing
pub longer_nil : (h : History) → longer h [] ≡ h
longer_nil h = λ i. record h { entries = append-nil h.entries i }

-- ----- the slow path's turn
pub risen_by : (tick later : ℕ) (c : Clock) → last_tick c ≡ Some tick → tick ≤ later → HasRisen later c
risen_by tick later c e le = subst (λ (o : Option ℕ). IfSome o (λ t. t ≤ later)) (sym e) le

pub slow_turns : (c : cores.Common) (w : slow.Worker) → slow.IsSound c.table (slow.sight_of w)
    → last_tick w.time ≡ Some 1 → slow.HasSenders c w → CanKick c w.kickers → IsSlow c w
slow_turns c w sound time senders kickers = record {
  sound = sound;
  risen = risen_by 1 1 w.time time (omega arith);
  senders = senders;
  kickers = kickers;
}

pub may_turn : (c : cores.Common) (w : slow.Worker) → IsSlow c w → MayTurn c 1 w
may_turn c w is = record { sound = is.sound; risen = is.risen; senders = is.senders; kickers = is.kickers }

-- ----- what a core passed on is collected
pub slow_collects : {T E : Type 0} (c : cores.Common) (a b : cores.Worker) (v w : slow.Worker) (r : Result T E)
    → OnOk r (IsCollected a b v w) → OnErr r (IsUncollected a b v w) → IsSlow c v → IsSlow c w
slow_collects c a b v w (Ok x) did not is = subst (λ (y : slow.Worker). IsSlow c y) (sym did.rest) (record {
  sound = is.sound;
  risen = is.risen;
  senders = is.senders;
  kickers = is.kickers;
})
slow_collects c a b v w (Err e) did not is = subst (λ (y : slow.Worker). IsSlow c y) (sym not.rest) (record {
  sound = is.sound;
  risen = is.risen;
  senders = is.senders;
  kickers = is.kickers;
})

pub core_collected : {T E : Type 0} (c : cores.Common) (a b : cores.Worker) (v w : slow.Worker) (r : Result T E)
    → OnOk r (IsCollected a b v w) → OnErr r (IsUncollected a b v w) → IsCore c a → IsCore c b
core_collected c a b v w (Ok x) did not is = subst (λ (y : cores.Worker). IsCore c y) (sym did.core) is
core_collected c a b v w (Err e) did not is = subst (λ (y : cores.Worker). IsCore c y) (sym not.core) is

-- ----- an application accepts
or_true : (b : Bool) → (b || true) ≡ true
or_true true = refl
or_true false = refl

or_still : (a b : Bool) → a ≡ true → (a || b) ≡ true
or_still true b is = refl
or_still false b is = absurd (cc (is))

on_last : (f : FlowId) (l : List FlowId) → list_any (is_on f.slot) (l ++ f ∷ []) ≡ true
on_last f l = list_any-append (is_on f.slot) l (f ∷ [])
    ∙ (ap (λ b. list_any (is_on f.slot) l || (b || false)) (eq-eqb f.slot f.slot refl) ∙ or_true _)

on_still : (i : ℕ) (f : FlowId) (l : List FlowId) → list_any (is_on i) l ≡ true
    → list_any (is_on i) (l ++ f ∷ []) ≡ true
on_still i f l is = list_any-append (is_on i) l (f ∷ []) ∙ or_still _ _ is

pins_turned : (t : TableId) (f : FlowId) (s n : Seen) → n.table ≡ s.table → IsPinned f s.view n.view → IsTurned t s
    → IsTurned t n
pins_turned t f s n table p is =
    let e = p.3 in
    let turn = still_turn s.view n.view [] (f ∷ []) [] (ap (λ (v : View). v.turns) e) is.1 in
    (table ∙ is.0, turn, ap (λ (v : View). v.slow) e ∙ is.2, ap (λ (v : View). v.baton) e ∙ is.3)

pub accepts : (c : cores.Common) (number : ℕ) (id : FlowId) (tick : ℕ) (a b : Application) (s : Socket)
    → IsAcceptance id tick a b (Ok s) → IsApp c number a → IsApp c number b × IsSocket b s × KeepsSockets a b
accepts c number id tick a b s (u, w, pinned, (r, after, own, made, used), after_is, named) is =
    let first : Seen = record a.pass { view = u } in
    let then : Seen = record a.pass { view = w } in
    let turned = use_turned c.table id r after first then refl used
    (pins_turned c.table id a.pass first refl pinned is.0) in
    let sockets = ap (λ (x : Application). x.sockets) after_is in (
      (
        subst (λ (x : Application). IsTurned c.table x.pass) (sym after_is) turned,
        (is.1.0, is.1.1, ap (λ (x : Application). x.notes.line) after_is ∙ is.1.2),
      ),
      ap (list_any (is_on s.0)) sockets
          ∙ subst (λ (q : Socket). list_any (is_on q.0) (a.sockets ++ id ∷ []) ≡ true) (sym named)
          (on_last id a.sockets),
      λ q on. ap (list_any (is_on q.0)) sockets ∙ on_still q.0 id a.sockets on,
    )

-- ----- an application calls on a socket
pub app_calls : (c : cores.Common) (number : ℕ) (a b : Application) (s : Socket) (tick : ℕ) (call : CallIn)
    (o : Option CallFault) (told : Reply → Type 0) → HasCalled a b s tick call o told → IsApp c number a
    → IsApp c number b × (b.sockets ≡ a.sockets)
app_calls c number a b s tick call None told h is = (
  (
    use_turned c.table (flow_of a s) h.0.1.flow _ a.pass b.pass (ap (λ (x : Application). x.pass.table) h.1)
        h.0.1.given is.0,
    (is.1.0, is.1.1, ap (λ (x : Application). x.notes.line) h.1 ∙ is.1.2),
  ),
  ap (λ (x : Application). x.sockets) h.1,
)
app_calls c number a b s tick call (Some e) told h is = (
  (
    refused_turned c.table (flow_of a s) e a.pass b.pass (ap (λ (x : Application). x.pass.table) h.1) h.0 is.0,
    (is.1.0, is.1.1, ap (λ (x : Application). x.notes.line) h.1 ∙ is.1.2),
  ),
  ap (λ (x : Application). x.sockets) h.1,
)

-- so its sockets are still sockets
pub client_still : (c : cores.Common) (number : ℕ) (a b : Application) (sockets : Socket × Socket)
    → b.sockets ≡ a.sockets → IsApp c number b → IsClient c number a sockets → IsClient c number b sockets
client_still c number a b sockets same app is = (
  app,
  ap (list_any (is_on sockets.0.0)) same ∙ is.1,
  ap (list_any (is_on sockets.1.0)) same ∙ is.2,
)
