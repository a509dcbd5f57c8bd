-- A host to which an application was added.
use Rattle.std.proofs.Common.{◌≡◌, ℕ, zero, suc, ◌+◌, ◌<◌, ◌≤◌, true, false, List, [], ◌∷◌, ◌++◌, length, take, refl}
use Rattle.std.proofs.Common.{sym, ap, ◌∙◌, subst, arith, inl, Bool}
use Rattle.std.specs.Prelude.{Option, Some, None, All, slice_index_or}
use Rattle.host_rounds.specs.Lists.{Each}
use Rattle.atomic_table.specs.Seated.{TableId}
use Rattle.context_queue.specs.Notes.{Place}
use Rattle.flow_lock.specs.Callers.{IsTurned}
use Rattle.flow_lock.specs.Passes.{Seen, new_turn}
use Rattle.flow_lock.specs.Steps.{HasTurn}
use Rattle.core_worker.specs.Telling.{queue_of, is_queue_of}
use Rattle.core_worker.specs.Workers as cores
use Rattle.core_worker.specs.declared.shared.AppQueue.{AppQueue}
use Rattle.core_worker.specs.declared.senders.AppSender.{AppSender}
use Rattle.slow_worker.specs.Workers as slow
use Rattle.libtas_sockets.specs.Apps.{Application}
use Rattle.shared_host.specs.Applications.{split_from, new_app, with_queue, queue_at}
use Rattle.shared_host.specs.SlowPaths.{with_app}
use Rattle.host_tests.specs.Hosts.{IsCore, IsSlow, IsApp, AreEach}

-- ----- the slow path
-- an application was added
pub slow_given : (c d : cores.Common) (number : ℕ) (line : TableId) (s : AppSender) (v w : slow.Worker)
    → d ≡ with_queue number line c → w ≡ with_app s v → slow.HasSenders d w → HasTurn v.pass.view → IsSlow c v
    → IsSlow d w
slow_given c d number line s v w d-is w-is senders turn is =
    subst (λ (x : cores.Common). IsSlow x w) (sym d-is)
    (subst (λ (y : slow.Worker). IsSlow e y) (sym w-is) (record {
      sound = (
        record {
          ready = (is.sound.0.ready.0, inl turn, is.sound.0.ready.2);
          owned = record {
            each_doomed = is.sound.0.owned.each_doomed;
            each_pin = is.sound.0.owned.each_pin;
            once = is.sound.0.owned.once;
          };
          known = is.sound.0.known;
        },
        is.sound.1,
      );
      risen = is.risen;
      senders = subst (λ (y : slow.Worker). slow.HasSenders e y) w-is
          (subst (λ (x : cores.Common). slow.HasSenders x w) d-is senders);
      kickers = record { steer = is.kickers.steer; cores = is.kickers.cores; own = is.kickers.own };
    }))
  where
    e : cores.Common
    e = with_queue number line c

pub turn_given : (s : AppSender) (v w : slow.Worker) → w ≡ with_app s v → HasTurn v.pass.view → HasTurn w.pass.view
turn_given s v w is turn = (turn.0, turn.1, ap (λ (x : slow.Worker). x.pass.view.turns) is ∙ turn.2)

-- ----- applications
-- a queue is found still where another one was added
pub found_still : (number : ℕ) (qs : List AppQueue) (x : AppQueue) (p : Place) → queue_of number qs ≡ Some p
    → queue_of number (qs ++ x ∷ []) ≡ Some p
found_still number [] x p found = absurd (cc (found))
found_still number (q ∷ qs) x p found = by_test (is_queue_of number q) found (λ h. found_still number qs x p h)
  where
    by_test : (b : Bool)
        → ◌≡◌ {A = Option Place} (elim b [ true ↦ Some q.queue | false ↦ queue_of number qs ]) (Some p)
        → (queue_of number qs ≡ Some p → queue_of number (qs ++ x ∷ []) ≡ Some p)
        → ◌≡◌ {A = Option Place} (elim b [ true ↦ Some q.queue | false ↦ queue_of number (qs ++ x ∷ []) ]) (Some p)
    by_test true h more = h
    by_test false h more = more h

pub app_added : (c d : cores.Common) (number : ℕ) (pass : Seen) (a : Application)
    → a ≡ new_app number (split_from pass) a.notes → pass.table ≡ c.table → d.table ≡ c.table
    → queue_of number d.queues ≡ Some (queue_at a.notes.line) → IsApp d number a
app_added c d number pass a is table same found = (
  subst (λ (x : Application). IsTurned d.table x.pass) (sym is)
      (table ∙ sym same, (new_turn pass.view.made, [], refl), refl, refl),
  (queue_at a.notes.line, found, refl),
)

-- another application was added
pub app_still : (c d : cores.Common) (number other : ℕ) (line : TableId) (a : Application) → d ≡ with_queue other line c
    → IsApp c number a → IsApp d number a
app_still c d number other line a new is =
    subst (λ (x : cores.Common). IsApp x number a) (sym new)
    (is.0, (is.1.0, found_still number c.queues _ is.1.0 is.1.1, is.1.2))

-- ----- cores
all_of : {X : Type 0} (P : X → Type 0) (xs : List X) → Each P xs → All P xs
all_of P [] each k d near = absurd (omega (arith, near))
all_of P (x ∷ xs) each zero d near = each.0
all_of P (x ∷ xs) each (suc k) d near = all_of P xs each.1 k d (omega (arith, near))

each_core : (c : cores.Common) (ws : List cores.Worker) → AreEach c ws → Each (IsCore c) ws
each_core c [] are = tt
each_core c (w ∷ ws) are = ((are.0.0, are.1.0, are.2.0), each_core c ws (are.0.1, are.1.1, are.2.1))

pub all_cores : (c : cores.Common) (ws : List cores.Worker) → AreEach c ws → All (IsCore c) ws
all_cores c ws are = all_of (IsCore c) ws (each_core c ws are)

-- what was written to the front of a list of its own length is the list
front : {X : Type 0} (new old : List X) → take (length new) (new ++ old) ≡ new
front [] old = refl
front {X} (x ∷ xs) old = ap (λ (l : List X). x ∷ l) (front xs old)

pub written : {X : Type 0} (new old : List X) (len : ℕ) → length new ≡ len → take len (new ++ old) ≡ new
written new old len is = subst (λ (n : ℕ). take n (new ++ old) ≡ new) is (front new old)
