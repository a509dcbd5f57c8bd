-- Workers that are given a sender of an application's queue, one after the other. For `give_senders` and `add_app`.
use Rattle.std.proofs.Common.{◌≡◌, ℕ, zero, suc, ◌+◌, List, [], ◌∷◌, ◌++◌, set, Some, None, slice_get}
use Rattle.std.proofs.Common.{refl, sym, ap, ◌∙◌, subst, arith, Bool, true, false, ◌==◌, tests, inl, inr}
use Rattle.std.specs.Prelude.{Option, Result, Ok, Err, IfOk, OnErr, IsSome}
use Rattle.atomic_table.specs.Seated.{TableId}
use Rattle.host_rounds.specs.Lists.{Each}
use Rattle.context_queue.specs.Notes.{Place}
use Rattle.core_worker.specs.Telling.{queue_of, is_queue_of, AreOwnSenders}
use Rattle.core_worker.specs.Workers.{Common, Worker, IsFree, HasQueue, HasSenders}
use Rattle.core_worker.specs.declared.senders.AppSender.{AppSender}
use Rattle.core_worker.specs.declared.shared.AppQueue.{AppQueue}
use Rattle.flow_lock.specs.Passes.{Seen}
use Rattle.slow_worker.specs.Workers as slow
use Rattle.shared_host.specs.SlowPaths.{with_split, with_slow_sender, with_app}
use Rattle.core_worker.proofs.Told.{still_own, also_own}
use Rattle.shared_host.specs.Applications.{AreGiven, IsPartAdded, new_sender, with_sender, queue_at, with_queue}
use Rattle.shared_host.proofs.Lists.{none_some, each_map}

same_some : {X : Type 0} (x y : X) → Some x ≡ Some y → x ≡ y
same_some x y is = cc (is)

first_given : (app : ℕ) (line : TableId) (first : ℕ) (vs : List Worker) (v y : Worker) → slice_get vs 0 ≡ Some v
    → y ≡ with_sender (new_sender app line first) v → AreGiven app line first 1 vs (set vs 0 y)
first_given app line first [] v y there is = absurd (none_some v there)
first_given app line first (x ∷ xs) v y there is =
    (is ∙ ap (with_sender (new_sender app line first)) (sym (same_some x v there)), refl)

next_given : (app : ℕ) (line : TableId) (first i : ℕ) (ws vs : List Worker) (v y : Worker)
    → AreGiven app line first i ws vs → slice_get vs i ≡ Some v
    → y ≡ with_sender (new_sender app line (first + i)) v → AreGiven app line first (suc i) ws (set vs i y)
next_given app line first zero ws vs v y are there is =
    let none : first + 0 ≡ first = omega arith in
    subst (λ (us : List Worker). AreGiven app line first 1 us (set vs 0 y)) are
    (first_given app line first vs v y there (is ∙ ap (λ k. with_sender (new_sender app line k) v) none))
next_given app line first (suc i) [] vs v y are there is = absurd are
next_given app line first (suc i) (w ∷ ws) [] v y are there is = absurd are
next_given app line first (suc i) (w ∷ ws) (x ∷ vs) v y are there is =
    let next : first + suc i ≡ suc first + i = omega arith in (
      are.0,
      next_given app line (suc first) i ws vs v y are.1 there
          (is ∙ ap (λ k. with_sender (new_sender app line k) v) next),
    )

pub one_given : (app : ℕ) (line : TableId) (i : ℕ) (ws vs : List Worker) (v y : Worker)
    → AreGiven app line 0 i ws vs → slice_get vs i ≡ Some v → y ≡ with_sender (new_sender app line i) v
    → AreGiven app line 0 (i + 1) ws (set vs i y)
one_given app line i ws vs v y are there is =
    let next : suc i ≡ i + 1 = omega arith in
    let same : i ≡ 0 + i = omega arith in
    subst (λ (n : ℕ). AreGiven app line 0 n ws (set vs i y)) next
    (next_given app line 0 i ws vs v y are there (is ∙ ap (λ k. with_sender (new_sender app line k) v) same))

-- ----- what holds of each worker
-- a fact that holds of each holds of each still, where a sender keeps it
pub given_keeps : (app : ℕ) (line : TableId) (P Q : Worker → Type 0)
    → ((w : Worker) → P w → Q w) → ((k : ℕ) (w : Worker) → P w → Q (with_sender (new_sender app line k) w))
    → (first count : ℕ) (ws vs : List Worker) → AreGiven app line first count ws vs → Each P ws → Each Q vs
given_keeps app line P Q same sent first zero ws vs are each =
    subst (λ (us : List Worker). Each Q us) (sym are) (each_map P Q ws same each)
given_keeps app line P Q same sent first (suc count) [] vs are each = absurd are
given_keeps app line P Q same sent first (suc count) (w ∷ ws) [] are each = absurd are
given_keeps app line P Q same sent first (suc count) (w ∷ ws) (v ∷ vs) are each = (
  subst Q (sym are.0) (sent first w each.0),
  given_keeps app line P Q same sent (suc first) count ws vs are.1 each.1,
)

-- the first so many workers were given one, while the application got its queue
abbrev pub IsPart : (app : ℕ) → (line : TableId) → (ws vs : List Worker) → Type 0
IsPart app line ws vs = (count : ℕ) × AreGiven app line 0 count ws vs

pub part_added : (app : ℕ) (line k : TableId) (c d : Common) (ws vs : List Worker) → k ≡ line
    → d ≡ with_queue app line c → IsPart app k ws vs → IsPartAdded app c d ws vs
part_added app line k c d ws vs same new some =
    let part = subst (λ (l : TableId). IsPart app l ws vs) same some in inr (line, part.0, new, part.1)

pub free_still : (app : ℕ) (line k : TableId) (c d : Common) (ws vs : List Worker) → k ≡ line
    → d ≡ with_queue app line c → IsPart app k ws vs → Each (IsFree c) ws → Each (IsFree d) vs
free_still app line k c d ws vs same new some free =
    let part = subst (λ (l : TableId). IsPart app l ws vs) same some in
    subst (λ (x : Common). Each (IsFree x) vs) (sym new)
    (given_keeps app line (IsFree c) (IsFree (with_queue app line c)) (λ w is. is) (λ k w is. is) 0 part.0 ws vs part.1
    free)

pub queues_still : (app : ℕ) (line k : TableId) (c d : Common) (ws vs : List Worker) → k ≡ line
    → d ≡ with_queue app line c → IsPart app k ws vs → Each (HasQueue c) ws → Each (HasQueue d) vs
queues_still app line k c d ws vs same new some own =
    let part = subst (λ (l : TableId). IsPart app l ws vs) same some in
    subst (λ (x : Common). Each (HasQueue x) vs) (sym new)
    (given_keeps app line (HasQueue c) (HasQueue (with_queue app line c)) (λ w is. is) (λ k w is. is) 0 part.0 ws vs
    part.1 own)

pub senders_still : (app : ℕ) (line k : TableId) (c d : Common) (ws vs : List Worker) → k ≡ line
    → d ≡ with_queue app line c → queue_of app c.queues ≡ None → IsPart app k ws vs → Each (HasSenders c) ws
    → Each (HasSenders d) vs
senders_still app line k c d ws vs same new none some own =
    let part = subst (λ (l : TableId). IsPart app l ws vs) same some in
    subst (λ (x : Common). Each (HasSenders x) vs) (sym new)
    (given_keeps app line (HasSenders c) (HasSenders (with_queue app line c))
    (λ w is. still_own c.queues w.senders (record { app = app; queue = queue_at line }) is)
    (λ k w is. also_own c.queues w.senders (record { app = app; queue = queue_at line }) (new_sender app line k) is none
    refl refl) 0 part.0 ws vs part.1 own)

-- ----- the queue that was added
same_number : (n : ℕ) → (n == n) ≡ true
same_number n = grind (arith, tests)

pub now_there : (app : ℕ) (qs : List AppQueue) (p : Place) → queue_of app qs ≡ None
    → queue_of app (qs ++ record { app = app; queue = p } ∷ []) ≡ Some p
now_there app [] p none = rw (same_number app, queue_of) refl
now_there app (x ∷ qs) p none = by_test (is_queue_of app x) refl (λ h. now_there app qs p h)
  where
    by_test : (b : Bool) → is_queue_of app x ≡ b
        → (queue_of app qs ≡ None → queue_of app (qs ++ record { app = app; queue = p } ∷ []) ≡ Some p)
        → queue_of app (x ∷ (qs ++ record { app = app; queue = p } ∷ [])) ≡ Some p
    by_test true e rest = absurd (cc (rw (e, queue_of) at none))
    by_test false e rest = rw (e, queue_of) (rest (rw (e, queue_of) at none))

-- so the queue that is found is the one that was added
pub queue_found : (app : ℕ) (line : TableId) (c d : Common) → d ≡ with_queue app line c → queue_of app c.queues ≡ None
    → queue_of app d.queues ≡ Some (queue_at line)
queue_found app line c d new none =
    subst (λ (x : Common). queue_of app x.queues ≡ Some (queue_at line)) (sym new)
    (now_there app c.queues (queue_at line) none)

pub found_is_some : {X : Type 0} (o : Option X) (x : X) → o ≡ Some x → IsSome o
found_is_some o x is = subst IsSome (sym is) refl

pub same_line : (o : Option Place) (p : Place) (line : TableId) → o ≡ Some (queue_at line) → o ≡ Some p
    → p.line ≡ line
same_line o p line is found = ap (λ (q : Place). q.line) (same_some p (queue_at line) (sym found ∙ is))

-- ----- an answer that is always this one
pub by_new : {A E : Type 0} (x : Result A E) (a : A) (P : A → Type 0) → IfOk x (λ b. b ≡ a) → P a → IfOk x P
by_new (Ok b) a P is p = subst P (sym is) p
by_new (Err e) a P is p = tt

pub on_err : {A E : Type 0} (x : Result A E) (P : Type 0) → P → OnErr x P
on_err (Ok a) P p = tt
on_err (Err e) P p = p

-- ----- the slow path's worker
pub slow_still : (app : ℕ) (line : TableId) (c d : Common) (ss ts : List AppSender) → ts ≡ ss
    → d ≡ with_queue app line c → AreOwnSenders c.queues ss → AreOwnSenders d.queues ts
slow_still app line c d ss ts same new own =
    subst (λ (x : Common). AreOwnSenders x.queues ts) (sym new)
    (subst (AreOwnSenders (with_queue app line c).queues) (sym same)
    (still_own c.queues ss (record { app = app; queue = queue_at line }) own))

pub slow_given : (app : ℕ) (line k : TableId) (number : ℕ) (c d : Common) (ss ts : List AppSender) → k ≡ line
    → d ≡ with_queue app line c → queue_of app c.queues ≡ None → ts ≡ ss ++ new_sender app k number ∷ []
    → AreOwnSenders c.queues ss → AreOwnSenders d.queues ts
slow_given app line k number c d ss ts same new none grown own =
    subst (λ (x : Common). AreOwnSenders x.queues ts) (sym new)
    (subst (AreOwnSenders (with_queue app line c).queues) (sym grown)
    (also_own c.queues ss (record { app = app; queue = queue_at line }) (new_sender app k number) own none refl same))

pub app_given : (app : ℕ) (line k : TableId) (number n : ℕ) (u w v : slow.Worker) (pass : Seen) → k ≡ line → number ≡ n
    → u ≡ w → w ≡ with_slow_sender (new_sender app k number) v → pass ≡ with_split u.pass
    → record u { pass = pass } ≡ with_app (new_sender app line n) v
app_given app line k number n u w v pass same count is given split =
    let grown = is ∙ given in
    ap (λ (x : slow.Worker). record x { pass = pass }) grown
    ∙ (ap (λ p. with_app_pass p) (split ∙ ap (λ (x : slow.Worker). with_split x.pass) grown)
    ∙ (ap (λ l. with_app (new_sender app l number) v) same ∙ ap (λ m. with_app (new_sender app line m) v) count))
  where
    with_app_pass : Seen → slow.Worker
    with_app_pass p = record v { pass = p; senders = v.senders ++ new_sender app k number ∷ [] }
