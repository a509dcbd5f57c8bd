-- An application that is told of its flow.
use Rattle.std.proofs.Common.{◌≡◌, ℕ, suc, zero, ◌<◌, Bool, true, false, cond, List, [], ◌∷◌, refl, sym, ap, ◌∙◌, subst}
use Rattle.std.proofs.Common.{◌++◌, length, set, get_or, position, nat_lt, arith, tests}
use Rattle.std.specs.Prelude.{Option, Some, None, slice_get, ◌==◌, not, ◌&&◌, ◌||◌}
use Rattle.std.specs.List.{position_or_len}
use Rattle.std.proofs.lemmas.List.Sums.{fails_before_first}
use Rattle.std.proofs.lemmas.List.Quantifiers.{position-Some}
use Rattle.std.proofs.lemmas.Option.{slice_get_read}
use Rattle.context_queue.specs.Notes.{Place, Sender}
use Rattle.context_queue.specs.declared.note.Note.{Note}
use Rattle.tas_model.specs.declared.entry.FlowId.{FlowId}
use Rattle.tas_model.specs.Endpoint.{Endpoint, send_room, is_closed}
use Rattle.core_worker.specs.News.{news_of, notes_about}
use Rattle.core_worker.specs.Posting.{ArePosted}
use Rattle.core_worker.specs.Telling.{is_queue_of, queue_of, is_sender_for, IsOwnSender, AreOwnSenders}
use Rattle.core_worker.specs.Telling.{IsToldAt, IsTold}
use Rattle.core_worker.specs.declared.shared.AppQueue.{AppQueue}
use Rattle.core_worker.specs.declared.senders.AppSender.{AppSender}

-- ----- queues
-- the first queue of an application is the one that it has
queue_found : (app : ℕ) (qs : List AppQueue) (i : ℕ) (d : AppQueue) → i < length qs
    → is_queue_of app (get_or qs i d) ≡ true → ((k : ℕ) → k < i → is_queue_of app (get_or qs k d) ≡ false)
    → queue_of app qs ≡ Some ((get_or qs i d).queue)
queue_found app [] i d below here before = absurd (omega arith)
queue_found app (q ∷ qs) zero d below here before = rw (here, queue_of) refl
queue_found app (q ∷ qs) (suc i) d below here before =
    let other : is_queue_of app q ≡ false = before 0 (omega arith) in
    rw (other, queue_of) (queue_found app qs i d (omega arith) here (λ k h. before (suc k) (omega arith)))

pub queue_at : (app : ℕ) (qs : List AppQueue) (i : ℕ) (q : AppQueue) → position (is_queue_of app) qs ≡ Some i
    → q ≡ get_or qs i q → queue_of app qs ≡ Some (q.queue)
queue_at app qs i q at is =
    let first = position-Some (is_queue_of app) qs i q at in
    queue_found app qs i q first.0 first.1 first.2 ∙ ap (λ (x : AppQueue). Some (x.queue)) (sym is)

none_in : (app : ℕ) (qs : List AppQueue) (d : AppQueue)
    → ((k : ℕ) → k < length qs → is_queue_of app (get_or qs k d) ≡ false) → queue_of app qs ≡ None
none_in app [] d fails = refl
none_in app (q ∷ qs) d fails =
    let other : is_queue_of app q ≡ false = fails 0 (omega arith) in
    rw (other, queue_of) (none_in app qs d (λ k h. fails (suc k) (omega arith)))

not_lower : (b : Bool) (i : ℕ) → cond b (Some i) None ≡ None → b ≡ false
not_lower true i h = absurd (cc (h))
not_lower false i h = refl

pub no_queue : (app : ℕ) (qs : List AppQueue) → position (is_queue_of app) qs ≡ None → queue_of app qs ≡ None
no_queue app [] h = refl
no_queue app (q ∷ qs) h =
    let test = is_queue_of app in
    let ends : nat_lt (position_or_len test (q ∷ qs)) (length (q ∷ qs)) ≡ false = not_lower _ _ h in
    none_in app (q ∷ qs) q (λ k below. fails_before_first test (q ∷ qs) k q (grind (arith, tests, ends, below)))

-- ----- senders
own_in : (queues : List AppQueue) (ss : List AppSender) (i : ℕ) (d : AppSender) → i < length ss
    → AreOwnSenders queues ss → IsOwnSender queues (get_or ss i d)
own_in queues [] i d below own = absurd (omega arith)
own_in queues (s ∷ ss) zero d below own = own.0
own_in queues (s ∷ ss) (suc i) d below own = own_in queues ss i d (omega arith) own.1

same_number : (n m : ℕ) → (n == m) ≡ true → n ≡ m
same_number n m h = grind (arith, tests, h)

-- the first sender for an application is one of its own queue
pub sender_at : (queues : List AppQueue) (ss : List AppSender) (app i : ℕ) (s : AppSender) → AreOwnSenders queues ss
    → position (is_sender_for app) ss ≡ Some i → s ≡ get_or ss i s
    → (s.app ≡ app) × (slice_get ss i ≡ Some s) × IsOwnSender queues s
sender_at queues ss app i s own at is =
    let first = position-Some (is_sender_for app) ss i s at in
    let here : is_sender_for app s ≡ true = subst (λ x. is_sender_for app x ≡ true) (sym is) first.1 in (
      same_number s.app app here,
      slice_get_read ss (length ss) i s refl first.0 is,
      subst (IsOwnSender queues) (sym is) (own_in queues ss i s first.0 own),
    )

-- so there is such a queue, and the sender posts to it
pub has_queue : (queues : List AppQueue) (app : ℕ) (s : AppSender) → s.app ≡ app → IsOwnSender queues s
    → (place : Place) × (queue_of app queues ≡ Some place) × (s.sender.line ≡ place.line)
has_queue queues app s same (place, is, line) = (place, subst (λ n. queue_of n queues ≡ Some place) same is, line)

pub no_sender : (queues : List AppQueue) (ss : List AppSender) (app i : ℕ) → AreOwnSenders queues ss
    → position (is_sender_for app) ss ≡ Some i → queue_of app queues ≡ None → ⊥
no_sender queues [] app i own at none = absurd (cc (at))
no_sender queues (s ∷ ss) app i own at none =
    let first = position-Some (is_sender_for app) (s ∷ ss) i s at in
    let d : AppSender = get_or (s ∷ ss) i s in
    let has = has_queue queues app d (same_number (d.app) app first.1) (own_in queues (s ∷ ss) i s first.0 own) in
    absurd (cc (none, has.1))

pub one_line : (o : Option Place) (p q : Place) (s : Sender) → o ≡ Some p → s.line ≡ p.line → o ≡ Some q
    → s.line ≡ q.line
one_line o p q s is line also =
    let same : p ≡ q = cc (is, also) in
    line ∙ ap (λ (x : Place). x.line) same

pub told_by : (queues : List AppQueue) (app : ℕ) (notes : List Note) (ss : List AppSender) (i : ℕ) (s : AppSender)
    (q : Place) (t : Sender) → AreOwnSenders queues ss → position (is_sender_for app) ss ≡ Some i → s ≡ get_or ss i s
    → queue_of app queues ≡ Some q → ArePosted q.room notes s.sender t
    → IsTold (Some app) queues notes ss (set ss i (record s { sender = t }))
told_by queues app notes ss i s q t own at is queue posted =
    let found = sender_at queues ss app i s own at is in
    let ts : List AppSender = set ss i (record s { sender = t }) in
    let done : IsToldAt (Some i) queues notes ss ts =
    (s, q, t, found.1, subst (λ n. queue_of n queues ≡ Some q) (sym found.0) queue, posted, refl) in
    subst (λ o. IsToldAt o queues notes ss ts) (sym at) done

-- ----- queues and senders that are added
still_there : (app : ℕ) (qs : List AppQueue) (q : AppQueue) (place : Place) → queue_of app qs ≡ Some place
    → queue_of app (qs ++ q ∷ []) ≡ Some place
still_there app [] q place is = absurd (cc (is))
still_there app (x ∷ qs) q place is = by_test (is_queue_of app x) refl (still_there app qs q place)
  where
    by_test : (b : Bool) → is_queue_of app x ≡ b
        → (queue_of app qs ≡ Some place → queue_of app (qs ++ q ∷ []) ≡ Some place)
        → queue_of app (x ∷ (qs ++ q ∷ [])) ≡ Some place
    by_test true e rest = rw (e, queue_of) (rw (e, queue_of) at is)
    by_test false e rest = rw (e, queue_of) (rest (rw (e, queue_of) at is))

now_there : (app : ℕ) (qs : List AppQueue) (q : AppQueue) → queue_of app qs ≡ None → is_queue_of app q ≡ true
    → queue_of app (qs ++ q ∷ []) ≡ Some (q.queue)
now_there app [] q none own = rw (own, queue_of) refl
now_there app (x ∷ qs) q none own = by_test (is_queue_of app x) refl (λ h. now_there app qs q h own)
  where
    by_test : (b : Bool) → is_queue_of app x ≡ b
        → (queue_of app qs ≡ None → queue_of app (qs ++ q ∷ []) ≡ Some (q.queue))
        → queue_of app (x ∷ (qs ++ q ∷ [])) ≡ Some (q.queue)
    by_test true e rest = absurd (cc (rw (e, queue_of) at none))
    by_test false e rest = rw (e, queue_of) (rest (rw (e, queue_of) at none))

pub still_own : (queues : List AppQueue) (ss : List AppSender) (q : AppQueue) → AreOwnSenders queues ss
    → AreOwnSenders (queues ++ q ∷ []) ss
still_own queues [] q own = tt
still_own queues (s ∷ ss) q ((place, is, line), rest) =
    ((place, still_there s.app queues q place is, line), still_own queues ss q rest)

one_more : (queues : List AppQueue) (ss : List AppSender) (s : AppSender) → AreOwnSenders queues ss
    → IsOwnSender queues s → AreOwnSenders queues (ss ++ s ∷ [])
one_more queues [] s own mine = (mine, tt)
one_more queues (x ∷ ss) s own mine = (own.0, one_more queues ss s own.1 mine)

same_test : (n : ℕ) → (n == n) ≡ true
same_test n = grind (arith, tests)

pub also_own : (queues : List AppQueue) (ss : List AppSender) (q : AppQueue) (s : AppSender) → AreOwnSenders queues ss
    → queue_of q.app queues ≡ None → s.app ≡ q.app → s.sender.line ≡ q.queue.line
    → AreOwnSenders (queues ++ q ∷ []) (ss ++ s ∷ [])
also_own queues ss q s own first app line =
    let there : queue_of q.app (queues ++ q ∷ []) ≡ Some (q.queue) =
    now_there q.app queues q first (same_test q.app) in
    one_more (queues ++ q ∷ []) ss s (still_own queues ss q own)
    (q.queue, subst (λ n. queue_of n (queues ++ q ∷ []) ≡ Some (q.queue)) (sym app) there, line)

-- ----- news
not_below : (n : ℕ) → nat_lt n n ≡ false
not_below n = grind (arith, tests)

not_both : (b : Bool) → (not b && b) ≡ false
not_both true = refl
not_both false = refl

no_notes : (id : FlowId) (a b c d : Bool) → a ≡ false → b ≡ false → c ≡ false → d ≡ false
    → notes_about id (record { readable = a || b; writable = c; closed = d }) ≡ []
no_notes id a b c d is-a is-b is-c is-d = rw (is-a, is-b, is-c, is-d) refl

pub nothing_new : (id : FlowId) (e : Endpoint) → notes_about id (news_of e e) ≡ []
nothing_new id e =
    no_notes id _ _ _ _ (not_below (length e.rx.got)) (not_both e.rx.ended) (not_below (send_room e))
    (not_both (is_closed e))
