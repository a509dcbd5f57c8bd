-- Kicks that are posted one after the other.
use Rattle.std.proofs.Common.{◌≡◌, ap, sym, ◌∙◌, refl, subst, ℕ, zero, suc, ◌+◌, ◌<◌, ◌≤◌, List, [], ◌∷◌, ◌++◌}
use Rattle.std.proofs.Common.{append_assoc, append-nil, length, set, get_or, inl, inr, arith, Bool}
use Rattle.std.specs.Prelude.{Result, Ok, Err, OnOk, OnErr, Option, Some, None, slice_get}
use Rattle.std.proofs.lemmas.List.{length-append}
use Rattle.std.proofs.lemmas.Option.{slice_get_read}
use Rattle.crossbeam_queue.specs.Fifo.{Held}
use Rattle.context_queue.specs.Notes.{Place, Sender, HoldsPosts}
use Rattle.context_queue.specs.declared.note.Note.{Note}
use Rattle.core_worker.specs.Kicks.{kick_note}
use Rattle.slow_handshake.specs.Numbers.{FirstNumbers}
use Rattle.core_worker.specs.Workers.{Common}
use Rattle.core_worker.specs.declared.kicks.Kick.{Kick}
use Rattle.slow_worker.specs.Kicking.{Kicking, AreOn, CanKick, IsPostedOrKept, IsKicked, AreKicked}
use Rattle.slow_worker.specs.Turns.{AreKicksPosted, IsFirstKicked, IsWork, IsWorkStopped, IsTurn, IsTurnStopped}
use Rattle.steering.specs.Tables.{Sight, Begins, IsCoreIn, group_of}
use Rattle.slow_worker.specs.Workers.{Worker}
use Rattle.slow_worker.proofs.Serving.{none_of}

-- ----- senders of cores
pub as_many : (qs : List Place) (ss : List Sender) → AreOn qs ss → length ss ≡ length qs
as_many [] [] on = refl
as_many [] (s ∷ ss) on = absurd on
as_many (q ∷ qs) [] on = absurd on
as_many (q ∷ qs) (s ∷ ss) on = ap suc (as_many qs ss on.1)

place_or : Place → Option Place → Place
place_or d None = d
place_or d (Some q) = q

-- the one at a core's place posts to the core's queue
pub on_at : (qs : List Place) (ss : List Sender) (i : ℕ) (q : Place) (d : Sender) → AreOn qs ss
    → slice_get qs i ≡ Some q → (get_or ss i d).line ≡ q.line
unfolding place_or
on_at [] ss i q d on at = absurd (cc (at))
on_at (p ∷ qs) [] i q d on at = absurd on
on_at (p ∷ qs) (s ∷ ss) zero q d on at = on.0 ∙ ap (λ o. (place_or p o).line) at
on_at (p ∷ qs) (s ∷ ss) (suc i) q d on at = on_at qs ss i q d on.1 at

pub on_still : (qs : List Place) (ss : List Sender) (i : ℕ) (d t : Sender) → AreOn qs ss
    → t.line ≡ (get_or ss i d).line → AreOn qs (set ss i t)
on_still [] [] i d t on line = tt
on_still [] (s ∷ ss) i d t on line = absurd on
on_still (q ∷ qs) [] i d t on line = absurd on
on_still (q ∷ qs) (s ∷ ss) zero d t on line = (line ∙ on.0, on.1)
on_still (q ∷ qs) (s ∷ ss) (suc i) d t on line = (on.0, on_still qs ss i d t on.1 line)

pub same_line : {A E : Type 0} (n : Note) (s t : Sender) (x : Result A E)
    → OnOk x (t ≡ record s { posts = s.posts ++ n ∷ [] }) → OnErr x (t ≡ s) → t.line ≡ s.line
same_line n s t (Ok a) posted same = ap (λ (y : Sender). y.line) posted
same_line n s t (Err e) posted same = ap (λ (y : Sender). y.line) same

-- ----- a loop that posts kicks
-- one kick more
kicked_more : (c : Common) (ks : List Kick) (k : Kick) (x y z : Kicking) (kept one : List Kick)
    → AreKicked c ks x y kept → IsKicked c k y z one → AreKicked c (ks ++ k ∷ []) x z (kept ++ one)
kicked_more c [] k x y z kept one (e, none) d = (
  z,
  one,
  [],
  subst (λ v. IsKicked c k v z one) e d,
  (refl, refl),
  ap (λ l. l ++ one) none ∙ sym (append-nil one),
)
kicked_more c (j ∷ ks) k x y z kept one (v, a, more, first, rest, e) d = (
  v,
  a,
  more ++ one,
  first,
  kicked_more c ks k v y z more one rest d,
  ap (λ l. l ++ one) e ∙ append_assoc a more one,
)

pub record Loop (c : Common) (first now : Worker) (count : ℕ) : Type 0 where
  pub done : List Kick
  pub left : List Kick
  pub kept : List Kick
  pub number : length left + count ≡ length first.kicks
  pub all : first.kicks ≡ done ++ left
  pub posted : AreKicked c done first.kickers now.kickers kept
  pub still : now.kicks ≡ left ++ kept
  pub same : now ≡ record first { kickers = now.kickers; kicks = now.kicks }
  pub can : CanKick c now.kickers

pub kicks_first : (c : Common) (w : Worker) → CanKick c w.kickers → Loop c w w 0
kicks_first c w can = record {
  done = [];
  left = w.kicks;
  kept = [];
  number = omega arith;
  all = refl;
  posted = (refl, refl);
  still = sym (append-nil w.kicks);
  same = refl;
  can = can;
}

pub kicks_wait : (c : Common) (first m : Worker) (count : ℕ) → Loop c first m count → count < length first.kicks
    → 0 < length m.kicks
kicks_wait c first m count l near =
    let e = ap length l.still in
    let a = length-append l.left l.kept in
    omega (arith, e, a, l.number, near)

head_or : Kick → List Kick → Kick
head_or d [] = d
head_or d (k ∷ ks) = k

tail_of : List Kick → List Kick
tail_of [] = []
tail_of (k ∷ ks) = ks

pub kicks_more : (c : Common) (first m n : Worker) (count : ℕ) → Loop c first m count → count < length first.kicks
    → IsFirstKicked c m n → CanKick c n.kickers → Loop c first n (count + 1)
unfolding head_or tail_of
kicks_more c first m n count l near d can = by_left l.left l.number l.all l.still where
  by_left : (left : List Kick) → length left + count ≡ length first.kicks → first.kicks ≡ l.done ++ left
      → m.kicks ≡ left ++ l.kept → Loop c first n (count + 1)
  by_left [] number all still = absurd (omega (arith, number, near))
  by_left (g ∷ gs) number all still =
      let both : d.first ∷ d.rest ≡ g ∷ (gs ++ l.kept) = sym d.waits ∙ still in
      let same_first : d.first ≡ g = ap (head_or g) both in
      let rest : d.rest ≡ gs ++ l.kept = ap tail_of both in
      let done : first.kicks ≡ (l.done ++ d.first ∷ []) ++ gs =
      all ∙ (ap (λ k. l.done ++ k ∷ gs) (sym same_first) ∙ sym (append_assoc l.done (d.first ∷ []) gs)) in
      record {
        done = l.done ++ d.first ∷ [];
        left = gs;
        kept = l.kept ++ d.kept;
        number = omega (arith, number);
        all = done;
        posted = kicked_more c l.done d.first first.kickers m.kickers n.kickers l.kept d.kept l.posted d.kicked;
        still = d.after ∙ (ap (λ x. x ++ d.kept) rest ∙ append_assoc gs l.kept d.kept);
        same = d.same ∙ ap (λ (w : Worker). record w { kickers = n.kickers; kicks = n.kicks }) l.same;
        can = can;
      }

pub kicks_end : (c : Common) (first w : Worker) (count : ℕ) → Loop c first w count → length first.kicks ≤ count
    → AreKicksPosted c first w
kicks_end c first w count l past =
    let left : l.left ≡ [] = none_of l.left (omega (arith, l.number, past)) in
    let kept : w.kicks ≡ l.kept = l.still ∙ ap (λ x. x ++ l.kept) left in
    let done : first.kicks ≡ l.done = l.all ∙ (ap (λ x. l.done ++ x) left ∙ append-nil l.done) in
    record {
      posted = subst (λ ks. AreKicked c ks first.kickers w.kickers w.kicks) (sym done)
          (subst (λ k. AreKicked c l.done first.kickers w.kickers k) (sym kept) l.posted);
      rest = l.same;
    }

-- ----- one kick, and a turn
pub first_kicked : (c : Common) (u v : Worker) (k : Kick) (rest kept kicks : List Kick) (y : Kicking) → u ≡ v
    → u.kicks ≡ k ∷ rest → IsKicked c k u.kickers y kept → kicks ≡ rest ++ kept
    → IsFirstKicked c v (record u { kickers = y; kicks = kicks })
first_kicked c u v k rest kept kicks y is waits kicked after =
    subst (λ (w : Worker). IsFirstKicked c w (record u { kickers = y; kicks = kicks })) is (record {
      first = k;
      rest = rest;
      waits = waits;
      kept = kept;
      kicked = kicked;
      after = after;
      same = refl;
    })

pub turned_so : {A E : Type 0} (later : Bool) (ns : FirstNumbers) (c : Common) (tick : ℕ) (v m w : Worker)
    (x : Result A E) → OnOk x (IsWork later ns c tick v m) → AreKicksPosted c m w → OnOk x (IsTurn later ns c tick v w)
turned_so later ns c tick v m w (Ok a) done posted = (m, done, posted)
turned_so later ns c tick v m w (Err e) done posted = tt

pub stopped_so : {A E : Type 0} (later : Bool) (ns : FirstNumbers) (c : Common) (tick : ℕ) (v m w : Worker)
    (x : Result A E) → OnErr x (IsWorkStopped later ns c tick v m) → AreKicksPosted c m w
    → OnErr x (IsTurnStopped later ns c tick v w)
stopped_so later ns c tick v m w (Ok a) done posted = tt
stopped_so later ns c tick v m w (Err e) done posted = (m, done, posted)

-- the core's sender is there
pub within : (c : Common) (x : Kicking) (core cores : ℕ) → CanKick c x → cores ≡ c.steering.cores → core < cores
    → core < length x.senders
within c x core cores can is below =
    let many = as_many c.kicks x.senders can.own in omega (arith, many, can.cores, is, below)

-- the sender at the core's place posted the kick, or it is kept
one_kicked : (c : Common) (k : Kick) (x : Kicking) (steer : Sight) (core : ℕ) (q : Place) (s t : Sender)
    (group : ℕ) (kept : List Kick) → Begins x.steer.tables steer.tables → steer.place ≡ x.steer.place
    → group ≡ group_of k.tuple → IsCoreIn steer.tables group core → slice_get c.kicks core ≡ Some q
    → core < length x.senders → s ≡ get_or x.senders core s → IsPostedOrKept q.room k s t kept
    → IsKicked c k x (record { steer = steer; senders = set x.senders core t }) kept
one_kicked c k x steer core q s t group kept later place of on queue below at posts = record {
  core = core;
  place = q;
  sender = s;
  after = t;
  later = later;
  same = place;
  on = subst (λ g. IsCoreIn steer.tables g core) of on;
  queue = queue;
  own = slice_get_read x.senders (length x.senders) core s refl below at;
  posted = posts;
  rest = refl;
}

pub kicked_ok : {A E : Type 0} (c : Common) (k : Kick) (x : Kicking) (steer : Sight) (core : ℕ) (q : Place)
    (s t : Sender) (group : ℕ) (r : Result A E) → Begins x.steer.tables steer.tables → steer.place ≡ x.steer.place
    → group ≡ group_of k.tuple → IsCoreIn steer.tables group core → slice_get c.kicks core ≡ Some q
    → core < length x.senders → s ≡ get_or x.senders core s
    → OnOk r (t ≡ record s { posts = s.posts ++ kick_note k ∷ [] })
    → OnOk r (IsKicked c k x (record { steer = steer; senders = set x.senders core t }) [])
kicked_ok c k x steer core q s t group (Ok a) later place of on queue below at posted =
    one_kicked c k x steer core q s t group [] later place of on queue below at (inl (posted, refl))
kicked_ok c k x steer core q s t group (Err e) later place of on queue below at posted = tt

pub kept_err : {A E : Type 0} (c : Common) (k : Kick) (x : Kicking) (steer : Sight) (core : ℕ) (q : Place)
    (s t : Sender) (group : ℕ) (r : Result A E) → Begins x.steer.tables steer.tables → steer.place ≡ x.steer.place
    → group ≡ group_of k.tuple → IsCoreIn steer.tables group core → slice_get c.kicks core ≡ Some q
    → core < length x.senders → s ≡ get_or x.senders core s → OnErr r (Held q.room (HoldsPosts s)) → OnErr r (t ≡ s)
    → OnErr r (IsKicked c k x (record { steer = steer; senders = set x.senders core t }) (k ∷ []))
kept_err c k x steer core q s t group (Ok a) later place of on queue below at full same = tt
kept_err c k x steer core q s t group (Err e) later place of on queue below at full same =
    one_kicked c k x steer core q s t group (k ∷ []) later place of on queue below at (inr (same, full, refl))
