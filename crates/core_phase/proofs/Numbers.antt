-- The turns of lanes, numbered by their places.
use Rattle.std.proofs.Common.{◌≡◌, ℕ, zero, suc, ◌+◌, ◌<◌, ◌==◌, cond, List, [], ◌∷◌, ◌++◌, length, get_or, sym}
use Rattle.std.proofs.Common.{ap, ◌∙◌, refl, subst, arith, take, drop}
use Rattle.std.proofs.lemmas.Bool.Decides.{nat_tests}
use Rattle.std.specs.Arc.{arc_value}
use Rattle.std.specs.List.{AllZip}
use mathlib.Core.Option as O
use lib.ListN.{get_elem?}
use Rattle.tas_model.specs.declared.entry.FlowId.{FlowId}
use Rattle.flow_lock.specs.Orders.{total, at_slot, once_below, Order, of, played, pins_at}
use Rattle.flow_lock.specs.Steps.{IsAlone, HasAll, HasTurn, noted}
use Rattle.flow_lock.specs.Passes.{new_turn}
use Rattle.flow_lock.specs.Plays.{IsOrdered, IsCounted}
use Rattle.flow_lock.specs.declared.view.Deed.{Deed}
use Rattle.flow_lock.specs.declared.view.Turn.{Turn}
use Rattle.flow_lock.specs.declared.view.View.{View}
use Rattle.core_worker.specs.Workers.{Common, Worker, with_pass}
use Rattle.libtas_sockets.specs.Apps.{flow_of}
use Rattle.app_deeds.specs.Deeds.{Grows}
use Rattle.core_phase.specs.declared.lane.CoreLane.{CoreLane}
use Rattle.core_phase.specs.declared.lane.AppLane.{AppLane}
use Rattle.core_phase.specs.declared.lane.Lane.{Lane}
use Rattle.core_phase.specs.declared.lane.Lane.TheVariants as lanes
use Rattle.core_phase.specs.Attempts.{pin_left}
use Rattle.core_phase.specs.Lanes.{pass_of, with_turns_of, IsIdle, MayPlay, IsReady, CanPlay, HasPlayed, Works, IsOf}
use Rattle.core_phase.specs.Lanes.{pins_left}
use Rattle.core_phase.specs.Lanes.{IsReadyCore, IsReadyApp}
use Rattle.core_phase.specs.Phases.{AreLent, AreBack, turns_in, AreParts, left_on, IsPhase}
use Rattle.core_phase.specs.Deeds.{IsTurnOf}
use Rattle.core_phase.proofs.Growing.{turn_grows}
use Rattle.core_phase.proofs.Trying.{tried, try_stays}

-- ----- lists
abbrev pub Every : {X : Type 0} → (X → Type 0) → List X → Type 0
Every P [] = Unit {0}
Every P (x ∷ xs) = P x × Every P xs

pub every : {X : Type 0} (P : X → Type 0) (xs : List X) → ((k : ℕ) (d : X) → k < length xs → P (get_or xs k d))
    → Every P xs
every P [] all = tt
every P (x ∷ xs) all = (all 0 x (omega arith), every P xs (λ k d lt. all (suc k) d (omega arith)))

pub of_every : {X : Type 0} (P : X → Type 0) (xs : List X) → Every P xs → (k : ℕ) (d : X) → k < length xs
    → P (get_or xs k d)
of_every P [] e k d lt = absurd (omega arith)
of_every P (x ∷ xs) e zero d lt = e.0
of_every P (x ∷ xs) e (suc k) d lt = of_every P xs e.1 k d (omega arith)

pub all_tail : {X : Type 0} (P : X → Type 0) (xs ys : List X) (x : X) → xs ≡ x ∷ ys
    → ((k : ℕ) (d : X) → k < length xs → P (get_or xs k d)) → (k : ℕ) (d : X) → k < length ys → P (get_or ys k d)
all_tail P xs ys x e all k d lt =
    let there : (k : ℕ) → k < length (x ∷ ys) → P (get_or (x ∷ ys) k d) =
    subst (λ zs. (k : ℕ) → k < length zs → P (get_or zs k d)) e (λ j near. all j d near) in
    there (suc k) (omega arith)

-- a vector that was written over as a whole
written_all : {X : Type 0} (xs ys : List X) → length xs ≡ length ys → take (length xs) (xs ++ drop (length xs) ys) ≡ xs
written_all [] ys same = refl
written_all (x ∷ xs) [] same = absurd (omega arith)
written_all (x ∷ xs) (y ∷ ys) same = ap (λ l. x ∷ l) (written_all xs ys (omega arith))

pub written : {X : Type 0} (n : ℕ) (xs ys : List X) → n ≡ length xs → length xs ≡ length ys
    → take n (xs ++ drop (length xs) ys) ≡ xs
written n xs ys e same = ap (λ k. take k (xs ++ drop (length xs) ys)) e ∙ written_all xs ys same

-- ----- one lane
-- no more pins were lost than won, but those that are left for good
abbrev pub Even : (won lost : List FlowId) → (left : List FlowId) → Type 0
Even won lost left = (i : ℕ) → total (at_slot i) lost ≡ total (at_slot i) won + total (at_slot i) left

pub lane_grows : (v m : Lane) → HasPlayed v m → Works m
    → (ds : List Deed) × IsOf v m ds × (won lost : List FlowId) × Even won lost (pins_left v m)
    × Grows ds won lost (pass_of v).view (pass_of m).view
lane_grows (lanes.Core v) (lanes.Core m) did fine =
    let g = turn_grows (arc_value v.shared) v.tick v.worker m.worker (did.played fine) (did.empty fine) in
    (g.0, g.1, g.2, g.2, λ i. omega arith, g.3)
lane_grows (lanes.Core v) (lanes.App m) did fine = absurd did
lane_grows (lanes.App v) (lanes.Core m) did fine = absurd did
lane_grows (lanes.App v) (lanes.App m) did fine =
    let g = tried v.socket v.tick v.app m.app v.attempt m.attempt m.answer did.tried in
    (g.0, g.1, [], pin_left (flow_of v.app v.socket) v.attempt m.answer, λ i. omega arith, g.2)

has_turn : (ds : List Deed) (won lost : List FlowId) (v w : View) → HasTurn v → Grows ds won lost v w → HasTurn w
has_turn ds won lost v w (t, ts, e) g = (_, ts, g ∙ ap (noted ds won lost) e)

pub ready_after : (c : Common) (v m : Lane) → IsReady c v → HasPlayed v m → IsReady c m
ready_after c (lanes.Core v) (lanes.Core m) (e, r) did = (
  ap (λ (x : CoreLane). arc_value x.shared) did.same ∙ e,
  subst (λ x. IsReadyCore x m.worker) e did.ready,
)
ready_after c (lanes.Core v) (lanes.App m) r did = absurd did
ready_after c (lanes.App v) (lanes.Core m) r did = absurd did
ready_after c (lanes.App v) (lanes.App m) (e, r) did =
    let g = tried v.socket v.tick v.app m.app v.attempt m.attempt m.answer did.tried in
    let k = try_stays v.socket v.tick v.app m.app v.attempt m.attempt m.answer did.tried in (
      ap (λ (x : AppLane). arc_value x.shared) did.same ∙ e,
      record {
        table = k.0 ∙ r.table;
        turn = has_turn g.0 [] (pin_left (flow_of v.app v.socket) v.attempt m.answer) v.app.pass.view m.app.pass.view
            r.turn g.2;
        slow = k.1 ∙ r.slow;
        baton = k.2 ∙ r.baton;
      },
    )

idle_turns : (c : Common) (v : Lane) → IsIdle c v → (pass_of v).view.turns ≡ []
idle_turns c (lanes.Core v) (e, i) = i.turns
idle_turns c (lanes.App v) (e, i) = i.turns

turns_given : (ts : List Turn) (v : Lane) → (pass_of (with_turns_of ts v)).view.turns ≡ ts
turns_given ts (lanes.Core v) = refl
turns_given ts (lanes.App v) = refl

-- with a turn lent it may play
lent_ready : (c : Common) (p : ℕ) (v : Lane) → IsIdle c v → IsReady c (with_turns_of (new_turn p ∷ []) v)
lent_ready c p (lanes.Core v) (e, i) = (
  e,
  record {
    free = ((i.table, (new_turn p, [], refl), i.slow, i.baton), i.pins, i.held);
    queue = i.queue;
    senders = i.senders;
  },
)
lent_ready c p (lanes.App v) (e, i) =
    (e, record { table = i.table; turn = (new_turn p, [], refl); slow = i.slow; baton = i.baton })

ready_plays : (c : Common) (v : Lane) → IsReady c v → MayPlay v → CanPlay v
ready_plays c (lanes.Core v) (e, r) may = ((refl, subst (λ x. IsReadyCore x v.worker) (sym e) r), may)
ready_plays c (lanes.App v) (e, r) may = ((refl, subst (λ x. IsReadyApp x v.app) (sym e) r), may)

may_still : (ts : List Turn) (v : Lane) → MayPlay v → MayPlay (with_turns_of ts v)
may_still ts (lanes.Core v) may = may
may_still ts (lanes.App v) may = may

-- with its turn given back it is idle
idle_lane : (c : Common) (m : Lane) → IsReady c m → IsIdle c (with_turns_of [] m)
idle_lane c (lanes.Core m) (e, r) = (
  e,
  record {
    table = r.free.0.0;
    turns = refl;
    slow = r.free.0.2;
    baton = r.free.0.3;
    pins = r.free.1;
    held = r.free.2;
    queue = r.queue;
    senders = r.senders;
  },
)
idle_lane c (lanes.App m) (e, r) =
    (e, record { table = r.table; turns = refl; slow = r.slow; baton = r.baton })

-- what it did doesn't depend on its turns before and after
abbrev worker_with : List Turn → Worker → Worker
worker_with ts w = with_pass (record (w.pass) { view = record (w.pass.view) { turns = ts } }) w

lent_turn : (ts : List Turn) (tick : ℕ) (v m : Worker) (ds : List Deed) → IsTurnOf tick (worker_with ts v) m ds
    → IsTurnOf tick v m ds
lent_turn ts tick v m ds is = record {
  answers = is.answers;
  entered = is.entered;
  sent = is.sent;
  put = is.put;
  left = is.left;
  sends = is.sends;
  all = is.all;
}

turn_back : (ts : List Turn) (tick : ℕ) (v m : Worker) (ds : List Deed) → IsTurnOf tick v m ds
    → IsTurnOf tick v (worker_with ts m) ds
turn_back ts tick v m ds is = record {
  answers = is.answers;
  entered = is.entered;
  sent = is.sent;
  put = is.put;
  left = is.left;
  sends = is.sends;
  all = is.all;
}

of_lent : (ts : List Turn) (v m : Lane) (ds : List Deed) → IsOf (with_turns_of ts v) m ds → IsOf v m ds
of_lent ts (lanes.Core v) (lanes.Core m) ds is = lent_turn ts v.tick v.worker m.worker ds is
of_lent ts (lanes.Core v) (lanes.App m) ds is = is
of_lent ts (lanes.App v) (lanes.Core m) ds is = is
of_lent ts (lanes.App v) (lanes.App m) ds is = is

left_lent : (ts : List Turn) (v m : Lane) → pins_left (with_turns_of ts v) m ≡ pins_left v m
left_lent ts (lanes.Core v) (lanes.Core m) = refl
left_lent ts (lanes.Core v) (lanes.App m) = refl
left_lent ts (lanes.App v) (lanes.Core m) = refl
left_lent ts (lanes.App v) (lanes.App m) = refl

of_back : (ts : List Turn) (v m : Lane) (ds : List Deed) → IsOf v m ds → IsOf v (with_turns_of ts m) ds
of_back ts (lanes.Core v) (lanes.Core m) ds is = turn_back ts v.tick v.worker m.worker ds is
of_back ts (lanes.Core v) (lanes.App m) ds is = is
of_back ts (lanes.App v) (lanes.Core m) ds is = is
of_back ts (lanes.App v) (lanes.App m) ds is = is

left_back : (ts : List Turn) (v m : Lane) → pins_left v (with_turns_of ts m) ≡ pins_left v m
left_back ts (lanes.Core v) (lanes.Core m) = refl
left_back ts (lanes.Core v) (lanes.App m) = refl
left_back ts (lanes.App v) (lanes.Core m) = refl
left_back ts (lanes.App v) (lanes.App m) = refl

-- what it did in the turn that it was lent
pub record IsDone (c : Common) (p : ℕ) (v m : Lane) : Type 0 where
  pub turn : Turn
  pub one : (pass_of m).view.turns ≡ turn ∷ []
  pub name : turn.name ≡ p
  pub did : HasPlayed (with_turns_of (new_turn p ∷ []) v) m
  pub works : Works m
  pub ready : IsReady c m
  pub deeds : IsOf v m turn.deeds
  pub even : Even turn.pinned turn.unpinned (pins_left v m)

is_done : (c : Common) (p : ℕ) (v l m : Lane) → IsIdle c v
    → l ≡ with_turns_of ((pass_of v).view.turns ++ new_turn p ∷ []) v
    → HasPlayed l m → Works m → IsDone c p v m
is_done c p v l m idle lent did fine =
    let ts : List Turn = new_turn p ∷ [] in
    let fresh : l ≡ with_turns_of ts v = lent ∙ ap (λ us. with_turns_of (us ++ ts) v) (idle_turns c v idle) in
    let does : HasPlayed (with_turns_of ts v) m = subst (λ x. HasPlayed x m) fresh did in
    let g = lane_grows (with_turns_of ts v) m does fine in
    let turn : Turn = record { name = p; deeds = g.0; pinned = g.2; unpinned = g.3 } in
    record {
      turn = turn;
      one = g.5 ∙ ap (noted g.0 g.2 g.3) (turns_given ts v);
      name = refl;
      did = does;
      works = fine;
      ready = ready_after c (with_turns_of ts v) m (lent_ready c p v idle) does;
      deeds = of_lent ts v m g.0 g.1;
      even = subst (Even g.2 g.3) (left_lent ts v m) g.4;
    }

-- ----- all lanes
abbrev pub AreDone : Common → (p : ℕ) → List Lane → List Lane → Type 0
AreDone c p [] ms = ms ≡ []
AreDone c p (v ∷ vs) [] = ⊥
AreDone c p (v ∷ vs) (m ∷ ms) = IsDone c p v m × AreDone c (suc p) vs ms

pub are_done : (c : Common) (p : ℕ) (vs ls ms : List Lane) → Every (IsIdle c) vs → AreLent p vs ls
    → AllZip HasPlayed ls ms → Every Works ms → AreDone c p vs ms
are_done c p [] [] [] idle lent did fine = refl
are_done c p [] [] (m ∷ ms) idle lent did fine = absurd did
are_done c p [] (l ∷ ls) [] idle lent did fine = refl
are_done c p [] (l ∷ ls) (m ∷ ms) idle lent did fine = absurd (let n = ap length lent in omega arith)
are_done c p (v ∷ vs) [] ms idle lent did fine = absurd lent
are_done c p (v ∷ vs) (l ∷ ls) [] idle lent did fine = absurd did
are_done c p (v ∷ vs) (l ∷ ls) (m ∷ ms) idle lent did fine =
    (is_done c p v l m idle.0 lent.0 did.0 fine.0, are_done c (suc p) vs ls ms idle.1 lent.1 did.1 fine.1)

pub lent_length : (p : ℕ) (vs ls : List Lane) → AreLent p vs ls → length ls ≡ length vs
lent_length p [] ls lent = ap length lent
lent_length p (v ∷ vs) [] lent = absurd lent
lent_length p (v ∷ vs) (l ∷ ls) lent = ap suc (lent_length (suc p) vs ls lent.1)

pub back_length : (ms ws : List Lane) → AreBack ms ws → length ws ≡ length ms
back_length [] ws back = ap length back
back_length (m ∷ ms) [] back = absurd back
back_length (m ∷ ms) (w ∷ ws) back = ap suc (back_length ms ws back.1)

pub can_play : (c : Common) (p : ℕ) (vs ls : List Lane) → Every (IsIdle c) vs → Every MayPlay vs → AreLent p vs ls
    → Every CanPlay ls
can_play c p [] ls idle may lent = subst (Every CanPlay) (sym lent) tt
can_play c p (v ∷ vs) [] idle may lent = absurd lent
can_play c p (v ∷ vs) (l ∷ ls) idle may lent =
    let ts : List Turn = new_turn p ∷ [] in
    let fresh : l ≡ with_turns_of ts v = lent.0 ∙ ap (λ us. with_turns_of (us ++ ts) v) (idle_turns c v idle.0) in (
      subst CanPlay (sym fresh) (ready_plays c (with_turns_of ts v) (lent_ready c p v idle.0) (may_still ts v may.0)),
      can_play c (suc p) vs ls idle.1 may.1 lent.1,
    )

pub done_ready : (c : Common) (p : ℕ) (vs ms : List Lane) → AreDone c p vs ms → Every (IsReady c) ms
done_ready c p [] ms is = subst (Every (IsReady c)) (sym is) tt
done_ready c p (v ∷ vs) [] is = absurd is
done_ready c p (v ∷ vs) (m ∷ ms) (is, more) = (is.ready, done_ready c (suc p) vs ms more)

-- ----- names
abbrev name_is : ℕ → Turn → ℕ
name_is p t = cond (t.name == p) 1 0

one_more : (p m : ℕ) → cond {A = ℕ} (m == p) 1 0 + once_below p m ≡ once_below p (suc m)
one_more p m = grind (arith, nat_tests)

none_below : (p : ℕ) → once_below p 0 ≡ 0
none_below p = grind (arith, nat_tests)

all_named : (c : Common) (p n : ℕ) (vs ms : List Lane) → AreDone c n vs ms
    → total (name_is p) (turns_in ms) + once_below p n ≡ once_below p (n + length vs)
all_named c p n [] ms is =
    let none : total (name_is p) (turns_in ms) ≡ 0 = ap (λ ls. total (name_is p) (turns_in ls)) is in
    let same : once_below p n ≡ once_below p (n + 0) = ap (once_below p) (let e : n ≡ n + 0 = omega arith in e) in
    omega arith
all_named c p n (v ∷ vs) [] is = absurd is
all_named c p n (v ∷ vs) (m ∷ ms) (is, more) =
    let first : total (name_is p) ((pass_of m).view.turns ++ turns_in ms) ≡ cond (n == p) 1 0
    + total (name_is p) (turns_in ms) =
    ap (λ ts. total (name_is p) (ts ++ turns_in ms)) is.one
    ∙ ap (λ k. cond {A = ℕ} (k == p) 1 0 + total (name_is p) (turns_in ms)) is.name in
    let rest = all_named c p (suc n) vs ms more in
    let len : once_below p (suc n + length vs) ≡ once_below p (n + suc (length vs)) =
    ap (once_below p) (let e : suc n + length vs ≡ n + suc (length vs) = omega arith in e) in
    omega (arith, one_more p n)

-- the slow path's view when all turns are back
abbrev pub all_back : View → ℕ → List Lane → View
all_back v n ms = record v { made = n; turns = turns_in ms }

pub has_all : (c : Common) (v : View) (vs ms : List Lane) → AreDone c 0 vs ms → HasAll (all_back v (length vs) ms)
has_all c v vs ms is p =
    let a : total (name_is p) (turns_in ms) + once_below p 0 ≡ once_below p (length vs) =
    all_named c p 0 vs ms is ∙ ap (once_below p) (let e : 0 + length vs ≡ length vs = omega arith in e) in
    omega (arith, none_below p)

-- ----- pins
abbrev won_in : ℕ → List Turn → ℕ
won_in i ts = total (λ (t : Turn). total (at_slot i) t.pinned) ts

abbrev lost_in : ℕ → List Turn → ℕ
lost_in i ts = total (λ (t : Turn). total (at_slot i) t.unpinned) ts

all_even : (c : Common) (i n : ℕ) (vs ms : List Lane) → AreDone c n vs ms
    → lost_in i (turns_in ms) ≡ won_in i (turns_in ms) + left_on i vs ms
all_even c i n [] ms is =
    let lost : lost_in i (turns_in ms) ≡ 0 = ap (λ ls. lost_in i (turns_in ls)) is in
    let won : won_in i (turns_in ms) ≡ 0 = ap (λ ls. won_in i (turns_in ls)) is in
    omega arith
all_even c i n (v ∷ vs) [] is = absurd is
all_even c i n (v ∷ vs) (m ∷ ms) (is, more) =
    let lost : lost_in i ((pass_of m).view.turns ++ turns_in ms) ≡ total (at_slot i) is.turn.unpinned
    + lost_in i (turns_in ms) =
    ap (λ ts. lost_in i (ts ++ turns_in ms)) is.one in
    let won : won_in i ((pass_of m).view.turns ++ turns_in ms) ≡ total (at_slot i) is.turn.pinned
    + won_in i (turns_in ms) =
    ap (λ ts. won_in i (ts ++ turns_in ms)) is.one in
    let one = is.even i in
    let rest = all_even c i (suc n) vs ms more in
    omega arith

left_again : (c : Common) (i n : ℕ) (vs ms ws : List Lane) → AreDone c n vs ms → AreBack ms ws
    → left_on i vs ws ≡ left_on i vs ms
left_again c i n [] ms ws is back = refl
left_again c i n (v ∷ vs) [] ws is back = absurd is
left_again c i n (v ∷ vs) (m ∷ ms) [] is back = absurd back
left_again c i n (v ∷ vs) (m ∷ ms) (w ∷ ws) is back =
    let one : pins_left v w ≡ pins_left v m = ap (pins_left v) back.0 ∙ left_back [] v m in
    let rest = left_again c i (suc n) vs ms ws is.1 back.1 in
    (λ j. total (at_slot i) (one j) + rest j)

-- ----- the order
abbrev Own : Order → List Turn → Type 0
Own order ts = (k : ℕ) (t : Turn) → get_elem? ts k ≡ O.some t → of t.name order ≡ t.deeds

parts : (c : Common) (order : Order) (p : ℕ) (vs ms ws : List Lane) → AreDone c p vs ms → AreBack ms ws
    → Own order (turns_in ms) → AreParts order p vs ws
parts c order p [] [] ws is back own = back
parts c order p [] (m ∷ ms) ws is back own = absurd (let n = ap length is in omega arith)
parts c order p (v ∷ vs) [] ws is back own = absurd is
parts c order p (v ∷ vs) (m ∷ ms) [] is back own = absurd back
parts c order p (v ∷ vs) (m ∷ ms) (w ∷ ws) (is, more) back own =
    let there : Own order ((is.turn ∷ []) ++ turns_in ms) = subst (λ ts. Own order (ts ++ turns_in ms)) is.one own in
    let deeds : of p order ≡ is.turn.deeds = ap (λ k. of k order) (sym is.name) ∙ there 0 is.turn refl in (
      record {
        after = m;
        did = is.did;
        works = is.works;
        back = back.0;
        deeds = subst (λ x. IsOf v x (of p order)) (sym back.0)
            (of_back [] v m (of p order) (subst (IsOf v m) (sym deeds) is.deeds));
      },
      parts c order (suc p) vs ms ws more back.1 (λ k t at. there (suc k) t at),
    )

-- between ticks again
pub idle_again : (c : Common) (ms ws : List Lane) → Every (IsReady c) ms → AreBack ms ws → Every (IsIdle c) ws
idle_again c [] ws ready back = subst (Every (IsIdle c)) (sym back) tt
idle_again c (m ∷ ms) [] ready back = absurd back
idle_again c (m ∷ ms) (w ∷ ws) ready back =
    (subst (IsIdle c) (sym back.0) (idle_lane c m ready.0), idle_again c ms ws ready.1 back.1)

-- ----- the slow path's view
pub back_view : (v b : View) (n : ℕ) (ms : List Lane) → IsAlone v
    → b ≡ record v { made = v.made + n; turns = v.turns ++ turns_in ms } → b ≡ all_back v n ms
back_view v b n ms alone e =
    e ∙ (λ i. record v { made = (alone.2 i) + n; turns = (alone.1 i) ++ turns_in ms })
    ∙ ap (λ k. all_back v k ms) (let s : 0 + n ≡ n = omega arith in s)

-- ----- the phase
pub is_phase : (c : Common) (v w : View) (vs ms ws : List Lane) → IsAlone v → AreDone c 0 vs ms → AreBack ms ws
    → (order : Order) × IsOrdered order (all_back v (length vs) ms) w → IsCounted (all_back v (length vs) ms) w
    → IsPhase vs ws v w
is_phase c v w vs ms ws alone is back (order, o) counted = record {
  order = order;
  parts = parts c order 0 vs ms ws is back o.0;
  others = o.1;
  run = o.2;
  known = o.3
      ∙ (λ i. record v { turns = sym alone.1 i; made = sym alone.2 i; base = played v.base order; words = w.words });
  pins = λ i.
      let a : pins_at w.words i + lost_in i (turns_in ms) ≡ pins_at v.words i + won_in i (turns_in ms) = counted.0 i in
      let b = all_even c i 0 vs ms is in
      let d = left_again c i 0 vs ms ws is back in
      omega arith;
  busy = counted.1;
  marks = counted.2;
  wide = counted.3;
}
