-- The lanes of applications that try something: for the answers for `try_call` and `take_answer`.
use Rattle.std.proofs.Common.{◌≡◌, ◌<◌, ◌+◌, ◌==◌, ◌||◌, not, cond, ℕ, zero, suc, Bool, true, false, List, [], ◌∷◌}
use Rattle.std.proofs.Common.{length, set, get_or, refl, sym, ap, ◌∙◌, subst, arith, true≢false, lt-ltb}
use Rattle.std.proofs.lemmas.Bool.Decides.{nat_tests}
use Rattle.std.proofs.lemmas.List.Quantifiers.{position-Some}
use Rattle.std.specs.Arc.{arc_value}
use Rattle.std.specs.Prelude.{Option, Some, None, IsSome, position, slice_get, Result, Ok, Err, IfOk}
use Rattle.std.specs.List.{list_any, position_or_len}
use Rattle.tas_model.specs.declared.entry.FlowId.{FlowId}
use Rattle.host_rounds.specs.Hosts.{Application, is_held_by}
use Rattle.host_rounds.specs.Lists.{Each, change_at}
use Rattle.flow_state.specs.declared.call.Answer.{Answer}
use Rattle.flow_state.specs.declared.call.CallIn.{CallIn}
use Rattle.core_phase.specs.Attempts.{MayTry}
use Rattle.core_phase.specs.Lanes.{IsIdle, IsIdleApp}
use Rattle.core_phase.specs.declared.attempt.Attempt.{Attempt}
use Rattle.core_phase.specs.declared.lane.AppLane.{AppLane}
use Rattle.core_phase.specs.declared.lane.Lane.{Lane}
use Rattle.core_phase.specs.declared.lane.Lane.TheVariants as lanes
use Rattle.core_worker.specs.Workers.{Common}
use Rattle.host_books.specs.Books.{Book}
use Rattle.libtas_sockets.specs.Apps as libtas
use Rattle.libtas_sockets.specs.Apps.{IsSocket, socket_on}
use Rattle.libtas_sockets.specs.declared.socket.Socket.{Socket}
use Rattle.sound_hosts.specs.Hosts.{is_holder, is_held_of}
use Rattle.sound_hosts.specs.Sound.{IsApp, HasHolder}
use Rattle.sound_hosts.proofs.OpenSockets.{each_at}
use Rattle.sound_phases.specs.Phased.{apps_in}
use Rattle.core_phase.specs.declared.attempt.Answered.TheVariants as answers
use Rattle.core_phase.specs.declared.attempt.Attempt.TheVariants as attempts
use Rattle.core_host.specs.Attempts.{HasSocketAt, IsLaneAt, IsAttemptOf, with_attempt, IsTrying, answer_told}
use Rattle.core_host.specs.Attempts.{without_attempt, IsAnswerTaken}
use Rattle.core_host.specs.Emission.{AreButTried, AreTriesSet}
use Rattle.core_host.specs.Sound.{AreApps, AreStaff, IsResting, IsStaffSound}
use Rattle.core_host.specs.Views.{Staffed}
use Rattle.core_host.proofs.Left.{none_there}
use Rattle.core_host.proofs.Sockets.{socket_of}
use Rattle.core_host.proofs.Staffs.{moved_lanes}

-- ----- places
passes_before_end : {X : Type 0} (p : X → Bool) (xs : List X) → list_any p xs ≡ true → position_or_len p xs < length xs
passes_before_end p [] e = absurd (true≢false (sym e))
passes_before_end p (x ∷ xs) e = by (p x) e (passes_before_end p xs)
  where
    by : (t : Bool) → (t || list_any p xs) ≡ true → (list_any p xs ≡ true → position_or_len p xs < length xs)
        → cond (not t) (1 + position_or_len p xs) 0 < suc (length xs)
    by true e rest = omega arith
    by false e rest = let r = rest e in omega (arith, r)

pub passes_somewhere : {X : Type 0} (p : X → Bool) (xs : List X) → list_any p xs ≡ true → IsSome (position p xs)
passes_somewhere p xs e =
    let at : position p xs ≡ Some (position_or_len p xs) =
    ap (λ t. cond {A = Option ℕ} t (Some (position_or_len p xs)) None)
    (lt-ltb (position_or_len p xs) (length xs) (passes_before_end p xs e)) in
    subst (λ (o : Option ℕ). IsSome o) (sym at) refl

-- ----- an application's lane
name_there : (app d : ℕ) (names : List ℕ) (ls : List Lane) (i : ℕ) → AreApps names ls → i < length names
    → (get_or names i d == app) ≡ true → (l : AppLane) × IsLaneAt app i l ls
name_there app d [] ls i are near at = absurd (omega arith)
name_there app d (n ∷ ns) [] i are near at = absurd are
name_there app d (n ∷ ns) (lanes.Core l ∷ ls) i are near at = absurd are
name_there app d (n ∷ ns) (lanes.App l ∷ ls) zero are near at =
    let same : n ≡ app = grind (arith, nat_tests, at) in (l, record { there = refl; number = are.0 ∙ same })
name_there app d (n ∷ ns) (lanes.App l ∷ ls) (suc i) are near at =
    by (name_there app d ns ls i are.1 (omega arith) at)
  where
    by : (k : AppLane) × IsLaneAt app i k ls → (k : AppLane) × IsLaneAt app (suc i) k (lanes.App l ∷ ls)
    by (k, is) = (k, record { there = is.there; number = is.number })

pub lane_there : (app n first : ℕ) (names : List ℕ) (ls : List Lane) (i : ℕ) → AreStaff n first names ls
    → position (λ (k : ℕ). k == app) names ≡ Some i → (l : AppLane) × IsLaneAt app (n + i) l ls
lane_there app zero first names ls i are at =
    let e = position-Some (λ (k : ℕ). k == app) names i 0 at in
    let same : i ≡ 0 + i = omega arith in
    subst (λ k. (l : AppLane) × IsLaneAt app k l ls) same (name_there app 0 names ls i are e.0 e.1)
lane_there app (suc n) first names [] i are at = absurd are
lane_there app (suc n) first names (lanes.App l ∷ ls) i are at = absurd are
lane_there app (suc n) first names (lanes.Core l ∷ ls) i are at = by (lane_there app n (suc first) names ls i are.1 at)
  where
    same : suc (n + i) ≡ suc n + i
    same = omega arith

    by : (k : AppLane) × IsLaneAt app (n + i) k ls
        → (k : AppLane) × IsLaneAt app (suc n + i) k (lanes.Core l ∷ ls)
    by (k, is) =
        (k, subst (λ j. IsLaneAt app j k (lanes.Core l ∷ ls)) same (record { there = is.there; number = is.number }))

pub lane_near : (ls : List Lane) (k : ℕ) (l : Lane) → slice_get ls k ≡ Some l → k < length ls
lane_near [] k l at = absurd (cc (at))
lane_near (x ∷ ls) zero l at = omega arith
lane_near (x ∷ ls) (suc k) l at = let r = lane_near ls k l at in omega (arith, r)

-- ----- who has a flow runs
module _ (b : Book) (app : ℕ) (held : b.holder ≡ Application app) where
  holder_is : (n m : ℕ) → n ≡ m → is_held_of n b ≡ (m == app)
  holder_is n m e = ap (is_holder n) held ∙ (let same : (app == n) ≡ (m == app) = grind (arith, nat_tests, e) in same)

  held_names : (names : List ℕ) (ls : List Lane) → AreApps names ls
      → list_any (λ (a : libtas.Application). is_held_of a.number b) (apps_in ls)
      ≡ list_any (λ (n : ℕ). n == app) names
  held_names [] ls are = ap (λ k. list_any (λ (a : libtas.Application). is_held_of a.number b) (apps_in k)) are
  held_names (n ∷ ns) [] are = absurd are
  held_names (n ∷ ns) (lanes.Core l ∷ ls) are = absurd are
  held_names (n ∷ ns) (lanes.App l ∷ ls) are =
      let rest = held_names ns ls are.1 in λ i. holder_is l.app.number n are.0 i || rest i

  held_staff : (n first : ℕ) (names : List ℕ) (ls : List Lane) → AreStaff n first names ls
      → list_any (λ (a : libtas.Application). is_held_of a.number b) (apps_in ls)
      ≡ list_any (λ (k : ℕ). k == app) names
  held_staff zero first names ls are = held_names names ls are
  held_staff (suc n) first names [] are = absurd are
  held_staff (suc n) first names (lanes.App l ∷ ls) are = absurd are
  held_staff (suc n) first names (lanes.Core l ∷ ls) are = held_staff n (suc first) names ls are.1

  pub holder_runs : (n first : ℕ) (names : List ℕ) (ls : List Lane) → AreStaff n first names ls
      → list_any (λ (a : libtas.Application). is_held_of a.number b) (apps_in ls) ≡ true
      → IsSome (position (λ (k : ℕ). k == app) names)
  holder_runs n first names ls are any =
      passes_somewhere (λ (k : ℕ). k == app) names (sym (held_staff n first names ls are) ∙ any)

-- ----- what stands at a place
pub own_lane : (app n : ℕ) (names ns : List ℕ) (ls : List Lane) (k : ℕ) → AreStaff n 0 names ls → ns ≡ names
    → (i : ℕ) × (position (λ (m : ℕ). m == app) ns ≡ Some i) × (k ≡ n + i) → (l : AppLane) × IsLaneAt app k l ls
own_lane app n names ns ls k are same (i, at, is) =
    by (lane_there app n 0 names ls i are (ap (position (λ (m : ℕ). m == app)) (sym same) ∙ at))
  where
    by : (l : AppLane) × IsLaneAt app (n + i) l ls → (l : AppLane) × IsLaneAt app k l ls
    by (l, own) = (l, subst (λ j. IsLaneAt app j l ls) (sym is) own)

pub read_is : (ls : List Lane) (k : ℕ) (v l : Lane) → slice_get ls k ≡ Some l → v ≡ get_or ls k v → v ≡ l
read_is [] k v l at read = absurd (cc (at))
read_is (x ∷ ls) zero v l at read = let same : x ≡ l = cc (at) in read ∙ same
read_is (x ∷ ls) (suc k) v l at read = read_is ls k v l at read

pub there_by : {X : Type 0} (xs : List X) (k : ℕ) (v : X) → k < length xs → v ≡ get_or xs k v → slice_get xs k ≡ Some v
there_by [] k v near read = absurd (omega (arith, near))
there_by (x ∷ xs) zero v near read = ap (λ y. Some y) (sym read)
there_by (x ∷ xs) (suc k) v near read = there_by xs k v (omega (arith, near)) read

pub if_ok : {T E : Type 0} {P Q : T → Type 0} (r : Result T E) → ((x : T) → P x → Q x) → IfOk r P → IfOk r Q
if_ok (Ok x) f p = f x p
if_ok (Err e) f p = tt

-- ----- one lane with another socket, attempt or answer
pub set_changed : {X : Type 0} (xs : List X) (k : ℕ) (x : X) → set xs k x ≡ change_at k (λ (y : X). x) xs
set_changed [] k x = refl
set_changed (y ∷ xs) zero x = refl
set_changed (y ∷ xs) (suc k) x = ap (λ l. y ∷ l) (set_changed xs k x)

module _ (l m : AppLane) (app : m.app ≡ l.app) (host : m.host ≡ l.host) (shared : m.shared ≡ l.shared) where
  abbrev changed : ℕ → List Lane → List Lane
  changed k ls = change_at k (λ (v : Lane). lanes.App m) ls

  is_own : (x : AppLane) → ◌≡◌ {A = Option Lane} (Some (lanes.App x)) (Some (lanes.App l)) → x ≡ l
  is_own x e = cc (e)

  apps_same : (ls : List Lane) (k : ℕ) → slice_get ls k ≡ Some (lanes.App l) → apps_in (changed k ls) ≡ apps_in ls
  apps_same [] k at = refl
  apps_same (lanes.Core x ∷ ls) zero at = absurd (cc (at))
  apps_same (lanes.App x ∷ ls) zero at =
      ap (λ a. a ∷ apps_in ls) (app ∙ sym (ap (λ (y : AppLane). y.app) (is_own x at)))
  apps_same (lanes.Core x ∷ ls) (suc k) at = apps_same ls k at
  apps_same (lanes.App x ∷ ls) (suc k) at = ap (λ xs. x.app ∷ xs) (apps_same ls k at)

  names_same : (names : List ℕ) (ls : List Lane) (k : ℕ) → slice_get ls k ≡ Some (lanes.App l) → AreApps names ls
      → AreApps names (changed k ls)
  names_same [] ls k at are = absurd (none_there (lanes.App l) ls k are at)
  names_same (n ∷ ns) [] k at are = absurd are
  names_same (n ∷ ns) (lanes.Core x ∷ ls) k at are = absurd are
  names_same (n ∷ ns) (lanes.App x ∷ ls) zero at are =
      (ap (λ a. a.number) app ∙ (ap (λ (y : AppLane). y.app.number) (sym (is_own x at)) ∙ are.0), are.1)
  names_same (n ∷ ns) (lanes.App x ∷ ls) (suc k) at are = (are.0, names_same ns ls k at are.1)

  staff_same : (n first : ℕ) (names : List ℕ) (ls : List Lane) (k : ℕ) → slice_get ls k ≡ Some (lanes.App l)
      → AreStaff n first names ls → AreStaff n first names (changed k ls)
  staff_same zero first names ls k at are = names_same names ls k at are
  staff_same (suc n) first names [] k at are = absurd are
  staff_same (suc n) first names (lanes.App x ∷ ls) k at are = absurd are
  staff_same (suc n) first names (lanes.Core x ∷ ls) zero at are = absurd (cc (at))
  staff_same (suc n) first names (lanes.Core x ∷ ls) (suc k) at are =
      (are.0, staff_same n (suc first) names ls k at are.1)

  idle_same : (c : Common) (ls : List Lane) (k : ℕ) → slice_get ls k ≡ Some (lanes.App l) → Each (IsIdle c) ls
      → Each (IsIdle c) (changed k ls)
  idle_same c [] k at idle = tt
  idle_same c (lanes.Core x ∷ ls) zero at idle = absurd (cc (at))
  idle_same c (lanes.App x ∷ ls) zero at idle =
      let own : IsIdle c (lanes.App l) = subst (λ (y : AppLane). IsIdle c (lanes.App y)) (is_own x at) idle.0 in
      ((ap arc_value shared ∙ own.0, subst (IsIdleApp c) (sym app) own.1), idle.1)
  idle_same c (lanes.Core x ∷ ls) (suc k) at idle = (idle.0, idle_same c ls k at idle.1)
  idle_same c (lanes.App x ∷ ls) (suc k) at idle = (idle.0, idle_same c ls k at idle.1)

  resting_same : (check : Bool) (ls : List Lane) (k : ℕ) → slice_get ls k ≡ Some (lanes.App l)
      → Each (IsResting check) ls → Each (IsResting check) (changed k ls)
  resting_same check [] k at resting = tt
  resting_same check (lanes.Core x ∷ ls) zero at resting = absurd (cc (at))
  resting_same check (lanes.App x ∷ ls) zero at resting = (
    subst (λ (n : ℕ). n < 67108863) (sym (host ∙ sym (ap (λ (y : AppLane). y.host) (is_own x at)))) resting.0,
    resting.1,
  )
  resting_same check (lanes.Core x ∷ ls) (suc k) at resting = (resting.0, resting_same check ls k at resting.1)
  resting_same check (lanes.App x ∷ ls) (suc k) at resting = (resting.0, resting_same check ls k at resting.1)

  pub changed_sound : (h : Staffed) (k : ℕ) → IsStaffSound h → slice_get h.lanes k ≡ Some (lanes.App l)
      → IsStaffSound (record h { lanes = changed k h.lanes })
  changed_sound h k sound at =
      moved_lanes h h.host (changed k h.lanes) sound sound.host sound.counted refl
      (sound.apps ∙ sym (apps_same h.lanes k at)) refl sound.senders sound.kickers sound.timed
      (staff_same h.cores 0 h.names h.lanes k at sound.staff) (idle_same h.shared h.lanes k at sound.idle)
      (resting_same h.host.slow.check_sums h.lanes k at sound.resting)

  -- the host as its lanes have it
  pub changed_view : (h : Staffed) (k : ℕ) → IsStaffSound h → slice_get h.lanes k ≡ Some (lanes.App l)
      → record h { host = record (h.host) { apps = apps_in (changed k h.lanes) }; lanes = changed k h.lanes }
      ≡ record h { lanes = changed k h.lanes }
  changed_view h k sound at =
      ap (λ (xs : List libtas.Application).
      record h { host = record (h.host) { apps = xs }; lanes = changed k h.lanes })
      (apps_same h.lanes k at ∙ sym sound.apps)

-- ----- the application's own lane
lane_app : (P : libtas.Application → Type 0) (ls : List Lane) (k : ℕ) (l : AppLane) → Each P (apps_in ls)
    → slice_get ls k ≡ Some (lanes.App l) → P l.app
lane_app P [] k l each at = absurd (cc (at))
lane_app P (lanes.Core x ∷ ls) zero l each at = absurd (cc (at))
lane_app P (lanes.Core x ∷ ls) (suc k) l each at = lane_app P ls k l each at
lane_app P (lanes.App x ∷ ls) zero l each at =
    let same : x ≡ l = cc (at) in subst (λ (y : AppLane). P y.app) same each.0
lane_app P (lanes.App x ∷ ls) (suc k) l each at = lane_app P ls k l each.1 at

module _ (h : Staffed) (sound : IsStaffSound h) (app k : ℕ) (l : AppLane) (own : IsLaneAt app k l h.lanes) where
  pub app_is : IsApp h.host.table h.host.books l.app
  app_is =
      lane_app (IsApp h.host.table h.host.books) h.lanes k l
      (subst (Each (IsApp h.host.table h.host.books)) sound.apps sound.host.apps) own.there

  pub is_trying : (place : ℕ) (b : Book) (call : CallIn) (attempt : Attempt)
      → slice_get h.host.books place ≡ Some b → b.holder ≡ Application app → IsAttemptOf call attempt
      → ((a : libtas.Application) (s : Socket) → IsSocket a s → MayTry a s attempt)
      → IsTrying app b.id call h
      (record h { lanes = change_at k (λ (v : Lane). with_attempt (socket_on b.id) attempt l) h.lanes })
  is_trying place b call attempt at held is may =
      let s = socket_of h.host sound.host l.app app_is place b at (held ∙ ap Application (sym own.number)) in
      record {
        place = k;
        lane = l;
        own = own;
        socket = socket_on b.id;
        flow = s.named;
        attempt = attempt;
        call_is = is;
        may = may l.app (socket_on b.id) s.socket;
        lanes = refl;
        sound = changed_sound l (record l { socket = socket_on b.id; attempt = attempt }) refl refl refl h k sound
            own.there;
        same = refl;
      }

  pub is_taken : IsAnswerTaken app (answer_told l.answer) h
      (record h { lanes = change_at k (λ (v : Lane). without_attempt l) h.lanes })
  is_taken = record {
    place = k;
    lane = l;
    own = own;
    told = refl;
    lanes = refl;
    sound = changed_sound l (record l { attempt = attempts.Nothing; answer = answers.Nothing }) refl refl refl h k sound
        own.there;
    same = refl;
  }

  -- the host as its lanes have it, once the lane at the place was written
  abbrev pub written : Lane → Staffed
  written w = record h { host = record (h.host) { apps = apps_in (set h.lanes k w) }; lanes = set h.lanes k w }

  pub tried_out : (place : ℕ) (b : Book) (call : CallIn) (attempt : Attempt) (s : Socket) (w : Lane)
      → slice_get h.host.books place ≡ Some b → b.holder ≡ Application app → IsAttemptOf call attempt
      → ((a : libtas.Application) (q : Socket) → IsSocket a q → MayTry a q attempt) → s ≡ socket_on b.id
      → w ≡ with_attempt s attempt l → (before : Staffed) → h ≡ before
      → IsTrying app b.id call before (written w)
  tried_out place b call attempt s w at held is may socket e before were =
      let m : AppLane = record l { socket = socket_on b.id; attempt = attempt } in
      let same : set h.lanes k w ≡ change_at k (λ (v : Lane). lanes.App m) h.lanes =
      ap (set h.lanes k) (e ∙ ap (λ (q : Socket). with_attempt q attempt l) socket)
      ∙ set_changed h.lanes k (lanes.App m) in
      subst (λ (x : Staffed). IsTrying app b.id call x (written w)) were
      (subst (λ (ls : List Lane).
      IsTrying app b.id call h (record h { host = record (h.host) { apps = apps_in ls }; lanes = ls })) (sym same)
      (subst (IsTrying app b.id call h) (sym (changed_view l m refl refl refl h k sound own.there))
      (is_trying place b call attempt at held is may)))

  pub answer_taken : (answer : Option Answer) (w : Lane) → answer ≡ answer_told l.answer → w ≡ without_attempt l
      → (before : Staffed) → h ≡ before → IsAnswerTaken app answer before (written w)
  answer_taken answer w told e before were =
      let m : AppLane = record l { attempt = attempts.Nothing; answer = answers.Nothing } in
      let same : set h.lanes k w ≡ change_at k (λ (v : Lane). lanes.App m) h.lanes =
      ap (set h.lanes k) e ∙ set_changed h.lanes k (lanes.App m) in
      subst (λ (x : Staffed). IsAnswerTaken app answer x (written w)) were
      (subst (λ (ls : List Lane).
      IsAnswerTaken app answer h (record h { host = record (h.host) { apps = apps_in ls }; lanes = ls })) (sym same)
      (subst (IsAnswerTaken app answer h) (sym (changed_view l m refl refl refl h k sound own.there))
      (subst (λ (a : Option Answer).
      IsAnswerTaken app a h (record h { lanes = change_at k (λ (v : Lane). lanes.App m) h.lanes })) (sym told)
      is_taken)))

-- who has a socket runs
pub runs_here : (h : Staffed) (app place : ℕ) → IsStaffSound h → HasSocketAt app place h
    → IsSome (position (λ (n : ℕ). n == app) h.names)
runs_here h app place sound (b, at, held) =
    holder_runs b app held h.cores 0 h.names h.lanes sound.staff
    (subst (λ (xs : List libtas.Application). list_any (λ (a : libtas.Application). is_held_of a.number b) xs ≡ true)
    sound.apps
    (each_at (HasHolder h.host.apps) h.host.books place b sound.host.holders at (ap is_held_by held)).0)

pub held_at_place : (h : Staffed) (app place : ℕ) (b : Book) → HasSocketAt app place h
    → slice_get h.host.books place ≡ Some b → b.holder ≡ Application app
held_at_place h app place b (d, at, held) there =
    let same : d ≡ b = cc (at, there) in subst (λ (x : Book). x.holder ≡ Application app) same held

-- ----- nothing but what is tried and answered
none_tried : (ls : List Lane) → AreButTried ls ls
none_tried [] = refl
none_tried (lanes.Core l ∷ ls) = (refl, none_tried ls)
none_tried (lanes.App l ∷ ls) = (refl, none_tried ls)

one_tried : (l m : AppLane) → m ≡ record l { socket = m.socket; attempt = m.attempt; answer = m.answer } → (ls : List
    Lane)
    (k : ℕ) → slice_get ls k ≡ Some (lanes.App l) → AreButTried ls (change_at k (λ (v : Lane). lanes.App m) ls)
one_tried l m is [] k at = refl
one_tried l m is (lanes.Core x ∷ ls) zero at = absurd (cc (at))
one_tried l m is (lanes.App x ∷ ls) zero at =
    let same : x ≡ l = cc (at) in (
      is ∙ ap (λ (y : AppLane). record y { socket = m.socket; attempt = m.attempt; answer = m.answer }) (sym same),
      none_tried ls,
    )
one_tried l m is (lanes.Core x ∷ ls) (suc k) at = (refl, one_tried l m is ls k at)
one_tried l m is (lanes.App x ∷ ls) (suc k) at = (refl, one_tried l m is ls k at)

more_tried : (vs ws us : List Lane) → AreButTried vs ws → AreButTried ws us → AreButTried vs us
more_tried [] ws us one two = subst (λ ls. AreButTried ls us) one two
more_tried (v ∷ vs) [] us one two = absurd one
more_tried (v ∷ vs) (w ∷ ws) [] one two = absurd two
more_tried (lanes.Core v ∷ vs) (lanes.App w ∷ ws) (u ∷ us) one two = absurd one.0
more_tried (lanes.App v ∷ vs) (lanes.Core w ∷ ws) (u ∷ us) one two = absurd one.0
more_tried (lanes.Core v ∷ vs) (lanes.Core w ∷ ws) (lanes.App u ∷ us) one two = absurd two.0
more_tried (lanes.App v ∷ vs) (lanes.App w ∷ ws) (lanes.Core u ∷ us) one two = absurd two.0
more_tried (lanes.Core v ∷ vs) (lanes.Core w ∷ ws) (lanes.Core u ∷ us) one two =
    (two.0 ∙ one.0, more_tried vs ws us one.1 two.1)
more_tried (lanes.App v ∷ vs) (lanes.App w ∷ ws) (lanes.App u ∷ us) one two = (
  two.0 ∙ ap (λ (y : AppLane). record y { socket = u.socket; attempt = u.attempt; answer = u.answer }) one.0,
  more_tried vs ws us one.1 two.1,
)

pub trying_sets : (app : ℕ) (id : FlowId) (call : CallIn) (before after : Staffed) → IsTrying app id call before after
    → AreTriesSet before after
trying_sets app id call before after is = record {
  tries = subst (AreButTried before.lanes) (sym is.lanes)
      (one_tried is.lane (record (is.lane) { socket = is.socket; attempt = is.attempt }) refl before.lanes is.place
      is.own.there);
  sound = is.sound;
  same = is.same;
}

pub taken_sets : (app : ℕ) (answer : Option Answer) (before after : Staffed) → IsAnswerTaken app answer before after
    → AreTriesSet before after
taken_sets app answer before after is = record {
  tries = subst (AreButTried before.lanes) (sym is.lanes)
      (one_tried is.lane (record (is.lane) { attempt = attempts.Nothing; answer = answers.Nothing }) refl before.lanes
      is.place is.own.there);
  sound = is.sound;
  same = is.same;
}

pub both_set : (before between after : Staffed) → AreTriesSet before between → AreTriesSet between after
    → AreTriesSet before after
both_set before between after one two = record {
  tries = more_tried before.lanes between.lanes after.lanes one.tries two.tries;
  sound = two.sound;
  same = two.same ∙ ap (λ (h : Staffed). record h { lanes = after.lanes }) one.same;
}
