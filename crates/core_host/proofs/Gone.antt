-- A kill as a whole: for the answer for `CoreHost::kill`.
use Rattle.std.proofs.Common.{◌≡◌, ◌<◌, ℕ, zero, suc, drop, get_or, ◌+◌, ◌-◌, ◌==◌, not, Bool, true, false, List, []}
use Rattle.std.proofs.Common.{◌∷◌, ◌++◌, map, length, refl, sym, ap, ◌∙◌, subst, arith}
use Rattle.std.specs.Prelude.{Option, Some, None, position, remove, slice_get}
use Rattle.std.specs.List.{filter}
use Rattle.std.specs.Option.{option_map}
use Rattle.tas_model.specs.declared.entry.FlowId.{FlowId}
use Rattle.flow_lock.specs.Passes.{Seen}
use Rattle.host_books.specs.Books.{Book, live_in}
use Rattle.host_rounds.specs.Hosts.{Host, Live}
use Rattle.host_rounds.specs.Lists.{Each}
use Rattle.host_rounds.proofs.Lists.{each_append}
use Rattle.slow_handshake.specs.Openings.{is_owned_by}
use Rattle.slow_handshake.specs.declared.openings.Listener.{Listener}
use Rattle.slow_rounds.specs.Aborting.{given_up_by, left_alone}
use Rattle.slow_worker.specs.Clocks.{served_in}
use Rattle.slow_worker.specs.Kicking.{CanKick}
use Rattle.slow_worker.specs.Workers.{Worker, HasSenders}
use Rattle.atomic_table.specs.Seated.{TableId}
use Rattle.app_reaper.specs.Holding.{IsEndedAlone}
use Rattle.app_reaper.specs.declared.ended.Ended.{Ended}
use Rattle.core_phase.specs.Lanes.{IsIdle}
use Rattle.core_phase.specs.declared.lane.AppLane.{AppLane}
use Rattle.core_phase.specs.declared.lane.Lane.{Lane}
use Rattle.core_phase.specs.declared.lane.Lane.TheVariants as lanes
use Rattle.libtas_sockets.specs.Apps.{Application}
use Rattle.libtas_sockets.specs.Ending.{newest}
use Rattle.sound_calls.specs.Handing.{after_kill}
use Rattle.sound_hosts.specs.Hosts.{CoreHost, host_of, listener_of}
use Rattle.sound_hosts.specs.Leaving.{books_left}
use Rattle.sound_hosts.specs.Moving.{with_slow}
use Rattle.sound_hosts.specs.Sound.{IsHostSound}
use Rattle.sound_hosts.proofs.Lengths.{left_length}
use Rattle.sound_hosts.proofs.Sweeping.{firsts, lasts}
use Rattle.slow_rounds.proofs.Slots.{position_here, position_past}
use Rattle.sound_phases.specs.Phased.{apps_in}
use Rattle.core_host.specs.Alone.{MayHand, OnApp}
use Rattle.core_host.specs.Asking.{lane_at}
use Rattle.scenario_runs.specs.Applications.{aborted_where, is_concerned}
use Rattle.core_host.specs.Kills.{HasAbortedWaiting, IsEndedAndReaped, IsKilled}
use Rattle.asked_host.specs.Kills.{without_app}
use Rattle.core_host.specs.Sound.{AreApps, AreStaff, IsResting, IsStaffSound}
use Rattle.core_host.specs.Views.{Staffed, seen_by}
use Rattle.core_host.proofs.Acting as acting
use Rattle.core_host.proofs.Acting.{IsKept, apps_are, idle}
use Rattle.core_host.proofs.Calling.{is_app}
use Rattle.core_host.proofs.Dying.{all_agree, unheard, unheard_in_run, unheard_sound}
use Rattle.core_host.proofs.Killed.{killed_with_baton}
use Rattle.core_host.proofs.Answering.{read_of}
use Rattle.core_host.proofs.Lanes.{IsLaneAt, lane_there}

-- ----- lanes of which one is gone
remove_middle : {X : Type 0} (front : List X) (x : X) (back : List X)
    → remove (front ++ x ∷ back) (length front) ≡ front ++ back
remove_middle [] x back = refl
remove_middle (y ∷ ys) x back = ap (λ l. y ∷ l) (remove_middle ys x back)

each_less : {X : Type 0} (P : X → Type 0) (front : List X) (x : X) (back : List X) → Each P (front ++ x ∷ back)
    → Each P (front ++ back)
each_less P [] x back each = each.1
each_less P (y ∷ ys) x back each = (each.0, each_less P ys x back each.1)

apps_append : (front back : List Lane) → apps_in (front ++ back) ≡ apps_in front ++ apps_in back
apps_append [] back = refl
apps_append (lanes.Core l ∷ front) back = apps_append front back
apps_append (lanes.App l ∷ front) back = ap (λ x. l.app ∷ x) (apps_append front back)

apps_less : (names : List ℕ) (ls : List Lane) (k : ℕ) → AreApps names ls → k < length names
    → AreApps (remove names k) (remove ls k)
apps_less [] ls k are near = absurd (omega (arith, near))
apps_less (n ∷ ns) [] k are near = absurd are
apps_less (n ∷ ns) (lanes.Core l ∷ ls) k are near = absurd are
apps_less (n ∷ ns) (lanes.App l ∷ ls) zero are near = are.1
apps_less (n ∷ ns) (lanes.App l ∷ ls) (suc k) are near = (are.0, apps_less ns ls k are.1 (omega (arith, near)))

staff_less : (n first : ℕ) (names : List ℕ) (ls : List Lane) (k : ℕ) → AreStaff n first names ls → k < length names
    → AreStaff n first (remove names k) (remove ls (n + k))
staff_less zero first names ls k are near =
    let none : 0 + k ≡ k = omega arith in
    subst (λ j. AreApps (remove names k) (remove ls j)) (sym none) (apps_less names ls k are near)
staff_less (suc n) first names [] k are near = absurd are
staff_less (suc n) first names (lanes.App l ∷ ls) k are near = absurd are
staff_less (suc n) first names (lanes.Core l ∷ ls) k are near =
    let same : suc (n + k) ≡ suc n + k = omega arith in
    subst (λ j. AreStaff (suc n) first (remove names k) (remove (lanes.Core l ∷ ls) j)) same
    (are.0, staff_less n (suc first) names ls k are.1 near)

-- ----- sockets that are given up one after the other
pub drop_next : (fs : List FlowId) (n : ℕ) (f : FlowId) → slice_get fs n ≡ Some f → drop n fs ≡ f ∷ drop (n + 1) fs
drop_next [] n f e = absurd (cc (e))
drop_next (g ∷ fs) zero f e = ap (λ x. x ∷ fs) (same g f e)
  where
    same : (x y : FlowId) → ◌≡◌ {A = Option FlowId} (Some x) (Some y) → x ≡ y
    same x y q = cc (q)
drop_next (g ∷ fs) (suc n) f e =
    drop_next fs n f e ∙ ap (λ k. f ∷ drop k (g ∷ fs)) (let one : suc (n + 1) ≡ suc n + 1 = omega arith in one)

-- ----- where it runs
none_some : (k : ℕ) → ◌≡◌ {A = Option ℕ} None (Some k) → ⊥
none_some k e = absurd (cc (e))

some_is : (j k : ℕ) → ◌≡◌ {A = Option ℕ} (Some j) (Some k) → j ≡ k
some_is j k e = cc (e)

pub runs_at : (n at : ℕ) (o : Option ℕ) → lane_at n o ≡ Some at → (k : ℕ) × (o ≡ Some k) × (n + k ≡ at)
runs_at n at None e = absurd (none_some at e)
runs_at n at (Some k) e = (k, refl, some_is (n + k) at e)

pub near_name : (p : ℕ → Bool) (names : List ℕ) (k : ℕ) → position p names ≡ Some k → k < length names
near_name p [] k e = absurd (none_some k e)
near_name p (n ∷ ns) k e = by (p n) refl (λ j q. near_name p ns j q)
  where
    behind : ((j : ℕ) → position p ns ≡ Some j → j < length ns) → (o : Option ℕ) → position p ns ≡ o
        → option_map (λ i. 1 + i) o ≡ Some k → k < length (n ∷ ns)
    behind rest None q f = absurd (none_some k f)
    behind rest (Some j) q f =
        let one : 1 + j ≡ k = some_is (1 + j) k f in
        let less : j < length ns = rest j q in
        omega (arith, one, less)

    by : (t : Bool) → p n ≡ t → ((j : ℕ) → position p ns ≡ Some j → j < length ns) → k < length (n ∷ ns)
    by true q rest =
        let zero_is : 0 ≡ k = some_is 0 k (sym (position_here p n ns q) ∙ e) in omega (arith, zero_is)
    by false q rest = behind rest (position p ns) refl (sym (position_past p n ns q) ∙ e)

-- the lane that is taken out
pub lane_out : (ls : List Lane) (at app : ℕ) (own : IsLaneAt ls at app) (l : Lane) → slice_get ls at ≡ Some l
    → l ≡ lanes.App own.lane
lane_out ls at app own l e =
    same (lanes.App own.lane) l (sym (there own.front) ∙ ((λ i. slice_get (sym own.is i) (own.long i)) ∙ e))
  where
    same : (x y : Lane) → ◌≡◌ {A = Option Lane} (Some x) (Some y) → y ≡ x
    same x y q = cc (q)

    there : (fs : List Lane) → slice_get (fs ++ lanes.App own.lane ∷ own.back) (length fs) ≡ Some (lanes.App own.lane)
    there [] = refl
    there (f ∷ fs) = there fs

-- ----- the whole
module _ (h : Staffed) (sound : IsStaffSound h) (app tick k : ℕ) (runs : position (λ (n : ℕ). n == app) h.names ≡ Some
    k)
    (near : k < length h.names) (own : IsLaneAt h.lanes (h.cores + k) app) (holding : Bool) (v w x : Worker)
    (waited : HasAbortedWaiting app tick h.host v) (rest : w ≡ record v { pass = w.pass })
    (gone : IsEndedAndReaped h.shared.table tick holding own.lane.app v.pass w.pass)
    (unheard_ : x ≡ record w {
      path = record (w.path) { listeners = filter (λ (l : Listener). not (is_owned_by app l)) w.path.listeners };
    })
    (books : List Book) (left : books ≡ books_left own.lane.app.number own.lane.app.sockets h.host.books) where
  abbrev a : Application
  a = own.lane.app

  abbrev front : List Application
  front = acting.front h (h.cores + k) app sound own

  abbrev back : List Application
  back = acting.back h (h.cores + k) app sound own

  ended_sound : IsHostSound (after_kill front own.lane.app back w.pass (with_slow v h.host))
      × (host_of (left_alone own.lane.app w.pass (with_slow v h.host))
      ≡ record (host_of (with_slow v h.host)) {
        flows = map (given_up_by own.lane.app.number tick) (host_of (with_slow v h.host)).flows;
      })
  ended_sound =
      killed_with_baton (with_slow v h.host) front own.lane.app back tick waited.sound
      (apps_are h (h.cores + k) app sound own) (is_app h (h.cores + k) app sound own)
      (idle h (h.cores + k) app sound own).1.slow (idle h (h.cores + k) app sound own).1.baton gone.0 w.pass
      (subst (λ (t : TableId). IsEndedAlone t gone.0) (sym sound.table) gone.1) gone.3 gone.4 holding
      (newest own.lane.app.sockets) refl gone.2

  -- the worker in the end
  abbrev last : Worker
  last = record (h.host.slow) {
    pass = w.pass;
    path = record (h.host.slow.path) {
      flows = v.path.flows;
      listeners = filter (λ (l : Listener). not (is_owned_by app l)) h.host.slow.path.listeners;
    };
  }

  from_v : x ≡ record v {
    pass = w.pass;
    path = record (v.path) { listeners = filter (λ (l : Listener). not (is_owned_by app l)) v.path.listeners };
  }
  from_v = unheard_ ∙ ap (λ (y : Worker). record y {
    path = record (y.path) { listeners = filter (λ (l : Listener). not (is_owned_by app l)) y.path.listeners };
  }) rest

  is_last : x ≡ last
  is_last = from_v ∙ ap (λ (y : Worker). record y {
    pass = w.pass;
    path = record (y.path) { listeners = filter (λ (l : Listener). not (is_owned_by app l)) y.path.listeners };
  }) waited.rest

  kept : IsKept h.host.slow x
  kept = record {
    check_sums = ap (λ (y : Worker). y.check_sums) is_last;
    senders = ap (λ (y : Worker). y.senders) is_last;
    kickers = ap (λ (y : Worker). y.kickers) is_last;
    time = ap (λ (y : Worker). y.time) is_last;
    filed = ap (λ (y : Worker). y.filed) is_last;
  }

  abbrev later : List Lane
  later = own.front ++ own.back

  lanes_are : remove h.lanes (h.cores + k) ≡ own.front ++ own.back
  lanes_are =
      (λ i. remove (own.is i) (sym own.long i)) ∙ remove_middle own.front (lanes.App own.lane) own.back

  abbrev after_host : CoreHost
  after_host = record (h.host) { slow = x; apps = apps_in (own.front ++ own.back); books = books }

  host_sound : IsHostSound after_host
  host_sound =
      subst IsHostSound (λ i. record (h.host) {
        slow = sym from_v i;
        apps = sym (apps_append own.front own.back) i;
        books = sym left i;
      }) (unheard_sound (after_kill front own.lane.app back w.pass (with_slow v h.host)) app ended_sound.0)

  opened : x.pass.view.opened ≡ length books
  opened =
      ap (λ (y : Worker). y.pass.view.opened) is_last
      ∙ (ap (λ (s : Seen). s.view.opened) gone.4.2
      ∙ (waited.opened
      ∙ (sound.counted
      ∙ (sym (left_length own.lane.app.number own.lane.app.sockets h.host.books) ∙ ap length (sym left)))))

  each_of : (P : Lane → Type 0) → Each P h.lanes → Each P (own.front ++ own.back)
  each_of P each = each_less P own.front (lanes.App own.lane) own.back (subst (Each P) own.is each)

  after_sound : IsStaffSound (record h { host = after_host; lanes = own.front ++ own.back; names = remove h.names k })
  after_sound = record {
    host = host_sound;
    counted = opened;
    table = sound.table;
    senders = subst (λ s. HasSenders h.shared (record (h.host.slow) { senders = s })) (sym kept.senders) sound.senders;
    kickers = subst (CanKick h.shared) (sym kept.kickers) sound.kickers;
    timed = λ t. ap (served_in t) kept.time ∙ sound.timed t;
    some = sound.some;
    steer = sound.steer;
    apps = refl;
    staff = subst (AreStaff h.cores 0 (remove h.names k)) lanes_are
        (staff_less h.cores 0 h.names h.lanes k sound.staff near);
    idle = each_of (IsIdle h.shared) sound.idle;
    resting = subst (λ (c : Bool). Each (IsResting c) (own.front ++ own.back)) (sym kept.check_sums)
        (each_of (IsResting h.host.slow.check_sums) sound.resting);
    room = sound.room;
  }

  flows_are : map (live_in w.pass.view.base) books
      ≡ map (λ (l : Live). aborted_where (is_concerned app (host_of h.host) l) tick l) (host_of h.host).flows
  flows_are =
      ap (map (live_in w.pass.view.base)) left
      ∙ (ap (λ (y : Host). y.flows) ended_sound.1
      ∙ (ap (λ n. map (given_up_by n tick) (host_of (with_slow v h.host)).flows) own.named
      ∙ (ap (map (given_up_by app tick)) waited.made
      ∙ all_agree app tick (host_of h.host) h.host.slow.path.listeners refl (host_of h.host).flows)))

  made : host_of after_host ≡ without_app app tick (host_of h.host)
  made =
      (λ i. record {
        params = (is_last i).path.params;
        listeners = map listener_of (is_last i).path.listeners;
        log = (is_last i).log;
        flows = map (live_in (is_last i).pass.view.base) books;
      })
      ∙ λ i. record {
        params = h.host.slow.path.params;
        listeners = unheard_in_run app h.host.slow.path.listeners i;
        log = h.host.slow.log;
        flows = flows_are i;
      }

  pub killed : (ls : List Lane) → ls ≡ remove h.lanes (h.cores + k) → IsKilled app tick h (record h {
    host = record (h.host) { slow = x; apps = apps_in ls; books = books };
    lanes = ls;
    names = remove h.names k;
  })
  killed ls are =
      subst (λ l. IsKilled app tick h (record h {
        host = record (h.host) { slow = x; apps = apps_in l; books = books };
        lanes = l;
        names = remove h.names k;
      })) (sym (are ∙ lanes_are)) (record {
        made = made;
        sound = after_sound;
        place = k;
        runs = runs;
        names = refl;
        lanes = sym lanes_are;
        same = refl;
        time = kept.time;
        filed = kept.filed;
      })

-- ----- by the place of its lane
pub killed_at : (h : Staffed) (sound : IsStaffSound h) (app tick at : ℕ)
    → lane_at h.cores (position (λ (n : ℕ). n == app) h.names) ≡ Some at → (holding : Bool) (v w x : Worker)
    → HasAbortedWaiting app tick h.host v → w ≡ record v { pass = w.pass } → (lane : Lane)
    → lane ≡ get_or h.lanes at lane → (table : TableId) → table ≡ h.shared.table
    → OnApp (λ (l : AppLane). IsEndedAndReaped table tick holding l.app v.pass w.pass) lane
    → x ≡ record w {
      path = record (w.path) { listeners = filter (λ (l : Listener). not (is_owned_by app l)) w.path.listeners };
    }
    → (books : List Book)
    → OnApp (λ (l : AppLane). books ≡ books_left l.app.number l.app.sockets h.host.books) lane
    → (ls : List Lane) → ls ≡ remove h.lanes at → (ns : List ℕ) → ns ≡ remove h.names (at - h.cores)
    → IsKilled app tick h (record h {
      host = record (h.host) { slow = x; apps = apps_in ls; books = books };
      lanes = ls;
      names = ns;
    })
killed_at h sound app tick at there holding v w x waited rest lane value table same ended unheard_ books left ls are ns
    names_are =
    by (runs_at h.cores at (position (λ (n : ℕ). n == app) h.names) there)
  where
    by : (k : ℕ) × (position (λ (n : ℕ). n == app) h.names ≡ Some k) × (h.cores + k ≡ at)
        → IsKilled app tick h (record h {
          host = record (h.host) { slow = x; apps = apps_in ls; books = books };
          lanes = ls;
          names = ns;
        })
    by (k, runs, is) =
        let near : k < length h.names = near_name (λ (n : ℕ). n == app) h.names k runs in
        let own : IsLaneAt h.lanes (h.cores + k) app =
        subst (λ j. IsLaneAt h.lanes j app) (sym is) (lane_there h.cores h.names h.lanes at app sound.staff there) in
        let own_lane : lane ≡ lanes.App own.lane =
        read_of h.lanes (h.cores + k) app own lane (value ∙ ap (λ j. get_or h.lanes j lane) (sym is)) in
        let place : at - h.cores ≡ k = omega (arith, is) in
        subst (λ (l : List ℕ). IsKilled app tick h (record h {
          host = record (h.host) { slow = x; apps = apps_in ls; books = books };
          lanes = ls;
          names = l;
        })) (sym (names_are ∙ ap (remove h.names) place))
        (killed h sound app tick k runs near own holding v w x waited rest
        (subst (λ t. IsEndedAndReaped t tick holding own.lane.app v.pass w.pass) same
        (subst (OnApp (λ (l : AppLane). IsEndedAndReaped table tick holding l.app v.pass w.pass)) own_lane ended))
        unheard_ books
        (subst (OnApp (λ (l : AppLane). books ≡ books_left l.app.number l.app.sockets h.host.books)) own_lane left)
        ls (are ∙ ap (remove h.lanes) (sym is)))

-- the application may have the baton when the flows that waited were aborted
pub may_end : (h : Staffed) (sound : IsStaffSound h) (app tick at : ℕ) (own : IsLaneAt h.lanes at app) (v : Worker)
    → HasAbortedWaiting app tick h.host v → (table : TableId) → table ≡ h.shared.table
    → MayHand table own.lane.app v.pass
may_end h sound app tick at own v waited table same = subst (λ t. MayHand t own.lane.app v.pass) (sym same) (record {
  own = (idle h at app sound own).1.table;
  slow_own = waited.sound.sound.0.ready.0 ∙ sound.table;
  turns = (idle h at app sound own).1.turns;
  baton = (idle h at app sound own).1.baton;
  alone = waited.sound.alone;
  idle = waited.sound.sound.0.ready.2;
})
