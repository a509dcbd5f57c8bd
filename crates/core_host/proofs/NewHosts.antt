-- A host that was put together is sound: for the answers for `CoreHost::new`.
use Rattle.std.proofs.Common.{◌≡◌, ◌<◌, ◌≤◌, ◌+◌, ◌==◌, ℕ, zero, suc, Bool, true, false, cond, List, [], ◌∷◌, map}
use Rattle.std.proofs.Common.{length}
use Rattle.std.proofs.Common.{refl, sym, ap, ◌∙◌, subst, arith, inr, count_by}
use Rattle.std.proofs.lemmas.Bool.Decides.{nat_tests}
use Rattle.std.specs.Prelude.{fold, Some, None, slice_get, replicate}
use Rattle.atomic_table.specs.Seated.{TableId}
use Rattle.tas_model.specs.Valid.{InRange}
use Rattle.tas_model.specs.declared.entry.HostParams.{HostParams}
use Rattle.host_rounds.specs.Lists.{Each}
use Rattle.host_books.specs.Books.{Book}
use Rattle.flow_lock.specs.Orders.{total, at_slot}
use Rattle.flow_lock.specs.Steps.{mark}
use Rattle.flow_lock.specs.Words.{dead_word}
use Rattle.flow_lock.specs.declared.view.Mark.{Mark}
use Rattle.flow_clock.specs.Ledgers as clock
use Rattle.slow_handshake.specs.Openings.{Openings}
use Rattle.steering.specs.Tables.{Sight}
use Rattle.core_worker.specs.Telling.{IsOwnSender}
use Rattle.core_worker.specs.Workers as cores
use Rattle.core_worker.specs.Workers.{Common}
use Rattle.shared_host.specs.Cores.{AreNumbered, AreTurned, IsNew}
use Rattle.shared_host.specs.SlowPaths.{IsNewSlow}
use Rattle.slow_worker.specs.Kicking.{CanKick}
use Rattle.slow_worker.specs.Clocks.{served_in}
use Rattle.slow_worker.specs.Workers as slow
use Rattle.slow_worker.specs.Workers.{Worker}
use Rattle.slow_worker.specs.declared.known.KnownFlow.{KnownFlow}
use Rattle.libtas_sockets.specs.Apps.{Application}
use Rattle.core_phase.specs.declared.lane.Lane.{Lane}
use Rattle.sound_hosts.specs.Sound as sound
use Rattle.sound_hosts.specs.Sound.{IsNewHost, without_flows}
use Rattle.sound_hosts.specs.Hosts.{listener_of}
use Rattle.sound_hosts.proofs.New.{new_sound}
use Rattle.sound_phases.specs.Phased.{apps_in}
use Rattle.core_host.specs.Sound.{IsStaffSound, IsResting}
use Rattle.core_host.specs.Staffing.{AreRising, IsHired, AreNewApps, new_host}
use Rattle.core_host.specs.Staffing.{IsAssembled, IsNewCore}
use Rattle.core_host.specs.Views.{Staffed, seen_by}

-- ----- applications
each_new : (t : TableId) (ns : List ℕ) (xs : List Application) → AreNewApps t ns xs → Each (sound.IsNewApp t) xs
each_new t [] xs are = subst (Each (sound.IsNewApp t)) (sym are) tt
each_new t (n ∷ ns) [] are = absurd are
each_new t (n ∷ ns) (a ∷ xs) are =
    let new = are.0 in (
      record { own = new.table; turns = new.turns; begun = new.begun; sockets = new.sockets },
      each_new t ns xs are.1,
    )

abbrev has_number : ℕ → Application → Bool
has_number n a = a.number == n

-- no application behind has a number up to this one: none is counted
abbrev step : ℕ → ℕ → Application → ℕ
step n k a = k + cond {A = ℕ} (has_number n a) 1 0

none_counted : (t : TableId) (n k : ℕ) (ns : List ℕ) (xs : List Application) → Each (λ later. n < later) ns
    → AreNewApps t ns xs → fold (step n) k xs ≡ k
none_counted t n k [] xs later are = ap (λ (l : List Application). fold (step n) k l) are
none_counted t n k (m ∷ ns) [] later are = absurd are
none_counted t n k (m ∷ ns) (a ∷ xs) later are = by (a.number == n) refl (none_counted t n k ns xs later.1 are.1)
  where
    by : (s : Bool) → (a.number == n) ≡ s → fold (step n) k xs ≡ k
        → fold (step n) (k + cond {A = ℕ} (a.number == n) 1 0) xs ≡ k
    by true e rest =
        let low : n < m = later.0 in
        let is : a.number ≡ m = are.0.number in absurd (grind (arith, nat_tests, e, low, is))
    by false e rest =
        let on : k + 0 ≡ k = omega arith in
        ap (λ (s : Bool). fold (step n) (k + cond {A = ℕ} s 1 0) xs) e
        ∙ (ap (λ (j : ℕ). fold (step n) j xs) on ∙ rest)

once_each : (t : TableId) (n : ℕ) (ns : List ℕ) (xs : List Application) → AreRising ns → AreNewApps t ns xs
    → count_by (has_number n) xs ≤ 1
once_each t n [] xs rising are =
    let e : count_by (has_number n) xs ≡ 0 = ap (count_by (has_number n)) are in omega (arith, e)
once_each t n (m ∷ ns) [] rising are = absurd are
once_each t n (m ∷ ns) (a ∷ xs) rising are = by (a.number == n) refl (once_each t n ns xs rising.1 are.1)
  where
    by : (s : Bool) → (a.number == n) ≡ s → count_by (has_number n) xs ≤ 1 → count_by (has_number n) (a ∷ xs) ≤ 1
    by true e rest =
        let is : a.number ≡ m = are.0.number in
        let same : m ≡ n = grind (arith, nat_tests, e, is) in
        let none : fold (step n) 1 xs ≡ 1 =
        ap (λ (k : ℕ). fold (step k) 1 xs) (sym same) ∙ none_counted t m 1 ns xs rising.0 are.1 in
        let one : 1 ≤ 1 = omega arith in
        rw (e, count_by) (subst (λ (k : ℕ). k ≤ 1) (sym none) one)
    by false e rest = rw (e, count_by) rest

-- ----- marks
unmarked : (n slot : ℕ) (x m : Mark) → slice_get (replicate n x) slot ≡ Some m → m ≡ x
unmarked zero slot x m at = absurd (cc (at))
unmarked (suc n) zero x m at = cc (at)
unmarked (suc n) (suc slot) x m at = unmarked n slot x m at

length_replicate : {A : Type 0} (n : ℕ) (x : A) → length (replicate n x) ≡ n
length_replicate zero x = refl
length_replicate (suc n) x = ap suc (length_replicate n x)

-- ----- a host that was just assembled
new_core : (host : ℕ) (v : cores.Worker) → IsNew host v → IsNewCore v
new_core host v new = (
  ap (λ (x : cores.Worker). x.frames) new,
  ap (λ (x : cores.Worker). x.exceptions) new,
  ap (λ (x : cores.Worker). x.deferred) new,
  ap (λ (x : cores.Worker). x.log) new,
  ap (λ (x : cores.Worker). x.check_sums) new,
)

new_cores : (host : ℕ) (vs : List cores.Worker) → Each (IsNew host) vs → Each IsNewCore vs
new_cores host [] new = tt
new_cores host (v ∷ vs) new = (new_core host v new.0, new_cores host vs new.1)

pub assembled : (params : HostParams) (host n : ℕ) (c : Common) (w : Worker) (vs : List cores.Worker) → n ≤ 16
    → IsNewSlow params c.table n 0 w → CanKick c w.kickers → c.table.slots ≡ params.slots → length vs ≡ n
    → AreNumbered 0 vs → AreTurned 1 vs → Each (IsNew host) vs → Each (cores.IsFree c) vs
    → Each (cores.HasQueue c) vs → Each (cores.HasSenders c) vs → IsAssembled params n c w vs
assembled params host n c w vs few new can slots count numbers turned fresh free queues senders = record {
  slow = record {
    path = ap (λ (s : slow.Sight). s.path) new.sight;
    slots = sym slots;
    table = ap (λ (s : slow.Sight). s.pass.table) new.sight;
    unused = record {
      slow = ap (λ (s : slow.Sight). s.pass.view.slow) new.sight;
      baton = ap (λ (s : slow.Sight). s.pass.view.baton) new.sight;
      pins = ap (λ (s : slow.Sight). s.pass.view.pins) new.sight;
      held = ap (λ (s : slow.Sight). s.pass.view.held) new.sight;
      marks = ap (λ (s : slow.Sight). s.pass.view.marks) new.sight;
      opened = ap (λ (s : slow.Sight). s.pass.view.opened) new.sight;
      base = ap (λ (s : slow.Sight). s.pass.view.base) new.sight;
      wide = ap (λ (s : slow.Sight). length s.pass.view.words) new.sight
          ∙ length_replicate c.table.slots (dead_word 0);
      parts = ap (λ (s : slow.Sight). s.pass.view.parts + n) new.sight ∙ omega arith;
    };
    pins = ap (λ (s : slow.Sight). s.pins) new.sight;
    doomed = ap (λ (s : slow.Sight). s.doomed) new.sight;
    filed = new.filed;
    flows = ap (λ (s : slow.Sight). s.flows) new.sight;
    waiting = new.waiting;
    pending = ap (λ (s : slow.Sight). s.index.pending) new.sight;
    published = ap (λ (s : slow.Sight). s.index.published) new.sight;
    log = ap (λ (s : slow.Sight). s.log) new.sight;
    time = new.time;
    check_sums = new.check_sums;
    senders = subst (Each (IsOwnSender c.queues)) (sym (ap (λ (s : slow.Sight). s.senders) new.sight)) tt;
    kickers = can;
  };
  turns = ap (λ (s : slow.Sight). s.pass.view.turns) new.sight;
  made = ap (λ (s : slow.Sight). s.pass.view.made) new.sight;
  count = count;
  numbers = numbers;
  turned = turned;
  new = new_cores host vs fresh;
  free = free;
  queues = queues;
  senders = senders;
}

-- ----- the host
module _ (params : HostParams) (n : ℕ) (names : List ℕ) (c : Common) (w : Worker) (ls : List Lane) (ranges : InRange
    params)
    (hired : IsHired params n names c w ls) (rising : AreRising names) where
  kept : slow.AreKept c.table w.pass w.doomed w.pins w.flows
  kept = record {
    ready = (hired.slow.table, inr hired.alone, hired.slow.unused.held);
    owned = record {
      each_doomed = subst (Each (clock.IsKept c.table.slots w.pass)) (sym hired.slow.doomed) tt;
      each_pin = subst (Each (clock.IsKept c.table.slots w.pass)) (sym hired.slow.pins) tt;
      once = λ i.
          let d : total (at_slot i) w.doomed ≡ 0 = ap (total (at_slot i)) hired.slow.doomed in
          let p : total (at_slot i) w.pins ≡ 0 = ap (total (at_slot i)) hired.slow.pins in
          omega (arith, d, p);
    };
    known = λ k f at.
        let here : None ≡ Some f = ap (λ (l : List KnownFlow). slice_get l k) (sym hired.slow.flows) ∙ at in
        absurd (cc (here));
  }

  new : IsNewHost c.table w (apps_in ls)
  new = record {
    alone = hired.alone;
    slow_pass = hired.slow.unused.slow;
    waits_not = hired.slow.waiting;
    sound = (kept, subst (λ (o : Openings). InRange o.params) (sym hired.slow.path) ranges);
    slots = ap (λ (o : Openings). o.params.slots) hired.slow.path ∙ hired.slow.slots;
    wide = (
      ap length hired.slow.unused.marks ∙ length_replicate c.table.slots (mark 0 false false),
      hired.slow.unused.wide,
    );
    base = hired.slow.unused.base;
    unmarked = λ slot m at. unmarked c.table.slots slot (mark 0 false false) m
        (ap (λ ms. slice_get ms slot) (sym hired.slow.unused.marks) ∙ at);
    pins = hired.slow.pins;
    doomed = hired.slow.doomed;
    filed = hired.slow.filed;
    flows = hired.slow.flows;
    opening = ap (λ (o : Openings). o.flows) hired.slow.path;
    ports = ap (λ (o : Openings). o.ports) hired.slow.path;
    listeners = ap (λ (o : Openings). o.listeners) hired.slow.path;
    pending = hired.slow.pending;
    published = hired.slow.published;
    new_apps = each_new c.table names (apps_in ls) hired.apps;
    numbers = λ k. once_each c.table k names (apps_in ls) rising hired.apps;
  }

  abbrev pub new_staff : (steer : Sight) (room : ℕ) → Staffed
  new_staff steer room = record {
    host = without_flows c.table w (apps_in ls);
    shared = c;
    cores = n;
    steer = steer;
    lanes = ls;
    names = names;
    room = room;
  }

  pub staff_sound : (steer : Sight) (room : ℕ) → 0 < n → c.steering.cores ≡ n → steer.place ≡ c.steering
      → room ≡ 65536 → IsStaffSound (new_staff steer room)
  staff_sound steer room some cores place long = record {
    host = new_sound c.table w (apps_in ls) new;
    counted = hired.slow.unused.opened;
    table = refl;
    senders = hired.slow.senders;
    kickers = hired.slow.kickers;
    timed = λ t. ap (served_in t) hired.slow.time;
    some = (some, cores);
    steer = place;
    apps = refl;
    staff = hired.staff;
    idle = hired.idle;
    resting = subst (λ s. Each (IsResting s) ls) (sym hired.slow.check_sums) hired.resting;
    room = long;
  }

  pub staff_seen : (steer : Sight) (room : ℕ) → seen_by (new_staff steer room) ≡ new_host params
  staff_seen steer room =
      λ i. record {
        params = (hired.slow.path i).params;
        listeners = map listener_of (hired.slow.path i).listeners;
        log = hired.slow.log i;
        flows = [];
      }

  -- with books that are none, and names that are those
  pub sound_as : (steer : Sight) (room : ℕ) (bs : List Book) (ns : List ℕ) → bs ≡ [] → ns ≡ names
      → IsStaffSound (new_staff steer room)
      → IsStaffSound (record (new_staff steer room) {
        host = record (without_flows c.table w (apps_in ls)) { books = bs };
        names = ns;
      })
  sound_as steer room bs ns none same =
      subst IsStaffSound (λ i. record (new_staff steer room) {
        host = record (without_flows c.table w (apps_in ls)) { books = sym none i };
        names = sym same i;
      })

  pub seen_as : (steer : Sight) (room : ℕ) (bs : List Book) (ns : List ℕ) → bs ≡ [] → ns ≡ names
      → seen_by (record (new_staff steer room) {
        host = record (without_flows c.table w (apps_in ls)) { books = bs };
        names = ns;
      }) ≡ new_host params
  seen_as steer room bs ns none same =
      (λ i. seen_by (record (new_staff steer room) {
        host = record (without_flows c.table w (apps_in ls)) { books = none i };
        names = same i;
      })) ∙ staff_seen steer room
