-- A host that is put together: for the answers for what hires its cores and applications.
use Rattle.std.proofs.Common.{◌≡◌, ◌<◌, ◌+◌, ◌==◌, ℕ, zero, suc, Bool, true, false, List, [], ◌∷◌, ◌++◌}
use Rattle.std.proofs.Common.{append_assoc, append-nil, get_or, map, length, take, refl, sym, ap, ◌∙◌, subst, arith}
use Rattle.std.proofs.lemmas.Bool.Decides.{nat_tests}
use Rattle.std.proofs.lemmas.List.{take_more}
use Rattle.std.specs.Prelude.{Some, None, slice_get}
use Rattle.atomic_table.specs.Seated.{TableId}
use Rattle.tas_model.specs.declared.entry.HostParams.{HostParams}
use Rattle.host_rounds.specs.Lists.{Each}
use Rattle.flow_lock.specs.Orders.{Order}
use Rattle.flow_lock.specs.Passes.{Seen, left, new_turn, peeled}
use Rattle.flow_lock.specs.Plays.{IsOrdered, IsCounted}
use Rattle.flow_lock.specs.Steps.{HasAll, IsAlone}
use Rattle.flow_lock.specs.declared.view.Turn.{Turn}
use Rattle.flow_lock.specs.declared.view.View.{View}
use Rattle.core_worker.specs.Workers as cores
use Rattle.core_worker.specs.Workers.{Common}
use Rattle.core_worker.specs.Telling.{app_with, queue_of}
use Rattle.core_worker.specs.declared.senders.AppSender.{AppSender}
use Rattle.core_worker.specs.declared.shared.AppQueue.{AppQueue}
use Rattle.slow_worker.specs.Kicking.{CanKick}
use Rattle.slow_worker.specs.Workers.{Worker, HasSenders, waiting}
use Rattle.libtas_sockets.specs.Apps.{Application, with_view}
use Rattle.shared_host.specs.Applications.{split_from, new_app, with_queue, AreGiven}
use Rattle.shared_host.specs.Cores.{AreNumbered, AreTurned}
use Rattle.shared_host.specs.SlowPaths.{with_app}
use Rattle.core_phase.specs.Lanes.{IsIdle, IsIdleCore}
use Rattle.core_phase.specs.declared.lane.Lane.{Lane}
use Rattle.core_phase.specs.declared.lane.Lane.TheVariants as lanes
use Rattle.sound_phases.specs.Phased.{apps_in}
use Rattle.core_host.specs.Sound.{AreStaff, IsResting, IsUnasked, IsClear}
use Rattle.core_host.specs.Staffing.{IsUnused, IsNewWorker, new_turns, turns_of, IsNewCore, AreIdleCores, idle_as}
use Rattle.core_host.specs.Staffing.{IsAssembled, IsManned, AreAdded, IsHired, AreRising, IsNewApp, AreNewApps}
use Rattle.core_host.specs.Staffing.{IsLaneOf, IsLaneFor, AreLanesOf, AreLanesFor}
use Rattle.core_host.proofs.Turns.{all_there, learned_nothing}

-- ----- turns are taken back
turned_turns : (first : ℕ) (ws : List cores.Worker) → AreTurned first ws → turns_of ws ≡ new_turns first (length ws)
turned_turns first [] turned = refl
turned_turns first (w ∷ ws) turned =
    ap (λ ts. ts ++ turns_of ws) turned.0 ∙ ap (λ ts. new_turn first ∷ ts) (turned_turns (suc first) ws turned.1)

-- with those of the cores
pub cores_turns : (v : View) (s : Seen) (ws : List cores.Worker) → v.turns ≡ new_turn 0 ∷ [] → AreTurned 1 ws
    → s.view ≡ record v { turns = v.turns ++ turns_of ws } → s.view.turns ≡ new_turns 0 (suc (length ws))
cores_turns v s ws first turned is =
    ap (λ (x : View). x.turns) is
    ∙ (ap (λ ts. ts ++ turns_of ws) first ∙ ap (λ ts. new_turn 0 ∷ ts) (turned_turns 1 ws turned))

pub may_learn : (t : TableId) (s : Seen) (n : ℕ) → s.table ≡ t → s.view.baton ≡ true → s.view.turns ≡ new_turns 0 n
    → s.view.made ≡ n → (s.table ≡ t) × (s.view.baton ≡ true) × HasAll s.view
may_learn t s n table baton turns made = (table, baton, all_there s.view n turns made)

pub learned_alone : (order : Order) (v w : View) → IsOrdered order v w → v.baton ≡ true → IsAlone w
learned_alone order v w is baton = (
  ap (λ (x : View). x.baton) is.3 ∙ baton,
  ap (λ (x : View). x.turns) is.3,
  ap (λ (x : View). x.made) is.3,
)

-- the view before the turns came back was unused
pub learned_unused : (slots passes : ℕ) (order : Order) (u v w : View) (ts : List Turn) (n : ℕ) → IsUnused slots
    passes u
    → v ≡ record u { turns = ts } → v.turns ≡ new_turns 0 n → v.made ≡ n → IsOrdered order v w → IsCounted v w
    → IsUnused slots passes w
learned_unused slots passes order u v w ts n is back turns made ordered counted =
    let e : w ≡ record v { turns = []; made = 0; words = w.words } = learned_nothing order v w n turns made ordered in
    record {
      slow = ap (λ (x : View). x.slow) e ∙ (ap (λ (x : View). x.slow) back ∙ is.slow);
      baton = ap (λ (x : View). x.baton) e ∙ (ap (λ (x : View). x.baton) back ∙ is.baton);
      pins = ap (λ (x : View). x.pins) e ∙ (ap (λ (x : View). x.pins) back ∙ is.pins);
      held = ap (λ (x : View). x.held) e ∙ (ap (λ (x : View). x.held) back ∙ is.held);
      marks = ap (λ (x : View). x.marks) e ∙ (ap (λ (x : View). x.marks) back ∙ is.marks);
      opened = ap (λ (x : View). x.opened) e ∙ (ap (λ (x : View). x.opened) back ∙ is.opened);
      base = ap (λ (x : View). x.base) e ∙ (ap (λ (x : View). x.base) back ∙ is.base);
      wide = counted.3 ∙ (ap (λ (x : View). length x.words) back ∙ is.wide);
      parts = ap (λ (x : View). x.parts + passes) e ∙ (ap (λ (x : View). x.parts + passes) back ∙ is.parts);
    }

-- ----- cores
idle_core : (c : Common) (w : cores.Worker) → cores.IsFree c w → cores.HasQueue c w → cores.HasSenders c w
    → IsIdleCore c (idle_as w)
idle_core c w free queue senders = record {
  table = free.0.0;
  turns = refl;
  slow = free.0.2;
  baton = free.0.3;
  pins = free.1;
  held = free.2;
  queue = queue;
  senders = senders;
}

idle_cores : (c : Common) (first : ℕ) (ws : List cores.Worker) → AreNumbered first ws → Each IsNewCore ws
    → Each (cores.IsFree c) ws → Each (cores.HasQueue c) ws → Each (cores.HasSenders c) ws
    → AreIdleCores c first (map idle_as ws)
idle_cores c first [] numbers new free queues senders = tt
idle_cores c first (w ∷ ws) numbers new free queues senders = (
  numbers.0,
  idle_core c w free.0 queues.0 senders.0,
  new.0,
  idle_cores c (suc first) ws numbers.1 new.1 free.1 queues.1 senders.1,
)

-- what was written to the front of a list of its own length is the list
front : {X : Type 0} (new old : List X) → take (length new) (new ++ old) ≡ new
front [] old = refl
front {X} (x ∷ xs) old = ap (λ (l : List X). x ∷ l) (front xs old)

pub written : {X : Type 0} (new old : List X) (len : ℕ) → length new ≡ len → take len (new ++ old) ≡ new
written new old len is = subst (λ (n : ℕ). take n (new ++ old) ≡ new) is (front new old)

pub map_length : (ws : List cores.Worker) → length (map idle_as ws) ≡ length ws
map_length [] = refl
map_length (w ∷ ws) = ap suc (map_length ws)

new_with : (params : HostParams) (c : Common) (passes : ℕ) (w : Worker) (s : Seen) → IsNewWorker params c passes w
    → s.table ≡ w.pass.table → IsUnused c.table.slots passes s.view
    → IsNewWorker params c passes (record w { pass = s })
new_with params c passes w s is table unused = record {
  path = is.path;
  slots = is.slots;
  table = table ∙ is.table;
  unused = unused;
  pins = is.pins;
  doomed = is.doomed;
  filed = is.filed;
  flows = is.flows;
  waiting = is.waiting;
  pending = is.pending;
  published = is.published;
  log = is.log;
  time = is.time;
  check_sums = is.check_sums;
  senders = is.senders;
  kickers = record { steer = is.kickers.steer; cores = is.kickers.cores; own = is.kickers.own };
}

-- all cores rest
pub cores_rest : (params : HostParams) (n : ℕ) (c : Common) (v w : Worker) (s : Seen) (ws xs : List cores.Worker)
    → IsAssembled params n c v ws → w ≡ record v { pass = s } → s.table ≡ v.pass.table
    → ((slots passes : ℕ) → IsUnused slots passes v.pass.view → IsUnused slots passes s.view) → IsAlone s.view
    → xs ≡ map idle_as ws → IsManned params n n c w xs
cores_rest params n c v w s ws xs is same table unused alone rest =
    subst (λ (l : List cores.Worker). IsManned params n n c w l) (sym rest)
    (subst (λ (x : Worker). IsManned params n n c x (map idle_as ws)) (sym same) (record {
      slow = new_with params c n v s is.slow table (unused c.table.slots n is.slow.unused);
      alone = alone;
      cores = idle_cores c 0 ws is.numbers is.new is.free is.queues is.senders;
      count = map_length ws ∙ is.count;
    }))

-- ----- an application is added
pub given_length : (app : ℕ) (line : TableId) (number : ℕ) (ws vs : List cores.Worker)
    → AreGiven app line number (length ws) ws vs → length vs ≡ length ws
given_length app line number [] vs given = ap length given
given_length app line number (w ∷ ws) [] given = absurd given
given_length app line number (w ∷ ws) (v ∷ vs) given = ap suc (given_length app line (suc number) ws vs given.1)

pub manned_as : (params : HostParams) (n passes : ℕ) (c : Common) (v : Worker) (ws us : List cores.Worker) → us ≡ ws
    → IsManned params n passes c v ws → IsManned params n passes c v us
manned_as params n passes c v ws us same = subst (IsManned params n passes c v) (sym same)

-- as many passes were split off as were found to be few
pub still_few : (params qs : HostParams) (n m passes others : ℕ) (c : Common) (v : Worker)
    (ws us : List cores.Worker) → IsManned params n passes c v ws → IsManned qs m others c v us → others < 4096
    → passes < 4096
still_few params qs n m passes others c v ws us is other few =
    let a : v.pass.view.parts + passes ≡ 4097 = is.slow.unused.parts in
    let b : v.pass.view.parts + others ≡ 4097 = other.slow.unused.parts in
    omega (arith, a, b, few)

given_idle : (c d : Common) (app : ℕ) (line : TableId) (number first : ℕ) (ws vs : List cores.Worker)
    → AreGiven app line number (length ws) ws vs → d.table ≡ c.table → d.kicks ≡ c.kicks → AreIdleCores c first ws
    → Each (cores.HasSenders d) vs → AreIdleCores d first vs × (length vs ≡ length ws)
given_idle c d app line number first [] vs given table kicks idle senders =
    subst (λ l. AreIdleCores d first l × (length l ≡ 0)) (sym given) (tt, refl)
given_idle c d app line number first (w ∷ ws) [] given table kicks idle senders = absurd given
given_idle c d app line number first (w ∷ ws) (v ∷ vs) given table kicks idle senders =
    let more = given_idle c d app line (suc number) (suc first) ws vs given.1 table kicks idle.3 senders.1 in
    ((ap (λ (x : cores.Worker). x.core) given.0 ∙ idle.0, one, new, more.0), ap suc more.1)
  where
    one : IsIdleCore d v
    one = record {
      table = ap (λ (x : cores.Worker). x.pass.table) given.0 ∙ (idle.1.table ∙ sym table);
      turns = ap (λ (x : cores.Worker). x.pass.view.turns) given.0 ∙ idle.1.turns;
      slow = ap (λ (x : cores.Worker). x.pass.view.slow) given.0 ∙ idle.1.slow;
      baton = ap (λ (x : cores.Worker). x.pass.view.baton) given.0 ∙ idle.1.baton;
      pins = ap (λ (x : cores.Worker). x.pass.view.pins) given.0 ∙ idle.1.pins;
      held = ap (λ (x : cores.Worker). x.pass.view.held) given.0 ∙ idle.1.held;
      queue = subst (λ (x : cores.Worker). cores.HasQueue d x) (sym given.0)
          (subst (λ ks. cores.HasQueue (record c { kicks = ks }) w) (sym kicks) idle.1.queue);
      senders = senders.0;
    }

    new : IsNewCore v
    new = subst IsNewCore (sym given.0) idle.2

pub are_guests : (c : Common) (first : ℕ) (ws : List cores.Worker) → AreIdleCores c first ws
    → Each (cores.HasSenders c) ws
are_guests c first [] idle = tt
are_guests c first (w ∷ ws) idle = (idle.1.senders, are_guests c (suc first) ws idle.3)

-- ready for its turn to be taken back
pub added_ready : (params : HostParams) (n passes number : ℕ) (line : TableId) (sender : AppSender) (c d : Common)
    (v w : Worker) (ws : List cores.Worker) (a : Application) → IsManned params n passes c v ws
    → d ≡ with_queue number line c → w ≡ with_app sender v → a ≡ new_app number (split_from v.pass) a.notes
    → ((w.pass.table ≡ d.table) × (a.pass.table ≡ d.table))
    × ((w.pass.view.turns ≡ []) × (w.pass.view.made ≡ 1) × (a.pass.view.turns ≡ new_turn 0 ∷ []))
    × (w.pass.view.baton ≡ true)
added_ready params n passes number line sender c d v w ws a is queued given made = (
  (
    ap (λ (x : Worker). x.pass.table) given ∙ (is.slow.table ∙ ap (λ (x : Common). x.table) (sym queued)),
    ap (λ (x : Application). x.pass.table) made
        ∙ (is.slow.table ∙ ap (λ (x : Common). x.table) (sym queued)),
  ),
  (
    ap (λ (x : Worker). x.pass.view.turns) given ∙ is.alone.1,
    ap (λ (x : Worker). x.pass.view.made) given ∙ ap (λ k. k + 1) is.alone.2,
    ap (λ (x : Application). x.pass.view.turns) made ∙ ap (λ k. new_turn k ∷ []) is.alone.2,
  ),
  ap (λ (x : Worker). x.pass.view.baton) given ∙ is.alone.0,
)

split_unused : (slots passes : ℕ) (v : View) → IsUnused slots passes v → passes < 4096
    → IsUnused slots (1 + passes) (left v)
split_unused slots passes v is few = record {
  slow = is.slow;
  baton = is.baton;
  pins = is.pins;
  held = is.held;
  marks = is.marks;
  opened = is.opened;
  base = is.base;
  wide = is.wide;
  parts = let e : v.parts + passes ≡ 4097 = is.parts in omega arith;
}

pub added_manned : (params : HostParams) (n passes number : ℕ) (line : TableId) (sender : AppSender) (c d : Common)
    (v w x : Worker) (ws vs : List cores.Worker) (t : Seen) → IsManned params n passes c v ws → passes < 4096
    → d ≡ with_queue number line c → w ≡ with_app sender v → AreGiven number line 0 (length ws) ws vs
    → Each (cores.HasSenders d) vs → HasSenders d w → x ≡ record w { pass = t } → t.table ≡ w.pass.table
    → ((slots out : ℕ) → IsUnused slots out w.pass.view → IsUnused slots out t.view) → IsAlone t.view
    → IsManned params n (1 + passes) d x vs
added_manned params n passes number line sender c d v w x ws vs t is few queued given cores-given core-senders senders
    same table unused alone =
    subst (λ (y : Worker). IsManned params n (1 + passes) d y vs) (sym same) (record {
      slow = new_with params d (1 + passes) w t split table (unused d.table.slots (1 + passes) split.unused);
      alone = alone;
      cores = idle.0;
      count = idle.1 ∙ is.count;
    })
  where
    to : d.table ≡ c.table
    to = ap (λ (y : Common). y.table) queued

    idle : AreIdleCores d 0 vs × (length vs ≡ length ws)
    idle = given_idle c d number line 0 0 ws vs cores-given to (ap (λ (y : Common). y.kicks) queued) is.cores
        core-senders

    split : IsNewWorker params d (1 + passes) w
    split = record {
      path = ap (λ (y : Worker). y.path) given ∙ is.slow.path;
      slots = is.slow.slots ∙ ap (λ (y : TableId). y.slots) (sym to);
      table = ap (λ (y : Worker). y.pass.table) given ∙ (is.slow.table ∙ sym to);
      unused = subst (λ (y : Worker). IsUnused d.table.slots (1 + passes) y.pass.view) (sym given)
          (subst (λ (y : TableId). IsUnused y.slots (1 + passes) (left v.pass.view)) (sym to)
          (split_unused c.table.slots passes v.pass.view is.slow.unused few));
      pins = ap (λ (y : Worker). y.pins) given ∙ is.slow.pins;
      doomed = ap (λ (y : Worker). y.doomed) given ∙ is.slow.doomed;
      filed = ap (λ (y : Worker). y.filed) given ∙ is.slow.filed;
      flows = ap (λ (y : Worker). y.flows) given ∙ is.slow.flows;
      waiting = ap (λ (y : Worker). waiting y) given ∙ is.slow.waiting;
      pending = ap (λ (y : Worker). y.index.pending) given ∙ is.slow.pending;
      published = ap (λ (y : Worker). y.index.published) given ∙ is.slow.published;
      log = ap (λ (y : Worker). y.log) given ∙ is.slow.log;
      time = ap (λ (y : Worker). y.time) given ∙ is.slow.time;
      check_sums = ap (λ (y : Worker). y.check_sums) given ∙ is.slow.check_sums;
      senders = senders;
      kickers = subst (λ (y : Common). CanKick y w.kickers) (sym queued)
          (subst (λ (y : Worker). CanKick (with_queue number line c) y.kickers) (sym given) (record {
            steer = is.slow.kickers.steer;
            cores = is.slow.kickers.cores;
            own = is.slow.kickers.own;
          }));
    }

-- the application whose turn was taken back
pub added_app : (t : TableId) (number : ℕ) (s : Seen) (a b : Application) → a ≡ new_app number (split_from s) a.notes
    → b ≡ with_view (peeled a.pass.view) a → a.pass.table ≡ t → IsNewApp t number b
added_app t number s a b made back table = record {
  number = ap (λ (x : Application). x.number) back ∙ ap (λ (x : Application). x.number) made;
  table = ap (λ (x : Application). x.pass.table) back ∙ table;
  turns = ap (λ (x : Application). x.pass.view.turns) back;
  slow = ap (λ (x : Application). x.pass.view.slow) back ∙ ap (λ (x : Application). x.pass.view.slow) made;
  baton = ap (λ (x : Application). x.pass.view.baton) back ∙ ap (λ (x : Application). x.pass.view.baton) made;
  begun = ap (λ (x : Application). x.begun) back ∙ ap (λ (x : Application). x.begun) made;
  sockets = ap (λ (x : Application). x.sockets) back ∙ ap (λ (x : Application). x.sockets) made;
}

-- ----- all applications
-- the numbers of those that were added are below the next one
below_next : (ns : List ℕ) (i n : ℕ) → AreRising ns → slice_get ns i ≡ Some n → Each (λ m. m < n) (take i ns)
below_next [] i n rising at = subst (λ l. Each (λ m. m < n) l) (sym (nothing i)) tt
  where
    nothing : (i : ℕ) → take {A = ℕ} i [] ≡ []
    nothing zero = refl
    nothing (suc i) = refl
below_next (m ∷ ns) zero n rising at = tt
below_next (m ∷ ns) (suc i) n rising at = (later ns i n rising.0 at, below_next ns i n rising.1 at)
  where
    later : (ns : List ℕ) (i n : ℕ) → Each (λ x. m < x) ns → slice_get ns i ≡ Some n → m < n
    later [] i n each at = absurd (cc (at))
    later (x ∷ ns) zero n each at = let e : n ≡ x = cc (at) in omega (arith, e, each.0)
    later (x ∷ ns) (suc i) n each at = later ns i n each.1 at

none_queued : (n : ℕ) (qs : List AppQueue) → Each (λ m. m < n) (map app_with qs) → queue_of n qs ≡ None
none_queued n [] below = refl
none_queued n (q ∷ qs) below = by (q.app == n) refl (none_queued n qs below.1)
  where
    by : (t : Bool) → (q.app == n) ≡ t → queue_of n qs ≡ None
        → queue_of n (q ∷ qs) ≡ None
    by true e rest = let low : q.app < n = below.0 in absurd (grind (arith, nat_tests, e, low))
    by false e rest = rw (e, queue_of) rest

pub next_is_none : (ns : List ℕ) (i n : ℕ) (qs : List AppQueue) → AreRising ns → slice_get ns i ≡ Some n
    → map app_with qs ≡ take i ns → queue_of n qs ≡ None
next_is_none ns i n qs rising at are =
    none_queued n qs (subst (λ l. Each (λ m. m < n) l) (sym are) (below_next ns i n rising at))

pub apps_more : (t : TableId) (ns : List ℕ) (xs : List Application) (n : ℕ) (a : Application) → AreNewApps t ns xs
    → IsNewApp t n a → AreNewApps t (ns ++ n ∷ []) (xs ++ a ∷ [])
apps_more t [] xs n a are is = subst (λ l. AreNewApps t (n ∷ []) (l ++ a ∷ [])) (sym are) (is, refl)
apps_more t (m ∷ ns) [] n a are is = absurd are
apps_more t (m ∷ ns) (x ∷ xs) n a are is = (are.0, apps_more t ns xs n a are.1 is)

-- one more was added
pub manned_next : (params : HostParams) (n i : ℕ) (c : Common) (v : Worker) (ws : List cores.Worker)
    → IsManned params n (1 + (n + i)) c v ws → IsManned params n (n + (i + 1)) c v ws
manned_next params n i c v ws =
    let e : 1 + (n + i) ≡ n + (i + 1) = omega arith in subst (λ k. IsManned params n k c v ws) e

pub apps_next : (t u : TableId) (ns : List ℕ) (i : ℕ) (xs ys : List Application) (a : Application) → i < length ns
    → AreNewApps t (take i ns) xs → u ≡ t → IsNewApp u (get_or ns i 0) a → ys ≡ xs ++ a ∷ []
    → AreNewApps t (take (i + 1) ns) ys
apps_next t u ns i xs ys a near are same is more =
    subst (AreNewApps t (take (i + 1) ns)) (sym more)
    (subst (λ ms. AreNewApps t ms (xs ++ a ∷ [])) (sym (take_more ns i 0 near))
    (apps_more t (take i ns) xs (get_or ns i 0) a are
    (subst (λ s. IsNewApp s (get_or ns i 0) a) same is)))

pub taken : (ns : List ℕ) (i : ℕ) → i ≡ length ns → take i ns ≡ ns
taken ns i same = ap (λ k. take k ns) same ∙ all ns
  where
    all : (ns : List ℕ) → take (length ns) ns ≡ ns
    all [] = refl
    all (n ∷ ns) = ap (λ ms. n ∷ ms) (all ns)

pub added_all : (params : HostParams) (n i : ℕ) (ns : List ℕ) (b c : Common) (v : Worker) (ws : List cores.Worker)
    (xs : List Application) → i ≡ length ns → IsManned params n (n + i) c v ws → map app_with c.queues ≡ take i ns
    → AreNewApps b.table (take i ns) xs → c ≡ record b { queues = c.queues } → AreAdded params n ns c v ws xs
added_all params n i ns b c v ws xs same manned queues apps rest = record {
  manned = subst (λ k. IsManned params n (n + k) c v ws) same manned;
  queues = queues ∙ taken ns i same;
  apps = subst (λ t. AreNewApps t ns xs) (sym (ap (λ (x : Common). x.table) rest))
      (subst (λ ms. AreNewApps b.table ms xs) (taken ns i same) apps);
}

-- ----- lanes
pub lanes_of_more : (c : Common) (ws : List cores.Worker) (ls : List Lane) (w : cores.Worker) (l : Lane)
    → AreLanesOf c ws ls → IsLaneOf c w l → AreLanesOf c (ws ++ w ∷ []) (ls ++ l ∷ [])
lanes_of_more c [] ls w l are is = subst (λ ks. AreLanesOf c (w ∷ []) (ks ++ l ∷ [])) (sym are) (is, refl)
lanes_of_more c (x ∷ ws) [] w l are is = absurd are
lanes_of_more c (x ∷ ws) (k ∷ ls) w l are is = (are.0, lanes_of_more c ws ls w l are.1 is)

pub lanes_for_more : (c : Common) (xs : List Application) (ls : List Lane) (a : Application) (l : Lane)
    → AreLanesFor c xs ls → IsLaneFor c a l → AreLanesFor c (xs ++ a ∷ []) (ls ++ l ∷ [])
lanes_for_more c [] ls a l are is = subst (λ ks. AreLanesFor c (a ∷ []) (ks ++ l ∷ [])) (sym are) (is, refl)
lanes_for_more c (x ∷ xs) [] a l are is = absurd are
lanes_for_more c (x ∷ xs) (k ∷ ls) a l are is = (are.0, lanes_for_more c xs ls a l are.1 is)

-- while the lanes of cores are put down: those in front have theirs
pub record ArePut (c : Common) (all left : List cores.Worker) (ls : List Lane) : Type 0 where
  pub done : List cores.Worker
  pub split : all ≡ done ++ left
  pub put : AreLanesOf c done ls

pub put_begins : (c : Common) (all left : List cores.Worker) (ls : List Lane) → left ≡ all → ls ≡ []
    → ArePut c all left ls
put_begins c all left ls same none = record { done = []; split = sym same; put = none }

pub put_more : (c : Common) (all left rest : List cores.Worker) (ls ks : List Lane) (w : cores.Worker) (l : Lane)
    → ArePut c all left ls → left ≡ w ∷ rest → IsLaneOf c w l → ks ≡ ls ++ l ∷ [] → ArePut c all rest ks
put_more c all left rest ls ks w l is split one more = record {
  done = is.done ++ w ∷ [];
  split = is.split ∙ (ap (λ us. is.done ++ us) split ∙ sym (append_assoc is.done (w ∷ []) rest));
  put = subst (AreLanesOf c (is.done ++ w ∷ [])) (sym more) (lanes_of_more c is.done ls w l is.put one);
}

pub put_ends : (c : Common) (all left : List cores.Worker) (ls : List Lane) → ArePut c all left ls → left ≡ []
    → AreLanesOf c all ls
put_ends c all left ls is none =
    subst (λ us. AreLanesOf c us ls) (sym (is.split ∙ (ap (λ us. is.done ++ us) none ∙ append-nil is.done))) is.put

-- while those of applications are put down behind the others
pub record ArePutFor (c : Common) (all left : List Application) (before ls : List Lane) : Type 0 where
  pub done : List Application
  pub behind : List Lane
  pub split : all ≡ done ++ left
  pub is : ls ≡ before ++ behind
  pub put : AreLanesFor c done behind

pub put_for_begins : (c : Common) (all left : List Application) (before : List Lane) → left ≡ all
    → ArePutFor c all left before before
put_for_begins c all left before same =
    record { done = []; behind = []; split = sym same; is = sym (append-nil before); put = refl }

pub put_for_more : (c : Common) (all left rest : List Application) (before ls ks : List Lane) (a : Application)
    (l : Lane) → ArePutFor c all left before ls → left ≡ a ∷ rest → IsLaneFor c a l → ks ≡ ls ++ l ∷ []
    → ArePutFor c all rest before ks
put_for_more c all left rest before ls ks a l is split one more = record {
  done = is.done ++ a ∷ [];
  behind = is.behind ++ l ∷ [];
  split = is.split ∙ (ap (λ us. is.done ++ us) split ∙ sym (append_assoc is.done (a ∷ []) rest));
  is = more ∙ (ap (λ us. us ++ l ∷ []) is.is ∙ append_assoc before is.behind (l ∷ []));
  put = lanes_for_more c is.done is.behind a l is.put one;
}

pub put_for_ends : (c : Common) (all left : List Application) (before ls : List Lane)
    → ArePutFor c all left before ls → left ≡ []
    → (more : List Lane) × (ls ≡ before ++ more) × AreLanesFor c all more
put_for_ends c all left before ls is none = (
  is.behind,
  is.is,
  subst (λ us. AreLanesFor c us is.behind) (sym (is.split ∙ (ap (λ us. is.done ++ us) none ∙ append-nil is.done)))
      is.put,
)

pub none_left : {X : Type 0} (xs : List X) → length xs ≡ 0 → xs ≡ []
none_left [] e = refl
none_left (x ∷ xs) e = absurd (omega (arith, e))

-- what holds of the lanes of a staff that was just hired
record IsNewStaff (n first : ℕ) (names : List ℕ) (c : Common) (xs : List Application) (ls : List Lane) : Type 0 where
  staff : AreStaff n first names ls
  idle : Each (IsIdle c) ls
  resting : Each (IsResting true) ls
  unasked : Each IsUnasked ls
  clear : Each IsClear ls
  apps : apps_in ls ≡ xs

new_apps : (c : Common) (names : List ℕ) (xs : List Application) (ls : List Lane) → AreNewApps c.table names xs
    → AreLanesFor c xs ls → (first : ℕ) → IsNewStaff 0 first names c xs ls
new_apps c [] xs ls are for first =
    let none : ls ≡ [] = subst (λ l. AreLanesFor c l ls) are for in
    subst (λ k. IsNewStaff 0 first [] c xs k) (sym none)
    (record { staff = refl; idle = tt; resting = tt; unasked = tt; clear = tt; apps = sym are })
new_apps c (n ∷ names) [] ls are for first = absurd are
new_apps c (n ∷ names) (a ∷ xs) [] are for first = absurd for
new_apps c (n ∷ names) (a ∷ xs) (lanes.Core l ∷ ls) are for first = absurd for.0
new_apps c (n ∷ names) (a ∷ xs) (lanes.App l ∷ ls) are for first =
    let more = new_apps c names xs ls are.1 for.1 first in
    let new = are.0 in
    let is : l.app ≡ a = for.0.1 in record {
      staff = (ap (λ (x : Application). x.number) is ∙ new.number, more.staff);
      idle = (
        (
          for.0.0,
          record {
            table = ap (λ (x : Application). x.pass.table) is ∙ new.table;
            turns = ap (λ (x : Application). x.pass.view.turns) is ∙ new.turns;
            slow = ap (λ (x : Application). x.pass.view.slow) is ∙ new.slow;
            baton = ap (λ (x : Application). x.pass.view.baton) is ∙ new.baton;
          },
        ),
        more.idle,
      );
      resting = (for.0.2, more.resting);
      unasked = ((for.0.3, for.0.4), more.unasked);
      clear = (tt, more.clear);
      apps = λ i. is i ∷ more.apps i;
    }

new_cores : (c : Common) (first : ℕ) (names : List ℕ) (ws : List cores.Worker) (xs : List Application)
    (ls ks : List Lane) → AreIdleCores c first ws → AreLanesOf c ws ls → AreNewApps c.table names xs
    → AreLanesFor c xs ks → IsNewStaff (length ws) first names c xs (ls ++ ks)
new_cores c first names [] xs ls ks idle of are for =
    subst (λ l. IsNewStaff 0 first names c xs (l ++ ks)) (sym of) (new_apps c names xs ks are for first)
new_cores c first names (w ∷ ws) xs [] ks idle of are for = absurd of
new_cores c first names (w ∷ ws) xs (lanes.App l ∷ ls) ks idle of are for = absurd of.0
new_cores c first names (w ∷ ws) xs (lanes.Core l ∷ ls) ks idle of are for =
    let more = new_cores c (suc first) names ws xs ls ks idle.3 of.1 are for in
    let is : l.worker ≡ w = of.0.1 in record {
      staff = (ap (λ (x : cores.Worker). x.core) is ∙ idle.0, more.staff);
      idle = ((of.0.0, subst (IsIdleCore c) (sym is) idle.1), more.idle);
      resting = (ap (λ (x : cores.Worker). x.check_sums) is ∙ idle.2.4, more.resting);
      unasked = (tt, more.unasked);
      clear = (
        (
          ap (λ (x : cores.Worker). x.frames) is ∙ idle.2.0,
          ap (λ (x : cores.Worker). x.exceptions) is ∙ idle.2.1,
          ap (λ (x : cores.Worker). x.deferred) is ∙ idle.2.2,
          ap (λ (x : cores.Worker). x.log) is ∙ idle.2.3,
        ),
        more.clear,
      );
      apps = more.apps;
    }

pub hired : (params : HostParams) (n : ℕ) (names : List ℕ) (c : Common) (w : Worker) (ws : List cores.Worker)
    (xs : List Application) (ls first second : List Lane) → AreAdded params n names c w ws xs → ls ≡ first ++ second
    → AreLanesOf c ws first → AreLanesFor c xs second → IsHired params n names c w ls
hired params n names c w ws xs ls first second added both of for =
    subst (IsHired params n names c w) (sym both)
    (subst (λ k. IsHired params k names c w (first ++ second)) added.manned.count (record {
      passes = n + length names;
      slow = added.manned.slow;
      alone = added.manned.alone;
      staff = new.staff;
      idle = new.idle;
      resting = new.resting;
      unasked = new.unasked;
      clear = new.clear;
      apps = subst (AreNewApps c.table names) (sym new.apps) added.apps;
    }))
  where
    new : IsNewStaff (length ws) 0 names c xs (first ++ second)
    new = new_cores c 0 names ws xs first second added.manned.cores of added.apps for
