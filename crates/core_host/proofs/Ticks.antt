-- The steps of a tick, one after the other, are a tick of shared flows: for the laws of a tick.
use Rattle.std.proofs.Common.{◌≡◌, ◌<◌, ◌+◌, ℕ, Bool, List, [], ◌∷◌, ◌++◌, map, fold, refl, sym, ap, ◌∙◌}
use Rattle.std.proofs.Common.{subst, arith}
use Rattle.std.specs.Prelude.{Option, IsPermutation}
use Rattle.tas_model.specs.declared.entry.Caller.TheVariants.{Slow}
use Rattle.host_rounds.specs.Deliveries.{Arrival, received, delivered}
use Rattle.host_rounds.specs.Histories.{HasHistory}
use Rattle.host_rounds.specs.Hosts.{Host, Starts}
use Rattle.host_rounds.specs.Lists.{Each}
use Rattle.host_rounds.specs.Moves.{AreByMoves}
use Rattle.host_rounds.specs.Scripts.{Site, Scripts}
use Rattle.host_rounds.specs.Rounds.{Due, Round, on_host}
use Rattle.host_rounds.specs.SerialOrder.{slow_phase, ask_phase, emit_phase}
use Rattle.core_rounds.specs.CoreTicks.{rest_phase}
use Rattle.core_rounds.specs.SharedTicks.{alone_phase, IsSharedTick, tick_without_cores}
use Rattle.core_rounds.proofs.SharedRounds.{shared_round, without_cores}
use Rattle.flow_lock.specs.declared.view.View.{View}
use Rattle.steering.specs.Tables.{Table}
use Rattle.frame_steering.specs.declared.handing.GroupMove.{GroupMove}
use Rattle.host_books.specs.Books as books
use Rattle.host_books.specs.Books.{Book, Setting}
use Rattle.host_books.specs.Leavings.{Leaving, books_after, scripts_after}
use Rattle.host_books.specs.Tries.{Try}
use Rattle.core_worker.specs.declared.frames.Frame.{Frame}
use Rattle.core_phase.specs.Phases.{IsPhase}
use Rattle.core_phase.specs.declared.lane.Lane.{Lane}
use Rattle.phase_orders.specs.Collecting.{collected, all_passed, all_broken, log_of}
use Rattle.phase_orders.specs.CoreTurns.{arrivals_of, frame_in, lines_of}
use Rattle.phase_orders.specs.Handing.{AreHandedOver}
use Rattle.phase_orders.specs.Lanes.{LanePhase, AreLeavings}
use Rattle.phase_orders.specs.Ticks.{site_at, site_with, IsTickOfLanes}
use Rattle.phase_orders.proofs.Collecting.{left_collected, lines_collected}
use Rattle.phase_orders.proofs.Ticks.{shared_tick}
use Rattle.slow_rounds.specs.Rests.{starts_by}
use Rattle.sound_hosts.specs.Hosts.{CoreHost, host_of, setting_of, known_in}
use Rattle.sound_phases.specs.Phased as phased
use Rattle.core_host.specs.Serving.{IsServedOf, AreLeft, cleared}
use Rattle.core_host.specs.Sharing.{all_in_tick, view_of, IsPlayed}
use Rattle.core_host.specs.Sound.{IsStaffSound, IsClear, IsUnasked, IsResting}
use Rattle.core_host.specs.Ticks.{IsBetweenTicks, IsTick, IsTickAlone, site_in}
use Rattle.core_host.specs.Views.{Staffed, seen_by}
use Rattle.core_host.proofs.TickLanes.{IsEmpty, dealt_empty, set_out, same_checks, dealt_still, lines_still}
use Rattle.core_host.proofs.TickLanes.{passed_still, no_lines}
use Rattle.core_host.proofs.TickLanes.{clear_empty, served_clear, tried_emptied, tried_clear, served_unasked}
use Rattle.core_host.proofs.TickLanes.{none_handed, phase_clear, quiet_books, silent, set_silent, tried_same}
use Rattle.core_host.proofs.TickLanes.{all_silent}
use Rattle.core_host.proofs.TickLanes.{silent_stand, silent_apart}

-- the checksums are looked at as before, where the staff is the same
checks_are : (h k : Staffed) → IsStaffSound h → IsStaffSound k → k.lanes ≡ h.lanes → k.cores ≡ h.cores
    → k.host.slow.check_sums ≡ h.host.slow.check_sums
checks_are h k sound still lanes cores =
    same_checks k.host.slow.check_sums h.host.slow.check_sums h.cores h.names h.lanes sound.some.0 sound.staff
    (subst (Each (IsResting k.host.slow.check_sums)) lanes still.resting) sound.resting

-- with its scripts as far as this
abbrev with_scripts : {S : Type 0} → S → Host → Site S
with_scripts state host = record { host = host; scripts = state }

-- what a phase leaves of a host, with these books
played_host : (t : ℕ) (h k : Staffed) (bs : List Book) → IsPlayed t h k → bs ≡ k.host.books
    → books.host_of (record (setting_of h.host) { books = bs }) (view_of k).base ≡ seen_by k
played_host t h k bs phase same =
    let at : CoreHost = phased.after_phase (all_in_tick t h.lanes) k.lanes (view_of k) h.host in
    ap (λ (l : List Book). books.host_of (record (setting_of h.host) { books = l }) (view_of k).base)
    (same ∙ ap (λ (x : CoreHost). x.books) phase.host)
    ∙ sym (ap (λ (x : CoreHost). books.host_of (setting_of x) (known_in x)) phase.host)

-- what the slow path serves is what it has collected
served_phase : {S A : Type 0} (scripts : Scripts S A) (t : ℕ) (starts : Starts) (host after : Host) (xs ys : List
    Arrival)
    → scripts.starts ≡ starts → xs ≡ ys → after ≡ fold (delivered (received Slow) starts t) host xs
    → rest_phase scripts t host ys ≡ after
served_phase scripts t starts host after xs ys is same made =
    (λ i. fold (delivered (received Slow) (is i) t) host (sym same i)) ∙ sym made

module _ {S A : Type 0} (scripts : Scripts S A) (t : ℕ) (due : Due A) (before after : Staffed) (state next : S)
    (between : IsBetweenTicks before) (k : IsTick scripts t due before after state next) where
  abbrev pub check : Bool
  check = before.host.slow.check_sums

  abbrev pub cores : ℕ
  cores = before.cores

  -- ----- until the first phase
  passed_lanes : k.passed.lanes ≡ before.lanes
  passed_lanes = ap (λ (x : Staffed). x.lanes) k.time.same

  passed_cores : k.passed.cores ≡ before.cores
  passed_cores = ap (λ (x : Staffed). x.cores) k.time.same

  passed_steer : k.passed.steer.tables ≡ before.steer.tables
  passed_steer = ap (λ (x : Staffed). x.steer.tables) k.time.same

  handed_host : k.handed.host ≡ k.passed.host
  handed_host = ap (λ (x : Staffed). x.host) k.dealt.same

  handed_cores : k.handed.cores ≡ before.cores
  handed_cores = ap (λ (x : Staffed). x.cores) k.dealt.same ∙ passed_cores

  trying_host : k.trying.host ≡ k.handed.host
  trying_host = ap (λ (x : Staffed). x.host) k.tries.same

  trying_cores : k.trying.cores ≡ before.cores
  trying_cores = ap (λ (x : Staffed). x.cores) k.tries.same ∙ handed_cores

  handed_check : k.handed.host.slow.check_sums ≡ check
  handed_check =
      ap (λ (x : CoreHost). x.slow.check_sums) handed_host
      ∙ checks_are before k.passed between.sound k.time.sound passed_lanes passed_cores

  trying_check : k.trying.host.slow.check_sums ≡ check
  trying_check = ap (λ (x : CoreHost). x.slow.check_sums) trying_host ∙ handed_check

  handed_empty : Each IsEmpty k.handed.lanes
  handed_empty =
      subst (Each IsEmpty) (sym (k.dealt.lanes).1)
      (dealt_empty 0 (k.dealt.lanes).0 k.frames k.passed.lanes (subst (Each IsClear) (sym passed_lanes) between.clear))

  abbrev first : LanePhase scripts check cores t
  first = record {
    setting = setting_of k.trying.host;
    state = state;
    asks = k.asks;
    before = all_in_tick t k.trying.lanes;
    after = k.played.lanes;
    view = view_of k.trying;
    next = view_of k.played;
    phase = k.first.phase;
    indexed = k.tries.sound.host.indexed;
    set_out = set_out check cores t k.handed.cores 0 k.handed.names k.asks k.handed.lanes k.trying.lanes
        (omega (arith, handed_cores)) k.dealt.sound.staff (subst (λ c. Each (IsResting c) k.handed.lanes) handed_check
        k.dealt.sound.resting)
        handed_empty k.tries.tries k.set;
    stand = k.stand;
    apart = k.apart;
  }

  slow : on_host (slow_phase t) (site_in before state) ≡ site_at first
  slow =
      ap (with_scripts state) (sym k.time.made ∙ sym (ap host_of (trying_host ∙ handed_host)))

  handed : AreHandedOver cores before.steer.tables k.moves k.frames k.handed.steer.tables first.before
  handed =
      let is = subst (λ n. AreHandedOver n k.passed.steer.tables k.moves k.frames k.handed.steer.tables k.handed.lanes)
      passed_cores k.dealt.handed in
      let over = subst (λ ts. AreHandedOver cores ts k.moves k.frames k.handed.steer.tables k.handed.lanes)
      passed_steer is in
      record {
        groups = over.groups;
        handed = over.handed;
        grouped = over.grouped;
        steered = over.steered;
        below = over.below;
        dealt = dealt_still cores over.handed k.frames t 0 k.handed.lanes k.trying.lanes k.tries.tries over.dealt;
      }

  abbrev rest : List Arrival
  rest = collected check first.before first.after

  -- ----- the slow path and the applications, alone
  played_check : k.played.host.slow.check_sums ≡ check
  played_check = ap (λ (x : CoreHost). x.slow.check_sums) k.first.host ∙ trying_check

  told_host : k.told.host ≡ k.played.host
  told_host = ap (λ (x : Staffed). x.host) k.answers.same

  told_check : k.told.host.slow.check_sums ≡ check
  told_check = ap (λ (x : CoreHost). x.slow.check_sums) told_host ∙ played_check

  left_so : AreLeft t first.before k.told
  left_so =
      lines_still k.played.lanes k.told.lanes k.answers.tries
      ∙ (lines_collected scripts check cores t first
      (no_lines t k.handed.lanes k.trying.lanes k.tries.tries handed_empty)
      ∙ ap (λ (c : Bool). lines_of c t (all_broken c first.before)) (sym told_check))

  served : IsServedOf k.numbers t first.before k.told k.served
  served = k.serves first.before left_so

  pub tick_served : IsServedOf k.numbers t (all_in_tick t k.trying.lanes) k.told k.served
  tick_served = served

  collected_is : collected k.told.host.slow.check_sums first.before k.told.lanes ≡ rest
  collected_is =
      ap (λ (c : Bool). collected c first.before k.told.lanes) told_check
      ∙ ap (λ fs. arrivals_of check (all_broken check first.before) ++ arrivals_of check (map frame_in fs))
      (passed_still k.played.lanes k.told.lanes k.answers.tries)

  middle : on_host (λ (h : Host). rest_phase scripts t h rest) (site_in k.played k.heard) ≡ site_in k.served k.heard
  middle =
      ap (with_scripts k.heard)
      (ap (λ (h : CoreHost). rest_phase scripts t (books.host_of (setting_of h) (known_in h)) rest) (sym told_host)
      ∙ served_phase scripts t (starts_by k.numbers) (seen_by k.told) (seen_by k.served) _ rest k.starts collected_is
      served.made)

  -- ----- the second phase
  served_check : k.served.host.slow.check_sums ≡ check
  served_check = served.still.checks ∙ told_check

  kicked_check : k.kicked.host.slow.check_sums ≡ check
  kicked_check = k.kicks.1.checks ∙ (k.stays.checks ∙ served_check)

  kicked_lanes : k.kicked.lanes ≡ k.asked.lanes
  kicked_lanes = ap (λ (x : Staffed). x.lanes) k.kicks.0.same

  kicked_cores : k.kicked.cores ≡ before.cores
  kicked_cores =
      ap (λ (x : Staffed). x.cores) k.kicks.0.same
      ∙ (k.stays.cores
      ∙ (ap (λ (x : Staffed). x.cores) served.same
      ∙ (ap (λ (x : Staffed). x.cores) k.answers.same
      ∙ (ap (λ (x : Staffed). x.cores) k.first.same ∙ trying_cores))))

  clear_then : Each IsClear k.kicked.lanes
  clear_then =
      subst (Each IsClear) (sym kicked_lanes)
      (k.stays.clear (subst (Each IsClear) (sym served.lanes)
      (served_clear k.told.lanes (tried_emptied k.played.lanes k.told.lanes k.answers.tries k.first.taken))))

  unasked_then : Each IsUnasked k.kicked.lanes
  unasked_then =
      subst (Each IsUnasked) (sym kicked_lanes)
      (k.stays.unasked (subst (Each IsUnasked) (sym served.lanes) (served_unasked k.told.lanes k.none)))

  abbrev second : LanePhase scripts check cores t
  second = record {
    setting = setting_of k.kicked.host;
    state = next;
    asks = silent S A k.kicked.lanes;
    before = all_in_tick t k.kicked.lanes;
    after = k.sent.lanes;
    view = view_of k.kicked;
    next = view_of k.sent;
    phase = k.second.phase;
    indexed = k.kicks.0.sound.host.indexed;
    set_out = set_out check cores t k.kicked.cores 0 k.kicked.names (silent S A k.kicked.lanes) k.kicked.lanes
        k.kicked.lanes (omega (arith, kicked_cores)) k.kicks.0.sound.staff
        (subst (λ c. Each (IsResting c) k.kicked.lanes) kicked_check k.kicks.0.sound.resting)
        (clear_empty k.kicked.lanes clear_then) (tried_same k.kicked.lanes)
        (set_silent S A k.kicked.lanes unasked_then);
    stand = silent_stand scripts t (setting_of k.kicked.host) next k.kicked.lanes;
    apart = silent_apart scripts t k.kicked.lanes;
  }

  alone : (ls : List (Leaving S)) → AreLeavings t first.asks first.before first.after ls
      → alone_phase scripts t (site_with first ls) rest k.later ≡ site_at second
  alone ls are =
      let left = k.left ls are in
      let played : site_with first ls ≡ site_in k.played k.heard =
      λ i. record {
        host = played_host t k.trying k.played (books_after ls k.trying.host.books) k.first left.0 i;
        scripts = left.1 i;
      } in
      ap (λ (x : Site S). alone_phase scripts t x rest k.later) played
      ∙ (ap (λ (x : Site S). ask_phase scripts t x k.later) middle
      ∙ (k.alone ∙ ap (with_scripts next) (sym k.kicks.0.made)))

  made : on_host (emit_phase t) (site_with second []) ≡ site_in after next
  made =
      ap (λ (h : Host). with_scripts next (emit_phase t h))
      (played_host t k.kicked k.sent k.kicked.host.books k.second
      (sym (ap (λ (x : CoreHost). x.books) k.second.host
      ∙ quiet_books t k.kicked.lanes k.sent.lanes k.kicked.host.books unasked_then))
      ∙ sym (ap (λ (h : CoreHost). books.host_of (setting_of h) (known_in h))
      (ap (λ (x : Staffed). x.host) k.forgot.same)))
      ∙ ap (with_scripts next) (sym k.rest.0.made)

  pub tick_of_lanes : IsTickOfLanes scripts check cores t due (site_in before state) (site_in after next)
  tick_of_lanes = record {
    some = between.sound.some.0;
    first = first;
    slow = slow;
    frames = k.frames;
    come = k.come;
    distinct = k.distinct;
    tables = before.steer.tables;
    moves = k.moves;
    now = k.handed.steer.tables;
    handed = handed;
    rest = rest;
    left = left_collected scripts check cores t first;
    later = k.later;
    tried = k.tried;
    second = second;
    alone = alone;
    idle = none_handed t k.kicked.lanes clear_then;
    silent = all_silent S A k.kicked.lanes;
    made = made;
  }

  -- ----- what stays
  pub cores_stay : after.cores ≡ before.cores
  cores_stay =
      ap (λ (x : Staffed). x.cores) k.rest.0.same
      ∙ (ap (λ (x : Staffed). x.cores) k.forgot.same ∙ (ap (λ (x : Staffed). x.cores) k.second.same ∙ kicked_cores))

  -- ----- and then it is between two ticks
  after_lanes : after.lanes ≡ k.quiet.lanes
  after_lanes = ap (λ (x : Staffed). x.lanes) k.rest.0.same

  pub between_ticks : IsBetweenTicks after
  between_ticks = record {
    sound = k.rest.0.sound;
    clear = subst (Each IsClear) (sym after_lanes)
        (tried_clear k.sent.lanes k.quiet.lanes k.forgot.tries
        (phase_clear k.second.phase.order 0 t k.kicked.lanes k.sent.lanes k.second.phase.parts clear_then));
    unasked = subst (Each IsUnasked) (sym after_lanes) k.silent;
  }

-- ----- a tick that was made alone
module _ {S A : Type 0} (scripts : Scripts S A) (t : ℕ) (due : Due A) (before after : Staffed) (state next : S)
    (between : IsBetweenTicks before) (k : IsTickAlone scripts t due before after state next) where
  passed_check : k.passed.host.slow.check_sums ≡ before.host.slow.check_sums
  passed_check =
      checks_are before k.passed between.sound k.time.sound (ap (λ (x : Staffed). x.lanes) k.time.same)
      (ap (λ (x : Staffed). x.cores) k.time.same)

  come : arrivals_of k.passed.host.slow.check_sums k.frames ≡ due.frames
  come = ap (λ (c : Bool). arrivals_of c k.frames) passed_check ∙ k.come

  served_alone : on_host (λ (h : Host). rest_phase scripts t h due.frames) (on_host (slow_phase t) (site_in before
      state))
      ≡ site_in k.served state
  served_alone =
      ap (λ (h : Host). with_scripts state (rest_phase scripts t h due.frames)) (sym k.time.made)
      ∙ ap (with_scripts state) (served_phase scripts t (starts_by k.numbers) (seen_by k.passed) (seen_by k.served) _
      due.frames
      k.starts come k.serves.made)

  pub made_alone : tick_without_cores scripts t due (site_in before state) ≡ site_in after next
  made_alone =
      ap (λ (x : Site S). on_host (emit_phase t) (ask_phase scripts t x due.asks)) served_alone
      ∙ (ap (λ (x : Site S). on_host (emit_phase t) x) k.alone ∙ ap (with_scripts next) (sym k.rest.0.made))

  pub alone_shared : IsSharedTick scripts before.cores t due (site_in before state) (site_in after next)
  alone_shared =
      subst (IsSharedTick scripts before.cores t due (site_in before state)) made_alone
      (without_cores scripts before.cores t due (site_in before state) between.sound.some.0)

  lanes_before : k.served.lanes ≡ before.lanes
  lanes_before = ap (λ (x : Staffed). x.lanes) k.serves.same ∙ ap (λ (x : Staffed). x.lanes) k.time.same

  lanes_after : after.lanes ≡ k.asked.lanes
  lanes_after = ap (λ (x : Staffed). x.lanes) k.rest.0.same

  pub alone_between : IsBetweenTicks after
  alone_between = record {
    sound = k.rest.0.sound;
    clear = subst (Each IsClear) (sym lanes_after)
        (k.stays.clear (subst (Each IsClear) (sym lanes_before) between.clear));
    unasked = subst (Each IsUnasked) (sym lanes_after)
        (k.stays.unasked (subst (Each IsUnasked) (sym lanes_before) between.unasked));
  }
