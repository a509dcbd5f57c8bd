-- A host whose slow path did something is sound still, with its staff as it was: for the answers for the steps of a
-- tick.
use Rattle.std.proofs.Common.{◌≡◌, ◌<◌, ℕ, Bool, false, List, [], refl, sym, ap, ◌∙◌, subst, arith}
use Rattle.std.proofs.lemmas.Bool.Decides.{nat_tests}
use Rattle.std.specs.Prelude.{IfSome, OnOk, Result, Ok, Err}
use Rattle.host_rounds.specs.Hosts.{Host}
use Rattle.host_rounds.specs.Lists.{Each}
use Rattle.host_rounds.specs.SerialOrder.{slow_phase}
use Rattle.host_books.specs.Books.{Book}
use Rattle.slow_handshake.specs.Numbers.{FirstNumbers}
use Rattle.slow_worker.specs.Clocks.{HasRisen, has_passed_in, last_tick, served_in}
use Rattle.slow_worker.specs.Kicking.{CanKick}
use Rattle.slow_worker.specs.Turns.{IsTurn}
use Rattle.slow_worker.specs.Workers.{Worker, HasSenders, IsSound, sight_of}
use Rattle.slow_worker.specs.declared.clock.Clock.{Clock}
use Rattle.slow_worker.specs.declared.clock.Clock.TheVariants.{New, Passing, Passed}
use Rattle.core_worker.specs.Workers.{Common}
use Rattle.core_phase.specs.Lanes.{IsIdle}
use Rattle.core_phase.specs.declared.lane.Lane.{Lane}
use Rattle.sound_phases.specs.Phased.{apps_in}
use Rattle.sound_hosts.specs.Hosts.{CoreHost, host_of, known_in}
use Rattle.sound_hosts.specs.Sound.{IsHostSound}
use Rattle.sound_hosts.proofs.Leaving.{apart_of}
use Rattle.sound_turns.specs.Passing.{AreSwept, with_books}
use Rattle.sound_hosts.specs.Counting.{IsCounted}
use Rattle.slow_rounds.proofs.FirstTurns.{first_made}
use Rattle.core_host.specs.Books.{kept_by}
use Rattle.core_host.specs.Sound.{AreStaff, IsStaffSound, IsResting}
use Rattle.core_host.specs.Steps.{IsTimePassed}
use Rattle.core_host.specs.Views.{Staffed}
use Rattle.core_host.proofs.Filed.{turn_filed}
use Rattle.core_host.proofs.Kept.{kept_is}

-- the host is another, of the same table, and so are its lanes
pub moved_lanes : (h : Staffed) (n : CoreHost) (ls : List Lane) → IsStaffSound h → IsHostSound n → IsCounted n
    → n.table ≡ h.host.table → n.apps ≡ apps_in ls → n.slow.check_sums ≡ h.host.slow.check_sums
    → HasSenders h.shared n.slow → CanKick h.shared n.slow.kickers → ((t : ℕ) → served_in t n.slow.time ≡ 0)
    → AreStaff h.cores 0 h.names ls → Each (IsIdle h.shared) ls → Each (IsResting h.host.slow.check_sums) ls
    → IsStaffSound (record h { host = n; lanes = ls })
moved_lanes h n ls sound host counted table apps checks senders kickers timed staff idle resting = record {
  host = host;
  counted = counted;
  table = table ∙ sound.table;
  senders = senders;
  kickers = kickers;
  timed = timed;
  some = sound.some;
  steer = sound.steer;
  apps = apps;
  staff = staff;
  idle = idle;
  resting = subst (λ (c : Bool). Each (IsResting c) ls) (sym checks) resting;
  room = sound.room;
}

-- the host is another, with the same applications
pub moved_staff : (h : Staffed) (n : CoreHost) → IsStaffSound h → IsHostSound n → IsCounted n
    → n.table ≡ h.host.table → n.apps ≡ h.host.apps → n.slow.check_sums ≡ h.host.slow.check_sums
    → HasSenders h.shared n.slow → CanKick h.shared n.slow.kickers → ((t : ℕ) → served_in t n.slow.time ≡ 0)
    → IsStaffSound (record h { host = n })
moved_staff h n sound host counted table apps checks senders kickers timed =
    moved_lanes h n h.lanes sound host counted table (apps ∙ sound.apps) checks senders kickers timed sound.staff
    sound.idle sound.resting

-- ----- answers
-- what holds where the answer is Ok
pub both_ok : {A E P Q S : Type 0} (r : Result A E) → (P → Q → S) → OnOk r P → OnOk r Q → OnOk r S
both_ok (Ok x) f p q = f p q
both_ok (Err e) f p q = tt

-- ----- time
-- ticks rise
pub risen_by : (t : ℕ) (c : Clock) → IfSome (last_tick c) (λ last. last < t) → HasRisen t c × (has_passed_in t c ≡
    false)
risen_by t New r = (tt, refl)
risen_by t (Passing last served) r = (omega arith, refl)
risen_by t (Passed last) r = (omega arith, grind (arith, nat_tests))

module _ (h : Staffed) (ns : FirstNumbers) (tick : ℕ) (w : Worker) (books : List Book) (sound : IsStaffSound h)
    (turn : IsTurn false ns h.shared tick h.host.slow w) (still : IsSound h.shared.table (sight_of w))
    (kept : books ≡ kept_by w.pins h.host.books) where
  is_clock : w.time ≡ Passed tick
  is_clock = ap (λ (x : Worker). x.time) turn.2.rest ∙ turn.1.time

  is_check : w.check_sums ≡ h.host.slow.check_sums
  is_check = ap (λ (x : Worker). x.check_sums) turn.2.rest ∙ ap (λ (x : Worker). x.check_sums) turn.1.rest

  abbrev after : Staffed
  after = record h { host = with_books books w h.host }

  pub time_passed : HasSenders h.shared w → CanKick h.shared w.kickers → IsTimePassed tick h after
  time_passed senders kickers =
      by (first_made h.host ns h.shared tick w sound.host (sound.timed tick) turn
      (subst (λ t. IsSound t (sight_of w)) (sym sound.table) still))
    where
      by : (bs : List Book) × AreSwept h.host.books bs × IsHostSound (with_books bs w h.host)
          × (IsCounted h.host → IsCounted (with_books bs w h.host))
          × (host_of (with_books bs w h.host) ≡ slow_phase tick (host_of h.host)) → IsTimePassed tick h after
      by (bs, are, host, counted, phase) =
          let is : bs ≡ books =
          sym (kept_is h.host.apps (known_in h.host) w.pass.view.base tick h.host.books bs
          (apart_of h.host.table.slots [] h.host.books sound.host.numbered) sound.host.holders
          sound.host.indexed.running are (ap (λ (x : Host). x.flows) phase))
          ∙ (ap (λ p. kept_by p h.host.books) (sym host.kept.pins) ∙ sym kept) in
          record {
            made = ap (λ (l : List Book). host_of (with_books l w h.host)) (sym is) ∙ phase;
            sound = moved_staff h (with_books books w h.host) sound
                (subst (λ (l : List Book). IsHostSound (with_books l w h.host)) is host)
                (subst (λ (l : List Book). IsCounted (with_books l w h.host)) is (counted sound.counted)) refl refl
                is_check senders kickers (λ t. ap (served_in t) is_clock);
            same = refl;
            time = is_clock;
            filed = turn_filed h.host sound.host ns h.shared tick w (sound.timed tick) turn;
          }

-- so it is of a host that is another name of one that is sound
pub time_passed_as : (h k : Staffed) (ns : FirstNumbers) (tick : ℕ) (w : Worker) (books : List Book) → h ≡ k
    → IsStaffSound k → IfSome (last_tick k.host.slow.time) (λ last. last < tick)
    → IsTurn (has_passed_in tick h.host.slow.time) ns h.shared tick h.host.slow w
    → IsSound h.shared.table (sight_of w) → books ≡ kept_by w.pins h.host.books → HasSenders h.shared w
    → CanKick h.shared w.kickers → IsTimePassed tick k (record h { host = with_books books w h.host })
time_passed_as h k ns tick w books e sound risen turn still kept senders kickers =
    let r = subst (λ (x : Staffed). IfSome (last_tick x.host.slow.time) (λ last. last < tick)) (sym e) risen in
    subst (λ (x : Staffed). IsTimePassed tick x (record h { host = with_books books w h.host })) e
    (time_passed h ns tick w books (subst IsStaffSound (sym e) sound)
    (subst (λ (b : Bool). IsTurn b ns h.shared tick h.host.slow w) (risen_by tick h.host.slow.time r).1 turn) still kept
    senders kickers)

-- and of one whose workers share what was read, where all went well
pub time_passed_on : {A E : Type 0} (r : Result A E) (h k : Staffed) (s : Common) (ns : FirstNumbers) (tick : ℕ)
    (w : Worker) (books : List Book) → h ≡ k → s ≡ h.shared → IsStaffSound k
    → IfSome (last_tick k.host.slow.time) (λ last. last < tick) → IsSound s.table (sight_of w) → HasSenders s w
    → CanKick s w.kickers → OnOk r (IsTurn (has_passed_in tick h.host.slow.time) ns s tick h.host.slow w)
    → OnOk r (books ≡ kept_by w.pins h.host.books)
    → OnOk r (IsTimePassed tick k (record h { host = with_books books w h.host }))
time_passed_on r h k s ns tick w books e es sound risen still senders kickers =
    both_ok r
    (λ turn kept.
    time_passed_as h k ns tick w books e sound risen
    (subst (λ (x : Common). IsTurn (has_passed_in tick h.host.slow.time) ns x tick h.host.slow w) es turn)
    (subst (λ (x : Common). IsSound x.table (sight_of w)) es still) kept
    (subst (λ (x : Common). HasSenders x w) es senders)
    (subst (λ (x : Common). CanKick x w.kickers) es kickers))
