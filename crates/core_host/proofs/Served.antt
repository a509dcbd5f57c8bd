-- Frames that cores left, or that were handed to none, served by the slow path: for the answers for `CoreHost::serve`
-- and `CoreHost::serve_all`.
use Rattle.std.proofs.Common.{◌≡◌, ◌<◌, ◌≤◌, ◌+◌, ℕ, suc, true, List, [], ◌∷◌, ◌++◌, map, drop, length}
use Rattle.std.proofs.Common.{refl}
use Rattle.std.proofs.Common.{sym, ap, ◌∙◌, subst, arith, fold, length-append, append_assoc}
use Rattle.std.specs.Prelude.{Some, slice_get, Result, Ok, Err, OnOk}
use Rattle.std.proofs.lemmas.List.{length-map}
use Rattle.std.proofs.lemmas.List.{map-append}
use Rattle.std.proofs.lemmas.List.Elements.{filter-append}
use Rattle.std.proofs.Math.Seq.{drop-append_seam}
use Rattle.std.specs.List.{filter}
use Rattle.tas_model.specs.declared.entry.Caller.TheVariants.{Slow}
use Rattle.tas_model.specs.declared.entry.FlowId.{FlowId}
use Rattle.host_rounds.specs.Deliveries.{received, delivered}
use Rattle.host_rounds.specs.Scripts.{Scripts}
use Rattle.host_rounds.proofs.Lists.{fold_append}
use Rattle.slow_handshake.specs.Numbers.{FirstNumbers}
use Rattle.core_worker.specs.Workers as cores
use Rattle.core_worker.specs.declared.frames.Frame.{Frame}
use Rattle.core_worker.specs.declared.frames.Passed.TheVariants as passed
use Rattle.core_worker.specs.declared.frames.PassedFrame.{PassedFrame}
use Rattle.flow_clock.proofs.Serving.{drop_more}
use Rattle.slow_worker.specs.Clocks.{served_in}
use Rattle.slow_worker.specs.Kicking.{CanKick}
use Rattle.slow_worker.specs.Queues.{Standing}
use Rattle.slow_worker.specs.Turns.{IsTurn, has_passed}
use Rattle.slow_worker.specs.Serving.{IsServed}
use Rattle.slow_worker.specs.Workers.{Worker, Setting, HasSenders, setting_of, sight_of, with_sight}
use Rattle.slow_worker.specs.declared.served.Served.{Served}
use Rattle.host_books.specs.Books.{Book}
use Rattle.core_phase.specs.declared.lane.Lane.{Lane}
use Rattle.core_phase.specs.declared.lane.Lane.TheVariants as lanes
use Rattle.core_phase.specs.Words.{arrival_of}
use Rattle.core_rounds.specs.CoreTicks.{rest_phase}
use Rattle.phase_orders.specs.Collecting.{all_passed, collected}
use Rattle.phase_orders.specs.CoreTurns.{arrivals_of}
use Rattle.sound_hosts.specs.Hosts.{CoreHost, id_of, is_indexed, host_of}
use Rattle.sound_hosts.specs.Sound.{IsHostSound}
use Rattle.sound_phases.specs.Phased.{apps_in}
use Rattle.sound_turns.specs.Serving.{syn_book, ids_of, books_opened, with_opened}
use Rattle.sound_turns.proofs.Serving.{IsServedSound, one_served}
use Rattle.slow_rounds.specs.Collecting.{AreCollected}
use Rattle.slow_rounds.specs.Rests.{starts_by}
use Rattle.sound_hosts.specs.Counting.{IsCounted}
use Rattle.slow_rounds.proofs.Collecting.{left_made}
use Rattle.slow_rounds.proofs.LaterTurns.{one_made, one_counted}
use Rattle.core_host.specs.Serving as serving
use Rattle.core_host.specs.Serving.{KeepsTime, cleared, AreLeft, IsServedOf, AreTaken, IsOneTaken}
use Rattle.core_host.specs.Sound.{IsStaffSound}
use Rattle.core_host.specs.Views.{Staffed, seen_by}
use Rattle.core_host.proofs.Kin.{AreKin, kin_apps, kin_staff, kin_idle, kin_resting}
use Rattle.core_host.proofs.Staffs.{moved_lanes, moved_staff}

-- ----- lanes of which all was collected
cleared_kin : (ls : List Lane) → AreKin ls (map cleared ls)
cleared_kin [] = refl
cleared_kin (lanes.Core l ∷ ls) = (refl, cleared_kin ls)
cleared_kin (lanes.App l ∷ ls) = (refl, cleared_kin ls)

-- ----- books of flows that were opened
-- the flow of one pin more has its book
pub opened_more : (books : List Book) (pins : List FlowId) (at : ℕ) (p : FlowId) → slice_get pins at ≡ Some p
    → (books ++ syn_book p ∷ []) ++ map syn_book (drop (at + 1) pins) ≡ books ++ map syn_book (drop at pins)
opened_more books pins at p there =
    let next : at + 1 ≡ suc at = omega arith in
    append_assoc books (syn_book p ∷ []) (map syn_book (drop (at + 1) pins))
    ∙ ap (λ l. books ++ map syn_book l) (ap (λ n. p ∷ drop n pins) next ∙ sym (drop_more pins at p there))

syn_ids : (ids : List FlowId) → map id_of (filter is_indexed (map syn_book ids)) ≡ ids
syn_ids [] = refl
syn_ids (id ∷ ids) = ap (λ l. id ∷ l) (syn_ids ids)

opened_pins : (bs : List Book) (ids pins later : List FlowId) → pins ≡ map id_of (filter is_indexed bs)
    → later ≡ map id_of (filter is_indexed (bs ++ map syn_book ids)) → drop (length pins) later ≡ ids
opened_pins bs ids pins later were are = ap (drop (length pins)) both ∙ drop-append_seam pins ids
  where
    both : later ≡ pins ++ ids
    both = are
        ∙ (ap (map id_of) (filter-append is_indexed bs (map syn_book ids))
        ∙ (map-append id_of (filter is_indexed bs) (filter is_indexed (map syn_book ids))
        ∙ λ i. sym were i ++ syn_ids ids i))

-- what has no scripts, but for the numbers of its flows
abbrev numbered : FirstNumbers → Scripts (Unit {0}) (Unit {0})
numbered ns = record { starts = starts_by ns; agent = λ a. 0; asked = λ t site a. site }

module _ (h : Staffed) (ns : FirstNumbers) (tick : ℕ) (u w : Worker) (books : List Book) (sound : IsStaffSound h)
    (are : AreCollected h.lanes h.host.slow u)
    (rest : u ≡ record (h.host.slow) { exceptions = u.exceptions; deferred = u.deferred; log = u.log })
    (turn : IsTurn true ns h.shared tick u w)
    (opened : books ≡ h.host.books ++ map syn_book (drop (length u.pins) w.pins)) where
  abbrev pub served_host : CoreHost
  served_host = record (h.host) { slow = w; apps = apps_in (map cleared h.lanes); books = books }

  abbrev pub served_staff : Staffed
  served_staff = record h { host = served_host; lanes = map cleared h.lanes }

  still : KeepsTime h served_staff
  still = record {
    time = ap (λ (x : Worker). x.time) turn.2.rest
        ∙ (ap (λ (x : Standing). x.time) turn.1.same ∙ ap (λ (x : Worker). x.time) rest);
    filed = ap (λ (x : Worker). x.filed) turn.2.rest
        ∙ (ap (λ (x : Standing). x.filed) turn.1.same ∙ ap (λ (x : Worker). x.filed) rest);
    checks = ap (λ (x : Worker). x.check_sums) turn.2.rest
        ∙ (ap (λ (x : Standing). x.check_sums) turn.1.same ∙ ap (λ (x : Worker). x.check_sums) rest);
  }

  pub served : (vs : List Lane) → AreLeft tick vs h
      → length h.host.books + length (all_passed h.lanes) < 4294967295 → HasSenders h.shared w
      → CanKick h.shared w.kickers → IsServedOf ns tick vs h served_staff
  served vs lines few senders kickers =
      by (left_made (numbered ns) h.host tick vs h.lanes u sound.host are lines ns h.shared w refl sound.counted few
      turn)
    where
      by : (ids : List FlowId) × (length ids ≤ length (all_passed h.lanes))
          × IsHostSound (with_opened ids w h.host) × IsCounted (with_opened ids w h.host)
          × (host_of (with_opened ids w h.host)
          ≡ rest_phase (numbered ns) tick (host_of h.host) (collected h.host.slow.check_sums vs h.lanes))
          → IsServedOf ns tick vs h served_staff
      by (ids, near, host, counted, made) =
          let same : ids ≡ drop (length u.pins) w.pins =
          sym (opened_pins h.host.books ids u.pins w.pins
          (ap (λ (x : Worker). x.pins) rest ∙ sound.host.kept.pins) host.kept.pins) in
          let is : with_opened ids w h.host ≡ served_host =
          λ i. record (h.host) {
            slow = w;
            apps = (sound.apps ∙ sym (kin_apps h.lanes (map cleared h.lanes) (cleared_kin h.lanes))) i;
            books = (ap (λ l. h.host.books ++ map syn_book l) same ∙ sym opened) i;
          } in
          record {
            made = ap host_of (sym is) ∙ made;
            sound = moved_lanes h served_host (map cleared h.lanes) sound (subst IsHostSound is host)
                (subst IsCounted is counted) refl refl still.checks senders kickers
                (λ t. ap (served_in t) still.time ∙ sound.timed t)
                (kin_staff h.cores 0 h.names h.lanes (map cleared h.lanes) sound.staff (cleared_kin h.lanes))
                (kin_idle h.shared h.lanes (map cleared h.lanes) sound.idle (cleared_kin h.lanes))
                (kin_resting h.host.slow.check_sums h.lanes (map cleared h.lanes) sound.resting (cleared_kin h.lanes));
            lanes = refl;
            same = refl;
            still = still;
          }

-- ----- frames that were handed to no core
module _ (h : Staffed) (ns : FirstNumbers) (tick : ℕ) (f : Frame) (w : Worker) (a : Served) (books : List Book)
    (sound : IsStaffSound h) (few : length h.host.books < 4294967295)
    (rest : w ≡ with_sight (sight_of w) h.host.slow)
    (is : IsServed (setting_of ns h.shared tick h.host.slow) f.id f.packet (sight_of h.host.slow) (sight_of w) a)
    (opened : books ≡ h.host.books ++ map syn_book (drop (length h.host.slow.pins) w.pins)) where
  abbrev at : Setting
  at = setting_of ns h.shared tick h.host.slow

  -- a frame that was passed on, for whatever reason
  abbrev passed_on : PassedFrame
  passed_on = record { frame = f; passed = passed.Absent }

  abbrev pub taken_staff : Staffed
  taken_staff = record h { host = record (h.host) { slow = w; books = books } }

  first : IsServedSound h.host h.host.slow h.host.books (sight_of w) a passed_on
  first =
      one_served h.host h.host.slow h.host.books at passed_on (sight_of h.host.slow) (sight_of w) a sound.host few is

  ids_are : books_opened (ids_of a) h.host.books ≡ books
  ids_are =
      ap (λ ids. h.host.books ++ map syn_book ids)
      (sym (opened_pins h.host.books (ids_of a) h.host.slow.pins w.pins sound.host.kept.pins
      (subst (λ ids. w.pins ≡ map id_of (filter is_indexed (h.host.books ++ map syn_book ids))) first.named
      first.sound.kept.pins)))
      ∙ sym opened

  -- the host with these books, after the frame
  abbrev with_those : List Book → CoreHost
  with_those bs = record (h.host) { slow = with_sight (sight_of w) h.host.slow; books = bs }

  there : with_those books ≡ record (h.host) { slow = w; books = books }
  there = ap (λ (x : Worker). record (h.host) { slow = x; books = books }) (sym rest)

  host_sound : IsHostSound (record (h.host) { slow = w; books = books })
  host_sound = subst IsHostSound there
      (subst (λ bs. IsHostSound (with_those bs))
      (ap (λ ids. books_opened ids h.host.books) first.named ∙ ids_are) first.sound)

  still_so : KeepsTime h taken_staff
  still_so = record {
    time = ap (λ (x : Worker). x.time) rest;
    filed = ap (λ (x : Worker). x.filed) rest;
    checks = ap (λ (x : Worker). x.check_sums) rest;
  }

  fewer : length books ≤ length h.host.books + 1
  fewer =
      let x : length books ≡ length (books_opened (ids_of a) h.host.books) =
      ap (λ (bs : List Book). length bs) (sym ids_are) in
      let y : length (h.host.books ++ map syn_book (ids_of a))
      ≡ length h.host.books + length (map syn_book (ids_of a)) =
      length-append h.host.books (map syn_book (ids_of a)) in
      let z : length (map syn_book (ids_of a)) ≡ length (ids_of a) = length-map (ids_of a) syn_book in
      let one : length (ids_of a) ≤ 1 = subst (λ (ids : List FlowId). length ids ≤ 1) first.named first.few in
      omega (arith, x, y, z, one)

  pub one_taken : HasSenders h.shared w → IsOneTaken ns tick f h taken_staff
  one_taken senders = record {
    made = sym (λ i. host_of ((ap with_those ids_are ∙ there) i))
        ∙ one_made h.host h.host.slow h.host.books at passed_on (sight_of h.host.slow) (sight_of w) a sound.host few
        sound.counted is;
    sound = moved_staff h (record (h.host) { slow = w; books = books }) sound host_sound
        (one_counted h.host h.host.slow h.host.books at passed_on (sight_of h.host.slow) (sight_of w) a sound.host few
        sound.counted is ∙ ap (λ (bs : List Book). length bs) ids_are)
        refl refl still_so.checks senders
        (subst (λ (x : Worker). CanKick h.shared x.kickers) (sym rest) sound.kickers)
        (λ t. ap (served_in t) still_so.time ∙ sound.timed t);
    same = refl;
    still = still_so;
    few = fewer;
  }

-- one after the other
pub none_taken : (ns : FirstNumbers) (tick : ℕ) (h : Staffed) → IsStaffSound h → AreTaken ns tick [] h h
none_taken ns tick h sound = record {
  made = refl;
  sound = sound;
  same = refl;
  still = record { time = refl; filed = refl; checks = refl };
  few = omega arith;
}

pub more_taken : (ns : FirstNumbers) (tick : ℕ) (fs : List Frame) (f : Frame) (h m n : Staffed)
    → AreTaken ns tick fs h m → IsOneTaken ns tick f m n → AreTaken ns tick (fs ++ f ∷ []) h n
more_taken ns tick fs f h m n all one = record {
  made = one.made
      ∙ ((λ i. delivered (received Slow) (starts_by ns) tick (all.made i) (arrival_of (all.still.checks i) f))
      ∙ (sym (fold_append (delivered (received Slow) (starts_by ns) tick) (seen_by h)
      (arrivals_of h.host.slow.check_sums fs) (arrival_of h.host.slow.check_sums f ∷ []))
      ∙ ap (fold (delivered (received Slow) (starts_by ns) tick) (seen_by h))
      (sym (map-append (arrival_of h.host.slow.check_sums) fs (f ∷ [])))));
  sound = one.sound;
  same = one.same ∙ ap (λ (x : Staffed). record x { host = n.host }) all.same;
  still = record {
    time = one.still.time ∙ all.still.time;
    filed = one.still.filed ∙ all.still.filed;
    checks = one.still.checks ∙ all.still.checks;
  };
  few =
      let x : length n.host.books ≤ length m.host.books + 1 = one.few in
      let y : length m.host.books ≤ length h.host.books + length fs = all.few in
      let z : length (fs ++ f ∷ []) ≡ length fs + 1 = length-append fs (f ∷ []) in
      omega (arith, x, y, z);
}

-- ----- the answers
pub on_both : {A E P Q R : Type 0} (r : Result A E) → OnOk r P → OnOk r Q → (P → Q → R) → OnOk r R
on_both (Ok a) p q f = f p q
on_both (Err e) p q f = tt

abbrev pub served_with : List Lane → Worker → List Book → Staffed → Staffed
served_with ls w books h =
    record h { host = record (h.host) { slow = w; apps = apps_in ls; books = books }; lanes = ls }

pub serve_made : (h n : Staffed) (c : cores.Common) (ns : FirstNumbers) (tick : ℕ) (old ls : List Lane) (u w : Worker)
    (books : List Book) → h ≡ n → old ≡ h.lanes → c ≡ h.shared → IsStaffSound n → has_passed tick n.host.slow ≡ true
    → length n.host.books + length (all_passed n.lanes) < 4294967295 → AreCollected old h.host.slow u
    → u ≡ record (h.host.slow) { exceptions = u.exceptions; deferred = u.deferred; log = u.log }
    → ls ≡ map cleared old → HasSenders c w → CanKick c w.kickers → IsTurn (has_passed tick u) ns c tick u w
    → books ≡ h.host.books ++ map syn_book (drop (length u.pins) w.pins)
    → serving.IsServed ns tick n (served_with ls w books h)
serve_made h n c ns tick old ls u w books e eo ec sound later few are rest el senders kickers turn opened vs left =
    let s : IsStaffSound h = subst IsStaffSound (sym e) sound in
    let lt : has_passed tick u ≡ true =
    ap (λ (x : Worker). has_passed tick x) rest
    ∙ subst (λ (k : Staffed). has_passed tick k.host.slow ≡ true) (sym e) later in
    let t : IsTurn true ns h.shared tick u w =
    subst (λ (x : cores.Common). IsTurn true ns x tick u w) ec (subst (λ b. IsTurn b ns c tick u w) lt turn) in
    let done : IsServedOf ns tick vs h (served_with (map cleared h.lanes) w books h) =
    served h ns tick u w books s (subst (λ l. AreCollected l h.host.slow u) eo are) rest t opened vs
    (subst (AreLeft tick vs) (sym e) left)
    (subst (λ (k : Staffed). length k.host.books + length (all_passed k.lanes) < 4294967295) (sym e) few)
    (subst (λ (x : cores.Common). HasSenders x w) ec senders)
    (subst (λ (x : cores.Common). CanKick x w.kickers) ec kickers) in
    subst (λ (k : Staffed). IsServedOf ns tick vs k (served_with ls w books h)) e
    (subst (λ l. IsServedOf ns tick vs h (served_with l w books h)) (sym (el ∙ ap (map cleared) eo)) done)

pub frame_taken : (h n : Staffed) (c : cores.Common) (ns : FirstNumbers) (tick : ℕ) (f : Frame) (w : Worker)
    (books : List Book) → h ≡ n → c ≡ h.shared → IsStaffSound n → length n.host.books < 4294967295
    → w ≡ with_sight (sight_of w) h.host.slow → HasSenders c w
    → ((a : Served) × IsServed (setting_of ns c tick h.host.slow) f.id f.packet (sight_of h.host.slow) (sight_of w) a)
    → books ≡ h.host.books ++ map syn_book (drop (length h.host.slow.pins) w.pins)
    → IsOneTaken ns tick f n (record h { host = record (h.host) { slow = w; books = books } })
frame_taken h n c ns tick f w books e ec sound few rest senders (a, is) opened =
    subst (λ (k : Staffed). IsOneTaken ns tick f k (record h { host = record (h.host) { slow = w; books = books } })) e
    (one_taken h ns tick f w a books (subst IsStaffSound (sym e) sound)
    (subst (λ (k : Staffed). length k.host.books < 4294967295) (sym e) few) rest
    (subst (λ (x : cores.Common). IsServed (setting_of ns x tick h.host.slow) f.id f.packet (sight_of h.host.slow)
    (sight_of w) a) ec is) opened (subst (λ (x : cores.Common). HasSenders x w) ec senders))
