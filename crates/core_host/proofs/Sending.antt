-- What may still go at the end of a tick, and records that are looked at: for the answers for these steps of a host.
use Rattle.std.proofs.Common.{◌≡◌, ◌<◌, ℕ, zero, suc, cond, Bool, true, false, List, [], ◌∷◌, map, refl, sym, ap}
use Rattle.std.proofs.Common.{◌∙◌}
use Rattle.std.proofs.Common.{subst, arith, length, take}
use Rattle.std.proofs.lemmas.List.Sums.{length-filter}
use Rattle.std.specs.Prelude.{Some, slice_get, count_by, Result, Ok, Err, OnOk}
use Rattle.std.specs.List.{filter}
use Rattle.atomic_table.specs.Seated.{TableId}
use Rattle.tas_model.specs.declared.entry.FlowId.{FlowId}
use Rattle.host_rounds.specs.Hosts.{Live, Host}
use Rattle.host_rounds.specs.Lists.{Each}
use Rattle.host_rounds.specs.Logs as logs
use Rattle.host_rounds.specs.SerialOrder.{emit_phase}
use Rattle.flow_state.specs.Flow.{Flow}
use Rattle.flow_lock.specs.Answers.{IsTaken, Holds}
use Rattle.flow_lock.specs.Claims.{HasPin}
use Rattle.flow_lock.specs.Orders.{known_of}
use Rattle.flow_lock.specs.Passes.{Seen}
use Rattle.flow_lock.specs.Steps.{IsAlone, gave}
use Rattle.flow_lock.specs.declared.view.Deed.{Deed}
use Rattle.flow_lock.specs.declared.view.Held.{Held}
use Rattle.flow_lock.specs.declared.view.History.{History}
use Rattle.flow_lock.specs.declared.view.View.{View}
use Rattle.app_reaper.specs.OneCall.{history, IsOwn, IsUse}
use Rattle.app_reaper.proofs.Calls.{taken_holds, used}
use Rattle.flow_clock.specs.Ledgers as clock
use Rattle.flow_clock.proofs.Keeping.{each_at}
use Rattle.core_worker.specs.Sending.{IsAllSent}
use Rattle.core_worker.specs.Workers.{Common}
use Rattle.core_phase.specs.Deeds.{IsSend, KeepsColumn}
use Rattle.core_phase.specs.Lanes.{IsIdle}
use Rattle.core_phase.specs.declared.lane.Lane.{Lane}
use Rattle.core_phase.specs.declared.lane.Lane.TheVariants as lanes
use Rattle.slow_worker.specs.Alone.{IsUsed, AreUsed, IsAsItWas, IsAllKicked}
use Rattle.slow_worker.specs.Clocks.{served_in}
use Rattle.slow_worker.specs.Kicking.{CanKick}
use Rattle.slow_worker.specs.Workers.{Worker, HasSenders}
use Rattle.slow_worker.proofs.Walks.{as_it_was, all_same}
use Rattle.host_books.specs.Books.{Book, live_as, live_in}
use Rattle.sound_hosts.specs.Counting.{IsCounted}
use Rattle.sound_hosts.specs.Hosts.{CoreHost, host_of, id_of, is_indexed, known_in}
use Rattle.sound_hosts.specs.Moving.{with_slow}
use Rattle.sound_hosts.specs.Sound.{IsHostSound}
use Rattle.sound_phases.specs.Phased.{apps_in}
use Rattle.sound_turns.proofs.Steps.{same_led}
use Rattle.slow_rounds.specs.Sending.{with_view}
use Rattle.slow_rounds.proofs.Sent.{IsStill, begun, one_still, still_sound}
use Rattle.core_host.specs.Emission.{IsKicked, IsRestSent, IsIndexedAt, IsTakenAt, IsRecordAt, IsPinTaken, IsOut}
use Rattle.core_host.specs.Emission.{AreButTried, AreTriesSet, untried}
use Rattle.core_host.specs.Ending.{AreFiled, IsFiledAs}
use Rattle.core_host.specs.Serving.{KeepsTime}
use Rattle.core_host.specs.Sound.{IsStaffSound, IsUnasked, AreApps, AreStaff, IsResting}
use Rattle.core_host.specs.Steps.{IsStep}
use Rattle.core_host.specs.Views.{Staffed, seen_by}
use Rattle.core_host.proofs.Staffs.{moved_staff, moved_lanes}

-- ----- a step of the slow path that leaves its lists, and what it is for, as they were
module _ (f : Host → Host) (h : Staffed) (w : Worker) (sound : IsStaffSound h) (host : IsHostSound (with_slow w h.host))
    (counted : IsCounted h.host → IsCounted (with_slow w h.host))
    (made : host_of (with_slow w h.host) ≡ f (host_of h.host)) (senders : w.senders ≡ h.host.slow.senders)
    (kickers : CanKick h.shared w.kickers) (still : KeepsTime h (record h { host = with_slow w h.host })) where
  pub slow_step : IsStep f h (record h { host = with_slow w h.host })
  slow_step = record {
    made = made;
    sound = moved_staff h (with_slow w h.host) sound host (counted sound.counted) refl refl still.checks
        (subst (λ s. HasSenders h.shared (record w { senders = s })) (sym senders) sound.senders) kickers
        (λ t. ap (served_in t) still.time ∙ sound.timed t);
    same = refl;
    time = still.time;
    filed = still.filed;
  }

-- ----- kicks
module _ (h : Staffed) (w : Worker) (sound : IsStaffSound h) (all : IsAllKicked h.shared h.host.slow w) where
  is : w ≡ record (h.host.slow) {
    pass = record (h.host.slow.pass) { view = all.0.pass.view };
    kicks = w.kicks;
    kickers = w.kickers;
  }
  is = all.2.rest ∙ ap (λ (x : Worker). record x { kicks = w.kicks; kickers = w.kickers }) all.1.rest

  kept_time : KeepsTime h (record h { host = with_slow w h.host })
  kept_time = record {
    time = ap (λ (x : Worker). x.time) is;
    filed = ap (λ (x : Worker). x.filed) is;
    checks = ap (λ (x : Worker). x.check_sums) is;
  }

  pub kicked : CanKick h.shared w.kickers
      → IsHostSound (with_slow w h.host) × (IsCounted h.host → IsCounted (with_slow w h.host))
      × (host_of (with_slow w h.host) ≡ host_of h.host) → IsKicked h (record h { host = with_slow w h.host })
  kicked kickers (host, counted, made) = (
    slow_step (λ (x : Host). x) h w sound host counted made (ap (λ (x : Worker). x.senders) is) kickers kept_time,
    kept_time,
  )

-- ----- segments
module _ (h : Staffed) (w : Worker) (t : ℕ) (sound : IsStaffSound h) (table : w.pass.table ≡ h.host.slow.pass.table)
    (rest : w ≡ record (h.host.slow) { pass = w.pass }) where
  pass_is : record (h.host.slow.pass) { view = w.pass.view } ≡ w.pass
  pass_is = ap (λ k. record (w.pass) { table = k }) (sym table)

  host_is : with_view w.pass.view h.host ≡ with_slow w h.host
  host_is = ap (λ (s : Seen). with_slow (record (h.host.slow) { pass = s }) h.host) pass_is
      ∙ ap (λ (x : Worker). with_slow x h.host) (sym rest)

  kept_still : KeepsTime h (record h { host = with_slow w h.host })
  kept_still = record {
    time = ap (λ (x : Worker). x.time) rest;
    filed = ap (λ (x : Worker). x.filed) rest;
    checks = ap (λ (x : Worker). x.check_sums) rest;
  }

  pub rest_sent : IsHostSound (with_view w.pass.view h.host)
      × (IsCounted h.host → IsCounted (with_view w.pass.view h.host))
      × (host_of (with_view w.pass.view h.host) ≡ emit_phase t (host_of h.host))
      → IsRestSent t h (record h { host = with_slow w h.host })
  rest_sent (host, counted, made) = (
    slow_step (emit_phase t) h w sound (subst IsHostSound host_is host)
        (λ c. subst IsCounted host_is (counted c)) (ap host_of (sym host_is) ∙ made)
        (ap (λ (x : Worker). x.senders) rest)
        (subst (λ (x : Worker). CanKick h.shared x.kickers) (sym rest) sound.kickers) kept_still,
    kept_still,
  )

-- ----- tries
untried_all : (ls : List Lane) → AreButTried ls (map untried ls)
untried_all [] = refl
untried_all (lanes.Core l ∷ ls) = (refl, untried_all ls)
untried_all (lanes.App l ∷ ls) = (refl, untried_all ls)

untried_none : (ls : List Lane) → Each IsUnasked (map untried ls)
untried_none [] = tt
untried_none (lanes.Core l ∷ ls) = (tt, untried_none ls)
untried_none (lanes.App l ∷ ls) = ((refl, refl), untried_none ls)

untried_apps : (ls : List Lane) → apps_in (map untried ls) ≡ apps_in ls
untried_apps [] = refl
untried_apps (lanes.Core l ∷ ls) = untried_apps ls
untried_apps (lanes.App l ∷ ls) = ap (λ xs. l.app ∷ xs) (untried_apps ls)

untried_names : (names : List ℕ) (ls : List Lane) → AreApps names ls → AreApps names (map untried ls)
untried_names [] ls are = ap (map untried) are
untried_names (n ∷ ns) [] are = absurd are
untried_names (n ∷ ns) (lanes.Core l ∷ ls) are = absurd are
untried_names (n ∷ ns) (lanes.App l ∷ ls) are = (are.0, untried_names ns ls are.1)

untried_staff : (n first : ℕ) (names : List ℕ) (ls : List Lane) → AreStaff n first names ls
    → AreStaff n first names (map untried ls)
untried_staff zero first names ls are = untried_names names ls are
untried_staff (suc n) first names [] are = absurd are
untried_staff (suc n) first names (lanes.Core l ∷ ls) are = (are.0, untried_staff n (suc first) names ls are.1)
untried_staff (suc n) first names (lanes.App l ∷ ls) are = absurd are

untried_idle : (c : Common) (ls : List Lane) → Each (IsIdle c) ls → Each (IsIdle c) (map untried ls)
untried_idle c [] are = tt
untried_idle c (lanes.Core l ∷ ls) are = (are.0, untried_idle c ls are.1)
untried_idle c (lanes.App l ∷ ls) are = (are.0, untried_idle c ls are.1)

untried_resting : (check : Bool) (ls : List Lane) → Each (IsResting check) ls → Each (IsResting check) (map untried ls)
untried_resting check [] are = tt
untried_resting check (lanes.Core l ∷ ls) are = (are.0, untried_resting check ls are.1)
untried_resting check (lanes.App l ∷ ls) are = (are.0, untried_resting check ls are.1)

abbrev pub with_lanes : List Lane → Staffed → Staffed
with_lanes ls h = record h { host = record (h.host) { apps = apps_in ls }; lanes = ls }

pub forgotten : (h : Staffed) → IsStaffSound h
    → AreTriesSet h (with_lanes (map untried h.lanes) h) × Each IsUnasked (map untried h.lanes)
forgotten h sound = (
  record {
    tries = untried_all h.lanes;
    sound = moved_lanes h (record (h.host) { apps = apps_in (map untried h.lanes) }) (map untried h.lanes) sound
        (subst (λ xs. IsHostSound (record (h.host) { apps = xs })) (sym apps) sound.host) sound.counted refl refl refl
        sound.senders sound.kickers sound.timed (untried_staff h.cores 0 h.names h.lanes sound.staff)
        (untried_idle h.shared h.lanes sound.idle) (untried_resting h.host.slow.check_sums h.lanes sound.resting);
    same = ap (λ xs. record h { host = record (h.host) { apps = xs }; lanes = map untried h.lanes }) apps;
  },
  untried_none h.lanes,
)
  where
    apps : apps_in (map untried h.lanes) ≡ h.host.apps
    apps = untried_apps h.lanes ∙ sym sound.apps

-- ----- records
some_same : {X : Type 0} (x y : X) → Some x ≡ Some y → x ≡ y
some_same x y e = cc (e)

-- a flow of the index has its pin behind those of the ones before it
abbrev in_index : Live → Bool
in_index l = l.indexed

-- with one before, on both sides or none
one_before : {X Y Z : Type 0} (f : X → Z) (t : Bool) (x : X) (xs : List X) (y : Y) (ys : List Y) (z : Z)
    → slice_get (map f xs) (length ys) ≡ Some z
    → slice_get (map f (cond t (x ∷ xs) xs)) (length (cond t (y ∷ ys) ys)) ≡ Some z
one_before f true x xs y ys z e = e
one_before f false x xs y ys z e = e

pin_at : (known : List Held) (bs : List Book) (place : ℕ) (l : Live) → slice_get (map (live_in known) bs) place ≡ Some l
    → l.indexed ≡ true
    → slice_get (map id_of (filter is_indexed bs)) (length (filter in_index (take place (map (live_in known) bs))))
    ≡ Some l.flow.id
pin_at known [] place l there indexed = absurd (cc (there))
pin_at known (b ∷ bs) zero l there indexed =
    let same : live_in known b ≡ l = cc (there) in
    let here : b.indexed ≡ true = ap (λ (x : Live). x.indexed) same ∙ indexed in
    ap (λ t. slice_get (map id_of (cond t (b ∷ filter is_indexed bs) (filter is_indexed bs))) 0) here
    ∙ ap (λ (x : Live). Some x.flow.id) same
pin_at known (b ∷ bs) (suc place) l there indexed =
    one_before id_of b.indexed b (filter is_indexed bs) (live_in known b)
    (filter in_index (take place (map (live_in known) bs))) l.flow.id (pin_at known bs place l there indexed)

pin_of : (known : List Held) (bs : List Book) (place at : ℕ) (l : Live)
    → slice_get (map (live_in known) bs) place ≡ Some l
    → l.indexed ≡ true → at ≡ count_by in_index (take place (map (live_in known) bs))
    → slice_get (map id_of (filter is_indexed bs)) at ≡ Some l.flow.id
pin_of known bs place at l there indexed behind =
    ap (slice_get (map id_of (filter is_indexed bs)))
    (behind ∙ sym (length-filter in_index (take place (map (live_in known) bs))))
    ∙ pin_at known bs place l there indexed

-- the book of a flow
pub live_there : (known : List Held) (bs : List Book) (place : ℕ) (l : Live)
    → slice_get (map (live_in known) bs) place ≡ Some l
    → (b : Book) × (slice_get bs place ≡ Some b) × (b.indexed ≡ l.indexed)
live_there known [] place l there = absurd (cc (there))
live_there known (b ∷ bs) zero l there =
    (b, refl, ap (λ (x : Live). x.indexed) (some_same (live_in known b) l there))
live_there known (b ∷ bs) (suc place) l there = live_there known bs place l there

-- what is known of a flow
abbrev known_flow : FlowId → History → logs.Flow
known_flow id h = record { id = id; tuple = h.tuple; params = h.params; entries = h.entries }

live_known : (known : List Held) (bs : List Book) (place : ℕ) (l : Live)
    → slice_get (map (live_in known) bs) place ≡ Some l
    → l.flow ≡ known_flow l.flow.id (known_of l.flow.id known)
live_known known [] place l there = absurd (cc (there))
live_known known (b ∷ bs) zero l there =
    let same : live_in known b ≡ l = cc (there) in
    subst (λ (x : Live). x.flow ≡ known_flow x.flow.id (known_of x.flow.id known)) same refl
live_known known (b ∷ bs) (suc place) l there = live_known known bs place l there

length_of : {X : Type 0} (xs : List X) (i : ℕ) (x : X) → slice_get xs i ≡ Some x → i < length xs
length_of [] i x e = absurd (cc (e))
length_of (y ∷ ys) zero x e = omega arith
length_of (y ∷ ys) (suc i) x e = let more = length_of ys i x e in omega (arith, more)

pub pin_there : (h : Staffed) (place at : ℕ) → IsStaffSound h → IsIndexedAt place at (seen_by h)
    → at < length h.host.slow.pins
pin_there h place at sound there =
    length_of h.host.slow.pins at there.flow.flow.id
    (ap (λ ids. slice_get ids at) sound.host.kept.pins
    ∙ pin_of (known_in h.host) h.host.books place at there.flow there.there there.indexed there.behind)

pub record_there : (h : Staffed) (place at : ℕ) (r : Flow) (w : View) → IsStaffSound h
    → IsPinTaken h.host.slow.pins at r h.host.slow.pass.view w → IsIndexedAt place at (seen_by h)
    → IsRecordAt place r (seen_by h)
record_there h place at r w sound taken there l here =
    live_known (known_in h.host) h.host.books place l here
    ∙ (ap (λ id. known_flow id (known_of id (known_in h.host))) id
    ∙ ap (λ k. known_flow r.id k) (sym (taken.own.known sound.host.alone)))
  where
    same : there.flow ≡ l
    same = some_same there.flow l (sym there.there ∙ here)

    id : l.flow.id ≡ r.id
    id = ap (λ (x : Live). x.flow.id) (sym same)
        ∙ some_same there.flow.flow.id r.id
        (sym (ap (λ ids. slice_get ids at) sound.host.kept.pins
        ∙ pin_of (known_in h.host) h.host.books place at there.flow there.there there.indexed there.behind)
        ∙ taken.id)

-- the same histories, the same flows
lives_same : (known now : List Held) → ((f : FlowId) → known_of f now ≡ known_of f known) → (bs : List Book)
    → map (live_in now) bs ≡ map (live_in known) bs
lives_same known now same [] = refl
lives_same known now same (b ∷ bs) = λ i. live_as b (same b.id i) ∷ lives_same known now same bs i

module _ (sends_keep : (core t : ℕ) (d : Deed) → IsSend core t d → KeepsColumn d) (h : Staffed) (at : ℕ) (r : Flow)
    (u : View) (sound : IsStaffSound h) (taken : IsPinTaken h.host.slow.pins at r h.host.slow.pass.view u) where
  abbrev back : View
  back = gave r.id (history r) u

  use_so : IsUse r.id r (history r) h.host.slow.pass.view back
  use_so = used r.id r (history r) h.host.slow.pass.view u back taken.taken refl

  used_so : IsUsed IsAsItWas r.id h.host.slow.pass.view back
  used_so = (r, history r, taken.own, refl, use_so)

  still : IsStill sends_keep h.host 0 sound.host back
  still = one_still sends_keep h.host 0 sound.host r.id r (history r) h.host.slow.pass.view back
      (begun sends_keep h.host 0 sound.host) taken.own use_so (same_led (history r)) refl

  same_known : (f : FlowId) → known_of f back.base ≡ known_of f (known_in h.host)
  same_known = all_same (r.id ∷ []) h.host.slow.pass.view back sound.host.alone (back, used_so, refl)

  pub given_back : IsStep (λ (x : Host). x) h (record h { host = with_view back h.host })
      × KeepsTime h (record h { host = with_view back h.host })
  given_back = (
    slow_step (λ (x : Host). x) h (record (h.host.slow) { pass = record (h.host.slow.pass) { view = back } }) sound
        (still_sound sends_keep h.host 0 sound.host back still) (λ counted. still.opened ∙ counted)
        (ap (λ (ls : List Live). record (host_of h.host) { flows = ls })
        (lives_same (known_in h.host) back.base same_known h.host.books))
        refl sound.kickers (record { time = refl; filed = refl; checks = refl }),
    record { time = refl; filed = refl; checks = refl },
  )

  -- and what was filed has the histories that are known
  filed_then : (rs : List Flow) → Each (IsFiledAs (known_in h.host)) rs → Each (IsFiledAs back.base) rs
  filed_then [] each = tt
  filed_then (x ∷ rs) each = (each.0 ∙ sym (same_known x.id), filed_then rs each.1)

  pub given_filed : AreFiled h.host → AreFiled (with_view back h.host)
  given_filed filed = filed_then h.host.slow.filed filed

-- ----- a take and a give
pub pinned_at : (slots : ℕ) (s : Seen) (pins : List FlowId) (at : ℕ) (f : FlowId) → Each (clock.IsKept slots s) pins
    → slice_get pins at ≡ Some f → HasPin s.view f × (f.slot < slots)
pinned_at slots s pins at f each there =
    let own = each_at (clock.IsKept slots s) pins at f each there in (own.0.0, own.1)

pub pin_taken : (pins : List FlowId) (at : ℕ) (p : FlowId) (r : Flow) (v w : View) → slice_get pins at ≡ Some p
    → r.id ≡ p → IsOwn p v r → IsTaken p (history r) v w → IsPinTaken pins at r v w
pin_taken pins at p r v w there same own taken = record {
  id = there ∙ ap (λ f. Some f) (sym same);
  own = subst (λ f. IsOwn f v r) (sym same) own;
  taken = subst (λ f. IsTaken f (history r) v w) (sym same) taken;
}

pub pin_out : (t : TableId) (pins : List FlowId) (at : ℕ) (p : FlowId) (r : Flow) (v : View) (s : Seen)
    → slice_get pins at ≡ Some p → IsOut t pins at r v s → r.id ≡ p
pin_out t pins at p r v s there out = some_same r.id p (sym out.pinned.id ∙ there)

pub out_alone : (t : TableId) (pins : List FlowId) (at : ℕ) (r : Flow) (v : View) (s : Seen) → IsOut t pins at r v s
    → IsAlone s.view
out_alone t pins at r v s out = subst IsAlone (sym out.pinned.taken.3) out.alone

pub out_held : (t : TableId) (pins : List FlowId) (at : ℕ) (p : FlowId) (r : Flow) (v : View) (s : Seen)
    → slice_get pins at ≡ Some p → IsOut t pins at r v s → Holds s.view p (history r)
out_held t pins at p r v s there out =
    let same : r.id ≡ p = pin_out t pins at p r v s there out in
    taken_holds p r (history r) v s.view (subst (λ f. IsTaken f (history r) v s.view) same out.pinned.taken)
    (as_it_was (history r))

-- the record of a sound host was taken, and is out
pub taken_out : (h k : Staffed) (at : ℕ) (r : Flow) → IsStaffSound h → IsTakenAt at r h k
    → IsOut k.shared.table k.host.slow.pins at r h.host.slow.pass.view k.host.slow.pass
taken_out h k at r sound taken =
    subst (λ (x : Staffed). IsOut x.shared.table x.host.slow.pins at r h.host.slow.pass.view
    (record (x.host.slow.pass) { view = k.host.slow.pass.view })) (sym taken.same) (record {
      pinned = taken.pinned;
      alone = sound.host.alone;
      own_table = sound.host.sound.0.ready.0 ∙ sound.table;
      slot = subst (λ (t : TableId). r.id.slot < t.slots) sound.table
          (pinned_at h.host.table.slots h.host.slow.pass h.host.slow.pins at r.id sound.host.sound.0.owned.each_pin
          taken.pinned.id).1;
    })

-- what it is then
target : (h k : Staffed) (at : ℕ) (r : Flow) (w : Worker) → IsTakenAt at r h k
    → w.pass.view ≡ gave r.id (history r) k.host.slow.pass.view
    → w ≡ record (k.host.slow) { pass = record (k.host.slow.pass) { view = w.pass.view } }
    → record k { host = with_slow w k.host }
    ≡ record h { host = with_view (gave r.id (history r) k.host.slow.pass.view) h.host }
target h k at r w taken given rest =
    ap (λ (x : Worker). record k { host = with_slow x k.host })
    (rest ∙ ap (λ (v : View). record (k.host.slow) { pass = record (k.host.slow.pass) { view = v } }) given)
    ∙ ap (λ (x : Staffed). record x { host = with_view (gave r.id (history r) k.host.slow.pass.view) x.host })
    taken.same

-- and it was given back
pub given_to : ((core t : ℕ) (d : Deed) → IsSend core t d → KeepsColumn d) → (h k : Staffed) (at : ℕ) (r : Flow)
    (w : Worker) → IsStaffSound h → IsTakenAt at r h k → w.pass.view ≡ gave r.id (history r) k.host.slow.pass.view
    → w ≡ record (k.host.slow) { pass = record (k.host.slow.pass) { view = w.pass.view } }
    → IsStep (λ (x : Host). x) h (record k { host = with_slow w k.host })
    × KeepsTime h (record k { host = with_slow w k.host })
given_to sends_keep h k at r w sound taken given rest =
    subst (λ (x : Staffed). IsStep (λ (y : Host). y) h x × KeepsTime h x) (sym (target h k at r w taken given rest))
    (given_back sends_keep h at r k.host.slow.pass.view sound taken.pinned)

pub filed_to : ((core t : ℕ) (d : Deed) → IsSend core t d → KeepsColumn d) → (h k : Staffed) (at : ℕ) (r : Flow)
    (w : Worker) → IsStaffSound h → IsTakenAt at r h k → w.pass.view ≡ gave r.id (history r) k.host.slow.pass.view
    → w ≡ record (k.host.slow) { pass = record (k.host.slow.pass) { view = w.pass.view } }
    → AreFiled h.host → AreFiled (with_slow w k.host)
filed_to sends_keep h k at r w sound taken given rest filed =
    subst (λ (x : Staffed). AreFiled x.host) (sym (target h k at r w taken given rest))
    (given_filed sends_keep h at r k.host.slow.pass.view sound taken.pinned filed)

-- ----- the answers
pub on_it : {A E P R : Type 0} (r : Result A E) → OnOk r P → (P → R) → OnOk r R
on_it (Ok a) p f = f p
on_it (Err e) p f = tt

-- what the law of kicks says, and that of segments
abbrev KicksKeepIt : Type 0
KicksKeepIt = (h : CoreHost) (c : Common) (w : Worker) → IsHostSound h → IsAllKicked c h.slow w
    → IsHostSound (with_slow w h) × (IsCounted h → IsCounted (with_slow w h)) × (host_of (with_slow w h) ≡ host_of h)

abbrev RestsAreEmissions : Type 0
RestsAreEmissions = (h : CoreHost) (tick : ℕ) (w : View) → IsHostSound h
    → AreUsed (IsAllSent 0 tick) h.slow.pins h.slow.pass.view w
    → IsHostSound (with_view w h) × (IsCounted h → IsCounted (with_view w h))
    × (host_of (with_view w h) ≡ emit_phase tick (host_of h))

pub kick_made : KicksKeepIt → (h n : Staffed) (c : Common) (w : Worker) → h ≡ n → c ≡ h.shared → IsStaffSound n
    → CanKick c w.kickers → IsAllKicked c h.host.slow w → IsKicked n (record h { host = with_slow w h.host })
kick_made law h n c w e ec sound kickers all =
    let s : IsStaffSound h = subst IsStaffSound (sym e) sound in
    subst (λ (k : Staffed). IsKicked k (record h { host = with_slow w h.host })) e
    (kicked h w s (subst (λ (x : Common). IsAllKicked x h.host.slow w) ec all)
    (subst (λ (x : Common). CanKick x w.kickers) ec kickers) (law h.host c w s.host all))

pub rest_made : RestsAreEmissions → (h n : Staffed) (t : ℕ) (w : Worker) → h ≡ n → IsStaffSound n
    → w.pass.table ≡ h.host.slow.pass.table → w ≡ record (h.host.slow) { pass = w.pass }
    → AreUsed (IsAllSent 0 t) h.host.slow.pins h.host.slow.pass.view w.pass.view
    → IsRestSent t n (record h { host = with_slow w h.host })
rest_made law h n t w e sound table rest all =
    let s : IsStaffSound h = subst IsStaffSound (sym e) sound in
    subst (λ (k : Staffed). IsRestSent t k (record h { host = with_slow w h.host })) e
    (rest_sent h w t s table rest (law h.host t w.pass.view s.host all))
