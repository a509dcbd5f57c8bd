-- One host's part in a phase of all hosts: for the answer for `host_is_played`.
use Rattle.std.proofs.Common.{◌≡◌, ◌<◌, ◌≤◌, ◌+◌, ℕ, zero, suc, Bool, List, [], ◌∷◌, ◌++◌, map, length, take, drop}
use Rattle.std.proofs.Common.{refl, sym, ap, ◌∙◌, subst, arith, All, length-append}
use Rattle.std.proofs.lemmas.List.{take_at, drop_at}
use Rattle.std.specs.Prelude.{Result, Ok, Err, OnOk}
use Rattle.std.specs.List.{AllZip}
use Rattle.host_rounds.specs.Lists.{Each}
use Rattle.flow_lock.specs.Orders.{Order}
use Rattle.flow_lock.specs.Passes.{new_turn}
use Rattle.flow_lock.specs.Plays.{IsOrdered, IsCounted}
use Rattle.flow_lock.specs.Steps.{IsAlone, HasAll}
use Rattle.flow_lock.specs.declared.view.View.{View}
use Rattle.core_worker.specs.Turns.{AreFramesDone, AreKicksDone, IsTurn}
use Rattle.core_worker.specs.Workers.{Common, Worker}
use Rattle.core_worker.specs.declared.frames.Frame.{Frame}
use Rattle.libtas_sockets.specs.Apps.{with_view}
use Rattle.core_phase.specs.Lanes.{IsIdle, IsReady, MayPlay, CanPlay, HasPlayed, Works, with_turns_of}
use Rattle.core_phase.specs.Parts.{come_back}
use Rattle.core_phase.specs.Phases.{AreLent, AreBack, AreParts, IsPhase}
use Rattle.core_phase.proofs.Cutting.{zip_take, zip_drop, zip_length}
use Rattle.core_phase.specs.declared.lane.AppLane.{AppLane}
use Rattle.core_phase.specs.declared.lane.CoreLane.{CoreLane}
use Rattle.core_phase.specs.declared.lane.Lane.{Lane}
use Rattle.core_phase.specs.declared.lane.Lane.TheVariants as lanes
use Rattle.host_books.specs.Books.{Book}
use Rattle.sound_hosts.specs.Counting as counting
use Rattle.sound_hosts.specs.Hosts.{CoreHost}
use Rattle.sound_hosts.specs.Sound.{IsHostSound}
use Rattle.sound_phases.specs.Phased.{apps_in, books_after, after_phase}
use Rattle.sound_phases.proofs.Apps.{try_left}
use Rattle.core_host.specs.Leaving.{leaver_of, books_by}
use Rattle.core_host.specs.Sharing.{in_tick, all_in_tick, IsEmptied, view_of, MayAllPlay, IsPlayed, shared_as, lent_by}
use Rattle.core_host.specs.Sharing.{IsReadyFor, IsBack}
use Rattle.core_host.specs.Sound.{AreApps, AreStaff, IsResting, IsStaffSound}
use Rattle.core_host.specs.Views.{Staffed}
use Rattle.core_host.proofs.Left.{left_all}
use Rattle.core_host.proofs.Staffs.{moved_lanes}

-- ----- lists
pub all_of : {X : Type 0} (P : X → Type 0) (xs : List X) → Each P xs → All P xs
all_of P [] each k d near = absurd (omega (arith, near))
all_of P (x ∷ xs) each zero d near = each.0
all_of P (x ∷ xs) each (suc k) d near = all_of P xs each.1 k d (omega (arith, near))

pub each_of : {X : Type 0} (P : X → Type 0) (xs : List X) → All P xs → Each P xs
each_of P [] all = tt
each_of P (x ∷ xs) all =
    (all 0 x (omega arith), each_of P xs (λ k d near. all (suc k) d (omega (arith, near))))

pub each_take : {X : Type 0} (P : X → Type 0) (n : ℕ) (xs : List X) → Each P xs → Each P (take n xs)
each_take P zero xs each = tt
each_take P (suc n) [] each = tt
each_take P (suc n) (x ∷ xs) each = (each.0, each_take P n xs each.1)

pub each_drop : {X : Type 0} (P : X → Type 0) (n : ℕ) (xs : List X) → Each P xs → Each P (drop n xs)
each_drop P zero xs each = each
each_drop P (suc n) [] each = tt
each_drop P (suc n) (x ∷ xs) each = each_drop P n xs each.1

pub ok_map : {T E P Q : Type 0} (r : Result T E) → (P → Q) → OnOk r P → OnOk r Q
ok_map (Ok x) f p = f p
ok_map (Err e) f p = tt

-- the first of all that played, and those behind them
pub front_played : (front own all ms : List Lane) (n : ℕ) → all ≡ front ++ own → n ≡ length front
    → AllZip HasPlayed all ms → AllZip HasPlayed front (take n ms)
front_played front own all ms n is same z =
    subst (λ ls. AllZip HasPlayed ls (take n ms)) (ap (take n) is ∙ take_at front own n (sym same))
    (zip_take HasPlayed n all ms z)

pub back_played : (front own all ms : List Lane) (n : ℕ) → all ≡ front ++ own → n ≡ length front
    → AllZip HasPlayed all ms → AllZip HasPlayed own (drop n ms)
back_played front own all ms n is same z =
    subst (λ ls. AllZip HasPlayed ls (drop n ms)) (ap (drop n) is ∙ drop_at front own n (sym same))
    (zip_drop HasPlayed n all ms z)

pub near_played : (front own all ms : List Lane) (n : ℕ) → all ≡ front ++ own → n ≡ length front
    → AllZip HasPlayed all ms → n ≤ length ms
near_played front own all ms n is same z =
    let long = zip_length HasPlayed all ms z in
    let sum : length all ≡ length front + length own = ap length is ∙ length-append front own in
    omega (arith, long, sum, same)

-- ----- in this tick
pub tick_idle : (c : Common) (t : ℕ) (ls : List Lane) → Each (IsIdle c) ls → Each (IsIdle c) (all_in_tick t ls)
tick_idle c t [] idle = tt
tick_idle c t (lanes.Core l ∷ ls) idle = (idle.0, tick_idle c t ls idle.1)
tick_idle c t (lanes.App l ∷ ls) idle = (idle.0, tick_idle c t ls idle.1)

pub tick_may : (t : ℕ) (ls : List Lane) → Each MayPlay ls → Each MayPlay (all_in_tick t ls)
tick_may t [] may = tt
tick_may t (lanes.Core l ∷ ls) may = (tt, tick_may t ls may.1)
tick_may t (lanes.App l ∷ ls) may = (may.0, tick_may t ls may.1)

pub tick_apps : (t : ℕ) (ls : List Lane) → apps_in (all_in_tick t ls) ≡ apps_in ls
tick_apps t [] = refl
tick_apps t (lanes.Core l ∷ ls) = tick_apps t ls
tick_apps t (lanes.App l ∷ ls) = ap (λ xs. l.app ∷ xs) (tick_apps t ls)

tick_leavers : (t : ℕ) (ls : List Lane) → map leaver_of (all_in_tick t ls) ≡ map leaver_of ls
tick_leavers t [] = refl
tick_leavers t (lanes.Core l ∷ ls) = ap (λ os. leaver_of (lanes.Core l) ∷ os) (tick_leavers t ls)
tick_leavers t (lanes.App l ∷ ls) = ap (λ os. leaver_of (lanes.App l) ∷ os) (tick_leavers t ls)

-- ----- what a turn leaves as it was
frames_stay : (c : Common) (tick : ℕ) (fs : List Frame) (v w : Worker) → AreFramesDone c tick fs v w
    → (w.core ≡ v.core) × (w.check_sums ≡ v.check_sums)
frames_stay c tick [] v w e = (ap (λ (x : Worker). x.core) e, ap (λ (x : Worker). x.check_sums) e)
frames_stay c tick (f ∷ fs) v w (m, one, more) =
    let r = frames_stay c tick fs m w more in (
      r.0 ∙ ap (λ (x : Worker). x.core) one.after,
      r.1 ∙ ap (λ (x : Worker). x.check_sums) one.after,
    )

kicks_stay : (c : Common) (tick count : ℕ) (v w : Worker) → AreKicksDone c tick count v w
    → (w.core ≡ v.core) × (w.check_sums ≡ v.check_sums)
kicks_stay c tick zero v w e = (ap (λ (x : Worker). x.core) e, ap (λ (x : Worker). x.check_sums) e)
kicks_stay c tick (suc n) v w (m, one, more) =
    let r = kicks_stay c tick n m w more in (
      r.0 ∙ ap (λ (x : Worker). x.core) one.after,
      r.1 ∙ ap (λ (x : Worker). x.check_sums) one.after,
    )

turn_stays : (c : Common) (tick : ℕ) (v w : Worker) → IsTurn c tick v w
    → (w.core ≡ v.core) × (w.check_sums ≡ v.check_sums)
turn_stays c tick v w (m, frames, kicks) =
    let a = frames_stay c tick v.frames v m frames in
    let b = kicks_stay c tick kicks.0 m w kicks.1 in
    (b.0 ∙ a.0, b.1 ∙ a.1)

-- the same core or application, of the same host
abbrev IsFellow : Lane → Lane → Type 0
IsFellow (lanes.Core v) (lanes.Core w) =
    (w.worker.core ≡ v.worker.core) × (w.worker.check_sums ≡ v.worker.check_sums) × (w.worker.frames ≡ [])
IsFellow (lanes.App v) (lanes.App w) = (w.app.number ≡ v.app.number) × (w.host ≡ v.host)
IsFellow v w = ⊥

abbrev AreFellows : List Lane → List Lane → Type 0
AreFellows [] ws = ws ≡ []
AreFellows (v ∷ vs) [] = ⊥
AreFellows (v ∷ vs) (w ∷ ws) = IsFellow v w × AreFellows vs ws

core_is : (x y : CoreLane) → lanes.Core x ≡ lanes.Core y → x ≡ y
core_is x y e = cc (e)

app_is : (x y : AppLane) → lanes.App x ≡ lanes.App y → x ≡ y
app_is x y e = cc (e)

fellow_by : (p t : ℕ) (l after w : Lane) → MayPlay l
    → HasPlayed (with_turns_of (new_turn p ∷ []) (in_tick t l)) after → Works after → w ≡ with_turns_of [] after
    → IsFellow l w
fellow_by p t (lanes.Core l) (lanes.App m) w may did fine back = absurd did
fellow_by p t (lanes.App l) (lanes.Core m) w may did fine back = absurd did
fellow_by p t (lanes.Core l) (lanes.Core m) w may did fine back =
    let r = turn_stays _ t _ m.worker (did.played fine) in
    subst (IsFellow (lanes.Core l)) (sym back) (r.0, r.1, did.empty fine)
fellow_by p t (lanes.App l) (lanes.App m) w may did fine back =
    let u : View = record (m.app.pass.view) { turns = [] } in
    let left = try_left l.socket u refl t (with_view (record (l.app.pass.view) { turns = new_turn p ∷ [] }) l.app) m.app
    l.attempt m.attempt m.answer may.0 did.tried in
    subst (IsFellow (lanes.App l)) (sym back) (left.number, ap (λ (x : AppLane). x.host) did.same)

fellows : (order : Order) (p t : ℕ) (ls ws : List Lane) → Each MayPlay ls → AreParts order p (all_in_tick t ls) ws
    → AreFellows ls ws
fellows order p t [] ws may parts = parts
fellows order p t (l ∷ ls) [] may parts = absurd parts
fellows order p t (l ∷ ls) (w ∷ ws) may parts = (
  fellow_by p t l parts.0.after w may.0 parts.0.did parts.0.works parts.0.back,
  fellows order (suc p) t ls ws may.1 parts.1,
)

fellow_names : (names : List ℕ) (vs ws : List Lane) → AreApps names vs → AreFellows vs ws → AreApps names ws
fellow_names [] vs ws are alike = subst (λ l. AreFellows l ws) are alike
fellow_names (n ∷ ns) [] ws are alike = absurd are
fellow_names (n ∷ ns) (v ∷ vs) [] are alike = absurd alike
fellow_names (n ∷ ns) (lanes.Core v ∷ vs) (w ∷ ws) are alike = absurd are
fellow_names (n ∷ ns) (lanes.App v ∷ vs) (lanes.Core w ∷ ws) are alike = absurd alike.0
fellow_names (n ∷ ns) (lanes.App v ∷ vs) (lanes.App w ∷ ws) are alike =
    (alike.0.0 ∙ are.0, fellow_names ns vs ws are.1 alike.1)

fellow_staff : (n first : ℕ) (names : List ℕ) (vs ws : List Lane) → AreStaff n first names vs → AreFellows vs ws
    → AreStaff n first names ws
fellow_staff zero first names vs ws are alike = fellow_names names vs ws are alike
fellow_staff (suc n) first names [] ws are alike = absurd are
fellow_staff (suc n) first names (v ∷ vs) [] are alike = absurd alike
fellow_staff (suc n) first names (lanes.App v ∷ vs) (w ∷ ws) are alike = absurd are
fellow_staff (suc n) first names (lanes.Core v ∷ vs) (lanes.App w ∷ ws) are alike = absurd alike.0
fellow_staff (suc n) first names (lanes.Core v ∷ vs) (lanes.Core w ∷ ws) are alike =
    (alike.0.0 ∙ are.0, fellow_staff n (suc first) names vs ws are.1 alike.1)

fellow_resting : (check : Bool) (vs ws : List Lane) → Each (IsResting check) vs → AreFellows vs ws
    → Each (IsResting check) ws
fellow_resting check [] ws are alike = subst (Each (IsResting check)) (sym alike) tt
fellow_resting check (v ∷ vs) [] are alike = absurd alike
fellow_resting check (lanes.Core v ∷ vs) (lanes.App w ∷ ws) are alike = absurd alike.0
fellow_resting check (lanes.App v ∷ vs) (lanes.Core w ∷ ws) are alike = absurd alike.0
fellow_resting check (lanes.Core v ∷ vs) (lanes.Core w ∷ ws) are alike =
    (alike.0.1 ∙ are.0, fellow_resting check vs ws are.1 alike.1)
fellow_resting check (lanes.App v ∷ vs) (lanes.App w ∷ ws) are alike =
    (subst (λ (n : ℕ). n < 67108863) (sym alike.0.1) are.0, fellow_resting check vs ws are.1 alike.1)

fellow_emptied : (vs ws : List Lane) → AreFellows vs ws → Each IsEmptied ws
fellow_emptied [] ws alike = subst (Each IsEmptied) (sym alike) tt
fellow_emptied (v ∷ vs) [] alike = absurd alike
fellow_emptied (lanes.Core v ∷ vs) (lanes.App w ∷ ws) alike = absurd alike.0
fellow_emptied (lanes.App v ∷ vs) (lanes.Core w ∷ ws) alike = absurd alike.0
fellow_emptied (lanes.Core v ∷ vs) (lanes.Core w ∷ ws) alike = (alike.0.2, fellow_emptied vs ws alike.1)
fellow_emptied (lanes.App v ∷ vs) (lanes.App w ∷ ws) alike = (tt, fellow_emptied vs ws alike.1)

-- ----- the laws of phases
abbrev pub PlayLaw : Type 0
PlayLaw = (c : Common) (v : View) (vs ls : List Lane) → All (IsIdle c) vs → All MayPlay vs → AreLent v.made vs ls
    → All CanPlay ls

abbrev pub ReadyLaw : Type 0
ReadyLaw = (c : Common) (v : View) (vs ls ms : List Lane) → IsAlone v → All (IsIdle c) vs → AreLent v.made vs ls
    → AllZip HasPlayed ls ms → All Works ms → All (IsReady c) ms × HasAll (come_back vs ms v)

abbrev pub PhaseLaw : Type 0
PhaseLaw = (c : Common) (v w : View) (vs ls ms ws : List Lane) → IsAlone v → All (IsIdle c) vs → AreLent v.made vs ls
    → AllZip HasPlayed ls ms → All Works ms → AreBack ms ws
    → (order : Order) × IsOrdered order (come_back vs ms v) w → IsCounted (come_back vs ms v) w
    → All (IsIdle c) ws × IsPhase vs ws v w

abbrev pub KeepLaw : Type 0
KeepLaw = (h : CoreHost) (vs ws : List Lane) (w : View) → IsHostSound h → apps_in vs ≡ h.apps → All MayPlay vs
    → IsPhase vs ws h.slow.pass.view w → IsHostSound (after_phase vs ws w h)

abbrev pub CountLaw : Type 0
CountLaw = (h : CoreHost) (vs ws : List Lane) (w : View) → counting.IsCounted h → IsPhase vs ws h.slow.pass.view w
    → counting.IsCounted (after_phase vs ws w h)

-- ----- one host
module _ (t : ℕ) (h : Staffed) (own : List Lane) (sound : IsStaffSound h) (may : MayAllPlay h)
    (lent : AreLent (view_of h).made (all_in_tick t h.lanes) own) where
  abbrev vs : List Lane
  vs = all_in_tick t h.lanes

  abbrev g : Staffed
  g = lent_by (length vs) h

  idle : All (IsIdle h.shared) vs
  idle = all_of (IsIdle h.shared) vs (tick_idle h.shared t h.lanes sound.idle)

  may_vs : All MayPlay vs
  may_vs = all_of MayPlay vs (tick_may t h.lanes may)

  pub own_plays : PlayLaw → Each CanPlay own
  own_plays law = each_of CanPlay own (law h.shared (view_of h) vs own idle may_vs lent)

  module _ (ms : List Lane) (played : AllZip HasPlayed own ms) (fine : Each Works ms) where
    pub own_ready : ReadyLaw → IsReadyFor ms g
    own_ready law =
        let r = law h.shared (view_of h) vs own ms sound.host.alone idle lent played (all_of Works ms fine) in
        record {
          table = sound.host.sound.0.ready.0 ∙ sound.table;
          baton = sound.host.alone.0;
          all = r.1;
          lanes = each_of (IsReady h.shared) ms r.0;
        }

    module _ (k : Staffed) (back : IsBack (map leaver_of h.lanes) ms g k) where
      abbrev ws : List Lane
      ws = k.lanes

      abbrev w : View
      w = view_of k

      phased : PhaseLaw → All (IsIdle h.shared) ws × IsPhase vs ws (view_of h) w
      phased law =
          law h.shared (view_of h) w vs own ms ws sound.host.alone idle lent played (all_of Works ms fine) back.lanes
          back.order back.words

      abbrev n : CoreHost
      n = after_phase vs ws w h.host

      same_books : books_by (map leaver_of h.lanes) ws h.host.books ≡ books_after vs ws h.host.books
      same_books =
          ap (λ os. books_by os ws h.host.books) (sym (tick_leavers t h.lanes)) ∙ left_all vs ws h.host.books

      is : k ≡ record h { host = n; lanes = ws }
      is = back.same ∙ ap (λ (bs : List Book). shared_as w ws bs h) same_books

      pub one_played : PhaseLaw → KeepLaw → CountLaw → IsPlayed t h k
      one_played law keep count =
          let r = phased law in
          let alike = fellows r.1.order 0 t h.lanes ws may r.1.parts in
          let still : IsStaffSound (record h { host = n; lanes = ws }) =
          moved_lanes h n ws sound
          (keep h.host vs ws w sound.host (tick_apps t h.lanes ∙ sym sound.apps) may_vs r.1)
          (count h.host vs ws w sound.counted r.1) refl refl refl sound.senders sound.kickers sound.timed
          (fellow_staff h.cores 0 h.names h.lanes ws sound.staff alike)
          (each_of (IsIdle h.shared) ws r.0)
          (fellow_resting h.host.slow.check_sums h.lanes ws sound.resting alike) in
          record {
            may = may;
            phase = r.1;
            host = ap (λ (x : Staffed). x.host) is;
            sound = subst IsStaffSound (sym is) still;
            same = is ∙ ap (λ (x : CoreHost). record h { host = x; lanes = ws }) (sym (ap (λ (x : Staffed). x.host)
                is));
            taken = fellow_emptied h.lanes ws alike;
          }
