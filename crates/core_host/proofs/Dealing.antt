-- Frames that are handed to cores: for the answers for `CoreHost::hand_out`.
use Rattle.std.proofs.Common.{◌≡◌, ◌<◌, ◌≤◌, ◌+◌, ◌==◌, ℕ, zero, suc, Bool, true, false, cond, List, [], ◌∷◌, ◌++◌}
use Rattle.std.proofs.Common.{length, set, take, get_or, refl, sym, ap, ◌∙◌, subst, arith, append_assoc, eq-eqb, All}
use Rattle.std.proofs.lemmas.Bool.Decides.{nat_tests}
use Rattle.std.proofs.lemmas.List.{map-append, take_more}
use Rattle.std.specs.Prelude.{Some, slice_get}
use Rattle.std.specs.List.{AllZip}
use Rattle.host_rounds.specs.Lists.{Each}
use Rattle.core_worker.specs.declared.frames.Frame.{Frame}
use Rattle.core_phase.specs.declared.lane.Lane.{Lane}
use Rattle.core_phase.specs.declared.lane.Lane.TheVariants as lanes
use Rattle.frame_steering.specs.Giving.{given_to}
use Rattle.frame_steering.specs.Handing.{AreHandedOut}
use Rattle.frame_steering.specs.declared.handing.GroupMove.{GroupMove}
use Rattle.phase_orders.specs.Handing.{AreDealt, IsInGroup}
use Rattle.libtas_sockets.specs.Apps.{Application}
use Rattle.sound_phases.specs.Phased.{apps_in}
use Rattle.steering.specs.Tables.{Sight}
use Rattle.core_host.specs.declared.handing.Coming.{Coming}
use Rattle.core_host.specs.Handing.{coming, comings, IsCore, with_more, with_frame, dealt_from, IsEmpty, IsHandedOut}
use Rattle.core_host.specs.Sound.{AreApps, AreStaff, IsClear, IsStaffSound}
use Rattle.core_host.specs.Views.{Staffed}
use Rattle.core_host.proofs.Tries.{there_by}
use Rattle.core_host.proofs.Kin.{AreKin, kin_apps, kin_staff, kin_idle, kin_resting}

-- ----- one frame more
given_more : (k h : ℕ) (hs : List ℕ) (f : Frame) (fs : List Frame) → length hs ≡ length fs
    → given_to k (hs ++ h ∷ []) (fs ++ f ∷ []) ≡ given_to k hs fs ++ cond (h == k) (f ∷ []) []
given_more k h [] f [] same = refl
given_more k h [] f (g ∷ fs) same = absurd (cc (same))
given_more k h (c ∷ hs) f [] same = absurd (cc (same))
given_more k h (c ∷ hs) f (g ∷ fs) same = by (c == k) (given_more k h hs f fs (omega arith))
  where
    by : (t : Bool) → given_to k (hs ++ h ∷ []) (fs ++ f ∷ []) ≡ given_to k hs fs ++ cond (h == k) (f ∷ []) []
        → cond t (g ∷ given_to k (hs ++ h ∷ []) (fs ++ f ∷ [])) (given_to k (hs ++ h ∷ []) (fs ++ f ∷ []))
        ≡ cond t (g ∷ given_to k hs fs) (given_to k hs fs) ++ cond (h == k) (f ∷ []) []
    by true e = ap (λ l. g ∷ l) e
    by false e = e

more_twice : (fs gs : List Frame) (l : Lane) → with_more gs (with_more fs l) ≡ with_more (fs ++ gs) l
more_twice fs gs (lanes.Core l) =
    ap (λ (xs : List Frame). lanes.Core (record l { worker = record (l.worker) { frames = xs } }))
    (append_assoc l.worker.frames fs gs)
more_twice fs gs (lanes.App l) = refl

append_none : {A : Type 0} (xs : List A) → xs ++ [] ≡ xs
append_none [] = refl
append_none {A} (x ∷ xs) = ap (λ (l : List A). x ∷ l) (append_none xs)

others_still : (h first : ℕ) (hs : List ℕ) (f : Frame) (fs : List Frame) (ls : List Lane) → length hs ≡ length fs
    → h < first → dealt_from first (hs ++ h ∷ []) (fs ++ f ∷ []) ls ≡ dealt_from first hs fs ls
others_still h first hs f fs [] same below = refl
others_still h first hs f fs (l ∷ ls) same below =
    let other : (h == first) ≡ false = grind (arith, nat_tests) in
    let here : given_to first (hs ++ h ∷ []) (fs ++ f ∷ []) ≡ given_to first hs fs =
    given_more first h hs f fs same
    ∙ (ap (λ t. given_to first hs fs ++ cond t (f ∷ []) []) other ∙ append_none (given_to first hs fs)) in
    let more = others_still h (suc first) hs f fs ls same (omega arith) in
    λ i. with_more (here i) l ∷ more i

-- at the place of its core, counted from the first one
pub dealt_more : (h first j : ℕ) (hs : List ℕ) (f : Frame) (fs : List Frame) (ls : List Lane) (v w : Lane)
    → length hs ≡ length fs → h ≡ first + j → slice_get (dealt_from first hs fs ls) j ≡ Some v
    → w ≡ with_frame f v
    → set (dealt_from first hs fs ls) j w ≡ dealt_from first (hs ++ h ∷ []) (fs ++ f ∷ []) ls
dealt_more h first j hs f fs [] v w same at here is = absurd (cc (here))
dealt_more h first zero hs f fs (l ∷ ls) v w same at here is =
    let own : (h == first) ≡ true = eq-eqb h first (omega (arith, at)) in
    let found : v ≡ with_more (given_to first hs fs) l = cc (here) in
    let given : given_to first hs fs ++ f ∷ [] ≡ given_to first (hs ++ h ∷ []) (fs ++ f ∷ []) =
    ap (λ t. given_to first hs fs ++ cond t (f ∷ []) []) (sym own) ∙ sym (given_more first h hs f fs same) in
    let first-is : w ≡ with_more (given_to first (hs ++ h ∷ []) (fs ++ f ∷ [])) l =
    is ∙ (ap (with_frame f) found
    ∙ (more_twice (given_to first hs fs) (f ∷ []) l ∙ ap (λ gs. with_more gs l) given)) in
    let rest : dealt_from (suc first) (hs ++ h ∷ []) (fs ++ f ∷ []) ls ≡ dealt_from (suc first) hs fs ls =
    others_still h (suc first) hs f fs ls same (omega (arith, at)) in
    λ i. first-is i ∷ sym rest i
dealt_more h first (suc j) hs f fs (l ∷ ls) v w same at here is =
    let other : (h == first) ≡ false = grind (arith, nat_tests, at) in
    let given : given_to first hs fs ≡ given_to first (hs ++ h ∷ []) (fs ++ f ∷ []) =
    sym (given_more first h hs f fs same
    ∙ (ap (λ t. given_to first hs fs ++ cond t (f ∷ []) []) other ∙ append_none (given_to first hs fs))) in
    let more = dealt_more h (suc first) j hs f fs ls v w same (omega (arith, at)) here is in
    λ i. with_more (given i) l ∷ more i

-- ----- nothing yet
pub dealt_none : (first : ℕ) (ls : List Lane) → dealt_from first [] [] ls ≡ ls
dealt_none first [] = refl
dealt_none first (lanes.Core l ∷ ls) =
    let more = dealt_none (suc first) ls in
    λ i. lanes.Core (record l { worker = record (l.worker) { frames = append_none l.worker.frames i } }) ∷ more i
dealt_none first (lanes.App l ∷ ls) = ap (λ k. lanes.App l ∷ k) (dealt_none (suc first) ls)

-- ----- lanes with frames
pub dealt_kin : (first : ℕ) (hs : List ℕ) (fs : List Frame) (ls : List Lane) → AreKin ls (dealt_from first hs fs ls)
dealt_kin first hs fs [] = refl
dealt_kin first hs fs (lanes.Core l ∷ ls) = (refl, dealt_kin (suc first) hs fs ls)
dealt_kin first hs fs (lanes.App l ∷ ls) = (refl, dealt_kin (suc first) hs fs ls)

apps_dealt : (cores first : ℕ) (names : List ℕ) (hs : List ℕ) (fs : List Frame) (ls : List Lane) → cores ≤ first
    → AreApps names ls → AreDealt cores hs fs first (dealt_from first hs fs ls)
apps_dealt cores first [] hs fs ls past are =
    subst (λ k. AreDealt cores hs fs first (dealt_from first hs fs k)) (sym are) past
apps_dealt cores first (n ∷ ns) hs fs [] past are = absurd are
apps_dealt cores first (n ∷ ns) hs fs (lanes.Core l ∷ ls) past are = absurd are
apps_dealt cores first (n ∷ ns) hs fs (lanes.App l ∷ ls) past are =
    (past, apps_dealt cores (suc first) ns hs fs ls (omega arith) are.1)

pub are_dealt : (cores n first : ℕ) (names : List ℕ) (hs : List ℕ) (fs : List Frame) (ls : List Lane)
    → cores ≡ first + n → AreStaff n first names ls → Each IsClear ls
    → AreDealt cores hs fs first (dealt_from first hs fs ls)
are_dealt cores zero first names hs fs ls is are clear = apps_dealt cores first names hs fs ls (omega (arith, is)) are
are_dealt cores (suc n) first names hs fs [] is are clear = absurd are
are_dealt cores (suc n) first names hs fs (lanes.App l ∷ ls) is are clear = absurd are
are_dealt cores (suc n) first names hs fs (lanes.Core l ∷ ls) is are clear = (
  omega (arith, is),
  are.0,
  ap (λ xs. xs ++ given_to first hs fs) clear.0.0,
  are_dealt cores n (suc first) names hs fs ls (omega (arith, is)) are.1 clear.1,
)

dealt_empty : (first : ℕ) (hs : List ℕ) (fs : List Frame) (ls : List Lane) → Each IsClear ls
    → Each IsEmpty (dealt_from first hs fs ls)
dealt_empty first hs fs [] clear = tt
dealt_empty first hs fs (lanes.Core l ∷ ls) clear = (
  (clear.0.1, clear.0.2, clear.0.3),
  dealt_empty (suc first) hs fs
      ls clear.1,
)
dealt_empty first hs fs (lanes.App l ∷ ls) clear = (tt, dealt_empty (suc first) hs fs ls clear.1)

-- ----- the core of each frame has its place
pub core_there : (n first : ℕ) (names : List ℕ) (ls : List Lane) (j : ℕ) (l : Lane) → AreStaff n first names ls → j < n
    → slice_get ls j ≡ Some l → IsCore l
core_there zero first names ls j l are below at = absurd (omega arith)
core_there (suc n) first names [] j l are below at = absurd are
core_there (suc n) first names (lanes.App k ∷ ls) j l are below at = absurd are
core_there (suc n) first names (lanes.Core k ∷ ls) zero l are below at =
    let e : lanes.Core k ≡ l = cc (at) in subst IsCore e tt
core_there (suc n) first names (lanes.Core k ∷ ls) (suc j) l are below at =
    core_there n (suc first) names ls j l are.1 (omega arith) at

pub staff_long : (n first : ℕ) (names : List ℕ) (ls : List Lane) → AreStaff n first names ls → n ≤ length ls
staff_long zero first names ls are = omega arith
staff_long (suc n) first names [] are = absurd are
staff_long (suc n) first names (lanes.App k ∷ ls) are = absurd are
staff_long (suc n) first names (lanes.Core k ∷ ls) are =
    let more = staff_long n (suc first) names ls are.1 in omega (arith, more)

-- ----- one frame more in the lists
zip_more : {X Y : Type 0} (R : X → Y → Type 0) (xs : List X) (ys : List Y) (x : X) (y : Y) → AllZip R xs ys → R x y
    → AllZip R (xs ++ x ∷ []) (ys ++ y ∷ [])
zip_more R [] [] x y z r = (r, tt)
zip_more R [] (b ∷ ys) x y z r = absurd z
zip_more R (a ∷ xs) [] x y z r = absurd z
zip_more R (a ∷ xs) (b ∷ ys) x y z r = (z.0, zip_more R xs ys x y z.1 r)

zip_long : {X Y : Type 0} (R : X → Y → Type 0) (xs : List X) (ys : List Y) → AllZip R xs ys → length ys ≡ length xs
zip_long R [] [] z = refl
zip_long R [] (y ∷ ys) z = absurd z
zip_long R (x ∷ xs) [] z = absurd z
zip_long R (x ∷ xs) (y ∷ ys) z = ap suc (zip_long R xs ys z.1)

comings_long : (fs : List Coming) → length (comings fs) ≡ length fs
comings_long [] = refl
comings_long (f ∷ fs) = ap suc (comings_long fs)

comings_more : (fs : List Coming) (i : ℕ) (d : Coming) → i < length fs
    → comings (take (i + 1) fs) ≡ comings (take i fs) ++ coming (get_or fs i d) ∷ []
comings_more fs i d near = ap comings (take_more fs i d near) ∙ map-append coming (take i fs) (get_or fs i d ∷ [])

firsts_long : (hs : List ℕ) (fs : List Coming) (i : ℕ) → length hs ≡ length fs
    → length (take i hs) ≡ length (comings (take i fs))
firsts_long hs fs zero same = refl
firsts_long [] [] (suc i) same = refl
firsts_long [] (f ∷ fs) (suc i) same = absurd (cc (same))
firsts_long (h ∷ hs) [] (suc i) same = absurd (cc (same))
firsts_long (h ∷ hs) (f ∷ fs) (suc i) same = ap suc (firsts_long hs fs i (omega (arith, same)))

pub groups_more : (fs : List Coming) (i : ℕ) (d : Coming) (gs hs : List ℕ) (g : ℕ) → i < length fs → hs ≡ gs ++ g ∷ []
    → AllZip IsInGroup (comings (take i fs)) gs → IsInGroup (coming (get_or fs i d)) g
    → AllZip IsInGroup (comings (take (i + 1) fs)) hs
groups_more fs i d gs hs g near is z r =
    subst (λ l. AllZip IsInGroup (comings (take (i + 1) fs)) l) (sym is)
    (subst (λ l. AllZip IsInGroup l (gs ++ g ∷ [])) (sym (comings_more fs i d near))
    (zip_more IsInGroup (comings (take i fs)) gs (coming (get_or fs i d)) g z r))

pub groups_long : (fs : List Coming) (gs hs : List ℕ) → AllZip IsInGroup (comings fs) gs → length hs ≡ length gs
    → length hs ≡ length fs
groups_long fs gs hs z same = same ∙ (zip_long IsInGroup (comings fs) gs z ∙ comings_long fs)

module _ (ls ms : List Lane) (handed : List ℕ) (frames : List Coming) (i : ℕ) (same : length handed ≡ length frames)
    (near : i < length frames) (dealt : ms ≡ dealt_from 0 (take i handed) (comings (take i frames)) ls) where
  pub hand_more : (d : ℕ) (e : Coming) (v w : Lane) → get_or handed i d < length ms
      → v ≡ get_or ms (get_or handed i d) v → w ≡ with_frame (coming (get_or frames i e)) v
      → set ms (get_or handed i d) w ≡ dealt_from 0 (take (i + 1) handed) (comings (take (i + 1) frames)) ls
  hand_more d e v w low read is =
      let h : ℕ = get_or handed i d in
      let f : Coming = get_or frames i e in
      let below : i < length handed = omega (arith, near, same) in
      let names : take (i + 1) handed ≡ take i handed ++ h ∷ [] = take_more handed i d below in
      let more : comings (take (i + 1) frames) ≡ comings (take i frames) ++ coming f ∷ [] =
      comings_more frames i e near in
      let zero_on : h ≡ 0 + h = omega arith in
      ap (λ (l : List Lane). set l h w) dealt
      ∙ (dealt_more h 0 h (take i handed) (coming f) (comings (take i frames)) ls v w
      (firsts_long handed frames i same) zero_on
      (ap (λ (l : List Lane). slice_get l h) (sym dealt) ∙ there_by ms h v low read) is
      ∙ λ j. dealt_from 0 (sym names j) (sym more j) ls)

  module _ (cores : ℕ) (names : List ℕ) (are : AreStaff cores 0 names ls) (low : All (λ core. core < cores) handed)
    where
      still : AreStaff cores 0 names ms
      still = subst (AreStaff cores 0 names) (sym dealt)
          (kin_staff cores 0 names ls (dealt_from 0 (take i handed) (comings (take i frames)) ls) are
          (dealt_kin 0 (take i handed) (comings (take i frames)) ls))

      core_low : (d : ℕ) → get_or handed i d < cores
      core_low d = low i d (omega (arith, near, same))

      pub core_near : (d : ℕ) → get_or handed i d < length ms
      core_near d =
          let a = core_low d in
          let b = staff_long cores 0 names ms still in
          omega (arith, a, b)

      pub core_is : (d : ℕ) (v : Lane) → v ≡ get_or ms (get_or handed i d) v → IsCore v
      core_is d v read =
          core_there cores 0 names ms (get_or handed i d) v still (core_low d)
          (there_by ms (get_or handed i d) v (core_near d) read)

-- ----- the host
pub handed_out : (h : Staffed) (moves : List GroupMove) (frames : List Frame) (groups handed : List ℕ) (steer : Sight)
    → IsStaffSound h → Each IsClear h.lanes → AllZip IsInGroup frames groups
    → AreHandedOut h.cores h.steer.tables moves groups handed steer.tables → All (λ core. core < h.cores) handed
    → steer.place ≡ h.steer.place
    → IsHandedOut moves frames h (record h { steer = steer; lanes = dealt_from 0 handed frames h.lanes })
handed_out h moves frames groups handed steer sound clear grouped steered below place = record {
  handed = record {
    groups = groups;
    handed = handed;
    grouped = grouped;
    steered = steered;
    below = below;
    dealt = are_dealt h.cores h.cores 0 h.names handed frames h.lanes (omega arith) sound.staff clear;
  };
  lanes = (handed, refl);
  empty = dealt_empty 0 handed frames h.lanes clear;
  sound = record {
    host = sound.host;
    counted = sound.counted;
    table = sound.table;
    senders = sound.senders;
    kickers = sound.kickers;
    timed = sound.timed;
    some = sound.some;
    steer = place ∙ sound.steer;
    apps = sound.apps ∙ sym (kin_apps h.lanes ls kin);
    staff = kin_staff h.cores 0 h.names h.lanes ls sound.staff kin;
    idle = kin_idle h.shared h.lanes ls sound.idle kin;
    resting = kin_resting h.host.slow.check_sums h.lanes ls sound.resting kin;
    room = sound.room;
  };
  same = refl;
}
  where
    ls : List Lane
    ls = dealt_from 0 handed frames h.lanes

    kin : AreKin h.lanes ls
    kin = dealt_kin 0 handed frames h.lanes

-- the host as its lanes have it
pub handed_view : (h : Staffed) (frames : List Frame) (handed : List ℕ) (steer : Sight) → IsStaffSound h
    → record h {
      host = record (h.host) { apps = apps_in (dealt_from 0 handed frames h.lanes) };
      steer = steer;
      lanes = dealt_from 0 handed frames h.lanes;
    }
    ≡ record h { steer = steer; lanes = dealt_from 0 handed frames h.lanes }
handed_view h frames handed steer sound =
    ap (λ (xs : List Application).
    record h {
      host = record (h.host) { apps = xs };
      steer = steer;
      lanes = dealt_from 0 handed frames h.lanes;
    })
    (kin_apps h.lanes (dealt_from 0 handed frames h.lanes) (dealt_kin 0 handed frames h.lanes) ∙ sym sound.apps)

pub handed_all : (h : Staffed) (moves : List GroupMove) (frames : List Frame) (groups handed : List ℕ) (steer : Sight)
    (ls : List Lane) → IsStaffSound h → Each IsClear h.lanes → AllZip IsInGroup frames groups
    → AreHandedOut h.cores h.steer.tables moves groups handed steer.tables → All (λ core. core < h.cores) handed
    → steer.place ≡ h.steer.place → ls ≡ dealt_from 0 handed frames h.lanes → (before : Staffed) → h ≡ before
    → IsHandedOut moves frames before
    (record h { host = record (h.host) { apps = apps_in ls }; steer = steer; lanes = ls })
handed_all h moves frames groups handed steer ls sound clear grouped steered below place is before were =
    subst (λ (x : Staffed). IsHandedOut moves frames x
    (record h { host = record (h.host) { apps = apps_in ls }; steer = steer; lanes = ls })) were
    (subst (λ (l : List Lane). IsHandedOut moves frames h
    (record h { host = record (h.host) { apps = apps_in l }; steer = steer; lanes = l })) (sym is)
    (subst (IsHandedOut moves frames h) (sym (handed_view h frames handed steer sound))
    (handed_out h moves frames groups handed steer sound clear grouped steered below place)))
