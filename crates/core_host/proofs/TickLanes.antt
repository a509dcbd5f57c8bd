-- Lanes in a tick: what they are set out with, and what is left of them: for the laws of a tick.
use Rattle.std.proofs.Common.{◌≡◌, ◌+◌, ℕ, zero, suc, Bool, List, [], ◌∷◌, ◌++◌, map, refl, sym, ap, ◌∙◌}
use Rattle.std.proofs.Common.{subst, arith, ◌<◌}
use Rattle.std.specs.Prelude.{Option, Some, None, ⊤}
use Rattle.host_rounds.specs.Lists.{Each}
use Rattle.host_rounds.specs.Scripts.{Scripts}
use Rattle.flow_lock.specs.Orders.{Order, of}
use Rattle.flow_lock.specs.declared.view.Deed.{Deed}
use Rattle.host_books.specs.Books.{Book, Setting}
use Rattle.host_books.specs.Tries.{Try}
use Rattle.host_books.specs.Words.{joined}
use Rattle.core_worker.specs.Turns.{deferred_by, exceptions_by}
use Rattle.core_worker.specs.Workers.{Worker}
use Rattle.core_worker.specs.declared.frames.Frame.{Frame}
use Rattle.core_worker.specs.declared.frames.Handled.{Handled}
use Rattle.core_phase.specs.Attempts.{pin_left}
use Rattle.core_phase.specs.Deeds.{IsTurnOf, gathered, lines_by}
use Rattle.core_phase.specs.Phases.{AreParts}
use Rattle.core_phase.specs.declared.attempt.Attempt.{Attempt}
use Rattle.core_phase.specs.declared.lane.AppLane.{AppLane}
use Rattle.core_phase.specs.declared.lane.CoreLane.{CoreLane}
use Rattle.core_phase.specs.declared.lane.Lane.{Lane}
use Rattle.core_phase.specs.declared.lane.Lane.TheVariants as lanes
use Rattle.phase_orders.specs.Collecting.{exceptions_of, deferred_of, log_of, HasNoLines, all_passed}
use Rattle.phase_orders.specs.CoreTurns.{arrivals_of}
use Rattle.phase_orders.specs.Handing.{AreDealt}
use Rattle.phase_orders.specs.Lanes.{IsTryBy, IsSetOut, AreSetOut, IsAsk, IsApart, AreAllApart}
use Rattle.phase_orders.specs.Ticks.{HasNoFrames, IsSilent}
use Rattle.libtas_sockets.specs.Apps.{flow_of}
use Rattle.sound_hosts.specs.Leaving.{books_left}
use Rattle.sound_phases.specs.Phased as phased
use Rattle.core_host.specs.Emission.{AreButTried}
use Rattle.core_host.specs.Handing.{dealt_from}
use Rattle.core_host.specs.Serving.{cleared}
use Rattle.core_host.specs.Sharing.{in_tick, all_in_tick, IsEmptied}
use Rattle.core_host.specs.Sound.{AreApps, AreStaff, IsResting, IsClear, IsUnasked}
use Rattle.core_host.specs.Ticks.{AreSetTo}

-- ----- lanes that passed nothing on
-- a core passed nothing on, and wrote no line
abbrev pub IsEmpty : Lane → Type 0
IsEmpty (lanes.Core l) = (l.worker.exceptions ≡ []) × (l.worker.deferred ≡ []) × (l.worker.log ≡ [])
IsEmpty (lanes.App l) = ⊤

pub clear_empty : (vs : List Lane) → Each IsClear vs → Each IsEmpty vs
clear_empty [] each = tt
clear_empty (lanes.Core v ∷ vs) each = ((each.0.1, each.0.2, each.0.3), clear_empty vs each.1)
clear_empty (lanes.App v ∷ vs) each = (tt, clear_empty vs each.1)

-- so it is when it was handed frames
pub dealt_empty : (first : ℕ) (hs : List ℕ) (fs : List Frame) (vs : List Lane) → Each IsClear vs
    → Each IsEmpty (dealt_from first hs fs vs)
dealt_empty first hs fs [] each = tt
dealt_empty first hs fs (lanes.Core v ∷ vs) each =
    ((each.0.1, each.0.2, each.0.3), dealt_empty (suc first) hs fs vs each.1)
dealt_empty first hs fs (lanes.App v ∷ vs) each = (tt, dealt_empty (suc first) hs fs vs each.1)

-- ----- set out
module _ (check : Bool) (cores t : ℕ) {S A : Type 0} where
  core_out : (o : Option (Try S A)) (v w : CoreLane) (n : ℕ) → w ≡ v → o ≡ None → v.worker.core ≡ n → n < cores
      → v.worker.check_sums ≡ check → IsEmpty (lanes.Core v) → IsSetOut check cores t o (in_tick t (lanes.Core w))
  core_out o v w n same none core below checks empty =
      subst (λ (x : CoreLane). IsSetOut check cores t o (lanes.Core (record x { tick = t }))) (sym same) (
        none,
        record {
          tick = refl;
          below = subst (λ (k : ℕ). k < cores) (sym core) below;
          checks = checks;
          exceptions = empty.0;
          deferred = empty.1;
        },
      )

  try_still : (o : Option (Try S A)) (w : AppLane) → IsTryBy o w → IsTryBy o (record w { tick = t })
  try_still None w is = is
  try_still (Some x) w is = is

  -- applications' lanes
  apps_out : (names : List ℕ) (os : List (Option (Try S A))) (vs ws : List Lane) → AreApps names vs → AreButTried vs ws
      → AreSetTo os ws → AreSetOut check cores t os (all_in_tick t ws)
  apps_out [] os vs ws are tried to = by os ws (subst (λ (l : List Lane). AreButTried l ws) are tried) to where
    by : (qs : List (Option (Try S A))) (ls : List Lane) → ls ≡ [] → AreSetTo qs ls
        → AreSetOut check cores t qs (all_in_tick t ls)
    by [] [] none set = tt
    by [] (l ∷ ls) none set = absurd set
    by (q ∷ qs) [] none set = absurd set
    by (q ∷ qs) (l ∷ ls) none set = absurd (cc (none))
  apps_out (n ∷ ns) os [] ws are tried to = absurd are
  apps_out (n ∷ ns) os (lanes.Core v ∷ vs) ws are tried to = absurd are
  apps_out (n ∷ ns) os (lanes.App v ∷ vs) [] are tried to = absurd tried
  apps_out (n ∷ ns) os (lanes.App v ∷ vs) (lanes.Core w ∷ ws) are tried to = absurd tried.0
  apps_out (n ∷ ns) [] (lanes.App v ∷ vs) (lanes.App w ∷ ws) are tried to = absurd to
  apps_out (n ∷ ns) (o ∷ os) (lanes.App v ∷ vs) (lanes.App w ∷ ws) are tried to =
      ((refl, try_still o w to.0), apps_out ns os vs ws are.1 tried.1 to.1)

  -- the lanes of cores from this number on, and then those of applications
  pub set_out : (n first : ℕ) (names : List ℕ) (os : List (Option (Try S A))) (vs ws : List Lane) → first + n ≡ cores
      → AreStaff n first names vs → Each (IsResting check) vs → Each IsEmpty vs → AreButTried vs ws → AreSetTo os ws
      → AreSetOut check cores t os (all_in_tick t ws)
  set_out zero first names os vs ws count are rest empty tried to = apps_out names os vs ws are tried to
  set_out (suc n) first names os [] ws count are rest empty tried to = absurd are
  set_out (suc n) first names os (lanes.App v ∷ vs) ws count are rest empty tried to = absurd are
  set_out (suc n) first names os (lanes.Core v ∷ vs) [] count are rest empty tried to = absurd tried
  set_out (suc n) first names os (lanes.Core v ∷ vs) (lanes.App w ∷ ws) count are rest empty tried to =
      absurd tried.0
  set_out (suc n) first names [] (lanes.Core v ∷ vs) (lanes.Core w ∷ ws) count are rest empty tried to = absurd to
  set_out (suc n) first names (o ∷ os) (lanes.Core v ∷ vs) (lanes.Core w ∷ ws) count are rest empty tried to = (
    core_out o v w first tried.0 to.0 are.0 (omega (arith, count)) rest.0 empty.0,
    set_out n (suc first) names os vs ws (omega (arith, count)) are.1 rest.1 empty.1 tried.1 to.1,
  )

-- of two that are told of the same lanes, one is a core's at least
pub same_checks : (a b : Bool) (n : ℕ) (names : List ℕ) (vs : List Lane) → 0 < n → AreStaff n 0 names vs
    → Each (IsResting a) vs → Each (IsResting b) vs → a ≡ b
same_checks a b zero names vs some are one other = absurd (omega arith)
same_checks a b (suc n) names [] some are one other = absurd are
same_checks a b (suc n) names (lanes.App v ∷ vs) some are one other = absurd are
same_checks a b (suc n) names (lanes.Core v ∷ vs) some are one other = sym one.0 ∙ other.0

-- ----- frames that were handed out
pub dealt_still : (cores : ℕ) (handed : List ℕ) (fs : List Frame) (t core : ℕ) (vs ws : List Lane)
    → AreButTried vs ws → AreDealt cores handed fs core vs → AreDealt cores handed fs core (all_in_tick t ws)
dealt_still cores handed fs t core [] ws tried dealt =
    subst (λ (l : List Lane). AreDealt cores handed fs core (all_in_tick t l)) (sym tried) dealt
dealt_still cores handed fs t core (v ∷ vs) [] tried dealt = absurd tried
dealt_still cores handed fs t core (lanes.Core v ∷ vs) (lanes.App w ∷ ws) tried dealt = absurd tried.0
dealt_still cores handed fs t core (lanes.App v ∷ vs) (lanes.Core w ∷ ws) tried dealt = absurd tried.0
dealt_still cores handed fs t core (lanes.Core v ∷ vs) (lanes.Core w ∷ ws) tried dealt = (
  dealt.0,
  ap (λ (x : CoreLane). x.worker.core) tried.0 ∙ dealt.1,
  ap (λ (x : CoreLane). x.worker.frames) tried.0 ∙ dealt.2,
  dealt_still cores handed fs t (suc core) vs ws tried.1 dealt.3,
)
dealt_still cores handed fs t core (lanes.App v ∷ vs) (lanes.App w ∷ ws) tried dealt =
    (dealt.0, dealt_still cores handed fs t (suc core) vs ws tried.1 dealt.1)

-- ----- what cores left
-- it is the same where only tries are different
module _ {X : Type 0} (of_lane : Lane → List X) (none : (l : AppLane) → of_lane (lanes.App l) ≡ []) where
  pub joined_still : (vs ws : List Lane) → AreButTried vs ws → joined of_lane ws ≡ joined of_lane vs
  joined_still [] ws tried = ap (joined of_lane) tried
  joined_still (v ∷ vs) [] tried = absurd tried
  joined_still (lanes.Core v ∷ vs) (lanes.App w ∷ ws) tried = absurd tried.0
  joined_still (lanes.App v ∷ vs) (lanes.Core w ∷ ws) tried = absurd tried.0
  joined_still (lanes.Core v ∷ vs) (lanes.Core w ∷ ws) tried =
      let more = joined_still vs ws tried.1 in λ i. of_lane (lanes.Core (tried.0 i)) ++ more i
  joined_still (lanes.App v ∷ vs) (lanes.App w ∷ ws) tried =
      let more = joined_still vs ws tried.1 in λ i. (none w ∙ sym (none v)) i ++ more i

pub lines_still : (vs ws : List Lane) → AreButTried vs ws → joined log_of ws ≡ joined log_of vs
lines_still vs ws tried = joined_still log_of (λ l. refl) vs ws tried

pub passed_still : (vs ws : List Lane) → AreButTried vs ws → all_passed ws ≡ all_passed vs
passed_still vs ws tried =
    let e = joined_still exceptions_of (λ l. refl) vs ws tried in
    let d = joined_still deferred_of (λ l. refl) vs ws tried in
    λ i. e i ++ d i

pub no_lines : (t : ℕ) (vs ws : List Lane) → AreButTried vs ws → Each IsEmpty vs → Each HasNoLines (all_in_tick t ws)
no_lines t [] ws tried empty = subst (λ (l : List Lane). Each HasNoLines (all_in_tick t l)) (sym tried) tt
no_lines t (v ∷ vs) [] tried empty = absurd tried
no_lines t (lanes.Core v ∷ vs) (lanes.App w ∷ ws) tried empty = absurd tried.0
no_lines t (lanes.App v ∷ vs) (lanes.Core w ∷ ws) tried empty = absurd tried.0
no_lines t (lanes.Core v ∷ vs) (lanes.Core w ∷ ws) tried empty =
    (ap (λ (x : CoreLane). x.worker.log) tried.0 ∙ empty.0.2, no_lines t vs ws tried.1 empty.1)
no_lines t (lanes.App v ∷ vs) (lanes.App w ∷ ws) tried empty = (refl, no_lines t vs ws tried.1 empty.1)

-- ----- lanes with nothing to do
-- what was served is empty, and cores took all frames
pub served_clear : (vs : List Lane) → Each IsEmptied vs → Each IsClear (map cleared vs)
served_clear [] each = tt
served_clear (lanes.Core v ∷ vs) each = ((each.0, refl, refl, refl), served_clear vs each.1)
served_clear (lanes.App v ∷ vs) each = (tt, served_clear vs each.1)

pub tried_emptied : (vs ws : List Lane) → AreButTried vs ws → Each IsEmptied vs → Each IsEmptied ws
tried_emptied [] ws tried each = subst (Each IsEmptied) (sym tried) tt
tried_emptied (v ∷ vs) [] tried each = absurd tried
tried_emptied (lanes.Core v ∷ vs) (lanes.App w ∷ ws) tried each = absurd tried.0
tried_emptied (lanes.App v ∷ vs) (lanes.Core w ∷ ws) tried each = absurd tried.0
tried_emptied (lanes.Core v ∷ vs) (lanes.Core w ∷ ws) tried each =
    (ap (λ (x : CoreLane). x.worker.frames) tried.0 ∙ each.0, tried_emptied vs ws tried.1 each.1)
tried_emptied (lanes.App v ∷ vs) (lanes.App w ∷ ws) tried each = (tt, tried_emptied vs ws tried.1 each.1)

pub tried_clear : (vs ws : List Lane) → AreButTried vs ws → Each IsClear vs → Each IsClear ws
tried_clear [] ws tried each = subst (Each IsClear) (sym tried) tt
tried_clear (v ∷ vs) [] tried each = absurd tried
tried_clear (lanes.Core v ∷ vs) (lanes.App w ∷ ws) tried each = absurd tried.0
tried_clear (lanes.App v ∷ vs) (lanes.Core w ∷ ws) tried each = absurd tried.0
tried_clear (lanes.Core v ∷ vs) (lanes.Core w ∷ ws) tried each =
    (subst (λ (x : CoreLane). IsClear (lanes.Core x)) (sym tried.0) each.0, tried_clear vs ws tried.1 each.1)
tried_clear (lanes.App v ∷ vs) (lanes.App w ∷ ws) tried each = (tt, tried_clear vs ws tried.1 each.1)

-- and it tries nothing still
pub served_unasked : (vs : List Lane) → Each IsUnasked vs → Each IsUnasked (map cleared vs)
served_unasked [] each = tt
served_unasked (lanes.Core v ∷ vs) each = (tt, served_unasked vs each.1)
served_unasked (lanes.App v ∷ vs) each = (each.0, served_unasked vs each.1)

-- no frame is handed to a lane in this tick
pub none_handed : (t : ℕ) (vs : List Lane) → Each IsClear vs → Each HasNoFrames (all_in_tick t vs)
none_handed t [] each = tt
none_handed t (lanes.Core v ∷ vs) each = (ap (arrivals_of v.worker.check_sums) each.0.0, none_handed t vs each.1)
none_handed t (lanes.App v ∷ vs) each = (refl, none_handed t vs each.1)

-- ----- a phase in which nothing is handed out and nothing tried
-- who had nothing left and was handed nothing has nothing left
turn_clear : (tick : ℕ) (v w : Worker) (ds : List Deed) → (v.frames ≡ []) × (v.exceptions ≡ []) × (v.deferred ≡ [])
    × (v.log ≡ []) → IsTurnOf tick v w ds
    → (w.frames ≡ []) × (w.exceptions ≡ []) × (w.deferred ≡ []) × (w.log ≡ [])
turn_clear tick v w ds clear turn = (
  turn.left.3,
  turn.left.1 ∙ both clear.1 (none exceptions_by),
  turn.left.0 ∙ both clear.2 (none deferred_by),
  turn.left.2 ∙ both clear.3 (none (lines_by tick)),
)
  where
    none : {X : Type 0} (g : Frame → Handled → List X) → gathered g v.frames turn.answers ≡ []
    none g = ap (λ (fs : List Frame). gathered g fs turn.answers) clear.0

    both : {X : Type 0} {xs ys : List X} → xs ≡ [] → ys ≡ [] → xs ++ ys ≡ []
    both a b = λ i. a i ++ b i

pub phase_clear : (order : Order) (p t : ℕ) (vs ws : List Lane) → AreParts order p (all_in_tick t vs) ws
    → Each IsClear vs → Each IsClear ws
phase_clear order p t [] ws parts each = subst (Each IsClear) (sym parts) tt
phase_clear order p t (v ∷ vs) [] parts each = absurd parts
phase_clear order p t (lanes.Core v ∷ vs) (lanes.Core w ∷ ws) parts each = (
  turn_clear t v.worker w.worker (of p order) each.0 parts.0.deeds,
  phase_clear order (suc p) t vs ws parts.1 each.1,
)
phase_clear order p t (lanes.App v ∷ vs) (lanes.App w ∷ ws) parts each =
    (tt, phase_clear order (suc p) t vs ws parts.1 each.1)
phase_clear order p t (lanes.Core v ∷ vs) (lanes.App w ∷ ws) parts each = absurd parts.0.deeds
phase_clear order p t (lanes.App v ∷ vs) (lanes.Core w ∷ ws) parts each = absurd parts.0.deeds

-- no socket is given up
pub quiet_books : (t : ℕ) (vs ws : List Lane) (books : List Book) → Each IsUnasked vs
    → phased.books_after (all_in_tick t vs) ws books ≡ books
quiet_books t [] ws books each = refl
quiet_books t (v ∷ vs) [] books each = refl
quiet_books t (lanes.Core v ∷ vs) (w ∷ ws) books each = quiet_books t vs ws books each.1
quiet_books t (lanes.App v ∷ vs) (lanes.Core w ∷ ws) books each = quiet_books t vs ws books each.1
quiet_books t (lanes.App v ∷ vs) (lanes.App w ∷ ws) books each =
    ap (λ (a : Attempt). phased.books_after (all_in_tick t vs) ws
    (books_left v.app.number (pin_left (flow_of v.app v.socket) a w.answer) books)) each.0.0
    ∙ quiet_books t vs ws books each.1

-- each script is silent
abbrev pub silent : (S A : Type 0) → List Lane → List (Option (Try S A))
silent S A ls = map (λ (l : Lane). None) ls

pub set_silent : (S A : Type 0) (vs : List Lane) → Each IsUnasked vs → AreSetTo (silent S A vs) vs
set_silent S A [] each = tt
set_silent S A (lanes.Core v ∷ vs) each = (refl, set_silent S A vs each.1)
set_silent S A (lanes.App v ∷ vs) each = (each.0.0, set_silent S A vs each.1)

pub tried_same : (vs : List Lane) → AreButTried vs vs
tried_same [] = refl
tried_same (lanes.Core v ∷ vs) = (refl, tried_same vs)
tried_same (lanes.App v ∷ vs) = (refl, tried_same vs)

pub all_silent : (S A : Type 0) (vs : List Lane) → Each IsSilent (silent S A vs)
all_silent S A [] = tt
all_silent S A (v ∷ vs) = (refl, all_silent S A vs)

module _ {S A : Type 0} (scripts : Scripts S A) (t : ℕ) where
  pub silent_stand : (s : Setting) (state : S) (vs : List Lane) → Each (IsAsk scripts t s state) (silent S A vs)
  silent_stand s state [] = tt
  silent_stand s state (v ∷ vs) = (tt, silent_stand s state vs)

  none_apart : (vs : List Lane) → Each (IsApart scripts t None) (silent S A vs)
  none_apart [] = tt
  none_apart (v ∷ vs) = (tt, none_apart vs)

  pub silent_apart : (vs : List Lane) → AreAllApart scripts t (silent S A vs)
  silent_apart [] = tt
  silent_apart (v ∷ vs) = (none_apart vs, silent_apart vs)
