-- A phase by its steps: for the law played_parts_are_phases.
use Rattle.std.proofs.Common.{◌≡◌, List, length, refl, sym, subst}
use Rattle.std.specs.Prelude.{All}
use Rattle.std.specs.List.{AllZip}
use Rattle.flow_lock.specs.Orders.{Order}
use Rattle.flow_lock.specs.Plays.{IsOrdered, IsCounted}
use Rattle.flow_lock.specs.Steps.{IsAlone, HasAll}
use Rattle.flow_lock.specs.declared.view.View.{View}
use Rattle.core_worker.specs.Workers.{Common}
use Rattle.core_phase.specs.Lanes.{IsIdle, IsReady, MayPlay, CanPlay, HasPlayed, Works}
use Rattle.core_phase.specs.Parts.{come_back}
use Rattle.core_phase.specs.Phases.{AreLent, AreBack, IsPhase}
use Rattle.core_phase.specs.declared.lane.Lane.{Lane}
use Rattle.core_phase.proofs.Numbers.{every, of_every, AreDone, are_done, has_all, all_back, idle_again, back_view}
use Rattle.core_phase.proofs.Numbers.{can_play, done_ready, is_phase}

pub may_play : (c : Common) (v : View) (vs ls : List Lane) → All (IsIdle c) vs → All MayPlay vs → AreLent v.made vs ls
    → All CanPlay ls
may_play c v vs ls idle may lent =
    of_every CanPlay ls (can_play c v.made vs ls (every (IsIdle c) vs idle) (every MayPlay vs may) lent)

module _ (c : Common) (v : View) (vs ls ms : List Lane) (alone : IsAlone v) (idle : All (IsIdle c) vs)
    (lent : AreLent v.made vs ls) (played : AllZip HasPlayed ls ms) (works : All Works ms) where
  done : AreDone c 0 vs ms
  done = are_done c 0 vs ls ms (every (IsIdle c) vs idle) (subst (λ k. AreLent k vs ls) alone.2 lent) played
      (every Works ms works)

  view : come_back vs ms v ≡ all_back v (length vs) ms
  view = back_view v (come_back vs ms v) (length vs) ms alone refl

  pub are_ready : All (IsReady c) ms × HasAll (come_back vs ms v)
  are_ready = (of_every (IsReady c) ms (done_ready c 0 vs ms done), subst HasAll (sym view) (has_all c v vs ms done))

module _ (c : Common) (v w : View) (vs ls ms ws : List Lane) (alone : IsAlone v) (idle : All (IsIdle c) vs)
    (lent : AreLent v.made vs ls) (played : AllZip HasPlayed ls ms) (works : All Works ms) (back : AreBack ms ws)
    (ordered : (order : Order) × IsOrdered order (come_back vs ms v) w) (counted : IsCounted (come_back vs ms v) w)
  where
    pub are_phase : All (IsIdle c) ws × IsPhase vs ws v w
    are_phase =
        let is_done = done c v vs ls ms alone idle lent played works in
        let is = view c v vs ls ms alone idle lent played works in (
          of_every (IsIdle c) ws (idle_again c ms ws (done_ready c 0 vs ms is_done) back),
          is_phase c v w vs ms ws alone is_done back
              (subst (λ (x : View). (order : Order) × IsOrdered order x w) is ordered)
              (subst (λ (x : View). IsCounted x w) is counted),
        )
