-- A host of which an application acted alone is sound, with its staff: for the answers for what applications ask alone.
use Rattle.std.proofs.Common.{◌≡◌, ℕ, Bool, false, List, [], ◌∷◌, ◌++◌, refl, sym, ap, ◌∙◌, subst}
use Rattle.std.specs.List.{AllZip}
use Rattle.flow_lock.specs.Passes.{Seen, with_baton, without_baton}
use Rattle.flow_lock.specs.Steps.{IsAlone}
use Rattle.flow_state.specs.Flow.{Flow}
use Rattle.host_books.specs.Books.{Book}
use Rattle.host_rounds.specs.Lists.{Each}
use Rattle.slow_worker.specs.Clocks.{served_in}
use Rattle.slow_worker.specs.Kicking.{CanKick, Kicking}
use Rattle.slow_worker.specs.Workers.{Worker, HasSenders}
use Rattle.core_phase.specs.Lanes.{IsIdle, IsIdleApp}
use Rattle.core_phase.specs.declared.lane.AppLane.{AppLane}
use Rattle.core_phase.specs.declared.lane.Lane.{Lane}
use Rattle.core_phase.specs.declared.lane.Lane.TheVariants as lanes
use Rattle.libtas_sockets.specs.Apps.{Application, with_view}
use Rattle.sound_hosts.specs.Counting.{IsCounted}
use Rattle.sound_hosts.specs.Hosts.{CoreHost}
use Rattle.sound_hosts.specs.Sound.{IsHostSound}
use Rattle.sound_hosts.proofs.Sweeping.{middle}
use Rattle.sound_phases.specs.Phased.{apps_in}
use Rattle.core_host.specs.Asking.{IsSameBut, IsAsked}
use Rattle.core_host.specs.Sound.{IsStaffSound, IsResting, AreStaff}
use Rattle.core_host.specs.Views.{Staffed}
use Rattle.core_host.proofs.Lanes.{IsLaneAt, apps_middle, with_app, staff_swap, each_swap, all_but}
use Rattle.core_host.proofs.Staffs.{moved_lanes}

-- what of the slow path's worker stays
pub record IsKept (v w : Worker) : Type 0 where
  pub check_sums : w.check_sums ≡ v.check_sums
  pub senders : w.senders ≡ v.senders
  pub kickers : w.kickers ≡ v.kickers
  pub time : w.time ≡ v.time
  pub filed : w.filed ≡ v.filed

-- the host with another worker of its slow path, other books and other lanes
abbrev pub after_asking : Staffed → Worker → List Book → List Lane → Staffed
after_asking h w books ls =
    record h { host = record (h.host) { slow = w; apps = apps_in ls; books = books }; lanes = ls }

-- all of a step but what a run sees of it
pub record HasActed (app : ℕ) (before after : Staffed) : Type 0 where
  pub sound : IsStaffSound after
  pub lanes : AllZip (IsSameBut app) before.lanes after.lanes
  pub same : after ≡ record before { host = after.host; lanes = after.lanes }
  pub time : after.host.slow.time ≡ before.host.slow.time
  pub filed : after.host.slow.filed ≡ before.host.slow.filed

module _ (h : Staffed) (at app : ℕ) (sound : IsStaffSound h) (own : IsLaneAt h.lanes at app) where
  abbrev pub front : List Application
  front = apps_in own.front

  abbrev pub back : List Application
  back = apps_in own.back

  -- its application stands between others
  pub apps_are : h.host.apps ≡ front ++ own.lane.app ∷ back
  apps_are = sound.apps ∙ (ap apps_in own.is ∙ apps_middle own.front own.lane own.back)

  pub idle : IsIdle h.shared (lanes.App own.lane)
  idle = middle (IsIdle h.shared) own.front (lanes.App own.lane) own.back
      (subst (Each (IsIdle h.shared)) own.is sound.idle)

  module _ (w : Worker) (books : List Book) (b : Application) where
    abbrev pub next : List Lane
    next = own.front ++ lanes.App (with_app b own.lane) ∷ own.back

    abbrev pub next_host : CoreHost
    next_host = record (h.host) { slow = w; apps = front ++ b ∷ back; books = books }

    pub acted : IsHostSound next_host → IsCounted next_host → IsKept h.host.slow w → b.number ≡ app
        → IsIdleApp h.shared b → (ls : List Lane) → ls ≡ next → HasActed app h (after_asking h w books ls)
    acted host counted kept named rests ls are =
        subst (λ l. HasActed app h (after_asking h w books l)) (sym are) (record {
          sound = moved_lanes h (record (h.host) { slow = w; apps = apps_in next; books = books }) next sound
              (subst (λ (xs : List Application). IsHostSound (record (h.host) { slow = w; apps = xs; books = books }))
              (sym (apps_middle own.front (with_app b own.lane) own.back)) host)
              counted refl refl kept.check_sums
              (subst (λ s. HasSenders h.shared (record (h.host.slow) { senders = s })) (sym kept.senders) sound.senders)
              (subst (CanKick h.shared) (sym kept.kickers) sound.kickers)
              (λ t. ap (served_in t) kept.time ∙ sound.timed t)
              (staff_swap h.cores 0 h.names own.front own.lane b own.back
              (subst (AreStaff h.cores 0 h.names) own.is sound.staff) (named ∙ sym own.named))
              (each_swap (IsIdle h.shared) own.front (lanes.App own.lane) (lanes.App (with_app b own.lane)) own.back
              (subst (Each (IsIdle h.shared)) own.is sound.idle) (idle.0, rests))
              (each_swap (IsResting h.host.slow.check_sums) own.front (lanes.App own.lane)
              (lanes.App (with_app b own.lane)) own.back
              (subst (Each (IsResting h.host.slow.check_sums)) own.is sound.resting)
              (middle (IsResting h.host.slow.check_sums) own.front (lanes.App own.lane) own.back
              (subst (Each (IsResting h.host.slow.check_sums)) own.is sound.resting)));
          lanes = subst (λ l. AllZip (IsSameBut app) l next) (sym own.is)
              (all_but app own.front own.lane b own.back own.named named);
          same = refl;
          time = kept.time;
          filed = kept.filed;
        })
