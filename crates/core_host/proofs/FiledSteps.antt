-- Records that were filed have the histories that are known still, step by step: for the laws of filed histories.
use Rattle.std.proofs.Common.{◌≡◌, ℕ, ◌==◌, ◌&&◌, not, Bool, true, false, List, [], refl, sym, ap, ◌∙◌}
use Rattle.std.proofs.Common.{subst, true≢false, Option, Some, None}
use Rattle.tas_model.specs.declared.entry.Call.{Call}
use Rattle.tas_model.specs.declared.entry.Call.TheVariants as calls
use Rattle.tas_model.specs.declared.entry.Caller.TheVariants.{App}
use Rattle.host_rounds.specs.Hosts.{Live, Host, Starts, Holder, Waiting, Application, GivenUp, is_over, is_held_by}
use Rattle.host_rounds.specs.Hosts.{with_call}
use Rattle.core_phase.specs.declared.lane.Lane.{Lane}
use Rattle.core_phase.specs.Lanes.{MayPlay}
use Rattle.core_worker.specs.declared.frames.Frame.{Frame}
use Rattle.phase_orders.specs.Collecting.{collected}
use Rattle.phase_orders.specs.CoreTurns.{arrivals_of}
use Rattle.slow_handshake.specs.Numbers.{FirstNumbers}
use Rattle.slow_rounds.specs.Rests.{starts_by}
use Rattle.asked_host.specs.Asking.{asked_by, left_by, accepted_by}
use Rattle.asked_host.specs.Kills.{without_app}
use Rattle.scenario_runs.specs.Applications.{is_concerned, has_listener, aborted_where}
use Rattle.core_host.specs.Asking.{HasSocket, IsAsked, IsAccepting}
use Rattle.core_host.specs.Connecting.{IsConnecting}
use Rattle.core_host.specs.Ending.{AreFiled}
use Rattle.core_host.specs.Kills.{IsKilled}
use Rattle.core_host.specs.Serving.{IsServedOf, AreTaken}
use Rattle.core_host.specs.Sharing.{all_in_tick, view_of, IsPlayed}
use Rattle.core_host.specs.Sound.{IsStaffSound}
use Rattle.core_host.specs.Steps.{IsStep}
use Rattle.core_host.specs.Views.{Staffed, seen_by}
use Rattle.local_host.specs.declared.host.Connecting.{Connecting}
use Rattle.local_host.specs.declared.host.Connecting.TheVariants.{Opened, NoSlot, NoPort}
use Rattle.core_host.proofs.FiledFlows.{IsAway, Kept, push_kept, map_kept, at_kept, twice_kept}
use Rattle.core_host.proofs.FiledFlows.{frames_kept, held_stands, ready_stands}
use Rattle.core_host.proofs.FiledHosts.{made_filed, phase_filed}
use Rattle.core_host.proofs.Played.{all_of, tick_may, tick_apps}

abbrev pub KeepsFiled : (before after : Staffed) → Type 0
KeepsFiled before after = AreFiled before.host → AreFiled after.host

-- what stays the same does
same_filed : (before after : Staffed) → after ≡ before → KeepsFiled before after
same_filed before after same filed = subst (λ (x : Staffed). AreFiled x.host) (sym same) filed

-- what was made of the host
module _ (before after : Staffed) (f : Host → Host) (sound : IsStaffSound before)
    (kept : Kept (seen_by before) (f (seen_by before))) where
  pub by_made : seen_by after ≡ f (seen_by before) → after.host.slow.filed ≡ before.host.slow.filed
      → KeepsFiled before after
  by_made made same filed =
      made_filed before.host sound.host after.host same
      (subst (Kept (seen_by before)) (sym made) kept) filed

  pub step_filed : IsStep f before after → KeepsFiled before after
  step_filed is = by_made is.made is.filed

  pub asked_filed : (app : ℕ) → IsAsked app f before after → KeepsFiled before after
  asked_filed app is = by_made is.made is.filed

-- ----- one application asks alone
module _ (before after : Staffed) (sound : IsStaffSound before) (app t : ℕ) where
  abbrev flows : List Live
  flows = (seen_by before).flows

  pub call_filed : (n : ℕ) (call : Call) (offer : List ℕ) → HasSocket app n before
      → IsAsked app (asked_by app n t call offer) before after → KeepsFiled before after
  call_filed n call offer has is =
      asked_filed before after (asked_by app n t call offer) sound
      (at_kept n (λ (l : Live). with_call l (App app) t call offer) flows
      (held_stands flows n app has.1.0 has.1.1 has.1.2)) app is

  pub end_filed : (n : ℕ) (call : Call) → HasSocket app n before → IsAsked app (left_by app n t call) before after
      → KeepsFiled before after
  end_filed n call has is =
      asked_filed before after (left_by app n t call) sound
      (twice_kept n (λ (l : Live). with_call l (App app) t call []) (λ (l : Live). record l { holder = GivenUp }) flows
      (held_stands flows n app has.1.0 has.1.1 has.1.2)) app is

  pub accept_filed : (port : ℕ) (answer : Option ℕ) → IsAccepting app t port before after answer
      → KeepsFiled before after
  accept_filed port None is = same_filed before after is.1
  accept_filed port (Some n) is =
      asked_filed before after (accepted_by app n t) sound
      (twice_kept n (λ (l : Live). with_call l (App app) t calls.Accept [])
      (λ (l : Live). record l { holder = Application app }) flows (ready_stands flows n port is.0)) app is.1

  pub connect_filed : (starts : Starts) (raddr rport : ℕ) (answer : Connecting)
      → IsConnecting starts t app raddr rport before after answer → KeepsFiled before after
  connect_filed starts raddr rport NoSlot is = same_filed before after is.1
  connect_filed starts raddr rport NoPort is = same_filed before after is.2
  connect_filed starts raddr rport (Opened place) (slot, free, low, there, is) =
      asked_filed before after _ sound (push_kept flows _) app is

-- ----- a kill
-- it concerns no flow whose record was filed
concerned_not : (app : ℕ) (host : Host) (l : Live) → IsAway l → is_concerned app host l ≡ false
concerned_not app host l away = by l.holder away.held
  where
    by : (x : Holder) → is_held_by x ≡ false → elim x [
      | Application other ↦ other == app
      | Waiting ↦ not (is_over l) && has_listener app l.flow.tuple.lport host
      | GivenUp ↦ false
    ] ≡ false
    by (Application other) e = absurd (true≢false e)
    by Waiting e = ap (λ (b : Bool). not b && has_listener app l.flow.tuple.lport host) away.filed.over
    by GivenUp e = refl

pub kill_filed : (before after : Staffed) (app t : ℕ) → IsStaffSound before → IsKilled app t before after
    → KeepsFiled before after
kill_filed before after app t sound is =
    by_made before after (without_app app t) sound
    (map_kept (λ (l : Live). aborted_where (is_concerned app (seen_by before) l) t l)
    (λ l away. ap (λ (b : Bool). aborted_where b t l) (concerned_not app (seen_by before) l away))
    (seen_by before).flows) is.made is.filed

-- ----- the slow path serves
pub served_filed : (numbers : FirstNumbers) (t : ℕ) (vs : List Lane) (before after : Staffed) → IsStaffSound before
    → IsServedOf numbers t vs before after → KeepsFiled before after
served_filed numbers t vs before after sound is =
    made_filed before.host sound.host after.host is.still.filed
    (subst (Kept (seen_by before)) (sym is.made) (frames_kept (starts_by numbers) t (seen_by before)
    (collected before.host.slow.check_sums vs before.lanes)))

pub taken_filed : (numbers : FirstNumbers) (t : ℕ) (fs : List Frame) (before after : Staffed) → IsStaffSound before
    → AreTaken numbers t fs before after → KeepsFiled before after
taken_filed numbers t fs before after sound is =
    made_filed before.host sound.host after.host is.still.filed
    (subst (Kept (seen_by before)) (sym is.made) (frames_kept (starts_by numbers) t (seen_by before)
    (arrivals_of before.host.slow.check_sums fs)))

-- ----- lanes play
pub played_filed : (t : ℕ) (before after : Staffed) → IsStaffSound before → IsPlayed t before after
    → KeepsFiled before after
played_filed t before after sound is filed =
    let vs : List Lane = all_in_tick t before.lanes in
    subst AreFiled (sym is.host)
    (phase_filed before.host sound.host vs after.lanes (view_of after) (tick_apps t before.lanes ∙ sym sound.apps)
    (all_of MayPlay vs (tick_may t before.lanes is.may)) is.phase filed)
