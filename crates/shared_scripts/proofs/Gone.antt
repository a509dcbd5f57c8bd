-- What a tick leaves when its scripts went on: for the answers for `go_on_all`.
use Rattle.std.proofs.Common.{◌≡◌, ℕ, suc, ◌+◌, ◌==◌, Bool, true, false, List, [], ◌∷◌, map, fold, length}
use Rattle.std.proofs.Common.{refl, sym, ap}
use Rattle.std.proofs.Common.{subst, ◌∙◌}
use Rattle.std.specs.Prelude.{Option, Some, None}
use Rattle.core_phase.specs.declared.lane.Lane.{Lane}
use Rattle.core_phase.specs.declared.lane.Lane.TheVariants as lanes
use Rattle.flow_state.specs.declared.call.Answer.{Answer}
use Rattle.flow_state.specs.declared.call.Answer.TheVariants as answers
use Rattle.host_rounds.specs.Deliveries.{Arrival, received, delivered}
use Rattle.host_rounds.specs.Hosts.{Host}
use Rattle.host_rounds.specs.Lists.{Each}
use Rattle.host_rounds.specs.SerialOrder.{ask_phase}
use Rattle.phase_orders.specs.Collecting.{collected}
use Rattle.scenario_host.specs.Answers.{sent_by, received_by}
use Rattle.scenario_host.specs.Tries.{answered_at, answered_first}
use Rattle.scenario_laws.proofs.Deeds.{At, WorkKeeps, packet_keeps}
use Rattle.scenario_runs.specs.Applications.{Script, done_or}
use Rattle.scenario_runs.specs.Worlds.{scripts_of, starts_of}
use Rattle.scenario_text.specs.declared.scenario.Scenario.{Scenario}
use Rattle.scenario_text.specs.declared.scenario.Step.{Step}
use Rattle.scenario_text.specs.declared.scenario.Step.TheVariants as steps
use Rattle.sound_hosts.specs.Hosts.{host_of}
use Rattle.tas_model.specs.declared.entry.Caller.TheVariants.{Slow}
use Rattle.tas_model.specs.declared.entry.HostParams.{HostParams}
use Rattle.core_host.specs.Emission.{AreTriesSet, IsKicked}
use Rattle.core_host.specs.Serving.{cleared, IsServed, IsServedOf}
use Rattle.core_host.specs.Sharing.{MayAllPlay}
use Rattle.core_host.specs.Sound.{IsStaffSound, IsUnasked}
use Rattle.core_host.specs.Ticks.{site_in}
use Rattle.core_host.specs.Views.{Staffed, seen_by}
use Rattle.shared_scripts.specs.Answers.{goes_by, answers_in, heard_by, later_by}
use Rattle.shared_scripts.specs.Going.{CanGoOn, IsGoneOn, IsReadyFor, numbers_of}
use Rattle.shared_scripts.specs.Playing.{Owns}
use Rattle.shared_scripts.specs.Turns.{HaveHadTurns, numbers_in}
use Rattle.shared_scripts.proofs.Holders.{all_own_still, came_holders}
use Rattle.shared_scripts.proofs.Rising.{rising_by}
use Rattle.shared_scripts.proofs.Ticks.{runs_by}
use Rattle.shared_scripts.proofs.Trying.{none_set, sets_may}

-- ----- a script keeps its number
over_number : (over : Bool) (done : ℕ) (s : Script) → (done_or over done s).number ≡ s.number
over_number true done s = refl
over_number false done s = refl

sent_number : (a : Answer) (all : ℕ) (s : Script) → (sent_by a all s).number ≡ s.number
sent_number answers.Ok all s = refl
sent_number answers.Nothing all s = refl
sent_number (answers.Sent head len) all s = refl
sent_number (answers.Took len) all s = over_number (s.done + len == all) (s.done + len) s
sent_number (answers.Got len update) all s = refl
sent_number answers.End all s = refl
sent_number answers.NotYet all s = refl
sent_number answers.NotOpen all s = refl
sent_number answers.Shut all s = refl
sent_number (answers.Closed reason) all s = refl
sent_number answers.Quiet all s = refl
sent_number answers.Resend all s = refl
sent_number answers.Probe all s = refl
sent_number answers.Expired all s = refl
sent_number answers.TimedOut all s = refl
sent_number (answers.Window cwnd ssthresh) all s = refl

received_number : (a : Answer) (all : Option ℕ) (s : Script) → (received_by a all s).number ≡ s.number
received_number answers.Ok all s = refl
received_number answers.Nothing all s = refl
received_number (answers.Sent head len) all s = refl
received_number (answers.Took len) all s = refl
received_number (answers.Got len update) None s = refl
received_number (answers.Got len update) (Some all) s = over_number (s.done + len == all) (s.done + len) s
received_number answers.End all s = refl
received_number answers.NotYet all s = refl
received_number answers.NotOpen all s = refl
received_number answers.Shut all s = refl
received_number (answers.Closed reason) all s = refl
received_number answers.Quiet all s = refl
received_number answers.Resend all s = refl
received_number answers.Probe all s = refl
received_number answers.Expired all s = refl
received_number answers.TimedOut all s = refl
received_number (answers.Window cwnd ssthresh) all s = refl

step_number : (step : Step) (a : Answer) (s : Script) → (answered_at step a s).number ≡ s.number
step_number (steps.Listen socket port) a s = refl
step_number (steps.Accept from socket) a s = refl
step_number (steps.Connect socket host port) a s = refl
step_number (steps.Send socket text) a s = sent_number a (length text) s
step_number (steps.Fill socket count) a s = sent_number a count s
step_number (steps.Recv socket count) a s = received_number a (Some count) s
step_number (steps.Drain socket) a s = received_number a None s
step_number (steps.Shut socket) a s = refl
step_number (steps.Close socket) a s = refl
step_number (steps.Abort socket) a s = refl
step_number (steps.Wait ticks) a s = refl

first_number : (left : List Step) (a : Answer) (s : Script) → (answered_first left a s).number ≡ s.number
first_number [] a s = refl
first_number (step ∷ rest) a s = step_number step a s

goes_number : (o : Option Answer) (s : Script) → (goes_by o s).number ≡ s.number
goes_number None s = refl
goes_number (Some a) s = first_number s.left a s

pub heard_numbers : (f : Script → Option Answer) (xs : List Script)
    → numbers_in (heard_by (map f xs) xs) ≡ numbers_in xs
heard_numbers f [] = refl
heard_numbers f (x ∷ xs) =
    ap (λ (n : ℕ). n ∷ numbers_in (heard_by (map f xs) xs)) (goes_number (f x) x)
    ∙ ap (λ (ns : List ℕ). x.number ∷ ns) (heard_numbers f xs)

pub heard_count : (f : Script → Option Answer) (xs : List Script) → length (map f xs) ≡ length (heard_by (map f xs) xs)
heard_count f [] = refl
heard_count f (x ∷ xs) = ap suc (heard_count f xs)

pub heard_most : (f : Script → Option Answer) (xs : List Script) → length (map f xs) ≡ length xs
heard_most f [] = refl
heard_most f (x ∷ xs) = ap suc (heard_most f xs)

-- ----- frames leave the parameters
params_keep : (t : ℕ) (q : HostParams) → WorkKeeps t (λ (site : At). site.host.params ≡ q)
params_keep t q = record {
  flows = λ site ms worked i. i;
  line = λ site event kind i. i;
  syn = λ site slot start frame tuple seg listening i. i;
}

came_params : (p q : HostParams) (t : ℕ) (frames : List Arrival) (host : Host) → host.params ≡ q
    → (fold (delivered (received Slow) (starts_of p) t) host frames).params ≡ q
came_params p q t [] host is = is
came_params p q t (x ∷ frames) host is =
    came_params p q t frames (delivered (received Slow) (starts_of p) t host x)
    (packet_keeps p (λ (site : At). site.host.params ≡ q) Slow t (record { host = host; scripts = [] }) x.frame x.packet
    (params_keep t q) tt is)

-- ----- lanes
cleared_unasked : (ls : List Lane) → Each IsUnasked ls → Each IsUnasked (map cleared ls)
cleared_unasked [] none = tt
cleared_unasked (lanes.Core l ∷ ls) none = (tt, cleared_unasked ls none.1)
cleared_unasked (lanes.App l ∷ ls) none = (none.0, cleared_unasked ls none.1)

pub may_unasked : (t : ℕ) (h : Staffed) → IsStaffSound h → Each IsUnasked h.lanes → MayAllPlay h
may_unasked t h sound none =
    sets_may t [] h (none_set t h.host.books h.host.slow.check_sums h.lanes none sound.resting)

-- ----- the step
module _ (s : Scenario) (t : ℕ) (scripts : List Script) (played told served : Staffed) (can : CanGoOn t scripts played)
    (set : AreTriesSet played told) (none : Each IsUnasked told.lanes)
    (serves : IsServed (numbers_of (seen_by played).params) t told served) where
  abbrev pub heard : List Script
  heard = heard_by (answers_in played.lanes scripts) scripts

  of : IsServedOf (numbers_of (seen_by played).params) t can.lanes told served
  of = serves can.lanes (can.left told set)

  told_seen : seen_by told ≡ seen_by played
  told_seen = ap host_of (ap (λ (x : Staffed). x.host) set.same)

  pub sound_served : IsStaffSound served
  sound_served = of.sound

  pub served_params : (seen_by served).params ≡ (seen_by played).params
  served_params =
      ap (λ (x : Host). x.params) of.made
      ∙ came_params (seen_by played).params (seen_by played).params t
      (collected told.host.slow.check_sums can.lanes told.lanes) (seen_by told)
      (ap (λ (x : Host). x.params) told_seen)

  pub served_listens : (seen_by served).params.fixed ≡ false
  served_listens = ap (λ (p : HostParams). p.fixed) served_params ∙ can.listens

  served_names : served.names ≡ played.names
  served_names = ap (λ (x : Staffed). x.names) of.same ∙ ap (λ (x : Staffed). x.names) set.same

  told_own : Each (Owns (seen_by told).flows) heard
  told_own = subst (λ (h : Host). Each (Owns h.flows) heard) (sym told_seen) can.ready.own

  pub served_ready : IsReadyFor t served heard
  served_ready = record {
    numbers = can.ready.numbers;
    steps = can.ready.steps;
    own = subst (λ (h : Host). Each (Owns h.flows) heard) (sym of.made)
        (all_own_still (seen_by told).flows _
        (came_holders (seen_by played).params t (collected told.host.slow.check_sums can.lanes told.lanes)
        (seen_by told).flows (seen_by told) (λ n k held. held)) heard told_own);
    runs = runs_by t played served heard served_names can.ready.runs;
  }

  pub has_gone_on : (next : List Script) (asked kicked : Staffed)
      → HaveHadTurns s (seen_by played).params t (answers_in played.lanes scripts) served asked heard next
      → IsKicked asked kicked → IsGoneOn s t scripts next played kicked
  has_gone_on next asked kicked had kicks = record {
    told = told;
    answers = set;
    none = none;
    served = served;
    serves = serves;
    asked = asked;
    alone = subst (λ (ns : List ℕ). ask_phase (scripts_of s (seen_by played).params) t (site_in served heard)
        (later_by (answers_in played.lanes scripts) ns) ≡ site_in asked next)
        (heard_numbers _ scripts) (had.turns.asked [] can.ready.numbers);
    stays = had.stays.asked;
    params = had.turns.params ∙ served_params;
    time = had.stays.time ∙ (of.still.time ∙ ap (λ (x : Staffed). x.host.slow.time) set.same);
    ready = record {
      numbers = rising_by heard next (sym had.turns.numbers) can.ready.numbers;
      steps = had.turns.steps;
      own = had.turns.own;
      runs = had.runs;
    };
    kicks = kicks;
    may = may_unasked t kicked kicks.0.sound
        (subst (Each IsUnasked) (sym (ap (λ (x : Staffed). x.lanes) kicks.0.same))
        (had.stays.asked.unasked (subst (Each IsUnasked) (sym of.lanes) (cleared_unasked told.lanes none))));
  }
