-- The ticks of a run to its end.
use Rattle.std.proofs.Common.{◌≡◌, ℕ, zero, suc, ◌+◌, ◌-◌, ◌<◌, not, Bool, true, false, List, Result, Ok, Err, IfOk}
use Rattle.std.proofs.Common.{refl, sym, ap, ◌∙◌, subst, arith, true≢false}
use Rattle.host_rounds.specs.Logs.{HostRun, RunLog}
use Rattle.scenario_text.specs.declared.scenario.Scenario.{Scenario}
use Rattle.scenario_runs.specs.Worlds.{World, at_start, all_ended, is_at_rest}
use Rattle.scenario_runs.specs.Runs.{IsTick, End, RunsFrom, Run, serial_world, serial_from, scenario_log}
use Rattle.scenario_runs.specs.Runs.{serial_run}
use Rattle.scenario_world.specs.declared.world.WorldEnd.{WorldEnd}
use Rattle.scenario_world.specs.Ends.{AreEnds, host_runs, log_of}
use Rattle.scenario_world.specs.Playing.{params_of, line_params}
use Rattle.scenario_world.proofs.Ended.{ends_shown}

abbrev pub end_by : World → (ticks : ℕ) → (stalled : Bool) → End
end_by world ticks stalled = record { world = world; ticks = ticks; stalled = stalled }

-- ----- a tick
step_by : Scenario → (left t : ℕ) → (next : World) → (rest : Bool) → End
step_by s m t next rest = elim rest [ true ↦ end_by next (t + 1) false | false ↦ serial_from s m (t + 1) next ]

one_step : (s : Scenario) (m t : ℕ) (world : World)
    → serial_from s (suc m) t world ≡ step_by s m t (serial_world s t world) (is_at_rest s t (serial_world s t world))
unfolding serial_from step_by
one_step s m t world = refl

rested : (s : Scenario) (m t : ℕ) (world : World) → is_at_rest s t (serial_world s t world) ≡ true
    → serial_from s (suc m) t world ≡ end_by (serial_world s t world) (t + 1) false
unfolding step_by
rested s m t world rest = one_step s m t world ∙ ap (step_by s m t (serial_world s t world)) rest

went_on : (s : Scenario) (m t : ℕ) (world : World) → is_at_rest s t (serial_world s t world) ≡ false
    → serial_from s (suc m) t world ≡ serial_from s m (t + 1) (serial_world s t world)
unfolding step_by
went_on s m t world rest = one_step s m t world ∙ ap (step_by s m t (serial_world s t world)) rest

ran_out : (s : Scenario) (t : ℕ) (world : World) → serial_from s zero t world ≡ end_by world t (not (all_ended world))
unfolding serial_from
ran_out s t world = refl

-- The whole run, of which these ticks are left.
abbrev pub LeadsTo : Scenario → (tick : ℕ) → World → Type 0
LeadsTo s t world = serial_from s (s.limit - t) t world ≡ serial_from s s.limit 0 (at_start s)

pub goes_on : (s : Scenario) (t : ℕ) (world next : World) → t < s.limit → LeadsTo s t world
    → next ≡ serial_world s t world → is_at_rest s t next ≡ false → LeadsTo s (t + 1) next
goes_on s t world next inside leads played rest =
    let left : s.limit - t ≡ suc (s.limit - (t + 1)) = omega arith in
    ap (serial_from s (s.limit - (t + 1)) (t + 1)) played
    ∙ (sym (went_on s (s.limit - (t + 1)) t world (subst (λ w. is_at_rest s t w ≡ false) played rest))
    ∙ (ap (λ m. serial_from s m t world) (sym left) ∙ leads))

pub rests : (s : Scenario) (t : ℕ) (world next : World) → t < s.limit → LeadsTo s t world
    → next ≡ serial_world s t world → is_at_rest s t next ≡ true
    → serial_from s s.limit 0 (at_start s) ≡ end_by next (t + 1) false
rests s t world next inside leads played rest =
    let left : s.limit - t ≡ suc (s.limit - (t + 1)) = omega arith in
    sym leads
    ∙ (ap (λ m. serial_from s m t world) left
    ∙ (rested s (s.limit - (t + 1)) t world (subst (λ w. is_at_rest s t w ≡ true) played rest)
    ∙ ap (λ w. end_by w (t + 1) false) (sym played)))

pub runs_out : (s : Scenario) (t : ℕ) (world : World) → t ≡ s.limit → LeadsTo s t world
    → serial_from s s.limit 0 (at_start s) ≡ end_by world s.limit (not (all_ended world))
runs_out s t world over leads =
    let none : s.limit - t ≡ zero = omega arith in
    sym leads
    ∙ (ap (λ m. serial_from s m t world) none
    ∙ (ran_out s t world ∙ ap (λ n. end_by world n (not (all_ended world))) over))

-- ----- in any order
-- Each right way to the end from here is one from the beginning.
abbrev pub LeadsRight : Scenario → (tick : ℕ) → World → Type 0
LeadsRight s t world = (end : End) → RunsFrom s (s.limit - t) t world end → RunsFrom s s.limit 0 (at_start s) end

pub begins_right : (s : Scenario) (world : World) → world ≡ at_start s → LeadsRight s 0 world
begins_right s world is = λ end run.
    let all : s.limit - 0 ≡ s.limit = omega arith in
    subst (λ w. RunsFrom s s.limit 0 w end) is (subst (λ m. RunsFrom s m 0 world end) all run)

one_more : (s : Scenario) (t : ℕ) (world : World) (end : End) → t < s.limit
    → RunsFrom s (suc (s.limit - (t + 1))) t world end → RunsFrom s (s.limit - t) t world end
one_more s t world end inside run =
    let left : suc (s.limit - (t + 1)) ≡ s.limit - t = omega arith in
    subst (λ m. RunsFrom s m t world end) left run

pub goes_on_right : (s : Scenario) (t : ℕ) (world next : World) → t < s.limit → LeadsRight s t world
    → IsTick s t world next → is_at_rest s t next ≡ false → LeadsRight s (t + 1) next
goes_on_right s t world next inside leads tick rest = λ end run.
    leads end (one_more s t world end inside (next, tick, λ g. absurd (true≢false (sym g ∙ rest)), λ g. run))

pub rests_right : (s : Scenario) (t : ℕ) (world next : World) → t < s.limit → LeadsRight s t world
    → IsTick s t world next → is_at_rest s t next ≡ true
    → RunsFrom s s.limit 0 (at_start s) (end_by next (t + 1) false)
rests_right s t world next inside leads tick rest =
    let end : End = end_by next (t + 1) false in
    leads end (one_more s t world end inside (next, tick, λ g. refl, λ g. absurd (true≢false (sym rest ∙ g))))

pub runs_out_right : (s : Scenario) (t : ℕ) (world : World) (stalled : Bool) → t ≡ s.limit → LeadsRight s t world
    → stalled ≡ not (all_ended world) → RunsFrom s s.limit 0 (at_start s) (end_by world s.limit stalled)
runs_out_right s t world stalled over leads is =
    let end : End = end_by world s.limit stalled in
    let none : zero ≡ s.limit - t = omega arith in
    leads end (subst (λ m. RunsFrom s m t world end) none
    (ap (λ n. end_by world n stalled) (sym over) ∙ ap (λ b. end_by world t b) is))

-- ----- what is left
abbrev shown : List HostRun → (ticks : ℕ) → (stalled : Bool) → RunLog
shown hosts ticks stalled = record {
  replay = false;
  hosts = hosts;
  ticks = ticks;
  stalled = stalled;
  records = 0;
  frames = 0;
  passed = 0;
  refused = 0;
}

log_left : (s : Scenario) (world : World) (ticks : ℕ) (stalled : Bool) (end : WorldEnd)
    → params_of world ≡ line_params s.hosts → AreEnds world end.hosts.items → end.ticks ≡ ticks
    → end.stalled ≡ stalled → scenario_log s (end_by world ticks stalled) ≡ log_of s end
log_left s world ticks stalled end params ends same_ticks same_stalled =
    ap (λ hs. shown hs ticks stalled) (ends_shown s.hosts world end.hosts.items params ends)
    ∙ (ap (λ n. shown (host_runs s.hosts end.hosts.items) n stalled) (sym same_ticks)
    ∙ ap (λ b. shown (host_runs s.hosts end.hosts.items) end.ticks b) (sym same_stalled))

three : {X Y : Type 0} (r : Result X Y) (P Q R Z : X → Type 0) → ((x : X) → P x → Q x → R x → Z x)
    → IfOk r P → IfOk r Q → IfOk r R → IfOk r Z
three (Ok x) P Q R Z f p q r = f x p q r
three (Err e) P Q R Z f p q r = tt

pub end_shown : {Y : Type 0} (s : Scenario) (world : World) (ticks : ℕ) (stalled : Bool) (r : Result WorldEnd Y)
    → serial_from s s.limit 0 (at_start s) ≡ end_by world ticks stalled → params_of world ≡ line_params s.hosts
    → IfOk r (λ end. AreEnds world end.hosts.items) → IfOk r (λ end. end.ticks ≡ ticks)
    → IfOk r (λ end. end.stalled ≡ stalled) → IfOk r (λ end. serial_run s ≡ log_of s end)
end_shown s world ticks stalled r is params ends same_ticks same_stalled =
    three r (λ end. AreEnds world end.hosts.items) (λ end. end.ticks ≡ ticks) (λ end. end.stalled ≡ stalled)
    (λ end. serial_run s ≡ log_of s end)
    (λ end p q u. ap (scenario_log s) is ∙ log_left s world ticks stalled end params p q u) ends same_ticks same_stalled

pub run_shown : {Y : Type 0} (s : Scenario) (world : World) (ticks : ℕ) (stalled : Bool) (r : Result WorldEnd Y)
    → RunsFrom s s.limit 0 (at_start s) (end_by world ticks stalled) → params_of world ≡ line_params s.hosts
    → IfOk r (λ end. AreEnds world end.hosts.items) → IfOk r (λ end. end.ticks ≡ ticks)
    → IfOk r (λ end. end.stalled ≡ stalled) → IfOk r (λ end. Run s (log_of s end))
run_shown s world ticks stalled r run params ends same_ticks same_stalled =
    three r (λ end. AreEnds world end.hosts.items) (λ end. end.ticks ≡ ticks) (λ end. end.stalled ≡ stalled)
    (λ end. Run s (log_of s end))
    (λ end p q u. (end_by world ticks stalled, run, sym (log_left s world ticks stalled end params p q u)))
    ends same_ticks same_stalled
