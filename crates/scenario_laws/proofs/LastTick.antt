-- When a run ends.
use Rattle.std.proofs.Common.{◌≡◌, ℕ, zero, suc, ◌+◌, ◌≤◌, ◌<◌, ◌&&◌, not, Bool, true, false, refl, sym, subst, ap, ◌∙◌}
use Rattle.std.proofs.Common.{arith, true≢false}
use Rattle.host_rounds.specs.Logs.{RunLog}
use Rattle.scenario_text.specs.declared.scenario.Scenario.{Scenario}
use Rattle.scenario_runs.specs.Worlds.{World, at_start, all_ended, all_closed, is_at_rest}
use Rattle.scenario_runs.specs.Runs.{End, RunsFrom, Run}
use Rattle.scenario_laws.specs.Ends.{last_world}

-- Of a run of so many ticks at most, the first of which has this number.
record Ends (s : Scenario) (most t : ℕ) (end : End) : Type 0 where
  limit : end.ticks ≤ t + most
  rest : end.ticks < t + most → (last : ℕ) × (end.ticks ≡ last + 1) × (is_at_rest s last end.world ≡ true)
  stalled : end.stalled ≡ not (all_ended end.world)
  stalled_last : end.stalled ≡ true → end.ticks ≡ t + most

rest_ended : (s : Scenario) (t : ℕ) (world : World) → is_at_rest s t world ≡ true → all_ended world ≡ true
rest_ended s t world h = by_ended (all_ended world) (all_closed world) _ h where
  by_ended : (a b c : Bool) → (a && b && c) ≡ true → a ≡ true
  by_ended true b c h = refl
  by_ended false b c h = absurd (true≢false (sym h))

at_rest : (s : Scenario) (most t : ℕ) (next : World) → is_at_rest s t next ≡ true
    → Ends s (suc most) t (record { world = next; ticks = t + 1; stalled = false })
at_rest s most t next h =
    record {
      limit = omega arith;
      rest = λ g. (t, refl, h);
      stalled = sym (ap not (rest_ended s t next h));
      stalled_last = λ g. absurd (true≢false (sym g));
    }

one_less : (s : Scenario) (most t : ℕ) (end : End) → Ends s most (t + 1) end → Ends s (suc most) t end
one_less s most t end ends =
    let limit : end.ticks ≤ t + 1 + most = ends.limit in
    record {
      limit = omega arith;
      rest = λ g. ends.rest (omega arith);
      stalled = ends.stalled;
      stalled_last = λ g. (let last : end.ticks ≡ t + 1 + most = ends.stalled_last g in omega arith);
    }

run_ends : (s : Scenario) (most t : ℕ) (world : World) (end : End) → RunsFrom s most t world end → Ends s most t end
run_ends s zero t world end same = subst (Ends s zero t) (sym same) (record {
  limit = omega arith;
  rest = λ g. absurd (no_less g);
  stalled = refl;
  stalled_last = λ g. omega arith;
}) where
  no_less : t < t + 0 → ⊥
  no_less g = omega arith
run_ends s (suc most) t world end run =
    by_rest (is_at_rest s t run.0) refl run.2 run.3 (λ rest. run_ends s most (t + 1) run.0 end rest)
  where
    by_rest : {next : World} (b : Bool) → is_at_rest s t next ≡ b
        → (is_at_rest s t next ≡ true → end ≡ record { world = next; ticks = t + 1; stalled = false })
        → (is_at_rest s t next ≡ false → RunsFrom s most (t + 1) next end)
        → (RunsFrom s most (t + 1) next end → Ends s most (t + 1) end) → Ends s (suc most) t end
    by_rest {next} true h stops goes more = subst (Ends s (suc most) t) (sym (stops h)) (at_rest s most t next h)
    by_rest false h stops goes more = one_less s most t end (more (goes h))

ends : (s : Scenario) (log : RunLog) (run : Run s log) → Ends s s.limit 0 run.0
ends s log run = run_ends s s.limit 0 (at_start s) run.0 run.1

ticks_are : (s : Scenario) (log : RunLog) (run : Run s log) → log.ticks ≡ run.0.ticks
ticks_are s log run = ap (λ (r : RunLog). r.ticks) run.2

stalled_is : (s : Scenario) (log : RunLog) (run : Run s log) → log.stalled ≡ run.0.stalled
stalled_is s log run = ap (λ (r : RunLog). r.stalled) run.2

pub ends_in_limit : (s : Scenario) (log : RunLog) → Run s log → log.ticks ≤ s.limit
ends_in_limit s log run =
    let same : log.ticks ≡ run.0.ticks = ticks_are s log run in
    let limit : run.0.ticks ≤ 0 + s.limit = (ends s log run).limit in omega arith

pub ends_at_rest : (s : Scenario) (log : RunLog) (run : Run s log) → log.ticks < s.limit
    → (last : ℕ) × (log.ticks ≡ last + 1) × (is_at_rest s last (last_world s log run) ≡ true)
ends_at_rest s log run h =
    let same : log.ticks ≡ run.0.ticks = ticks_are s log run in
    let found = (ends s log run).rest (omega arith) in (found.0, same ∙ found.1, found.2)

pub stalled_where : (s : Scenario) (log : RunLog) (run : Run s log)
    → log.stalled ≡ not (all_ended (last_world s log run))
stalled_where s log run = stalled_is s log run ∙ (ends s log run).stalled

pub stalled_at_last : (s : Scenario) (log : RunLog) → Run s log → log.stalled ≡ true → log.ticks ≡ s.limit
stalled_at_last s log run h =
    let same : log.ticks ≡ run.0.ticks = ticks_are s log run in
    let last : run.0.ticks ≡ 0 + s.limit = (ends s log run).stalled_last (sym (stalled_is s log run) ∙ h) in
    omega arith
