-- Hosts with their scripts, and what of both a run at rest asks.
use Rattle.std.proofs.Common.{◌≡◌, ℕ, ◌+◌, ◌&&◌, Bool, true, false, not, List, [], ◌∷◌, length, refl, sym, ap, ◌∙◌}
use Rattle.std.proofs.Common.{subst, arith, true≢false}
use Rattle.std.specs.Prelude.{nat_lt}
use Rattle.std.specs.List.{list_all}
use Rattle.host_rounds.specs.Hosts.{is_over}
use Rattle.scenario_runs.specs.Applications.{Script, has_ended}
use Rattle.scenario_runs.specs.Worlds.{World, all_ended, all_closed, is_at_rest}
use Rattle.scenario_text.specs.declared.scenario.Scenario.{Scenario}
use Rattle.core_host.specs.Views.{Staffed, seen_by}
use Rattle.due_frames.specs.Few.{AreFew}
use Rattle.scenario_world.specs.Playing.{IsWorldOf}
use Rattle.scenario_world.specs.declared.traffic.Traffic.{Traffic}
use Rattle.shared_world.specs.Looking.{AreLookedAt}
use Rattle.shared_world.specs.Sites.{sites_in, world_of, ArePlayable, IsReady}
use Rattle.shared_world.specs.declared.world.SharedWorld.{SharedWorld}
use Rattle.shared_world.proofs.Looked.{sites_looked, all_playable_looked, all_of_looked, playable_len}

pub ended_in : (hosts : List Staffed) (scripts : List (List Script)) → length scripts ≡ length hosts
    → list_all (λ (xs : List Script). list_all has_ended xs) scripts ≡ all_ended (sites_in hosts scripts)
ended_in [] [] len = refl
ended_in [] (x ∷ xs) len = absurd (omega (arith, len))
ended_in (h ∷ hs) [] len = absurd (omega (arith, len))
ended_in (h ∷ hs) (x ∷ xs) len =
    let rest : length xs ≡ length hs = omega (arith, len) in
    ap (λ b. list_all has_ended x && b) (ended_in hs xs rest)

pub closed_in : (hosts : List Staffed) (scripts : List (List Script)) → length scripts ≡ length hosts
    → list_all (λ (h : Staffed). list_all is_over (seen_by h).flows) hosts ≡ all_closed (sites_in hosts scripts)
closed_in [] [] len = refl
closed_in [] (x ∷ xs) len = absurd (omega (arith, len))
closed_in (h ∷ hs) [] len = absurd (omega (arith, len))
closed_in (h ∷ hs) (x ∷ xs) len =
    let rest : length xs ≡ length hs = omega (arith, len) in
    ap (λ b. list_all is_over (seen_by h).flows && b) (closed_in hs xs rest)

-- ----- at rest
-- all scripts have ended, and no frame comes after the tick
abbrev pub quiet_by : (t : ℕ) → SharedWorld → Bool
quiet_by t w = list_all (λ (xs : List Script). list_all has_ended xs) w.scripts.items && not (nat_lt t w.traffic.last)

rests_where : (ended closed coming : Bool) → (ended && not coming) ≡ true
    → closed ≡ (ended && closed && not coming)
rests_where true true false quiet = refl
rests_where true false false quiet = refl
rests_where true closed true quiet = absurd (true≢false (sym quiet))
rests_where false closed coming quiet = absurd (true≢false (sym quiet))

goes_where : (ended closed coming : Bool) → (ended && not coming) ≡ false
    → false ≡ (ended && closed && not coming)
goes_where true true true loud = refl
goes_where true true false loud = absurd (true≢false loud)
goes_where true false coming loud = refl
goes_where false closed coming loud = refl

-- what the definitions of runs say of it
rest_is : (s : Scenario) (t cores : ℕ) (w : SharedWorld) → IsReady s (t + 1) cores w
    → is_at_rest s t (world_of w) ≡ (list_all (λ (xs : List Script). list_all has_ended xs) w.scripts.items
    && list_all (λ (h : Staffed). list_all is_over (seen_by h).flows) w.hosts.items
    && not (nat_lt t w.traffic.last))
rest_is s t cores w ready =
    let len = playable_len (t + 1) w.hosts.items w.scripts.items ready.playable in
    ap (λ b. all_ended (world_of w) && all_closed (world_of w) && not b) (ready.world.kept.coming t)
    ∙ (ap (λ b. b && all_closed (world_of w) && not (nat_lt t w.traffic.last))
    (sym (ended_in w.hosts.items w.scripts.items len))
    ∙ ap (λ b. list_all (λ (xs : List Script). list_all has_ended xs) w.scripts.items && b
    && not (nat_lt t w.traffic.last))
    (sym (closed_in w.hosts.items w.scripts.items len)))

-- It is at rest where all is quiet, and all flows are closed.
pub rests_by : (s : Scenario) (t cores : ℕ) (w : SharedWorld) (closed : Bool) → IsReady s (t + 1) cores w
    → quiet_by t w ≡ true → closed ≡ list_all (λ (h : Staffed). list_all is_over (seen_by h).flows) w.hosts.items
    → closed ≡ is_at_rest s t (world_of w)
rests_by s t cores w closed ready quiet is =
    is
    ∙ (rests_where (list_all (λ (xs : List Script). list_all has_ended xs) w.scripts.items)
    (list_all (λ (h : Staffed). list_all is_over (seen_by h).flows) w.hosts.items) (nat_lt t w.traffic.last) quiet
    ∙ sym (rest_is s t cores w ready))

-- and nowhere else
pub goes_by : (s : Scenario) (t cores : ℕ) (w : SharedWorld) → IsReady s (t + 1) cores w
    → quiet_by t w ≡ false → false ≡ is_at_rest s t (world_of w)
goes_by s t cores w ready loud =
    goes_where (list_all (λ (xs : List Script). list_all has_ended xs) w.scripts.items)
    (list_all (λ (h : Staffed). list_all is_over (seen_by h).flows) w.hosts.items) (nat_lt t w.traffic.last) loud
    ∙ sym (rest_is s t cores w ready)

-- ----- hosts that were looked at
-- They are as ready as they were.
pub ready_looked : (s : Scenario) (t cores : ℕ) (w after : SharedWorld) → after.scripts.items ≡ w.scripts.items
    → after.traffic ≡ w.traffic → AreLookedAt w.hosts.items after.hosts.items → IsReady s t cores w
    → IsReady s t cores after
ready_looked s t cores w after scripts traffic looked ready =
    let same : world_of after ≡ world_of w =
    ap (sites_in after.hosts.items) scripts ∙ sites_looked w.hosts.items after.hosts.items w.scripts.items looked in
    record {
      playable = subst (ArePlayable t after.hosts.items) (sym scripts)
          (all_playable_looked t w.hosts.items after.hosts.items w.scripts.items looked ready.playable);
      hosts = all_of_looked cores w.hosts.items after.hosts.items looked ready.hosts;
      world = subst (λ (k : Traffic). IsWorldOf s t (world_of after) k) (sym traffic)
          (subst (λ (sites : World). IsWorldOf s t sites w.traffic) (sym same) ready.world);
      few = subst AreFew (sym same) ready.few;
    }
