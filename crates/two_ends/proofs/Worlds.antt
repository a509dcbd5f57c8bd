-- A run: what holds of all that was sent in it holds of each segment that a flow took, where the link damages nothing.
use Rattle.std.proofs.Common.{◌≡◌, ℕ, zero, suc, ◌+◌, ◌≤◌, Bool, true, false, List, [], ◌∷◌, map, refl, sym, subst}
use Rattle.std.proofs.Common.{arith}
use Rattle.tas_model.specs.declared.entry.FourTuple.{FourTuple}
use Rattle.tas_model.specs.declared.entry.HostParams.{HostParams}
use Rattle.tas_model.specs.declared.entry.Seg.{Seg}
use Rattle.host_rounds.specs.Lists.{Each}
use Rattle.host_rounds.specs.Hosts.{Live}
use Rattle.host_rounds.specs.Passing.{ticks_of, AreTimed}
use Rattle.host_rounds.specs.Scripts.{Site}
use Rattle.host_rounds.specs.Rounds.{Round}
use Rattle.host_rounds.proofs.AllOpened.{IsRight, round_right}
use Rattle.host_rounds.proofs.AllTimed.{round_timed}
use Rattle.scenario_text.specs.declared.scenario.Scenario.{Scenario}
use Rattle.scenario_text.specs.declared.scenario.HostLine.{HostLine}
use Rattle.scenario_runs.specs.Applications.{Script}
use Rattle.scenario_runs.specs.Worlds.{World, site_of, at_start, starts_of, scripts_of, due_at, is_at_rest}
use Rattle.scenario_runs.specs.Runs.{AreRounds, IsTick, End, RunsFrom}
use Rattle.scenario_runs.proofs.ByMoves.{scenarios_by_moves}
use Rattle.two_ends.specs.Ends.{IsFaithful}
use Rattle.two_ends.proofs.Back.{round_back}
use Rattle.two_ends.proofs.Heard.{HeardHost, round_heard}
use Rattle.two_ends.specs.Origins.{as_read}
use Rattle.two_ends.proofs.Frames.{SentSite, due_come}

-- ----- right worlds
-- no flow has more Ticks than there were ticks
abbrev pub HasTicks : (most : ℕ) → Live → Type 0
HasTicks most l = ticks_of l ≤ most

-- The host is right, with the parameters of its line, and after so many ticks.
pub record IsRightSite (t : ℕ) (p : HostParams) (site : Site (List Script)) : Type 0 where
  pub right : IsRight (starts_of p) p site.host
  pub ticks : Each (HasTicks t) site.host.flows

abbrev pub AllRight : (t : ℕ) → List HostLine → World → Type 0
AllRight t [] [] = Unit {0}
AllRight t [] (site ∷ sites) = ⊥
AllRight t (h ∷ hs) [] = ⊥
AllRight t (h ∷ hs) (site ∷ sites) = IsRightSite t h.params site × AllRight t hs sites

start_right : (s : Scenario) (hosts : List HostLine) → AllRight 0 hosts (map (site_of s) hosts)
start_right s [] = tt
start_right s (h ∷ hs) =
    (record { right = record { params = refl; legal = tt; opened = tt }; ticks = tt }, start_right s hs)

new_ticks : (t : ℕ) (ls : List Live) → Each (λ (l : Live). ticks_of l ≡ 0) ls → Each (HasTicks (t + 1)) ls
new_ticks t [] all = tt
new_ticks t (l ∷ ls) all = let none : ticks_of l ≡ 0 = all.0 in (omega arith, new_ticks t ls all.1)

more_ticks : (t : ℕ) (before after : List Live) → AreTimed before after → Each (HasTicks t) before
    → Each (HasTicks (t + 1)) after
more_ticks t [] after timed all = new_ticks t after timed
more_ticks t (l ∷ ls) [] timed all = absurd timed
more_ticks t (l ∷ ls) (m ∷ ms) timed all =
    let one : ticks_of m ≤ ticks_of l + 1 = timed.0.most in
    let few : ticks_of l ≤ t = all.0 in
    (omega arith, more_ticks t ls ms timed.1 all.1)

site_right : (s : Scenario) (whole : World) (t h : ℕ) (p : HostParams) (b a : Site (List Script))
    → Round (scripts_of s b.host.params) t (due_at s whole t h b.scripts) b a → IsRightSite t p b
    → IsRightSite (t + 1) p a
site_right s whole t h p b a round site =
    let same : Round (scripts_of s p) t (due_at s whole t h b.scripts) b a =
    subst (λ (q : HostParams). Round (scripts_of s q) t (due_at s whole t h b.scripts) b a) site.right.params round in
    let timed : AreTimed b.host.flows a.host.flows =
    round_timed (scripts_of s p) t (due_at s whole t h b.scripts) b a (scenarios_by_moves s p) site.right.legal same in
    record {
      right = round_right (scripts_of s p) p t (due_at s whole t h b.scripts) b a
          (scenarios_by_moves s p) same site.right;
      ticks = more_ticks t b.host.flows a.host.flows timed site.ticks;
    }

rounds_right : (s : Scenario) (whole : World) (t h : ℕ) (hosts : List HostLine) (before after : World)
    → AreRounds s whole t h before after
    → AllRight t hosts before → AllRight (t + 1) hosts after
rounds_right s whole t h [] [] [] rounds right = tt
rounds_right s whole t h [] [] (a ∷ az) rounds right = absurd rounds
rounds_right s whole t h [] (b ∷ bs) after rounds right = absurd right
rounds_right s whole t h (l ∷ ls) [] after rounds right = absurd right
rounds_right s whole t h (l ∷ ls) (b ∷ bs) [] rounds right = absurd rounds
rounds_right s whole t h (l ∷ ls) (b ∷ bs) (a ∷ az) rounds right =
    (site_right s whole t h l.params b a rounds.0 right.0, rounds_right s whole t (h + 1) ls bs az rounds.1 right.1)

-- ----- one tick
-- `Q` is of a segment as it is sent, and `R` of one as it is read.
module _ (Q R : FourTuple → Seg → Type 0)
    (reads : (tuple : FourTuple) (seg : Seg) → Q tuple seg → R tuple (as_read seg)) where
  abbrev pub SentWorld : World → Type 0
  SentWorld world = Each (SentSite Q) world

  abbrev pub HeardWorld : World → Type 0
  HeardWorld world = Each (λ (site : Site (List Script)). HeardHost R site.host) world

  rounds_back : (s : Scenario) (whole : World) (t u h : ℕ) (hosts : List HostLine) (before after : World)
      → AreRounds s whole t h before after
      → AllRight u hosts before → SentWorld after → SentWorld before
  rounds_back s whole t u h [] [] [] rounds right sent = tt
  rounds_back s whole t u h [] [] (a ∷ az) rounds right sent = absurd rounds
  rounds_back s whole t u h [] (b ∷ bs) after rounds right sent = absurd right
  rounds_back s whole t u h (l ∷ ls) [] after rounds right sent = absurd right
  rounds_back s whole t u h (l ∷ ls) (b ∷ bs) [] rounds right sent = absurd rounds
  rounds_back s whole t u h (l ∷ ls) (b ∷ bs) (a ∷ az) rounds right sent = (
    round_back Q (scripts_of s b.host.params) t (due_at s whole t h b.scripts) b a
        (scenarios_by_moves s b.host.params) right.0.right.legal rounds.0 sent.0,
    rounds_back s whole t u (h + 1) ls bs az rounds.1 right.1 sent.1,
  )

  rounds_heard : (s : Scenario) (whole : World) (t u h : ℕ) (hosts : List HostLine) (before after : World)
      → IsFaithful s.link → SentWorld whole
      → AreRounds s whole t h before after → AllRight u hosts before → HeardWorld before → HeardWorld after
  rounds_heard s whole t u h [] [] [] faithful sent rounds right heard = tt
  rounds_heard s whole t u h [] [] (a ∷ az) faithful sent rounds right heard = absurd rounds
  rounds_heard s whole t u h [] (b ∷ bs) after faithful sent rounds right heard = absurd right
  rounds_heard s whole t u h (l ∷ ls) [] after faithful sent rounds right heard = absurd right
  rounds_heard s whole t u h (l ∷ ls) (b ∷ bs) [] faithful sent rounds right heard = absurd rounds
  rounds_heard s whole t u h (l ∷ ls) (b ∷ bs) (a ∷ az) faithful sent rounds right heard = (
    round_heard R (scripts_of s b.host.params) t (due_at s whole t h b.scripts) b a
        (scenarios_by_moves s b.host.params) right.0.right.legal rounds.0
        (due_come Q R reads s.link whole t h faithful sent) heard.0,
    rounds_heard s whole t u (h + 1) ls bs az faithful sent rounds.1 right.1 heard.1,
  )

  -- ----- all ticks
  abbrev Leads : (world last : World) → Type 0
  Leads world last = SentWorld last → SentWorld world × (HeardWorld world → HeardWorld last)

  tick_leads : (s : Scenario) (t u : ℕ) (world next last : World) → IsFaithful s.link → IsTick s t world next
      → AllRight u s.hosts world → Leads next last → Leads world last
  tick_leads s t u world next last faithful tick right leads sent =
      let after = leads sent in
      let before : SentWorld world = rounds_back s world t u 0 s.hosts world next tick right after.0 in
      (before, λ heard. after.1 (rounds_heard s world t u 0 s.hosts world next faithful before tick right heard))

  runs_lead : (s : Scenario) (most t : ℕ) (world : World) (end : End) → IsFaithful s.link → RunsFrom s most t world end
      → AllRight t s.hosts world → Leads world end.world
  runs_lead s zero t world end faithful same right =
      subst (λ (e : End). Leads world e.world) (sym same) (λ sent. (sent, λ heard. heard))
  runs_lead s (suc most) t world end faithful run right =
      let next : World = run.0 in
      tick_leads s t t world next end.world faithful run.1 right
      (by_rest next (is_at_rest s t next) refl run.2 run.3
      (λ rest. runs_lead s most (t + 1) next end faithful rest
      (rounds_right s world t 0 s.hosts world next run.1 right)))
    where
      by_rest : (next : World) (b : Bool) → is_at_rest s t next ≡ b
          → (is_at_rest s t next ≡ true → end ≡ record { world = next; ticks = t + 1; stalled = false })
          → (is_at_rest s t next ≡ false → RunsFrom s most (t + 1) next end)
          → (RunsFrom s most (t + 1) next end → Leads next end.world) → Leads next end.world
      by_rest next true h stops goes more =
          subst (λ (e : End). Leads next e.world) (sym (stops h)) (λ sent. (sent, λ heard. heard))
      by_rest next false h stops goes more = more (goes h)

  start_heard : (s : Scenario) (hosts : List HostLine) → HeardWorld (map (site_of s) hosts)
  start_heard s [] = tt
  start_heard s (h ∷ hs) = (record { flows = tt; lines = tt }, start_heard s hs)

  pub run_heard : (s : Scenario) (end : End) → IsFaithful s.link → RunsFrom s s.limit 0 (at_start s) end
      → SentWorld end.world → HeardWorld end.world
  run_heard s end faithful run sent =
      (runs_lead s s.limit 0 (at_start s) end faithful run (start_right s s.hosts) sent).1 (start_heard s s.hosts)

-- ----- the end
more_most : (n m : ℕ) (ls : List Live) → n ≤ m → Each (HasTicks n) ls → Each (HasTicks m) ls
more_most n m [] le all = tt
more_most n m (l ∷ ls) le all = let few : ticks_of l ≤ n = all.0 in (omega (arith, le), more_most n m ls le all.1)

all_most : (n m : ℕ) (hosts : List HostLine) (world : World) → n ≤ m → AllRight n hosts world → AllRight m hosts world
all_most n m [] [] le right = tt
all_most n m [] (site ∷ sites) le right = absurd right
all_most n m (h ∷ hs) [] le right = absurd right
all_most n m (h ∷ hs) (site ∷ sites) le right = (
  record {
    right = right.0.right;
    ticks =
        more_most n m site.host.flows le right.0.ticks;
  },
  all_most n m hs sites le right.1,
)

runs_right : (s : Scenario) (most t limit : ℕ) (world : World) (end : End) → t + most ≡ limit
    → RunsFrom s most t world end → AllRight t s.hosts world → AllRight limit s.hosts end.world
runs_right s zero t limit world end sum same right =
    subst (λ (e : End). AllRight limit s.hosts e.world) (sym same)
    (all_most t limit s.hosts world (omega (arith, sum)) right)
runs_right s (suc most) t limit world end sum run right =
    let next : World = run.0 in
    let after : AllRight (t + 1) s.hosts next = rounds_right s world t 0 s.hosts world next run.1 right in
    by_rest next (is_at_rest s t next) refl run.2 run.3 after
    (λ rest. runs_right s most (t + 1) limit next end (omega (arith, sum)) rest after)
  where
    by_rest : (next : World) (b : Bool) → is_at_rest s t next ≡ b
        → (is_at_rest s t next ≡ true → end ≡ record { world = next; ticks = t + 1; stalled = false })
        → (is_at_rest s t next ≡ false → RunsFrom s most (t + 1) next end) → AllRight (t + 1) s.hosts next
        → (RunsFrom s most (t + 1) next end → AllRight limit s.hosts end.world)
        → AllRight limit s.hosts end.world
    by_rest next true h stops goes after more =
        subst (λ (e : End). AllRight limit s.hosts e.world) (sym (stops h))
        (all_most (t + 1) limit s.hosts next (omega (arith, sum)) after)
    by_rest next false h stops goes after more = more (goes h)

pub run_right : (s : Scenario) (end : End) → RunsFrom s s.limit 0 (at_start s) end → AllRight s.limit s.hosts end.world
run_right s end run = runs_right s s.limit 0 s.limit (at_start s) end (omega arith) run (start_right s s.hosts)
