-- What each tick keeps of a host and its scripts stands before each tick of a run and at its end.
use Rattle.std.proofs.Common.{◌≡◌, ℕ, zero, suc, ◌+◌, Bool, true, false, List, [], ◌∷◌, map, refl, sym, subst}
use Rattle.tas_model.specs.declared.entry.HostParams.{HostParams}
use Rattle.host_rounds.specs.Lists.{Each}
use Rattle.host_rounds.specs.Logs.{HostRun, RunLog}
use Rattle.host_rounds.specs.Hosts.{run_of}
use Rattle.host_rounds.specs.Upkeep.{all_swept}
use Rattle.host_rounds.specs.Deliveries.{Arrival}
use Rattle.host_rounds.specs.Rounds.{on_host}
use Rattle.scenario_text.specs.declared.scenario.Scenario.{Scenario}
use Rattle.scenario_text.specs.declared.scenario.HostLine.{HostLine}
use Rattle.scenario_runs.specs.Worlds.{World, site_of, at_start, due_at, is_at_rest}
use Rattle.scenario_runs.specs.Runs.{AreRounds, End, RunsFrom, hosts_of, Run}
use Rattle.scenario_laws.specs.Ticks.{HostTick, OfEachHost, FromTick, InEachTick}
use Rattle.scenario_laws.specs.Turns.{OfEachScript, HadTurn, HadTurns, GoesOn}
use Rattle.scenario_laws.proofs.AllTurned.{NumbersRise, round_turned}
use Rattle.scenario_laws.proofs.InTurns.{AllRise, start_rises, tick_of, all_step}
use Rattle.scenario_laws.proofs.Deeds.{At, Keeps, round_keeps}

-- two facts of each
pub each_two : {X : Type 0} (P Q R : X → Type 0) → ((x : X) → P x → Q x → R x) → (xs : List X) → Each P xs → Each Q xs
    → Each R xs
each_two P Q R both [] p q = tt
each_two P Q R both (x ∷ xs) p q = (both x p.0 q.0, each_two P Q R both xs p.1 q.1)

-- A tick leads from the fact of it to that of the next one.
abbrev pub Leads : Scenario → (HostLine → ℕ → At → Type 0) → Type 0
Leads s I =
    (l : HostLine) (t : ℕ) (frames : List Arrival) (b a : At) → HadTurns s (tick_of t frames b a)
    → NumbersRise 0 b.scripts → I l t b → I l (t + 1) a

-- A fact of a host with this line and of its scripts before a tick: it holds at the start, and each tick leads to it.
pub record Stays (s : Scenario) (I : HostLine → ℕ → At → Type 0) : Type 0 where
  pub start : Each (λ (l : HostLine). I l 0 (site_of s l)) s.hosts
  pub leads : Leads s I

-- So it is where whatever is done in a tick keeps the fact, and after the tick it holds of the next one.
pub leads_by : (s : Scenario) (I : HostLine → ℕ → At → Type 0)
    → ((l : HostLine) (p : HostParams) (t : ℕ) → Keeps s p t (I l t))
    → ((l : HostLine) (t : ℕ) (b a : At) → OfEachScript (GoesOn t) b.scripts a.scripts → I l t b → I l t a
    → I l (t + 1) a) → Leads s I
leads_by s I keeps next l t frames b a had rise i =
    next l t b a (all_step s b.host.params t (on_host all_swept b) had.0.order b.scripts a.scripts had.1) i
    (round_keeps s b.host.params (I l t) t _ b a (keeps l b.host.params t) rise had.0 i)

-- ----- one tick of all hosts
abbrev pub AllSites : (HostLine → ℕ → At → Type 0) → (tick : ℕ) → List HostLine → World → Type 0
AllSites I t [] [] = Unit {0}
AllSites I t (l ∷ ls) (site ∷ sites) = I l t site × AllSites I t ls sites
AllSites I t _ _ = ⊥

-- the other fact holds of a tick of a host of which this one stands
abbrev pub OfEachKept : Scenario → (HostLine → ℕ → At → Type 0) → (HostTick → Type 0) → Type 0
OfEachKept s I Fact =
    (l : HostLine) (t : ℕ) (frames : List Arrival) (b a : At) → HadTurns s (tick_of t frames b a)
    → NumbersRise 0 b.scripts → I l t b → Fact (tick_of t frames b a)

record Kept (s : Scenario) (I : HostLine → ℕ → At → Type 0) (Fact : HostTick → Type 0) (whole : World) (t h : ℕ)
    (lines : List HostLine) (before after : World) : Type 0 where
  fact : OfEachHost s Fact whole t h before after
  sites : AllSites I (t + 1) lines after
  rise : AllRise after

hosts_kept : (s : Scenario) (I : HostLine → ℕ → At → Type 0) (Fact : HostTick → Type 0) (whole : World) (t h : ℕ)
    (lines : List HostLine) (before after : World) → Stays s I → OfEachKept s I Fact
    → AreRounds s whole t h before after → AllSites I t lines before → AllRise before
    → Kept s I Fact whole t h lines before after
hosts_kept s I Fact whole t h [] [] [] keep each rounds sites rise = record { fact = tt; sites = tt; rise = tt }
hosts_kept s I Fact whole t h [] [] (a ∷ az) keep each rounds sites rise = absurd rounds
hosts_kept s I Fact whole t h [] (b ∷ bs) after keep each rounds sites rise = absurd sites
hosts_kept s I Fact whole t h (l ∷ ls) [] after keep each rounds sites rise = absurd sites
hosts_kept s I Fact whole t h (l ∷ ls) (b ∷ bs) [] keep each rounds sites rise = absurd rounds
hosts_kept s I Fact whole t h (l ∷ ls) (b ∷ bs) (a ∷ az) keep each rounds sites rise =
    let frames : List Arrival = (due_at s whole t h b.scripts).frames in
    let had : OfEachScript (HadTurn s b.host.params t (on_host all_swept b) rounds.0.order) b.scripts a.scripts
    × NumbersRise 0 a.scripts =
    round_turned s b.host.params t frames b a rise.0 rounds.0 in
    let rest : Kept s I Fact whole t (h + 1) ls bs az =
    hosts_kept s I Fact whole t (h + 1) ls bs az keep each rounds.1 sites.1 rise.1 in
    record {
      fact = (each l t frames b a (rounds.0, had.0) rise.0 sites.0, rest.fact);
      sites = (
        keep.leads l t frames b a (rounds.0, had.0) rise.0 sites.0,
        rest.sites,
      );
      rise = (had.1, rest.rise);
    }

-- ----- all ticks
ticks_kept : (s : Scenario) (I : HostLine → ℕ → At → Type 0) (Fact : HostTick → Type 0) (most t : ℕ) (world : World)
    (end : End) (run : RunsFrom s most t world end) → Stays s I → OfEachKept s I Fact → AllSites I t s.hosts world
    → AllRise world → FromTick s Fact most t world end run
ticks_kept s I Fact zero t world end run keep each sites rise = tt
ticks_kept s I Fact (suc most) t world end run keep each sites rise =
    let here : Kept s I Fact world t 0 s.hosts world run.0 =
    hosts_kept s I Fact world t 0 s.hosts world run.0 keep each run.1 sites rise in (
      here.fact,
      λ goes_on. ticks_kept s I Fact most (t + 1) run.0 end (run.3 goes_on) keep each here.sites here.rise,
    )

abbrev Nothing : HostTick → Type 0
Nothing x = Unit {0}

end_kept : (s : Scenario) (I : HostLine → ℕ → At → Type 0) (most t : ℕ) (world : World) (end : End)
    → RunsFrom s most t world end → Stays s I → AllSites I t s.hosts world → AllRise world
    → AllSites I end.ticks s.hosts end.world
end_kept s I zero t world end same keep sites rise =
    subst (λ (e : End). AllSites I e.ticks s.hosts e.world) (sym same) sites
end_kept s I (suc most) t world end run keep sites rise =
    let next : World = run.0 in
    let here : Kept s I Nothing world t 0 s.hosts world next =
    hosts_kept s I Nothing world t 0 s.hosts world next keep (λ l u frames b a had g i. tt) run.1 sites rise in
    by_rest (is_at_rest s t next) refl run.2 run.3 here.sites
    (λ rest. end_kept s I most (t + 1) next end rest keep here.sites here.rise)
  where
    by_rest : {next : World} (b : Bool) → is_at_rest s t next ≡ b
        → (is_at_rest s t next ≡ true → end ≡ record { world = next; ticks = t + 1; stalled = false })
        → (is_at_rest s t next ≡ false → RunsFrom s most (t + 1) next end) → AllSites I (t + 1) s.hosts next
        → (RunsFrom s most (t + 1) next end → AllSites I end.ticks s.hosts end.world)
        → AllSites I end.ticks s.hosts end.world
    by_rest true h stops goes after more =
        subst (λ (e : End). AllSites I e.ticks s.hosts e.world) (sym (stops h)) after
    by_rest false h stops goes after more = more (goes h)

starts : (s : Scenario) (I : HostLine → ℕ → At → Type 0) (lines : List HostLine)
    → Each (λ (l : HostLine). I l 0 (site_of s l)) lines → AllSites I 0 lines (map (site_of s) lines)
starts s I [] each = tt
starts s I (l ∷ ls) each = (each.0, starts s I ls each.1)

-- ----- runs
pub each_tick : (s : Scenario) (log : RunLog) (run : Run s log) (I : HostLine → ℕ → At → Type 0)
    (Fact : HostTick → Type 0) → Stays s I → OfEachKept s I Fact → InEachTick s log run Fact
each_tick s log run I Fact keep each =
    ticks_kept s I Fact s.limit 0 (at_start s) run.0 run.1 keep each (starts s I s.hosts keep.start)
    (start_rises s s.hosts)

each_of : (I : HostLine → ℕ → At → Type 0) (P : HostRun → Type 0) (t : ℕ) (lines : List HostLine) (world : World)
    → ((l : HostLine) (site : At) → I l t site → P (run_of l.name site.host)) → AllSites I t lines world
    → Each P (hosts_of lines world)
each_of I P t [] [] each sites = tt
each_of I P t [] (site ∷ world) each sites = absurd sites
each_of I P t (l ∷ ls) [] each sites = absurd sites
each_of I P t (l ∷ ls) (site ∷ world) each sites = (each l site sites.0, each_of I P t ls world each sites.1)

-- `P` may speak of how many ticks there were.
pub each_host : (s : Scenario) (log : RunLog) (I : HostLine → ℕ → At → Type 0) (P : ℕ → HostRun → Type 0) → Run s log
    → Stays s I → ((t : ℕ) (l : HostLine) (site : At) → I l t site → P t (run_of l.name site.host))
    → Each (P log.ticks) log.hosts
each_host s log I P run keep each =
    subst (λ (r : RunLog). Each (P r.ticks) r.hosts) (sym run.2)
    (each_of I (P run.0.ticks) run.0.ticks s.hosts run.0.world (each run.0.ticks)
    (end_kept s I s.limit 0 (at_start s) run.0 run.1 keep (starts s I s.hosts keep.start) (start_rises s s.hosts)))

-- two such facts
pub both_stay : (s : Scenario) (I J : HostLine → ℕ → At → Type 0) → Stays s I → Stays s J
    → Stays s (λ l t site. I l t site × J l t site)
both_stay s I J i j = record {
  start = each_two (λ (l : HostLine). I l 0 (site_of s l)) (λ (l : HostLine). J l 0 (site_of s l)) _
      (λ l x y. (x, y)) s.hosts i.start j.start;
  leads = λ l t frames b a had rise x. (i.leads l t frames b a had rise x.0, j.leads l t frames b a had rise x.1);
}
