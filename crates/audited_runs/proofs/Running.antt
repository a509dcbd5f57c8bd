-- What is known of each host when a run has ended.
use Rattle.std.proofs.Common.{◌≡◌, ℕ, zero, suc, ◌+◌, ◌<◌, ◌^◌, Bool, true, false, List, [], ◌∷◌, ◌++◌, length, map}
use Rattle.std.proofs.Common.{Some, refl, sym, subst, ap, append_assoc, arith}
use Rattle.std.proofs.lemmas.List.{length-append}
use Rattle.std.specs.Prelude.{slice_get, bytes_eq}
use Rattle.tas_model.specs.declared.entry.HostParams.{HostParams}
use Rattle.host_rounds.specs.Lists.{Each}
use Rattle.host_rounds.specs.Scripts.{Site}
use Rattle.scenario_text.specs.declared.scenario.Scenario.{Scenario}
use Rattle.scenario_text.specs.declared.scenario.HostLine.{HostLine}
use Rattle.scenario_runs.specs.Applications.{Script}
use Rattle.scenario_runs.specs.Worlds.{World, site_of, at_start, address_in, due_at, is_at_rest}
use Rattle.scenario_runs.specs.Runs.{AreRounds, End, RunsFrom}
use Rattle.audited_runs.proofs.Telling.{Comes, AreLow, round_told}
use Rattle.audited_runs.proofs.Link.{AllTold, AreFrom, due_come}

abbrev At : Type 0
At = Site (List Script)

-- ----- places of hosts
-- these hosts stand in the world from this number on
abbrev StandFrom : (whole : World) → (h : ℕ) → World → Type 0
StandFrom whole h [] = Unit {0}
StandFrom whole h (site ∷ sites) = (slice_get whole h ≡ Some site) × StandFrom whole (h + 1) sites

got_behind : {X : Type 0} (before : List X) (y : X) (ys : List X)
    → slice_get (before ++ y ∷ ys) (length before) ≡ Some y
got_behind [] y ys = refl
got_behind (x ∷ xs) y ys = got_behind xs y ys

stand : (before sites : World) → StandFrom (before ++ sites) (length before) sites
stand before [] = tt
stand before (x ∷ xs) = (
  got_behind before x xs,
  subst (λ (whole : World). StandFrom whole (length before + 1) xs) (append_assoc before (x ∷ []) xs)
      (subst (λ (n : ℕ). StandFrom ((before ++ x ∷ []) ++ xs) n xs) (length-append before (x ∷ []))
      (stand (before ++ x ∷ []) xs)),
)

-- ----- addresses
abbrev pub AreAddrs : List ℕ → Type 0
AreAddrs addrs = Each (λ (a : ℕ). a < 2 ^ 32) addrs

abbrev pub addrs_in : List HostParams → List ℕ
addrs_in ps = map (λ (p : HostParams). p.addr) ps

places : (before ps : List HostParams) → AreAddrs (addrs_in ps)
    → AreFrom (addrs_in before ++ addrs_in ps) (length (addrs_in before)) ps
places before [] low = tt
places before (p ∷ ps) low = (
  record { at = got_behind (addrs_in before) p.addr (addrs_in ps); low = low.0 },
  subst (λ (all : List ℕ). AreFrom all (length (addrs_in before) + 1) ps)
      (append_assoc (addrs_in before) (p.addr ∷ []) (addrs_in ps))
      (subst (λ (n : ℕ). AreFrom ((addrs_in before ++ p.addr ∷ []) ++ addrs_in ps) n ps)
      (length-append (addrs_in before) (p.addr ∷ []))
      (subst (λ (as_ : List ℕ). AreFrom (as_ ++ addrs_in ps) (length as_) ps) (one_more before p)
      (places (before ++ p ∷ []) ps low.1))),
) where
  one_more : (before : List HostParams) (p : HostParams) → addrs_in (before ++ p ∷ []) ≡ addrs_in before ++ p.addr ∷ []
  one_more [] p = refl
  one_more (q ∷ qs) p = ap (λ (as_ : List ℕ). q.addr ∷ as_) (one_more qs p)

pub own_places : (ps : List HostParams) → AreAddrs (addrs_in ps) → AreFrom (addrs_in ps) 0 ps
own_places ps low = places [] ps low

abbrev pub params_in : List HostLine → List HostParams
params_in hosts = map (λ (h : HostLine). h.params) hosts

low_addresses : (hosts : List HostLine) → AreAddrs (addrs_in (params_in hosts)) → AreLow (address_in hosts)
low_addresses [] low name = omega arith
low_addresses (h ∷ hs) low name = by_name (bytes_eq h.name name) (low_addresses hs low.1 name) where
  by_name : (b : Bool) → address_in hs name < 2 ^ 32
      → elim b [ true ↦ h.params.addr | false ↦ address_in hs name ] < 2 ^ 32
  by_name true rest = low.0
  by_name false rest = rest

-- ----- ticks
rounds_told : (addrs : List ℕ) (all : List HostParams) (s : Scenario) (whole : World) (t h : ℕ) (ps : List HostParams)
    (before after : World) → AreLow (address_in s.hosts) → AreFrom addrs 0 all → AllTold addrs all whole
    → StandFrom whole h before → AreRounds s whole t h before after → AllTold addrs ps before → AllTold addrs ps after
rounds_told addrs all s whole t h [] [] [] low from whole_told at rounds told = tt
rounds_told addrs all s whole t h [] [] (a ∷ az) low from whole_told at rounds told = absurd rounds
rounds_told addrs all s whole t h [] (b ∷ bs) after low from whole_told at rounds told = absurd told
rounds_told addrs all s whole t h (p ∷ ps) [] after low from whole_told at rounds told = absurd told
rounds_told addrs all s whole t h (p ∷ ps) (b ∷ bs) [] low from whole_told at rounds told = absurd rounds
rounds_told addrs all s whole t h (p ∷ ps) (b ∷ bs) (a ∷ az) low from whole_told at rounds told = (
  round_told addrs p s b.host.params t (due_at s whole t h b.scripts) b a low rounds.0
      (subst (λ (q : HostParams). Each (Comes addrs q.addr) (due_at s whole t h b.scripts).frames) told.0.params
      (due_come addrs whole s.link t h b all from whole_told at.0)) told.0,
  rounds_told addrs all s whole t (h + 1) ps bs az low from whole_told at.1 rounds.1 told.1,
)

runs_told : (addrs : List ℕ) (all : List HostParams) (s : Scenario) (most t : ℕ) (world : World) (end : End)
    → AreLow (address_in s.hosts) → AreFrom addrs 0 all → RunsFrom s most t world end → AllTold addrs all world
    → AllTold addrs all end.world
runs_told addrs all s zero t world end low from same told =
    subst (λ (e : End). AllTold addrs all e.world) (sym same) told
runs_told addrs all s (suc most) t world end low from run told =
    let next : World = run.0 in
    let after : AllTold addrs all next =
    rounds_told addrs all s world t 0 all world next low from told (stand [] world) run.1 told in
    by_rest next (is_at_rest s t next) refl run.2 run.3 after
    (λ rest. runs_told addrs all s most (t + 1) next end low from rest after)
  where
    by_rest : (next : World) (b : Bool) → is_at_rest s t next ≡ b
        → (is_at_rest s t next ≡ true → end ≡ record { world = next; ticks = t + 1; stalled = false })
        → (is_at_rest s t next ≡ false → RunsFrom s most (t + 1) next end) → AllTold addrs all next
        → (RunsFrom s most (t + 1) next end → AllTold addrs all end.world) → AllTold addrs all end.world
    by_rest next true h stops goes after more =
        subst (λ (e : End). AllTold addrs all e.world) (sym (stops h)) after
    by_rest next false h stops goes after more = more (goes h)

start_told : (addrs : List ℕ) (s : Scenario) (hosts : List HostLine)
    → AllTold addrs (params_in hosts) (map (site_of s) hosts)
start_told addrs s [] = tt
start_told addrs s (h ∷ hs) = (record { params = refl; flows = tt; lines = tt }, start_told addrs s hs)

-- Each host of the last world.
pub end_told : (s : Scenario) (end : End) → AreAddrs (addrs_in (params_in s.hosts))
    → RunsFrom s s.limit 0 (at_start s) end
    → AllTold (addrs_in (params_in s.hosts)) (params_in s.hosts) end.world
end_told s end low run =
    let all : List HostParams = params_in s.hosts in
    runs_told (addrs_in all) all s s.limit 0 (at_start s) end (low_addresses s.hosts low) (own_places all low) run
    (start_told (addrs_in all) s s.hosts)
