-- The world of a scenario before the first tick.
use Rattle.std.proofs.Common.{◌≡◌, ℕ, ◌+◌, false, List, [], ◌∷◌, ltb, map, refl, sym, ap, ◌∙◌, subst, arith}
use Rattle.std.specs.List.{list_any}
use Rattle.std.proofs.lemmas.Bool.Decides.{nat_tests}
use Rattle.tas_model.specs.declared.entry.HostParams.{HostParams}
use Rattle.scenario_text.specs.declared.scenario.Scenario.{Scenario}
use Rattle.scenario_text.specs.declared.scenario.HostLine.{HostLine}
use Rattle.scenario_runs.specs.Worlds.{World, site_of, at_start, frames_of_hosts, sent_in, is_under_way}
use Rattle.sent_frames.specs.declared.counts.SentCounts.{SentCounts}
use Rattle.sent_frames.specs.Sending.{addresses_of, of_tick}
use Rattle.scenario_world.specs.declared.traffic.Traffic.{Traffic}
use Rattle.scenario_world.specs.Playing.{IsCounted, AreCounted, AreEarly, params_of, line_params, AreKept, IsWorldOf}

start_params : (s : Scenario) (hs : List HostLine) → params_of (map (site_of s) hs) ≡ line_params hs
start_params s [] = refl
start_params s (h ∷ hs) = ap (λ (ps : List HostParams). h.params ∷ ps) (start_params s hs)

start_addresses : (s : Scenario) (hs : List HostLine)
    → map (λ (h : HostLine). h.params.addr) hs ≡ addresses_of (map (site_of s) hs)
start_addresses s [] = refl
start_addresses s (h ∷ hs) = ap (λ (all : List ℕ). h.params.addr ∷ all) (start_addresses s hs)

start_early : (s : Scenario) (hs : List HostLine) → AreEarly 0 (map (site_of s) hs)
start_early s [] = tt
start_early s (h ∷ hs) = (record { histories = tt; entries = tt; lines = tt }, start_early s hs)

start_sent : (s : Scenario) (w : World) (n : ℕ) (hs : List HostLine) → frames_of_hosts w n (map (site_of s) hs) ≡ []
start_sent s w n [] = refl
start_sent s w n (h ∷ hs) = start_sent s w (n + 1) hs

-- a host without flows and lines, of which nothing is counted
pub start_counted : (s : Scenario) (h : HostLine) (c : SentCounts) → c.flows.items ≡ [] → c.answers ≡ 0 → c.lines ≡ 0
    → IsCounted (site_of s h).host c
start_counted s h c flows answers lines = record { flows = flows; answers = answers; lines = lines }

none_below : (n : ℕ) → false ≡ ltb n 0
none_below n = grind (arith, nat_tests)

start_kept : (s : Scenario) (world : World) → sent_in world ≡ [] → AreKept s 0 world [] 0
start_kept s world none =
    record {
      early = tt;
      low = 0;
      over = λ f u l le. absurd (omega (arith, l));
      same = λ k le. ap (of_tick k) (sym none);
      coming = λ n. ap (list_any (is_under_way s.link n)) none ∙ none_below n;
    }

pub start_is : (s : Scenario) (world : World) (k : Traffic) → world ≡ at_start s
    → k.addresses.items ≡ map (λ (h : HostLine). h.params.addr) s.hosts → AreCounted world k.counts.items
    → k.sent ≡ [] → k.last ≡ 0 → IsWorldOf s 0 world k
start_is s world k hosts addresses counted sent last =
    let none : sent_in world ≡ [] = ap sent_in hosts ∙ start_sent s (at_start s) 0 s.hosts in
    record {
      params = ap params_of hosts ∙ start_params s s.hosts;
      early = subst (λ w. AreEarly 0 w) (sym hosts) (start_early s s.hosts);
      addresses = addresses ∙ (start_addresses s s.hosts ∙ ap addresses_of (sym hosts));
      counted = counted;
      kept = subst (λ fs. AreKept s 0 world fs k.last) (sym sent)
          (subst (λ n. AreKept s 0 world [] n) (sym last) (start_kept s world none));
    }
