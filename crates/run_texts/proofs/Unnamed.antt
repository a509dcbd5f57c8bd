-- What hosts send is not told by their names and addresses.
use Rattle.std.proofs.Common.{◌≡◌, ℕ, zero, suc, ◌+◌, List, [], ◌∷◌, ◌++◌, map, refl, ap, ◌∙◌}
use Rattle.host_rounds.specs.Logs.{HostRun}
use Rattle.tas_runs.specs.SentFrames.{flows_at, strays_at, hosts_at, ticks_from}
use Rattle.run_texts.specs.Frames.{host_of}

-- the hosts without their names and addresses
abbrev pub unnamed : List HostRun → List HostRun
unnamed hosts = map (λ (h : HostRun). host_of h.flows h.log) hosts

tick_unnamed : (t : ℕ) (hosts : List HostRun) → hosts_at t (unnamed hosts) ≡ hosts_at t hosts
tick_unnamed t [] = refl
tick_unnamed t (h ∷ hs) = ap (λ l. flows_at t h.flows ++ strays_at t h.log ++ l) (tick_unnamed t hs)

pub ticks_unnamed : (count t : ℕ) (hosts : List HostRun) → ticks_from count t (unnamed hosts) ≡ ticks_from count t hosts
ticks_unnamed zero t hosts = refl
ticks_unnamed (suc count) t hosts =
    ap (λ l. l ++ ticks_from count (t + 1) (unnamed hosts)) (tick_unnamed t hosts)
    ∙ ap (λ l. hosts_at t hosts ++ l) (ticks_unnamed count (t + 1) hosts)
