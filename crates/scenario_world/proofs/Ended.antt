-- What the hosts of a world leave.
use Rattle.std.proofs.Common.{◌≡◌, ℕ, List, [], ◌∷◌, ◌++◌, length, refl, sym, ap, ◌∙◌, subst, suc}
use Rattle.std.proofs.Common.{Result, Ok, Err, IfOk}
use Rattle.host_rounds.specs.Logs.{HostRun, Flow}
use Rattle.host_rounds.specs.Hosts.{run_of, flows_of}
use Rattle.host_rounds.specs.Lists.{Each}
use Rattle.host_rounds.specs.Cores.{CoresBelow}
use Rattle.host_rounds.specs.Scripts.{Site}
use Rattle.host_rounds.specs.declared.log.LogLine.{LogLine}
use Rattle.tas_model.specs.declared.entry.HostParams.{HostParams}
use Rattle.local_host.specs.declared.host.HostEnd.{HostEnd}
use Rattle.scenario_text.specs.declared.scenario.HostLine.{HostLine}
use Rattle.scenario_runs.specs.Applications.{Script}
use Rattle.scenario_runs.specs.Worlds.{World}
use Rattle.scenario_runs.specs.Runs.{hosts_of}
use Rattle.scenario_runs.specs.Histories.{AreBelow}
use Rattle.scenario_runs.proofs.AllBelow.{hosts_low}
use Rattle.scenario_world.specs.declared.world.WorldEnd.{WorldEnd}
use Rattle.scenario_world.specs.Ends.{IsEnd, AreEnds, host_run, host_runs}
use Rattle.scenario_world.specs.Playing.{params_of, line_params}

ends_push : (sites : World) (ends : List HostEnd) (site : Site (List Script)) (end : HostEnd) → AreEnds sites ends
    → IsEnd site.host end → AreEnds (sites ++ site ∷ []) (ends ++ end ∷ [])
ends_push [] [] site end all one = (one, tt)
ends_push [] (e ∷ es) site end all one = absurd all
ends_push (s ∷ ss) [] site end all one = absurd all
ends_push (s ∷ ss) (e ∷ es) site end all one = (all.0, ends_push ss es site end all.1 one)

pub ends_more : (sites : World) (ends after : List HostEnd) (site : Site (List Script)) (end : HostEnd)
    → AreEnds sites ends → IsEnd site.host end → after ≡ ends ++ end ∷ [] → AreEnds (sites ++ site ∷ []) after
ends_more sites ends after site end all one is =
    subst (λ es. AreEnds (sites ++ site ∷ []) es) (sym is) (ends_push sites ends site end all one)

each_push : {X : Type 0} (P : X → Type 0) (xs : List X) (x : X) → Each P xs → P x → Each P (xs ++ x ∷ [])
each_push P [] x all one = (one, tt)
each_push P (y ∷ ys) x all one = (all.0, each_push P ys x all.1 one)

pub each_more : {X : Type 0} (P : X → Type 0) (xs after : List X) (x : X) → Each P xs → P x → after ≡ xs ++ x ∷ []
    → Each P after
each_more P xs after x all one is = subst (λ ys. Each P ys) (sym is) (each_push P xs x all one)

pub ends_len : (lines : List HostLine) (sites : World) (ends : List HostEnd) → params_of sites ≡ line_params lines
    → AreEnds sites ends → length ends ≡ length lines
ends_len [] [] [] params all = refl
ends_len [] [] (e ∷ es) params all = absurd all
ends_len [] (s ∷ ss) ends params all = absurd (cc (params))
ends_len (h ∷ hs) [] ends params all = absurd (cc (params))
ends_len (h ∷ hs) (s ∷ ss) [] params all = absurd all
ends_len (h ∷ hs) (s ∷ ss) (e ∷ es) params all =
    let rest : params_of ss ≡ line_params hs = cc (params) in ap suc (ends_len hs ss es rest all.1)

run_by : List ℕ → HostParams → List LogLine → List Flow → HostRun
run_by name params log flows = record { name = name; addr = params.addr; log = log; flows = flows }

-- what was left is what the definitions show of the world
pub ends_shown : (lines : List HostLine) (sites : World) (ends : List HostEnd) → params_of sites ≡ line_params lines
    → AreEnds sites ends → hosts_of lines sites ≡ host_runs lines ends
unfolding run_by
ends_shown [] sites ends params all = refl
ends_shown (h ∷ hs) [] [] params all = refl
ends_shown (h ∷ hs) [] (e ∷ es) params all = absurd all
ends_shown (h ∷ hs) (s ∷ ss) [] params all = absurd all
ends_shown (h ∷ hs) (s ∷ ss) (e ∷ es) params all =
    let first : s.host.params ≡ h.params = cc (params) in
    let rest : params_of ss ≡ line_params hs = cc (params) in
    let one : IsEnd s.host e = all.0 in
    let here : run_of h.name s.host ≡ host_run h e =
    ap (λ p. run_by h.name p s.host.log (flows_of s.host.flows)) first
    ∙ (ap (λ ls. run_by h.name h.params ls (flows_of s.host.flows)) (sym one.log)
    ∙ ap (λ fs. run_by h.name h.params e.log fs) (sym one.flows)) in
    ap (λ r. r ∷ hosts_of hs ss) here ∙ ap (λ rs. host_run h e ∷ rs) (ends_shown hs ss es rest all.1)

-- and it is by so many cores, where the world is
pub ends_low : {Y : Type 0} (cores : ℕ) (lines : List HostLine) (sites : World) (r : Result WorldEnd Y)
    → params_of sites ≡ line_params lines → AreBelow cores sites → IfOk r (λ end. AreEnds sites end.hosts.items)
    → IfOk r (λ end. CoresBelow cores (host_runs lines end.hosts.items))
ends_low cores lines sites (Ok end) params low ends =
    subst (CoresBelow cores) (ends_shown lines sites end.hosts.items params ends) (hosts_low cores lines sites low)
ends_low cores lines sites (Err e) params low ends = tt
