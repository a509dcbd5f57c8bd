-- In every run of any scenario a connect gets the port after those that were taken before it.
use Rattle.std.proofs.Common.{◌≡◌, ℕ, ◌+◌, Bool, true, false, cond, List, [], ◌∷◌, ◌++◌, fold, nat_le}
use Rattle.std.proofs.Common.{refl, sym, subst, ap, ◌∙◌, true≢false}
use Rattle.tas_model.specs.declared.entry.HostParams.{HostParams}
use Rattle.tas_model.specs.declared.entry.FourTuple.{FourTuple}
use Rattle.tas_model.specs.declared.entry.Caller.TheVariants.{App}
use Rattle.tas_model.specs.declared.entry.Call.TheVariants as calls
use Rattle.host_rounds.specs.Lists.{Each, change_at}
use Rattle.host_rounds.specs.Logs.{HostRun, RunLog}
use Rattle.host_rounds.specs.Hosts.{Live, Host, Application, GivenUp, Starts, with_call, first_port, flows_of}
use Rattle.scenario_text.specs.declared.scenario.Step.{Step}
use Rattle.scenario_text.specs.declared.scenario.Scenario.{Scenario}
use Rattle.scenario_text.specs.declared.scenario.HostLine.{HostLine}
use Rattle.scenario_runs.specs.Applications.{Script, Turn, is_concerned, aborted_where, is_killed_at, goes_on}
use Rattle.scenario_runs.specs.Applications.{turn_where}
use Rattle.scenario_runs.specs.Worlds.{starts_of, address_in, site_of}
use Rattle.scenario_runs.specs.Runs.{Run}
use Rattle.scenario_laws.specs.Ports.{begins_by_connect, HaveNext}
use Rattle.scenario_laws.specs.Turns.{turn_on}
use Rattle.scenario_laws.proofs.Acts.{Act, Rests, Calls, Accepts, Connects, GivesUp, Notes, Listens, leaves, MayAct}
use Rattle.scenario_laws.proofs.Acts.{step_acts}
use Rattle.scenario_laws.proofs.Deeds.{At, Keeps}
use Rattle.scenario_laws.proofs.AllKept.{leads_by, each_host}
use Rattle.scenario_laws.proofs.AllPorts.{AllAlike, BegunAlike, called_alike, all_worked_alike, at_alike, map_alike}
use Rattle.scenario_laws.proofs.AllPorts.{is_given}
use Rattle.scenario_laws.proofs.PortsKept.{plain_call, last_call, held_alike, all_both, aborted_alike}

abbrev IsNext : (given : ℕ) → List Live → Type 0
IsNext n ls = HaveNext n (flows_of ls)

next_alike : (n : ℕ) (ls ms : List Live) → AllAlike ls ms → IsNext n ls → IsNext n ms
next_alike n [] [] all next = tt
next_alike n [] (m ∷ ms) all next = absurd all
next_alike n (l ∷ ls) [] all next = absurd all
next_alike n (l ∷ ls) (m ∷ ms) all next = (
  λ h. ap (λ (tuple : FourTuple). tuple.lport) all.0.tuple ∙ next.0 (sym all.0.connect ∙ h),
  subst (λ (tuple : FourTuple). IsNext (n + cond (nat_le first_port tuple.lport) 1 0) ms) (sym all.0.tuple)
      (next_alike (n + cond (is_given l) 1 0) ls ms all.1 next.1),
)

-- how many ports are taken after these flows
abbrev taken : ℕ → List Live → ℕ
taken n ls = fold (λ (k : ℕ) (l : Live). k + cond (is_given l) 1 0) n ls

next_push : (n : ℕ) (ls : List Live) (l : Live)
    → (begins_by_connect l.flow.entries ≡ true → l.flow.tuple.lport ≡ first_port + taken n ls) → IsNext n ls
    → IsNext n (ls ++ l ∷ [])
next_push n [] l last next = (last, tt)
next_push n (m ∷ ls) l last next = (next.0, next_push (n + cond (is_given m) 1 0) ls l last next.1)

-- ----- a turn
passed_next : (ls : List Live) (k : ℕ) (f g : Live → Live) → ((l : Live) → BegunAlike l (f l))
    → ((l : Live) → BegunAlike l (g l)) → IsNext 0 ls → IsNext 0 (change_at k g (change_at k f ls))
passed_next ls k f g one two next =
    next_alike 0 ls (change_at k g (change_at k f ls))
    (all_both ls (change_at k f ls) _ (at_alike k f one ls) (at_alike k g two (change_at k f ls))) next

act_next : (starts : Starts) (t n : ℕ) (step : Step) (host : Host) (act : Act) → MayAct step host act
    → IsNext 0 host.flows → IsNext 0 (leaves starts t n host act).flows
act_next starts t n step host Rests may next = next
act_next starts t n step host (Calls k call offer) may next =
    next_alike 0 host.flows _ (at_alike k (λ (l : Live). with_call l (App n) t call offer)
    (λ l. plain_call call may l n t offer) host.flows) next
act_next starts t n step host (Accepts k) may next =
    passed_next host.flows k _ _ (λ l. called_alike l (App n) t calls.Accept [] refl) (held_alike (Application n)) next
act_next starts t n step host (Connects slot tuple) may next = next_push 0 host.flows _ (λ h. may.0) next
act_next starts t n step host (GivesUp k call) may next =
    passed_next host.flows k _ _ (λ l. last_call call may l n t) (held_alike GivenUp) next
act_next starts t n step host (Notes event) may next = next
act_next starts t n step host (Listens port) may next = next

turn_next : (s : Scenario) (p : HostParams) (t : ℕ) (host : Host) (x : Script) → IsNext 0 host.flows
    → IsNext 0 (turn_on s p t host x).host.flows
turn_next s p t host x next = by_kill (is_killed_at t x.kill) where
  here : Turn
  here = record { host = host; script = x }

  by_left : (left : List Step) → IsNext 0 (goes_on (starts_of p) (address_in s.hosts) t left here).host.flows
  by_left [] = next
  by_left (step ∷ rest) =
      let acted = step_acts (starts_of p) (address_in s.hosts) t step here in
      subst (λ (h : Host). IsNext 0 h.flows) (sym acted.left)
      (act_next (starts_of p) t x.number step host acted.act acted.may next)

  by_kill : (b : Bool) → IsNext 0 (turn_where b (starts_of p) (address_in s.hosts) t here).host.flows
  by_kill true =
      next_alike 0 host.flows _ (map_alike (λ (l : Live). aborted_where (is_concerned x.number host l) t l)
      (λ l. aborted_alike (is_concerned x.number host l) t l) host.flows) next
  by_kill false = by_left x.left

-- ----- a run
abbrev NextAt : At → Type 0
NextAt site = IsNext 0 site.host.flows

next_keeps : (s : Scenario) (p : HostParams) (t : ℕ) → Keeps s p t NextAt
next_keeps s p t = record {
  flows = λ site ms worked next.
      next_alike 0 site.host.flows ms (all_worked_alike t site.host.flows ms worked) next;
  line = λ site event kind next. next;
  syn = λ site slot start frame tuple seg listening next.
      next_push 0 site.host.flows _ (λ h. absurd (true≢false (sym h))) next;
  turn = λ site k x found rise next. turn_next s p t site.host x next;
}

start_next : (s : Scenario) (lines : List HostLine) → Each (λ (l : HostLine). NextAt (site_of s l)) lines
start_next s [] = tt
start_next s (l ∷ ls) = (tt, start_next s ls)

pub ports_next : (s : Scenario) (log : RunLog) → Run s log → Each (λ (h : HostRun). HaveNext 0 h.flows) log.hosts
ports_next s log run =
    each_host s log (λ l t site. NextAt site) (λ ticks h. HaveNext 0 h.flows) run (record {
      start = start_next s s.hosts;
      leads = leads_by s (λ l t site. NextAt site) (λ l p t. next_keeps s p t) (λ l t b a goes before after. after);
    }) (λ t l site next. next)
