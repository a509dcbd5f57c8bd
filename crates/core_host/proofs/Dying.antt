-- What a kill makes of a host, part by part: for the answers for `CoreHost::kill`.
use Rattle.std.proofs.Common.{◌≡◌, ℕ, zero, suc, ◌+◌, ◌==◌, ◌&&◌, ◌||◌, not, cond, Bool, true, false, List, [], ◌∷◌}
use Rattle.std.proofs.Common.{◌++◌, map}
use Rattle.std.proofs.Common.{refl, sym, ap, ◌∙◌, ◌<◌}
use Rattle.std.specs.List.{list_any, filter}
use Rattle.tas_model.specs.declared.entry.Call.TheVariants as calls
use Rattle.tas_model.specs.declared.entry.Caller.TheVariants.{Slow}
use Rattle.host_rounds.specs.Hosts.{Live, Host, Holder, Waiting, Application, GivenUp, is_over, with_call}
use Rattle.host_rounds.specs.Hosts as hosts
use Rattle.host_rounds.specs.Lists.{Each}
use Rattle.host_rounds.specs.Logs.{Flow}
use Rattle.slow_handshake.specs.Openings.{first_port, is_owned_by}
use Rattle.slow_handshake.specs.declared.openings.Listener.{Listener}
use Rattle.slow_rounds.specs.Aborting.{given_up_by}
use Rattle.sound_hosts.specs.Hosts.{CoreHost, listener_of}
use Rattle.sound_hosts.specs.Sound.{IsHostSound}
use Rattle.scenario_runs.specs.Applications.{aborted_where, has_listener, is_concerned}
use Rattle.core_host.specs.Kills.{aborted_if, waits_for_it}

-- ----- listeners
-- the host without the application's listeners
abbrev pub unheard : (app : ℕ) → CoreHost → CoreHost
unheard app h = record h {
  slow = record (h.slow) {
    path = record (h.slow.path) {
      listeners = filter (λ (l : Listener). not (is_owned_by app l)) h.slow.path.listeners;
    };
  };
}

each_filter : {X : Type 0} (P : X → Type 0) (p : X → Bool) (xs : List X) → Each P xs → Each P (filter p xs)
each_filter P p [] each = tt
each_filter P p (x ∷ xs) each = by (p x) (each_filter P p xs each.1)
  where
    by : (t : Bool) → Each P (filter p xs) → Each P (cond t (x ∷ filter p xs) (filter p xs))
    by true rest = (each.0, rest)
    by false rest = rest

pub unheard_sound : (h : CoreHost) (app : ℕ) → IsHostSound h → IsHostSound (unheard app h)
unheard_sound h app sound = record {
  alone = sound.alone;
  slow_pass = sound.slow_pass;
  waiting = sound.waiting;
  sound = sound.sound;
  slots = sound.slots;
  wide = sound.wide;
  numbered = sound.numbered;
  plain = sound.plain;
  indexed = sound.indexed;
  table = sound.table;
  kept = record {
    flows = sound.kept.flows;
    pins = sound.kept.pins;
    doomed = sound.kept.doomed;
    filed = sound.kept.filed;
  };
  opening = record {
    flows = sound.opening.flows;
    ports = sound.opening.ports;
    listeners = λ free. each_filter (λ (l : Listener). l.port < first_port) (λ (l : Listener). not (is_owned_by app l))
        h.slow.path.listeners (sound.opening.listeners free);
    given = sound.opening.given;
  };
  shown = sound.shown;
  apps = sound.apps;
  numbers = sound.numbers;
  holders = sound.holders;
}

-- in a run
pub unheard_in_run : (app : ℕ) (ls : List Listener) → map listener_of (filter (λ (l : Listener). not (is_owned_by app
    l)) ls)
    ≡ filter (λ (l : hosts.Listener). not (l.app == app)) (map listener_of ls)
unheard_in_run app [] = refl
unheard_in_run app (l ∷ ls) = by (l.app == app) (unheard_in_run app ls)
  where
    by : (t : Bool) → map listener_of (filter (λ (x : Listener). not (is_owned_by app x)) ls)
        ≡ filter (λ (x : hosts.Listener). not (x.app == app)) (map listener_of ls)
        → map listener_of (cond (not t) (l ∷ filter (λ (x : Listener). not (is_owned_by app x)) ls)
        (filter (λ (x : Listener). not (is_owned_by app x)) ls))
        ≡ cond (not t) (listener_of l ∷ filter (λ (x : hosts.Listener). not (x.app == app)) (map listener_of ls))
        (filter (λ (x : hosts.Listener). not (x.app == app)) (map listener_of ls))
    by true rest = rest
    by false rest = ap (λ xs. listener_of l ∷ xs) rest

-- ----- flows
and_swap : (x y : Bool) → (x && y) ≡ (y && x)
and_swap true true = refl
and_swap true false = refl
and_swap false true = refl
and_swap false false = refl

heard_alike : (app port : ℕ) (ls : List Listener)
    → list_any (λ (x : hosts.Listener). x.app == app && x.port == port) (map listener_of ls)
    ≡ list_any (λ (x : Listener). x.port == port && x.app == app) ls
heard_alike app port [] = refl
heard_alike app port (l ∷ ls) = λ i. and_swap (l.app == app) (l.port == port) i || heard_alike app port ls i

-- one flow, with the Abort of a flow that waits and then that of a socket
module _ (app t : ℕ) (host : Host) (ls : List Listener) (heard : host.listeners ≡ map listener_of ls) where
  abbrev Agrees : Live → Type 0
  Agrees l = given_up_by app t (aborted_if app t ls l) ≡ aborted_where (is_concerned app host l) t l

  by_holder : (f : Flow) (indexed filed : Bool) (x : Holder)
      → Agrees (record { flow = f; indexed = indexed; holder = x; filed = filed })
  by_holder f indexed filed GivenUp = refl
  by_holder f indexed filed (Application n) = by (n == app)
    where
      l : Live
      l = record { flow = f; indexed = indexed; holder = Application n; filed = filed }

      by : (c : Bool) → cond c (record (with_call (record {
        flow = f;
        indexed = indexed;
        holder = Application n;
        filed
            = filed;
      })
          Slow t calls.Abort []) { holder = GivenUp })
          (record { flow = f; indexed = indexed; holder = Application n; filed = filed })
          ≡ aborted_where c t (record { flow = f; indexed = indexed; holder = Application n; filed = filed })
      by true = refl
      by false = refl
  by_holder f indexed filed Waiting =
      by (list_any (λ (x : Listener). x.port == f.tuple.lport && x.app == app) ls)
      (ap (list_any (λ (x : hosts.Listener). x.app == app && x.port == f.tuple.lport)) heard
      ∙ heard_alike app f.tuple.lport ls)
      (not (is_over (record { flow = f; indexed = indexed; holder = Waiting; filed = filed })))
    where
      by : (y : Bool) → has_listener app f.tuple.lport host ≡ y → (o : Bool)
          → given_up_by app t (cond (o && y)
          (with_call (record { flow = f; indexed = indexed; holder = Waiting; filed = filed }) Slow t calls.Abort [])
          (record { flow = f; indexed = indexed; holder = Waiting; filed = filed }))
          ≡ aborted_where (o && has_listener app f.tuple.lport host) t
          (record { flow = f; indexed = indexed; holder = Waiting; filed = filed })
      by true e true =
          ap (λ c. aborted_where c t (record { flow = f; indexed = indexed; holder = Waiting; filed = filed })) (sym e)
      by true e false = refl
      by false e true =
          ap (λ c. aborted_where c t (record { flow = f; indexed = indexed; holder = Waiting; filed = filed })) (sym e)
      by false e false = refl

  -- and so all flows
  pub all_agree : (flows : List Live) → map (given_up_by app t) (map (aborted_if app t ls) flows)
      ≡ map (λ (l : Live). aborted_where (is_concerned app host l) t l) flows
  all_agree [] = refl
  all_agree (l ∷ rest) = λ i. by_holder l.flow l.indexed l.filed l.holder i ∷ all_agree rest i
