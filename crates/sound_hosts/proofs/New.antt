-- A host that opened no flow is sound: for the law new_hosts_are_sound.
use Rattle.std.proofs.Common.{List, [], ◌∷◌, map, ap, sym, subst, inl, ◌≡◌}
use Rattle.std.specs.Prelude.{IsPermutation, ◌<◌}
use Rattle.std.proofs.lemmas.List.Sorted.{IsPermutation-refl}
use Rattle.atomic_table.specs.Seated.{TableId}
use Rattle.tas_model.specs.declared.entry.FlowId.{FlowId}
use Rattle.host_rounds.specs.Lists.{Each}
use Rattle.flow_state.specs.Flow.{Flow}
use Rattle.flow_index.specs.Changes.{found_after}
use Rattle.flow_lock.specs.Orders.{known_of}
use Rattle.flow_lock.specs.declared.view.Mark.{Mark}
use Rattle.slow_handshake.specs.Openings.{first_port}
use Rattle.slow_handshake.specs.declared.openings.Listener.{Listener}
use Rattle.slow_worker.specs.Workers.{Worker}
use Rattle.libtas_sockets.specs.Apps as libtas
use Rattle.sound_hosts.specs.Sound.{IsHostSound, IsNewHost, IsNewApp, IsApp, without_flows}

pub by_same : (xs ys : List FlowId) → xs ≡ ys → IsPermutation xs ys
by_same xs ys same = subst (IsPermutation xs) same (IsPermutation-refl xs)

new_app : (table : TableId) (a : libtas.Application) → IsNewApp table a → IsApp table [] a
new_app table a new = record {
  own = new.own;
  turns = new.turns;
  begun = new.begun;
  sockets = by_same a.sockets [] new.sockets;
}

new_apps : (table : TableId) (xs : List libtas.Application) → Each (IsNewApp table) xs → Each (IsApp table []) xs
new_apps table [] each = tt
new_apps table (a ∷ xs) each = (new_app table a each.0, new_apps table xs each.1)

pub new_sound : (table : TableId) (w : Worker) (xs : List libtas.Application) → IsNewHost table w xs
    → IsHostSound (without_flows table w xs)
new_sound table w xs new = record {
  alone = new.alone;
  slow_pass = new.slow_pass;
  waiting = new.waits_not;
  sound = new.sound;
  slots = new.slots;
  wide = new.wide;
  numbered = tt;
  plain = tt;
  indexed = record {
    running = tt;
    once = tt;
    all = λ f. inl (ap (λ known. (known_of f known).entries) new.base);
  };
  table = record {
    marks = λ i m at. record {
      generation = ap (λ (x : Mark). x.generation) (new.unmarked i m at);
      live = ap (λ (x : Mark). x.live) (new.unmarked i m at);
      doomed = ap (λ (x : Mark). x.doomed) (new.unmarked i m at);
    };
    words = tt;
  };
  kept = record {
    flows = new.flows;
    pins = new.pins;
    doomed = by_same w.doomed [] new.doomed;
    filed = by_same (map (λ (r : Flow). r.id) w.filed) [] (ap (map (λ (r : Flow). r.id)) new.filed);
  };
  opening = record {
    flows = new.opening;
    ports = λ f. new.ports;
    listeners = λ f. subst (λ (ls : List Listener). Each (λ (l : Listener). l.port < first_port) ls)
        (sym new.listeners) tt;
    given = λ f. tt;
  };
  shown = record {
    pending = new.pending;
    shown = record { led = tt; none = λ t e. ap (found_after t) new.published };
  };
  apps = new_apps table xs new.new_apps;
  numbers = new.numbers;
  holders = tt;
}
