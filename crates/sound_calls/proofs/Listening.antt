-- An application listens on a port: for the law listens_keep_it.
use Rattle.std.proofs.Common.{ℕ, ◌<◌, ◌≤◌, [], ◌∷◌, arith}
use Rattle.host_rounds.proofs.Lists.{each_append}
use Rattle.slow_handshake.specs.Openings.{first_port}
use Rattle.slow_handshake.specs.declared.openings.Listener.{Listener}
use Rattle.sound_hosts.specs.Hosts.{CoreHost}
use Rattle.sound_hosts.specs.Sound.{IsHostSound}
use Rattle.sound_calls.specs.Handing.{listening}

pub listening_sound : (h : CoreHost) (app port : ℕ) → IsHostSound h → port ≤ 49151
    → IsHostSound (listening app port h)
listening_sound h app port sound low = record {
  alone = sound.alone;
  slow_pass = sound.slow_pass;
  waiting = sound.waiting;
  sound = sound.sound;
  slots = sound.slots;
  wide = sound.wide;
  numbered = sound.numbered;
  plain = sound.plain;
  indexed = sound.indexed;
  table = sound.table;
  kept = record {
    flows = sound.kept.flows;
    pins = sound.kept.pins;
    doomed = sound.kept.doomed;
    filed = sound.kept.filed;
  };
  opening = record {
    flows = sound.opening.flows;
    ports = sound.opening.ports;
    listeners = λ free. each_append (λ (l : Listener). l.port < first_port) h.slow.path.listeners
        (record { port = port; app = app } ∷ []) (sound.opening.listeners free) (omega (arith, low), tt);
    given = sound.opening.given;
  };
  shown = sound.shown;
  apps = sound.apps;
  numbers = sound.numbers;
  holders = sound.holders;
}
