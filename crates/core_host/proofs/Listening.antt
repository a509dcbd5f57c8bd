-- What applications ask alone: for the answers for the calls of a host.
use Rattle.std.proofs.Common.{◌≡◌, ◌<◌, ◌==◌, ◌||◌, ℕ, Bool, true, false, true≢false, List, [], ◌∷◌, ◌++◌, map, refl}
use Rattle.std.proofs.Common.{sym, ap, ◌∙◌, subst, arith}
use Rattle.std.proofs.lemmas.List.{map-append}
use Rattle.std.specs.List.{list_any}
use Rattle.host_rounds.specs.Hosts as hosts
use Rattle.host_rounds.specs.Hosts.{Host, is_listened, is_listening, first_port}
use Rattle.host_rounds.specs.declared.log.LogEvent.{LogEvent}
use Rattle.host_rounds.specs.declared.log.LogLine.{LogLine}
use Rattle.slow_handshake.specs.Openings.{Openings, has_port}
use Rattle.slow_handshake.specs.declared.openings.Listener.{Listener}
use Rattle.sound_hosts.specs.Hosts.{CoreHost, listener_of, host_of}
use Rattle.sound_calls.specs.Handing.{listening}
use Rattle.sound_calls.proofs.Listening.{listening_sound}
use Rattle.sound_turns.proofs.Serving.{like_sound}
use Rattle.core_host.specs.Sound.{IsStaffSound}
use Rattle.core_host.specs.Steps.{IsNoted, IsListening}
use Rattle.core_host.specs.Views.{Staffed, seen_by}
use Rattle.core_host.proofs.Staffs.{moved_staff}

-- ----- lines
abbrev pub with_lines : List LogLine → Staffed → Staffed
with_lines lines h = record h { host = record (h.host) { slow = record (h.host.slow) { log = lines } } }

pub noted : (h : Staffed) (tick : ℕ) (event : LogEvent) → IsStaffSound h
    → IsNoted tick event h (with_lines (h.host.slow.log ++ record { tick = tick; event = event } ∷ []) h)
noted h tick event sound = record {
  made = refl;
  sound = moved_staff h n sound (like_sound h.host h.host.slow n.slow sound.host refl sound.host.waiting) sound.counted
      refl refl refl sound.senders sound.kickers sound.timed;
  same = refl;
  time = refl;
  filed = refl;
}
  where
    n : CoreHost
    n = (with_lines (h.host.slow.log ++ record { tick = tick; event = event } ∷ []) h).host

pub noted_as : (h k : Staffed) (tick : ℕ) (event : LogEvent) (lines : List LogLine) → h ≡ k → IsStaffSound k
    → lines ≡ h.host.slow.log ++ record { tick = tick; event = event } ∷ [] → IsNoted tick event k (with_lines lines h)
noted_as h k tick event lines e sound is =
    subst (λ (x : Staffed). IsNoted tick event x (with_lines lines h)) e
    (subst (λ ls. IsNoted tick event h (with_lines ls h)) (sym is) (noted h tick event (subst IsStaffSound (sym e)
    sound)))

-- ----- listeners
pub is_taken_by : (port : ℕ) (ls : List Listener)
    → list_any (λ (l : hosts.Listener). l.port == port) (map listener_of ls) ≡ list_any (has_port port) ls
is_taken_by port [] = refl
is_taken_by port (l ∷ ls) = ap (λ t. (l.port == port) || t) (is_taken_by port ls)

abbrev pub with_one : (app port : ℕ) → Staffed → Staffed
with_one app port h = record h { host = listening app port h.host }

pub listens : (h : Staffed) (app port : ℕ) → IsStaffSound h → port < first_port
    → IsListening app port h (with_one app port h)
listens h app port sound low = record {
  made = ap (λ ls. record (host_of h.host) { listeners = ls })
      (map-append listener_of h.host.slow.path.listeners (record { port = port; app = app } ∷ []));
  sound = moved_staff h (listening app port h.host) sound (listening_sound h.host app port sound.host (omega arith))
      sound.counted refl refl refl sound.senders
      (record { steer = sound.kickers.steer; cores = sound.kickers.cores; own = sound.kickers.own }) sound.timed;
  same = refl;
  time = refl;
  filed = refl;
}

-- so it is of a host that is another name of one that is sound
abbrev pub with_path : Openings → Staffed → Staffed
with_path path h = record h { host = record (h.host) { slow = record (h.host.slow) { path = path } } }

pub listens_as : (h k : Staffed) (app port : ℕ) (path : Openings) → h ≡ k → IsStaffSound k → port < first_port
    → path ≡ record (h.host.slow.path) {
      listeners = h.host.slow.path.listeners ++ record { port = port; app = app } ∷
          [];
    }
    → IsListening app port k (with_path path h)
listens_as h k app port path e sound low is =
    subst (λ (x : Staffed). IsListening app port x (with_path path h)) e
    (subst (λ (p : Openings). IsListening app port h (with_path p h)) (sym is)
    (listens h app port (subst IsStaffSound (sym e) sound) low))

pub heard_as : (h k : Staffed) (port : ℕ) → h ≡ k
    → list_any (has_port port) h.host.slow.path.listeners ≡ is_listened port (seen_by k)
heard_as h k port e =
    sym (is_taken_by port h.host.slow.path.listeners) ∙ ap (λ (x : Staffed). is_listened port (seen_by x)) e

pub never_heard : (h k : Staffed) (port : ℕ) → h ≡ k → is_listened port (seen_by k) ≡ false
    → list_any (has_port port) h.host.slow.path.listeners ≡ true → ⊥
never_heard h k port e free taken = true≢false (sym taken ∙ (heard_as h k port e ∙ free))

pub hears_as : (h k : Staffed) (port : ℕ) (r : Bool) → h ≡ k
    → r ≡ (h.host.slow.path.params.fixed || list_any (has_port port) h.host.slow.path.listeners)
    → r ≡ is_listening (seen_by k) port
hears_as h k port r e is =
    is ∙ (ap (λ t. h.host.slow.path.params.fixed || t) (sym (is_taken_by port h.host.slow.path.listeners))
    ∙ ap (λ (x : Staffed). is_listening (seen_by x) port) e)
