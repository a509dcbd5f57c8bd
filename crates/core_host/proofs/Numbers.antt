-- A connect by what a run gives its flows, where that is a number alone: for the answer for the trait's `connect_out`.
use Rattle.std.proofs.Common.{◌≡◌, ℕ, ◌+◌, length, sym, ap, ◌∙◌}
use Rattle.tas_model.specs.declared.entry.Call.TheVariants as calls
use Rattle.tas_model.specs.declared.entry.Caller.TheVariants.{App}
use Rattle.tas_model.specs.declared.entry.FourTuple.{FourTuple}
use Rattle.host_rounds.specs.Hosts.{Application, Host, Starts, first_entry, first_port, opened_as, opened_in}
use Rattle.host_rounds.specs.Hosts.{ports_given}
use Rattle.host_rounds.specs.declared.opening.Start.{Start}
use Rattle.local_host.specs.Ports as local
use Rattle.local_host.specs.declared.host.Connecting.{Connecting}
use Rattle.local_host.specs.declared.host.Connecting.TheVariants.{Opened, NoSlot, NoPort}
use Rattle.asked_host.specs.Asking.{AreNumbersAlone}
use Rattle.slow_handshake.specs.Numbers.{FirstNumbers}
use Rattle.slow_rounds.specs.Rests.{starts_by}
use Rattle.core_host.specs.Connecting.{IsConnecting}
use Rattle.core_host.specs.Views.{Staffed, seen_by}

-- the first numbers of these
abbrev pub numbers_in : Starts → FirstNumbers
numbers_in starts tuple n = (starts tuple 0 n).number

-- the four-tuple of a connect from the next port
abbrev tuple_to : (raddr rport : ℕ) → Host → FourTuple
tuple_to raddr rport host = record {
  laddr = host.params.addr;
  lport = first_port + ports_given host;
  raddr = raddr;
  rport = rport;
}

pub connects_by : (starts : Starts) (t app raddr rport : ℕ) (before after : Staffed) (answer : Connecting)
    → AreNumbersAlone starts → IsConnecting (starts_by (numbers_in starts)) t app raddr rport before after answer
    → local.IsConnecting starts t app raddr rport (seen_by before) (seen_by after) answer
connects_by starts t app raddr rport before after NoSlot alone made = (made.0, ap seen_by made.1)
connects_by starts t app raddr rport before after NoPort alone made = (made.0, made.1, ap seen_by made.2)
connects_by starts t app raddr rport before after (Opened place) alone made = (
  made.0,
  made.1,
  made.2,
  made.3,
  made.4.made
      ∙ ap (λ (start : Start). opened_in (seen_by before) made.0 (tuple_to raddr rport (seen_by before)) start.scale
      (Application app) (first_entry (App app) t (calls.Connect start.number)))
      (sym (alone (tuple_to raddr rport (seen_by before))
      (opened_as (tuple_to raddr rport (seen_by before)) (seen_by before).flows) (length (seen_by before).flows))),
)
