-- How the host's parts of a flow are seen as one flow of a run.
use Rattle.std.specs.Prelude.{◌≡◌, ℕ, ◌<◌, true, false, List, [], ◌∷◌, Option, Some, None}
use Rattle.tas_model.specs.declared.entry.Caller.{Caller}
use Rattle.tas_model.specs.declared.entry.Caller.TheVariants.{App}
use Rattle.tas_model.specs.declared.entry.Call.{Call}
use Rattle.tas_model.specs.declared.entry.Call.TheVariants as calls
use Rattle.tas_model.specs.declared.entry.FlowId.{FlowId}
use Rattle.tas_model.specs.declared.entry.FourTuple.{FourTuple}
use Rattle.tas_model.specs.declared.entry.HostParams.{HostParams}
use Rattle.tas_model.specs.declared.entry.Entry.{Entry}
use Rattle.tas_model.specs.LegalHistory.{Legal, extended_by}
use Rattle.tas_model.specs.Valid.{InRange}
use Rattle.fast_tx.specs.Going.{left_in}
use Rattle.flow_state.specs.declared.call.Answer.{Answer}
use Rattle.flow_state.specs.declared.call.Answer.TheVariants as answers
use Rattle.flow_state.specs.Flow as records
use Rattle.host_rounds.specs.Logs.{Flow}
use Rattle.host_rounds.specs.Hosts.{Live, Host, Holder, Waiting, Application, GivenUp, endpoint, logged}
use Rattle.host_rounds.specs.Hosts.{first_entry, opened_in}
use Rattle.host_rounds.specs.declared.log.LogEvent.TheVariants as events
use Rattle.host_rounds.specs.declared.opening.Start.{Start}
use Rattle.host_rounds.specs.Upkeep.{quieted}
use Rattle.local_host.specs.declared.live.Holder as code
use Rattle.local_host.specs.declared.live.Holder.TheVariants as holders

-- the flow that is recorded
abbrev pub flow_in : records.Flow → Flow
flow_in r = record { id = r.id; tuple = r.tuple; params = r.params; entries = r.entries }

-- the flow that the history is of
abbrev pub flow_left : records.History → Flow
flow_left h = record { id = h.id; tuple = h.tuple; params = h.params; entries = h.entries }

-- it is a history of the endpoint, with parameters in their ranges
abbrev pub IsLegal : records.History → Type 0
IsLegal h = InRange h.params × Legal h.params h.entries

-- the flow with one entry more
abbrev pub called : Flow → Caller → (tick : ℕ) → Call → (offer : List ℕ) → Flow
called f caller tick call offer = record f { entries = extended_by f.params f.entries caller tick call offer }

-- how many bytes a Send with this answer took
abbrev pub took : Answer → ℕ
took (answers.Took len) = len
took _ = 0

-- who has the socket
abbrev pub holder_in : code.Holder → Holder
holder_in holders.Waiting = Waiting
holder_in (holders.Application app) = Application app
holder_in holders.GivenUp = GivenUp

-- ----- emission
-- What the flow has to send once this segment went leads to the same end, and is less.
pub record IsNext (tick : ℕ) (before after : Live) : Type 0 where
  pub same : quieted tick after ≡ quieted tick before
  pub less : left_in (endpoint after) < left_in (endpoint before)

-- ----- a flow that has just been opened
abbrev pub opened_live : FlowId → FourTuple → HostParams → Holder → Entry → Live
opened_live id tuple params holder x =
    record {
      flow = record { id = id; tuple = tuple; params = params; entries = x ∷ [] };
      indexed = true;
      holder = holder;
      filed = false;
    }

-- a connect of this application
abbrev pub connected_by : (app : ℕ) → (free : Option ℕ) → Start → (tick : ℕ) → Host → FourTuple → Host
connected_by app None start t host tuple = logged host t (events.ConnectRefused app tuple.raddr tuple.rport false)
connected_by app (Some slot) start t host tuple =
    opened_in host slot tuple start.scale (Application app)
    (first_entry (App app) t (calls.Connect start.number))
