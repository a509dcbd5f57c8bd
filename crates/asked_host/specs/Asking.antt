-- What an application asks of a host, and what the host makes of it.
use Rattle.std.specs.Prelude.{◌≡◌, ℕ, ◌≤◌, ◌<◌, ◌^◌, List, [], ◌∷◌, ◌++◌, length, position, Option, Some, None, ⊤}
use Rattle.tas_model.specs.declared.entry.Caller.TheVariants.{App}
use Rattle.tas_model.specs.declared.entry.Call.{Call}
use Rattle.tas_model.specs.declared.entry.Call.TheVariants as calls
use Rattle.tas_model.specs.declared.entry.FourTuple.{FourTuple}
use Rattle.flow_state.specs.declared.call.CallIn.{CallIn}
use Rattle.flow_state.specs.declared.call.CallIn.TheVariants as ins
use Rattle.flow_state.specs.declared.call.Answer.{Answer}
use Rattle.flow_state.specs.declared.call.Answer.TheVariants as answers
use Rattle.host_rounds.specs.Hosts.{Live, Host, Holder, Application, GivenUp, Starts, at_flow, with_call, is_ready}

-- ----- listeners
abbrev pub listened_by : (app port : ℕ) → Host → Host
listened_by app port host = record host { listeners = host.listeners ++ (record { port = port; app = app }) ∷ [] }

-- ----- calls on the flow at a place
-- The calls after which the application has the socket as before. A Send offers fewer than 2^32 bytes, and a Recv asks
-- for 1 to 65,536.
abbrev pub IsSocketCall : CallIn → Type 0
IsSocketCall ins.Ready = ⊤
IsSocketCall (ins.Send bytes) = length bytes.now < 2 ^ 32
IsSocketCall (ins.Recv most) = (1 ≤ most) × (most ≤ 65536)
IsSocketCall ins.Shut = ⊤
IsSocketCall _ = ⊥

-- those that give it up
abbrev pub IsEndCall : CallIn → Type 0
IsEndCall ins.Close = ⊤
IsEndCall ins.Abort = ⊤
IsEndCall _ = ⊥

abbrev pub asked_by : (app place tick : ℕ) → Call → (offer : List ℕ) → Host → Host
asked_by app n t call offer host = at_flow n (λ (l : Live). with_call l (App app) t call offer) host

-- the socket has this holder
abbrev pub held_by : Holder → (place : ℕ) → Host → Host
held_by holder n host = at_flow n (λ (l : Live). record l { holder = holder }) host

-- the call is made, and the socket given up
abbrev pub left_by : (app place tick : ℕ) → Call → Host → Host
left_by app n t call host = held_by GivenUp n (asked_by app n t call [] host)

-- the flow is accepted
abbrev pub accepted_by : (app place tick : ℕ) → Host → Host
accepted_by app n t host = held_by (Application app) n (asked_by app n t calls.Accept [] host)

-- An accept at a port, by its answer: of the flows that may be accepted there the one that was opened first.
abbrev pub IsAccepting : (app tick port : ℕ) → (before after : Host) → Option ℕ → Type 0
IsAccepting app t port before after None = (position (is_ready port) before.flows ≡ None) × (after ≡ before)
IsAccepting app t port before after (Some n) =
    (position (is_ready port) before.flows ≡ Some n) × (after ≡ accepted_by app n t before)

-- ----- connects
-- What a flow is given at its opening is a number alone, which goes by its four-tuple and by how many flows the host
-- opened before it: no flow has a window scale of its own.
abbrev pub AreNumbersAlone : Starts → Type 0
AreNumbersAlone starts =
    (tuple : FourTuple) (k n : ℕ) → starts tuple k n ≡ record { number = (starts tuple 0 n).number; scale = None }

-- ----- answers
-- What is told of an answer: all but the segment by which a Recv tells the peer of room.
abbrev pub told : Answer → Answer
told (answers.Got len update) = answers.Got len None
told answer = answer
