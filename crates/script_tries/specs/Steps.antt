-- What a step of a script tries beside the cores, one call on a socket, and how the script goes on by the reply to it.
use Rattle.std.specs.Prelude.{ℕ, Bool, true, false, List, [], ◌∷◌, length, take, drop, Option, Some, None}
use Rattle.tas_model.specs.declared.entry.Call.{Call}
use Rattle.tas_model.specs.declared.entry.Call.TheVariants as calls
use Rattle.tas_model.specs.declared.entry.Reply.{Reply}
use Rattle.host_rounds.specs.Hosts.{Holder, GivenUp}
use Rattle.scenario_text.specs.declared.scenario.Step.{Step}
use Rattle.scenario_text.specs.declared.scenario.Step.TheVariants as steps
use Rattle.scenario_runs.specs.Applications.{Script, bound_in, flow_of, is_killed_at, stepped, unbind, most, filling}
use Rattle.scenario_runs.specs.Applications.{asks_for, sent_on, received_on}

-- ----- the call
-- The name of the socket that the step makes its call on, where its call is one that is tried beside the cores.
abbrev pub socket_at : Step → Option (List ℕ)
socket_at (steps.Send socket text) = Some socket
socket_at (steps.Fill socket count) = Some socket
socket_at (steps.Recv socket count) = Some socket
socket_at (steps.Drain socket) = Some socket
socket_at (steps.Shut socket) = Some socket
socket_at (steps.Close socket) = Some socket
socket_at (steps.Abort socket) = Some socket
socket_at _ = None

-- the bytes that the call offers: of a Send the next ones
abbrev pub offer_at : Step → Script → List ℕ
offer_at (steps.Send socket text) s = take most (drop s.done text)
offer_at (steps.Fill socket count) s = take most (drop s.done (filling count))
offer_at _ s = []

-- the call; of a step that tries none it is of no account
abbrev pub call_at : Step → Script → Call
call_at (steps.Send socket text) s = calls.Send (length (take most (drop s.done text)))
call_at (steps.Fill socket count) s = calls.Send (length (take most (drop s.done (filling count))))
call_at (steps.Recv socket count) s = calls.Recv (asks_for (Some count) s.done)
call_at (steps.Drain socket) s = calls.Recv (asks_for None s.done)
call_at (steps.Shut socket) s = calls.Shut
call_at (steps.Close socket) s = calls.Close
call_at (steps.Abort socket) s = calls.Abort
call_at _ s = calls.Ready

-- who has the socket after the call: nobody any more after a Close and an Abort
abbrev pub holds_at : Step → Reply → Holder → Holder
holds_at (steps.Close socket) reply holder = GivenUp
holds_at (steps.Abort socket) reply holder = GivenUp
holds_at _ reply holder = holder

-- ----- the script goes on
-- by the reply to the call of this step
abbrev pub by_reply : Step → Reply → Script → Script
by_reply (steps.Send socket text) reply s = sent_on reply (length text) s
by_reply (steps.Fill socket count) reply s = sent_on reply (length (filling count)) s
by_reply (steps.Recv socket count) reply s = received_on reply (Some count) s
by_reply (steps.Drain socket) reply s = received_on reply None s
by_reply (steps.Shut socket) reply s = stepped s
by_reply (steps.Close socket) reply s = stepped (unbind socket s)
by_reply (steps.Abort socket) reply s = stepped (unbind socket s)
by_reply _ reply s = s

-- by the reply to the call of the step that is under way
abbrev pub first_by_reply : List Step → Reply → Script → Script
first_by_reply [] reply s = s
first_by_reply (step ∷ rest) reply s = by_reply step reply s

-- where it was tried and answered; else it stays
abbrev pub goes_by : Option Reply → Script → Script
goes_by None s = s
goes_by (Some reply) s = first_by_reply s.left reply s

-- ----- in a tick
-- the step under way, where the application is not killed in the tick
abbrev pub step_where : (killed_now : Bool) → List Step → Option Step
step_where true left = None
step_where false [] = None
step_where false (step ∷ rest) = Some step

abbrev pub step_in : (tick : ℕ) → Script → Option Step
step_in t s = step_where (is_killed_at t s.kill) s.left

-- the place of the flow whose socket the name stands for
abbrev pub place_named : Option (List ℕ) → Script → Option ℕ
place_named None s = None
place_named (Some socket) s = flow_of (bound_in s.names socket)

abbrev pub place_for : Option Step → Script → Option ℕ
place_for None s = None
place_for (Some step) s = place_named (socket_at step) s

-- the place, among all that were opened, of the flow whose call the script tries in the tick, where it tries one
abbrev pub place_at : (tick : ℕ) → Script → Option ℕ
place_at t s = place_for (step_in t s) s
