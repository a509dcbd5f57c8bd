-- How the flows of a host are opened.
use Rattle.std.specs.Prelude.{◌≡◌, ℕ, ◌+◌, ◌-◌, ◌^◌, ◌≤◌, ◌<◌, ◌==◌, List, [], ◌∷◌, ◌++◌, length, count_by, Option}
use Rattle.std.specs.Prelude.{Some, None, IfSome, ⊤}
use Rattle.tas_model.specs.declared.entry.HostParams.{HostParams}
use Rattle.tas_model.specs.declared.entry.FourTuple.{FourTuple}
use Rattle.tas_model.specs.declared.entry.FlowId.{FlowId}
use Rattle.tas_model.specs.declared.entry.Entry.{Entry}
use Rattle.tas_model.specs.declared.entry.Call.{Call}
use Rattle.tas_model.specs.declared.entry.Call.TheVariants as calls
use Rattle.host_rounds.specs.declared.opening.Start.{Start}
use Rattle.host_rounds.specs.Logs.{Flow}
use Rattle.host_rounds.specs.Hosts.{Starts, flow_params, same_tuple}

-- What a flow got when it was opened: its slot with a generation, its four-tuple, its parameters, and the first
-- sequence number that its first entry shows.
pub record Opening : Type 0 where
  pub id : FlowId
  pub tuple : FourTuple
  pub params : HostParams
  pub number : Option ℕ

abbrev pub number_in : Call → Option ℕ
number_in (calls.Connect iss) = Some iss.0
number_in (calls.Passive frame iss seg) = Some iss.0
number_in _ = None

abbrev pub number_shown : List Entry → Option ℕ
number_shown [] = None
number_shown (x ∷ xs) = number_in x.call

abbrev pub opening_of : Flow → Opening
opening_of f = record { id = f.id; tuple = f.tuple; params = f.params; number = number_shown f.entries }

abbrev pub openings_of : List Flow → List Opening
openings_of [] = []
openings_of (f ∷ fs) = opening_of f ∷ openings_of fs

-- how many of these are of this four-tuple
abbrev pub openings_as : FourTuple → List Opening → ℕ
openings_as tuple os = count_by (λ (o : Opening). same_tuple tuple o.tuple) os

-- what these starts give to the opening of a flow of this four-tuple, after those before it
abbrev pub start_after : Starts → (before : List Opening) → FourTuple → Start
start_after starts before tuple = starts tuple (openings_as tuple before) (length before)

-- Each scale that they give is a shift of RFC 7323, section 2.3.
abbrev pub HaveShifts : Starts → Type 0
HaveShifts starts = (tuple : FourTuple) (k n : ℕ) → IfSome (starts tuple k n).scale (λ shift. shift ≤ 14)

-- The opening is right after those before it: these are fewer than a host opens at most, and it is with the host's
-- parameters and the scale that these starts give, in one of its slots, as that slot's next generation, and with the
-- first number that they give.
pub record IsOpened (starts : Starts) (host : HostParams) (before : List Opening) (o : Opening) : Type 0 where
  pub few : length before < 2 ^ 32 - 1
  pub params : o.params ≡ flow_params host (start_after starts before o.tuple).scale
  pub slot : o.id.slot < host.slots
  pub generation : o.id.generation ≡ 1 + count_by (λ (earlier : Opening). earlier.id.slot == o.id.slot) before
  pub number : o.number ≡ Some (start_after starts before o.tuple).number.0

-- Each of these openings is right after those of `before` and those that stand in front of it.
abbrev pub AreOpened : Starts → HostParams → (before openings : List Opening) → Type 0
AreOpened starts host before [] = ⊤
AreOpened starts host before (o ∷ os) = IsOpened starts host before o × AreOpened starts host (before ++ o ∷ []) os
