-- What the application asks of a flow in a tick: each stage of its script once at most, and the stages in their order.
use Rattle.std.specs.Prelude.{◌≡◌, ℕ, ◌+◌, ◌<◌, ◌≤◌, Bool, true, false, List, [], ◌∷◌, ◌++◌, flat_map, ⊤, if◌then◌else◌}
use Rattle.tas_model.specs.declared.entry.Entry.{Entry}
use Rattle.tas_model.specs.declared.entry.Caller.{Caller}
use Rattle.tas_model.specs.declared.entry.Caller.TheVariants.{App}
use Rattle.tas_model.specs.declared.entry.Call.{Call}
use Rattle.tas_model.specs.declared.entry.Call.TheVariants as calls
use Rattle.tas_runs.specs.Records.{Item}
use Rattle.tas_runs.specs.Batches.{IsBatch}
use Rattle.host_rounds.specs.Hosts.{Live}

-- ----- places in the script
-- the place of the call that an application makes among the calls of a script, from 1 on; a script makes no other calls
abbrev pub call_place : Call → ℕ
call_place (calls.Connect iss) = 1
call_place calls.Accept = 2
call_place (calls.Send offered) = 3
call_place calls.Shut = 4
call_place calls.Abort = 5
call_place (calls.Recv most) = 6
call_place _ = 0

abbrev pub is_app : Caller → Bool
is_app (App k) = true
is_app _ = false

abbrev pub app_place : Entry → List ℕ
app_place x = if is_app x.caller then call_place x.call ∷ [] else []

-- the places of all calls of the application, in the order of the entries
abbrev pub app_places : List Entry → List ℕ
app_places xs = flat_map app_place xs

-- ----- in their order
-- each number is above the one before it, all are above `low`, and none is above `high`
abbrev pub RisesWithin : (low high : ℕ) → List ℕ → Type 0
RisesWithin low high [] = low ≤ high
RisesWithin low high (n ∷ ns) = (low < n) × RisesWithin n high ns

-- the history grew by entries among which the application's calls stand in the order of the script, each once at most
abbrev pub AskedWithin : (low high : ℕ) → (before after : List Entry) → Type 0
AskedWithin low high before after = (more : List Entry) × (after ≡ before ++ more)
    × RisesWithin low high (app_places more)

abbrev pub IsAsked : (before after : List Entry) → Type 0
IsAsked before after = AskedWithin 0 7 before after

-- flow by flow; one that was opened in the tick had nothing before
abbrev pub AreAsked : (before after : List Live) → Type 0
AreAsked [] [] = ⊤
AreAsked [] (m ∷ ms) = IsAsked [] m.flow.entries × AreAsked [] ms
AreAsked (l ∷ ls) [] = ⊥
AreAsked (l ∷ ls) (m ∷ ms) = IsAsked l.flow.entries m.flow.entries × AreAsked ls ms

-- ----- the batch
-- the records' numbers rise, from `low` on
abbrev pub NumbersRise : (low : ℕ) → List Item → Type 0
NumbersRise low [] = ⊤
NumbersRise low (x ∷ xs) = (low ≤ x.number) × NumbersRise (x.number + 1) xs

-- What a batch of a capture is.
abbrev pub IsCaptureBatch : List Item → Type 0
IsCaptureBatch batch = IsBatch batch × ((low : ℕ) × NumbersRise low batch)
