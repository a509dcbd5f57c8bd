-- Who has the socket of a flow, as its history shows it.
use Rattle.std.specs.Prelude.{◌≡◌, ℕ, true, false, List, [], ◌∷◌, nat_lt, ⊤}
use Rattle.tas_model.specs.declared.entry.Entry.{Entry}
use Rattle.tas_model.specs.declared.entry.Caller.{Caller}
use Rattle.tas_model.specs.declared.entry.Caller.TheVariants.{Slow, App}
use Rattle.tas_model.specs.declared.entry.Call.{Call}
use Rattle.tas_model.specs.declared.entry.Call.TheVariants as calls
use Rattle.host_rounds.specs.Hosts.{Holder, Waiting, Application, GivenUp}
use Rattle.scenario_text.specs.declared.scenario.Scenario.{Scenario}
use Rattle.scenario_runs.specs.Applications.{let_go}
use Rattle.scenario_laws.specs.Kills.{IsKilled}

-- An application gets the socket by its Connect or Accept, and has it until its Close or Abort, or until the slow path
-- aborts the flow.
abbrev pub holder_after : Holder → Caller → Call → Holder
holder_after holder (App n) (calls.Connect iss) = Application n
holder_after holder (App n) calls.Accept = Application n
holder_after holder (App n) calls.Close = GivenUp
holder_after holder (App n) calls.Abort = GivenUp
holder_after holder Slow calls.Abort = let_go holder
holder_after holder by call = holder

-- who has it after these entries
abbrev pub holder_in : (before : Holder) → List Entry → Holder
holder_in holder [] = holder
holder_in holder (x ∷ xs) = holder_in (holder_after holder x.caller x.call) xs

-- The slow path aborts the flow of an application in the tick of its kill.
abbrev pub MayAbort : Scenario → Holder → (tick : ℕ) → Type 0
MayAbort s (Application n) t = IsKilled s n t
MayAbort s Waiting t = ⊤
MayAbort s GivenUp t = ⊤

-- An application makes a call on a socket of its own, or gets by it one that nobody has.
abbrev pub MayEnter : Scenario → Holder → (tick : ℕ) → Caller → Call → Type 0
MayEnter s holder t (App n) (calls.Connect iss) = holder ≡ Waiting
MayEnter s holder t (App n) calls.Accept = holder ≡ Waiting
MayEnter s holder t (App n) call = holder ≡ Application n
MayEnter s holder t Slow calls.Abort = MayAbort s holder t
MayEnter s holder t by call = ⊤

-- So it is of each of these entries, before which `holder` has the socket.
abbrev pub AreByHolder : Scenario → Holder → List Entry → Type 0
AreByHolder s holder [] = ⊤
AreByHolder s holder (x ∷ xs) =
    MayEnter s holder x.tick x.caller x.call × AreByHolder s (holder_after holder x.caller x.call) xs

-- the entries in front of the first one of this tick or a later one
abbrev pub entries_before : (tick : ℕ) → List Entry → List Entry
entries_before t [] = []
entries_before t (x ∷ xs) = elim (nat_lt x.tick t) [ true ↦ x ∷ entries_before t xs | false ↦ [] ]
