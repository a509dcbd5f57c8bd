-- Where the rate of a flow is controlled.
use Rattle.std.specs.Prelude.{◌≡◌, ◌&&◌, Bool, true, false, List, [], ◌∷◌, ◌++◌}
use Rattle.tas_model.specs.declared.entry.HostParams.{HostParams}
use Rattle.tas_model.specs.declared.entry.Entry.{Entry}
use Rattle.tas_model.specs.declared.entry.Call.{Call}
use Rattle.tas_model.specs.declared.entry.Call.TheVariants as calls
use Rattle.tas_model.specs.Endpoint.{Endpoint}
use Rattle.tas_model.specs.ApplicationCalls.{Running, column}
use Rattle.tas_model.specs.LegalHistory.{replay}
use Rattle.host_rounds.specs.Logs.{Flow}
use Rattle.host_rounds.specs.Upkeep.{is_control_tick}
use Rattle.host_rounds.specs.Passing.{is_tick}

abbrev pub is_control : Call → Bool
is_control calls.Control = true
is_control _ = false

-- past SYN-RECEIVED and not closed
abbrev pub is_open : Endpoint → Bool
is_open e = elim (column e) [ Running ↦ true | _ ↦ false ]

-- The rate is due to be controlled behind this entry of a history: it is a Tick, its tick is one in which rates are
-- controlled, and it left the flow past SYN-RECEIVED and not closed.
abbrev pub is_due_behind : HostParams → (earlier : List Entry) → Entry → Bool
is_due_behind params earlier x =
    is_tick x.call && (is_control_tick params.fixed x.tick && is_open (replay params (earlier ++ x ∷ [])))

-- Each entry is a Control exactly where it is due behind the one before it; and none is due behind the last.
abbrev pub AreControlled : HostParams → (due : Bool) → (earlier entries : List Entry) → Type 0
AreControlled params due earlier [] = due ≡ false
AreControlled params due earlier (x ∷ xs) =
    (is_control x.call ≡ due) × AreControlled params (is_due_behind params earlier x) (earlier ++ x ∷ []) xs

abbrev pub IsControlled : Flow → Type 0
IsControlled f = AreControlled f.params false [] f.entries
