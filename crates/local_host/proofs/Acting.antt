-- What a call leaves of a flow, where an engine answers it and where it doesn't.
use Rattle.std.proofs.Common.{◌≡◌, ℕ, Bool, true, false, cond, List, Option, Some, None, is_some, IfSome, IfNone}
use Rattle.std.proofs.Common.{ap, ◌∙◌}
use Rattle.tas_model.specs.declared.entry.Caller.{Caller}
use Rattle.tas_model.specs.declared.entry.Call.{Call}
use Rattle.tas_model.specs.LegalHistory.{extended_by}
use Rattle.flow_state.specs.declared.call.Answer.{Answer}
use Rattle.flow_state.specs.Flow as records
use Rattle.host_rounds.specs.Logs.{Flow}
use Rattle.host_rounds.specs.Hosts.{Live, with_call}
use Rattle.local_host.specs.Live.{flow_in, called}

pub acted : (before after : records.Flow) (by : Caller) (t : ℕ) (call : Call) (offer : List ℕ) (o : Option Answer)
    → after.id ≡ before.id → after.tuple ≡ before.tuple → after.params ≡ before.params
    → IfSome o (λ a. after.entries ≡ extended_by before.params before.entries by t call offer)
    → IfNone o (after.entries ≡ before.entries)
    → flow_in after ≡ cond (is_some o) (called (flow_in before) by t call offer) (flow_in before)
acted before after by t call offer (Some a) id tuple params made same = cc (id, tuple, params, made)
acted before after by t call offer None id tuple params made same = cc (id, tuple, params, same)

pub acted_live : (l m : Live) (f : Flow) (by : Caller) (t : ℕ) (call : Call) (offer : List ℕ) (b : Bool)
    (o : Option Answer)
    → l ≡ m → b ≡ is_some o → f ≡ cond (is_some o) (called l.flow by t call offer) l.flow
    → record l { flow = f } ≡ cond b (with_call m by t call offer) m
acted_live l m f by t call offer true (Some a) same answers made =
    ap (λ (g : Flow). record l { flow = g }) made ∙ ap (λ (x : Live). with_call x by t call offer) same
acted_live l m f by t call offer false None same answers made = ap (λ (g : Flow). record l { flow = g }) made ∙ same
acted_live l m f by t call offer true None same answers made = absurd (cc (answers))
acted_live l m f by t call offer false (Some a) same answers made = absurd (cc (answers))
