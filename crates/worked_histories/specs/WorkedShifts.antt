-- A shift above 14 is read as 14 (RFC 7323, section 2.3).
use Rattle.std.specs.Prelude.{List, [], ◌∷◌, replicate, Some, None, true}
use Rattle.tas_model.specs.declared.entry.HostParams.{HostParams}
use Rattle.tas_model.specs.declared.entry.Entry.{Entry}
use Rattle.tas_model.specs.declared.entry.Caller.TheVariants.{Slow, Core, App}
use Rattle.tas_model.specs.declared.entry.Call.TheVariants as calls
use Rattle.tas_model.specs.declared.entry.Reply.TheVariants as replies
use Rattle.tas_model.specs.WorkedHistories.{entry, segment}
use Rattle.tas_model.specs.WorkedRules.{peers}
use Rattle.tas_model.specs.Shifts.{with_scale}
use Rattle.worked_histories.specs.Beginnings.{patient_params}

-- More than 16,384 bytes may be in flight, and a segment has half of that.
abbrev pub large_params : HostParams
large_params = record patient_params { ring = 32768; mss = 8192; fixed = true; scale = Some 0 }

-- The peer's SYN bears a shift of 15. Its window is one unit: of 16,385 bytes the first 16,384 go.
abbrev pub shift_of_15 : List Entry
shift_of_15 =
    entry (App 0) 0 0 (calls.Connect (record { 0 = 1000 })) replies.Ok
    ∷ entry (Core 0) 0 0 calls.Emit (replies.Sent (with_scale (segment 2 1000 0 32768 (Some 8192) []) (Some 0)))
    ∷ entry Slow 0 0 (calls.Rx peers (with_scale (segment 18 5000 1001 1 (Some 8192) []) (Some 15)))
    (replies.Sent (segment 16 1001 5001 32768 None []))
    ∷ entry (Core 0) 1 0 (calls.Rx peers (segment 16 5001 1001 1 None [])) replies.Nothing
    ∷ entry (App 0) 1 0 (calls.Send 16385) (replies.Took (replicate 16385 7))
    ∷ entry (Core 0) 2 0 calls.Emit (replies.Sent (segment 16 1001 5001 32768 None (replicate 8192 7)))
    ∷ entry (Core 0) 3 0 calls.Emit (replies.Sent (segment 16 9193 5001 32768 None (replicate 8192 7)))
    ∷ []
