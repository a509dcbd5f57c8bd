-- What an application calls is no Tick and takes no frame, and the lines of its calls are of no frame.
use Rattle.std.proofs.Common.{◌≡◌, false, refl}
use Rattle.tas_model.specs.declared.entry.FrameId.{FrameId}
use Rattle.tas_model.specs.declared.entry.Caller.{Caller}
use Rattle.tas_model.specs.declared.entry.Caller.TheVariants.{Slow, Core, App}
use Rattle.tas_model.specs.declared.entry.Call.{Call}
use Rattle.tas_model.specs.declared.entry.Call.TheVariants as calls
use Rattle.host_rounds.specs.declared.log.LogEvent.{LogEvent}
use Rattle.host_rounds.specs.declared.log.LogEvent.TheVariants as events
use Rattle.host_rounds.specs.Moves.{IsAppCall, IsCallLine}
use Rattle.host_rounds.specs.Places.{is_call_with, is_line_with}
use Rattle.host_rounds.specs.Passing.{is_tick}

pub app_ticks_not : (by : Caller) (call : Call) → IsAppCall by call → is_tick call ≡ false
app_ticks_not Slow calls.Tick h = absurd h
app_ticks_not (Core k) calls.Tick h = absurd h
app_ticks_not (App k) calls.Tick h = absurd h
app_ticks_not by call h = refl

pub app_takes_none : (f : FrameId) (by : Caller) (call : Call) → IsAppCall by call → is_call_with f call ≡ false
app_takes_none f Slow (calls.Passive frame iss seg) h = absurd h
app_takes_none f (Core k) (calls.Passive frame iss seg) h = absurd h
app_takes_none f (App k) (calls.Passive frame iss seg) h = absurd h
app_takes_none f Slow (calls.Rx frame seg) h = absurd h
app_takes_none f (Core k) (calls.Rx frame seg) h = absurd h
app_takes_none f (App k) (calls.Rx frame seg) h = absurd h
app_takes_none f by call h = refl

pub line_takes_none : (f : FrameId) (event : LogEvent) → IsCallLine event → is_line_with f event ≡ false
line_takes_none f (events.Stray frame tuple seg answer) h = absurd h
line_takes_none f (events.Dropped frame backlog) h = absurd h
line_takes_none f (events.Refused frame number) h = absurd h
line_takes_none f event h = refl
