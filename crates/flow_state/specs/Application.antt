-- Which application a flow is of.
use Rattle.std.specs.Prelude.{ℕ, List, [], ◌∷◌, Option, Some, None}
use Rattle.std.specs.Option.{option_or}
use Rattle.tas_model.specs.declared.entry.Caller.{Caller}
use Rattle.tas_model.specs.declared.entry.Caller.TheVariants.{App}
use Rattle.tas_model.specs.declared.entry.Call.{Call}
use Rattle.tas_model.specs.declared.entry.Call.TheVariants.{Connect, Accept}
use Rattle.tas_model.specs.declared.entry.Reply.{Reply}
use Rattle.tas_model.specs.declared.entry.Reply.TheVariants.{Ok}
use Rattle.tas_model.specs.declared.entry.Entry.{Entry}

-- the application that gets a flow by this call: it connects, or is given a connection of its listener
abbrev pub got_by : Caller → Call → Reply → Option ℕ
got_by (App n) (Connect iss) reply = Some n
got_by (App n) Accept Ok = Some n
got_by caller call reply = None

-- The application of a flow is the first that got it.
abbrev pub application_of : List Entry → Option ℕ
application_of [] = None
application_of (x ∷ xs) = option_or (got_by x.caller x.call x.reply) (application_of xs)
