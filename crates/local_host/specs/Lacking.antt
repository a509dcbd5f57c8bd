-- What a flow's record may lack of its history.
use Rattle.std.specs.Prelude.{◌≡◌, ◌++◌, List}
use Rattle.tas_model.specs.declared.entry.Call.TheVariants as calls
use Rattle.tas_model.specs.declared.entry.Reply.TheVariants as replies
use Rattle.tas_model.specs.declared.entry.Entry.{Entry}
use Rattle.flow_state.specs.Flow as records
use Rattle.host_rounds.specs.Lists.{Each}
use Rattle.host_rounds.specs.Logs.{Flow}

-- a Tick of which nothing came
pub record IsQuietEntry (x : Entry) : Type 0 where
  pub call : x.call ≡ calls.Tick
  pub reply : x.reply ≡ replies.Quiet

-- The record has the flow's history, but for quiet ticks at its end.
pub record LacksTicks (r : records.Flow) (f : Flow) : Type 0 where
  pub ticks : List Entry
  pub entries : f.entries ≡ r.entries ++ ticks
  pub quiet : Each IsQuietEntry ticks
  pub id : r.id ≡ f.id
  pub tuple : r.tuple ≡ f.tuple
  pub params : r.params ≡ f.params
