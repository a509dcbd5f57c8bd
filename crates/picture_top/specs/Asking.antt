-- What the code's words ask for.
use Rattle.std.specs.Prelude.{option_map}
use Rattle.picture_top.specs.Words.{FlowName, Asked, Progress, Refused, Reads, WantsFlow}
use Rattle.picture_top.specs.declared.words.FlowName as code_name
use Rattle.picture_top.specs.declared.words.Asked as code_asked
use Rattle.picture_top.specs.declared.words.Progress as code_progress
use Rattle.picture_top.specs.declared.words.Progress.TheVariants as progress

abbrev pub name_in : code_name.FlowName → FlowName
name_in f = record { host = f.host.now; number = f.number }

abbrev pub asked_in : code_asked.Asked → Asked
asked_in a = record { flow = option_map name_in a.flow; absolute = a.absolute }

abbrev pub progress_in : code_progress.Progress → Progress
progress_in progress.Refused = Refused
progress_in (progress.Reads a) = Reads (asked_in a)
progress_in (progress.WantsFlow a) = WantsFlow (asked_in a)
