-- Flows that send nothing in a tick: how their histories grow, and which flows the index has.
use Rattle.std.specs.Prelude.{◌≡◌, ℕ, ◌++◌, true, false, List, [], slice_get, Some}
use Rattle.tas_model.specs.declared.entry.Entry.{Entry}
use Rattle.tas_model.specs.Outputs.{segments_in}
use Rattle.host_rounds.specs.Lists.{Each}
use Rattle.host_rounds.specs.Hosts.{Live, is_over}

-- the entry has no segment that is sent
abbrev pub SendsNone : Entry → Type 0
SendsNone x = segments_in x.reply ≡ []

-- The history grew by entries that send nothing.
pub record GrewSilently (before after : List Entry) : Type 0 where
  pub more : List Entry
  pub grew : after ≡ before ++ more
  pub silent : Each SendsNone more

-- The flow at this place, before a tick and after it: it sent nothing in the tick.
pub record SentNothing (before after : List Live) (n : ℕ) : Type 0 where
  pub was : Live
  pub now : Live
  pub there : slice_get before n ≡ Some was
  pub still : slice_get after n ≡ Some now
  pub silent : GrewSilently was.flow.entries now.flow.entries

-- the index has the flow, or it is closed
abbrev pub IsFindable : Live → Type 0
IsFindable l = l.indexed ≡ false → is_over l ≡ true
