-- What the readings of a report have of it, line by line.
use Rattle.std.specs.Prelude.{◌≡◌, ℕ, List, [], ◌∷◌, ◌++◌, length, fold, Option, Some, None, ⊤}
use Rattle.tas_model.specs.declared.entry.Entry.{Entry}
use Rattle.report_lines.specs.Lines.{Line}
use Rattle.ladder_picture.specs.declared.row.Row.{Row}
use Rattle.report_picture.specs.Forms.{Said, Plain, Counts, AreOf, IsFaultIn}
use Rattle.report_picture.specs.Stages.{IsAt}
use Rattle.report_picture.specs.Hosts.{Named}
use Rattle.report_picture.specs.Flows.{nowhere, with_line, begun, flows_in, made, logged}
use Rattle.report_picture.specs.Pictures.{shown_entries, shown_rows, shown_log, known_by, rows_from, owner}
use Rattle.report_picture.specs.declared.ends.End.{End}
use Rattle.report_picture.specs.declared.ends.Ends.{Ends}
use Rattle.report_picture.specs.declared.flows.Above.{Above}
use Rattle.report_picture.specs.declared.flows.Flow.{Flow}
use Rattle.report_picture.specs.declared.known.Known.{Known}
use Rattle.report_picture.specs.declared.listing.Listing.{Listing}
use Rattle.report_picture.specs.declared.pictures.PictureFault.{PictureFault}
use Rattle.report_picture.specs.declared.pictures.PictureFault.TheVariants as faults

-- the lines of a run among what is said
abbrev pub plain : List Said → List Line
plain [] = []
plain (Plain l ∷ xs) = l ∷ plain xs
plain (Counts ∷ xs) = plain xs

-- ----- the first reading
-- the flow that begins by what is said
abbrev pub begun_by : Above → Said → List Flow
begun_by a (Plain l) = begun a l
begun_by a Counts = []

abbrev pub above_by : Above → Said → Above
above_by a (Plain l) = with_line a l
above_by a Counts = a

-- These lines have been read, with which a report begins.
pub record HasListed (n : Named) (l : Listing) (before : List (List ℕ)) : Type 0 where
  pub said : List Said
  pub of : AreOf n.replay n.names before said
  pub at : IsAt n.replay n.addrs said l.stage
  pub above : l.above ≡ fold with_line nowhere (plain said)
  pub flows : l.flows.items ≡ flows_in (plain said)
  pub count : l.count ≡ length before

-- They are no report, and this is the line at fault; want of memory is free.
abbrev pub IsUnlisted : Named → (texts : List (List ℕ)) → PictureFault → Type 0
IsUnlisted n texts faults.OutOfMemory = ⊤
IsUnlisted n texts (faults.Refused number) = IsFaultIn n texts number
IsUnlisted n texts (faults.Absent number) = ⊥

-- ----- the second one
abbrev pub made_for : Option Flow → Above → Line → List Entry
made_for None a l = []
made_for (Some f) a l = made f.host f.number a l

abbrev pub rows_for : Option Flow → Known → List Entry → List Row
rows_for None k xs = []
rows_for (Some f) k xs = rows_from (owner f) k xs

abbrev pub logged_for : (host : Option ℕ) → Above → Line → List Row
logged_for None a l = []
logged_for (Some host) a l = logged host a l

-- An end has what lines show of this flow, and of this host's log.
pub record IsShown (e : End) (flow : Option Flow) (host : Option ℕ) (lines : List Line) : Type 0 where
  pub rows : e.rows.items ≡ shown_rows flow lines
  pub known : e.known ≡ known_by (shown_entries flow lines)
  pub log : e.log.items ≡ shown_log host lines

pub record AreShown (e : Ends) (drawn : Flow) (peer : Option ℕ) (other : Option Flow) (lines : List Line)
    : Type 0 where
  pub above : e.above ≡ fold with_line nowhere lines
  pub ours : IsShown e.ours (Some drawn) (Some drawn.host) lines
  pub theirs : IsShown e.theirs other peer lines
