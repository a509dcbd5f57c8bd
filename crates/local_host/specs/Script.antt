-- What a capture's script does for a flow, together with what was shown of it.
use Rattle.std.specs.Prelude.{ℕ, List, [], ◌∷◌, fold, get_or}
use Rattle.tas_model.specs.declared.entry.FourTuple.{FourTuple}
use Rattle.host_rounds.specs.Lists.{change_at}
use Rattle.host_rounds.specs.Hosts.{Live, Starts, at_flow}
use Rattle.host_rounds.specs.Scripts.{Site}
use Rattle.tas_runs.specs.Records.{Content}
use Rattle.tas_runs.specs.LocalScript.{Stage, Accepting, Sending, Shutting, Aborting, Receiving, Leaving, stages, Shown}
use Rattle.tas_runs.specs.LocalScript.{nothing_shown, all_shown, at_stage, shown_after, served_flow, served_content}

-- A flow, and what the capture showed of it.
pub record Served : Type 0 where
  pub live : Live
  pub shown : Shown

-- after this stage
abbrev pub staged : (tick : ℕ) → Content → Served → Stage → Served
staged t content p stage =
    record { live = at_stage stage t content p.shown p.live; shown = shown_after stage t content p.live p.shown }

-- the stages behind Beginning: all that the application does for a segment of a flow that stands
abbrev pub later_stages : List Stage
later_stages = Accepting ∷ Sending ∷ Shutting ∷ Aborting ∷ Receiving ∷ Leaving ∷ []

unfoldable pub asked_all : (tick : ℕ) → Content → Served → Served
asked_all t content p = fold (staged t content) p later_stages

-- the flow alone, where so much was shown
abbrev pub asked_live : (tick : ℕ) → Content → Shown → Live → Live
asked_live t content shown l = (asked_all t content (record { live = l; shown = shown })).live

-- ----- among the flows of the host
-- one thing shown a flow at least
abbrev pub shown_in : Site (List Shown) → List Shown
shown_in site = all_shown site.host.flows site.scripts

-- the flow at this place is this, and this was shown of it
abbrev pub at_place : (place : ℕ) → Served → Site (List Shown) → Site (List Shown)
at_place n p site =
    record {
      host = at_flow n (λ (l : Live). p.live) site.host;
      scripts = change_at n (λ (s : Shown). p.shown) (shown_in site);
    }

-- the application's calls for the flow at this place, which is l
abbrev pub asked_at : (place : ℕ) → Live → (tick : ℕ) → Content → Site (List Shown) → Site (List Shown)
asked_at n l t content site =
    at_place n (asked_all t content (record { live = l; shown = get_or (shown_in site) n nothing_shown })) site

-- the same of the host's flow that the index has under this four-tuple, where there is one
unfoldable pub served_later : (tick : ℕ) → Content → FourTuple → Site (List Shown) → Site (List Shown)
served_later t content tuple site =
    fold (λ (s : Site (List Shown)) (stage : Stage). served_flow stage t content tuple s) site later_stages

-- all stages of a record
unfoldable pub served_whole : Starts → (tick : ℕ) → Content → Site (List Shown) → Site (List Shown)
served_whole starts t content site =
    fold (λ (s : Site (List Shown)) (stage : Stage). served_content starts stage t content s) site stages
