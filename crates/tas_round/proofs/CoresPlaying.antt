-- A replay on cores, a batch at a time.
use Rattle.std.proofs.Common.{◌≡◌, ℕ, ◌+◌, Bool, [], ◌∷◌, List, length, map, Result, Ok, Err, refl, ap, subst, sym}
use Rattle.std.proofs.Common.{◌∙◌}
use Rattle.tas_num.specs.Captures.{Fault, Capture, capture_of}
use Rattle.host_rounds.specs.Logs.{RunLog}
use Rattle.host_rounds.specs.Lists.{Each}
use Rattle.host_rounds.specs.Histories.{HasHistory}
use Rattle.host_rounds.specs.Scripts.{Site}
use Rattle.host_rounds.specs.Rounds.{Round, Rounds}
use Rattle.host_rounds.specs.Cores.{AllBelow, CoresBelow}
use Rattle.host_rounds.proofs.AllLegal.{round_kept}
use Rattle.host_rounds.proofs.AllBelow.{run_low}
use Rattle.core_rounds.specs.CoreTicks.{IsCoresTick}
use Rattle.core_rounds.proofs.CoresRounds.{cores_round, cores_low}
use Rattle.tas_runs.specs.Records.{Item, items_of}
use Rattle.tas_runs.specs.Batches.{batches_of}
use Rattle.tas_runs.specs.LocalScript.{Shown, capture_scripts, due_in}
use Rattle.tas_runs.specs.Replays.{at_start, replay_log, IsReplayOf, IsReplayFound, Replay}
use Rattle.tas_runs.proofs.ByMoves.{replays_by_moves}
use Rattle.capture_items.specs.Found.{IsFound}
use Rattle.capture_items.specs.declared.found.Found.{Found}
use Rattle.capture_items.proofs.Batches.{no_batch}

-- ----- a batch
abbrev pub BatchRound : List Item → (tick : ℕ) → (batch : List Item) → (before after : Site (List Shown)) → Type 0
BatchRound items t batch before after = Round (capture_scripts items) t (due_in batch) before after

pub batch_round : (items : List Item) (cores t : ℕ) (batch : List Item) (before after : Site (List Shown))
    → Each HasHistory before.host.flows → IsCoresTick (capture_scripts items) cores t (due_in batch) before after
    → BatchRound items t batch before after
batch_round items cores t batch before after histories tick =
    cores_round (capture_scripts items) cores t (due_in batch) before after (replays_by_moves items) histories tick

-- by its cores alone
pub batch_low : (items : List Item) (cores t : ℕ) (batch : List Item) (before after : Site (List Shown))
    → Each HasHistory before.host.flows → IsCoresTick (capture_scripts items) cores t (due_in batch) before after
    → AllBelow cores before.host → AllBelow cores after.host
batch_low items cores t batch before after histories tick low =
    cores_low (capture_scripts items) cores t (due_in batch) before after (replays_by_moves items) histories tick low

pub batch_kept : (items : List Item) (t : ℕ) (batch : List Item) (before after : Site (List Shown))
    → Each HasHistory before.host.flows → BatchRound items t batch before after → Each HasHistory after.host.flows
batch_kept items t batch before after histories round =
    round_kept (capture_scripts items) t (due_in batch) before after (replays_by_moves items) round histories

-- ----- the batches that are left
-- Each right way to the end of these is one of all.
abbrev pub LeadsRight : (local : ℕ) → (items : List Item) → (tick : ℕ) → Site (List Shown) → (rest : List Item) → Type 0
LeadsRight local items t site rest =
    (last : Site (List Shown)) → Rounds (capture_scripts items) t (map due_in (batches_of rest)) site last
    → Rounds (capture_scripts items) 0 (map due_in (batches_of items)) (at_start local) last

pub begins_right : (local : ℕ) (items : List Item) → LeadsRight local items 0 (at_start local) items
begins_right local items = λ last run. run

-- a batch more
pub next_right : (local : ℕ) (items xs batch rest : List Item) (t : ℕ) (site next : Site (List Shown))
    → batches_of xs ≡ batch ∷ batches_of rest → BatchRound items t batch site next → LeadsRight local items t site xs
    → LeadsRight local items (t + 1) next rest
next_right local items xs batch rest t site next first round leads = λ last run.
    leads last
    (subst (λ bs. Rounds (capture_scripts items) t (map due_in bs) site last) (sym first) (next, round, run))

pub ends_right : (local : ℕ) (items xs : List Item) (t : ℕ) (site : Site (List Shown)) → xs ≡ []
    → LeadsRight local items t site xs
    → Rounds (capture_scripts items) 0 (map due_in (batches_of items)) (at_start local) site
ends_right local items xs t site none leads =
    let empty : batches_of xs ≡ [] = ap batches_of none ∙ no_batch in
    leads site (subst (λ bs. Rounds (capture_scripts items) t (map due_in bs) site site) (sym empty) refl)

-- ----- of a capture
-- what its one host leaves
pub host_low : (cores local records : ℕ) (items : List Item) (site : Site (List Shown)) (log : RunLog)
    → log ≡ replay_log local records items site.host → AllBelow cores site.host → CoresBelow cores log.hosts
host_low cores local records items site log is low =
    subst (λ (r : RunLog). CoresBelow cores r.hosts) (sym is) (run_low cores site.host.flows low, tt)

-- What is right of the items that were found in a capture is right of it.
pub found_is_run : (bytes : List ℕ) (local : ℕ) (loose : Bool) (found : Found) (log : RunLog)
    → IsFound bytes local loose found → IsReplayOf local found.records found.items log
    → Replay local bytes loose log
found_is_run bytes local loose found log is run =
    subst (λ (r : Result Capture Fault). IsReplayFound local loose r log) (sym is.stands)
    (subst (λ (n : ℕ). IsReplayOf local n (items_of is.capture.form local loose is.capture.records) log) is.records
    (subst (λ (items : List Item). IsReplayOf local found.records items log) is.items run))
