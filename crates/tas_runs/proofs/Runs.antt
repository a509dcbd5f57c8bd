-- What holds of every run of a capture.
use Rattle.std.proofs.Common.{◌≡◌, ℕ, ◌+◌, ◌≤◌, Bool, List, [], length, map, drop, Result, Ok, Err, refl, sym, subst}
use Rattle.std.proofs.Common.{ap, ◌∙◌, arith}
use Rattle.tas_num.specs.Captures.{Fault, Form, Record, Capture, form_of, records_from, capture_with, capture_of}
use Rattle.tas_model.specs.declared.entry.HostParams.{HostParams}
use Rattle.tas_model.specs.declared.entry.FrameId.{FrameId}
use Rattle.tas_model.specs.Valid.{InRange}
use Rattle.host_rounds.specs.Logs.{HostRun, RunLog}
use Rattle.host_rounds.specs.Lists.{Each}
use Rattle.host_rounds.specs.Hosts.{flows_of}
use Rattle.host_rounds.specs.Places.{uses_flows, uses_hosts, uses_live, uses, coming}
use Rattle.host_rounds.specs.Openings.{openings_of, AreOpened}
use Rattle.host_rounds.specs.Histories.{IsSound, HasSentAll}
use Rattle.host_rounds.proofs.AllOpened.{IsRight, rounds_right}
use Rattle.host_rounds.proofs.Runs.{flows_sound, flows_quiet, flows_uses, rounds_quiet, coming_in, rounds_add}
use Rattle.tas_runs.specs.Records.{Item, items_of}
use Rattle.tas_runs.specs.Batches.{batches_of}
use Rattle.tas_runs.specs.Starts.{first_start}
use Rattle.tas_runs.specs.LocalScript.{capture_scripts, arrivals_in, due_in}
use Rattle.tas_runs.specs.Replays.{items_found, items_in, replay_params, at_start, IsReplayOf, IsReplayFound, Replay}
use Rattle.tas_runs.proofs.ByMoves.{replays_by_moves}
use Rattle.tas_runs.proofs.Shifts.{starts_fit}
use Rattle.tas_runs.proofs.OneRun.{batches_whole, coming_flat, AreNumbered, AllNumbered, records_numbered, at_most_once}

-- ----- from the host to its log
-- the parameters of a replay are in range
params_fit : (local : ℕ) → InRange (replay_params local)
params_fit local =
    record {
      ring = (omega arith, omega arith);
      mss = (omega arith, omega arith);
      rto = (omega arith, omega arith);
      slots = (omega arith, omega arith);
      backlog = (omega arith, omega arith);
      scale = tt;
    }

-- ----- a run of these records
right_in : (local records : ℕ) (found : List Item) (log : RunLog) (run : IsReplayOf local records found log)
    → IsRight (first_start found) (replay_params local) run.0.host
right_in local records found log run =
    rounds_right (capture_scripts found) (replay_params local) 0 (map due_in (batches_of found)) (at_start local) run.0
    (replays_by_moves found) run.1 (record { params = refl; legal = tt; opened = tt })

sound_in : (local records : ℕ) (found : List Item) (log : RunLog) → IsReplayOf local records found log
    → Each (λ (h : HostRun). Each IsSound h.flows) log.hosts
sound_in local records found log run =
    let right : IsRight (first_start found) (replay_params local) run.0.host = right_in local records found log run in
    subst (λ (r : RunLog). Each (λ (h : HostRun). Each IsSound h.flows) r.hosts) (sym run.2) (
      flows_sound (first_start found) (replay_params local) [] run.0.host.flows
          (params_fit local) (starts_fit found) right.opened right.legal,
      tt,
    )

abbrev AllOpened : List Item → HostParams → HostRun → Type 0
AllOpened items p h = AreOpened (first_start items) p [] (openings_of h.flows)

opened_in : (local records : ℕ) (found : List Item) (log : RunLog) → IsReplayOf local records found log
    → Each (AllOpened found (replay_params local)) log.hosts
opened_in local records found log run =
    subst (λ (r : RunLog). Each (AllOpened found (replay_params local)) r.hosts) (sym run.2)
    ((right_in local records found log run).opened, tt)

quiet_in : (local records : ℕ) (found : List Item) (log : RunLog) → IsReplayOf local records found log
    → Each (λ (h : HostRun). Each HasSentAll h.flows) log.hosts
quiet_in local records found log run =
    subst (λ (r : RunLog). Each (λ (h : HostRun). Each HasSentAll h.flows) r.hosts) (sym run.2) (
      flows_quiet run.0.host.flows (rounds_quiet (capture_scripts found) 0 (map due_in (batches_of found))
          (at_start local) run.0 run.1 tt),
      tt,
    )

place_in : (f : FrameId) (local records : ℕ) (found : List Item) (log : RunLog) → IsReplayOf local records found log
    → uses_hosts f log.hosts ≡ coming f (arrivals_in found)
place_in f local records found log run =
    let host : uses f run.0.host ≡ uses f (at_start local).host + coming_in f (map due_in (batches_of found)) =
    rounds_add (capture_scripts found) 0 (map due_in (batches_of found)) (at_start local) run.0 f
    (replays_by_moves found) run.1 tt in
    let same : coming_in f (map due_in (batches_of found)) ≡ coming f (arrivals_in found) =
    coming_flat f (batches_of found) ∙ ap (λ (xs : List Item). coming f (arrivals_in xs)) (batches_whole found) in
    let flows : uses_flows f (flows_of run.0.host.flows) ≡ uses_live f run.0.host.flows =
    flows_uses f run.0.host.flows in
    ap (λ (r : RunLog). uses_hosts f r.hosts) run.2 ∙ (omega arith)

once_in : (f : FrameId) (local : ℕ) (loose : Bool) (form : Form) (records : List Record) → AreNumbered 1 records
    → coming f (arrivals_in (items_of form local loose records)) ≤ 1
unfolding items_of
once_in f local loose form records numbered = at_most_once form local loose f 1 records numbered

-- ----- a run of a capture
-- What holds of each run of a capture's records holds of each run of the capture.
pub of_capture : (local : ℕ) (bytes : List ℕ) (loose : Bool) (log : RunLog) (P : List Item → Type 0)
    → ((records : ℕ) (found : List Item) → IsReplayOf local records found log → P found) → Replay local bytes loose log
    → P (items_in local bytes loose)
of_capture local bytes loose log P each run = by_capture (capture_of bytes) run where
  by_capture : (r : Result Capture Fault) → IsReplayFound local loose r log → P (items_found local loose r)
  by_capture (Err fault) h = absurd h
  by_capture (Ok c) h = each (length c.records) (items_of c.form local loose c.records) h

-- ----- the laws
pub replays_sound : (local : ℕ) (bytes : List ℕ) (loose : Bool) (log : RunLog) → Replay local bytes loose log
    → Each (λ (h : HostRun). Each IsSound h.flows) log.hosts
replays_sound local bytes loose log =
    of_capture local bytes loose log (λ found. Each (λ (h : HostRun). Each IsSound h.flows) log.hosts)
    (λ records found run. sound_in local records found log run)

pub replays_opened : (local : ℕ) (bytes : List ℕ) (loose : Bool) (log : RunLog) → Replay local bytes loose log
    → Each (λ (h : HostRun). AreOpened (first_start (items_in local bytes loose)) (replay_params local) []
    (openings_of h.flows)) log.hosts
replays_opened local bytes loose log =
    of_capture local bytes loose log (λ found. Each (AllOpened found (replay_params local)) log.hosts)
    (λ records found run. opened_in local records found log run)

pub replays_quiet : (local : ℕ) (bytes : List ℕ) (loose : Bool) (log : RunLog) → Replay local bytes loose log
    → Each (λ (h : HostRun). Each HasSentAll h.flows) log.hosts
replays_quiet local bytes loose log =
    of_capture local bytes loose log (λ found. Each (λ (h : HostRun). Each HasSentAll h.flows) log.hosts)
    (λ records found run. quiet_in local records found log run)

pub replays_place : (local : ℕ) (bytes : List ℕ) (loose : Bool) (log : RunLog) (frame : FrameId)
    → Replay local bytes loose log
    → uses_hosts frame log.hosts ≡ coming frame (arrivals_in (items_in local bytes loose))
replays_place local bytes loose log f run =
    of_capture local bytes loose log (λ found. uses_hosts f log.hosts ≡ coming f (arrivals_in found))
    (λ records found each. place_in f local records found log each) run

-- a frame comes once at most
pub found_once : (local : ℕ) (bytes : List ℕ) (loose : Bool) (frame : FrameId)
    → coming frame (arrivals_in (items_in local bytes loose)) ≤ 1
unfolding capture_of
found_once local bytes loose f = by_form (form_of bytes) where
  by_records : (form : Form) (r : Result (List Record) Fault) → AllNumbered 1 r
      → coming f (arrivals_in (items_found local loose (capture_with form r))) ≤ 1
  by_records form (Err fault) all = omega arith
  by_records form (Ok records) all = once_in f local loose form records all

  by_form : (r : Result Form Fault)
      → coming f (arrivals_in (items_found local loose
      (elim r [ Err fault ↦ Err fault | Ok form ↦ capture_with form (records_from form 1 (drop 24 bytes)) ]))) ≤ 1
  by_form (Err fault) = omega arith
  by_form (Ok form) = by_records form (records_from form 1 (drop 24 bytes)) (records_numbered form 1 (drop 24 bytes))
