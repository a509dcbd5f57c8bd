-- Where a tick is the work of so many cores and of the slow path, so are all its entries: for the law
-- `serial_ticks_have_one_core`, and for those of ticks with cores.
use Rattle.std.proofs.Common.{◌≡◌, ℕ, ◌+◌, ◌&&◌, Bool, true, false, List, [], ◌∷◌, fold, Option, Some}
use Rattle.std.proofs.Common.{None, subst, arith}
use Rattle.tas_model.specs.declared.entry.FourTuple.{FourTuple}
use Rattle.tas_model.specs.declared.entry.FrameId.{FrameId}
use Rattle.tas_model.specs.declared.entry.Seg.{Seg}
use Rattle.tas_model.specs.declared.entry.Entry.{Entry}
use Rattle.tas_model.specs.declared.entry.Caller.{Caller}
use Rattle.tas_model.specs.declared.entry.Caller.TheVariants.{Slow, Core, App}
use Rattle.tas_model.specs.declared.entry.Call.{Call}
use Rattle.tas_model.specs.declared.entry.Call.TheVariants as calls
use Rattle.tas_model.specs.NextSegment.{Going, going}
use Rattle.tas_model.proofs.Tests.{on_cond}
use Rattle.host_rounds.specs.declared.opening.Start.{Start}
use Rattle.host_rounds.specs.Lists.{Each}
use Rattle.host_rounds.specs.Hosts.{Live, Host, Starts, next_start, endpoint, is_over, with_call, is_known}
use Rattle.host_rounds.specs.Hosts.{is_indexed_as, is_listening, is_full, lowest_free, flows_of}
use Rattle.host_rounds.specs.Upkeep.{swept, all_swept, controlled, timed_unless, timed, emits_where, emits}
use Rattle.host_rounds.specs.Deliveries.{Packet, Damaged, Segment, received, opens, opened_by_syn, met_no_flow, arrived}
use Rattle.host_rounds.specs.Deliveries.{delivered_packet}
use Rattle.host_rounds.specs.Scripts.{Site, Scripts}
use Rattle.host_rounds.specs.Moves.{Move, Calls, Opens, Notes, Holds, Listens, moved, IsAppCall, MayMove, AreByMoves}
use Rattle.host_rounds.specs.Rounds.{Action, Timer, Frame, Ask, Emission, Deed, done_by, does, on_host, Due}
use Rattle.host_rounds.specs.Rounds.{IsWorker}
use Rattle.host_rounds.specs.SerialOrder.{serial_tick, serial_ticks}
use Rattle.host_rounds.specs.Cores.{IsWorkerOf, IsBelow, HasCoresBelow, AllBelow}
use Rattle.host_rounds.proofs.Flows.{on_control}
use Rattle.host_rounds.proofs.AllLegal.{AreLegal, each_map, each_first, each_at, each_push, call_cases, asked_keeps}
use Rattle.host_rounds.proofs.AllLegal.{done_kept, all_swept_kept, round_kept}
use Rattle.host_rounds.proofs.SerialRounds.{serial_order, serial_made, serial_workers, serial_round}

-- ----- workers
worker_below : (n : ℕ) (by : Caller) → IsWorkerOf n by → IsBelow n by
worker_below n Slow is = tt
worker_below n (Core k) is = is
worker_below n (App k) is = absurd is

is_worker : (n : ℕ) (by : Caller) → IsWorkerOf n by → IsWorker by
is_worker n Slow is = tt
is_worker n (Core k) is = tt
is_worker n (App k) is = absurd is

pub are_workers : {A : Type 0} (n : ℕ) (order : List (Deed A)) → Each (λ (m : Deed A). IsWorkerOf n m.by) order
    → Each (λ (m : Deed A). IsWorker m.by) order
are_workers n [] each = tt
are_workers n (m ∷ ms) each = (is_worker n m.by each.0, are_workers n ms each.1)

module _ (n : ℕ) where
  abbrev Low : Live → Type 0
  Low l = HasCoresBelow n l.flow

  -- ----- one flow
  call_low : (by : Caller) (t : ℕ) (call : Call) (offer : List ℕ) → IsBelow n by → (l : Live) → Low l
      → Low (with_call l by t call offer)
  call_low by t call offer is l all = each_push (λ (x : Entry). IsBelow n x.caller) l.flow.entries _ all is

  controlled_low : (by : Caller) (t : ℕ) → IsBelow n by → (l : Live) → Low l → Low (controlled by t l)
  controlled_low by t is l all =
      on_control Low _ by t l (λ h. call_low by t calls.Control [] is l all) (λ h. all)

  timed_low : (by : Caller) (t : ℕ) → IsBelow n by → (l : Live) → Low l → Low (timed by t l)
  timed_low by t is l all = by_over (is_over l) where
    by_over : (b : Bool) → Low (timed_unless b by t l)
    by_over true = all
    by_over false = controlled_low by t is (with_call l by t calls.Tick []) (call_low by t calls.Tick [] is l all)

  swept_low : (l : Live) → Low l → Low (swept l)
  swept_low l all = on_cond Low (is_over l) _ _ (λ h. all) (λ h. all)

  emits_low : (by : Caller) (t : ℕ) → IsBelow n by → (l : Live) → Low l → Low (emits by t l)
  emits_low by t is l all = by_going (going (endpoint l)) where
    by_going : (o : Option Going) → Low (emits_where o by t l)
    by_going None = all
    by_going (Some g) = call_low by t calls.Emit [] is l all

  -- ----- frames
  syn_low : (full : Bool) (free : Option ℕ) (start : Start) (t : ℕ) (host : Host) (frame : FrameId) (tuple : FourTuple)
      (seg : Seg) → AllBelow n host → AllBelow n (opened_by_syn full free start t host frame tuple seg)
  syn_low true free start t host frame tuple seg all = all
  syn_low false None start t host frame tuple seg all = all
  syn_low false (Some slot) start t host frame tuple seg all = each_push Low host.flows _ all (tt, tt)

  no_flow_low : (opening listening : Bool) (start : Start) (t : ℕ) (host : Host) (frame : FrameId) (tuple : FourTuple)
      (seg : Seg) → AllBelow n host → AllBelow n (met_no_flow opening listening start t host frame tuple seg)
  no_flow_low true listening start t host frame tuple seg all =
      syn_low (is_full host tuple.lport) (lowest_free host) start t host frame tuple seg all
  no_flow_low false listening start t host frame tuple seg all = all

  arrived_low : (known : Bool) (by : Caller) (start : Start) (t : ℕ) (host : Host) (frame : FrameId) (tuple : FourTuple)
      (seg : Seg) → IsBelow n by → AllBelow n host
      → AllBelow n (arrived known (received by t frame seg) start t host frame tuple seg)
  arrived_low true by start t host frame tuple seg is all =
      each_first Low (is_indexed_as tuple) (received by t frame seg) (call_low by t (calls.Rx frame seg) [] is)
      host.flows all
  arrived_low false by start t host frame tuple seg is all =
      no_flow_low (is_listening host tuple.lport && opens seg) (is_listening host tuple.lport) start t host frame
      tuple seg all

  packet_low : (by : Caller) (starts : Starts) (t : ℕ) (host : Host) (frame : FrameId) (packet : Packet)
      → IsBelow n by → AllBelow n host → AllBelow n (delivered_packet (received by) starts t host frame packet)
  packet_low by starts t host frame (Damaged rule) is all = all
  packet_low by starts t host frame (Segment tuple seg) is all =
      arrived_low (is_known host tuple) by (next_start starts host tuple) t host frame tuple seg is all

  -- ----- moves
  -- no core makes an application's call
  app_low : (by : Caller) (call : Call) → IsAppCall by call → IsBelow n by
  app_low Slow call app = tt
  app_low (Core k) call app = absurd app
  app_low (App k) call app = tt

  move_low : (starts : Starts) (t : ℕ) (host : Host) (m : Move) → MayMove host m → AllBelow n host
      → AllBelow n (moved starts t host m)
  move_low starts t host (Calls k by call offer) may all =
      call_cases (AllBelow n) starts t host k by call offer may all
      (λ app. each_at Low k (λ (l : Live). with_call l by t call offer)
      (call_low by t call offer (app_low by call app)) host.flows all)
  move_low starts t host (Opens slot tuple app) may all = each_push Low host.flows _ all (tt, tt)
  move_low starts t host (Notes event) may all = all
  move_low starts t host (Holds k holder) may all =
      each_at Low k (λ (l : Live). record l { holder = holder }) (λ l low. low) host.flows all
  move_low starts t host (Listens listeners) may all = all

  -- ----- ticks
  done_low : {S A : Type 0} (scripts : Scripts S A) (t : ℕ) (site : Site S) (by : Caller) (action : Action A)
      → AreByMoves scripts → AreLegal site.host → IsBelow n by → AllBelow n site.host
      → AllBelow n (done_by scripts t site by action).host
  done_low scripts t site by (Timer k) by_moves legal is all =
      each_at Low k (timed by t) (timed_low by t is) site.host.flows all
  done_low scripts t site by (Frame x) by_moves legal is all =
      packet_low by scripts.starts t site.host x.frame x.packet is all
  done_low scripts t site by (Ask a) by_moves legal is all =
      asked_keeps (AllBelow n) scripts t by_moves (λ host m each may low. move_low scripts.starts t host m may low)
      site a legal all
  done_low scripts t site by (Emission k) by_moves legal is all =
      each_at Low k (emits by t) (emits_low by t is) site.host.flows all

  order_low : {S A : Type 0} (scripts : Scripts S A) (t : ℕ) (site : Site S) (order : List (Deed A))
      → AreByMoves scripts → Each (λ (m : Deed A). IsWorkerOf n m.by) order → AreLegal site.host
      → AllBelow n site.host → AllBelow n (fold (does scripts t) site order).host
  order_low scripts t site [] by_moves each legal all = all
  order_low scripts t site (m ∷ order) by_moves each legal all =
      order_low scripts t (does scripts t site m) order by_moves each.1
      (done_kept scripts t site m.by m.action by_moves legal)
      (done_low scripts t site m.by m.action by_moves legal (worker_below n m.by each.0) all)

  -- what such deeds leave of a tick's start
  pub made_low : {S A : Type 0} (scripts : Scripts S A) (t : ℕ) (before after : Site S) (order : List (Deed A))
      → AreByMoves scripts → AreLegal before.host → Each (λ (m : Deed A). IsWorkerOf n m.by) order
      → fold (does scripts t) (on_host all_swept before) order ≡ after → AllBelow n before.host → AllBelow n after.host
  made_low {S} scripts t before after order by_moves legal each made all =
      subst (λ (s : Site S). AllBelow n s.host) made
      (order_low scripts t (on_host all_swept before) order by_moves each (all_swept_kept before.host legal)
      (each_map Low swept swept_low before.host.flows all))

  -- what a host leaves
  pub run_low : (ls : List Live) → Each Low ls → Each (HasCoresBelow n) (flows_of ls)
  run_low [] all = tt
  run_low (l ∷ ls) all = (all.0, run_low ls all.1)

-- ----- the serial order
pub serial_tick_low : {S A : Type 0} (scripts : Scripts S A) (t : ℕ) (due : Due A) (site : Site S)
    → AreByMoves scripts → AreLegal site.host → AllBelow 1 site.host
    → AllBelow 1 (serial_tick scripts t site due).host
serial_tick_low scripts t due site by_moves legal all =
    made_low 1 scripts t site (serial_tick scripts t site due) (serial_order scripts t site due) by_moves legal
    (serial_workers (IsWorkerOf 1) tt (omega arith) scripts t site due) (serial_made scripts t site due) all

-- and so it is with the serial ticks of a run
pub serial_ticks_low : {S A : Type 0} (scripts : Scripts S A) (t : ℕ) (site : Site S) (dues : List (Due A))
    → AreByMoves scripts → AreLegal site.host → AllBelow 1 site.host
    → AllBelow 1 (serial_ticks scripts t site dues).host
unfolding serial_ticks
serial_ticks_low scripts t site [] by_moves legal all = all
serial_ticks_low {S} scripts t site (due ∷ dues) by_moves legal all =
    let next : Site S = serial_tick scripts t site due in
    serial_ticks_low scripts (t + 1) next dues by_moves
    (round_kept scripts t due site next by_moves (serial_round scripts t due site by_moves legal) legal)
    (serial_tick_low scripts t due site by_moves legal all)
