-- A tick takes nothing back, and all that it adds bears it.
use Rattle.std.proofs.Common.{ℕ, ◌+◌, ◌≤◌, ◌&&◌, Bool, true, false, List, [], ◌∷◌, map, fold, Option, Some, None, refl}
use Rattle.std.proofs.Common.{subst, arith}
use Rattle.tas_model.specs.declared.entry.FourTuple.{FourTuple}
use Rattle.tas_model.specs.declared.entry.FrameId.{FrameId}
use Rattle.tas_model.specs.declared.entry.Seg.{Seg}
use Rattle.tas_model.specs.declared.entry.Caller.{Caller}
use Rattle.tas_model.specs.declared.entry.Call.TheVariants as calls
use Rattle.tas_model.specs.LegalHistory.{last_tick}
use Rattle.host_rounds.specs.declared.opening.Start.{Start}
use Rattle.host_rounds.specs.declared.log.LogEvent.{LogEvent}
use Rattle.host_rounds.specs.Lists.{Each}
use Rattle.host_rounds.specs.Hosts.{Live, Host, Starts, next_start, with_call, logged, is_known, is_indexed_as}
use Rattle.host_rounds.specs.Hosts.{is_listening, is_full, lowest_free}
use Rattle.host_rounds.specs.Upkeep.{swept, all_swept, timed, emits}
use Rattle.host_rounds.specs.Deliveries.{Packet, Damaged, Segment, received, opens, opened_by_syn, met_no_flow, arrived}
use Rattle.host_rounds.specs.Deliveries.{delivered_packet}
use Rattle.host_rounds.specs.Scripts.{Site, Scripts}
use Rattle.host_rounds.specs.Moves.{Move, Calls, Opens, Notes, Holds, Listens, moved, AreByMoves}
use Rattle.host_rounds.specs.Rounds.{Action, Timer, Frame, Ask, Emission, Deed, done_by, does, on_host, Due, Round}
use Rattle.host_rounds.specs.Passing.{AllGrew, Went, IsUpTo}
use Rattle.host_rounds.proofs.AllLegal.{AreLegal, asked_keeps, done_kept, all_swept_kept}
use Rattle.host_rounds.proofs.Grows.{log_none, log_both, stays, call_grows, timed_grows, swept_grows, emits_grows}
use Rattle.host_rounds.proofs.Grows.{low_after, all_stay, all_both, map_grows, first_grows, at_grows, push_grows}

-- ----- hosts
abbrev UpTo : ℕ → Host → Type 0
UpTo t host = Each (IsUpTo t) host.flows

went_none : (t : ℕ) (host : Host) → Went t host host
went_none t host = record { log = log_none t host.log; flows = all_stay t host.flows }

went_line : (t : ℕ) (host : Host) (event : LogEvent) → Went t host (logged host t event)
went_line t host event = record {
  log = (record { tick = t; event = event } ∷ [], refl, (refl, tt));
  flows = all_stay t host.flows;
}

went_flows : (t : ℕ) (host : Host) (ls : List Live) → AllGrew t host.flows ls → Went t host (record host { flows = ls })
went_flows t host ls all = record { log = log_none t host.log; flows = all }

pub went_both : (t : ℕ) (host mid after : Host) → Went t host mid → Went t mid after → Went t host after
went_both t host mid after a b = record {
  log = log_both t host.log mid.log after.log a.log b.log;
  flows = all_both t host.flows mid.flows after.flows a.flows b.flows;
}

-- ----- frames
syn_went : (full : Bool) (free : Option ℕ) (start : Start) (t : ℕ) (host : Host) (frame : FrameId) (tuple : FourTuple)
    (seg : Seg)
    → Went t host (opened_by_syn full free start t host frame tuple seg)
syn_went true free start t host frame tuple seg = went_line t host _
syn_went false None start t host frame tuple seg = went_line t host _
syn_went false (Some slot) start t host frame tuple seg =
    went_flows t host _ (push_grows t host.flows _ (_, refl, (refl, tt)))

no_flow_went : (opening listening : Bool) (start : Start) (t : ℕ) (host : Host) (frame : FrameId) (tuple : FourTuple)
    (seg : Seg)
    → Went t host (met_no_flow opening listening start t host frame tuple seg)
no_flow_went true listening start t host frame tuple seg =
    syn_went (is_full host tuple.lport) (lowest_free host) start t host frame tuple seg
no_flow_went false listening start t host frame tuple seg = went_line t host _

arrived_went : (known : Bool) (by : Caller) (start : Start) (t : ℕ) (host : Host) (frame : FrameId) (tuple : FourTuple)
    (seg : Seg) → UpTo t host
    → Went t host (arrived known (received by t frame seg) start t host frame tuple seg)
arrived_went true by start t host frame tuple seg low =
    went_flows t host _ (first_grows t (is_indexed_as tuple) (received by t frame seg)
    (call_grows by t (calls.Rx frame seg) []) host.flows low)
arrived_went false by start t host frame tuple seg low =
    no_flow_went (is_listening host tuple.lport && opens seg)
    (is_listening host tuple.lport) start t host frame tuple seg

packet_went : (by : Caller) (starts : Starts) (t : ℕ) (host : Host) (frame : FrameId) (packet : Packet) → UpTo t host
    → Went t host (delivered_packet (received by) starts t host frame packet)
packet_went by starts t host frame (Damaged rule) low = went_line t host _
packet_went by starts t host frame (Segment tuple seg) low =
    arrived_went (is_known host tuple) by (next_start starts host tuple) t host frame tuple seg low

-- ----- moves
move_went : (starts : Starts) (t : ℕ) (host : Host) (m : Move) → UpTo t host → Went t host (moved starts t host m)
move_went starts t host (Calls n by call offer) low =
    went_flows t host _ (at_grows t n (λ (l : Live). with_call l by t call offer)
    (call_grows by t call offer) host.flows low)
move_went starts t host (Opens slot tuple app) low =
    went_flows t host _ (push_grows t host.flows _ (_, refl, (refl, tt)))
move_went starts t host (Notes event) low = went_line t host event
move_went starts t host (Holds n holder) low =
    went_flows t host _ (at_grows t n (λ (l : Live). record l { holder = holder }) (λ l. stays t l) host.flows low)
move_went starts t host (Listens listeners) low = record { log = log_none t host.log; flows = all_stay t host.flows }

asked_went : {S A : Type 0} (scripts : Scripts S A) (t : ℕ) (site : Site S) (a : A) → AreByMoves scripts
    → AreLegal site.host → UpTo t site.host
    → Went t site.host (scripts.asked t site a).host
asked_went scripts t site a by_moves legal low =
    asked_keeps (Went t site.host) scripts t by_moves
    (λ host m each may went. went_both t site.host host (moved scripts.starts t host m) went
    (move_went scripts.starts t host m (low_after t site.host.flows host.flows low went.flows)))
    site a legal (went_none t site.host)

-- ----- ticks
done_went : {S A : Type 0} (scripts : Scripts S A) (t : ℕ) (site : Site S) (by : Caller) (action : Action A)
    → AreByMoves scripts → AreLegal site.host
    → UpTo t site.host → Went t site.host (done_by scripts t site by action).host
done_went scripts t site by (Timer n) by_moves legal low =
    went_flows t site.host _ (at_grows t n (timed by t) (timed_grows by t) site.host.flows low)
done_went scripts t site by (Frame x) by_moves legal low =
    packet_went by scripts.starts t site.host x.frame x.packet low
done_went scripts t site by (Ask a) by_moves legal low = asked_went scripts t site a by_moves legal low
done_went scripts t site by (Emission n) by_moves legal low =
    went_flows t site.host _ (at_grows t n (emits by t) (emits_grows by t) site.host.flows low)

all_went : {S A : Type 0} (scripts : Scripts S A) (t : ℕ) (site : Site S) (order : List (Deed A)) → AreByMoves scripts
    → AreLegal site.host
    → UpTo t site.host → Went t site.host (fold (does scripts t) site order).host
all_went scripts t site [] by_moves legal low = went_none t site.host
all_went {S} scripts t site (m ∷ order) by_moves legal low =
    let next : Site S = does scripts t site m in
    let one : Went t site.host next.host = done_went scripts t site m.by m.action by_moves legal low in
    went_both t site.host next.host (fold (does scripts t) next order).host one
    (all_went scripts t next order by_moves (done_kept scripts t site m.by m.action by_moves legal)
    (low_after t site.host.flows next.host.flows low one.flows))

pub round_went : {S A : Type 0} (scripts : Scripts S A) (t : ℕ) (due : Due A) (before after : Site S)
    → AreByMoves scripts → AreLegal before.host
    → UpTo t before.host → Round scripts t due before after → Went t before.host after.host
round_went {S} scripts t due before after by_moves legal low round =
    let start : AllGrew t before.host.flows (map swept before.host.flows) =
    map_grows t swept (swept_grows t) before.host.flows low in
    subst (λ (s : Site S). Went t before.host s.host) round.made
    (went_both t before.host (all_swept before.host) (fold (does scripts t) (on_host all_swept before) round.order).host
    (went_flows t before.host (map swept before.host.flows) start)
    (all_went scripts t (on_host all_swept before) round.order by_moves (all_swept_kept before.host legal)
    (low_after t before.host.flows (map swept before.host.flows) low start)))

later : (t : ℕ) (ls : List Live) → Each (IsUpTo t) ls → Each (IsUpTo (t + 1)) ls
later t [] low = tt
later t (l ∷ ls) low = let here : last_tick 0 l.flow.entries ≤ t = low.0 in (omega arith, later t ls low.1)

pub round_up_to : {S A : Type 0} (scripts : Scripts S A) (t : ℕ) (due : Due A) (before after : Site S)
    → AreByMoves scripts → AreLegal before.host
    → UpTo t before.host → Round scripts t due before after → UpTo (t + 1) after.host
round_up_to scripts t due before after by_moves legal low round =
    later t after.host.flows (low_after t before.host.flows after.host.flows low
    (round_went scripts t due before after by_moves legal low round).flows)
