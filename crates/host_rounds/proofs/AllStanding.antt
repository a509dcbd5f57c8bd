-- In a tick no flow leaves its slot but those that are given up, and no two stand in one.
use Rattle.std.proofs.Common.{◌≡◌, ℕ, ◌&&◌, Bool, true, false, List, [], ◌∷◌, map, fold, Option, Some, None, refl}
use Rattle.std.proofs.Common.{subst}
use Rattle.tas_model.specs.declared.entry.FourTuple.{FourTuple}
use Rattle.tas_model.specs.declared.entry.FrameId.{FrameId}
use Rattle.tas_model.specs.declared.entry.Seg.{Seg}
use Rattle.tas_model.specs.declared.entry.Caller.{Caller}
use Rattle.host_rounds.specs.declared.opening.Start.{Start}
use Rattle.host_rounds.specs.Hosts.{Live, Host, Starts, next_start, with_call, is_known, is_indexed_as}
use Rattle.host_rounds.specs.Hosts.{is_listening, is_full, lowest_free}
use Rattle.host_rounds.specs.Upkeep.{swept, all_swept, timed, emits}
use Rattle.host_rounds.specs.Deliveries.{Packet, Damaged, Segment, received, opens, opened_by_syn, met_no_flow, arrived}
use Rattle.host_rounds.specs.Deliveries.{delivered_packet}
use Rattle.host_rounds.specs.Scripts.{Site, Scripts}
use Rattle.host_rounds.specs.Moves.{Move, Calls, Opens, Notes, Holds, Listens, moved, MayMove, AreByMoves}
use Rattle.host_rounds.specs.Rounds.{Action, Timer, Frame, Ask, Emission, Deed, done_by, does, on_host, Due, Round}
use Rattle.host_rounds.specs.Standing.{AreApart, AreFiled}
use Rattle.host_rounds.proofs.AllLegal.{AreLegal, asked_keeps, done_kept, all_swept_kept}
use Rattle.host_rounds.proofs.Standing.{timed_place, emits_place, Stands, stands, stands_both, first_stands, at_stands}
use Rattle.host_rounds.proofs.Standing.{push_stands, swept_apart, filed_by_sweep}

-- ----- frames
syn_stands : (full : Bool) (free : Option ℕ) (start : Start) (t : ℕ) (host : Host) (frame : FrameId) (tuple : FourTuple)
    (seg : Seg) → lowest_free host ≡ free
    → Stands host.flows (opened_by_syn full free start t host frame tuple seg).flows
syn_stands true free start t host frame tuple seg found = stands host.flows
syn_stands false None start t host frame tuple seg found = stands host.flows
syn_stands false (Some slot) start t host frame tuple seg found = push_stands host.params.slots host.flows _ found refl

no_flow_stands : (opening listening : Bool) (start : Start) (t : ℕ) (host : Host) (frame : FrameId) (tuple : FourTuple)
    (seg : Seg)
    → Stands host.flows (met_no_flow opening listening start t host frame tuple seg).flows
no_flow_stands true listening start t host frame tuple seg =
    syn_stands (is_full host tuple.lport) (lowest_free host) start t host frame tuple seg refl
no_flow_stands false listening start t host frame tuple seg = stands host.flows

arrived_stands : (known : Bool) (by : Caller) (start : Start) (t : ℕ) (host : Host) (frame : FrameId)
    (tuple : FourTuple) (seg : Seg)
    → Stands host.flows (arrived known (received by t frame seg) start t host frame tuple seg).flows
arrived_stands true by start t host frame tuple seg =
    first_stands (is_indexed_as tuple) (received by t frame seg) (λ l. (refl, refl)) host.flows
arrived_stands false by start t host frame tuple seg =
    no_flow_stands (is_listening host tuple.lport && opens seg)
    (is_listening host tuple.lport) start t host frame tuple seg

packet_stands : (by : Caller) (starts : Starts) (t : ℕ) (host : Host) (frame : FrameId) (packet : Packet)
    → Stands host.flows (delivered_packet (received by) starts t host frame packet).flows
packet_stands by starts t host frame (Damaged rule) = stands host.flows
packet_stands by starts t host frame (Segment tuple seg) =
    arrived_stands (is_known host tuple) by (next_start starts host tuple) t host frame tuple seg

-- ----- moves
move_stands : (starts : Starts) (t : ℕ) (host : Host) (m : Move) → MayMove host m
    → Stands host.flows (moved starts t host m).flows
move_stands starts t host (Calls n by call offer) may =
    at_stands n (λ (l : Live). with_call l by t call offer) (λ l. (refl, refl)) host.flows
move_stands starts t host (Opens slot tuple app) may = push_stands host.params.slots host.flows _ may refl
move_stands starts t host (Notes event) may = stands host.flows
move_stands starts t host (Holds n holder) may =
    at_stands n (λ (l : Live). record l { holder = holder }) (λ l. (refl, refl)) host.flows
move_stands starts t host (Listens listeners) may = stands host.flows

asked_stands : {S A : Type 0} (scripts : Scripts S A) (t : ℕ) (site : Site S) (a : A) → AreByMoves scripts
    → AreLegal site.host
    → Stands site.host.flows (scripts.asked t site a).host.flows
asked_stands scripts t site a by_moves legal =
    asked_keeps (λ (h : Host). Stands site.host.flows h.flows) scripts t by_moves
    (λ host m each may so_far. stands_both site.host.flows host.flows (moved scripts.starts t host m).flows so_far
    (move_stands scripts.starts t host m may))
    site a legal (stands site.host.flows)

-- ----- ticks
done_stands : {S A : Type 0} (scripts : Scripts S A) (t : ℕ) (site : Site S) (by : Caller) (action : Action A)
    → AreByMoves scripts → AreLegal site.host
    → Stands site.host.flows (done_by scripts t site by action).host.flows
done_stands scripts t site by (Timer n) by_moves legal = at_stands n (timed by t) (timed_place by t) site.host.flows
done_stands scripts t site by (Frame x) by_moves legal = packet_stands by scripts.starts t site.host x.frame x.packet
done_stands scripts t site by (Ask a) by_moves legal = asked_stands scripts t site a by_moves legal
done_stands scripts t site by (Emission n) by_moves legal = at_stands n (emits by t) (emits_place by t) site.host.flows

all_stand : {S A : Type 0} (scripts : Scripts S A) (t : ℕ) (site : Site S) (order : List (Deed A)) → AreByMoves scripts
    → AreLegal site.host
    → Stands site.host.flows (fold (does scripts t) site order).host.flows
all_stand scripts t site [] by_moves legal = stands site.host.flows
all_stand {S} scripts t site (m ∷ order) by_moves legal =
    let next : Site S = does scripts t site m in
    stands_both site.host.flows next.host.flows (fold (does scripts t) next order).host.flows
    (done_stands scripts t site m.by m.action by_moves legal)
    (all_stand scripts t next order by_moves (done_kept scripts t site m.by m.action by_moves legal))

round_stands : {S A : Type 0} (scripts : Scripts S A) (t : ℕ) (due : Due A) (before after : Site S) → AreByMoves scripts
    → AreLegal before.host
    → Round scripts t due before after → Stands (map swept before.host.flows) after.host.flows
round_stands {S} scripts t due before after by_moves legal round =
    subst (λ (s : Site S). Stands (map swept before.host.flows) s.host.flows) round.made
    (all_stand scripts t (on_host all_swept before) round.order by_moves (all_swept_kept before.host legal))

pub round_filed : {S A : Type 0} (scripts : Scripts S A) (t : ℕ) (due : Due A) (before after : Site S)
    → AreByMoves scripts → AreLegal before.host
    → Round scripts t due before after → AreFiled before.host.flows after.host.flows
round_filed scripts t due before after by_moves legal round =
    filed_by_sweep before.host.flows after.host.flows
    (round_stands scripts t due before after by_moves legal round).stay

pub round_apart : {S A : Type 0} (scripts : Scripts S A) (t : ℕ) (due : Due A) (before after : Site S)
    → AreByMoves scripts → AreLegal before.host
    → Round scripts t due before after → AreApart before.host.flows → AreApart after.host.flows
round_apart scripts t due before after by_moves legal round apart =
    (round_stands scripts t due before after by_moves legal round).apart (swept_apart before.host.flows apart)
