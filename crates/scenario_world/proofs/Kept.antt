-- In a tick every flow keeps its opening, its four-tuple among it, and the host its parameters.
use Rattle.std.proofs.Common.{◌≡◌, ℕ, ◌&&◌, Bool, true, false, List, [], ◌∷◌, ◌++◌, fold, Option, Some, None, refl}
use Rattle.std.proofs.Common.{sym, subst, ap, ◌∙◌, append_assoc, append-nil}
use Rattle.tas_model.specs.declared.entry.FourTuple.{FourTuple}
use Rattle.tas_model.specs.declared.entry.FrameId.{FrameId}
use Rattle.tas_model.specs.declared.entry.Seg.{Seg}
use Rattle.tas_model.specs.declared.entry.Entry.{Entry}
use Rattle.tas_model.specs.declared.entry.Caller.{Caller}
use Rattle.tas_model.specs.declared.entry.Call.TheVariants as calls
use Rattle.host_rounds.specs.declared.opening.Start.{Start}
use Rattle.host_rounds.specs.Hosts.{Live, Host, Holder, Starts, next_start, with_call, at_flow, is_known}
use Rattle.host_rounds.specs.Hosts.{is_indexed_as}
use Rattle.host_rounds.specs.Hosts.{is_listening, is_full, lowest_free, new_flow, opened_in}
use Rattle.host_rounds.specs.Upkeep.{swept, all_swept, timed, emits}
use Rattle.host_rounds.specs.Deliveries.{Packet, Damaged, Segment, received, opens, opened_by_syn, met_no_flow, arrived}
use Rattle.host_rounds.specs.Deliveries.{delivered_packet}
use Rattle.host_rounds.specs.Scripts.{Site, Scripts}
use Rattle.host_rounds.specs.Moves.{Move, Calls, Opens, Notes, Holds, Listens, moved, AreByMoves}
use Rattle.host_rounds.specs.Rounds.{Action, Timer, Frame, Ask, Emission, Deed, done_by, does, on_host, Due, Round}
use Rattle.host_rounds.specs.Openings.{Opening, opening_of}
use Rattle.host_rounds.proofs.AllLegal.{AreLegal, asked_keeps, done_kept, all_swept_kept}
use Rattle.host_rounds.proofs.Keeps.{openings, openings_push, Keeps, map_keeps, first_keeps, at_keeps, call_keeps}
use Rattle.host_rounds.proofs.Keeps.{swept_keeps, timed_keeps, emits_keeps}

-- The host kept its parameters, and its flows their openings; others may have been opened behind them.
pub record Kept (before after : Host) : Type 0 where
  pub params : after.params ≡ before.params
  pub more : List Opening
  pub openings : openings after.flows ≡ openings before.flows ++ more

kept_flows : (host after : Host) → after.params ≡ host.params → openings after.flows ≡ openings host.flows
    → Kept host after
kept_flows host after params same =
    record { params = params; more = []; openings = same ∙ sym (append-nil (openings host.flows)) }

kept_all : (host : Host) → Kept host host
kept_all host = kept_flows host host refl refl

kept_opened : (host : Host) (slot : ℕ) (tuple : FourTuple) (scale : Option ℕ) (holder : Holder) (x : Entry)
    → Kept host (opened_in host slot tuple scale holder x)
kept_opened host slot tuple scale holder x =
    record {
      params = refl;
      more = opening_of (new_flow host slot tuple scale holder x).flow ∷ [];
      openings = openings_push host.flows (new_flow host slot tuple scale holder x);
    }

kept_both : (host mid after : Host) → Kept host mid → Kept mid after → Kept host after
kept_both host mid after a b =
    record {
      params = b.params ∙ a.params;
      more = a.more ++ b.more;
      openings = b.openings ∙ (ap (λ os. os ++ b.more) a.openings ∙ append_assoc (openings host.flows) a.more b.more);
    }

kept_at : (n : ℕ) (f : Live → Live) (host : Host) → Keeps f → AreLegal host → Kept host (at_flow n f host)
kept_at n f host keeps legal = kept_flows host (at_flow n f host) refl (at_keeps n f keeps host.flows legal)

-- ----- frames
syn_kept : (full : Bool) (free : Option ℕ) (start : Start) (t : ℕ) (host : Host) (frame : FrameId) (tuple : FourTuple)
    (seg : Seg)
    → Kept host (opened_by_syn full free start t host frame tuple seg)
syn_kept true free start t host frame tuple seg = kept_flows host _ refl refl
syn_kept false None start t host frame tuple seg = kept_flows host _ refl refl
syn_kept false (Some slot) start t host frame tuple seg = kept_opened host slot tuple _ _ _

no_flow_kept : (opening listening : Bool) (start : Start) (t : ℕ) (host : Host) (frame : FrameId) (tuple : FourTuple)
    (seg : Seg)
    → Kept host (met_no_flow opening listening start t host frame tuple seg)
no_flow_kept true listening start t host frame tuple seg =
    syn_kept (is_full host tuple.lport) (lowest_free host) start t host frame tuple seg
no_flow_kept false listening start t host frame tuple seg = kept_flows host _ refl refl

arrived_kept : (known : Bool) (by : Caller) (start : Start) (t : ℕ) (host : Host) (frame : FrameId) (tuple : FourTuple)
    (seg : Seg)
    → AreLegal host → Kept host (arrived known (received by t frame seg) start t host frame tuple seg)
arrived_kept true by start t host frame tuple seg legal =
    kept_flows host _ refl
    (first_keeps (is_indexed_as tuple) (received by t frame seg)
    (call_keeps by t (calls.Rx frame seg) []) host.flows legal)
arrived_kept false by start t host frame tuple seg legal =
    no_flow_kept (is_listening host tuple.lport && opens seg)
    (is_listening host tuple.lport) start t host frame tuple seg

packet_kept : (by : Caller) (starts : Starts) (t : ℕ) (host : Host) (frame : FrameId) (packet : Packet)
    → AreLegal host → Kept host (delivered_packet (received by) starts t host frame packet)
packet_kept by starts t host frame (Damaged rule) legal = kept_flows host _ refl refl
packet_kept by starts t host frame (Segment tuple seg) legal =
    arrived_kept (is_known host tuple) by (next_start starts host tuple) t host frame tuple seg legal

-- ----- moves
move_kept : (starts : Starts) (t : ℕ) (host : Host) (m : Move) → AreLegal host → Kept host (moved starts t host m)
move_kept starts t host (Calls n by call offer) legal =
    kept_at n (λ (l : Live). with_call l by t call offer) host (call_keeps by t call offer) legal
move_kept starts t host (Opens slot tuple app) legal = kept_opened host slot tuple _ _ _
move_kept starts t host (Notes event) legal = kept_flows host _ refl refl
move_kept starts t host (Holds n holder) legal =
    kept_at n (λ (l : Live). record l { holder = holder }) host (λ l one. refl) legal
move_kept starts t host (Listens listeners) legal = kept_flows host _ refl refl

asked_kept : {S A : Type 0} (scripts : Scripts S A) (t : ℕ) (site : Site S) (a : A) → AreByMoves scripts
    → AreLegal site.host → Kept site.host (scripts.asked t site a).host
asked_kept scripts t site a by_moves legal =
    asked_keeps (Kept site.host) scripts t by_moves
    (λ host m each may kept.
    kept_both site.host host (moved scripts.starts t host m) kept (move_kept scripts.starts t host m each))
    site a legal (kept_all site.host)

-- ----- ticks
deed_kept : {S A : Type 0} (scripts : Scripts S A) (t : ℕ) (site : Site S) (by : Caller) (action : Action A)
    → AreByMoves scripts → AreLegal site.host → Kept site.host (done_by scripts t site by action).host
deed_kept scripts t site by (Timer n) by_moves legal = kept_at n (timed by t) site.host (timed_keeps by t) legal
deed_kept scripts t site by (Frame x) by_moves legal =
    packet_kept by scripts.starts t site.host x.frame x.packet legal
deed_kept scripts t site by (Ask a) by_moves legal = asked_kept scripts t site a by_moves legal
deed_kept scripts t site by (Emission n) by_moves legal = kept_at n (emits by t) site.host (emits_keeps by t) legal

deeds_kept : {S A : Type 0} (scripts : Scripts S A) (t : ℕ) (site : Site S) (order : List (Deed A))
    → AreByMoves scripts → AreLegal site.host → Kept site.host (fold (does scripts t) site order).host
deeds_kept scripts t site [] by_moves legal = kept_all site.host
deeds_kept {S} scripts t site (m ∷ order) by_moves legal =
    let next : Site S = does scripts t site m in
    kept_both site.host next.host (fold (does scripts t) next order).host
    (deed_kept scripts t site m.by m.action by_moves legal)
    (deeds_kept scripts t next order by_moves (done_kept scripts t site m.by m.action by_moves legal))

pub round_keeps : {S A : Type 0} (scripts : Scripts S A) (t : ℕ) (due : Due A) (before after : Site S)
    → AreByMoves scripts → AreLegal before.host → Round scripts t due before after → Kept before.host after.host
round_keeps {S} scripts t due before after by_moves legal round =
    subst (λ (s : Site S). Kept before.host s.host) round.made
    (kept_both before.host (all_swept before.host) (fold (does scripts t) (on_host all_swept before) round.order).host
    (kept_flows before.host (all_swept before.host) refl (map_keeps swept swept_keeps before.host.flows legal))
    (deeds_kept scripts t (on_host all_swept before) round.order by_moves (all_swept_kept before.host legal)))
