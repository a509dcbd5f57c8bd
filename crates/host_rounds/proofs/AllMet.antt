-- Segments that come to no flow are met rightly in every order of a tick: for the law `strangers_are_met_rightly`.
use Rattle.std.proofs.Common.{◌≡◌, ℕ, ◌&&◌, not, Bool, true, false, List, [], ◌∷◌, fold, Option, Some, None}
use Rattle.std.proofs.Common.{refl, sym, subst, true≢false, if◌then◌else◌}
use Rattle.tas_model.specs.declared.entry.Head.{Head}
use Rattle.tas_model.specs.declared.entry.FourTuple.{FourTuple}
use Rattle.tas_model.specs.declared.entry.FrameId.{FrameId}
use Rattle.tas_model.specs.declared.entry.Seg.{Seg}
use Rattle.tas_model.specs.declared.entry.Entry.{Entry}
use Rattle.tas_model.specs.declared.entry.Reply.{Reply}
use Rattle.tas_model.specs.declared.entry.Reply.TheVariants as replies
use Rattle.tas_model.specs.declared.entry.Caller.{Caller}
use Rattle.tas_model.specs.declared.entry.Caller.TheVariants.{Slow, Core, App}
use Rattle.tas_model.specs.declared.entry.Call.{Call}
use Rattle.tas_model.specs.declared.entry.Call.TheVariants as calls
use Rattle.tas_model.specs.Segments.{is_syn, is_rst, is_ack}
use Rattle.tas_model.specs.NextSegment.{Going, going}
use Rattle.tas_model.proofs.Tests.{on_cond}
use Rattle.host_rounds.specs.declared.opening.Start.{Start}
use Rattle.host_rounds.specs.declared.log.LogEvent.{LogEvent}
use Rattle.host_rounds.specs.declared.log.LogEvent.TheVariants as events
use Rattle.host_rounds.specs.Lists.{Each, change_at}
use Rattle.host_rounds.specs.Hosts.{Live, Host, Starts, next_start, endpoint, is_over, with_call, logged}
use Rattle.host_rounds.specs.Hosts.{is_known, is_indexed_as, is_listening, is_full, lowest_free}
use Rattle.host_rounds.specs.Upkeep.{swept, all_swept, controlled, timed_unless, timed, emits_where, emits}
use Rattle.host_rounds.specs.Deliveries.{Packet, Damaged, Segment, received, opens, opened_by_syn, met_no_flow, arrived}
use Rattle.host_rounds.specs.Deliveries.{delivered_packet, answer_in, stray_answer}
use Rattle.host_rounds.specs.Scripts.{Site, Scripts}
use Rattle.host_rounds.specs.Moves.{Move, Calls, Opens, Notes, Holds, Listens, moved, IsAppCall, IsCallLine}
use Rattle.host_rounds.specs.Moves.{MayMove, AreByMoves}
use Rattle.host_rounds.specs.Rounds.{Action, Timer, Frame, Ask, Emission, Deed, done_by, does, on_host, Due, Round}
use Rattle.host_rounds.specs.Meetings.{IsOpeningSyn, OpensBySyn, IsOpenedBySyn, IsAnswered, AnswersRightly}
use Rattle.host_rounds.specs.Meetings.{IsAnsweredLine, IsMetRightly}
use Rattle.host_rounds.proofs.Flows.{and_right, on_control}
use Rattle.host_rounds.proofs.AllLegal.{AreLegal, each_map, each_first, each_at, each_push, call_cases, asked_keeps}
use Rattle.host_rounds.proofs.AllLegal.{done_kept, all_swept_kept}

-- ----- one segment
-- what `opens` tests
three : (a b c : Bool) → (a && not b && not c) ≡ true → (a ≡ true) × (b ≡ false) × (c ≡ false)
three true false false h = (refl, refl, refl)
three true false true h = absurd (true≢false (sym h))
three true true c h = absurd (true≢false (sym h))
three false b c h = absurd (true≢false (sym h))

opening_syn : (seg : Seg) → opens seg ≡ true → IsOpeningSyn seg
opening_syn seg h =
    let found = three (is_syn seg) (is_rst seg) (is_ack seg) h in
    record { syn = found.0; reset = found.1; acknowledgement = found.2 }

-- an answer that is taken by two tests
abbrev chosen : (rst ack : Bool) → (to_ack else_ : Reply) → Option Head
chosen rst ack to_ack else_ = answer_in (if rst then replies.Nothing else if ack then to_ack else else_)

none_chosen : (rst ack : Bool) (to_ack else_ : Reply) → rst ≡ true → chosen rst ack to_ack else_ ≡ None
none_chosen true ack to_ack else_ h = refl
none_chosen false ack to_ack else_ h = absurd (true≢false (sym h))

ack_chosen : (rst ack : Bool) (to_ack else_ : Reply) → rst ≡ false → ack ≡ true
    → chosen rst ack to_ack else_ ≡ answer_in to_ack
ack_chosen false true to_ack else_ h g = refl
ack_chosen false false to_ack else_ h g = absurd (true≢false (sym g))
ack_chosen true ack to_ack else_ h g = absurd (true≢false h)

answered : (listening : Bool) (seg : Seg) → IsAnswered seg (stray_answer listening seg)
answered true seg = record {
  reset = none_chosen (is_rst seg) (is_ack seg) _ _;
  acknowledgement = ack_chosen (is_rst seg) (is_ack seg) _ _;
}
answered false seg = record {
  reset = none_chosen (is_rst seg) (is_ack seg) _ _;
  acknowledgement = ack_chosen (is_rst seg) (is_ack seg) _ _;
}

-- ----- one flow
-- a flow keeps it by each call that opens nothing
abbrev Stays : (Live → Live) → Type 0
Stays f = (l : Live) → IsOpenedBySyn l → IsOpenedBySyn (f l)

call_stays : (by : Caller) (t : ℕ) (call : Call) (offer : List ℕ) → OpensBySyn call
    → Stays (λ (l : Live). with_call l by t call offer)
call_stays by t call offer new = λ l all. each_push (λ (x : Entry). OpensBySyn x.call) l.flow.entries _ all new

controlled_stays : (by : Caller) (t : ℕ) → Stays (controlled by t)
controlled_stays by t = λ l all.
    on_control IsOpenedBySyn _ by t l (λ h. call_stays by t calls.Control [] tt l all) (λ h. all)

timed_stays : (by : Caller) (t : ℕ) → Stays (timed by t)
timed_stays by t = λ l all. by_over l all (is_over l) where
  by_over : (l : Live) → IsOpenedBySyn l → (b : Bool) → IsOpenedBySyn (timed_unless b by t l)
  by_over l all true = all
  by_over l all false = controlled_stays by t (with_call l by t calls.Tick []) (call_stays by t calls.Tick [] tt l all)

swept_stays : Stays swept
swept_stays = λ l all. on_cond IsOpenedBySyn (is_over l) _ _ (λ h. all) (λ h. all)

emits_stays : (by : Caller) (t : ℕ) → Stays (emits by t)
emits_stays by t = λ l all. by_going l all (going (endpoint l)) where
  by_going : (l : Live) → IsOpenedBySyn l → (o : Option Going) → IsOpenedBySyn (emits_where o by t l)
  by_going l all None = all
  by_going l all (Some g) = call_stays by t calls.Emit [] tt l all

-- ----- hosts
line_met : (t : ℕ) (host : Host) (event : LogEvent) → AnswersRightly event → IsMetRightly host
    → IsMetRightly (logged host t event)
line_met t host event new met = record {
  answers = each_push IsAnsweredLine host.log _ met.answers new;
  openings = met.openings;
}

flows_met : (host : Host) (ls : List Live) → IsMetRightly host → Each IsOpenedBySyn ls
    → IsMetRightly (record host { flows = ls })
flows_met host ls met all = record { answers = met.answers; openings = all }

at_met : (n : ℕ) (f : Live → Live) (host : Host) → Stays f → IsMetRightly host
    → IsMetRightly (record host { flows = change_at n f host.flows })
at_met n f host stays met = flows_met host _ met (each_at IsOpenedBySyn n f stays host.flows met.openings)

-- ----- frames
syn_met : (full : Bool) (free : Option ℕ) (start : Start) (t : ℕ) (host : Host) (frame : FrameId) (tuple : FourTuple)
    (seg : Seg)
    → IsOpeningSyn seg → IsMetRightly host → IsMetRightly (opened_by_syn full free start t host frame tuple seg)
syn_met true free start t host frame tuple seg syn met = line_met t host _ tt met
syn_met false None start t host frame tuple seg syn met = line_met t host _ tt met
syn_met false (Some slot) start t host frame tuple seg syn met =
    flows_met host _ met (each_push IsOpenedBySyn host.flows _ met.openings (syn, tt))

no_flow_met : (opening listening : Bool) (start : Start) (t : ℕ) (host : Host) (frame : FrameId) (tuple : FourTuple)
    (seg : Seg)
    → (opening ≡ true → IsOpeningSyn seg) → IsMetRightly host
    → IsMetRightly (met_no_flow opening listening start t host frame tuple seg)
no_flow_met true listening start t host frame tuple seg syn met =
    syn_met (is_full host tuple.lport) (lowest_free host) start t host frame tuple seg (syn refl) met
no_flow_met false listening start t host frame tuple seg syn met = line_met t host _ (answered listening seg) met

arrived_met : (known : Bool) (by : Caller) (start : Start) (t : ℕ) (host : Host) (frame : FrameId) (tuple : FourTuple)
    (seg : Seg) → IsMetRightly host
    → IsMetRightly (arrived known (received by t frame seg) start t host frame tuple seg)
arrived_met true by start t host frame tuple seg met =
    flows_met host _ met
    (each_first IsOpenedBySyn (is_indexed_as tuple) (received by t frame seg)
    (call_stays by t (calls.Rx frame seg) [] tt) host.flows met.openings)
arrived_met false by start t host frame tuple seg met =
    let listening : Bool = is_listening host tuple.lport in
    no_flow_met (listening && opens seg) listening start t host frame tuple seg
    (λ h. opening_syn seg (and_right listening (opens seg) h)) met

packet_met : (by : Caller) (starts : Starts) (t : ℕ) (host : Host) (frame : FrameId) (packet : Packet)
    → IsMetRightly host → IsMetRightly (delivered_packet (received by) starts t host frame packet)
packet_met by starts t host frame (Damaged rule) met = line_met t host _ tt met
packet_met by starts t host frame (Segment tuple seg) met =
    arrived_met (is_known host tuple) by (next_start starts host tuple) t host frame tuple seg met

-- ----- moves
app_opens_not : (by : Caller) (call : Call) → IsAppCall by call → OpensBySyn call
app_opens_not (App k) (calls.Passive frame iss seg) app = absurd app
app_opens_not Slow (calls.Passive frame iss seg) app = absurd app
app_opens_not (Core k) (calls.Passive frame iss seg) app = absurd app
app_opens_not by _ app = tt

-- a line of a call tells of no frame
note_met : (event : LogEvent) → IsCallLine event → AnswersRightly event
note_met (events.Stray frame tuple seg answer) may = absurd may
note_met _ may = tt

move_met : (starts : Starts) (t : ℕ) (host : Host) (m : Move) → MayMove host m → IsMetRightly host
    → IsMetRightly (moved starts t host m)
move_met starts t host (Calls n by call offer) may met =
    call_cases IsMetRightly starts t host n by call offer may met
    (λ app. at_met n (λ (l : Live). with_call l by t call offer) host
    (call_stays by t call offer (app_opens_not by call app)) met)
move_met starts t host (Opens slot tuple app) may met =
    flows_met host _ met (each_push IsOpenedBySyn host.flows _ met.openings (tt, tt))
move_met starts t host (Notes event) may met = line_met t host event (note_met event may) met
move_met starts t host (Holds n holder) may met =
    at_met n (λ (l : Live). record l { holder = holder }) host (λ l all. all) met
move_met starts t host (Listens listeners) may met = record { answers = met.answers; openings = met.openings }

-- ----- ticks
done_met : {S A : Type 0} (scripts : Scripts S A) (t : ℕ) (site : Site S) (by : Caller) (action : Action A)
    → AreByMoves scripts → AreLegal site.host → IsMetRightly site.host
    → IsMetRightly (done_by scripts t site by action).host
done_met scripts t site by (Timer n) by_moves legal met = at_met n (timed by t) site.host (timed_stays by t) met
done_met scripts t site by (Frame x) by_moves legal met = packet_met by scripts.starts t site.host x.frame x.packet met
done_met scripts t site by (Ask a) by_moves legal met =
    asked_keeps IsMetRightly scripts t by_moves (λ host m each may m0. move_met scripts.starts t host m may m0)
    site a legal met
done_met scripts t site by (Emission n) by_moves legal met = at_met n (emits by t) site.host (emits_stays by t) met

all_met : {S A : Type 0} (scripts : Scripts S A) (t : ℕ) (site : Site S) (order : List (Deed A)) → AreByMoves scripts
    → AreLegal site.host → IsMetRightly site.host → IsMetRightly (fold (does scripts t) site order).host
all_met scripts t site [] by_moves legal met = met
all_met scripts t site (m ∷ order) by_moves legal met =
    all_met scripts t (does scripts t site m) order by_moves (done_kept scripts t site m.by m.action by_moves legal)
    (done_met scripts t site m.by m.action by_moves legal met)

pub round_met : {S A : Type 0} (scripts : Scripts S A) (t : ℕ) (due : Due A) (before after : Site S)
    → AreByMoves scripts → AreLegal before.host → Round scripts t due before after → IsMetRightly before.host
    → IsMetRightly after.host
round_met {S} scripts t due before after by_moves legal round met =
    subst (λ (s : Site S). IsMetRightly s.host) round.made
    (all_met scripts t (on_host all_swept before) round.order by_moves (all_swept_kept before.host legal)
    (flows_met before.host _ met (each_map IsOpenedBySyn swept swept_stays before.host.flows met.openings)))
