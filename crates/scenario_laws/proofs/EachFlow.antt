-- What every action of a tick keeps of each flow, a tick keeps of each flow.
use Rattle.std.proofs.Common.{◌≡◌, ℕ, ◌&&◌, Bool, true, false, List, [], ◌∷◌, fold, Option, Some, None, refl, subst}
use Rattle.tas_model.specs.declared.entry.FourTuple.{FourTuple}
use Rattle.tas_model.specs.declared.entry.FrameId.{FrameId}
use Rattle.tas_model.specs.declared.entry.Seg.{Seg}
use Rattle.tas_model.specs.declared.entry.Entry.{Entry}
use Rattle.tas_model.specs.declared.entry.Caller.{Caller}
use Rattle.tas_model.specs.declared.entry.Caller.TheVariants.{Slow, Core, App}
use Rattle.tas_model.specs.declared.entry.Call.{Call}
use Rattle.tas_model.specs.declared.entry.Call.TheVariants as calls
use Rattle.tas_model.specs.NextSegment.{Going, going}
use Rattle.host_rounds.specs.declared.opening.Start.{Start}
use Rattle.host_rounds.specs.Lists.{Each}
use Rattle.host_rounds.specs.Hosts.{Live, Host, Holder, Starts, next_start, endpoint, with_call, is_known}
use Rattle.host_rounds.specs.Hosts.{is_indexed_as, is_listening, is_full, lowest_free, new_flow}
use Rattle.host_rounds.specs.Upkeep.{swept, all_swept, timed, emits, emits_where}
use Rattle.host_rounds.specs.Deliveries.{Packet, Damaged, Segment, received, opens, opened_by_syn, met_no_flow, arrived}
use Rattle.host_rounds.specs.Deliveries.{delivered_packet}
use Rattle.host_rounds.specs.Scripts.{Site, Scripts}
use Rattle.host_rounds.specs.Moves.{Move, Calls, Opens, Notes, Holds, Listens, moved, IsAppCall, MayMove, AreByMoves}
use Rattle.host_rounds.specs.Rounds.{Action, Timer, Frame, Ask, Emission, Deed, done_by, does, on_host, Due, Round}
use Rattle.host_rounds.specs.Passing.{is_tick}
use Rattle.host_rounds.proofs.AllLegal.{AreLegal, asked_keeps, call_cases, done_kept, all_swept_kept}
use Rattle.host_rounds.proofs.AllLegal.{each_map, each_first, each_at, each_push}
use Rattle.scenario_laws.specs.Controls.{is_control}

-- neither a Tick nor a Control
pub record IsPlain (call : Call) : Type 0 where
  pub tick : is_tick call ≡ false
  pub control : is_control call ≡ false

-- the tick keeps the fact of each flow, whatever is done
pub record Keeps (P : Live → Type 0) (t : ℕ) : Type 0 where
  pub call : (by : Caller) (call : Call) (offer : List ℕ) (l : Live) → IsPlain call → P l
      → P (with_call l by t call offer)
  pub timed : (by : Caller) (l : Live) → P l → P (timed by t l)
  pub swept : (l : Live) → P l → P (swept l)
  pub holder : (holder : Holder) (l : Live) → P l → P (record l { holder = holder })
  pub opened : (host : Host) (slot : ℕ) (tuple : FourTuple) (scale : Option ℕ) (holder : Holder) (x : Entry)
      → IsPlain x.call → x.tick ≡ t → P (new_flow host slot tuple scale holder x)

app_plain : (by : Caller) (call : Call) → IsAppCall by call → IsPlain call
app_plain Slow calls.Tick h = absurd h
app_plain (Core k) calls.Tick h = absurd h
app_plain (App k) calls.Tick h = absurd h
app_plain Slow calls.Control h = absurd h
app_plain (Core k) calls.Control h = absurd h
app_plain (App k) calls.Control h = absurd h
app_plain by call h = record { tick = refl; control = refl }

abbrev On : (Live → Type 0) → Host → Type 0
On P host = Each P host.flows

-- ----- frames
syn_on : (P : Live → Type 0) (full : Bool) (free : Option ℕ) (start : Start) (t : ℕ) (host : Host) (frame : FrameId)
    (tuple : FourTuple) (seg : Seg) → Keeps P t → On P host
    → On P (opened_by_syn full free start t host frame tuple seg)
syn_on P true free start t host frame tuple seg keeps each = each
syn_on P false None start t host frame tuple seg keeps each = each
syn_on P false (Some slot) start t host frame tuple seg keeps each =
    each_push P host.flows _ each (keeps.opened host slot tuple _ _ _ (record { tick = refl; control = refl }) refl)

no_flow_on : (P : Live → Type 0) (opening listening : Bool) (start : Start) (t : ℕ) (host : Host) (frame : FrameId)
    (tuple : FourTuple) (seg : Seg) → Keeps P t → On P host
    → On P (met_no_flow opening listening start t host frame tuple seg)
no_flow_on P true listening start t host frame tuple seg keeps each =
    syn_on P (is_full host tuple.lport) (lowest_free host) start t host frame tuple seg keeps each
no_flow_on P false listening start t host frame tuple seg keeps each = each

arrived_on : (P : Live → Type 0) (known : Bool) (by : Caller) (start : Start) (t : ℕ) (host : Host) (frame : FrameId)
    (tuple : FourTuple) (seg : Seg) → Keeps P t → On P host
    → On P (arrived known (received by t frame seg) start t host frame tuple seg)
arrived_on P true by start t host frame tuple seg keeps each =
    each_first P (is_indexed_as tuple) (received by t frame seg)
    (λ l p. keeps.call by (calls.Rx frame seg) [] l (record { tick = refl; control = refl }) p) host.flows each
arrived_on P false by start t host frame tuple seg keeps each =
    no_flow_on P (is_listening host tuple.lport && opens seg) (is_listening host tuple.lport)
    start t host frame tuple seg keeps each

packet_on : (P : Live → Type 0) (by : Caller) (starts : Starts) (t : ℕ) (host : Host) (frame : FrameId)
    (packet : Packet) → Keeps P t → On P host → On P (delivered_packet (received by) starts t host frame packet)
packet_on P by starts t host frame (Damaged rule) keeps each = each
packet_on P by starts t host frame (Segment tuple seg) keeps each =
    arrived_on P (is_known host tuple) by (next_start starts host tuple) t host frame tuple seg keeps each

-- ----- moves
move_on : (P : Live → Type 0) (starts : Starts) (t : ℕ) (host : Host) (m : Move) → Keeps P t → MayMove host m
    → On P host → On P (moved starts t host m)
move_on P starts t host (Calls n by call offer) keeps may each =
    call_cases (On P) starts t host n by call offer may each
    (λ app. each_at P n (λ (l : Live). with_call l by t call offer)
    (λ l p. keeps.call by call offer l (app_plain by call app) p) host.flows each)
move_on P starts t host (Opens slot tuple app) keeps may each =
    each_push P host.flows _ each (keeps.opened host slot tuple _ _ _ (record { tick = refl; control = refl }) refl)
move_on P starts t host (Notes event) keeps may each = each
move_on P starts t host (Holds n holder) keeps may each =
    each_at P n (λ (l : Live). record l { holder = holder }) (keeps.holder holder) host.flows each
move_on P starts t host (Listens listeners) keeps may each = each

-- ----- actions
emits_on : (P : Live → Type 0) (by : Caller) (t : ℕ) (l : Live) → Keeps P t → P l → P (emits by t l)
emits_on P by t l keeps p = by_going (going (endpoint l)) where
  by_going : (o : Option Going) → P (emits_where o by t l)
  by_going None = p
  by_going (Some g) = keeps.call by calls.Emit [] l (record { tick = refl; control = refl }) p

done_on : {S A : Type 0} (P : Live → Type 0) (scripts : Scripts S A) (t : ℕ) (site : Site S) (by : Caller)
    (action : Action A) → AreByMoves scripts → Keeps P t → AreLegal site.host → On P site.host
    → On P (done_by scripts t site by action).host
done_on P scripts t site by (Timer n) by_moves keeps legal each =
    each_at P n (timed by t) (keeps.timed by) site.host.flows each
done_on P scripts t site by (Frame x) by_moves keeps legal each =
    packet_on P by scripts.starts t site.host x.frame x.packet keeps each
done_on P scripts t site by (Ask a) by_moves keeps legal each =
    asked_keeps (On P) scripts t by_moves (λ host m lawful may p. move_on P scripts.starts t host m keeps may p)
    site a legal each
done_on P scripts t site by (Emission n) by_moves keeps legal each =
    each_at P n (emits by t) (λ l p. emits_on P by t l keeps p) site.host.flows each

all_on : {S A : Type 0} (P : Live → Type 0) (scripts : Scripts S A) (t : ℕ) (site : Site S) (order : List (Deed A))
    → AreByMoves scripts → Keeps P t → AreLegal site.host → On P site.host
    → On P (fold (does scripts t) site order).host
all_on P scripts t site [] by_moves keeps legal each = each
all_on P scripts t site (m ∷ order) by_moves keeps legal each =
    all_on P scripts t (does scripts t site m) order by_moves keeps
    (done_kept scripts t site m.by m.action by_moves legal)
    (done_on P scripts t site m.by m.action by_moves keeps legal each)

pub round_on : {S A : Type 0} (P : Live → Type 0) (scripts : Scripts S A) (t : ℕ) (due : Due A) (before after : Site S)
    → AreByMoves scripts → Keeps P t → AreLegal before.host → Round scripts t due before after
    → Each P before.host.flows → Each P after.host.flows
round_on {S} P scripts t due before after by_moves keeps legal round each =
    subst (λ (s : Site S). On P s.host) round.made
    (all_on P scripts t (on_host all_swept before) round.order by_moves keeps (all_swept_kept before.host legal)
    (each_map P swept keeps.swept before.host.flows each))
