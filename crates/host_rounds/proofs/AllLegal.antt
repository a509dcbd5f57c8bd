-- Every action of a tick keeps every history legal.
use Rattle.std.proofs.Common.{◌≡◌, ℕ, zero, suc, ◌+◌, ◌&&◌, Bool, true, false, List, [], ◌∷◌, ◌++◌, map, fold}
use Rattle.std.proofs.Common.{slice_get, Option, Some, None, IfSome, refl, sym, subst, ap}
use Rattle.tas_model.specs.declared.entry.FourTuple.{FourTuple}
use Rattle.tas_model.specs.declared.entry.FrameId.{FrameId}
use Rattle.tas_model.specs.declared.entry.Seg.{Seg}
use Rattle.tas_model.specs.declared.entry.Caller.{Caller}
use Rattle.tas_model.specs.declared.entry.Call.{Call}
use Rattle.host_rounds.specs.declared.opening.Start.{Start}
use Rattle.host_rounds.specs.Lists.{Each, change_first, change_at}
use Rattle.host_rounds.specs.Hosts.{Live, Host, Starts, next_start, is_known, is_indexed_as, is_listening}
use Rattle.host_rounds.specs.Hosts.{is_full, lowest_free, with_call}
use Rattle.host_rounds.specs.Upkeep.{swept, all_swept, timed, emits}
use Rattle.host_rounds.specs.Deliveries.{Packet, Damaged, Segment, Arrival, received, opens, opened_by_syn, met_no_flow}
use Rattle.host_rounds.specs.Deliveries.{arrived, delivered_packet, delivered}
use Rattle.host_rounds.specs.Histories.{HasHistory}
use Rattle.host_rounds.specs.Scripts.{Site, Scripts}
use Rattle.host_rounds.specs.Moves.{Move, Calls, Opens, Notes, Holds, Listens, moved, IsAppCall, MayCall, MayMove}
use Rattle.host_rounds.specs.Moves.{AreMoves, AreByMoves}
use Rattle.host_rounds.specs.Rounds.{Action, Timer, Frame, Ask, Emission, Deed, done_by, does, on_host, Due, Round}
use Rattle.host_rounds.specs.Rounds.{Rounds}
use Rattle.host_rounds.proofs.Flows.{call_kept, swept_kept, timed_kept, received_kept, emits_kept}

abbrev pub AreLegal : Host → Type 0
AreLegal host = Each HasHistory host.flows

-- ----- lists
pub each_map : {X : Type 0} (P : X → Type 0) (f : X → X) → ((x : X) → P x → P (f x)) → (xs : List X) → Each P xs
    → Each P (map f xs)
each_map P f kept [] each = tt
each_map P f kept (x ∷ xs) each = (kept x each.0, each_map P f kept xs each.1)

pub each_first : {X : Type 0} (P : X → Type 0) (test : X → Bool) (f : X → X) → ((x : X) → P x → P (f x)) → (xs : List X)
    → Each P xs
    → Each P (change_first test f xs)
each_first P test f kept [] each = tt
each_first {X} P test f kept (x ∷ xs) each = by_test (test x) (each_first P test f kept xs each.1) where
  by_test : (b : Bool) → Each P (change_first test f xs)
      → Each P (elim b [ true ↦ f x ∷ xs | false ↦ x ∷ change_first test f xs ])
  by_test true rest = (kept x each.0, each.1)
  by_test false rest = (each.0, rest)

pub each_at : {X : Type 0} (P : X → Type 0) (n : ℕ) (f : X → X) → ((x : X) → P x → P (f x)) → (xs : List X) → Each P xs
    → Each P (change_at n f xs)
each_at P n f kept [] each = tt
each_at P zero f kept (x ∷ xs) each = (kept x each.0, each.1)
each_at P (suc n) f kept (x ∷ xs) each = (each.0, each_at P n f kept xs each.1)

-- the same, where it is known of the one that is changed alone
pub each_there : {X : Type 0} (P : X → Type 0) (n : ℕ) (f : X → X) (xs : List X)
    → IfSome (slice_get xs n) (λ x. P x → P (f x)) → Each P xs
    → Each P (change_at n f xs)
each_there P n f [] kept each = tt
each_there P zero f (x ∷ xs) kept each = (kept each.0, each.1)
each_there P (suc n) f (x ∷ xs) kept each = (each.0, each_there P n f xs kept each.1)

pub each_push : {X : Type 0} (P : X → Type 0) (xs : List X) (x : X) → Each P xs → P x → Each P (xs ++ x ∷ [])
each_push P [] x each last = (last, tt)
each_push P (y ∷ xs) x each last = (each.0, each_push P xs x each.1 last)

pub none_there : {X : Type 0} (n : ℕ) (f : X → X) (xs : List X) → slice_get xs n ≡ None → change_at n f xs ≡ xs
none_there n f [] h = refl
none_there zero f (x ∷ xs) h = absurd (cc (h))
none_there {X} (suc n) f (x ∷ xs) h = ap (λ (zs : List X). x ∷ zs) (none_there n f xs h)

-- ----- frames
syn_kept : (full : Bool) (free : Option ℕ) (start : Start) (t : ℕ) (host : Host) (frame : FrameId) (tuple : FourTuple)
    (seg : Seg) → AreLegal host
    → AreLegal (opened_by_syn full free start t host frame tuple seg)
syn_kept true free start t host frame tuple seg each = each
syn_kept false None start t host frame tuple seg each = each
syn_kept false (Some slot) start t host frame tuple seg each =
    each_push HasHistory host.flows _ each (record { opens = tt; reply = refl; number = refl }, tt)

no_flow_kept : (opening listening : Bool) (start : Start) (t : ℕ) (host : Host) (frame : FrameId) (tuple : FourTuple)
    (seg : Seg)
    → AreLegal host
    → AreLegal (met_no_flow opening listening start t host frame tuple seg)
no_flow_kept true listening start t host frame tuple seg each =
    syn_kept (is_full host tuple.lport) (lowest_free host) start t host frame tuple seg each
no_flow_kept false listening start t host frame tuple seg each = each

arrived_kept : (known : Bool) (take_in : Live → Live) → ((l : Live) → HasHistory l → HasHistory (take_in l))
    → (start : Start) (t : ℕ) (host : Host) (frame : FrameId) (tuple : FourTuple) (seg : Seg) → AreLegal host
    → AreLegal (arrived known take_in start t host frame tuple seg)
arrived_kept true take_in kept start t host frame tuple seg each =
    each_first HasHistory (is_indexed_as tuple) take_in kept host.flows each
arrived_kept false take_in kept start t host frame tuple seg each =
    no_flow_kept (is_listening host tuple.lport && opens seg)
    (is_listening host tuple.lport) start t host frame tuple seg each

packet_kept : (by : Caller) (starts : Starts) (t : ℕ) (host : Host) (frame : FrameId) (packet : Packet)
    → AreLegal host
    → AreLegal (delivered_packet (received by) starts t host frame packet)
packet_kept by starts t host frame (Damaged rule) each = each
packet_kept by starts t host frame (Segment tuple seg) each =
    arrived_kept (is_known host tuple) (received by t frame seg) (received_kept by t frame seg)
    (next_start starts host tuple) t host frame tuple seg each

pub delivered_kept : (by : Caller) (starts : Starts) (t : ℕ) (host : Host) (x : Arrival) → AreLegal host
    → AreLegal (delivered (received by) starts t host x)
delivered_kept by starts t host x each = packet_kept by starts t host x.frame x.packet each

-- ----- moves
may_call_kept : (by : Caller) (t : ℕ) (call : Call) (offer : List ℕ) (o : Option Live)
    → IfSome o (λ l. MayCall l by call offer)
    → IfSome o (λ l. HasHistory l → HasHistory (with_call l by t call offer))
may_call_kept by t call offer None may = tt
may_call_kept by t call offer (Some l) may = λ legal. call_kept l by t call offer legal may.offers may.steps

pub move_kept : (starts : Starts) (t : ℕ) (host : Host) (m : Move) → MayMove host m → AreLegal host
    → AreLegal (moved starts t host m)
move_kept starts t host (Calls n by call offer) may each =
    each_there HasHistory n (λ (l : Live). with_call l by t call offer) host.flows
    (may_call_kept by t call offer (slice_get host.flows n) may) each
move_kept starts t host (Opens slot tuple app) may each =
    each_push HasHistory host.flows _ each (record { opens = tt; reply = refl; number = refl }, tt)
move_kept starts t host (Notes event) may each = each
move_kept starts t host (Holds n holder) may each =
    each_at HasHistory n (λ (l : Live). record l { holder = holder }) (λ l legal. legal) host.flows each
move_kept starts t host (Listens listeners) may each = each

-- What each move keeps of a host with legal histories, a row of moves keeps,
pub moves_keep : (P : Host → Type 0) (starts : Starts) (t : ℕ)
    → ((host : Host) (m : Move) → AreLegal host → MayMove host m → P host → P (moved starts t host m))
    → (ms : List Move) (before after : Host) → AreMoves starts t before ms after → AreLegal before → P before → P after
moves_keep P starts t each [] before after same legal p = subst P same p
moves_keep P starts t each (m ∷ ms) before after may legal p =
    moves_keep P starts t each ms (moved starts t before m) after may.1 (move_kept starts t before m may.0 legal)
    (each before m legal may.0 p)

-- and so does all that scripts ask.
pub asked_keeps : {S A : Type 0} (P : Host → Type 0) (scripts : Scripts S A) (t : ℕ) → AreByMoves scripts
    → ((host : Host) (m : Move) → AreLegal host → MayMove host m → P host → P (moved scripts.starts t host m))
    → (site : Site S) (a : A) → AreLegal site.host → P site.host → P (scripts.asked t site a).host
asked_keeps P scripts t by_moves each site a legal p =
    let row = by_moves t site a legal in
    moves_keep P scripts.starts t each row.0 site.host (scripts.asked t site a).host row.1 legal p

pub asked_kept : {S A : Type 0} (scripts : Scripts S A) (t : ℕ) (site : Site S) (a : A) → AreByMoves scripts
    → AreLegal site.host
    → AreLegal (scripts.asked t site a).host
asked_kept scripts t site a by_moves legal =
    asked_keeps AreLegal scripts t by_moves (λ host m each may p.
    move_kept scripts.starts t host m may each) site a legal legal

-- A call is one of an application, or its flow does not stand and nothing changes.
pub call_cases : (P : Host → Type 0) (starts : Starts) (t : ℕ) (host : Host) (n : ℕ) (by : Caller) (call : Call)
    (offer : List ℕ)
    → MayMove host (Calls n by call offer) → P host
    → (IsAppCall by call → P (moved starts t host (Calls n by call offer)))
    → P (moved starts t host (Calls n by call offer))
call_cases P starts t host n by call offer may p stands = by_place (slice_get host.flows n) refl may where
  by_place : (o : Option Live) → slice_get host.flows n ≡ o → IfSome o (λ l. MayCall l by call offer)
      → P (moved starts t host (Calls n by call offer))
  by_place None h may = subst (λ (ls : List Live). P (record host { flows = ls }))
      (sym (none_there n (λ (l : Live). with_call l by t call offer) host.flows h)) p
  by_place (Some l) h may = stands may.kind

-- ----- ticks
pub done_kept : {S A : Type 0} (scripts : Scripts S A) (t : ℕ) (site : Site S) (by : Caller) (action : Action A)
    → AreByMoves scripts
    → AreLegal site.host → AreLegal (done_by scripts t site by action).host
done_kept scripts t site by (Timer n) by_moves each =
    each_at HasHistory n (timed by t) (timed_kept by t) site.host.flows each
done_kept scripts t site by (Frame x) by_moves each = delivered_kept by scripts.starts t site.host x each
done_kept scripts t site by (Ask a) by_moves each = asked_kept scripts t site a by_moves each
done_kept scripts t site by (Emission n) by_moves each =
    each_at HasHistory n (emits by t) (emits_kept by t) site.host.flows each

pub all_kept : {S A : Type 0} (scripts : Scripts S A) (t : ℕ) (site : Site S) (order : List (Deed A))
    → AreByMoves scripts → AreLegal site.host
    → AreLegal (fold (does scripts t) site order).host
all_kept scripts t site [] by_moves each = each
all_kept scripts t site (m ∷ order) by_moves each =
    all_kept scripts t (does scripts t site m) order by_moves (done_kept scripts t site m.by m.action by_moves each)

pub all_swept_kept : (host : Host) → AreLegal host → AreLegal (all_swept host)
all_swept_kept host each = each_map HasHistory swept swept_kept host.flows each

pub round_kept : {S A : Type 0} (scripts : Scripts S A) (t : ℕ) (due : Due A) (before after : Site S)
    → AreByMoves scripts
    → Round scripts t due before after → AreLegal before.host → AreLegal after.host
round_kept {S} scripts t due before after by_moves round each =
    subst (λ (site : Site S). AreLegal site.host) round.made
    (all_kept scripts t (on_host all_swept before) round.order by_moves (all_swept_kept before.host each))

-- Every history of every run is legal.
pub rounds_kept : {S A : Type 0} (scripts : Scripts S A) (t : ℕ) (dues : List (Due A)) (before after : Site S)
    → AreByMoves scripts
    → Rounds scripts t dues before after → AreLegal before.host → AreLegal after.host
rounds_kept {S} scripts t [] before after by_moves same each = subst (λ (site : Site S). AreLegal site.host) same each
rounds_kept scripts t (due ∷ dues) before after by_moves rounds each =
    rounds_kept scripts (t + 1) dues rounds.0 after by_moves rounds.2
    (round_kept scripts t due before rounds.0 by_moves rounds.1 each)
