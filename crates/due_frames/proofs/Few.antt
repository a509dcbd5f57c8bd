-- A tick opens no more flows than names of frames can have: for the law flows_stay_few.
use Rattle.std.proofs.Common.{◌≡◌, ℕ, zero, suc, ◌+◌, ◌≤◌, ◌<◌, ◌&&◌, Bool, true, false, List, [], ◌∷◌, ◌++◌, length}
use Rattle.std.proofs.Common.{map, fold, Option, Some, None, refl, sym, subst, ap, arith}
use Rattle.std.proofs.lemmas.List.{length-append}
use Rattle.tas_model.specs.declared.entry.FourTuple.{FourTuple}
use Rattle.tas_model.specs.declared.entry.FrameId.{FrameId}
use Rattle.tas_model.specs.declared.entry.HostParams.{HostParams}
use Rattle.tas_model.specs.declared.entry.Seg.{Seg}
use Rattle.tas_model.specs.declared.entry.Caller.{Caller}
use Rattle.host_rounds.specs.declared.opening.Start.{Start}
use Rattle.host_rounds.specs.Lists.{change_first, change_at}
use Rattle.host_rounds.specs.Hosts.{Live, Host, Starts, next_start, is_known, is_indexed_as, is_listening, is_full}
use Rattle.host_rounds.specs.Hosts.{lowest_free, most_flows, with_call}
use Rattle.host_rounds.specs.Upkeep.{swept, all_swept, timed, emits}
use Rattle.host_rounds.specs.Deliveries.{Packet, Damaged, Segment, opens, opened_by_syn, met_no_flow, arrived}
use Rattle.host_rounds.specs.Deliveries.{delivered_packet, received}
use Rattle.host_rounds.specs.Openings.{Opening, AreOpened}
use Rattle.host_rounds.specs.Scripts.{Site, Scripts}
use Rattle.host_rounds.specs.Moves.{Move, Calls, Opens, Notes, Holds, Listens, moved, MayMove, AreByMoves}
use Rattle.host_rounds.specs.Rounds.{Action, Timer, Frame, Ask, Emission, Deed, done_by, does, on_host, Due, Round}
use Rattle.host_rounds.proofs.AllLegal.{AreLegal, asked_keeps, done_kept, all_swept_kept}
use Rattle.host_rounds.proofs.Keeps.{openings, length_is}
use Rattle.host_rounds.proofs.Slots.{given_slot}
use Rattle.due_frames.specs.Few.{HasFewFlows}

-- ----- lists
length_at : (n : ℕ) (f : Live → Live) (ls : List Live) → length (change_at n f ls) ≡ length ls
length_at n f [] = refl
length_at zero f (l ∷ ls) = refl
length_at (suc n) f (l ∷ ls) = ap suc (length_at n f ls)

length_first : (test : Live → Bool) (f : Live → Live) (ls : List Live) → length (change_first test f ls) ≡ length ls
length_first test f [] = refl
length_first test f (l ∷ ls) = by_test (test l) (length_first test f ls) where
  by_test : (b : Bool) → length (change_first test f ls) ≡ length ls
      → length {A = Live} (elim b [ true ↦ f l ∷ ls | false ↦ l ∷ change_first test f ls ]) ≡ suc (length ls)
  by_test true rest = refl
  by_test false rest = ap suc rest

length_map : (f : Live → Live) (ls : List Live) → length (map f ls) ≡ length ls
length_map f [] = refl
length_map f (l ∷ ls) = ap suc (length_map f ls)

-- ----- one host
as_few : (before after : Host) → length after.flows ≡ length before.flows → HasFewFlows before → HasFewFlows after
as_few before after same few = record { few = subst (λ (n : ℕ). n ≤ most_flows) (sym same) few.few }

-- where a slot is given, one flow more may be opened
one_few : (host : Host) (slot : ℕ) (l : Live) → lowest_free host ≡ Some slot
    → HasFewFlows (record host { flows = host.flows ++ l ∷ [] })
one_few host slot l free =
    let fewer : length host.flows < most_flows = (given_slot host.params.slots slot host.flows free).0 in
    let more : length (host.flows ++ l ∷ []) ≡ length host.flows + 1 = length-append host.flows (l ∷ []) in
    record { few = omega (arith, fewer, more) }

-- ----- frames
syn_few : (full : Bool) (free : Option ℕ) (start : Start) (t : ℕ) (host : Host) (frame : FrameId) (tuple : FourTuple)
    (seg : Seg) → lowest_free host ≡ free → HasFewFlows host
    → HasFewFlows (opened_by_syn full free start t host frame tuple seg)
syn_few true free start t host frame tuple seg is few = as_few host _ refl few
syn_few false None start t host frame tuple seg is few = as_few host _ refl few
syn_few false (Some slot) start t host frame tuple seg is few = one_few host slot _ is

no_flow_few : (opening listening : Bool) (start : Start) (t : ℕ) (host : Host) (frame : FrameId) (tuple : FourTuple)
    (seg : Seg) → HasFewFlows host
    → HasFewFlows (met_no_flow opening listening start t host frame tuple seg)
no_flow_few true listening start t host frame tuple seg few =
    syn_few (is_full host tuple.lport) (lowest_free host) start t host frame tuple seg refl few
no_flow_few false listening start t host frame tuple seg few = as_few host _ refl few

arrived_few : (known : Bool) (take_in : Live → Live) (start : Start) (t : ℕ) (host : Host) (frame : FrameId)
    (tuple : FourTuple) (seg : Seg) → HasFewFlows host
    → HasFewFlows (arrived known take_in start t host frame tuple seg)
arrived_few true take_in start t host frame tuple seg few =
    as_few host _ (length_first (is_indexed_as tuple) take_in host.flows) few
arrived_few false take_in start t host frame tuple seg few =
    no_flow_few (is_listening host tuple.lport && opens seg) (is_listening host tuple.lport) start t host frame tuple
    seg few

packet_few : (by : Caller) (starts : Starts) (t : ℕ) (host : Host) (frame : FrameId) (packet : Packet)
    → HasFewFlows host → HasFewFlows (delivered_packet (received by) starts t host frame packet)
packet_few by starts t host frame (Damaged rule) few = as_few host _ refl few
packet_few by starts t host frame (Segment tuple seg) few =
    arrived_few (is_known host tuple) (received by t frame seg) (next_start starts host tuple) t host frame tuple
    seg few

-- ----- moves
move_few : (starts : Starts) (t : ℕ) (host : Host) (m : Move) → MayMove host m → HasFewFlows host
    → HasFewFlows (moved starts t host m)
move_few starts t host (Calls n by call offer) may few =
    as_few host _ (length_at n (λ (l : Live). with_call l by t call offer) host.flows) few
move_few starts t host (Opens slot tuple app) may few = one_few host slot _ may
move_few starts t host (Notes event) may few = as_few host _ refl few
move_few starts t host (Holds n holder) may few =
    as_few host _ (length_at n (λ (l : Live). record l { holder = holder }) host.flows) few
move_few starts t host (Listens listeners) may few = as_few host _ refl few

-- ----- ticks
done_few : {S A : Type 0} (scripts : Scripts S A) (t : ℕ) (site : Site S) (by : Caller) (action : Action A)
    → AreByMoves scripts → AreLegal site.host → HasFewFlows site.host
    → HasFewFlows (done_by scripts t site by action).host
done_few scripts t site by (Timer n) by_moves legal few =
    as_few site.host _ (length_at n (timed by t) site.host.flows) few
done_few scripts t site by (Frame x) by_moves legal few =
    packet_few by scripts.starts t site.host x.frame x.packet few
done_few scripts t site by (Ask a) by_moves legal few =
    asked_keeps HasFewFlows scripts t by_moves (λ host m each may so_far. move_few scripts.starts t host m may so_far)
    site a legal few
done_few scripts t site by (Emission n) by_moves legal few =
    as_few site.host _ (length_at n (emits by t) site.host.flows) few

all_few : {S A : Type 0} (scripts : Scripts S A) (t : ℕ) (site : Site S) (order : List (Deed A))
    → AreByMoves scripts → AreLegal site.host → HasFewFlows site.host
    → HasFewFlows (fold (does scripts t) site order).host
all_few scripts t site [] by_moves legal few = few
all_few scripts t site (m ∷ order) by_moves legal few =
    all_few scripts t (does scripts t site m) order by_moves (done_kept scripts t site m.by m.action by_moves legal)
    (done_few scripts t site m.by m.action by_moves legal few)

pub round_few : {S A : Type 0} (scripts : Scripts S A) (t : ℕ) (due : Due A) (before after : Site S)
    → AreByMoves scripts → AreLegal before.host → Round scripts t due before after → HasFewFlows before.host
    → HasFewFlows after.host
round_few {S} scripts t due before after by_moves legal round few =
    subst (λ (s : Site S). HasFewFlows s.host) round.made
    (all_few scripts t (on_host all_swept before) round.order by_moves (all_swept_kept before.host legal)
    (as_few before.host (all_swept before.host) (length_map swept before.host.flows) few))

-- ----- openings
opened_few : (starts : Starts) (p : HostParams) (before os : List Opening) → AreOpened starts p before os
    → length before ≤ most_flows → length before + length os ≤ most_flows
opened_few starts p before [] opened few = omega arith
opened_few starts p before (o ∷ os) opened few =
    let one : length before < most_flows = opened.0.few in
    let more : length (before ++ o ∷ []) ≡ length before + 1 = length-append before (o ∷ []) in
    let rest : length (before ++ o ∷ []) + length os ≤ most_flows =
    opened_few starts p (before ++ o ∷ []) os opened.1 (omega arith) in omega arith

pub rightly_few : (starts : Starts) (p : HostParams) (host : Host) → AreOpened starts p [] (openings host.flows)
    → HasFewFlows host
rightly_few starts p host opened =
    let few : 0 + length (openings host.flows) ≤ most_flows =
    opened_few starts p [] (openings host.flows) opened (omega arith) in
    let same : length (openings host.flows) ≡ length host.flows = length_is host.flows in
    record { few = omega (arith, few, same) }
