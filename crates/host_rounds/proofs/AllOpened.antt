-- Every flow is opened rightly.
use Rattle.std.proofs.Common.{◌≡◌, ℕ, zero, suc, ◌+◌, ◌<◌, ◌==◌, ◌&&◌, Bool, true, false, List, [], ◌∷◌, ◌++◌, fold}
use Rattle.std.proofs.Common.{length, Option, Some, None, refl, sym, subst, ap, ◌∙◌, arith, append_assoc, append-nil}
use Rattle.std.specs.List.{list_any}
use Rattle.tas_model.specs.declared.entry.HostParams.{HostParams}
use Rattle.tas_model.specs.declared.entry.FourTuple.{FourTuple}
use Rattle.tas_model.specs.declared.entry.FrameId.{FrameId}
use Rattle.tas_model.specs.declared.entry.Seg.{Seg}
use Rattle.tas_model.specs.declared.entry.Entry.{Entry}
use Rattle.tas_model.specs.declared.entry.Caller.{Caller}
use Rattle.tas_model.specs.declared.entry.Call.TheVariants as calls
use Rattle.host_rounds.specs.declared.opening.Start.{Start}
use Rattle.host_rounds.specs.Hosts.{Live, Host, Holder, Starts, flow_params, next_start, with_call, at_flow}
use Rattle.host_rounds.specs.Hosts.{changed, is_known, is_indexed_as, same_tuple, is_listening, is_full, is_in_slot}
use Rattle.host_rounds.specs.Hosts.{free_from, most_flows, lowest_free, opened_as, new_flow, opened_in}
use Rattle.host_rounds.specs.Upkeep.{swept, all_swept, timed, emits}
use Rattle.host_rounds.specs.Deliveries.{Packet, Damaged, Segment, received, opens, opened_by_syn, met_no_flow, arrived}
use Rattle.host_rounds.specs.Deliveries.{delivered_packet}
use Rattle.host_rounds.specs.Scripts.{Site, Scripts}
use Rattle.host_rounds.specs.Moves.{Move, Calls, Opens, Notes, Holds, Listens, moved, MayMove, AreByMoves}
use Rattle.host_rounds.specs.Rounds.{Action, Timer, Frame, Ask, Emission, Deed, done_by, does, on_host, Due, Round}
use Rattle.host_rounds.specs.Rounds.{Rounds}
use Rattle.host_rounds.specs.Openings.{Opening, number_in, opening_of, start_after, IsOpened, AreOpened}
use Rattle.host_rounds.proofs.AllLegal.{AreLegal, asked_keeps, move_kept, done_kept, all_swept_kept}
use Rattle.host_rounds.proofs.Slots.{given_slot}
use Rattle.host_rounds.proofs.Keeps.{openings, openings_push, count_is, length_is, Keeps, map_keeps, first_keeps}
use Rattle.host_rounds.proofs.Keeps.{at_keeps, call_keeps, swept_keeps, timed_keeps, emits_keeps}

-- ----- lists
opened_push : (starts : Starts) (p : HostParams) (before os : List Opening) (o : Opening)
    → AreOpened starts p before os → IsOpened starts p (before ++ os) o
    → AreOpened starts p before (os ++ o ∷ [])
opened_push starts p before [] o all last =
    (subst (λ (bs : List Opening). IsOpened starts p bs o) (append-nil before) last, tt)
opened_push starts p before (x ∷ os) o all last = (
  all.0,
  opened_push starts p (before ++ x ∷ []) os o all.1
      (subst (λ (bs : List Opening). IsOpened starts p bs o) (sym (append_assoc before (x ∷ []) os)) last),
)

-- a slot that is found is one of the host's
pub found_slot : (most slot found : ℕ) (ls : List Live) → free_from most slot ls ≡ Some found → found < slot + most
found_slot zero slot found ls h = absurd (cc (h))
found_slot (suc most) slot found ls h =
    by_test (list_any (is_in_slot slot) ls) h (λ g. found_slot most (slot + 1) found ls g) where
      by_test : (b : Bool) → elim b [ true ↦ free_from most (slot + 1) ls | false ↦ Some slot ] ≡ Some found
          → (free_from most (slot + 1) ls ≡ Some found → found < slot + 1 + most) → found < slot + suc most
      by_test true g rest = let lower : found < slot + 1 + most = rest g in omega arith
      by_test false g rest = let same : slot ≡ found = cc (g) in omega arith

-- ----- hosts
-- The host has these parameters, and its flows were opened rightly.
pub record IsRight (starts : Starts) (p : HostParams) (host : Host) : Type 0 where
  pub params : host.params ≡ p
  pub legal : AreLegal host
  pub opened : AreOpened starts p [] (openings host.flows)

-- the flows change, and keep their openings
same_openings : (starts : Starts) (p : HostParams) (host after : Host) → IsRight starts p host
    → after.params ≡ host.params → AreLegal after
    → openings after.flows ≡ openings host.flows → IsRight starts p after
same_openings starts p host after right params legal same = record {
  params = params ∙ right.params;
  legal = legal;
  opened = subst (λ (os : List Opening). AreOpened starts p [] os) (sym same) right.opened;
}

-- the next start, by the flows and by their openings
same_start : (starts : Starts) (host : Host) (tuple : FourTuple)
    → start_after starts (openings host.flows) tuple ≡ next_start starts host tuple
same_start starts host tuple =
    ap (λ (k : ℕ). starts tuple k (length (openings host.flows)))
    (count_is (λ (o : Opening). same_tuple tuple o.tuple) host.flows)
    ∙ ap (starts tuple (opened_as tuple host.flows)) (length_is host.flows)

-- one flow more
opens_rightly : (starts : Starts) (p : HostParams) (host : Host) (slot : ℕ) (tuple : FourTuple) (holder : Holder)
    (x : Entry) → IsRight starts p host
    → AreLegal (opened_in host slot tuple (next_start starts host tuple).scale holder x) → lowest_free host ≡ Some slot
    → number_in x.call ≡ Some (next_start starts host tuple).number.0
    → IsRight starts p (opened_in host slot tuple (next_start starts host tuple).scale holder x)
opens_rightly starts p host slot tuple holder x right legal free number =
    let scale : Option ℕ = (next_start starts host tuple).scale in
    let same : start_after starts (openings host.flows) tuple ≡ next_start starts host tuple =
    same_start starts host tuple in
    let given : (length host.flows < most_flows) × (free_from host.params.slots 0 host.flows ≡ Some slot) =
    given_slot host.params.slots slot host.flows free in
    let below : slot < 0 + host.params.slots = found_slot host.params.slots 0 slot host.flows given.1 in
    let inside : slot < host.params.slots = omega arith in
    record {
      params = right.params;
      legal = legal;
      opened =
          subst (λ (os : List Opening). AreOpened starts p [] os)
          (sym (openings_push host.flows (new_flow host slot tuple scale holder x)))
          (opened_push starts p [] (openings host.flows)
          (opening_of (new_flow host slot tuple scale holder x).flow) right.opened (record {
            few = subst (λ (n : ℕ). n < most_flows) (sym (length_is host.flows)) given.0;
            params =
                ap (λ (q : HostParams). flow_params q scale) right.params
                ∙ ap (λ (s : Start). flow_params p s.scale) (sym same);
            slot = subst (λ (q : HostParams). slot < q.slots) right.params inside;
            generation = ap (λ (n : ℕ). 1 + n) (sym (count_is (λ (o : Opening). o.id.slot == slot) host.flows));
            number = number ∙ ap (λ (s : Start). Some s.number.0) (sym same);
          }));
    }

-- a line more, or other listeners
same_flows : (starts : Starts) (p : HostParams) (host after : Host) → IsRight starts p host
    → after.params ≡ host.params → after.flows ≡ host.flows → IsRight starts p after
same_flows starts p host after right params flows =
    same_openings starts p host after right params
    (subst (λ (ls : List Live). AreLegal (record host { flows = ls })) (sym flows) right.legal) (ap openings flows)

flow_right : (n : ℕ) (f : Live → Live) (starts : Starts) (p : HostParams) (host : Host) → Keeps f
    → IsRight starts p host
    → AreLegal (at_flow n f host) → IsRight starts p (at_flow n f host)
flow_right n f starts p host keeps right legal =
    same_openings starts p host (at_flow n f host) right refl legal (at_keeps n f keeps host.flows right.legal)

-- ----- frames
syn_right : (full : Bool) (free : Option ℕ) (starts : Starts) (p : HostParams) (t : ℕ) (host : Host) (frame : FrameId)
    (tuple : FourTuple) (seg : Seg)
    → lowest_free host ≡ free → IsRight starts p host
    → AreLegal (opened_by_syn full free (next_start starts host tuple) t host frame tuple seg)
    → IsRight starts p (opened_by_syn full free (next_start starts host tuple) t host frame tuple seg)
syn_right true free starts p t host frame tuple seg found right legal =
    record { params = right.params; legal = right.legal; opened = right.opened }
syn_right false None starts p t host frame tuple seg found right legal =
    record { params = right.params; legal = right.legal; opened = right.opened }
syn_right false (Some slot) starts p t host frame tuple seg found right legal =
    opens_rightly starts p host slot tuple _ _ right legal found refl

no_flow_right : (opening listening : Bool) (starts : Starts) (p : HostParams) (t : ℕ) (host : Host) (frame : FrameId)
    (tuple : FourTuple) (seg : Seg)
    → IsRight starts p host
    → AreLegal (met_no_flow opening listening (next_start starts host tuple) t host frame tuple seg)
    → IsRight starts p (met_no_flow opening listening (next_start starts host tuple) t host frame tuple seg)
no_flow_right true listening starts p t host frame tuple seg right legal =
    syn_right (is_full host tuple.lport) (lowest_free host) starts p t host frame tuple seg refl right legal
no_flow_right false listening starts p t host frame tuple seg right legal =
    record { params = right.params; legal = right.legal; opened = right.opened }

arrived_right : (known : Bool) (by : Caller) (starts : Starts) (p : HostParams) (t : ℕ) (host : Host)
    (frame : FrameId) (tuple : FourTuple) (seg : Seg)
    → IsRight starts p host
    → AreLegal (arrived known (received by t frame seg) (next_start starts host tuple) t host frame tuple seg)
    → IsRight starts p (arrived known (received by t frame seg)
    (next_start starts host tuple) t host frame tuple seg)
arrived_right true by starts p t host frame tuple seg right legal =
    same_openings starts p host (changed host tuple (received by t frame seg)) right refl legal
    (first_keeps (is_indexed_as tuple) (received by t frame seg)
    (call_keeps by t (calls.Rx frame seg) []) host.flows right.legal)
arrived_right false by starts p t host frame tuple seg right legal =
    no_flow_right (is_listening host tuple.lport && opens seg)
    (is_listening host tuple.lport) starts p t host frame tuple seg right legal

packet_right : (by : Caller) (starts : Starts) (p : HostParams) (t : ℕ) (host : Host) (frame : FrameId)
    (packet : Packet) → IsRight starts p host
    → AreLegal (delivered_packet (received by) starts t host frame packet)
    → IsRight starts p (delivered_packet (received by) starts t host frame packet)
packet_right by starts p t host frame (Damaged rule) right legal =
    record { params = right.params; legal = right.legal; opened = right.opened }
packet_right by starts p t host frame (Segment tuple seg) right legal =
    arrived_right (is_known host tuple) by starts p t host frame tuple seg right legal

-- ----- moves
moved_right : (starts : Starts) (p : HostParams) (t : ℕ) (host : Host) (m : Move) → MayMove host m
    → IsRight starts p host
    → AreLegal (moved starts t host m) → IsRight starts p (moved starts t host m)
moved_right starts p t host (Calls n by call offer) may right legal =
    flow_right n (λ (l : Live). with_call l by t call offer) starts p host (call_keeps by t call offer) right legal
moved_right starts p t host (Opens slot tuple app) may right legal =
    opens_rightly starts p host slot tuple _ _ right legal may refl
moved_right starts p t host (Notes event) may right legal =
    record { params = right.params; legal = right.legal; opened = right.opened }
moved_right starts p t host (Holds n holder) may right legal =
    flow_right n (λ (l : Live). record l { holder = holder }) starts p host (λ l one. refl) right legal
moved_right starts p t host (Listens listeners) may right legal =
    record { params = right.params; legal = right.legal; opened = right.opened }

asked_right : {S A : Type 0} (scripts : Scripts S A) (p : HostParams) (t : ℕ) (site : Site S) (a : A)
    → AreByMoves scripts → IsRight scripts.starts p site.host
    → IsRight scripts.starts p (scripts.asked t site a).host
asked_right scripts p t site a by_moves right =
    asked_keeps (IsRight scripts.starts p) scripts t by_moves
    (λ host m legal may r. moved_right scripts.starts p t host m may r (move_kept scripts.starts t host m may legal))
    site a right.legal right

-- ----- ticks
done_right : {S A : Type 0} (scripts : Scripts S A) (p : HostParams) (t : ℕ) (site : Site S) (by : Caller)
    (action : Action A) → AreByMoves scripts
    → IsRight scripts.starts p site.host → AreLegal (done_by scripts t site by action).host
    → IsRight scripts.starts p (done_by scripts t site by action).host
done_right scripts p t site by (Timer n) by_moves right legal =
    flow_right n (timed by t) scripts.starts p site.host (timed_keeps by t) right legal
done_right scripts p t site by (Frame x) by_moves right legal =
    packet_right by scripts.starts p t site.host x.frame x.packet right legal
done_right scripts p t site by (Ask a) by_moves right legal = asked_right scripts p t site a by_moves right
done_right scripts p t site by (Emission n) by_moves right legal =
    flow_right n (emits by t) scripts.starts p site.host (emits_keeps by t) right legal

all_right : {S A : Type 0} (scripts : Scripts S A) (p : HostParams) (t : ℕ) (site : Site S) (order : List (Deed A))
    → AreByMoves scripts
    → IsRight scripts.starts p site.host → IsRight scripts.starts p (fold (does scripts t) site order).host
all_right scripts p t site [] by_moves right = right
all_right scripts p t site (m ∷ order) by_moves right =
    all_right scripts p t (does scripts t site m) order by_moves
    (done_right scripts p t site m.by m.action by_moves right
    (done_kept scripts t site m.by m.action by_moves right.legal))

pub round_right : {S A : Type 0} (scripts : Scripts S A) (p : HostParams) (t : ℕ) (due : Due A) (before after : Site S)
    → AreByMoves scripts
    → Round scripts t due before after → IsRight scripts.starts p before.host → IsRight scripts.starts p after.host
round_right {S} scripts p t due before after by_moves round right =
    let start : IsRight scripts.starts p (all_swept before.host) =
    same_openings scripts.starts p before.host (all_swept before.host) right refl
    (all_swept_kept before.host right.legal)
    (map_keeps swept swept_keeps before.host.flows right.legal) in
    subst (λ (s : Site S). IsRight scripts.starts p s.host) round.made
    (all_right scripts p t (on_host all_swept before) round.order by_moves start)

-- In every run each flow is opened rightly.
pub rounds_right : {S A : Type 0} (scripts : Scripts S A) (p : HostParams) (t : ℕ) (dues : List (Due A))
    (before after : Site S) → AreByMoves scripts
    → Rounds scripts t dues before after → IsRight scripts.starts p before.host → IsRight scripts.starts p after.host
rounds_right {S} scripts p t [] before after by_moves same right =
    subst (λ (s : Site S). IsRight scripts.starts p s.host) same right
rounds_right scripts p t (due ∷ dues) before after by_moves rounds right =
    rounds_right scripts p (t + 1) dues rounds.0 after by_moves rounds.2
    (round_right scripts p t due before rounds.0 by_moves rounds.1 right)

pub round_opened : {S A : Type 0} (scripts : Scripts S A) (t : ℕ) (due : Due A) (before after : Site S)
    → AreByMoves scripts
    → Round scripts t due before after → AreLegal before.host
    → AreOpened scripts.starts before.host.params [] (openings before.host.flows)
    → AreOpened scripts.starts before.host.params [] (openings after.host.flows)
round_opened scripts t due before after by_moves round legal opened =
    (round_right scripts before.host.params t due before after by_moves round
    (record { params = refl; legal = legal; opened = opened })).opened
