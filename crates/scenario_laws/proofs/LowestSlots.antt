-- Each flow that is opened gets the lowest free slot.
use Rattle.std.proofs.Common.{◌≡◌, ℕ, zero, suc, ◌+◌, ◌≤◌, ◌<◌, ◌==◌, ◌&&◌, ◌||◌, not, Bool, true, false}
use Rattle.std.proofs.Common.{List, [], ◌∷◌, ◌++◌, length, map, take, drop, fold, Option, Some, None, if◌then◌else◌}
use Rattle.std.proofs.Common.{refl, sym, subst, ap, ◌∙◌, arith, tests, append_assoc, append-nil}
use Rattle.std.specs.List.{list_any}
use Rattle.std.proofs.lemmas.List.{take-append-drop}
use Rattle.tas_model.specs.declared.entry.FourTuple.{FourTuple}
use Rattle.tas_model.specs.declared.entry.FrameId.{FrameId}
use Rattle.tas_model.specs.declared.entry.Seg.{Seg}
use Rattle.tas_model.specs.declared.entry.Entry.{Entry}
use Rattle.tas_model.specs.declared.entry.Caller.{Caller}
use Rattle.host_rounds.specs.declared.opening.Start.{Start}
use Rattle.host_rounds.specs.Lists.{change_first, change_at}
use Rattle.host_rounds.specs.Logs.{RunLog}
use Rattle.host_rounds.specs.Hosts.{Live, Host, Holder, Starts, next_start, with_call, is_known, is_indexed_as}
use Rattle.host_rounds.specs.Hosts.{is_listening, is_full, is_in_slot, free_from, lowest_free, opened_in}
use Rattle.host_rounds.specs.Upkeep.{swept, all_swept, timed, emits}
use Rattle.host_rounds.specs.Deliveries.{Packet, Damaged, Segment, received, opens, opened_by_syn, met_no_flow, arrived}
use Rattle.host_rounds.specs.Deliveries.{delivered_packet}
use Rattle.host_rounds.specs.Scripts.{Site, Scripts}
use Rattle.host_rounds.specs.Moves.{Move, Calls, Opens, Notes, Holds, Listens, moved, MayMove, AreByMoves}
use Rattle.host_rounds.specs.Rounds.{Action, Timer, Frame, Ask, Emission, Deed, done_by, does, on_host, Due, Round}
use Rattle.host_rounds.proofs.AllLegal.{AreLegal, asked_keeps, done_kept, all_swept_kept}
use Rattle.host_rounds.proofs.Slots.{given_slot}
use Rattle.host_rounds.proofs.Standing.{KeepsPlace, timed_place, emits_place}
use Rattle.scenario_text.specs.declared.scenario.Scenario.{Scenario}
use Rattle.scenario_runs.specs.Runs.{Run}
use Rattle.scenario_runs.specs.Worlds.{scripts_of}
use Rattle.scenario_runs.proofs.ByMoves.{scenarios_by_moves}
use Rattle.scenario_laws.specs.Ticks.{InEachTick}
use Rattle.scenario_laws.specs.Slots.{slot_of, slots_of, is_slot, is_taken, IsLowestFree, GotLowest}
use Rattle.scenario_laws.specs.Slots.{OpenedInLowest}
use Rattle.scenario_laws.proofs.AllTicks.{run_holds}

-- ----- slots that are taken
abbrev Taken : Type 0
Taken = List (Option ℕ)

in_slot : (filed : Bool) (own slot : ℕ) → (not filed && own == slot) ≡ is_slot slot (if filed then None else Some own)
in_slot true own slot = refl
in_slot false own slot = refl

taken_is : (slot : ℕ) (ls : List Live) → list_any (is_in_slot slot) ls ≡ is_taken slot (slots_of ls)
taken_is slot [] = refl
taken_is slot (l ∷ ls) =
    ap (λ (b : Bool). b || list_any (is_in_slot slot) ls) (in_slot l.filed l.flow.id.slot slot)
    ∙ ap (λ (b : Bool). is_slot slot (slot_of l) || b) (taken_is slot ls)

-- What is found from `slot` on is the lowest free slot from there.
record Lowest (most slot found : ℕ) (ls : List Live) : Type 0 where
  inside : found < slot + most
  free : list_any (is_in_slot found) ls ≡ false
  lower : (other : ℕ) → slot ≤ other → other < found → list_any (is_in_slot other) ls ≡ true

found_lowest : (most slot found : ℕ) (ls : List Live) → free_from most slot ls ≡ Some found → Lowest most slot found ls
found_lowest zero slot found ls h = absurd (cc (h))
found_lowest (suc most) slot found ls h =
    by_test (list_any (is_in_slot slot) ls) refl h (λ g. found_lowest most (slot + 1) found ls g) where
      by_test : (b : Bool) → list_any (is_in_slot slot) ls ≡ b
          → elim b [ true ↦ free_from most (slot + 1) ls | false ↦ Some slot ] ≡ Some found
          → (free_from most (slot + 1) ls ≡ Some found → Lowest most (slot + 1) found ls)
          → Lowest (suc most) slot found ls
      by_test true e g rest =
          let low : Lowest most (slot + 1) found ls = rest g in
          let high : found < slot + 1 + most = low.inside in
          record { inside = omega arith; free = low.free; lower = λ other a b. by_same other (slot == other) refl a b }
        where
          by_same : (other : ℕ) (c : Bool) → (slot == other) ≡ c → slot ≤ other → other < found
              → list_any (is_in_slot other) ls ≡ true
          by_same other true same a b =
              let equal : slot ≡ other = grind (arith, tests, same) in
              ap (λ (n : ℕ). list_any (is_in_slot n) ls) (sym equal) ∙ e
          by_same other false differs a b =
              let above : slot < other = grind (arith, tests, differs, a) in
              (rest g).lower other (omega arith) b
      by_test false e g rest =
          let same : slot ≡ found = cc (g) in
          record {
            inside = omega arith;
            free = ap (λ (n : ℕ). list_any (is_in_slot n) ls) (sym same) ∙ e;
            lower = λ other a b. absurd (omega arith);
          }

lowest_is : (host : Host) (slot : ℕ) → lowest_free host ≡ Some slot
    → IsLowestFree host.params.slots slot (slots_of host.flows)
lowest_is host slot h =
    let found : Lowest host.params.slots 0 slot host.flows =
    found_lowest host.params.slots 0 slot host.flows (given_slot host.params.slots slot host.flows h).1 in
    let high : slot < 0 + host.params.slots = found.inside in
    record {
      inside = omega arith;
      free = sym (taken_is slot host.flows) ∙ found.free;
      lower = λ other below. sym (taken_is other host.flows) ∙ found.lower other (omega arith) below;
    }

-- ----- one more
got_push : (slots slot : ℕ) (taken opened : Taken) → GotLowest slots taken opened
    → IsLowestFree slots slot (taken ++ opened) → GotLowest slots taken (opened ++ Some slot ∷ [])
got_push slots slot taken [] got last = (subst (IsLowestFree slots slot) (append-nil taken) last, tt)
got_push slots slot taken (None ∷ opened) got last = absurd got
got_push slots slot taken (Some other ∷ opened) got last = (
  got.0,
  got_push slots slot (taken ++ Some other ∷ []) opened got.1
      (subst (IsLowestFree slots slot) (sym (append_assoc taken (Some other ∷ []) opened)) last),
)

take_push : (n : ℕ) (o : Option ℕ) (xs : Taken) → n ≤ length xs → take n (xs ++ o ∷ []) ≡ take n xs
take_push zero o xs few = refl
take_push (suc n) o [] few = absurd (omega arith)
take_push (suc n) o (x ∷ xs) few = ap (λ (ys : Taken). x ∷ ys) (take_push n o xs (omega arith))

drop_push : (n : ℕ) (o : Option ℕ) (xs : Taken) → n ≤ length xs → drop n (xs ++ o ∷ []) ≡ drop n xs ++ o ∷ []
drop_push zero o xs few = refl
drop_push (suc n) o [] few = absurd (omega arith)
drop_push (suc n) o (x ∷ xs) few = drop_push n o xs (omega arith)

abbrev Opened : (slots n : ℕ) → Taken → Type 0
Opened slots n xs = GotLowest slots (take n xs) (drop n xs)

opened_push : (slots n slot : ℕ) (xs : Taken) → n ≤ length xs → Opened slots n xs → IsLowestFree slots slot xs
    → Opened slots n (xs ++ Some slot ∷ [])
opened_push slots n slot xs few opened last =
    let pushed : GotLowest slots (take n xs) (drop n xs ++ Some slot ∷ []) =
    got_push slots slot (take n xs) (drop n xs) opened
    (subst (IsLowestFree slots slot) (sym (take-append-drop n xs)) last) in
    subst (λ (ys : Taken). GotLowest slots ys (drop n (xs ++ Some slot ∷ []))) (sym (take_push n (Some slot) xs few))
    (subst (GotLowest slots (take n xs)) (sym (drop_push n (Some slot) xs few)) pushed)

-- ----- a host
-- It has so many slots, so many flows at least, and those behind them got the lowest free slots.
record Gives (size n : ℕ) (host : Host) : Type 0 where
  slots : host.params.slots ≡ size
  few : n ≤ length (slots_of host.flows)
  opened : Opened size n (slots_of host.flows)

-- the flows change, and keep their slots
same_slots : (slots n : ℕ) (host after : Host) → Gives slots n host → after.params ≡ host.params
    → slots_of after.flows ≡ slots_of host.flows → Gives slots n after
same_slots slots n host after gives params same = record {
  slots = ap (λ (p : _). p.slots) params ∙ gives.slots;
  few = subst (λ (xs : Taken). n ≤ length xs) (sym same) gives.few;
  opened = subst (Opened slots n) (sym same) gives.opened;
}

slots_push : (ls : List Live) (l : Live) → slots_of (ls ++ l ∷ []) ≡ slots_of ls ++ slot_of l ∷ []
slots_push [] l = refl
slots_push (m ∷ ls) l = ap (λ (xs : Taken). slot_of m ∷ xs) (slots_push ls l)

length_push : (xs : Taken) (o : Option ℕ) → length (xs ++ o ∷ []) ≡ length xs + 1
length_push [] o = refl
length_push (x ∷ xs) o = let rest : length (xs ++ o ∷ []) ≡ length xs + 1 = length_push xs o in omega arith

opens_lowest : (slots n : ℕ) (host : Host) (slot : ℕ) (tuple : FourTuple) (scale : Option ℕ) (holder : Holder)
    (x : Entry) → Gives slots n host → lowest_free host ≡ Some slot
    → Gives slots n (opened_in host slot tuple scale holder x)
opens_lowest slots n host slot tuple scale holder x gives free =
    let last : IsLowestFree slots slot (slots_of host.flows) =
    subst (λ (k : ℕ). IsLowestFree k slot (slots_of host.flows)) gives.slots (lowest_is host slot free) in
    let few : n ≤ length (slots_of host.flows) = gives.few in
    let more : length (slots_of host.flows ++ Some slot ∷ []) ≡ length (slots_of host.flows) + 1 =
    length_push (slots_of host.flows) (Some slot) in
    let enough : n ≤ length (slots_of host.flows ++ Some slot ∷ []) = omega arith in
    record {
      slots = gives.slots;
      few = subst (λ (xs : Taken). n ≤ length xs) (sym (slots_push host.flows _)) enough;
      opened = subst (Opened slots n) (sym (slots_push host.flows _))
          (opened_push slots n slot (slots_of host.flows) few gives.opened last);
    }

-- ----- what keeps slots
slot_same : (f : Live → Live) → KeepsPlace f → (l : Live) → slot_of (f l) ≡ slot_of l
slot_same f keeps l =
    ap (λ (b : Bool). if b then None else Some (f l).flow.id.slot) (keeps l).0
    ∙ ap (λ (n : ℕ). if l.filed then None else Some n) (keeps l).1

first_same : (test : Live → Bool) (f : Live → Live) → KeepsPlace f → (ls : List Live)
    → slots_of (change_first test f ls) ≡ slots_of ls
first_same test f keeps [] = refl
first_same test f keeps (l ∷ ls) = by_test (test l) (first_same test f keeps ls) where
  by_test : (b : Bool) → slots_of (change_first test f ls) ≡ slots_of ls
      → slots_of (elim b [ true ↦ f l ∷ ls | false ↦ l ∷ change_first test f ls ]) ≡ slot_of l ∷ slots_of ls
  by_test true rest = ap (λ (o : Option ℕ). o ∷ slots_of ls) (slot_same f keeps l)
  by_test false rest = ap (λ (xs : Taken). slot_of l ∷ xs) rest

at_same : (k : ℕ) (f : Live → Live) → KeepsPlace f → (ls : List Live) → slots_of (change_at k f ls) ≡ slots_of ls
at_same k f keeps [] = refl
at_same zero f keeps (l ∷ ls) = ap (λ (o : Option ℕ). o ∷ slots_of ls) (slot_same f keeps l)
at_same (suc k) f keeps (l ∷ ls) = ap (λ (xs : Taken). slot_of l ∷ xs) (at_same k f keeps ls)

-- ----- frames
syn_gives : (slots n : ℕ) (full : Bool) (free : Option ℕ) (start : Start) (t : ℕ) (host : Host) (frame : FrameId)
    (tuple : FourTuple) (seg : Seg) → lowest_free host ≡ free → Gives slots n host
    → Gives slots n (opened_by_syn full free start t host frame tuple seg)
syn_gives slots n true free start t host frame tuple seg found gives = same_slots slots n host _ gives refl refl
syn_gives slots n false None start t host frame tuple seg found gives = same_slots slots n host _ gives refl refl
syn_gives slots n false (Some slot) start t host frame tuple seg found gives =
    opens_lowest slots n host slot tuple _ _ _ gives found

no_flow_gives : (slots n : ℕ) (opening listening : Bool) (start : Start) (t : ℕ) (host : Host) (frame : FrameId)
    (tuple : FourTuple) (seg : Seg) → Gives slots n host
    → Gives slots n (met_no_flow opening listening start t host frame tuple seg)
no_flow_gives slots n true listening start t host frame tuple seg gives =
    syn_gives slots n (is_full host tuple.lport) (lowest_free host) start t host frame tuple seg refl gives
no_flow_gives slots n false listening start t host frame tuple seg gives = same_slots slots n host _ gives refl refl

arrived_gives : (slots n : ℕ) (known : Bool) (by : Caller) (start : Start) (t : ℕ) (host : Host) (frame : FrameId)
    (tuple : FourTuple) (seg : Seg) → Gives slots n host
    → Gives slots n (arrived known (received by t frame seg) start t host frame tuple seg)
arrived_gives slots n true by start t host frame tuple seg gives =
    same_slots slots n host _ gives refl
    (first_same (is_indexed_as tuple) (received by t frame seg) (λ l. (refl, refl)) host.flows)
arrived_gives slots n false by start t host frame tuple seg gives =
    no_flow_gives slots n (is_listening host tuple.lport && opens seg) (is_listening host tuple.lport) start t host
    frame tuple seg gives

packet_gives : (slots n : ℕ) (by : Caller) (starts : Starts) (t : ℕ) (host : Host) (frame : FrameId)
    (packet : Packet) → Gives slots n host
    → Gives slots n (delivered_packet (received by) starts t host frame packet)
packet_gives slots n by starts t host frame (Damaged rule) gives = same_slots slots n host _ gives refl refl
packet_gives slots n by starts t host frame (Segment tuple seg) gives =
    arrived_gives slots n (is_known host tuple) by (next_start starts host tuple) t host frame tuple seg gives

-- ----- moves
move_gives : (slots n : ℕ) (starts : Starts) (t : ℕ) (host : Host) (m : Move) → MayMove host m → Gives slots n host
    → Gives slots n (moved starts t host m)
move_gives slots n starts t host (Calls k by call offer) may gives =
    same_slots slots n host _ gives refl
    (at_same k (λ (l : Live). with_call l by t call offer) (λ l. (refl, refl)) host.flows)
move_gives slots n starts t host (Opens slot tuple app) may gives = opens_lowest slots n host slot tuple _ _ _ gives may
move_gives slots n starts t host (Notes event) may gives = same_slots slots n host _ gives refl refl
move_gives slots n starts t host (Holds k holder) may gives =
    same_slots slots n host _ gives refl
    (at_same k (λ (l : Live). record l { holder = holder }) (λ l. (refl, refl)) host.flows)
move_gives slots n starts t host (Listens listeners) may gives = same_slots slots n host _ gives refl refl

-- ----- ticks
done_gives : {S A : Type 0} (slots n : ℕ) (scripts : Scripts S A) (t : ℕ) (site : Site S) (by : Caller)
    (action : Action A) → AreByMoves scripts → AreLegal site.host → Gives slots n site.host
    → Gives slots n (done_by scripts t site by action).host
done_gives slots n scripts t site by (Timer k) by_moves legal gives =
    same_slots slots n site.host _ gives refl (at_same k (timed by t) (timed_place by t) site.host.flows)
done_gives slots n scripts t site by (Frame x) by_moves legal gives =
    packet_gives slots n by scripts.starts t site.host x.frame x.packet gives
done_gives slots n scripts t site by (Ask a) by_moves legal gives =
    asked_keeps (Gives slots n) scripts t by_moves
    (λ host m each may g. move_gives slots n scripts.starts t host m may g) site a legal gives
done_gives slots n scripts t site by (Emission k) by_moves legal gives =
    same_slots slots n site.host _ gives refl (at_same k (emits by t) (emits_place by t) site.host.flows)

all_give : {S A : Type 0} (slots n : ℕ) (scripts : Scripts S A) (t : ℕ) (site : Site S) (order : List (Deed A))
    → AreByMoves scripts → AreLegal site.host → Gives slots n site.host
    → Gives slots n (fold (does scripts t) site order).host
all_give slots n scripts t site [] by_moves legal gives = gives
all_give slots n scripts t site (m ∷ order) by_moves legal gives =
    all_give slots n scripts t (does scripts t site m) order by_moves
    (done_kept scripts t site m.by m.action by_moves legal)
    (done_gives slots n scripts t site m.by m.action by_moves legal gives)

swept_many : (ls : List Live) → length (slots_of (map swept ls)) ≡ length ls
swept_many [] = refl
swept_many (l ∷ ls) = ap suc (swept_many ls)

none_opened : (slots n : ℕ) (xs : Taken) → n ≡ length xs → Opened slots n xs
none_opened slots n xs same =
    subst (GotLowest slots (take n xs)) (sym (nothing_left n xs same)) tt
  where
    nothing_left : (n : ℕ) (xs : Taken) → n ≡ length xs → drop n xs ≡ []
    nothing_left zero [] h = refl
    nothing_left zero (x ∷ xs) h = absurd (omega arith)
    nothing_left (suc n) [] h = refl
    nothing_left (suc n) (x ∷ xs) h = nothing_left n xs (omega arith)

pub round_lowest : {S A : Type 0} (scripts : Scripts S A) (t : ℕ) (due : Due A) (before after : Site S)
    → AreByMoves scripts → AreLegal before.host → Round scripts t due before after
    → OpenedInLowest before.host after.host
round_lowest {S} scripts t due before after by_moves legal round =
    let slots : ℕ = before.host.params.slots in
    let n : ℕ = length before.host.flows in
    let first : Host = all_swept before.host in
    let as_many : length (slots_of first.flows) ≡ n =
    swept_many before.host.flows in
    let start : Gives slots n first =
    record { slots = refl; few = omega arith; opened = none_opened slots n (slots_of first.flows) (sym as_many) } in
    let ended : Gives slots n after.host =
    subst (λ (s : Site S). Gives slots n s.host) round.made
    (all_give slots n scripts t (on_host all_swept before) round.order by_moves (all_swept_kept before.host legal)
    start) in
    ended.opened

-- ----- runs
pub ticks_lowest : (s : Scenario) (log : RunLog) (run : Run s log)
    → InEachTick s log run (λ x. OpenedInLowest x.before x.after)
ticks_lowest s log run =
    run_holds s log run (λ x. OpenedInLowest x.before x.after)
    (λ p t due b a round stands. round_lowest (scripts_of s p) t due b a (scenarios_by_moves s p) stands.right.legal
    round)
