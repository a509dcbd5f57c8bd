-- In a tick each open flow has one Tick.
use Rattle.std.proofs.Common.{◌≡◌, ℕ, suc, ◌+◌, ◌≤◌, ◌<◌, ◌==◌, ◌&&◌, Bool, true, false, cond, List, [], ◌∷◌, ◌++◌}
use Rattle.std.proofs.Common.{length, map, fold, filter, Option, Some, None, refl, sym, subst, ap, ◌∙◌, arith, tests}
use Rattle.tas_model.specs.declared.entry.FourTuple.{FourTuple}
use Rattle.tas_model.specs.declared.entry.FrameId.{FrameId}
use Rattle.tas_model.specs.declared.entry.Seg.{Seg}
use Rattle.tas_model.specs.declared.entry.Caller.{Caller}
use Rattle.tas_model.specs.declared.entry.Call.TheVariants as calls
use Rattle.tas_model.specs.Segments.{one_if}
use Rattle.host_rounds.specs.declared.opening.Start.{Start}
use Rattle.host_rounds.specs.Lists.{Each}
use Rattle.host_rounds.specs.Hosts.{Live, Host, Starts, next_start, with_call, is_known, is_indexed_as}
use Rattle.host_rounds.specs.Hosts.{is_listening, is_full, lowest_free}
use Rattle.host_rounds.specs.Upkeep.{swept, all_swept, timed, emits}
use Rattle.host_rounds.specs.Deliveries.{Packet, Damaged, Segment, received, opens, opened_by_syn, met_no_flow, arrived}
use Rattle.host_rounds.specs.Deliveries.{delivered_packet}
use Rattle.host_rounds.specs.Scripts.{Site, Scripts}
use Rattle.host_rounds.specs.Moves.{Move, Calls, Opens, Notes, Holds, Listens, moved, MayMove, AreByMoves}
use Rattle.host_rounds.specs.Rounds.{Action, Timer, Frame, Ask, Emission, Deed, done_by, does, on_host, Due}
use Rattle.host_rounds.specs.Rounds.{timers_from, due_actions, OfFlow, is_by, actions_of, Round}
use Rattle.host_rounds.specs.Passing.{ticks_of, AreTimed}
use Rattle.host_rounds.proofs.AllLegal.{AreLegal, asked_keeps, call_cases, done_kept, all_swept_kept}
use Rattle.host_rounds.proofs.AppCalls.{app_ticks_not}
use Rattle.host_rounds.proofs.Advances.{Advances, call_advances, timed_advances, swept_advances, emits_advances}
use Rattle.host_rounds.proofs.Advances.{holder_advances, AllAdvance, none, sum_of, all_stay, all_both, map_advances}
use Rattle.host_rounds.proofs.Advances.{first_advances, at_advances, timer_advances, push_advances}

-- ----- frames
syn_advances : (full : Bool) (free : Option ℕ) (start : Start) (t : ℕ) (host : Host) (frame : FrameId)
    (tuple : FourTuple) (seg : Seg)
    → AllAdvance none host.flows (opened_by_syn full free start t host frame tuple seg).flows
syn_advances true free start t host frame tuple seg = all_stay host.flows
syn_advances false None start t host frame tuple seg = all_stay host.flows
syn_advances false (Some slot) start t host frame tuple seg = push_advances host.flows _ refl

no_flow_advances : (opening listening : Bool) (start : Start) (t : ℕ) (host : Host) (frame : FrameId)
    (tuple : FourTuple) (seg : Seg)
    → AllAdvance none host.flows (met_no_flow opening listening start t host frame tuple seg).flows
no_flow_advances true listening start t host frame tuple seg =
    syn_advances (is_full host tuple.lport) (lowest_free host) start t host frame tuple seg
no_flow_advances false listening start t host frame tuple seg = all_stay host.flows

arrived_advances : (known : Bool) (by : Caller) (start : Start) (t : ℕ) (host : Host) (frame : FrameId)
    (tuple : FourTuple) (seg : Seg) → AreLegal host
    → AllAdvance none host.flows (arrived known (received by t frame seg) start t host frame tuple seg).flows
arrived_advances true by start t host frame tuple seg legal =
    first_advances (is_indexed_as tuple) (received by t frame seg)
    (λ l one. call_advances by t (calls.Rx frame seg) [] l one refl) host.flows legal
arrived_advances false by start t host frame tuple seg legal =
    no_flow_advances (is_listening host tuple.lport && opens seg)
    (is_listening host tuple.lport) start t host frame tuple seg

packet_advances : (by : Caller) (starts : Starts) (t : ℕ) (host : Host) (frame : FrameId) (packet : Packet)
    → AreLegal host
    → AllAdvance none host.flows (delivered_packet (received by) starts t host frame packet).flows
packet_advances by starts t host frame (Damaged rule) legal = all_stay host.flows
packet_advances by starts t host frame (Segment tuple seg) legal =
    arrived_advances (is_known host tuple) by (next_start starts host tuple) t host frame tuple seg legal

-- ----- moves
abbrev Stay : Host → Host → Type 0
Stay before after = AllAdvance none before.flows after.flows

move_advances : (starts : Starts) (t : ℕ) (host : Host) (m : Move) → AreLegal host → MayMove host m
    → Stay host (moved starts t host m)
move_advances starts t host (Calls n by call offer) legal may =
    call_cases (Stay host) starts t host n by call offer may (all_stay host.flows)
    (λ app. at_advances n (λ (l : Live). with_call l by t call offer)
    (λ l one. call_advances by t call offer l one (app_ticks_not by call app)) host.flows legal)
move_advances starts t host (Opens slot tuple app) legal may = push_advances host.flows _ refl
move_advances starts t host (Notes event) legal may = all_stay host.flows
move_advances starts t host (Holds n holder) legal may =
    at_advances n (λ (l : Live). record l { holder = holder }) (λ l one. holder_advances l holder) host.flows legal
move_advances starts t host (Listens listeners) legal may = all_stay host.flows

asked_advances : {S A : Type 0} (scripts : Scripts S A) (t : ℕ) (site : Site S) (a : A) → AreByMoves scripts
    → AreLegal site.host
    → Stay site.host (scripts.asked t site a).host
asked_advances scripts t site a by_moves legal =
    asked_keeps (Stay site.host) scripts t by_moves
    (λ host m each may so_far. all_both none none site.host.flows host.flows
    (moved scripts.starts t host m).flows so_far
    (move_advances scripts.starts t host m each may))
    site a legal (all_stay site.host.flows)

-- ----- actions
-- the turns of each flow's timer
abbrev turn_in : {S A : Type 0} → Scripts S A → Action A → ℕ → ℕ
turn_in scripts a n = one_if (is_by scripts (OfFlow n) a)

abbrev turns_in : {S A : Type 0} → Scripts S A → List (Action A) → ℕ → ℕ
turns_in scripts [] n = 0
turns_in scripts (a ∷ rest) n = turn_in scripts a n + turns_in scripts rest n

done_advances : {S A : Type 0} (scripts : Scripts S A) (t : ℕ) (site : Site S) (by : Caller) (action : Action A)
    → AreByMoves scripts
    → AreLegal site.host
    → AllAdvance (turn_in scripts action) site.host.flows (done_by scripts t site by action).host.flows
done_advances scripts t site by (Timer n) by_moves legal =
    timer_advances n (timed by t) (timed_advances by t) (turn_in scripts (Timer n)) (λ i. refl) site.host.flows legal
done_advances scripts t site by (Frame x) by_moves legal =
    packet_advances by scripts.starts t site.host x.frame x.packet legal
done_advances scripts t site by (Ask a) by_moves legal = asked_advances scripts t site a by_moves legal
done_advances scripts t site by (Emission n) by_moves legal =
    at_advances n (emits by t) (emits_advances by t) site.host.flows legal

all_advance : {S A : Type 0} (scripts : Scripts S A) (t : ℕ) (site : Site S) (order : List (Deed A))
    → AreByMoves scripts → AreLegal site.host
    → AllAdvance (turns_in scripts (actions_of order)) site.host.flows (fold (does scripts t) site order).host.flows
all_advance scripts t site [] by_moves legal = all_stay site.host.flows
all_advance {S} scripts t site (m ∷ order) by_moves legal =
    let next : Site S = does scripts t site m in
    all_both (turn_in scripts m.action) (turns_in scripts (actions_of order)) site.host.flows next.host.flows
    (fold (does scripts t) next order).host.flows
    (done_advances scripts t site m.by m.action by_moves legal)
    (all_advance scripts t next order by_moves (done_kept scripts t site m.by m.action by_moves legal))

-- ----- what is due
turns_filter : {S A : Type 0} (scripts : Scripts S A) (n : ℕ) (xs : List (Action A))
    → turns_in scripts (filter (is_by scripts (OfFlow n)) xs) n ≡ turns_in scripts xs n
turns_filter scripts n [] = refl
turns_filter scripts n (a ∷ xs) = by_test (is_by scripts (OfFlow n) a) refl (turns_filter scripts n xs) where
  by_test : (b : Bool) → is_by scripts (OfFlow n) a ≡ b
      → turns_in scripts (filter (is_by scripts (OfFlow n)) xs) n ≡ turns_in scripts xs n
      → turns_in scripts (cond b (a ∷ filter (is_by scripts (OfFlow n)) xs) (filter (is_by scripts (OfFlow n)) xs)) n
      ≡ turn_in scripts a n + turns_in scripts xs n
  by_test true h rest = omega arith
  by_test false h rest = let none_here : turn_in scripts a n ≡ 0 = ap one_if h in omega arith

turns_append : {S A : Type 0} (scripts : Scripts S A) (n : ℕ) (xs ys : List (Action A))
    → turns_in scripts (xs ++ ys) n ≡ turns_in scripts xs n + turns_in scripts ys n
turns_append scripts n [] ys = omega arith
turns_append scripts n (x ∷ xs) ys =
    let rest : turns_in scripts (xs ++ ys) n ≡ turns_in scripts xs n + turns_in scripts ys n =
    turns_append scripts n xs ys in
    omega arith

-- frames and asks are no timers
others_turn : {S A X : Type 0} (scripts : Scripts S A) (f : X → Action A)
    → ((n : ℕ) (x : X) → turn_in scripts (f x) n ≡ 0) → (n : ℕ) (xs : List X)
    → turns_in scripts (map f xs) n ≡ 0
others_turn scripts f none_each n [] = refl
others_turn scripts f none_each n (x ∷ xs) =
    let here : turn_in scripts (f x) n ≡ 0 = none_each n x in
    let rest : turns_in scripts (map f xs) n ≡ 0 = others_turn scripts f none_each n xs in
    omega arith

timers_before : {S A : Type 0} (scripts : Scripts S A) (n i : ℕ) (ls : List Live) → n < i
    → turns_in scripts (timers_from i ls) n ≡ 0
timers_before scripts n i [] h = refl
timers_before scripts n i (l ∷ ls) h =
    let rest : turns_in scripts (timers_from (i + 1) ls) n ≡ 0 = timers_before scripts n (i + 1) ls (omega arith) in
    let none_here : one_if (n == i) ≡ 0 = grind (arith, tests, h) in
    omega arith

timers_past : {S A : Type 0} (scripts : Scripts S A) (n i : ℕ) (ls : List Live) → i + length ls ≤ n
    → turns_in scripts (timers_from i ls) n ≡ 0
timers_past scripts n i [] h = refl
timers_past scripts n i (l ∷ ls) h =
    let rest : turns_in scripts (timers_from (i + 1) ls) n ≡ 0 = timers_past scripts n (i + 1) ls (omega arith) in
    let higher : i < n = omega arith in
    let none_here : one_if (n == i) ≡ 0 = grind (arith, tests, higher) in
    omega arith

timers_among : {S A : Type 0} (scripts : Scripts S A) (n i : ℕ) (ls : List Live) → i ≤ n → n < i + length ls
    → turns_in scripts (timers_from i ls) n ≡ 1
timers_among scripts n i [] h g = absurd (omega arith)
timers_among scripts n i (l ∷ ls) h g =
    by_here (n == i) refl (λ lower. timers_among scripts n (i + 1) ls lower (omega arith)) where
      by_here : (b : Bool) → (n == i) ≡ b → (i + 1 ≤ n → turns_in scripts (timers_from (i + 1) ls) n ≡ 1)
          → one_if b + turns_in scripts (timers_from (i + 1) ls) n ≡ 1
      by_here true e among =
          let same : n ≡ i = grind (arith, tests, e) in
          let rest : turns_in scripts (timers_from (i + 1) ls) n ≡ 0 =
          timers_before scripts n (i + 1) ls (omega arith) in
          omega arith
      by_here false e among =
          let other : i < n = grind (arith, tests, e, h) in
          let rest : turns_in scripts (timers_from (i + 1) ls) n ≡ 1 = among (omega arith) in
          omega arith

due_turns : {S A : Type 0} (scripts : Scripts S A) (n : ℕ) (ls : List Live) (due : Due A)
    → turns_in scripts (due_actions ls due) n ≡ turns_in scripts (timers_from 0 ls) n
due_turns {S} {A} scripts n ls due =
    let timers : List (Action A) = timers_from 0 ls in
    let frames : List (Action A) = map Frame due.frames in
    let asks : List (Action A) = map Ask due.asks in
    let a : turns_in scripts (timers ++ (frames ++ asks)) n ≡ turns_in scripts timers n + turns_in scripts (frames
    ++ asks) n =
    turns_append scripts n timers (frames ++ asks) in
    let b : turns_in scripts (frames ++ asks) n ≡ turns_in scripts frames n + turns_in scripts asks n =
    turns_append scripts n frames asks in
    let c : turns_in scripts frames n ≡ 0 = others_turn scripts Frame (λ n x. refl) n due.frames in
    let d : turns_in scripts asks n ≡ 0 = others_turn scripts Ask (λ n x. refl) n due.asks in
    omega arith

-- ----- the tick
fresh_timed : (turns : ℕ → ℕ) (ms : List Live) → ((n : ℕ) → turns n ≡ 0) → AllAdvance turns [] ms
    → Each (λ (l : Live). ticks_of l ≡ 0) ms
fresh_timed turns [] zeros all = tt
fresh_timed turns (m ∷ ms) zeros all =
    let x : ticks_of m ≤ turns 0 = all.0 in
    let y : turns 0 ≡ 0 = zeros 0 in
    (omega arith, fresh_timed (λ n. turns (suc n)) ms (λ n. zeros (suc n)) all.1)

flows_timed : (turns : ℕ → ℕ) (ls ms : List Live) → ((n : ℕ) → n < length ls → turns n ≡ 1)
    → ((n : ℕ) → length ls ≤ n → turns n ≡ 0)
    → AllAdvance turns ls ms → AreTimed ls ms
flows_timed turns [] ms ones zeros all = fresh_timed turns ms (λ n. zeros n (omega arith)) all
flows_timed turns (l ∷ ls) [] ones zeros all = absurd all
flows_timed turns (l ∷ ls) (m ∷ ms) ones zeros all =
    let a : Advances 1 l m = subst (λ (k : ℕ). Advances k l m) (ones 0 (omega arith)) all.0 in (
      record { one = a.one; most = a.most; over = λ h. (a.over h).1 },
      flows_timed (λ n. turns (suc n)) ls ms (λ n h. ones (suc n) (omega arith))
          (λ n h. zeros (suc n) (omega arith)) all.1,
    )

-- In a tick each flow that was opened before has one Tick, unless it was closed; and no other flow has one.
pub round_timed : {S A : Type 0} (scripts : Scripts S A) (t : ℕ) (due : Due A) (before after : Site S)
    → AreByMoves scripts → AreLegal before.host
    → Round scripts t due before after → AreTimed before.host.flows after.host.flows
round_timed {S} {A} scripts t due before after by_moves legal round =
    let start : Site S = on_host all_swept before in
    let end : Site S = fold (does scripts t) start round.order in
    let turns : ℕ → ℕ = turns_in scripts (actions_of round.order) in
    let made : AllAdvance turns (map swept before.host.flows) end.host.flows =
    all_advance scripts t start round.order by_moves (all_swept_kept before.host legal) in
    let whole : AllAdvance (sum_of none turns) before.host.flows end.host.flows =
    all_both none turns before.host.flows (map swept before.host.flows) end.host.flows
    (map_advances swept swept_advances before.host.flows) made in
    subst (λ (s : Site S). AreTimed before.host.flows s.host.flows) round.made
    (flows_timed (sum_of none turns) before.host.flows end.host.flows
    (λ n h. turns_are n ∙ timers_among scripts n 0 before.host.flows (omega arith) (omega arith))
    (λ n h. turns_are n ∙ timers_past scripts n 0 before.host.flows (omega arith))
    whole)
  where
    turns_are : (n : ℕ) → 0 + turns_in scripts (actions_of round.order) n
        ≡ turns_in scripts (timers_from 0 before.host.flows) n
    turns_are n =
        let same : turns_in scripts (actions_of round.order) n
        ≡ turns_in scripts (due_actions before.host.flows due) n =
        sym (turns_filter scripts n (actions_of round.order))
        ∙ ap (λ (xs : List (Action A)). turns_in scripts xs n) (round.due_each (OfFlow n))
        ∙ turns_filter scripts n (due_actions before.host.flows due) in
        let all : turns_in scripts (due_actions before.host.flows due) n
        ≡ turns_in scripts (timers_from 0 before.host.flows) n =
        due_turns scripts n before.host.flows due in
        omega arith
