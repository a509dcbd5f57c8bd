-- Each frame that comes has exactly one place.
use Rattle.std.proofs.Common.{◌≡◌, ℕ, ◌+◌, ◌&&◌, Bool, true, false, cond, List, [], ◌∷◌, ◌++◌, map, fold, filter}
use Rattle.std.proofs.Common.{Option, Some, None, refl, sym, ap, ◌∙◌, arith}
use Rattle.tas_model.specs.declared.entry.FourTuple.{FourTuple}
use Rattle.tas_model.specs.declared.entry.FrameId.{FrameId}
use Rattle.tas_model.specs.declared.entry.Seg.{Seg}
use Rattle.tas_model.specs.declared.entry.Caller.{Caller}
use Rattle.tas_model.specs.declared.entry.Call.TheVariants as calls
use Rattle.tas_model.specs.Segments.{one_if}
use Rattle.host_rounds.specs.declared.opening.Start.{Start}
use Rattle.host_rounds.specs.Lists.{change_first}
use Rattle.host_rounds.specs.Hosts.{Live, Host, Starts, next_start, with_call, is_known, is_indexed_as}
use Rattle.host_rounds.specs.Hosts.{is_listening, is_full, lowest_free}
use Rattle.host_rounds.specs.Upkeep.{swept, all_swept, timed, emits}
use Rattle.host_rounds.specs.Deliveries.{Packet, Damaged, Segment, Arrival, same_frame, received, opens, opened_by_syn}
use Rattle.host_rounds.specs.Deliveries.{met_no_flow, arrived, delivered_packet}
use Rattle.host_rounds.specs.Scripts.{Site, Scripts}
use Rattle.host_rounds.specs.Moves.{Move, Calls, Opens, Notes, Holds, Listens, moved, MayMove, AreByMoves}
use Rattle.host_rounds.specs.Rounds.{Action, Timer, Frame, Ask, Emission, Deed, done_by, does, on_host, Due}
use Rattle.host_rounds.specs.Rounds.{timers_from, due_actions, OfFrame, is_by, actions_of, Round}
use Rattle.host_rounds.specs.Places.{uses_in, uses_live, uses, coming}
use Rattle.host_rounds.proofs.AllLegal.{AreLegal, asked_keeps, call_cases, done_kept, all_swept_kept}
use Rattle.host_rounds.proofs.AppCalls.{app_takes_none, line_takes_none}
use Rattle.host_rounds.proofs.Uses.{flows_push, line_adds, first_adds, map_same, flow_adds, call_adds, same_plus}
use Rattle.host_rounds.proofs.Uses.{swept_adds, timed_adds, emits_adds}

-- ----- frames
syn_adds : (f : FrameId) (full : Bool) (free : Option ℕ) (start : Start) (t : ℕ) (host : Host) (frame : FrameId)
    (tuple : FourTuple) (seg : Seg)
    → uses f (opened_by_syn full free start t host frame tuple seg) ≡ uses f host + one_if (same_frame f frame)
syn_adds f true free start t host frame tuple seg = line_adds f host t _
syn_adds f false None start t host frame tuple seg = line_adds f host t _
syn_adds f false (Some slot) start t host frame tuple seg =
    let one : uses_live f (opened_by_syn false (Some slot) start t host frame tuple seg).flows
    ≡ uses_live f host.flows + (one_if (same_frame f frame) + 0) =
    flows_push f host.flows _ in
    omega arith

no_flow_adds : (f : FrameId) (opening listening : Bool) (start : Start) (t : ℕ) (host : Host) (frame : FrameId)
    (tuple : FourTuple) (seg : Seg)
    → uses f (met_no_flow opening listening start t host frame tuple seg) ≡ uses f host + one_if (same_frame f frame)
no_flow_adds f true listening start t host frame tuple seg =
    syn_adds f (is_full host tuple.lport) (lowest_free host) start t host frame tuple seg
no_flow_adds f false listening start t host frame tuple seg = line_adds f host t _

arrived_adds : (f : FrameId) (known : Bool) (by : Caller) (start : Start) (t : ℕ) (host : Host) (frame : FrameId)
    (tuple : FourTuple) (seg : Seg)
    → is_known host tuple ≡ known
    → uses f (arrived known (received by t frame seg) start t host frame tuple seg)
    ≡ uses f host + one_if (same_frame f frame)
arrived_adds f true by start t host frame tuple seg known =
    let one : uses_live f (change_first (is_indexed_as tuple) (received by t frame seg) host.flows)
    ≡ uses_live f host.flows + one_if (same_frame f frame) =
    first_adds f (one_if (same_frame f frame)) (is_indexed_as tuple) (received by t frame seg)
    (λ l. call_adds f by t (calls.Rx frame seg) [] l) host.flows known in
    omega arith
arrived_adds f false by start t host frame tuple seg known =
    no_flow_adds f (is_listening host tuple.lport && opens seg)
    (is_listening host tuple.lport) start t host frame tuple seg

packet_adds : (f : FrameId) (by : Caller) (starts : Starts) (t : ℕ) (host : Host) (frame : FrameId) (packet : Packet)
    → uses f (delivered_packet (received by) starts t host frame packet) ≡ uses f host + one_if (same_frame f frame)
packet_adds f by starts t host frame (Damaged rule) = line_adds f host t _
packet_adds f by starts t host frame (Segment tuple seg) =
    arrived_adds f (is_known host tuple) by (next_start starts host tuple) t host frame tuple seg refl

-- ----- moves
move_adds : (f : FrameId) (starts : Starts) (t : ℕ) (host : Host) (m : Move) → MayMove host m
    → uses f (moved starts t host m) ≡ uses f host + 0
move_adds f starts t host (Calls n by call offer) may =
    call_cases (λ (h : Host). uses f h ≡ uses f host + 0) starts t host n by call offer may (same_plus _)
    (λ app. flow_adds f n host (λ (l : Live). with_call l by t call offer)
    (λ l. call_adds f by t call offer l
    ∙ ap (λ (b : Bool). uses_in f l.flow.entries + one_if b) (app_takes_none f by call app)))
move_adds f starts t host (Opens slot tuple app) may =
    let one : uses_live f (moved starts t host (Opens slot tuple app)).flows ≡ uses_live f host.flows + 0 =
    flows_push f host.flows _ in
    omega arith
move_adds f starts t host (Notes event) may =
    line_adds f host t event ∙ ap (λ (b : Bool). uses f host + one_if b) (line_takes_none f event may)
move_adds f starts t host (Holds n holder) may =
    flow_adds f n host (λ (l : Live). record l { holder = holder }) (λ l. same_plus _)
move_adds f starts t host (Listens listeners) may = same_plus _

asked_adds : {S A : Type 0} (f : FrameId) (scripts : Scripts S A) (t : ℕ) (site : Site S) (a : A) → AreByMoves scripts
    → AreLegal site.host
    → uses f (scripts.asked t site a).host ≡ uses f site.host + 0
asked_adds f scripts t site a by_moves legal =
    asked_keeps (λ (h : Host). uses f h ≡ uses f site.host + 0) scripts t by_moves
    (λ host m each may same. move_adds f scripts.starts t host m may
    ∙ (sym (same_plus _) ∙ same)) site a legal (same_plus _)

-- ----- actions
abbrev adds : {A : Type 0} → FrameId → Action A → ℕ
adds f (Frame x) = one_if (same_frame f x.frame)
adds f _ = 0

done_adds : {S A : Type 0} (f : FrameId) (scripts : Scripts S A) (t : ℕ) (site : Site S) (by : Caller)
    (action : Action A) → AreByMoves scripts
    → AreLegal site.host → uses f (done_by scripts t site by action).host ≡ uses f site.host + adds f action
done_adds f scripts t site by (Timer i) by_moves legal = flow_adds f i site.host (timed by t) (timed_adds f by t)
done_adds f scripts t site by (Frame x) by_moves legal = packet_adds f by scripts.starts t site.host x.frame x.packet
done_adds f scripts t site by (Ask a) by_moves legal = asked_adds f scripts t site a by_moves legal
done_adds f scripts t site by (Emission i) by_moves legal = flow_adds f i site.host (emits by t) (emits_adds f by t)

abbrev added : {A : Type 0} → FrameId → List (Action A) → ℕ
added f [] = 0
added f (a ∷ rest) = adds f a + added f rest

fold_adds : {S A : Type 0} (f : FrameId) (scripts : Scripts S A) (t : ℕ) (site : Site S) (order : List (Deed A))
    → AreByMoves scripts
    → AreLegal site.host → uses f (fold (does scripts t) site order).host
    ≡ uses f site.host + added f (actions_of order)
fold_adds f scripts t site [] by_moves legal = same_plus _
fold_adds {S} f scripts t site (m ∷ order) by_moves legal =
    let next : Site S = does scripts t site m in
    let one : uses f next.host ≡ uses f site.host + adds f m.action =
    done_adds f scripts t site m.by m.action by_moves legal in
    let rest : uses f (fold (does scripts t) next order).host ≡ uses f next.host + added f (actions_of order) =
    fold_adds f scripts t next order by_moves (done_kept scripts t site m.by m.action by_moves legal) in
    omega arith

-- ----- what is due
others_add : {S A : Type 0} (f : FrameId) (scripts : Scripts S A) (a : Action A) → is_by scripts (OfFrame f) a ≡ false
    → adds f a ≡ 0
others_add f scripts (Timer i) h = refl
others_add f scripts (Frame x) h = ap one_if h
others_add f scripts (Ask a) h = refl
others_add f scripts (Emission i) h = refl

filtered_add : {S A : Type 0} (f : FrameId) (scripts : Scripts S A) (xs : List (Action A))
    → added f (filter (is_by scripts (OfFrame f)) xs) ≡ added f xs
filtered_add f scripts [] = refl
filtered_add f scripts (a ∷ xs) = by_test (is_by scripts (OfFrame f) a) refl (filtered_add f scripts xs) where
  by_test : (b : Bool) → is_by scripts (OfFrame f) a ≡ b → added f (filter (is_by scripts (OfFrame f)) xs) ≡ added f xs
      → added f (cond b (a ∷ filter (is_by scripts (OfFrame f)) xs) (filter (is_by scripts (OfFrame f)) xs))
      ≡ adds f a + added f xs
  by_test true h rest = omega arith
  by_test false h rest = let none : adds f a ≡ 0 = others_add f scripts a h in omega arith

added_append : {A : Type 0} (f : FrameId) (xs ys : List (Action A)) → added f (xs ++ ys) ≡ added f xs + added f ys
added_append f [] ys = omega arith
added_append f (x ∷ xs) ys = let rest : added f (xs ++ ys) ≡ added f xs + added f ys = added_append f xs ys in
    omega arith

timers_add : (A : Type 0) (f : FrameId) (i : ℕ) (ls : List Live) → added f (timers_from {A = A} i ls) ≡ 0
timers_add A f i [] = refl
timers_add A f i (l ∷ ls) = let rest : added f (timers_from {A = A} (i + 1) ls) ≡ 0 = timers_add A f (i + 1) ls in
    omega arith

asks_add : {A : Type 0} (f : FrameId) (asks : List A) → added f (map Ask asks) ≡ 0
asks_add f [] = refl
asks_add f (a ∷ asks) = let rest : added f (map Ask asks) ≡ 0 = asks_add f asks in omega arith

frames_add : (A : Type 0) (f : FrameId) (frames : List Arrival) → added {A = A} f (map Frame frames) ≡ coming f frames
frames_add A f [] = refl
frames_add A f (x ∷ xs) = let rest : added {A = A} f (map Frame xs) ≡ coming f xs = frames_add A f xs in omega arith

due_add : {A : Type 0} (f : FrameId) (ls : List Live) (due : Due A) → added f (due_actions ls due) ≡ coming f due.frames
due_add {A} f ls due =
    let timers : List (Action A) = timers_from 0 ls in
    let frames : List (Action A) = map Frame due.frames in
    let asks : List (Action A) = map Ask due.asks in
    let a : added f (timers ++ (frames ++ asks)) ≡ added f timers + added f (frames ++ asks) =
    added_append f timers (frames ++ asks) in
    let b : added f (frames ++ asks) ≡ added f frames + added f asks = added_append f frames asks in
    let c : added f timers ≡ 0 = timers_add A f 0 ls in
    let d : added f frames ≡ coming f due.frames = frames_add A f due.frames in
    let e : added f asks ≡ 0 = asks_add f due.asks in
    omega arith

-- In a tick each frame that comes gets one place more, and no other frame does.
pub round_adds : {S A : Type 0} (scripts : Scripts S A) (t : ℕ) (due : Due A) (before after : Site S) (f : FrameId)
    → AreByMoves scripts
    → Round scripts t due before after → AreLegal before.host
    → uses f after.host ≡ uses f before.host + coming f due.frames
round_adds {S} {A} scripts t due before after f by_moves round legal =
    let start : Site S = on_host all_swept before in
    let end : Site S = fold (does scripts t) start round.order in
    let swept_all : uses_live f (map swept before.host.flows) ≡ uses_live f before.host.flows =
    map_same f swept (swept_adds f) before.host.flows in
    let made : uses f end.host ≡ uses f start.host + added f (actions_of round.order) =
    fold_adds f scripts t start round.order by_moves (all_swept_kept before.host legal) in
    let all : added f (actions_of round.order) ≡ added f (due_actions before.host.flows due) =
    sym (filtered_add f scripts (actions_of round.order)) ∙ ap (added f) (round.due_each (OfFrame f))
    ∙ filtered_add f scripts (due_actions before.host.flows due) in
    let frames_add : added f (due_actions before.host.flows due) ≡ coming f due.frames =
    due_add f before.host.flows due in
    sym (ap (λ (s : Site S). uses f s.host) round.made) ∙ made ∙ (omega arith)
