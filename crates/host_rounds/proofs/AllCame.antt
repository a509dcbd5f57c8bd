-- What a host's histories and its log show of frames is what came, in every order of a tick: for the law
-- `only_what_came_is_shown`.
use Rattle.std.proofs.Common.{◌≡◌, ℕ, ◌&&◌, Bool, true, false, List, [], ◌∷◌, fold, Option, Some, None}
use Rattle.std.proofs.Common.{refl, sym, subst, true≢false, cond, filter, map, ◌++◌, ◌==◌, ◌+◌, arith, tests}
use Rattle.std.specs.Prelude.{⊤}
use Rattle.tas_model.specs.declared.entry.FourTuple.{FourTuple}
use Rattle.tas_model.specs.declared.entry.FrameId.{FrameId}
use Rattle.tas_model.specs.declared.entry.Seg.{Seg}
use Rattle.tas_model.specs.declared.entry.Entry.{Entry}
use Rattle.tas_model.specs.declared.entry.Caller.{Caller}
use Rattle.tas_model.specs.declared.entry.Caller.TheVariants.{Slow, Core, App}
use Rattle.tas_model.specs.declared.entry.Call.{Call}
use Rattle.tas_model.specs.declared.entry.Call.TheVariants as calls
use Rattle.tas_model.specs.NextSegment.{Going, going}
use Rattle.tas_model.proofs.Tests.{on_cond}
use Rattle.host_rounds.specs.declared.opening.Start.{Start}
use Rattle.host_rounds.specs.declared.log.LogEvent.{LogEvent}
use Rattle.host_rounds.specs.declared.log.LogEvent.TheVariants as events
use Rattle.host_rounds.specs.Lists.{Each, change_at, change_first}
use Rattle.host_rounds.specs.Hosts.{Live, Host, Starts, next_start, endpoint, is_over, with_call, logged}
use Rattle.host_rounds.specs.Hosts.{is_known, same_tuple, is_indexed_as, is_listening, is_full, lowest_free}
use Rattle.host_rounds.specs.Upkeep.{swept, all_swept, controlled, timed_unless, timed, emits_where, emits}
use Rattle.host_rounds.specs.Deliveries.{Packet, Damaged, Segment, received, opens, opened_by_syn, met_no_flow, arrived}
use Rattle.host_rounds.specs.Deliveries.{Arrival, same_frame, delivered_packet}
use Rattle.host_rounds.specs.Scripts.{Site, Scripts}
use Rattle.host_rounds.specs.Moves.{Move, Calls, Opens, Notes, Holds, Listens, moved, IsAppCall, IsCallLine}
use Rattle.host_rounds.specs.Moves.{MayMove, AreByMoves}
use Rattle.host_rounds.specs.Rounds.{timers_from, due_actions, OfFrame, is_by, actions_of}
use Rattle.host_rounds.specs.Rounds.{Action, Timer, Frame, Ask, Emission, Deed, done_by, does, on_host, Due, Round}
use Rattle.host_rounds.specs.Frames.{TakesFrame, TookFrames, ShowsFrame, LineShowsFrame, IsOfFrames}
use Rattle.host_rounds.proofs.Lists.{each_append}
use Rattle.host_rounds.proofs.Flows.{on_control}
use Rattle.host_rounds.proofs.AllLegal.{AreLegal, each_map, each_at, each_push, call_cases, asked_keeps}
use Rattle.host_rounds.proofs.AllLegal.{done_kept, all_swept_kept}

-- ----- names
and_both : (a b : Bool) → (a && b) ≡ true → (a ≡ true) × (b ≡ true)
and_both true b h = (refl, h)
and_both false b h = absurd (true≢false (sym h))

same_number : (n m : ℕ) → (n == m) ≡ true → n ≡ m
same_number n m h = grind (arith, tests, h)

made_same : (a b c d e f g h : ℕ) → a ≡ e → b ≡ f → c ≡ g → d ≡ h
    → ◌≡◌ {A = FourTuple} (record { laddr = a; lport = b; raddr = c; rport = d })
    (record { laddr = e; lport = f; raddr = g; rport = h })
made_same a b c d e f g h x y z w = cc (x, y, z, w)

same_is : (a b : FourTuple) → same_tuple a b ≡ true → a ≡ b
same_is a b h =
    let last = and_both (a.laddr == b.laddr && a.lport == b.lport && a.raddr == b.raddr) (a.rport == b.rport) h in
    let third = and_both (a.laddr == b.laddr && a.lport == b.lport) (a.raddr == b.raddr) last.0 in
    let front = and_both (a.laddr == b.laddr) (a.lport == b.lport) third.0 in
    let e1 : a.laddr ≡ b.laddr = same_number a.laddr b.laddr front.0 in
    let e2 : a.lport ≡ b.lport = same_number a.lport b.lport front.1 in
    let e3 : a.raddr ≡ b.raddr = same_number a.raddr b.raddr third.1 in
    let e4 : a.rport ≡ b.rport = same_number a.rport b.rport last.1 in
    made_same a.laddr a.lport a.raddr a.rport b.laddr b.lport b.raddr b.rport e1 e2 e3 e4

number_same : (n : ℕ) → (n == n) ≡ true
number_same n = grind (arith, tests)

frame_same : (a : FrameId) → same_frame a a ≡ true
frame_same a = rw (number_same a.host, number_same a.flow, number_same a.number, number_same a.copy) refl

-- ----- lists
each_filter : {X : Type 0} (P : X → Type 0) (test : X → Bool) (xs : List X) → Each P xs → Each P (filter test xs)
each_filter P test [] all = tt
each_filter {X} P test (x ∷ xs) all = by_test (test x) (each_filter P test xs all.1) where
  by_test : (b : Bool) → Each P (filter test xs) → Each P (cond b (x ∷ filter test xs) (filter test xs))
  by_test true rest = (all.0, rest)
  by_test false rest = rest

each_given : {X : Type 0} (P Q : X → Type 0) (xs : List X) → ((x : X) → P x → Q x) → Each P xs → Each Q xs
each_given P Q [] gives all = tt
each_given P Q (x ∷ xs) gives all = (gives x all.0, each_given P Q xs gives all.1)

-- what holds of all that pass a test holds of one that does
abbrev IsFound : {X : Type 0} → (P : X → Type 0) → List X → X → Type 0
IsFound {X} P xs x = (test : X → Bool) → test x ≡ true → Each P (filter test xs) → P x

all_found : {X : Type 0} (P : X → Type 0) (xs : List X) → Each (IsFound P xs) xs
all_found P [] = tt
all_found {X} P (x ∷ xs) = (
  λ test h all. first (test x) test h all,
  each_given (IsFound P xs) (IsFound P (x ∷ xs)) xs
      (λ y found test h all. found test h (rest (test x) test all)) (all_found P xs),
) where
  first : (b : Bool) (test : X → Bool) → b ≡ true → Each P (cond b (x ∷ filter test xs) (filter test xs)) → P x
  first true test h all = all.0
  first false test h all = absurd (true≢false (sym h))

  rest : (b : Bool) (test : X → Bool) → Each P (cond b (x ∷ filter test xs) (filter test xs)) → Each P (filter test xs)
  rest true test all = all.1
  rest false test all = all

-- a change of the first that passes a test, where it is known that it does
first_where : {X : Type 0} (P : X → Type 0) (test : X → Bool) (f : X → X) → ((x : X) → test x ≡ true → P x → P (f x))
    → (xs : List X) → Each P xs → Each P (change_first test f xs)
first_where P test f kept [] each = tt
first_where {X} P test f kept (x ∷ xs) each = by_test (test x) refl (first_where P test f kept xs each.1) where
  by_test : (b : Bool) → test x ≡ b → Each P (change_first test f xs)
      → Each P (elim b [ true ↦ f x ∷ xs | false ↦ x ∷ change_first test f xs ])
  by_test true h rest = (kept x h each.0, each.1)
  by_test false h rest = (each.0, rest)

-- ----- one flow
-- a flow keeps it by each call that takes no frame
abbrev Stays : (came : Arrival → Bool) → (Live → Live) → Type 0
Stays came f = (l : Live) → TookFrames came l → TookFrames came (f l)

call_stays : (came : Arrival → Bool) (by : Caller) (t : ℕ) (call : Call) (offer : List ℕ) (l : Live)
    → TakesFrame came l.flow.tuple call → TookFrames came l → TookFrames came (with_call l by t call offer)
call_stays came by t call offer l new all =
    each_push (λ (x : Entry). TakesFrame came l.flow.tuple x.call) l.flow.entries _ all new

controlled_stays : (came : Arrival → Bool) (by : Caller) (t : ℕ) → Stays came (controlled by t)
controlled_stays came by t l all =
    on_control (TookFrames came) _ by t l (λ h. call_stays came by t calls.Control [] l tt all) (λ h. all)

timed_stays : (came : Arrival → Bool) (by : Caller) (t : ℕ) → Stays came (timed by t)
timed_stays came by t l all = by_over (is_over l) where
  by_over : (b : Bool) → TookFrames came (timed_unless b by t l)
  by_over true = all
  by_over false =
      controlled_stays came by t (with_call l by t calls.Tick []) (call_stays came by t calls.Tick [] l tt all)

swept_stays : (came : Arrival → Bool) → Stays came swept
swept_stays came l all = on_cond (TookFrames came) (is_over l) _ _ (λ h. all) (λ h. all)

emits_stays : (came : Arrival → Bool) (by : Caller) (t : ℕ) → Stays came (emits by t)
emits_stays came by t l all = by_going (going (endpoint l)) where
  by_going : (o : Option Going) → TookFrames came (emits_where o by t l)
  by_going None = all
  by_going (Some g) = call_stays came by t calls.Emit [] l tt all

-- ----- hosts
line_came : (came : Arrival → Bool) (t : ℕ) (host : Host) (event : LogEvent) → ShowsFrame came event
    → IsOfFrames came host → IsOfFrames came (logged host t event)
line_came came t host event new is = record {
  flows = is.flows;
  lines = each_push (LineShowsFrame came) host.log _ is.lines new;
}

flows_came : (came : Arrival → Bool) (host : Host) (ls : List Live) → IsOfFrames came host
    → Each (TookFrames came) ls → IsOfFrames came (record host { flows = ls })
flows_came came host ls is all = record { flows = all; lines = is.lines }

at_came : (came : Arrival → Bool) (n : ℕ) (f : Live → Live) (host : Host) → Stays came f → IsOfFrames came host
    → IsOfFrames came (record host { flows = change_at n f host.flows })
at_came came n f host stays is = flows_came came host _ is (each_at (TookFrames came) n f stays host.flows is.flows)

-- ----- frames
-- the segment came in its frame
abbrev Comes : (came : Arrival → Bool) → FrameId → FourTuple → Seg → Type 0
Comes came frame tuple seg = came (record { frame = frame; packet = Segment tuple seg }) ≡ true

syn_came : (came : Arrival → Bool) (full : Bool) (free : Option ℕ) (start : Start) (t : ℕ) (host : Host)
    (frame : FrameId) (tuple : FourTuple) (seg : Seg) → Comes came frame tuple seg → IsOfFrames came host
    → IsOfFrames came (opened_by_syn full free start t host frame tuple seg)
syn_came came true free start t host frame tuple seg comes is = line_came came t host _ tt is
syn_came came false None start t host frame tuple seg comes is = line_came came t host _ tt is
syn_came came false (Some slot) start t host frame tuple seg comes is =
    flows_came came host _ is (each_push (TookFrames came) host.flows _ is.flows (comes, tt))

no_flow_came : (came : Arrival → Bool) (opening listening : Bool) (start : Start) (t : ℕ) (host : Host)
    (frame : FrameId) (tuple : FourTuple) (seg : Seg) → Comes came frame tuple seg → IsOfFrames came host
    → IsOfFrames came (met_no_flow opening listening start t host frame tuple seg)
no_flow_came came true listening start t host frame tuple seg comes is =
    syn_came came (is_full host tuple.lport) (lowest_free host) start t host frame tuple seg comes is
no_flow_came came false listening start t host frame tuple seg comes is = line_came came t host _ comes is

takes_stays : (came : Arrival → Bool) (by : Caller) (t : ℕ) (frame : FrameId) (tuple : FourTuple) (seg : Seg)
    → Comes came frame tuple seg → (l : Live) → is_indexed_as tuple l ≡ true → TookFrames came l
    → TookFrames came (received by t frame seg l)
takes_stays came by t frame tuple seg comes l known all =
    let same : tuple ≡ l.flow.tuple =
    same_is tuple l.flow.tuple (and_both l.indexed (same_tuple tuple l.flow.tuple) known).1 in
    call_stays came by t (calls.Rx frame seg) [] l
    (subst (λ (other : FourTuple). Comes came frame other seg) same comes) all

arrived_came : (came : Arrival → Bool) (known : Bool) (by : Caller) (start : Start) (t : ℕ) (host : Host)
    (frame : FrameId) (tuple : FourTuple) (seg : Seg) → Comes came frame tuple seg → IsOfFrames came host
    → IsOfFrames came (arrived known (received by t frame seg) start t host frame tuple seg)
arrived_came came true by start t host frame tuple seg comes is =
    flows_came came host _ is
    (first_where (TookFrames came) (is_indexed_as tuple) (received by t frame seg)
    (takes_stays came by t frame tuple seg comes) host.flows is.flows)
arrived_came came false by start t host frame tuple seg comes is =
    let listening : Bool = is_listening host tuple.lport in
    no_flow_came came (listening && opens seg) listening start t host frame tuple seg comes is

packet_came : (came : Arrival → Bool) (by : Caller) (starts : Starts) (t : ℕ) (host : Host) (frame : FrameId)
    (packet : Packet) → came (record { frame = frame; packet = packet }) ≡ true → IsOfFrames came host
    → IsOfFrames came (delivered_packet (received by) starts t host frame packet)
packet_came came by starts t host frame (Damaged rule) comes is = line_came came t host _ comes is
packet_came came by starts t host frame (Segment tuple seg) comes is =
    arrived_came came (is_known host tuple) by (next_start starts host tuple) t host frame tuple seg comes is

-- ----- moves
-- an application's call takes no frame
app_takes_not : (came : Arrival → Bool) (tuple : FourTuple) (by : Caller) (call : Call) → IsAppCall by call
    → TakesFrame came tuple call
app_takes_not came tuple (App k) (calls.Passive frame iss seg) app = absurd app
app_takes_not came tuple Slow (calls.Passive frame iss seg) app = absurd app
app_takes_not came tuple (Core k) (calls.Passive frame iss seg) app = absurd app
app_takes_not came tuple (App k) (calls.Rx frame seg) app = absurd app
app_takes_not came tuple Slow (calls.Rx frame seg) app = absurd app
app_takes_not came tuple (Core k) (calls.Rx frame seg) app = absurd app
app_takes_not came tuple by _ app = tt

-- a line of a call tells of no frame
note_came : (came : Arrival → Bool) (event : LogEvent) → IsCallLine event → ShowsFrame came event
note_came came (events.Stray frame tuple seg answer) may = absurd may
note_came came (events.Refused frame rule) may = absurd may
note_came came _ may = tt

move_came : (came : Arrival → Bool) (starts : Starts) (t : ℕ) (host : Host) (m : Move) → MayMove host m
    → IsOfFrames came host → IsOfFrames came (moved starts t host m)
move_came came starts t host (Calls n by call offer) may is =
    call_cases (IsOfFrames came) starts t host n by call offer may is
    (λ app. at_came came n (λ (l : Live). with_call l by t call offer) host
    (λ l all. call_stays came by t call offer l (app_takes_not came l.flow.tuple by call app) all) is)
move_came came starts t host (Opens slot tuple app) may is =
    flows_came came host _ is (each_push (TookFrames came) host.flows _ is.flows (tt, tt))
move_came came starts t host (Notes event) may is = line_came came t host event (note_came came event may) is
move_came came starts t host (Holds n holder) may is =
    at_came came n (λ (l : Live). record l { holder = holder }) host (λ l all. all) is
move_came came starts t host (Listens listeners) may is = record { flows = is.flows; lines = is.lines }

-- ----- ticks
-- the frame of an action came
abbrev Came : {A : Type 0} → (came : Arrival → Bool) → Action A → Type 0
Came came (Frame x) = came x ≡ true
Came came _ = ⊤

done_came : {S A : Type 0} (came : Arrival → Bool) (scripts : Scripts S A) (t : ℕ) (site : Site S) (by : Caller)
    (action : Action A) → Came came action → AreByMoves scripts → AreLegal site.host → IsOfFrames came site.host
    → IsOfFrames came (done_by scripts t site by action).host
done_came came scripts t site by (Timer n) comes by_moves legal is =
    at_came came n (timed by t) site.host (timed_stays came by t) is
done_came came scripts t site by (Frame x) comes by_moves legal is =
    packet_came came by scripts.starts t site.host x.frame x.packet comes is
done_came came scripts t site by (Ask a) comes by_moves legal is =
    asked_keeps (IsOfFrames came) scripts t by_moves
    (λ host m each may one. move_came came scripts.starts t host m may one) site a legal is
done_came came scripts t site by (Emission n) comes by_moves legal is =
    at_came came n (emits by t) site.host (emits_stays came by t) is

all_came : {S A : Type 0} (came : Arrival → Bool) (scripts : Scripts S A) (t : ℕ) (site : Site S)
    (order : List (Deed A)) → Each (Came came) (actions_of order) → AreByMoves scripts → AreLegal site.host
    → IsOfFrames came site.host → IsOfFrames came (fold (does scripts t) site order).host
all_came came scripts t site [] comes by_moves legal is = is
all_came came scripts t site (m ∷ order) comes by_moves legal is =
    all_came came scripts t (does scripts t site m) order comes.1 by_moves
    (done_kept scripts t site m.by m.action by_moves legal)
    (done_came came scripts t site m.by m.action comes.0 by_moves legal is)

-- ----- what is due
timers_come : (A : Type 0) (came : Arrival → Bool) (n : ℕ) (ls : List Live)
    → Each (Came {A = A} came) (timers_from n ls)
timers_come A came n [] = tt
timers_come A came n (l ∷ ls) = (tt, timers_come A came (n + 1) ls)

frames_come : (A : Type 0) (came : Arrival → Bool) (xs : List Arrival) → Each (λ (x : Arrival). came x ≡ true) xs
    → Each (Came {A = A} came) (map Frame xs)
frames_come A came [] all = tt
frames_come A came (x ∷ xs) all = (all.0, frames_come A came xs all.1)

asks_come : {A : Type 0} (came : Arrival → Bool) (xs : List A) → Each (Came {A = A} came) (map Ask xs)
asks_come came [] = tt
asks_come came (x ∷ xs) = (tt, asks_come came xs)

due_come : {A : Type 0} (came : Arrival → Bool) (ls : List Live) (due : Due A)
    → Each (λ (x : Arrival). came x ≡ true) due.frames → Each (Came came) (due_actions ls due)
due_come {A} came ls due all =
    each_append (Came came) (timers_from 0 ls) (map Frame due.frames ++ map Ask due.asks) (timers_come A came 0 ls)
    (each_append (Came came) (map Frame due.frames) (map Ask due.asks) (frames_come A came due.frames all)
    (asks_come came due.asks))

-- each action of the order is one that is due
order_comes : {S A : Type 0} (came : Arrival → Bool) (scripts : Scripts S A) (t : ℕ) (due : Due A)
    (before after : Site S) → Each (λ (x : Arrival). came x ≡ true) due.frames
    → (round : Round scripts t due before after) → Each (Came came) (actions_of round.order)
order_comes {S} {A} came scripts t due before after all round =
    each_given (IsFound (Came came) (actions_of round.order)) (Came came) (actions_of round.order) one
    (all_found (Came came) (actions_of round.order)) where
      one : (action : Action A) → IsFound (Came came) (actions_of round.order) action → Came came action
      one (Frame x) found =
          found (is_by scripts (OfFrame x.frame)) (frame_same x.frame)
          (subst (Each (Came came)) (sym (round.due_each (OfFrame x.frame)))
          (each_filter (Came came) (is_by scripts (OfFrame x.frame)) (due_actions before.host.flows due)
          (due_come came before.host.flows due all)))
      one (Timer n) found = tt
      one (Ask a) found = tt
      one (Emission n) found = tt

pub round_came : {S A : Type 0} (came : Arrival → Bool) (scripts : Scripts S A) (t : ℕ) (due : Due A)
    (before after : Site S) → AreByMoves scripts → AreLegal before.host → Round scripts t due before after
    → Each (λ (x : Arrival). came x ≡ true) due.frames → IsOfFrames came before.host → IsOfFrames came after.host
round_came {S} came scripts t due before after by_moves legal round all is =
    subst (λ (s : Site S). IsOfFrames came s.host) round.made
    (all_came came scripts t (on_host all_swept before) round.order
    (order_comes came scripts t due before after all round) by_moves (all_swept_kept before.host legal)
    (flows_came came before.host _ is
    (each_map (TookFrames came) swept (swept_stays came) before.host.flows is.flows)))
