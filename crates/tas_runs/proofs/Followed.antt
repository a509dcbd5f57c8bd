-- What a tick asks of each flow of a replay: which stages, in which order.
use Rattle.std.proofs.Common.{◌≡◌, ℕ, zero, suc, ◌≤◌, ◌<◌, ◌==◌, ◌&&◌, ◌||◌, not, Bool, true, false, cond, List, []}
use Rattle.std.proofs.Common.{◌∷◌, ◌++◌, map, fold, slice_get, get_or, position, Option, Some, None, IfSome, refl, sym}
use Rattle.std.proofs.Common.{subst, ap, ◌∙◌, true≢false, arith, tests, append_assoc, append-nil, if◌then◌else◌}
use Rattle.std.proofs.lemmas.Grind.{flat_map-append}
use Rattle.std.proofs.lemmas.List.{map-append}
use Rattle.std.proofs.lemmas.List.Quantifiers.{position-Some}
use Rattle.std.proofs.lemmas.Option.{get_or_from_slice_get}
use Rattle.tas_model.specs.declared.entry.FourTuple.{FourTuple}
use Rattle.tas_model.specs.declared.entry.FrameId.{FrameId}
use Rattle.tas_model.specs.declared.entry.Seg.{Seg}
use Rattle.tas_model.specs.declared.entry.Entry.{Entry}
use Rattle.tas_model.specs.declared.entry.Caller.{Caller}
use Rattle.tas_model.specs.declared.entry.Caller.TheVariants.{Slow, Core, App}
use Rattle.tas_model.specs.declared.entry.Call.{Call}
use Rattle.tas_model.specs.declared.entry.Call.TheVariants as calls
use Rattle.tas_model.specs.NextSegment.{Going, going}
use Rattle.host_rounds.specs.declared.opening.Start.{Start}
use Rattle.host_rounds.specs.Logs.{Flow}
use Rattle.host_rounds.specs.Lists.{Each, change_first, change_at}
use Rattle.host_rounds.specs.Hosts.{Live, Host, GivenUp, Starts, next_start, endpoint, is_over, is_running, is_held}
use Rattle.host_rounds.specs.Hosts.{with_call, is_known, is_indexed_as, is_listening, is_full, lowest_free, same_tuple}
use Rattle.host_rounds.specs.Upkeep.{swept, is_control_tick, controlled, controlled_where, timed, timed_unless, emits}
use Rattle.host_rounds.specs.Upkeep.{emits_where}
use Rattle.host_rounds.specs.Deliveries.{Packet, received, opened_by_syn, met_no_flow, arrived, delivered_packet, opens}
use Rattle.host_rounds.specs.Deliveries.{Damaged as damaged, Segment as segment}
use Rattle.host_rounds.specs.Scripts.{Site}
use Rattle.host_rounds.specs.Rounds.{Action, Timer, Frame, Ask, Emission, Deed, IsWorker, done_by, does, actions_of}
use Rattle.host_rounds.specs.Rounds.{on_host}
use Rattle.tas_runs.specs.Records.{Content, Damaged, Remote, Local, Item}
use Rattle.tas_runs.specs.Batches.{tuple_of, is_of}
use Rattle.tas_runs.specs.Starts.{first_start}
use Rattle.tas_runs.specs.LocalScript.{Stage, Beginning, Accepting, Sending, Shutting, Aborting, Receiving, Leaving}
use Rattle.tas_runs.specs.LocalScript.{Asking, Shown, nothing_shown, all_shown, connects, opened_by_connect}
use Rattle.tas_runs.specs.LocalScript.{connected_where, connected, is_wanted, asked, asked_where, given_up, at_stage}
use Rattle.tas_runs.specs.LocalScript.{served_at, served_where, served_flow, served_content, capture_scripts, the_app}
use Rattle.tas_runs.specs.Asking.{call_place, is_app, app_place, app_places, RisesWithin, AskedWithin}

-- ----- four-tuples
and_both : (a b : Bool) → (a && b) ≡ true → (a ≡ true) × (b ≡ true)
and_both true b h = (refl, h)
and_both false b h = absurd (true≢false (sym h))

pub same_number : (n m : ℕ) → (n == m) ≡ true → n ≡ m
same_number n m h = grind (arith, tests, h)

made_same : (a b c d e f g h : ℕ) → a ≡ e → b ≡ f → c ≡ g → d ≡ h
    → ◌≡◌ {A = FourTuple} (record { laddr = a; lport = b; raddr = c; rport = d })
    (record { laddr = e; lport = f; raddr = g; rport = h })
made_same a b c d e f g h x y z w = cc (x, y, z, w)

pub same_is : (a b : FourTuple) → same_tuple a b ≡ true → a ≡ b
same_is a b h =
    let last = and_both (a.laddr == b.laddr && a.lport == b.lport && a.raddr == b.raddr) (a.rport == b.rport) h in
    let third = and_both (a.laddr == b.laddr && a.lport == b.lport) (a.raddr == b.raddr) last.0 in
    let front = and_both (a.laddr == b.laddr) (a.lport == b.lport) third.0 in
    let e1 : a.laddr ≡ b.laddr = same_number a.laddr b.laddr front.0 in
    let e2 : a.lport ≡ b.lport = same_number a.lport b.lport front.1 in
    let e3 : a.raddr ≡ b.raddr = same_number a.raddr b.raddr third.1 in
    let e4 : a.rport ≡ b.rport = same_number a.rport b.rport last.1 in
    made_same a.laddr a.lport a.raddr a.rport b.laddr b.lport b.raddr b.rport e1 e2 e3 e4

pub number_same : (n : ℕ) → (n == n) ≡ true
number_same n = grind (arith, tests)

tuple_same : (a : FourTuple) → same_tuple a a ≡ true
tuple_same a = rw (number_same a.laddr, number_same a.lport, number_same a.raddr, number_same a.rport) refl

-- ----- rising numbers
rises_le : (a b : ℕ) (ns : List ℕ) → RisesWithin a b ns → a ≤ b
rises_le a b [] h = h
rises_le a b (n ∷ ns) h = let first : a < n = h.0 in let rest : n ≤ b = rises_le n b ns h.1 in omega arith

rises_from : (a c b : ℕ) (ns : List ℕ) → a ≤ c → RisesWithin c b ns → RisesWithin a b ns
rises_from a c b [] low h = omega arith
rises_from a c b (n ∷ ns) low h = let first : c < n = h.0 in (omega arith, h.1)

rises_split : (a b : ℕ) (ns ms : List ℕ) → RisesWithin a b (ns ++ ms)
    → (c : ℕ) × RisesWithin a c ns × RisesWithin c b ms
rises_split a b [] ms h = (a, omega arith, h)
rises_split a b (n ∷ ns) ms h = let rest = rises_split n b ns ms h.1 in (rest.0, (h.0, rest.1), rest.2)

rises_join : (a c b : ℕ) (ns ms : List ℕ) → RisesWithin a c ns → RisesWithin c b ms → RisesWithin a b (ns ++ ms)
rises_join a c b [] ms h g = rises_from a c b ms h g
rises_join a c b (n ∷ ns) ms h g = (h.0, rises_join n c b ns ms h.1 g)

-- ----- what is asked of a history
asked_none : (a b : ℕ) (h : List Entry) → a ≤ b → AskedWithin a b h h
asked_none a b h low = ([], sym (append-nil h), low)

asked_from : (a c b : ℕ) (h g : List Entry) → a ≤ c → AskedWithin c b h g → AskedWithin a b h g
asked_from a c b h g low asks = (asks.0, asks.1, rises_from a c b (app_places asks.0) low asks.2)

asked_both : (a c b : ℕ) (h g k : List Entry) → AskedWithin a c h g → AskedWithin c b g k → AskedWithin a b h k
asked_both a c b h g k x y = (
  x.0 ++ y.0,
  y.1 ∙ ap (λ (zs : List Entry). zs ++ y.0) x.1 ∙ append_assoc h x.0 y.0,
  subst (RisesWithin a b) (sym (flat_map-append app_place x.0 y.0))
      (rises_join a c b (app_places x.0) (app_places y.0) x.2 y.2),
)

-- ----- stages
abbrev pub stage_place : Stage → ℕ
stage_place Beginning = 1
stage_place Accepting = 2
stage_place Sending = 3
stage_place Shutting = 4
stage_place Aborting = 5
stage_place Receiving = 6
stage_place Leaving = 7

abbrev pub stage_places : List Stage → List ℕ
stage_places ss = map stage_place ss

-- ----- one flow
-- `f` says which stages were asked of the flows of a four-tuple, in their order. Where they rise, so do the calls that
-- they made.
pub record Follows (f : FourTuple → List Stage) (l m : Live) : Type 0 where
  pub tuple : m.flow.tuple ≡ l.flow.tuple
  pub rises : (a b : ℕ) → RisesWithin a b (stage_places (f l.flow.tuple))
      → AskedWithin a b l.flow.entries m.flow.entries

abbrev pub Fresh : (FourTuple → List Stage) → Live → Type 0
Fresh f m = (a b : ℕ) → RisesWithin a b (stage_places (f m.flow.tuple)) → AskedWithin a b [] m.flow.entries

stays : (f : FourTuple → List Stage) (l : Live) → Follows f l l
stays f l = record {
  tuple = refl;
  rises = λ a b h. asked_none a b l.flow.entries (rises_le a b (stage_places (f l.flow.tuple)) h);
}

abbrev joined : (f g : FourTuple → List Stage) → FourTuple → List Stage
joined f g tuple = f tuple ++ g tuple

parts : (a b : ℕ) (ss us : List Stage) → RisesWithin a b (stage_places (ss ++ us))
    → (c : ℕ) × RisesWithin a c (stage_places ss) × RisesWithin c b (stage_places us)
parts a b ss us h = rises_split a b (stage_places ss) (stage_places us)
    (subst (RisesWithin a b) (map-append stage_place ss us) h)

both : (f g : FourTuple → List Stage) (l m p : Live) → Follows f l m → Follows g m p → Follows (joined f g) l p
both f g l m p x y = record {
  tuple = y.tuple ∙ x.tuple;
  rises = λ a b h.
      let cut = parts a b (f l.flow.tuple) (g l.flow.tuple) h in
      asked_both a cut.0 b l.flow.entries m.flow.entries p.flow.entries (x.rises a cut.0 cut.1)
      (y.rises cut.0 b (subst (λ (tuple : FourTuple). RisesWithin cut.0 b (stage_places (g tuple)))
      (sym x.tuple) cut.2));
}

fresh_both : (f g : FourTuple → List Stage) (m p : Live) → Fresh f m → Follows g m p → Fresh (joined f g) p
fresh_both f g m p x y a b h =
    let cut = parts a b (f m.flow.tuple) (g m.flow.tuple)
    (subst (λ (tuple : FourTuple). RisesWithin a b (stage_places (joined f g tuple))) y.tuple h) in
    asked_both a cut.0 b [] m.flow.entries p.flow.entries (x a cut.0 cut.1) (y.rises cut.0 b cut.2)

fresh_late : (f g : FourTuple → List Stage) (p : Live) → Fresh g p → Fresh (joined f g) p
fresh_late f g p y a b h =
    let cut = parts a b (f p.flow.tuple) (g p.flow.tuple) h in
    asked_from a cut.0 b [] p.flow.entries (rises_le a cut.0 (stage_places (f p.flow.tuple)) cut.1) (y cut.0 b cut.2)

-- ----- all flows
abbrev pub AllFollow : (FourTuple → List Stage) → (ls ms : List Live) → Type 0
AllFollow f [] [] = Unit {0}
AllFollow f [] (m ∷ ms) = Fresh f m × AllFollow f [] ms
AllFollow f (l ∷ ls) [] = ⊥
AllFollow f (l ∷ ls) (m ∷ ms) = Follows f l m × AllFollow f ls ms

all_stay : (f : FourTuple → List Stage) (ls : List Live) → AllFollow f ls ls
all_stay f [] = tt
all_stay f (l ∷ ls) = (stays f l, all_stay f ls)

pub all_both : (f g : FourTuple → List Stage) (ls ms ps : List Live) → AllFollow f ls ms → AllFollow g ms ps
    → AllFollow (joined f g) ls ps
all_both f g [] [] [] x y = tt
all_both f g [] [] (p ∷ ps) x y = (fresh_late f g p y.0, all_both f g [] [] ps tt y.1)
all_both f g [] (m ∷ ms) [] x y = absurd y
all_both f g [] (m ∷ ms) (p ∷ ps) x y = (fresh_both f g m p x.0 y.0, all_both f g [] ms ps x.1 y.1)
all_both f g (l ∷ ls) [] ps x y = absurd x
all_both f g (l ∷ ls) (m ∷ ms) [] x y = absurd y
all_both f g (l ∷ ls) (m ∷ ms) (p ∷ ps) x y = (both f g l m p x.0 y.0, all_both f g ls ms ps x.1 y.1)

first_follows : (f : FourTuple → List Stage) (test : Live → Bool) (change : Live → Live)
    → ((l : Live) → test l ≡ true → Follows f l (change l)) → (ls : List Live)
    → AllFollow f ls (change_first test change ls)
first_follows f test change each [] = tt
first_follows f test change each (l ∷ ls) = by_test (test l) refl (first_follows f test change each ls) where
  by_test : (b : Bool) → test l ≡ b → AllFollow f ls (change_first test change ls)
      → AllFollow f (l ∷ ls) (elim b [ true ↦ change l ∷ ls | false ↦ l ∷ change_first test change ls ])
  by_test true h rest = (each l h, all_stay f ls)
  by_test false h rest = (stays f l, rest)

at_follows : (f : FourTuple → List Stage) (n : ℕ) (change : Live → Live) → ((l : Live) → Follows f l (change l))
    → (ls : List Live) → AllFollow f ls (change_at n change ls)
at_follows f n change each [] = tt
at_follows f zero change each (l ∷ ls) = (each l, all_stay f ls)
at_follows f (suc n) change each (l ∷ ls) = (stays f l, at_follows f n change each ls)

pub map_follows : (f : FourTuple → List Stage) (change : Live → Live) → ((l : Live) → Follows f l (change l))
    → (ls : List Live) → AllFollow f ls (map change ls)
map_follows f change each [] = tt
map_follows f change each (l ∷ ls) = (each l, map_follows f change each ls)

push_follows : (f : FourTuple → List Stage) (ls : List Live) (m : Live) → Fresh f m → AllFollow f ls (ls ++ m ∷ [])
push_follows f [] m fresh = (fresh, tt)
push_follows f (l ∷ ls) m fresh = (stays f l, push_follows f ls m fresh)

-- ----- what a worker does by itself
abbrev pub none : FourTuple → List Stage
none tuple = []

worker_is : (by : Caller) → IsWorker by → is_app by ≡ false
worker_is Slow h = refl
worker_is (Core k) h = refl
worker_is (App k) h = absurd h

call_follows : (by : Caller) (t : ℕ) (call : Call) (offer : List ℕ) (l : Live) → is_app by ≡ false
    → Follows none l (with_call l by t call offer)
call_follows by t call offer l h = record { tuple = refl; rises = λ a b low. (_, refl, quiet a b low) } where
  quiet : (a b : ℕ) → a ≤ b → RisesWithin a b (cond (is_app by) (call_place call ∷ []) [] ++ [])
  quiet a b low = rw h low

controlled_follows : (by : Caller) (t : ℕ) (l : Live) → is_app by ≡ false → Follows none l (controlled by t l)
controlled_follows by t l h = by_due (is_control_tick l.flow.params.fixed t && is_running l) where
  by_due : (b : Bool) → Follows none l (controlled_where b by t l)
  by_due true = call_follows by t calls.Control [] l h
  by_due false = stays none l

timed_follows : (by : Caller) (t : ℕ) (l : Live) → is_app by ≡ false → Follows none l (timed by t l)
timed_follows by t l h = by_over (is_over l) where
  next : Live
  next = with_call l by t calls.Tick []

  by_over : (b : Bool) → Follows none l (timed_unless b by t l)
  by_over true = stays none l
  by_over false = both none none l next (controlled by t next) (call_follows by t calls.Tick [] l h)
      (controlled_follows by t next h)

pub swept_follows : (l : Live) → Follows none l (swept l)
swept_follows l = by_over (is_over l) where
  by_over : (b : Bool) → Follows none l (if b then record l { indexed = false; filed = l.filed || not (is_held l) }
      else l)
  by_over true = record { tuple = refl; rises = λ a b low. asked_none a b l.flow.entries low }
  by_over false = stays none l

emits_follows : (by : Caller) (t : ℕ) (l : Live) → is_app by ≡ false → Follows none l (emits by t l)
emits_follows by t l h = by_going (going (endpoint l)) where
  by_going : (o : Option Going) → Follows none l (emits_where o by t l)
  by_going None = stays none l
  by_going (Some g) = call_follows by t calls.Emit [] l h

syn_follows : (full : Bool) (o : Option ℕ) (start : Start) (t : ℕ) (host : Host) (frame : FrameId) (tuple : FourTuple)
    (seg : Seg)
    → AllFollow none host.flows (opened_by_syn full o start t host frame tuple seg).flows
syn_follows true o start t host frame tuple seg = all_stay none host.flows
syn_follows false None start t host frame tuple seg = all_stay none host.flows
syn_follows false (Some slot) start t host frame tuple seg = push_follows none host.flows _ (λ a b low. (_, refl, low))

met_follows : (b listening : Bool) (start : Start) (t : ℕ) (host : Host) (frame : FrameId) (tuple : FourTuple)
    (seg : Seg)
    → AllFollow none host.flows (met_no_flow b listening start t host frame tuple seg).flows
met_follows true listening start t host frame tuple seg =
    syn_follows (is_full host tuple.lport) (lowest_free host) start t host frame tuple seg
met_follows false listening start t host frame tuple seg = all_stay none host.flows

arrived_follows : (b : Bool) (by : Caller) (start : Start) (t : ℕ) (host : Host) (frame : FrameId) (tuple : FourTuple)
    (seg : Seg) → is_app by ≡ false
    → AllFollow none host.flows (arrived b (received by t frame seg) start t host frame tuple seg).flows
arrived_follows true by start t host frame tuple seg h =
    first_follows none (is_indexed_as tuple) (received by t frame seg)
    (λ l known. call_follows by t (calls.Rx frame seg) [] l h) host.flows
arrived_follows false by start t host frame tuple seg h =
    met_follows (is_listening host tuple.lport && opens seg)
    (is_listening host tuple.lport) start t host frame tuple seg

delivered_follows : (by : Caller) (starts : Starts) (t : ℕ) (host : Host) (frame : FrameId) (packet : Packet)
    → is_app by ≡ false
    → AllFollow none host.flows (delivered_packet (received by) starts t host frame packet).flows
delivered_follows by starts t host frame (damaged rule) h = all_stay none host.flows
delivered_follows by starts t host frame (segment tuple seg) h =
    arrived_follows (is_known host tuple) by (next_start starts host tuple) t host frame tuple seg h

-- ----- a stage of a script
-- the stage that an action asks of the flows of a four-tuple
abbrev pub Act : Type 0
Act = Action Asking

abbrev pub ask : Stage → Item → Act
ask stage x = Ask (record { stage = stage; item = x })

abbrev pub stage_for : FourTuple → Act → List Stage
stage_for tuple (Ask a) = if is_of tuple a.item then a.stage ∷ [] else []
stage_for tuple _ = []

abbrev pub stages_for : FourTuple → List Act → List Stage
stages_for tuple [] = []
stages_for tuple (a ∷ rest) = stage_for tuple a ++ stages_for tuple rest

-- the flow with one entry more, by a call of the application
one_more : (f : FourTuple → List Stage) (stage : Stage) (t : ℕ) (call : Call) (offer : List ℕ) (l m : Live)
    → f l.flow.tuple ≡ stage ∷ [] → stage_place stage ≡ call_place call
    → m.flow ≡ (with_call l the_app t call offer).flow → Follows f l m
one_more f stage t call offer l m asks place same = record {
  tuple = ap (λ (fl : Flow). fl.tuple) same;
  rises = λ a b h. (
    _,
    ap (λ (fl : Flow). fl.entries) same,
    subst (λ (n : ℕ). RisesWithin a b (n ∷ [])) place
        (subst (λ (ss : List Stage). RisesWithin a b (stage_places ss)) asks h),
  );
}

asked_follows : (f : FourTuple → List Stage) (stage : Stage) (t : ℕ) (s : Shown) (l : Live)
    → f l.flow.tuple ≡ stage ∷ [] → Follows f l (asked stage t s l)
asked_follows f Beginning t s l asks = stays f l
asked_follows f Accepting t s l asks = one_more f Accepting t calls.Accept [] l (asked Accepting t s l) asks refl refl
asked_follows f Sending t s l asks =
    one_more f Sending t (calls.Send _) s.pending l (asked Sending t s l) asks refl refl
asked_follows f Shutting t s l asks = one_more f Shutting t calls.Shut [] l (asked Shutting t s l) asks refl refl
asked_follows f Aborting t s l asks = one_more f Aborting t calls.Abort [] l (asked Aborting t s l) asks refl refl
asked_follows f Receiving t s l asks = one_more f Receiving t (calls.Recv _) [] l (asked Receiving t s l) asks refl refl
asked_follows f Leaving t s l asks = stays f l

asked_where_follows : (b : Bool) (f : FourTuple → List Stage) (stage : Stage) (t : ℕ) (s : Shown) (l : Live)
    → f l.flow.tuple ≡ stage ∷ [] → Follows f l (asked_where b stage t s l)
asked_where_follows true f stage t s l asks = asked_follows f stage t s l asks
asked_where_follows false f stage t s l asks = stays f l

given_up_follows : (f : FourTuple → List Stage) (l : Live) → Follows f l (given_up l)
given_up_follows f l = by_over (is_over l && is_held l) where
  by_over : (b : Bool) → Follows f l (if b then record l { holder = GivenUp } else l)
  by_over true = record {
    tuple = refl;
    rises = λ a b h.
        asked_none a b l.flow.entries (rises_le a b (stage_places (f l.flow.tuple)) h);
  }
  by_over false = stays f l

stage_follows : (f : FourTuple → List Stage) (stage : Stage) (t : ℕ) (content : Content) (s : Shown) (l : Live)
    → f l.flow.tuple ≡ stage ∷ [] → Follows f l (at_stage stage t content s l)
stage_follows f Leaving t content s l asks = given_up_follows f l
stage_follows f stage t content s l asks = asked_where_follows (is_wanted stage content s l) f stage t s l asks

own_stage : (stage : Stage) (number : ℕ) (content : Content) (tuple : FourTuple) → tuple_of content ≡ Some tuple
    → stage_for tuple (ask stage (record { number = number; content = content })) ≡ stage ∷ []
own_stage stage number (Damaged rule) tuple of = absurd (cc (of))
own_stage stage number (Remote other seg) tuple of = let same : other ≡ tuple = cc (of) in
    subst (λ (own : FourTuple). stage_for tuple (ask stage (record { number = number; content = Remote own seg }))
    ≡ stage ∷ []) (sym same) (rw (tuple_same tuple) refl)
own_stage stage number (Local other seg) tuple of = let same : other ≡ tuple = cc (of) in
    subst (λ (own : FourTuple). stage_for tuple (ask stage (record { number = number; content = Local own seg }))
    ≡ stage ∷ []) (sym same) (rw (tuple_same tuple) refl)

-- the flow that the index has under the record's four-tuple is the one that the stage is asked of
known_stage : (stage : Stage) (x : Item) (tuple : FourTuple) (l : Live) → tuple_of x.content ≡ Some tuple
    → is_indexed_as tuple l ≡ true → stage_for l.flow.tuple (ask stage x) ≡ stage ∷ []
known_stage stage x tuple l of known =
    let same : tuple ≡ l.flow.tuple =
    same_is tuple l.flow.tuple (and_both l.indexed (same_tuple tuple l.flow.tuple) known).1 in
    subst (λ (own : FourTuple). stage_for own (ask stage x) ≡ stage ∷ []) same
    (own_stage stage x.number x.content tuple of)

abbrev asks : Stage → Item → FourTuple → List Stage
asks stage x tuple = stage_for tuple (ask stage x)

-- the change of a flow that is known
known_follows : (f : FourTuple → List Stage) (n : ℕ) (change : Live → Live) (l : Live) (ls : List Live)
    → slice_get ls n ≡ Some l → Follows f l (change l) → AllFollow f ls (change_at n change ls)
known_follows f n change l [] here one = tt
known_follows f zero change l (m ∷ ls) here one = let e : m ≡ l = cc (here) in
    (subst (λ (k : Live). Follows f k (change k)) (sym e) one, all_stay f ls)
known_follows f (suc n) change l (m ∷ ls) here one = (stays f m, known_follows f n change l ls here one)

found_follows : (stage : Stage) (x : Item) (tuple : FourTuple) (t : ℕ) (site : Site (List Shown)) (n : ℕ)
    (found : Option Live) → tuple_of x.content ≡ Some tuple
    → slice_get site.host.flows n ≡ found → IfSome found (λ l. is_indexed_as tuple l ≡ true)
    → AllFollow (asks stage x) site.host.flows (served_at n found stage t x.content site).host.flows
found_follows stage x tuple t site n None of here known = all_stay (asks stage x) site.host.flows
found_follows stage x tuple t site n (Some l) of here known =
    let s : Shown = get_or (all_shown site.host.flows site.scripts) n nothing_shown in
    known_follows (asks stage x) n (at_stage stage t x.content s) l site.host.flows here
    (stage_follows (asks stage x) stage t x.content s l (known_stage stage x tuple l of known))

place_known : (tuple : FourTuple) (ls : List Live) (n : ℕ) (found : Option Live)
    → position (is_indexed_as tuple) ls ≡ Some n → slice_get ls n ≡ found
    → IfSome found (λ l. is_indexed_as tuple l ≡ true)
place_known tuple ls n None at here = tt
place_known tuple ls n (Some l) at here =
    subst (λ (m : Live). is_indexed_as tuple m ≡ true) (get_or_from_slice_get ls n l l here)
    (position-Some (is_indexed_as tuple) ls n l at).1

where_follows : (stage : Stage) (x : Item) (tuple : FourTuple) (t : ℕ) (site : Site (List Shown)) (place : Option ℕ)
    → tuple_of x.content ≡ Some tuple
    → position (is_indexed_as tuple) site.host.flows ≡ place
    → AllFollow (asks stage x) site.host.flows (served_where place stage t x.content site).host.flows
where_follows stage x tuple t site None of at = all_stay (asks stage x) site.host.flows
where_follows stage x tuple t site (Some n) of at =
    found_follows stage x tuple t site n (slice_get site.host.flows n) of refl
    (place_known tuple site.host.flows n (slice_get site.host.flows n) at refl)

flow_follows : (stage : Stage) (x : Item) (tuple : FourTuple) (t : ℕ) (site : Site (List Shown))
    → tuple_of x.content ≡ Some tuple
    → AllFollow (asks stage x) site.host.flows (served_flow stage t x.content tuple site).host.flows
flow_follows stage x tuple t site of =
    where_follows stage x tuple t site (position (is_indexed_as tuple) site.host.flows) of refl

connect_follows : (o : Option ℕ) (x : Item) (tuple : FourTuple) (start : Start) (t : ℕ) (host : Host)
    → tuple_of x.content ≡ Some tuple
    → AllFollow (asks Beginning x) host.flows (opened_by_connect o start t host tuple).flows
connect_follows None x tuple start t host of = all_stay (asks Beginning x) host.flows
connect_follows (Some slot) x tuple start t host of =
    push_follows (asks Beginning x) host.flows _
    (λ a b h. (_, refl, subst (λ (ss : List Stage). RisesWithin a b (stage_places ss)) own h))
  where
    own : asks Beginning x tuple ≡ Beginning ∷ []
    own = own_stage Beginning x.number x.content tuple of

connected_follows : (b : Bool) (x : Item) (tuple : FourTuple) (start : Start) (t : ℕ) (host : Host)
    → tuple_of x.content ≡ Some tuple
    → AllFollow (asks Beginning x) host.flows (connected_where b start t host tuple).flows
connected_follows true x tuple start t host of = connect_follows (lowest_free host) x tuple start t host of
connected_follows false x tuple start t host of = all_stay (asks Beginning x) host.flows

-- the same of stages that are equal
follows_as : (f g : FourTuple → List Stage) → ((tuple : FourTuple) → f tuple ≡ g tuple) → (ls ms : List Live)
    → AllFollow f ls ms → AllFollow g ls ms
follows_as f g same [] [] all = tt
follows_as f g same [] (m ∷ ms) all = (
  λ a b h. all.0 a b (subst (λ (ss : List Stage). RisesWithin a b (stage_places ss)) (sym (same m.flow.tuple)) h),
  follows_as f g same [] ms all.1,
)
follows_as f g same (l ∷ ls) [] all = absurd all
follows_as f g same (l ∷ ls) (m ∷ ms) all = (
  record {
    tuple = all.0.tuple;
    rises = λ a b h. all.0.rises a b
        (subst (λ (ss : List Stage). RisesWithin a b (stage_places ss)) (sym (same l.flow.tuple)) h);
  },
  follows_as f g same ls ms all.1,
)

-- what a local segment shows is no call
shows_follows : (x : Item) (tuple : FourTuple) (t : ℕ) (site : Site (List Shown)) (place : Option ℕ)
    → AllFollow none site.host.flows (served_where place Beginning t x.content site).host.flows
shows_follows x tuple t site None = all_stay none site.host.flows
shows_follows x tuple t site (Some n) = by_found (slice_get site.host.flows n) where
  by_found : (found : Option Live)
      → AllFollow none site.host.flows (served_at n found Beginning t x.content site).host.flows
  by_found None = all_stay none site.host.flows
  by_found (Some l) =
      at_follows none n (at_stage Beginning t x.content
      (get_or (all_shown site.host.flows site.scripts) n nothing_shown)) (λ m. stays none m) site.host.flows

began_follows : (starts : Starts) (x : Item) (tuple : FourTuple) (seg : Seg) (t : ℕ) (site : Site (List Shown))
    → tuple_of x.content ≡ Some tuple
    → AllFollow (asks Beginning x) site.host.flows
    (served_flow Beginning t x.content tuple (on_host (connected starts t tuple seg) site)).host.flows
began_follows starts x tuple seg t site of =
    let mid : Site (List Shown) = on_host (connected starts t tuple seg) site in
    let last : Site (List Shown) = served_flow Beginning t x.content tuple mid in
    follows_as (joined (asks Beginning x) none) (asks Beginning x)
    (λ own. append-nil (asks Beginning x own)) site.host.flows last.host.flows
    (all_both (asks Beginning x) none site.host.flows mid.host.flows last.host.flows
    (connected_follows (connects seg && not (is_known site.host tuple)) x tuple
    (next_start starts site.host tuple) t site.host of)
    (shows_follows x tuple t mid (position (is_indexed_as tuple) mid.host.flows)))

served_follows : (starts : Starts) (stage : Stage) (t : ℕ) (site : Site (List Shown)) (number : ℕ) (content : Content)
    → AllFollow (asks stage (record { number = number; content = content })) site.host.flows
    (served_content starts stage t content site).host.flows
served_follows starts stage t site number (Damaged rule) =
    all_stay (asks stage (record { number = number; content = Damaged rule })) site.host.flows
served_follows starts Beginning t site number (Remote tuple seg) =
    all_stay (asks Beginning (record { number = number; content = Remote tuple seg })) site.host.flows
served_follows starts Beginning t site number (Local tuple seg) =
    began_follows starts (record { number = number; content = Local tuple seg }) tuple seg t site refl
served_follows starts stage t site number (Remote tuple seg) =
    flow_follows stage (record { number = number; content = Remote tuple seg }) tuple t site refl
served_follows starts stage t site number (Local tuple seg) =
    flow_follows stage (record { number = number; content = Local tuple seg }) tuple t site refl

-- ----- actions
abbrev stages_by : Act → FourTuple → List Stage
stages_by a tuple = stage_for tuple a

done_follows : (items : List Item) (t : ℕ) (site : Site (List Shown)) (by : Caller) (action : Act) → is_app by ≡ false
    → AllFollow (stages_by action) site.host.flows (done_by (capture_scripts items) t site by action).host.flows
done_follows items t site by (Timer n) h = at_follows none n (timed by t) (λ l. timed_follows by t l h) site.host.flows
done_follows items t site by (Frame x) h = delivered_follows by (first_start items) t site.host x.frame x.packet h
done_follows items t site by (Ask a) h = served_follows (first_start items) a.stage t site a.item.number a.item.content
done_follows items t site by (Emission n) h =
    at_follows none n (emits by t) (λ l. emits_follows by t l h) site.host.flows

abbrev pub all_stages : List Act → FourTuple → List Stage
all_stages actions tuple = stages_for tuple actions

pub all_follow : (items : List Item) (t : ℕ) (site : Site (List Shown)) (order : List (Deed Asking))
    → Each (λ (deed : Deed Asking). IsWorker deed.by) order
    → AllFollow (all_stages (actions_of order)) site.host.flows
    (fold (does (capture_scripts items) t) site order).host.flows
all_follow items t site [] workers = all_stay (all_stages []) site.host.flows
all_follow items t site (d ∷ order) workers =
    let next : Site (List Shown) = does (capture_scripts items) t site d in
    all_both (stages_by d.action) (all_stages (actions_of order)) site.host.flows next.host.flows
    (fold (does (capture_scripts items) t) next order).host.flows
    (done_follows items t site d.by d.action (worker_is d.by workers.0)) (all_follow items t next order workers.1)
