-- What each frame that comes has, each segment has that a flow took.
use Rattle.std.proofs.Common.{◌≡◌, ℕ, ◌+◌, ◌&&◌, ◌==◌, not, Bool, true, false, cond, List, [], ◌∷◌, ◌++◌, map, fold}
use Rattle.std.proofs.Common.{filter, Option, Some, None, refl, sym, subst, true≢false, arith}
use Rattle.std.proofs.Common.{eq-eqb}
use Rattle.std.proofs.lemmas.Bool.Decides.{nat_tests}
use Rattle.tas_model.specs.declared.entry.FourTuple.{FourTuple}
use Rattle.tas_model.specs.declared.entry.FrameId.{FrameId}
use Rattle.tas_model.specs.declared.entry.Head.{Head}
use Rattle.tas_model.specs.declared.entry.Seg.{Seg}
use Rattle.tas_model.specs.declared.entry.Entry.{Entry}
use Rattle.tas_model.specs.declared.entry.Caller.{Caller}
use Rattle.tas_model.specs.declared.entry.Caller.TheVariants.{Slow, Core, App}
use Rattle.tas_model.specs.declared.entry.Call.{Call}
use Rattle.tas_model.specs.declared.entry.Call.TheVariants as calls
use Rattle.tas_model.specs.declared.entry.Reply.{Reply}
use Rattle.tas_model.specs.NextSegment.{Going, going}
use Rattle.tas_model.specs.Segments.{bare, is_syn, is_rst, is_ack}
use Rattle.tas_model.proofs.Tests.{on_cond}
use Rattle.host_rounds.specs.declared.opening.Start.{Start}
use Rattle.host_rounds.specs.declared.log.LogLine.{LogLine}
use Rattle.host_rounds.specs.declared.log.LogEvent.{LogEvent}
use Rattle.host_rounds.specs.declared.log.LogEvent.TheVariants as events
use Rattle.host_rounds.specs.Lists.{Each}
use Rattle.host_rounds.specs.Hosts.{Live, Host, Starts, next_start, endpoint, is_over, with_call, logged, is_known}
use Rattle.host_rounds.specs.Hosts.{same_tuple, is_indexed_as, is_listening, is_full, lowest_free}
use Rattle.host_rounds.specs.Upkeep.{swept, all_swept, controlled, timed, timed_unless, emits, emits_where}
use Rattle.host_rounds.specs.Deliveries.{Packet, Damaged, Segment, Arrival, same_frame, received, opens, answer_in}
use Rattle.host_rounds.specs.Deliveries.{stray_answer, opened_by_syn, met_no_flow, arrived}
use Rattle.host_rounds.specs.Deliveries.{delivered_packet}
use Rattle.host_rounds.specs.Scripts.{Site, Scripts}
use Rattle.host_rounds.specs.Moves.{Move, Calls, Opens, Notes, Holds, Listens, moved, MayMove, IsAppCall, IsCallLine}
use Rattle.host_rounds.specs.Moves.{AreByMoves}
use Rattle.host_rounds.specs.Rounds.{Action, Timer, Frame, Ask, Emission, Deed, done_by, does, on_host, Due}
use Rattle.host_rounds.specs.Rounds.{timers_from, due_actions, OfFrame, is_by, actions_of, Round}
use Rattle.host_rounds.proofs.AllLegal.{AreLegal, asked_keeps, call_cases, done_kept, all_swept_kept, each_map, each_at}
use Rattle.host_rounds.proofs.AllLegal.{each_push}
use Rattle.host_rounds.proofs.Lists.{each_append}
use Rattle.host_rounds.proofs.Flows.{on_control}
use Rattle.two_ends.specs.Ends.{reversed}
use Rattle.two_ends.specs.Origins.{IsReset}
use Rattle.two_ends.proofs.Lists.{each_filter, first_there}

-- ----- tests
and_left : (a b : Bool) → (a && b) ≡ true → a ≡ true
and_left true b h = refl
and_left false b h = absurd (true≢false (sym h))

and_right : (a b : Bool) → (a && b) ≡ true → b ≡ true
and_right true b h = h
and_right false b h = absurd (true≢false (sym h))

not_true : (b : Bool) → not b ≡ true → b ≡ false
not_true false h = refl
not_true true h = absurd (true≢false (sym h))

same_number : (a b : ℕ) → (a == b) ≡ true → a ≡ b
same_number a b h = grind (arith, nat_tests, h)

same_fields : (l1 l2 p1 p2 r1 r2 q1 q2 : ℕ) → l1 ≡ l2 → p1 ≡ p2 → r1 ≡ r2 → q1 ≡ q2
    → ◌≡◌ {A = FourTuple} (record { laddr = l1; lport = p1; raddr = r1; rport = q1 })
    (record { laddr = l2; lport = p2; raddr = r2; rport = q2 })
same_fields l1 l2 p1 p2 r1 r2 q1 q2 l p r q = cc (l, p, r, q)

pub same_is : (a b : FourTuple) → same_tuple a b ≡ true → a ≡ b
same_is a b h =
    let three : (a.laddr == b.laddr && a.lport == b.lport && a.raddr == b.raddr) ≡ true = and_left _
    (a.rport == b.rport) h in
    let two : (a.laddr == b.laddr && a.lport == b.lport) ≡ true = and_left _ (a.raddr == b.raddr) three in
    let laddr : a.laddr ≡ b.laddr = same_number a.laddr b.laddr (and_left _ (a.lport == b.lport) two) in
    let lport : a.lport ≡ b.lport = same_number a.lport b.lport (and_right (a.laddr == b.laddr) _ two) in
    let raddr : a.raddr ≡ b.raddr = same_number a.raddr b.raddr
    (and_right (a.laddr == b.laddr && a.lport == b.lport) _ three) in
    let rport : a.rport ≡ b.rport = same_number a.rport b.rport
    (and_right (a.laddr == b.laddr && a.lport == b.lport && a.raddr == b.raddr) _ h) in
    same_fields a.laddr b.laddr a.lport b.lport a.raddr b.raddr a.rport b.rport laddr lport raddr rport

pub same_self : (a : FourTuple) → same_tuple a a ≡ true
same_self a =
    rw (
      eq-eqb a.laddr a.laddr refl,
      eq-eqb a.lport a.lport refl,
      eq-eqb a.raddr a.raddr refl,
      eq-eqb a.rport a.rport
          refl,
    ) refl

frame_self : (f : FrameId) → same_frame f f ≡ true
frame_self f =
    rw (eq-eqb f.host f.host refl, eq-eqb f.flow f.flow refl, eq-eqb f.number f.number refl, eq-eqb f.copy f.copy refl)
    refl

-- ----- answers to strays
abbrev pub AnswerResets : Option Head → Type 0
AnswerResets None = Unit {0}
AnswerResets (Some head) = IsReset (bare head)

abbrev pub LineResets : LogEvent → Type 0
LineResets (events.Stray frame tuple seg answer) = AnswerResets answer
LineResets _ = Unit {0}

abbrev ReplyResets : Reply → Type 0
ReplyResets reply = AnswerResets (answer_in reply)

stray_resets : (listening : Bool) (seg : Seg) → AnswerResets (stray_answer listening seg)
stray_resets true seg =
    on_cond ReplyResets (is_rst seg) _ _ (λ t. tt)
    (λ f. on_cond ReplyResets (is_ack seg) _ _ (λ t. (refl, refl)) (λ g. tt))
stray_resets false seg =
    on_cond ReplyResets (is_rst seg) _ _ (λ t. tt)
    (λ f. on_cond ReplyResets (is_ack seg) _ _ (λ t. (refl, refl)) (λ g. (refl, refl)))

module _ (Q : FourTuple → Seg → Type 0) where
  -- ----- what was heard
  -- `Q` is of a segment and its four-tuple as its sender sees it. And a flow is opened by a SYN alone.
  abbrev pub Heard : FourTuple → Call → Type 0
  Heard tuple (calls.Rx frame seg) = Q (reversed tuple) seg
  Heard tuple (calls.Passive frame iss seg) = Q (reversed tuple) seg × (is_rst seg ≡ false) × (is_syn seg ≡ true)
  Heard tuple _ = Unit {0}

  abbrev pub HeardLive : Live → Type 0
  HeardLive l = Each (λ (x : Entry). Heard l.flow.tuple x.call) l.flow.entries

  pub record HeardHost (host : Host) : Type 0 where
    pub flows : Each HeardLive host.flows
    pub lines : Each (λ (l : LogLine). LineResets l.event) host.log

  abbrev pub Comes : Packet → Type 0
  Comes (Damaged rule) = Unit {0}
  Comes (Segment tuple seg) = Q (reversed tuple) seg

  abbrev pub ComesIn : Arrival → Type 0
  ComesIn x = Comes x.packet

  -- ----- one flow
  call_heard : (by : Caller) (t : ℕ) (call : Call) (offer : List ℕ) (l : Live) → Heard l.flow.tuple call → HeardLive l
      → HeardLive (with_call l by t call offer)
  call_heard by t call offer l here all = each_push (λ (x : Entry). Heard l.flow.tuple x.call) l.flow.entries _ all here

  swept_heard : (l : Live) → HeardLive l → HeardLive (swept l)
  swept_heard l all = on_cond HeardLive (is_over l) _ _ (λ t. all) (λ f. all)

  controlled_heard : (by : Caller) (t : ℕ) (l : Live) → HeardLive l → HeardLive (controlled by t l)
  controlled_heard by t l all =
      on_control HeardLive _ by t l (λ h. call_heard by t calls.Control [] l tt all) (λ h. all)

  timed_heard : (by : Caller) (t : ℕ) (l : Live) → HeardLive l → HeardLive (timed by t l)
  timed_heard by t l all = by_over (is_over l) where
    by_over : (b : Bool) → HeardLive (timed_unless b by t l)
    by_over true = all
    by_over false = controlled_heard by t (with_call l by t calls.Tick []) (call_heard by t calls.Tick [] l tt all)

  emits_heard : (by : Caller) (t : ℕ) (l : Live) → HeardLive l → HeardLive (emits by t l)
  emits_heard by t l all = by_going (going (endpoint l)) where
    by_going : (o : Option Going) → HeardLive (emits_where o by t l)
    by_going None = all
    by_going (Some g) = call_heard by t calls.Emit [] l tt all

  -- ----- a host
  flows_heard : (host : Host) (ls : List Live) → HeardHost host → Each HeardLive ls
      → HeardHost (record host { flows = ls })
  flows_heard host ls h all = record { flows = all; lines = h.lines }

  line_heard : (t : ℕ) (host : Host) (event : LogEvent) → LineResets event → HeardHost host
      → HeardHost (logged host t event)
  line_heard t host event resets h = record { flows = h.flows; lines = each_push _ host.log _ h.lines resets }

  push_heard : (host : Host) (l : Live) → HeardLive l → HeardHost host
      → HeardHost (record host { flows = host.flows ++ l ∷ [] })
  push_heard host l one h = record { flows = each_push HeardLive host.flows l h.flows one; lines = h.lines }

  -- ----- frames
  syn_heard : (full : Bool) (free : Option ℕ) (start : Start) (t : ℕ) (host : Host) (frame : FrameId)
      (tuple : FourTuple) (seg : Seg)
      → Q (reversed tuple) seg → opens seg ≡ true → HeardHost host
      → HeardHost (opened_by_syn full free start t host frame tuple seg)
  syn_heard true free start t host frame tuple seg q syn h = line_heard t host _ tt h
  syn_heard false None start t host frame tuple seg q syn h = line_heard t host _ tt h
  syn_heard false (Some slot) start t host frame tuple seg q syn h =
      let two : (is_syn seg && not (is_rst seg)) ≡ true = and_left _ (not (is_ack seg)) syn in
      push_heard host _ ((q, not_true (is_rst seg) (and_right (is_syn seg) _ two), and_left (is_syn seg) _ two), tt) h

  no_flow_heard : (opening listening : Bool) (start : Start) (t : ℕ) (host : Host) (frame : FrameId) (tuple : FourTuple)
      (seg : Seg)
      → Q (reversed tuple) seg → (opening ≡ true → opens seg ≡ true) → HeardHost host
      → HeardHost (met_no_flow opening listening start t host frame tuple seg)
  no_flow_heard true listening start t host frame tuple seg q syn h =
      syn_heard (is_full host tuple.lport) (lowest_free host) start t host frame tuple seg q (syn refl) h
  no_flow_heard false listening start t host frame tuple seg q syn h =
      line_heard t host _ (stray_resets listening seg) h

  arrived_heard : (known : Bool) (by : Caller) (start : Start) (t : ℕ) (host : Host) (frame : FrameId)
      (tuple : FourTuple) (seg : Seg)
      → Q (reversed tuple) seg → HeardHost host
      → HeardHost (arrived known (received by t frame seg) start t host frame tuple seg)
  arrived_heard true by start t host frame tuple seg q h =
      flows_heard host _ h (first_there HeardLive (is_indexed_as tuple) (received by t frame seg)
      (λ l is all. call_heard by t (calls.Rx frame seg) [] l
      (subst (λ (u : FourTuple). Q (reversed u) seg)
      (same_is tuple l.flow.tuple (and_right l.indexed (same_tuple tuple l.flow.tuple) is)) q) all)
      host.flows h.flows)
  arrived_heard false by start t host frame tuple seg q h =
      no_flow_heard (is_listening host tuple.lport && opens seg)
      (is_listening host tuple.lport) start t host frame tuple seg q
      (λ both. and_right (is_listening host tuple.lport) (opens seg) both) h

  packet_heard : (by : Caller) (starts : Starts) (t : ℕ) (host : Host) (frame : FrameId) (packet : Packet)
      → Comes packet → HeardHost host → HeardHost (delivered_packet (received by) starts t host frame packet)
  packet_heard by starts t host frame (Damaged rule) q h = line_heard t host _ tt h
  packet_heard by starts t host frame (Segment tuple seg) q h =
      arrived_heard (is_known host tuple) by (next_start starts host tuple) t host frame tuple seg q h

  -- ----- moves
  app_call_heard : (by : Caller) (call : Call) (tuple : FourTuple) → IsAppCall by call → Heard tuple call
  app_call_heard Slow (calls.Rx frame seg) tuple kind = absurd kind
  app_call_heard (Core k) (calls.Rx frame seg) tuple kind = absurd kind
  app_call_heard (App k) (calls.Rx frame seg) tuple kind = absurd kind
  app_call_heard Slow (calls.Passive frame iss seg) tuple kind = absurd kind
  app_call_heard (Core k) (calls.Passive frame iss seg) tuple kind = absurd kind
  app_call_heard (App k) (calls.Passive frame iss seg) tuple kind = absurd kind
  app_call_heard by _ tuple kind = tt

  call_line_heard : (event : LogEvent) → IsCallLine event → LineResets event
  call_line_heard (events.Stray frame tuple seg answer) is = absurd is
  call_line_heard _ is = tt

  move_heard : (starts : Starts) (t : ℕ) (host : Host) (m : Move) → MayMove host m → HeardHost host
      → HeardHost (moved starts t host m)
  move_heard starts t host (Calls n by call offer) may h =
      call_cases HeardHost starts t host n by call offer may h
      (λ kind. flows_heard host _ h (each_at HeardLive n (λ (l : Live). with_call l by t call offer)
      (λ l all. call_heard by t call offer l (app_call_heard by call l.flow.tuple kind) all) host.flows h.flows))
  move_heard starts t host (Opens slot tuple app) may h = push_heard host _ (tt, tt) h
  move_heard starts t host (Notes event) may h = line_heard t host event (call_line_heard event may) h
  move_heard starts t host (Holds n holder) may h =
      flows_heard host _ h
      (each_at HeardLive n (λ (l : Live). record l { holder = holder }) (λ l all. all) host.flows h.flows)
  move_heard starts t host (Listens listeners) may h = record { flows = h.flows; lines = h.lines }

  asked_heard : {S A : Type 0} (scripts : Scripts S A) (t : ℕ) (site : Site S) (a : A) → AreByMoves scripts
      → AreLegal site.host
      → HeardHost site.host → HeardHost (scripts.asked t site a).host
  asked_heard scripts t site a by_moves legal h =
      asked_keeps HeardHost scripts t by_moves
      (λ host m each may p. move_heard scripts.starts t host m may p) site a legal h

  -- ----- what is due
  abbrev Fit : {A : Type 0} → Action A → Type 0
  Fit (Frame x) = ComesIn x
  Fit _ = Unit {0}

  timers_fit : (A : Type 0) (n : ℕ) (ls : List Live) → Each Fit (timers_from {A = A} n ls)
  timers_fit A n [] = tt
  timers_fit A n (l ∷ ls) = (tt, timers_fit A (n + 1) ls)

  frames_fit : (A : Type 0) (frames : List Arrival) → Each ComesIn frames → Each (Fit {A = A}) (map Frame frames)
  frames_fit A [] all = tt
  frames_fit A (x ∷ xs) all = (all.0, frames_fit A xs all.1)

  asks_fit : {A : Type 0} (asks : List A) → Each Fit (map Ask asks)
  asks_fit [] = tt
  asks_fit (a ∷ asks) = (tt, asks_fit asks)

  due_fit : {A : Type 0} (ls : List Live) (due : Due A) → Each ComesIn due.frames → Each Fit (due_actions ls due)
  due_fit {A} ls due all =
      each_append Fit (timers_from 0 ls) (map Frame due.frames ++ map Ask due.asks) (timers_fit A 0 ls)
      (each_append Fit (map Frame due.frames) (map Ask due.asks) (frames_fit A due.frames all) (asks_fit due.asks))

  -- what each frame's part of an order has, the order has
  order_fit : {S A : Type 0} (scripts : Scripts S A) (xs : List (Action A))
      → ((f : FrameId) → Each Fit (filter (is_by scripts (OfFrame f)) xs)) → Each Fit xs
  order_fit scripts [] all = tt
  order_fit {S} {A} scripts (x ∷ xs) all =
      (first x all, order_fit scripts xs (λ f. rest (is_by scripts (OfFrame f) x) f (all f))) where
        first : (x : Action A) → ((f : FrameId) → Each Fit (filter (is_by scripts (OfFrame f)) (x ∷ xs))) → Fit x
        first (Frame y) all =
            let others : List (Action A) = filter (is_by scripts (OfFrame y.frame)) xs in
            (subst (λ (b : Bool). Each Fit (cond b (Frame y ∷ others) others)) (frame_self y.frame) (all y.frame)).0
        first _ all = tt

        rest : (b : Bool) (f : FrameId)
            → Each Fit (cond b (x ∷ filter (is_by scripts (OfFrame f)) xs) (filter (is_by scripts (OfFrame f)) xs))
            → Each Fit (filter (is_by scripts (OfFrame f)) xs)
        rest true f all = all.1
        rest false f all = all

  -- ----- ticks
  done_heard : {S A : Type 0} (scripts : Scripts S A) (t : ℕ) (site : Site S) (by : Caller) (action : Action A)
      → AreByMoves scripts → AreLegal site.host
      → Fit action → HeardHost site.host → HeardHost (done_by scripts t site by action).host
  done_heard scripts t site by (Timer n) by_moves legal fit h =
      flows_heard site.host _ h (each_at HeardLive n (timed by t) (timed_heard by t) site.host.flows h.flows)
  done_heard scripts t site by (Frame x) by_moves legal fit h =
      packet_heard by scripts.starts t site.host x.frame x.packet fit h
  done_heard scripts t site by (Ask a) by_moves legal fit h = asked_heard scripts t site a by_moves legal h
  done_heard scripts t site by (Emission n) by_moves legal fit h =
      flows_heard site.host _ h (each_at HeardLive n (emits by t) (emits_heard by t) site.host.flows h.flows)

  all_heard : {S A : Type 0} (scripts : Scripts S A) (t : ℕ) (site : Site S) (order : List (Deed A))
      → AreByMoves scripts → AreLegal site.host
      → Each Fit (actions_of order) → HeardHost site.host → HeardHost (fold (does scripts t) site order).host
  all_heard scripts t site [] by_moves legal fit h = h
  all_heard scripts t site (m ∷ order) by_moves legal fit h =
      all_heard scripts t (does scripts t site m) order by_moves
      (done_kept scripts t site m.by m.action by_moves legal) fit.1
      (done_heard scripts t site m.by m.action by_moves legal fit.0 h)

  pub round_heard : {S A : Type 0} (scripts : Scripts S A) (t : ℕ) (due : Due A) (before after : Site S)
      → AreByMoves scripts → AreLegal before.host
      → Round scripts t due before after → Each ComesIn due.frames → HeardHost before.host → HeardHost after.host
  round_heard {S} {A} scripts t due before after by_moves legal round fit h =
      let start : HeardHost (all_swept before.host) = flows_heard before.host _ h
      (each_map HeardLive swept swept_heard before.host.flows h.flows) in
      let order : Each Fit (actions_of round.order) =
      order_fit scripts (actions_of round.order)
      (λ f. subst (λ (xs : List (Action A)). Each Fit xs) (sym (round.due_each (OfFrame f)))
      (each_filter Fit (is_by scripts (OfFrame f)) (due_actions before.host.flows due)
      (due_fit before.host.flows due fit))) in
      subst (λ (s : Site S). HeardHost s.host) round.made
      (all_heard scripts t (on_host all_swept before) round.order by_moves
      (all_swept_kept before.host legal) order start)
