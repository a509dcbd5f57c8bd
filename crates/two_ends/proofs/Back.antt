-- A tick takes no segment back: what holds of all that was sent after it held of all that was sent before.
use Rattle.std.proofs.Common.{ℕ, ◌&&◌, Bool, true, false, List, [], ◌∷◌, ◌++◌, map, fold, Option, Some, None}
use Rattle.std.proofs.Common.{sym, subst}
use Rattle.std.proofs.lemmas.Grind.{flat_map-append}
use Rattle.tas_model.specs.declared.entry.FourTuple.{FourTuple}
use Rattle.tas_model.specs.declared.entry.FrameId.{FrameId}
use Rattle.tas_model.specs.declared.entry.Head.{Head}
use Rattle.tas_model.specs.declared.entry.Seg.{Seg}
use Rattle.tas_model.specs.declared.entry.Entry.{Entry}
use Rattle.tas_model.specs.declared.entry.Caller.{Caller}
use Rattle.tas_model.specs.declared.entry.Call.{Call}
use Rattle.tas_model.specs.declared.entry.Call.TheVariants as calls
use Rattle.tas_model.specs.NextSegment.{Going, going}
use Rattle.tas_model.specs.Segments.{bare}
use Rattle.tas_model.specs.Outputs.{segments_in, sent}
use Rattle.tas_model.proofs.Tests.{on_cond}
use Rattle.host_rounds.specs.declared.opening.Start.{Start}
use Rattle.host_rounds.specs.declared.log.LogLine.{LogLine}
use Rattle.host_rounds.specs.declared.log.LogEvent.{LogEvent}
use Rattle.host_rounds.specs.declared.log.LogEvent.TheVariants as events
use Rattle.host_rounds.specs.Lists.{Each}
use Rattle.host_rounds.specs.Hosts.{Live, Host, Starts, next_start, endpoint, is_over, with_call, logged, is_known}
use Rattle.host_rounds.specs.Hosts.{is_indexed_as, is_listening, is_full, lowest_free}
use Rattle.host_rounds.specs.Upkeep.{swept, all_swept, controlled, timed, timed_unless, emits, emits_where}
use Rattle.host_rounds.specs.Deliveries.{Packet, Damaged, Segment, received, opens, opened_by_syn, met_no_flow, arrived}
use Rattle.host_rounds.specs.Deliveries.{delivered_packet}
use Rattle.host_rounds.specs.Scripts.{Site, Scripts}
use Rattle.host_rounds.specs.Moves.{Move, Calls, Opens, Notes, Holds, Listens, moved, AreByMoves}
use Rattle.host_rounds.specs.Rounds.{Action, Timer, Frame, Ask, Emission, Deed, done_by, does, on_host, Due, Round}
use Rattle.host_rounds.proofs.AllLegal.{AreLegal, asked_keeps, done_kept, all_swept_kept}
use Rattle.host_rounds.proofs.Flows.{on_control}
use Rattle.sent_streams.proofs.Taken.{each_split}
use Rattle.two_ends.proofs.Lists.{each_left, map_back, first_back, at_back}

module _ (Q : FourTuple → Seg → Type 0) where
  -- ----- what was sent
  abbrev pub SentLive : Live → Type 0
  SentLive l = Each (Q l.flow.tuple) (sent l.flow.entries)

  abbrev pub AnswerHas : FourTuple → Option Head → Type 0
  AnswerHas tuple None = Unit {0}
  AnswerHas tuple (Some head) = Q tuple (bare head)

  abbrev pub LineHas : LogEvent → Type 0
  LineHas (events.Stray frame tuple seg answer) = AnswerHas tuple answer
  LineHas _ = Unit {0}

  pub record SentHost (host : Host) : Type 0 where
    pub flows : Each SentLive host.flows
    pub lines : Each (λ (l : LogLine). LineHas l.event) host.log

  -- ----- one flow
  sent_back : (P : Seg → Type 0) (h : List Entry) (x : Entry) → Each P (sent (h ++ x ∷ [])) → Each P (sent h)
  sent_back P h x all =
      each_left P (sent h) (sent (x ∷ []))
      (subst (Each P) (flat_map-append (λ (y : Entry). segments_in y.reply) h (x ∷ [])) all)

  call_back : (by : Caller) (t : ℕ) (call : Call) (offer : List ℕ) (l : Live) → SentLive (with_call l by t call offer)
      → SentLive l
  call_back by t call offer l all = sent_back (Q l.flow.tuple) l.flow.entries _ all

  swept_back : (l : Live) → SentLive (swept l) → SentLive l
  swept_back l = on_cond (λ (m : Live). SentLive m → SentLive l) (is_over l) _ _ (λ t all. all) (λ f all. all)

  controlled_back : (by : Caller) (t : ℕ) (l : Live) → SentLive (controlled by t l) → SentLive l
  controlled_back by t l =
      on_control (λ (m : Live). SentLive m → SentLive l) _ by t l (λ h. call_back by t calls.Control [] l)
      (λ h all. all)

  timed_back : (by : Caller) (t : ℕ) (l : Live) → SentLive (timed by t l) → SentLive l
  timed_back by t l = by_over (is_over l) where
    by_over : (b : Bool) → SentLive (timed_unless b by t l) → SentLive l
    by_over true all = all
    by_over false all = call_back by t calls.Tick [] l (controlled_back by t (with_call l by t calls.Tick []) all)

  emits_back : (by : Caller) (t : ℕ) (l : Live) → SentLive (emits by t l) → SentLive l
  emits_back by t l = by_going (going (endpoint l)) where
    by_going : (o : Option Going) → SentLive (emits_where o by t l) → SentLive l
    by_going None all = all
    by_going (Some g) all = call_back by t calls.Emit [] l all

  -- ----- a host
  flows_back : (host : Host) (ls : List Live) → (Each SentLive ls → Each SentLive host.flows)
      → SentHost (record host { flows = ls }) → SentHost host
  flows_back host ls back s = record { flows = back s.flows; lines = s.lines }

  line_back : (t : ℕ) (host : Host) (event : LogEvent) → SentHost (logged host t event) → SentHost host
  line_back t host event s = record { flows = s.flows; lines = (each_split _ host.log _ s.lines).0 }

  push_back : (host : Host) (l : Live) → SentHost (record host { flows = host.flows ++ l ∷ [] }) → SentHost host
  push_back host l s = record { flows = (each_split SentLive host.flows l s.flows).0; lines = s.lines }

  -- ----- frames
  syn_back : (full : Bool) (free : Option ℕ) (start : Start) (t : ℕ) (host : Host) (frame : FrameId) (tuple : FourTuple)
      (seg : Seg)
      → SentHost (opened_by_syn full free start t host frame tuple seg) → SentHost host
  syn_back true free start t host frame tuple seg s = line_back t host _ s
  syn_back false None start t host frame tuple seg s = line_back t host _ s
  syn_back false (Some slot) start t host frame tuple seg s = push_back host _ s

  no_flow_back : (opening listening : Bool) (start : Start) (t : ℕ) (host : Host) (frame : FrameId) (tuple : FourTuple)
      (seg : Seg)
      → SentHost (met_no_flow opening listening start t host frame tuple seg) → SentHost host
  no_flow_back true listening start t host frame tuple seg s =
      syn_back (is_full host tuple.lport) (lowest_free host) start t host frame tuple seg s
  no_flow_back false listening start t host frame tuple seg s = line_back t host _ s

  arrived_back : (known : Bool) (by : Caller) (start : Start) (t : ℕ) (host : Host) (frame : FrameId)
      (tuple : FourTuple) (seg : Seg)
      → SentHost (arrived known (received by t frame seg) start t host frame tuple seg) → SentHost host
  arrived_back true by start t host frame tuple seg s =
      flows_back host _
      (first_back SentLive (is_indexed_as tuple) (received by t frame seg)
      (call_back by t (calls.Rx frame seg) []) host.flows) s
  arrived_back false by start t host frame tuple seg s =
      no_flow_back (is_listening host tuple.lport && opens seg)
      (is_listening host tuple.lport) start t host frame tuple seg s

  packet_back : (by : Caller) (starts : Starts) (t : ℕ) (host : Host) (frame : FrameId) (packet : Packet)
      → SentHost (delivered_packet (received by) starts t host frame packet) → SentHost host
  packet_back by starts t host frame (Damaged rule) s = line_back t host _ s
  packet_back by starts t host frame (Segment tuple seg) s =
      arrived_back (is_known host tuple) by (next_start starts host tuple) t host frame tuple seg s

  -- ----- moves
  move_back : (starts : Starts) (t : ℕ) (host : Host) (m : Move) → SentHost (moved starts t host m) → SentHost host
  move_back starts t host (Calls n by call offer) s =
      flows_back host _
      (at_back SentLive n (λ (l : Live). with_call l by t call offer) (call_back by t call offer) host.flows) s
  move_back starts t host (Opens slot tuple app) s = push_back host _ s
  move_back starts t host (Notes event) s = line_back t host event s
  move_back starts t host (Holds n holder) s =
      flows_back host _ (at_back SentLive n (λ (l : Live). record l { holder = holder }) (λ l all. all) host.flows) s
  move_back starts t host (Listens listeners) s = record { flows = s.flows; lines = s.lines }

  asked_back : {S A : Type 0} (scripts : Scripts S A) (t : ℕ) (site : Site S) (a : A) → AreByMoves scripts
      → AreLegal site.host
      → SentHost (scripts.asked t site a).host → SentHost site.host
  asked_back scripts t site a by_moves legal =
      asked_keeps (λ (host : Host). SentHost host → SentHost site.host) scripts t by_moves
      (λ host m each may back s. back (move_back scripts.starts t host m s)) site a legal (λ s. s)

  -- ----- ticks
  done_back : {S A : Type 0} (scripts : Scripts S A) (t : ℕ) (site : Site S) (by : Caller) (action : Action A)
      → AreByMoves scripts → AreLegal site.host
      → SentHost (done_by scripts t site by action).host → SentHost site.host
  done_back scripts t site by (Timer n) by_moves legal s =
      flows_back site.host _ (at_back SentLive n (timed by t) (timed_back by t) site.host.flows) s
  done_back scripts t site by (Frame x) by_moves legal s = packet_back by scripts.starts t site.host x.frame x.packet s
  done_back scripts t site by (Ask a) by_moves legal s = asked_back scripts t site a by_moves legal s
  done_back scripts t site by (Emission n) by_moves legal s =
      flows_back site.host _ (at_back SentLive n (emits by t) (emits_back by t) site.host.flows) s

  all_back : {S A : Type 0} (scripts : Scripts S A) (t : ℕ) (site : Site S) (order : List (Deed A)) → AreByMoves scripts
      → AreLegal site.host
      → SentHost (fold (does scripts t) site order).host → SentHost site.host
  all_back scripts t site [] by_moves legal s = s
  all_back scripts t site (m ∷ order) by_moves legal s =
      done_back scripts t site m.by m.action by_moves legal
      (all_back scripts t (does scripts t site m) order by_moves
      (done_kept scripts t site m.by m.action by_moves legal) s)

  pub round_back : {S A : Type 0} (scripts : Scripts S A) (t : ℕ) (due : Due A) (before after : Site S)
      → AreByMoves scripts → AreLegal before.host
      → Round scripts t due before after → SentHost after.host → SentHost before.host
  round_back {S} scripts t due before after by_moves legal round s =
      let end : SentHost (all_swept before.host) =
      all_back scripts t (on_host all_swept before) round.order by_moves (all_swept_kept before.host legal)
      (subst (λ (x : Site S). SentHost x.host) (sym round.made) s) in
      flows_back before.host (map swept before.host.flows) (map_back SentLive swept swept_back before.host.flows) end
