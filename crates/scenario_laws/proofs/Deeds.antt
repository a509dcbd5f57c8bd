-- What each deed of a tick keeps of a host and its scripts, all of them keep.
use Rattle.std.proofs.Common.{◌≡◌, ℕ, zero, suc, ◌==◌, ◌&&◌, Bool, true, false, cond, List, [], ◌∷◌, ◌++◌, map, fold}
use Rattle.std.proofs.Common.{Option, Some, None, refl, sym, subst, ap, ◌∙◌, true≢false, append_assoc, append-nil}
use Rattle.std.specs.List.{find}
use Rattle.tas_model.specs.declared.entry.HostParams.{HostParams}
use Rattle.tas_model.specs.declared.entry.FourTuple.{FourTuple}
use Rattle.tas_model.specs.declared.entry.FrameId.{FrameId}
use Rattle.tas_model.specs.declared.entry.Seg.{Seg}
use Rattle.tas_model.specs.declared.entry.Entry.{Entry}
use Rattle.tas_model.specs.declared.entry.Caller.{Caller}
use Rattle.tas_model.specs.declared.entry.Caller.TheVariants.{Slow}
use Rattle.tas_model.specs.declared.entry.Call.{Call}
use Rattle.tas_model.specs.declared.entry.Call.TheVariants as calls
use Rattle.tas_model.specs.Endpoint.{is_closed}
use Rattle.tas_model.specs.NextSegment.{Going, going}
use Rattle.tas_model.specs.LegalHistory.{opened, replay, replay_on}
use Rattle.tas_model.proofs.Histories.{replay_on_push}
use Rattle.tas_model.proofs.Tests.{on_cond}
use Rattle.host_rounds.specs.declared.opening.Start.{Start}
use Rattle.host_rounds.specs.declared.log.LogEvent.{LogEvent}
use Rattle.host_rounds.specs.declared.log.LogEvent.TheVariants as events
use Rattle.host_rounds.specs.Lists.{Each, change_first, change_at}
use Rattle.host_rounds.specs.Hosts.{Live, Host, Waiting, endpoint, is_over, is_running, with_call, logged}
use Rattle.host_rounds.specs.Hosts.{is_indexed_as, is_known, is_listening, is_full, lowest_free, next_start}
use Rattle.host_rounds.specs.Hosts.{first_entry, opened_in}
use Rattle.host_rounds.specs.Upkeep.{swept, all_swept, is_control_tick, controlled_where, timed, timed_unless, emits}
use Rattle.host_rounds.specs.Upkeep.{emits_where}
use Rattle.host_rounds.specs.Deliveries.{Packet, Damaged, Segment, received, opens, opened_by_syn, met_no_flow}
use Rattle.host_rounds.specs.Deliveries.{arrived, delivered_packet}
use Rattle.host_rounds.specs.Passing.{IsUpTo}
use Rattle.host_rounds.specs.Scripts.{Site}
use Rattle.host_rounds.specs.Rounds.{Timer, Frame, Ask, Emission, Action, Deed, IsWorker, does, done_by, on_host, Round}
use Rattle.host_rounds.specs.Rounds.{Due}
use Rattle.host_rounds.proofs.ClosedStays.{closed_stays}
use Rattle.host_rounds.proofs.Grows.{call_grows, grew_low}
use Rattle.scenario_text.specs.declared.scenario.Scenario.{Scenario}
use Rattle.scenario_runs.specs.Applications.{Script}
use Rattle.scenario_runs.specs.Worlds.{starts_of, address_in, with_turn, asked_of, scripts_of}
use Rattle.scenario_laws.specs.Turns.{turn_on}
use Rattle.scenario_laws.proofs.AllTurned.{NumbersRise, deed_rises}

-- ----- what workers do to a flow
abbrev pub IsWorkerCall : Call → Type 0
IsWorkerCall (calls.Rx frame seg) = Unit {0}
IsWorkerCall calls.Emit = Unit {0}
IsWorkerCall calls.Tick = Unit {0}
IsWorkerCall calls.Control = Unit {0}
IsWorkerCall _ = ⊥

pub record IsWorkerEntry (x : Entry) : Type 0 where
  pub by : IsWorker x.caller
  pub call : IsWorkerCall x.call

-- it got entries by workers in this tick, and else it is what it was, but for its place in the index and its slot
pub record Worked (t : ℕ) (l m : Live) : Type 0 where
  pub tuple : m.flow.tuple ≡ l.flow.tuple
  pub holder : m.holder ≡ l.holder
  pub more : List Entry
  pub entries : m.flow.entries ≡ l.flow.entries ++ more
  pub each : Each IsWorkerEntry more
  pub low : IsUpTo t l → IsUpTo t m
  pub over : is_over l ≡ true → is_over m ≡ true

pub stays : (t : ℕ) (l : Live) → Worked t l l
stays t l =
    record {
      tuple = refl;
      holder = refl;
      more = [];
      entries = sym (append-nil l.flow.entries);
      each = tt;
      low = λ h. h;
      over = λ h. h;
    }

each_append : {X : Type 0} (P : X → Type 0) (xs ys : List X) → Each P xs → Each P ys → Each P (xs ++ ys)
each_append P [] ys a b = b
each_append P (x ∷ xs) ys a b = (a.0, each_append P xs ys a.1 b)

both : (t : ℕ) (l m k : Live) → Worked t l m → Worked t m k → Worked t l k
both t l m k a b = record {
  tuple = b.tuple ∙ a.tuple;
  holder = b.holder ∙ a.holder;
  more = a.more ++ b.more;
  entries =
      b.entries ∙ ap (λ (h : List Entry). h ++ b.more) a.entries ∙ append_assoc l.flow.entries a.more b.more;
  each = each_append IsWorkerEntry a.more b.more a.each b.each;
  low = λ h. b.low (a.low h);
  over = λ h. b.over (a.over h);
}

-- a closed flow stays closed, whatever its next entry
pub over_push : (p : HostParams) (h : List Entry) (x : Entry) → is_closed (replay p h) ≡ true
    → is_closed (replay p (h ++ x ∷ [])) ≡ true
unfolding replay
over_push p [] x h = absurd (true≢false (sym h))
over_push p (y ∷ ys) x h =
    ap is_closed (replay_on_push (opened p y.call) ys x)
    ∙ closed_stays (replay_on (opened p y.call) ys) x.tick x.call x.reply h

pub call_low : (by : Caller) (t : ℕ) (call : Call) (offer : List ℕ) (l : Live) → IsUpTo t l
    → IsUpTo t (with_call l by t call offer)
call_low by t call offer l low = grew_low t l.flow.entries _ low (call_grows by t call offer l low)

called : (by : Caller) (t : ℕ) (call : Call) (l : Live) → IsWorker by → IsWorkerCall call
    → Worked t l (with_call l by t call [])
called by t call l worker kind = record {
  tuple = refl;
  holder = refl;
  more = _;
  entries = refl;
  each = (record { by = worker; call = kind }, tt);
  low = call_low by t call [] l;
  over = over_push l.flow.params l.flow.entries _;
}

pub swept_worked : (t : ℕ) (l : Live) → Worked t l (swept l)
swept_worked t l =
    on_cond (Worked t l) (is_over l) _ _
    (λ h. record {
      tuple = refl;
      holder = refl;
      more = [];
      entries = sym (append-nil l.flow.entries);
      each = tt;
      low = λ g. g;
      over = λ g. g;
    }) (λ h. stays t l)

pub timed_worked : (by : Caller) (t : ℕ) (l : Live) → IsWorker by → Worked t l (timed by t l)
timed_worked by t l worker = by_over (is_over l) where
  m : Live
  m = with_call l by t calls.Tick []

  by_due : (b : Bool) → Worked t m (controlled_where b by t m)
  by_due true = called by t calls.Control m worker tt
  by_due false = stays t m

  by_over : (b : Bool) → Worked t l (timed_unless b by t l)
  by_over true = stays t l
  by_over false =
      both t l m _ (called by t calls.Tick l worker tt)
      (by_due (is_control_tick m.flow.params.fixed t && is_running m))

pub emits_worked : (by : Caller) (t : ℕ) (l : Live) → IsWorker by → Worked t l (emits by t l)
emits_worked by t l worker = by_going (going (endpoint l)) where
  by_going : (o : Option Going) → Worked t l (emits_where o by t l)
  by_going None = stays t l
  by_going (Some g) = called by t calls.Emit l worker tt

-- ----- all flows
-- flow by flow, in their order
abbrev pub OfEachFlow : (Live → Live → Type 0) → (before after : List Live) → Type 0
OfEachFlow Fact [] [] = Unit {0}
OfEachFlow Fact (l ∷ ls) (m ∷ ms) = Fact l m × OfEachFlow Fact ls ms
OfEachFlow Fact _ _ = ⊥

abbrev pub AllWorked : (tick : ℕ) → (before after : List Live) → Type 0
AllWorked t ls ms = OfEachFlow (Worked t) ls ms

all_stay : (t : ℕ) (ls : List Live) → AllWorked t ls ls
all_stay t [] = tt
all_stay t (l ∷ ls) = (stays t l, all_stay t ls)

pub map_worked : (t : ℕ) (f : Live → Live) → ((l : Live) → Worked t l (f l)) → (ls : List Live)
    → AllWorked t ls (map f ls)
map_worked t f each [] = tt
map_worked t f each (l ∷ ls) = (each l, map_worked t f each ls)

pub at_worked : (t n : ℕ) (f : Live → Live) → ((l : Live) → Worked t l (f l)) → (ls : List Live)
    → AllWorked t ls (change_at n f ls)
at_worked t n f each [] = tt
at_worked t zero f each (l ∷ ls) = (each l, all_stay t ls)
at_worked t (suc n) f each (l ∷ ls) = (stays t l, at_worked t n f each ls)

first_worked : (t : ℕ) (test : Live → Bool) (f : Live → Live) → ((l : Live) → Worked t l (f l)) → (ls : List Live)
    → AllWorked t ls (change_first test f ls)
first_worked t test f each [] = tt
first_worked t test f each (l ∷ ls) = by_test (test l) (first_worked t test f each ls) where
  by_test : (b : Bool) → AllWorked t ls (change_first test f ls)
      → AllWorked t (l ∷ ls) (elim b [ true ↦ f l ∷ ls | false ↦ l ∷ change_first test f ls ])
  by_test true rest = (each l, all_stay t ls)
  by_test false rest = (stays t l, rest)

-- ----- what is kept
-- what holds of each holds of one that is found
pub found_has : (P : Script → Type 0) (test : Script → Bool) (bs : List Script) (x : Script) → find test bs ≡ Some x
    → Each P bs → P x
found_has P test [] x found each = absurd (cc (found))
found_has P test (b ∷ bs) x found each =
    by_test (test b) found (λ later. found_has P test bs x later each.1)
  where
    by_test : (c : Bool) → cond c (Some b) (find test bs) ≡ Some x → (find test bs ≡ Some x → P x) → P x
    by_test true h rest = let same : b ≡ x = cc (h) in subst P same each.0
    by_test false h rest = rest h

abbrev pub At : Type 0
At = Site (List Script)

-- a line of a frame that concerns no flow
abbrev pub IsFrameLine : LogEvent → Type 0
IsFrameLine (events.Stray frame tuple seg answer) = Unit {0}
IsFrameLine (events.Dropped frame backlog) = Unit {0}
IsFrameLine (events.Refused frame rule) = Unit {0}
IsFrameLine _ = ⊥

abbrev pub opened_for : (slot : ℕ) (start : Start) (tick : ℕ) → Host → FrameId → FourTuple → Seg → Host
opened_for slot start t host frame tuple seg =
    opened_in host slot tuple start.scale Waiting (first_entry Slow t (calls.Passive frame start.number seg))

-- Whatever is done in the tick keeps the fact: of flows, by lines, by SYNs and by turns.
pub record Keeps (s : Scenario) (p : HostParams) (t : ℕ) (I : At → Type 0) : Type 0 where
  pub flows : (site : At) (ms : List Live) → AllWorked t site.host.flows ms → I site
      → I (on_host (λ (host : Host). record host { flows = ms }) site)
  pub line : (site : At) (event : LogEvent) → IsFrameLine event → I site
      → I (on_host (λ (host : Host). logged host t event) site)
  pub syn : (site : At) (slot : ℕ) (start : Start) (frame : FrameId) (tuple : FourTuple) (seg : Seg)
      → is_listening site.host tuple.lport ≡ true → I site
      → I (on_host (λ (host : Host). opened_for slot start t host frame tuple seg) site)
  pub turn : (site : At) (k : ℕ) (x : Script) → find (λ (b : Script). b.number == k) site.scripts ≡ Some x
      → NumbersRise 0 site.scripts → I site → I (with_turn (turn_on s p t site.host x) site.scripts)

-- what workers do keeps the fact
pub record WorkKeeps (t : ℕ) (I : At → Type 0) : Type 0 where
  pub flows : (site : At) (ms : List Live) → AllWorked t site.host.flows ms → I site
      → I (on_host (λ (host : Host). record host { flows = ms }) site)
  pub line : (site : At) (event : LogEvent) → IsFrameLine event → I site
      → I (on_host (λ (host : Host). logged host t event) site)
  pub syn : (site : At) (slot : ℕ) (start : Start) (frame : FrameId) (tuple : FourTuple) (seg : Seg)
      → is_listening site.host tuple.lport ≡ true → I site
      → I (on_host (λ (host : Host). opened_for slot start t host frame tuple seg) site)

work_of : (s : Scenario) (p : HostParams) (t : ℕ) (I : At → Type 0) → Keeps s p t I → WorkKeeps t I
work_of s p t I keeps = record { flows = keeps.flows; line = keeps.line; syn = keeps.syn }

-- ----- frames
syn_keeps : (p : HostParams) (I : At → Type 0) (full : Bool) (free : Option ℕ) (start : Start) (t : ℕ) (site : At)
    (frame : FrameId) (tuple : FourTuple) (seg : Seg) → WorkKeeps t I → is_listening site.host tuple.lport ≡ true
    → I site → I (on_host (λ (host : Host). opened_by_syn full free start t host frame tuple seg) site)
syn_keeps p I true free start t site frame tuple seg keeps listening i =
    keeps.line site (events.Dropped frame true) tt i
syn_keeps p I false None start t site frame tuple seg keeps listening i =
    keeps.line site (events.Dropped frame false) tt i
syn_keeps p I false (Some slot) start t site frame tuple seg keeps listening i =
    keeps.syn site slot start frame tuple seg listening i

and_left : (a b : Bool) → (a && b) ≡ true → a ≡ true
and_left true b h = refl
and_left false b h = absurd (true≢false (sym h))

no_flow_keeps : (p : HostParams) (I : At → Type 0) (opening listening : Bool) (start : Start) (t : ℕ) (site : At)
    (frame : FrameId) (tuple : FourTuple) (seg : Seg) → WorkKeeps t I
    → (opening ≡ true → is_listening site.host tuple.lport ≡ true) → I site
    → I (on_host (λ (host : Host). met_no_flow opening listening start t host frame tuple seg) site)
no_flow_keeps p I true listening start t site frame tuple seg keeps listens i =
    syn_keeps p I (is_full site.host tuple.lport) (lowest_free site.host) start t site frame tuple seg keeps
    (listens refl) i
no_flow_keeps p I false listening start t site frame tuple seg keeps listens i = keeps.line site _ tt i

arrived_keeps : (p : HostParams) (I : At → Type 0) (known : Bool) (by : Caller) (start : Start) (t : ℕ)
    (site : At) (frame : FrameId) (tuple : FourTuple) (seg : Seg) → WorkKeeps t I → IsWorker by → I site
    → I (on_host (λ (host : Host). arrived known (received by t frame seg) start t host frame tuple seg) site)
arrived_keeps p I true by start t site frame tuple seg keeps worker i =
    keeps.flows site _ (first_worked t (is_indexed_as tuple) (received by t frame seg)
    (λ l. called by t (calls.Rx frame seg) l worker tt) site.host.flows) i
arrived_keeps p I false by start t site frame tuple seg keeps worker i =
    no_flow_keeps p I (is_listening site.host tuple.lport && opens seg) (is_listening site.host tuple.lport) start t
    site frame tuple seg keeps (and_left (is_listening site.host tuple.lport) (opens seg)) i

pub packet_keeps : (p : HostParams) (I : At → Type 0) (by : Caller) (t : ℕ) (site : At) (frame : FrameId)
    (packet : Packet) → WorkKeeps t I → IsWorker by → I site
    → I (on_host (λ (host : Host). delivered_packet (received by) (starts_of p) t host frame packet) site)
packet_keeps p I by t site frame (Damaged rule) keeps worker i = keeps.line site (events.Refused frame rule) tt i
packet_keeps p I by t site frame (Segment tuple seg) keeps worker i =
    arrived_keeps p I (is_known site.host tuple) by (next_start (starts_of p) site.host tuple) t site frame tuple
    seg keeps worker i

-- ----- deeds
turn_keeps : (s : Scenario) (p : HostParams) (I : At → Type 0) (t k : ℕ) (site : At) → Keeps s p t I
    → NumbersRise 0 site.scripts → I site → (o : Option Script)
    → find (λ (b : Script). b.number == k) site.scripts ≡ o
    → I (asked_of (starts_of p) (address_in s.hosts) t o site)
turn_keeps s p I t k site keeps rise i None found = i
turn_keeps s p I t k site keeps rise i (Some x) found = keeps.turn site k x found rise i

action_keeps : (s : Scenario) (p : HostParams) (I : At → Type 0) (t : ℕ) (site : At) (by : Caller) (action : Action ℕ)
    → Keeps s p t I → IsWorker by → NumbersRise 0 site.scripts → I site
    → I (done_by (scripts_of s p) t site by action)
action_keeps s p I t site by (Timer n) keeps worker rise i =
    keeps.flows site _ (at_worked t n (timed by t) (λ l. timed_worked by t l worker) site.host.flows) i
action_keeps s p I t site by (Frame x) keeps worker rise i =
    packet_keeps p I by t site x.frame x.packet (work_of s p t I keeps) worker i
action_keeps s p I t site by (Ask k) keeps worker rise i = turn_keeps s p I t k site keeps rise i _ refl
action_keeps s p I t site by (Emission n) keeps worker rise i =
    keeps.flows site _ (at_worked t n (emits by t) (λ l. emits_worked by t l worker) site.host.flows) i

abbrev pub AreByWorkers : List (Deed ℕ) → Type 0
AreByWorkers deeds = Each (λ (deed : Deed ℕ). IsWorker deed.by) deeds

pub deeds_keep : (s : Scenario) (p : HostParams) (I : At → Type 0) (t : ℕ) (site : At) (deeds : List (Deed ℕ))
    → Keeps s p t I → AreByWorkers deeds → NumbersRise 0 site.scripts → I site
    → I (fold (does (scripts_of s p) t) site deeds)
deeds_keep s p I t site [] keeps workers rise i = i
deeds_keep s p I t site (m ∷ deeds) keeps workers rise i =
    deeds_keep s p I t (does (scripts_of s p) t site m) deeds keeps workers.1 (deed_rises s p t 0 site m rise)
    (action_keeps s p I t site m.by m.action keeps workers.0 rise i)

pub sweep_keeps : (s : Scenario) (p : HostParams) (I : At → Type 0) (t : ℕ) (site : At) → Keeps s p t I → I site
    → I (on_host all_swept site)
sweep_keeps s p I t site keeps i = keeps.flows site _ (map_worked t swept (swept_worked t) site.host.flows) i

-- What they keep stands after a tick.
pub round_keeps : (s : Scenario) (p : HostParams) (I : At → Type 0) (t : ℕ) (due : Due ℕ) (b a : At) → Keeps s p t I
    → NumbersRise 0 b.scripts → Round (scripts_of s p) t due b a → I b → I a
round_keeps s p I t due b a keeps rise round i =
    subst I round.made
    (deeds_keep s p I t (on_host all_swept b) round.order keeps round.workers rise (sweep_keeps s p I t b keeps i))
