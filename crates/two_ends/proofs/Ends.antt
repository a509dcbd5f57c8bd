-- Both ends: what a flow took is what its other end sent.
use Rattle.std.proofs.Common.{◌≡◌, ℕ, ◌+◌, ◌*◌, ◌^◌, ◌<◌, ◌≤◌, true, List, [], ◌∷◌, ◌++◌, length}
use Rattle.std.proofs.Common.{Some, None, refl, sym, subst, ◌∙◌, arith, true≢false}
use Rattle.tas_model.specs.declared.entry.FourTuple.{FourTuple}
use Rattle.tas_model.specs.declared.entry.HostParams.{HostParams}
use Rattle.tas_model.specs.declared.entry.Entry.{Entry}
use Rattle.tas_model.specs.declared.entry.Call.{Call}
use Rattle.tas_model.specs.declared.entry.Call.TheVariants as calls
use Rattle.tas_model.specs.declared.entry.Seg.{Seg}
use Rattle.tas_model.specs.Segments.{bare}
use Rattle.tas_model.specs.LegalHistory.{Legal, replay}
use Rattle.tas_model.specs.Outputs.{sent, accepted}
use Rattle.tas_model.specs.Valid.{InRange}
use Rattle.tas_model.proofs.StreamLaw.{got_is_prefix}
use Rattle.tas_model.proofs.MovesLaws.{read_is_of_stream}
use Rattle.host_rounds.specs.declared.log.LogLine.{LogLine}
use Rattle.host_rounds.specs.declared.log.LogEvent.{LogEvent}
use Rattle.host_rounds.specs.declared.log.LogEvent.TheVariants as events
use Rattle.host_rounds.specs.Lists.{Each}
use Rattle.host_rounds.specs.Logs.{Flow, HostRun, RunLog}
use Rattle.host_rounds.specs.Hosts.{Live, Starts, same_tuple, flows_of}
use Rattle.host_rounds.specs.Passing.{ticks_in}
use Rattle.host_rounds.specs.Histories.{HasHistory}
use Rattle.host_rounds.specs.Openings.{Opening, opening_of, openings_as, HaveShifts, AreOpened}
use Rattle.host_rounds.specs.Scripts.{Site}
use Rattle.host_rounds.proofs.Runs.{flow_in_range}
use Rattle.host_rounds.proofs.Keeps.{openings}
use Rattle.scenario_text.specs.declared.scenario.Scenario.{Scenario}
use Rattle.scenario_text.specs.declared.scenario.HostLine.{HostLine}
use Rattle.scenario_runs.specs.Applications.{Script}
use Rattle.scenario_runs.specs.Worlds.{World, starts_of, at_start}
use Rattle.scenario_runs.specs.Runs.{hosts_of, End, RunsFrom, Run}
use Rattle.scenario_runs.specs.Histories.{AreInRange}
use Rattle.sent_streams.specs.Streams.{IsOf, Takes, AllTaken}
use Rattle.sent_streams.proofs.Sent.{sent_is_of}
use Rattle.sent_streams.proofs.Taken.{taken_is}
use Rattle.sent_streams.proofs.Spending.{time_bounds}
use Rattle.sent_streams.proofs.Ending.{end_is_last}
use Rattle.two_ends.specs.Ends.{reversed, flows_in, other_ends, IsFaithful, HearsOtherEnd, ReadsOtherEnd}
use Rattle.two_ends.specs.Origins.{as_read, IsReset}
use Rattle.two_ends.proofs.Lists.{each_left, each_right, each_filter, filter_tells, each_as, each_both, each_under}
use Rattle.two_ends.proofs.Lists.{each_given, each_always, each_self}
use Rattle.two_ends.proofs.Back.{SentLive, LineHas}
use Rattle.two_ends.proofs.Heard.{same_self, LineResets, Heard}
use Rattle.two_ends.proofs.Frames.{SentSite}
use Rattle.two_ends.proofs.Worlds.{HasTicks, AllRight, run_heard, run_right}

-- ----- from worlds to logs
-- a fact of each flow of a world
abbrev pub InWorld : (Flow → Type 0) → World → Type 0
InWorld P world = Each (λ (site : Site (List Script)). Each (λ (l : Live). P l.flow) site.host.flows) world

-- and of a finished run
abbrev pub InLog : (Flow → Type 0) → List HostRun → Type 0
InLog P hosts = Each (λ (h : HostRun). Each P h.flows) hosts

flows_too : (P : Flow → Type 0) (ls : List Live) → Each (λ (l : Live). P l.flow) ls → Each P (flows_of ls)
flows_too P [] all = tt
flows_too P (l ∷ ls) all = (all.0, flows_too P ls all.1)

flows_back : (P : Flow → Type 0) (ls : List Live) → Each P (flows_of ls) → Each (λ (l : Live). P l.flow) ls
flows_back P [] all = tt
flows_back P (l ∷ ls) all = (all.0, flows_back P ls all.1)

pub log_too : (P : Flow → Type 0) (hosts : List HostLine) (world : World) → InWorld P world
    → InLog P (hosts_of hosts world)
log_too P [] world all = tt
log_too P (h ∷ hs) [] all = tt
log_too P (h ∷ hs) (site ∷ sites) all = (flows_too P site.host.flows all.0, log_too P hs sites all.1)

all_of_log : (P : Flow → Type 0) (hosts : List HostRun) → InLog P hosts → Each P (flows_in hosts)
all_of_log P [] all = tt
all_of_log P (h ∷ hs) all = joined h.flows all.0 (all_of_log P hs all.1) where
  joined : (fs : List Flow) → Each P fs → Each P (flows_in hs) → Each P (fs ++ flows_in hs)
  joined [] a b = b
  joined (f ∷ fs) a b = (a.0, joined fs a.1 b)

pub log_of_all : (P : Flow → Type 0) (hosts : List HostRun) → Each P (flows_in hosts) → InLog P hosts
log_of_all P [] all = tt
log_of_all P (h ∷ hs) all =
    (each_left P h.flows (flows_in hs) all, log_of_all P hs (each_right P h.flows (flows_in hs) all))

-- each flow of the world is in the log
pub world_of_log : (P : Flow → Type 0) (t : ℕ) (hosts : List HostLine) (world : World) → AllRight t hosts world
    → InLog P (hosts_of hosts world) → InWorld P world
world_of_log P t [] [] right all = tt
world_of_log P t [] (site ∷ sites) right all = absurd right
world_of_log P t (h ∷ hs) [] right all = absurd right
world_of_log P t (h ∷ hs) (site ∷ sites) right all =
    (flows_back P site.host.flows all.0, world_of_log P t hs sites right.1 all.1)

-- ----- what is known of each flow
pub record IsKnown (t : ℕ) (f : Flow) : Type 0 where
  pub fits : InRange f.params
  pub legal : Legal f.params f.entries
  pub ticks : ticks_in f.entries ≤ t

flows_known : (t : ℕ) (starts : Starts) (p : HostParams) (before : List Opening) (ls : List Live) → InRange p
    → HaveShifts starts → AreOpened starts p before (openings ls)
    → Each HasHistory ls → Each (HasTicks t) ls → Each (λ (l : Live). IsKnown t l.flow) ls
flows_known t starts p before [] fits shifts opened legal ticks = tt
flows_known t starts p before (l ∷ ls) fits shifts opened legal ticks = (
  record {
    fits = subst InRange (sym opened.0.params)
        (flow_in_range p _ fits (shifts l.flow.tuple (openings_as l.flow.tuple before) (length before)));
    legal = legal.0;
    ticks = ticks.0;
  },
  flows_known t starts p (before ++ opening_of l.flow ∷ []) ls fits shifts opened.1 legal.1 ticks.1,
)

world_known : (t : ℕ) (hosts : List HostLine) (world : World) → AreInRange hosts → AllRight t hosts world
    → InWorld (IsKnown t) world
world_known t [] [] fits right = tt
world_known t [] (site ∷ sites) fits right = absurd right
world_known t (h ∷ hs) [] fits right = absurd right
world_known t (h ∷ hs) (site ∷ sites) fits right = (
  flows_known t (starts_of h.params) h.params [] site.host.flows fits.0 (λ tuple k n. tt) right.0.right.opened
      right.0.right.legal right.0.ticks,
  world_known t hs sites fits.1 right.1,
)

-- ----- the direction from the other end
-- A segment that is sent under the four-tuple `from` is of the direction with this first number, and says nothing but
-- the stream.
abbrev Speaks : (from : FourTuple) (first : ℕ) (stream : List ℕ) → FourTuple → Seg → Type 0
Speaks from first stream tuple seg = tuple ≡ from → IsOf first stream seg

speaks_read : (from : FourTuple) (first : ℕ) (stream : List ℕ) (tuple : FourTuple) (seg : Seg)
    → Speaks from first stream tuple seg → Speaks from first stream tuple (as_read seg)
speaks_read from first stream tuple seg speaks same =
    let of : IsOf first stream seg = speaks same in
    record {
      begins = of.begins;
      says = λ h. let part = of.says h in
          record { place = part.place; begins = part.begins; seq = part.seq; bytes = part.bytes; fin = part.fin };
    }

reset_speaks : (from : FourTuple) (first : ℕ) (stream : List ℕ) (tuple : FourTuple) (seg : Seg) → IsReset seg
    → Speaks from first stream tuple seg
reset_speaks from first stream tuple seg reset same =
    record { begins = λ r. absurd (true≢false (sym reset.0 ∙ r)); says = λ h. absurd (true≢false (sym h ∙ reset.1)) }

line_speaks : (from : FourTuple) (first : ℕ) (stream : List ℕ) (event : LogEvent) → LineResets event
    → LineHas (Speaks from first stream) event
line_speaks from first stream (events.Stray frame tuple seg None) resets = tt
line_speaks from first stream (events.Stray frame tuple seg (Some head)) resets =
    reset_speaks from first stream tuple (bare head) resets
line_speaks from first stream _ resets = tt

-- each flow with that four-tuple is this one
flow_speaks : (t : ℕ) (from : FourTuple) (g : Flow) (l : Live) → IsKnown t l.flow
    → (same_tuple from l.flow.tuple ≡ true → l.flow ≡ g)
    → SentLive (Speaks from (replay g.params g.entries).iss (accepted g.entries)) l
flow_speaks t from g l known only =
    each_under (l.flow.tuple ≡ from) (IsOf (replay g.params g.entries).iss (accepted g.entries)) (sent l.flow.entries)
    (λ same. let is : l.flow ≡ g = only
    (subst (λ (u : FourTuple). same_tuple from u ≡ true) (sym same) (same_self from)) in
    subst (λ (f : Flow). Each (IsOf (replay f.params f.entries).iss (accepted f.entries)) (sent l.flow.entries)) is
    (sent_is_of l.flow.params l.flow.entries known.fits known.legal))

flows_speak : (t : ℕ) (from : FourTuple) (g : Flow) (ls : List Live) → Each (λ (l : Live). IsKnown t l.flow) ls
    → Each (λ (l : Live). same_tuple from l.flow.tuple ≡ true → l.flow ≡ g) ls
    → Each (SentLive (Speaks from (replay g.params g.entries).iss (accepted g.entries))) ls
flows_speak t from g [] known only = tt
flows_speak t from g (l ∷ ls) known only =
    (flow_speaks t from g l known.0 only.0, flows_speak t from g ls known.1 only.1)

-- ----- what a flow took
entries_taken : (tuple : FourTuple) (first : ℕ) (stream : List ℕ) (h : List Entry)
    → Each (λ (x : Entry). Heard (Speaks (reversed tuple) first stream) tuple x.call) h → AllTaken first stream h
entries_taken tuple first stream [] all = tt
entries_taken tuple first stream (x ∷ xs) all = (by_call x.call all.0, entries_taken tuple first stream xs all.1) where
  by_call : (call : Call) → Heard (Speaks (reversed tuple) first stream) tuple call → Takes first stream call
  by_call (calls.Rx frame seg) heard = heard refl
  by_call (calls.Passive frame iss seg) heard = (heard.0 refl, heard.1, heard.2)
  by_call _ heard = tt

-- ----- a whole run
abbrev Anything : FourTuple → Seg → Type 0
Anything tuple seg = Unit {0}

anything_on_line : (event : LogEvent) → LineHas Anything event
anything_on_line (events.Stray frame tuple seg None) = tt
anything_on_line (events.Stray frame tuple seg (Some head)) = tt
anything_on_line _ = tt

abbrev pub LinesReset : World → Type 0
LinesReset world = Each (λ (site : Site (List Script)). Each (λ (l : LogLine). LineResets l.event) site.host.log) world

-- each answer to a stray is a reset
pub lines_reset : (s : Scenario) (end : End) → IsFaithful s.link → RunsFrom s s.limit 0 (at_start s) end
    → LinesReset end.world
lines_reset s end faithful run =
    each_as _ _ (λ site heard. heard.lines) end.world
    (run_heard Anything Anything (λ tuple seg q. tt) s end faithful run
    (each_always (SentSite Anything) (λ site. record {
      flows = each_always (SentLive Anything)
          (λ l. each_always (Anything l.flow.tuple) (λ seg. tt) (sent l.flow.entries)) site.host.flows;
      lines = each_always _ (λ l. anything_on_line l.event) site.host.log;
    }) end.world))

module _ (s : Scenario) (end : End) (fits : AreInRange s.hosts) (low : s.limit ≤ 10000) (faithful : IsFaithful s.link)
    (run : RunsFrom s s.limit 0 (at_start s) end) where
  abbrev hosts : List HostRun
  hosts = hosts_of s.hosts end.world

  right : AllRight s.limit s.hosts end.world
  right = run_right s end run

  all_known : Each (IsKnown s.limit) (flows_in hosts)
  all_known =
      all_of_log (IsKnown s.limit) hosts
      (log_too (IsKnown s.limit) s.hosts end.world (world_known s.limit s.hosts end.world fits right))

  -- the one other end of a flow
  abbrev Other : Flow → Type 0
  Other h = (g : Flow) × (other_ends h hosts ≡ g ∷ [])

  other_known : (h : Flow) (o : Other h) → IsKnown s.limit o.0
  other_known h o =
      (subst (Each (IsKnown s.limit)) o.1
      (each_filter (IsKnown s.limit) (λ (g : Flow). same_tuple (reversed h.tuple) g.tuple)
      (flows_in hosts) all_known)).0

  abbrev Only : (h g : Flow) → Flow → Type 0
  Only h g f = same_tuple (reversed h.tuple) f.tuple ≡ true → f ≡ g

  other_only : (h : Flow) (o : Other h) → InWorld (Only h o.0) end.world
  other_only h o =
      world_of_log (Only h o.0) s.limit s.hosts end.world right (log_of_all (Only h o.0) hosts
      (filter_tells (λ (f : Flow). f ≡ o.0) (λ (g : Flow). same_tuple (reversed h.tuple) g.tuple) (flows_in hosts)
      (subst (Each (λ (f : Flow). f ≡ o.0)) (sym o.1) (refl, tt))))

  abbrev Direction : (h g : Flow) → FourTuple → Seg → Type 0
  Direction h g = Speaks (reversed h.tuple) (replay g.params g.entries).iss (accepted g.entries)

  sites_speak : (h g : Flow) (world : World) → InWorld (IsKnown s.limit) world → InWorld (Only h g) world
      → LinesReset world → Each (SentSite (Direction h g)) world
  sites_speak h g [] known only resets = tt
  sites_speak h g (site ∷ sites) known only resets = (
    record {
      flows = flows_speak s.limit (reversed h.tuple) g site.host.flows known.0 only.0;
      lines = each_as _ _
          (λ l. line_speaks (reversed h.tuple) (replay g.params g.entries).iss
          (accepted g.entries) l.event) site.host.log resets.0;
    },
    sites_speak h g sites known.1 only.1 resets.1,
  )

  -- what every flow took that is of the direction from the other end of `h`
  abbrev Took : (h g : Flow) → Flow → Type 0
  Took h g f = Each (λ (x : Entry). Heard (Direction h g) f.tuple x.call) f.entries

  all_took : (h : Flow) (o : Other h) → Each (Took h o.0) (flows_in hosts)
  all_took h o =
      all_of_log (Took h o.0) hosts (log_too (Took h o.0) s.hosts end.world
      (each_as _ _ (λ site heard. heard.flows) end.world
      (run_heard (Direction h o.0) (Direction h o.0)
      (speaks_read (reversed h.tuple) (replay o.0.params o.0.entries).iss (accepted o.0.entries)) s end faithful run
      (sites_speak h o.0 end.world (world_known s.limit s.hosts end.world fits right) (other_only h o)
      (lines_reset s end faithful run)))))

  own_took : Each (λ (h : Flow). (o : Other h) → Took h o.0 h) (flows_in hosts)
  own_took =
      each_self (λ (h f : Flow). (o : Other h) → Took h o.0 f) (flows_in hosts)
      (λ h. each_given (Other h) (λ o f. Took h o.0 f) (flows_in hosts) (λ o. all_took h o))

  hears : (h : Flow) → IsKnown s.limit h × ((o : Other h) → Took h o.0 h) → HearsOtherEnd hosts h
  hears h both g one =
      let other : IsKnown s.limit g = other_known h (g, one) in
      let most : length (accepted g.entries) ≤ 65536 * (ticks_in g.entries + 17) =
      time_bounds g.params g.entries other.fits other.legal in
      let short : length (accepted g.entries) + 2 < 2 ^ 31 = omega (arith, most, other.ticks, low) in
      taken_is h.params (replay g.params g.entries).iss (accepted g.entries) h.entries both.0.legal short
      (entries_taken h.tuple (replay g.params g.entries).iss (accepted g.entries) h.entries (both.1 (g, one)))

  reads : (h : Flow) → IsKnown s.limit h × HearsOtherEnd hosts h → ReadsOtherEnd hosts h
  reads h both g one =
      let got : List ℕ = (replay h.params h.entries).rx.got in
      let ended : (replay h.params h.entries).rx.ended ≡ true → got ≡ accepted g.entries =
      (got_is_prefix h.params (accepted g.entries) h.entries both.0.legal (both.1 g one)).1 in
      let last = end_is_last h.params h.entries both.0.fits both.0.legal in
      record {
        reads = read_is_of_stream h.params (accepted g.entries) h.entries both.0.fits both.0.legal (both.1 g one);
        ended = ended;
        whole = λ told. (last told).1 ∙ ended (last told).0;
      }

  all_hear : Each (HearsOtherEnd hosts) (flows_in hosts)
  all_hear =
      each_as _ (HearsOtherEnd hosts) hears (flows_in hosts)
      (each_both (IsKnown s.limit) (λ (h : Flow). (o : Other h) → Took h o.0 h) (flows_in hosts) all_known own_took)

  pub end_hears : InLog (HearsOtherEnd hosts) hosts
  end_hears = log_of_all (HearsOtherEnd hosts) hosts all_hear

  pub end_reads : InLog (ReadsOtherEnd hosts) hosts
  end_reads =
      log_of_all (ReadsOtherEnd hosts) hosts
      (each_as _ (ReadsOtherEnd hosts) reads (flows_in hosts)
      (each_both (IsKnown s.limit) (HearsOtherEnd hosts) (flows_in hosts) all_known all_hear))

pub run_hears : (s : Scenario) (log : RunLog) → AreInRange s.hosts → s.limit ≤ 10000 → IsFaithful s.link → Run s log
    → InLog (HearsOtherEnd log.hosts) log.hosts
run_hears s log fits low faithful run =
    subst (λ (r : RunLog). InLog (HearsOtherEnd r.hosts) r.hosts) (sym run.2)
    (end_hears s run.0 fits low faithful run.1)

pub run_reads : (s : Scenario) (log : RunLog) → AreInRange s.hosts → s.limit ≤ 10000 → IsFaithful s.link → Run s log
    → InLog (ReadsOtherEnd log.hosts) log.hosts
run_reads s log fits low faithful run =
    subst (λ (r : RunLog). InLog (ReadsOtherEnd r.hosts) r.hosts) (sym run.2)
    (end_reads s run.0 fits low faithful run.1)
