-- What comes to a host of a run: each frame from the host that its name tells, with that host's address.
use Rattle.std.proofs.Common.{◌≡◌, ℕ, suc, ◌+◌, ◌≤◌, ◌<◌, ◌^◌, ◌==◌, not, Bool, true, false, cond, ltb}
use Rattle.std.proofs.Common.{List, []}
use Rattle.std.proofs.Common.{◌∷◌, ◌++◌, length, map, filter, Option, Some, None, refl, sym, subst, ◌∙◌, arith}
use Rattle.std.proofs.lemmas.Bool.Decides.{nat_tests}
use Rattle.std.proofs.lemmas.Bool.{eqb-true}
use Rattle.std.specs.Prelude.{slice_get, position, unwrap_or}
use Rattle.std.specs.List.{flat_map, position_or_len}
use Rattle.segment_fields.specs.Canon.{canon}
use Rattle.segment_fields.specs.Bytes.{word}
use Rattle.segment_fields.specs.Text.{refusal, fields_in}
use Rattle.segment_fields.specs.Refusals.{number_of}
use Rattle.segment_fields.specs.declared.segment.Refused.{Refused}
use Rattle.tas_model.specs.declared.entry.FourTuple.{FourTuple}
use Rattle.tas_model.specs.declared.entry.HostParams.{HostParams}
use Rattle.tas_model.specs.declared.entry.Seg.{Seg}
use Rattle.tas_model.specs.declared.entry.Entry.{Entry}
use Rattle.tas_model.specs.Segments.{bare}
use Rattle.tas_model.specs.Outputs.{segments_in}
use Rattle.tas_model.proofs.Tests.{on_cond}
use Rattle.host_rounds.specs.declared.log.LogLine.{LogLine}
use Rattle.host_rounds.specs.declared.log.LogEvent.{LogEvent}
use Rattle.host_rounds.specs.declared.log.LogEvent.TheVariants as events
use Rattle.host_rounds.specs.Lists.{Each}
use Rattle.host_rounds.specs.Hosts.{Live}
use Rattle.host_rounds.specs.Scripts.{Site}
use Rattle.host_rounds.proofs.Lists.{each_append}
use Rattle.tas_runs.specs.Records.{Damaged, Remote, due_content, receiver_tuple, segment_of}
use Rattle.tas_runs.specs.SentFrames.{sent_fields}
use Rattle.link_script.specs.declared.frames.Sent.{Sent}
use Rattle.link_script.specs.declared.script.LinkAct.{LinkAct}
use Rattle.link_script.specs.declared.script.LinkAct.TheVariants as acts
use Rattle.link_script.specs.LinkLines.{LinkLines}
use Rattle.link_script.specs.DueFrames.{act_on, inverted, copies_under, is_due, coming_of, goes_before, placed}
use Rattle.link_script.specs.DueFrames.{in_due_order, due}
use Rattle.scenario_runs.specs.Applications.{Script}
use Rattle.scenario_runs.specs.Worlds.{World, host_at, no_flow, frames_of_segments, frames_of_entries, frames_of_flows}
use Rattle.scenario_runs.specs.Worlds.{answer_on, frames_of_answer, frames_of_log, frames_of_hosts, sent_in, packet_by}
use Rattle.scenario_runs.specs.Worlds.{arrival, arrivals_at}
use Rattle.audited_runs.proofs.Inverted.{Says, canon_says, inverted_carried}
use Rattle.audited_runs.proofs.Telling.{IsOf, EventTold, PacketTold, Comes, LiveTold, LineTold}
use Rattle.audited_runs.proofs.Telling.{HostTold}

-- ----- places
place_is : {X : Type 0} (p : X → Bool) (xs : List X) → position_or_len p xs ≤ length xs
place_is p [] = omega arith
place_is p (x ∷ xs) =
    let rest : position_or_len p xs ≤ length xs = place_is p xs in
    on_cond (λ (n : ℕ). n ≤ suc (length xs)) (not (p x)) (1 + position_or_len p xs) 0 (λ t. omega (arith, rest))
    (λ t. omega arith)

first_place : {X : Type 0} (p : X → Bool) (xs : List X) → unwrap_or (position p xs) (length xs) ≡ position_or_len p xs
first_place p xs = by_test (ltb (position_or_len p xs) (length xs)) refl where
  by_test : (b : Bool) → ltb (position_or_len p xs) (length xs) ≡ b
      → unwrap_or (cond b (Some (position_or_len p xs)) None) (length xs) ≡ position_or_len p xs
  by_test true e = refl
  by_test false e =
      let most : position_or_len p xs ≤ length xs = place_is p xs in
      let least : length xs ≤ position_or_len p xs = grind (arith, nat_tests, e) in omega (arith, most, least)

passes_there : {X : Type 0} (p : X → Bool) (xs : List X) (n : ℕ) (x : X) → position_or_len p xs ≡ n
    → slice_get xs n ≡ Some x → p x ≡ true
passes_there p [] n x e at = absurd (cc (at))
passes_there p (y ∷ ys) n x e at = by_test (p y) refl e (λ f. passes_there p ys (position_or_len p ys) x refl f) where
  by_test : (b : Bool) → p y ≡ b → cond (not b) (1 + position_or_len p ys) 0 ≡ n
      → (slice_get ys (position_or_len p ys) ≡ Some x → p x ≡ true) → p x ≡ true
  by_test true is e more =
      let here : slice_get (y ∷ ys) 0 ≡ Some x = subst (λ (k : ℕ). slice_get (y ∷ ys) k ≡ Some x) (sym e) at in
      let same : y ≡ x = cc (here) in
      subst (λ (z : _). p z ≡ true) same is
  by_test false is e more =
      let next : 1 + position_or_len p ys ≡ suc (position_or_len p ys) = omega arith in
      more (subst (λ (k : ℕ). slice_get (y ∷ ys) k ≡ Some x) (sym e ∙ next) at)

abbrev At : Type 0
At = Site (List Script)

-- a frame comes to the host of its address
own_address : (world : World) (h dst : ℕ) (site : At) → host_at world dst ≡ h → slice_get world h ≡ Some site
    → site.host.params.addr ≡ dst
own_address world h dst site to at =
    let test : At → Bool = λ (x : At). x.host.params.addr == dst in
    eqb-true site.host.params.addr dst (passes_there test world h site (sym (first_place test world) ∙ to) at)

-- ----- a packet
told_by : (o : Option Refused) (b : List ℕ) (src dst : ℕ) → (o ≡ None → (word b 12 ≡ src) × (word b 16 ≡ dst))
    → PacketTold [] src dst (packet_by (elim o [
      | Some rule ↦ Damaged (number_of rule)
      | None ↦ Remote (receiver_tuple (fields_in b)) (segment_of (fields_in b))
    ]))
told_by None b src dst says = says refl
told_by (Some rule) b src dst says = tt

says_told : (b : List ℕ) (src dst : ℕ) → Says src dst b → PacketTold [] src dst (packet_by (due_content false b))
says_told b src dst says = told_by (refusal true b) b src dst says

-- ----- a world
-- The hosts of a world have these parameters, and what is known of them.
abbrev pub AllTold : (addrs : List ℕ) → List HostParams → World → Type 0
AllTold addrs [] [] = Unit {0}
AllTold addrs (p ∷ ps) (site ∷ sites) = HostTold addrs p site.host × AllTold addrs ps sites
AllTold addrs _ _ = ⊥

-- the host of this number has this address, which is one of 32 bits
pub record HasAddr (addrs : List ℕ) (h src : ℕ) : Type 0 where
  pub at : slice_get addrs h ≡ Some src
  pub low : src < 2 ^ 32

-- the hosts from this one on have these parameters
abbrev pub AreFrom : (addrs : List ℕ) → (h : ℕ) → List HostParams → Type 0
AreFrom addrs h [] = Unit {0}
AreFrom addrs h (p ∷ ps) = HasAddr addrs h p.addr × AreFrom addrs (h + 1) ps

-- ----- what was sent
-- `addrs` are the addresses of all hosts, whose world is `whole`.
module _ (addrs : List ℕ) (whole : World) where
  -- A frame that was sent.
  record IsSent (f : Sent) : Type 0 where
    pub tuple : FourTuple
    pub seg : Seg
    pub of : IsOf addrs f.id tuple.laddr
    pub far : tuple.raddr < 2 ^ 32
    pub to : f.to ≡ host_at whole tuple.raddr
    pub packet : f.packet ≡ canon (sent_fields tuple seg)

  segments_sent : (h flow n t : ℕ) (tuple : FourTuple) (segs : List Seg) → HasAddr addrs h tuple.laddr
      → tuple.raddr < 2 ^ 32 → Each IsSent (frames_of_segments h flow n t (host_at whole tuple.raddr) tuple segs)
  segments_sent h flow n t tuple [] has far = tt
  segments_sent h flow n t tuple (seg ∷ segs) has far = (
    record {
      tuple = tuple;
      seg = seg;
      of = record { host = has.at; low = has.low; copy = omega arith };
      far = far;
      to = refl;
      packet = refl;
    },
    segments_sent h flow (n + 1) t tuple segs has far,
  )

  entries_sent : (h flow n : ℕ) (tuple : FourTuple) (xs : List Entry) → HasAddr addrs h tuple.laddr
      → tuple.raddr < 2 ^ 32
      → Each IsSent (frames_of_entries h flow n (host_at whole tuple.raddr) tuple xs)
  entries_sent h flow n tuple [] has far = tt
  entries_sent h flow n tuple (x ∷ xs) has far =
      each_append IsSent
      (frames_of_segments h flow n x.tick (host_at whole tuple.raddr) tuple (segments_in x.reply))
      (frames_of_entries h flow (n + length (segments_in x.reply)) (host_at whole tuple.raddr) tuple xs)
      (segments_sent h flow n x.tick tuple (segments_in x.reply) has far)
      (entries_sent h flow (n + length (segments_in x.reply)) tuple xs has far)

  flows_sent : (p : HostParams) (h n : ℕ) (ls : List Live) → HasAddr addrs h p.addr → Each (LiveTold addrs p) ls
      → Each IsSent (frames_of_flows whole h n ls)
  flows_sent p h n [] has told = tt
  flows_sent p h n (l ∷ ls) has told =
      each_append IsSent
      (frames_of_entries h n 0 (host_at whole l.flow.tuple.raddr) l.flow.tuple l.flow.entries)
      (frames_of_flows whole h (n + 1) ls)
      (entries_sent h n 0 l.flow.tuple l.flow.entries (subst (HasAddr addrs h) (sym told.0.own) has) told.0.far)
      (flows_sent p h (n + 1) ls has told.1)

  answer_sent : (p : HostParams) (h n t : ℕ) (event : LogEvent) → HasAddr addrs h p.addr → EventTold addrs event p.addr
      → Each IsSent (frames_of_answer whole h n t (answer_on event))
  answer_sent p h n t (events.Stray frame tuple seg (Some head)) has told =
      segments_sent h no_flow n t tuple (bare head ∷ []) (subst (HasAddr addrs h) (sym told.1) has) told.0.low
  answer_sent p h n t (events.Stray frame tuple seg None) has told = tt
  answer_sent p h n t _ has told = tt

  log_sent : (p : HostParams) (h n : ℕ) (ls : List LogLine) → HasAddr addrs h p.addr → Each (LineTold addrs p) ls
      → Each IsSent (frames_of_log whole h n ls)
  log_sent p h n [] has told = tt
  log_sent p h n (l ∷ ls) has told =
      each_append IsSent (frames_of_answer whole h n l.tick (answer_on l.event))
      (frames_of_log whole h (n + length (frames_of_answer whole h n l.tick (answer_on l.event))) ls)
      (answer_sent p h n l.tick l.event has told.0)
      (log_sent p h (n + length (frames_of_answer whole h n l.tick (answer_on l.event))) ls has told.1)

  hosts_sent : (h : ℕ) (ps : List HostParams) (sites : World) → AreFrom addrs h ps → AllTold addrs ps sites
      → Each IsSent (frames_of_hosts whole h sites)
  hosts_sent h [] [] from told = tt
  hosts_sent h [] (site ∷ sites) from told = absurd told
  hosts_sent h (p ∷ ps) [] from told = tt
  hosts_sent h (p ∷ ps) (site ∷ sites) from told =
      each_append IsSent (frames_of_flows whole h 0 site.host.flows ++ frames_of_log whole h 0 site.host.log)
      (frames_of_hosts whole (h + 1) sites)
      (each_append IsSent (frames_of_flows whole h 0 site.host.flows) (frames_of_log whole h 0 site.host.log)
      (flows_sent p h 0 site.host.flows from.0 told.0.flows) (log_sent p h 0 site.host.log from.0 told.0.lines))
      (hosts_sent (h + 1) ps sites from.1 told.1)

  -- ----- what comes of it
  record IsUnderWay (f : Sent) : Type 0 where
    pub src : ℕ
    pub dst : ℕ
    pub of : IsOf addrs f.id src
    pub to : f.to ≡ host_at whole dst
    pub packet : PacketTold addrs src dst (packet_by (due_content false f.packet))

  as_sent : (f : Sent) → IsSent f → IsUnderWay f
  as_sent f is = record {
    src = is.tuple.laddr;
    dst = is.tuple.raddr;
    of = is.of;
    to = is.to;
    packet = subst (λ (b : List ℕ). PacketTold addrs is.tuple.laddr is.tuple.raddr (packet_by (due_content false b)))
        (sym is.packet)
        (says_told (canon (sent_fields is.tuple is.seg)) is.tuple.laddr is.tuple.raddr
        (λ right. canon_says (sent_fields is.tuple is.seg)));
  }

  again : (f : Sent) → IsSent f → IsUnderWay (record f { id = record (f.id) { copy = 1 } })
  again f is =
      let one = as_sent f is in
      record {
        src = one.src;
        dst = one.dst;
        of = record { host = one.of.host; low = one.of.low; copy = omega arith };
        to = one.to;
        packet = one.packet;
      }

  damaged : (place : ℕ) (f : Sent) → IsSent f → IsUnderWay (record f { packet = inverted f.packet place })
  damaged place f is = record {
    src = is.tuple.laddr;
    dst = is.tuple.raddr;
    of = is.of;
    to = is.to;
    packet = subst (λ (b : List ℕ). PacketTold addrs is.tuple.laddr is.tuple.raddr
        (packet_by (due_content false (inverted b place)))) (sym is.packet)
        (says_told (inverted (canon (sent_fields is.tuple is.seg)) place) is.tuple.laddr is.tuple.raddr
        (inverted_carried (sent_fields is.tuple is.seg) place is.of.low is.far));
  }

  copies_come : (act : Option LinkAct) (f : Sent) → IsSent f → Each IsUnderWay (copies_under act f)
  copies_come (Some acts.Dup) f is = (as_sent f is, (again f is, tt))
  copies_come (Some (acts.Corrupt place)) f is = (damaged place f is, tt)
  copies_come (Some acts.Drop) f is = (as_sent f is, tt)
  copies_come (Some (acts.Delay ticks)) f is = (as_sent f is, tt)
  copies_come None f is = (as_sent f is, tt)

  all_come : (lines : LinkLines) (t : ℕ) (fs : List Sent) → Each IsSent fs
      → Each IsUnderWay (flat_map (coming_of lines t) fs)
  all_come lines t [] all = tt
  all_come lines t (f ∷ fs) all =
      each_append IsUnderWay (coming_of lines t f) (flat_map (coming_of lines t) fs)
      (on_cond (Each IsUnderWay) (is_due lines t f) (copies_under (act_on lines f.id) f) []
      (λ h. copies_come (act_on lines f.id) f all.0) (λ h. tt)) (all_come lines t fs all.1)

  placed_too : (f : Sent) (fs : List Sent) → IsUnderWay f → Each IsUnderWay fs → Each IsUnderWay (placed f fs)
  placed_too f [] one all = (one, tt)
  placed_too f (g ∷ gs) one all = by_order (goes_before g f) (placed_too f gs one all.1) where
    by_order : (b : Bool) → Each IsUnderWay (placed f gs)
        → Each IsUnderWay (elim b [ true ↦ g ∷ placed f gs | false ↦ f ∷ g ∷ gs ])
    by_order true rest = (all.0, rest)
    by_order false rest = (one, all)

  ordered_too : (fs : List Sent) → Each IsUnderWay fs → Each IsUnderWay (in_due_order fs)
  ordered_too [] all = tt
  ordered_too (f ∷ fs) all = placed_too f (in_due_order fs) all.0 (ordered_too fs all.1)

  -- ----- what comes to a host
  arrival_comes : (h : ℕ) (site : At) (f : Sent) → slice_get whole h ≡ Some site → IsUnderWay f → f.to ≡ h
      → Comes addrs site.host.params.addr (arrival f)
  arrival_comes h site f at way to =
      let same : site.host.params.addr ≡ way.dst = own_address whole h way.dst site (sym way.to ∙ to) at in
      record {
        src = way.src;
        frame = way.of;
        packet = subst (λ (own : ℕ). PacketTold addrs way.src own (packet_by (due_content false f.packet))) (sym same)
            way.packet;
      }

  arrivals_come : (h : ℕ) (site : At) (fs : List Sent) → slice_get whole h ≡ Some site → Each IsUnderWay fs
      → Each (Comes addrs site.host.params.addr) (map arrival (filter (λ (f : Sent). f.to == h) fs))
  arrivals_come h site [] at all = tt
  arrivals_come h site (f ∷ fs) at all = by_test (f.to == h) refl (arrivals_come h site fs at all.1) where
    others : List Sent
    others = filter (λ (g : Sent). g.to == h) fs

    by_test : (b : Bool) → (f.to == h) ≡ b → Each (Comes addrs site.host.params.addr) (map arrival others)
        → Each (Comes addrs site.host.params.addr) (map arrival (cond b (f ∷ others) others))
    by_test true e rest = (arrival_comes h site f at all.0 (eqb-true f.to h e), rest)
    by_test false e rest = rest

  pub due_come : (lines : LinkLines) (t h : ℕ) (site : At) (ps : List HostParams) → AreFrom addrs 0 ps
      → AllTold addrs ps whole
      → slice_get whole h ≡ Some site
      → Each (Comes addrs site.host.params.addr) (arrivals_at lines (sent_in whole) t h)
  due_come lines t h site ps from told at =
      arrivals_come h site (due lines (sent_in whole) t) at
      (ordered_too (flat_map (coming_of lines t) (sent_in whole))
      (all_come lines t (sent_in whole) (hosts_sent 0 ps whole from told)))
