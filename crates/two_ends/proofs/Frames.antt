-- What all that was sent has, each frame has that comes of it, where the link damages nothing.
use Rattle.std.proofs.Common.{◌≡◌, ℕ, ◌+◌, ◌==◌, Bool, true, false, List, [], ◌∷◌, ◌++◌, length, map, filter}
use Rattle.std.proofs.Common.{Option, Some, None, refl, sym, subst, ap, ◌∙◌, nat_le}
use Rattle.std.specs.List.{flat_map}
use Rattle.std.specs.Map.{lookup}
use Rattle.segment_fields.specs.Fields.{Fields}
use Rattle.segment_fields.specs.Canon.{canon}
use Rattle.segment_fields.specs.Text.{refusal, fields_in}
use Rattle.segment_fields.specs.Refusals.{number_of}
use Rattle.segment_fields.specs.declared.segment.Refused.{Refused}
use Rattle.segment_fields.proofs.RoundTrip.{refusal-canon, fields_in-canon}
use Rattle.tas_model.specs.declared.entry.FourTuple.{FourTuple}
use Rattle.tas_model.specs.declared.entry.FrameId.{FrameId}
use Rattle.tas_model.specs.declared.entry.Seg.{Seg}
use Rattle.tas_model.specs.declared.entry.Entry.{Entry}
use Rattle.tas_model.specs.Segments.{bare}
use Rattle.tas_model.specs.Outputs.{segments_in, sent}
use Rattle.tas_model.proofs.Tests.{on_cond}
use Rattle.host_rounds.specs.declared.log.LogLine.{LogLine}
use Rattle.host_rounds.specs.declared.log.LogEvent.{LogEvent}
use Rattle.host_rounds.specs.declared.log.LogEvent.TheVariants as events
use Rattle.host_rounds.specs.Lists.{Each}
use Rattle.host_rounds.specs.Hosts.{Live}
use Rattle.host_rounds.specs.Scripts.{Site}
use Rattle.host_rounds.proofs.Lists.{each_append}
use Rattle.tas_runs.specs.Records.{Content, Damaged, Remote, due_content, receiver_tuple, segment_of}
use Rattle.tas_runs.specs.SentFrames.{sent_fields}
use Rattle.link_script.specs.declared.frames.Sent.{Sent}
use Rattle.link_script.specs.declared.script.Target.{Target}
use Rattle.link_script.specs.declared.script.LinkAct.{LinkAct}
use Rattle.link_script.specs.declared.script.LinkAct.TheVariants as acts
use Rattle.link_script.specs.LinkLines.{LinkLines, line_on}
use Rattle.link_script.specs.DueFrames.{act_on, copies_under, is_due, coming_of, goes_before, placed, in_due_order, due}
use Rattle.scenario_runs.specs.Applications.{Script}
use Rattle.scenario_runs.specs.Worlds.{World, host_at, frames_of_segments, frames_of_entries, frames_of_flows}
use Rattle.scenario_runs.specs.Worlds.{answer_on, frames_of_answer, frames_of_log, frames_of_hosts, sent_in, packet_by}
use Rattle.scenario_runs.specs.Worlds.{arrival, arrivals_at}
use Rattle.two_ends.specs.Ends.{is_corrupt, IsFaithful, reversed}
use Rattle.two_ends.specs.Origins.{as_read}
use Rattle.two_ends.proofs.Lists.{each_left, each_right, each_filter}
use Rattle.two_ends.proofs.Back.{SentLive, LineHas, SentHost}
use Rattle.two_ends.proofs.Heard.{Comes, ComesIn}

-- ----- one packet
content_by : (o : Option Refused) (b : List ℕ) → o ≡ None
    → ◌≡◌ {A = Content}
    (elim o [
      | Some rule ↦ Damaged (number_of rule)
      | None ↦ Remote (receiver_tuple (fields_in b))
          (segment_of (fields_in b))
    ])
    (Remote (receiver_tuple (fields_in b)) (segment_of (fields_in b)))
content_by None b h = refl
content_by (Some rule) b h = absurd (cc (h))

content_is : (tuple : FourTuple) (seg : Seg)
    → due_content false (canon (sent_fields tuple seg)) ≡ Remote (reversed tuple) (as_read seg)
content_is tuple seg =
    let f : Fields = sent_fields tuple seg in
    content_by (refusal true (canon f)) (canon f) (refusal-canon true f)
    ∙ ap (λ (g : Fields). Remote (receiver_tuple g) (segment_of g)) (fields_in-canon f)

module _ (Q : FourTuple → Seg → Type 0) where
  -- The frame is one of a segment with the property.
  abbrev pub IsGood : Sent → Type 0
  IsGood f = (tuple : FourTuple) × (seg : Seg) × Q tuple seg × (f.packet ≡ canon (sent_fields tuple seg))

  -- ----- what was sent
  segments_good : (host flow n t to : ℕ) (tuple : FourTuple) (segs : List Seg) → Each (Q tuple) segs
      → Each IsGood (frames_of_segments host flow n t to tuple segs)
  segments_good host flow n t to tuple [] all = tt
  segments_good host flow n t to tuple (seg ∷ segs) all =
      ((tuple, seg, all.0, refl), segments_good host flow (n + 1) t to tuple segs all.1)

  entries_good : (host flow n to : ℕ) (tuple : FourTuple) (h : List Entry) → Each (Q tuple) (sent h)
      → Each IsGood (frames_of_entries host flow n to tuple h)
  entries_good host flow n to tuple [] all = tt
  entries_good host flow n to tuple (x ∷ xs) all =
      each_append IsGood (frames_of_segments host flow n x.tick to tuple (segments_in x.reply))
      (frames_of_entries host flow (n + length (segments_in x.reply)) to tuple xs)
      (segments_good host flow n x.tick to tuple (segments_in x.reply)
      (each_left (Q tuple) (segments_in x.reply) (sent xs) all))
      (entries_good host flow (n + length (segments_in x.reply)) to tuple xs
      (each_right (Q tuple) (segments_in x.reply) (sent xs) all))

  flows_good : (world : World) (host n : ℕ) (ls : List Live) → Each (SentLive Q) ls
      → Each IsGood (frames_of_flows world host n ls)
  flows_good world host n [] all = tt
  flows_good world host n (l ∷ ls) all =
      each_append IsGood (frames_of_entries host n 0 (host_at world l.flow.tuple.raddr) l.flow.tuple l.flow.entries)
      (frames_of_flows world host (n + 1) ls)
      (entries_good host n 0 (host_at world l.flow.tuple.raddr) l.flow.tuple l.flow.entries all.0)
      (flows_good world host (n + 1) ls all.1)

  answer_good : (world : World) (host n t : ℕ) (event : LogEvent) → LineHas Q event
      → Each IsGood (frames_of_answer world host n t (answer_on event))
  answer_good world host n t (events.Stray frame tuple seg (Some head)) has = ((tuple, bare head, has, refl), tt)
  answer_good world host n t (events.Stray frame tuple seg None) has = tt
  answer_good world host n t _ has = tt

  log_good : (world : World) (host n : ℕ) (ls : List LogLine) → Each (λ (l : LogLine). LineHas Q l.event) ls
      → Each IsGood (frames_of_log world host n ls)
  log_good world host n [] all = tt
  log_good world host n (l ∷ ls) all =
      each_append IsGood (frames_of_answer world host n l.tick (answer_on l.event))
      (frames_of_log world host (n + length (frames_of_answer world host n l.tick (answer_on l.event))) ls)
      (answer_good world host n l.tick l.event all.0)
      (log_good world host (n + length (frames_of_answer world host n l.tick (answer_on l.event))) ls all.1)

  abbrev pub SentSite : Site (List Script) → Type 0
  SentSite site = SentHost Q site.host

  hosts_good : (world : World) (h : ℕ) (sites : World) → Each SentSite sites
      → Each IsGood (frames_of_hosts world h sites)
  hosts_good world h [] all = tt
  hosts_good world h (site ∷ sites) all =
      each_append IsGood (frames_of_flows world h 0 site.host.flows ++ frames_of_log world h 0 site.host.log)
      (frames_of_hosts world (h + 1) sites)
      (each_append IsGood (frames_of_flows world h 0 site.host.flows) (frames_of_log world h 0 site.host.log)
      (flows_good world h 0 site.host.flows all.0.flows) (log_good world h 0 site.host.log all.0.lines))
      (hosts_good world (h + 1) sites all.1)

  -- ----- the link
  abbrev Spares : Option LinkAct → Type 0
  Spares None = Unit {0}
  Spares (Some act) = is_corrupt act ≡ false

  copies_good : (act : Option LinkAct) (f : Sent) → Spares act → IsGood f → Each IsGood (copies_under act f)
  copies_good (Some acts.Dup) f spares good = (good, ((good.0, good.1, good.2, good.3), tt))
  copies_good (Some (acts.Corrupt place)) f spares good = absurd (cc (spares))
  copies_good (Some acts.Drop) f spares good = (good, tt)
  copies_good (Some (acts.Delay ticks)) f spares good = (good, tt)
  copies_good None f spares good = (good, tt)

  lookup_spares : (test : Target → Bool) (lines : List (Target × LinkAct))
      → Each (λ (line : Target × LinkAct). is_corrupt line.1 ≡ false) lines → Spares (lookup test lines)
  lookup_spares test [] all = tt
  lookup_spares test (line ∷ lines) all =
      on_cond Spares (test line.0) (Some line.1) (lookup test lines) (λ t. all.0) (λ f. lookup_spares test lines all.1)

  act_spares : (lines : LinkLines) (id : FrameId) → IsFaithful lines → Spares (act_on lines id)
  act_spares lines id faithful =
      on_cond Spares (nat_le id.number 4294967294)
      (line_on lines (record { host = id.host; flow = id.flow; number = id.number })) None
      (λ t. lookup_spares _ lines.acts faithful) (λ f. tt)

  coming_good : (lines : LinkLines) (t : ℕ) (f : Sent) → IsFaithful lines → IsGood f → Each IsGood (coming_of lines t f)
  coming_good lines t f faithful good =
      on_cond (Each IsGood) (is_due lines t f) (copies_under (act_on lines f.id) f) []
      (λ h. copies_good (act_on lines f.id) f (act_spares lines f.id faithful) good) (λ h. tt)

  all_coming_good : (lines : LinkLines) (t : ℕ) (fs : List Sent) → IsFaithful lines → Each IsGood fs
      → Each IsGood (flat_map (coming_of lines t) fs)
  all_coming_good lines t [] faithful all = tt
  all_coming_good lines t (f ∷ fs) faithful all =
      each_append IsGood (coming_of lines t f) (flat_map (coming_of lines t) fs) (coming_good lines t f faithful all.0)
      (all_coming_good lines t fs faithful all.1)

  placed_good : (f : Sent) (fs : List Sent) → IsGood f → Each IsGood fs → Each IsGood (placed f fs)
  placed_good f [] good all = (good, tt)
  placed_good f (g ∷ gs) good all = by_order (goes_before g f) (placed_good f gs good all.1) where
    by_order : (b : Bool) → Each IsGood (placed f gs)
        → Each IsGood (elim b [ true ↦ g ∷ placed f gs | false ↦ f ∷ g ∷ gs ])
    by_order true rest = (all.0, rest)
    by_order false rest = (good, all)

  ordered_good : (fs : List Sent) → Each IsGood fs → Each IsGood (in_due_order fs)
  ordered_good [] all = tt
  ordered_good (f ∷ fs) all = placed_good f (in_due_order fs) all.0 (ordered_good fs all.1)

  -- ----- what comes
  -- `R` is of a segment as it is read.
  module _ (R : FourTuple → Seg → Type 0)
      (reads : (tuple : FourTuple) (seg : Seg) → Q tuple seg → R tuple (as_read seg)) where
    arrival_comes : (f : Sent) → IsGood f → ComesIn R (arrival f)
    arrival_comes f good =
        let content : due_content false f.packet ≡ Remote (reversed good.0) (as_read good.1) =
        ap (due_content false) good.3 ∙ content_is good.0 good.1 in
        subst (λ (c : Content). Comes R (packet_by c)) (sym content) (reads good.0 good.1 good.2)

    arrivals_come : (fs : List Sent) → Each IsGood fs → Each (ComesIn R) (map arrival fs)
    arrivals_come [] all = tt
    arrivals_come (f ∷ fs) all = (arrival_comes f all.0, arrivals_come fs all.1)

    pub due_come : (lines : LinkLines) (world : World) (t host : ℕ) → IsFaithful lines → Each SentSite world
        → Each (ComesIn R) (arrivals_at lines (sent_in world) t host)
    due_come lines world t host faithful all =
        arrivals_come (filter (λ (f : Sent). f.to == host) (due lines (sent_in world) t))
        (each_filter IsGood (λ (f : Sent). f.to == host) (due lines (sent_in world) t)
        (ordered_good (flat_map (coming_of lines t) (sent_in world))
        (all_coming_good lines t (sent_in world) faithful (hosts_good world 0 world all))))
