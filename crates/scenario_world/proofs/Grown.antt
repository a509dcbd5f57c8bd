-- The frames of histories that grew in a tick: those of other ticks are the same.
use Rattle.std.proofs.Common.{◌≡◌, ℕ, suc, ◌+◌, ◌-◌, ◌<◌, Bool, true, false, eqb, ltb, List, [], ◌∷◌, ◌++◌}
use Rattle.std.proofs.Common.{length, map, filter, replicate, Option, Some, None, refl, sym, ap, ◌∙◌, subst, arith}
use Rattle.std.proofs.Common.{append-nil}
use Rattle.std.proofs.lemmas.Bool.Decides.{nat_tests}
use Rattle.std.proofs.lemmas.List.Elements.{filter-append}
use Rattle.tas_model.specs.declared.entry.FourTuple.{FourTuple}
use Rattle.tas_model.specs.declared.entry.Head.{Head}
use Rattle.tas_model.specs.declared.entry.Seg.{Seg}
use Rattle.tas_model.specs.declared.entry.Entry.{Entry}
use Rattle.tas_model.specs.Outputs.{segments_in}
use Rattle.host_rounds.specs.declared.log.LogLine.{LogLine}
use Rattle.host_rounds.specs.Lists.{Each}
use Rattle.host_rounds.specs.Hosts.{Live}
use Rattle.host_rounds.specs.Passing.{AllAt, LinesAt, Grew, LogGrew, AllGrew}
use Rattle.host_rounds.specs.Openings.{Opening, opening_of}
use Rattle.host_rounds.proofs.Keeps.{openings}
use Rattle.link_script.specs.declared.frames.Sent.{Sent}
use Rattle.scenario_runs.specs.Worlds.{World, host_at, frames_of_entries, frames_of_flows}
use Rattle.scenario_runs.specs.Worlds.{answer_on, frames_of_answer, frames_of_log}
use Rattle.sent_frames.specs.declared.frames.Origin.{Origin}
use Rattle.sent_frames.specs.Sending.{of_tick, entry_frames, segment_frames, sent_by, sent_before, answers_in}
use Rattle.sent_frames.specs.Sending.{EntriesBefore, LinesBefore}
use Rattle.sent_frames.proofs.Numbered.{entry_frames-append, frames_of_log-append}

-- ----- a tick's frames have no other tick
other_segments : (o : Origin) (n t k : ℕ) (segs : List Seg) → eqb t k ≡ false
    → of_tick k (segment_frames o n t segs) ≡ []
other_segments o n t k [] h = refl
other_segments o n t k (seg ∷ segs) h = rw h (other_segments o (n + 1) t k segs h)

other_entries : (o : Origin) (n t k : ℕ) (xs : List Entry) → eqb t k ≡ false → AllAt t xs
    → of_tick k (entry_frames o n xs) ≡ []
other_entries o n t k [] h at = refl
other_entries o n t k (x ∷ xs) h at =
    let e : eqb x.tick k ≡ false = subst (λ m. eqb m k ≡ false) (sym at.0) h in
    let m : ℕ = n + length (segments_in x.reply) in
    filter-append (λ (f : Sent). eqb f.tick k) (segment_frames o n x.tick (segments_in x.reply)) (entry_frames o m xs)
    ∙ (ap (λ fs. fs ++ of_tick k (entry_frames o m xs)) (other_segments o n x.tick k (segments_in x.reply) e)
    ∙ other_entries o m t k xs h at.1)

other_answer : (world : World) (host n t k : ℕ) (a : Option (FourTuple × Head)) → eqb t k ≡ false
    → of_tick k (frames_of_answer world host n t a) ≡ []
other_answer world host n t k None h = refl
other_answer world host n t k (Some a) h = rw h refl

other_lines : (world : World) (host n t k : ℕ) (ls : List LogLine) → eqb t k ≡ false → LinesAt t ls
    → of_tick k (frames_of_log world host n ls) ≡ []
other_lines world host n t k [] h at = refl
other_lines world host n t k (l ∷ ls) h at =
    let e : eqb l.tick k ≡ false = subst (λ m. eqb m k ≡ false) (sym at.0) h in
    let front : List Sent = frames_of_answer world host n l.tick (answer_on l.event) in
    let back : List Sent = frames_of_log world host (n + length front) ls in
    filter-append (λ (f : Sent). eqb f.tick k) front back
    ∙ (ap (λ fs. fs ++ of_tick k back) (other_answer world host n l.tick k (answer_on l.event) e)
    ∙ other_lines world host (n + length front) t k ls h at.1)

-- ----- what grew
grown_entries : (o : Origin) (n t k : ℕ) (h g : List Entry) → eqb t k ≡ false → Grew t h g
    → of_tick k (entry_frames o n g) ≡ of_tick k (entry_frames o n h)
grown_entries o n t k h g e grew =
    let more : List Entry = grew.0 in
    ap (λ ys. of_tick k (entry_frames o n ys)) grew.1
    ∙ (ap (of_tick k) (entry_frames-append o n h more)
    ∙ (filter-append (λ (f : Sent). eqb f.tick k) (entry_frames o n h) (entry_frames o (n + sent_by h) more)
    ∙ (ap (λ fs. of_tick k (entry_frames o n h) ++ fs) (other_entries o (n + sent_by h) t k more e grew.2)
    ∙ append-nil (of_tick k (entry_frames o n h)))))

pub grown_log : (world : World) (host n t k : ℕ) (h g : List LogLine) → eqb t k ≡ false → LogGrew t h g
    → of_tick k (frames_of_log world host n g) ≡ of_tick k (frames_of_log world host n h)
grown_log world host n t k h g e grew =
    let more : List LogLine = grew.0 in
    let back : List Sent = frames_of_log world host (n + answers_in h) more in
    ap (λ ys. of_tick k (frames_of_log world host n ys)) grew.1
    ∙ (ap (of_tick k) (frames_of_log-append world host n h more)
    ∙ (filter-append (λ (f : Sent). eqb f.tick k) (frames_of_log world host n h) back
    ∙ (ap (λ fs. of_tick k (frames_of_log world host n h) ++ fs)
    (other_lines world host (n + answers_in h) t k more e grew.2)
    ∙ append-nil (of_tick k (frames_of_log world host n h)))))

-- the frames of one flow
abbrev pub live_frames : World → (host n : ℕ) → Live → List Sent
live_frames world host n l = frames_of_entries host n 0 (host_at world l.flow.tuple.raddr) l.flow.tuple l.flow.entries

grown_flow : (world : World) (host n t k : ℕ) (l m : Live) → eqb t k ≡ false → opening_of m.flow ≡ opening_of l.flow
    → Grew t l.flow.entries m.flow.entries
    → of_tick k (live_frames world host n m) ≡ of_tick k (live_frames world host n l)
grown_flow world host n t k l m e same grew =
    let tuple : m.flow.tuple ≡ l.flow.tuple = ap (λ (o : Opening). o.tuple) same in
    ap (λ (tu : FourTuple). of_tick k (frames_of_entries host n 0 (host_at world tu.raddr) tu m.flow.entries)) tuple
    ∙ grown_entries (record {
      host = host;
      flow = n;
      to = host_at world l.flow.tuple.raddr;
      tuple = l.flow.tuple;
    }) 0 t k
    l.flow.entries m.flow.entries e grew

pub grown_flows : (world : World) (host n t k : ℕ) (ls ms : List Live) (more : List Opening) → eqb t k ≡ false
    → openings ms ≡ openings ls ++ more → AllGrew t ls ms
    → of_tick k (frames_of_flows world host n ms) ≡ of_tick k (frames_of_flows world host n ls)
grown_flows world host n t k [] [] more e same grew = refl
grown_flows world host n t k [] (m ∷ ms) more e same grew =
    let o : Origin = record { host = host; flow = n; to = host_at world m.flow.tuple.raddr; tuple = m.flow.tuple } in
    filter-append (λ (f : Sent). eqb f.tick k) (live_frames world host n m) (frames_of_flows world host (n + 1) ms)
    ∙ (ap (λ fs. fs ++ of_tick k (frames_of_flows world host (n + 1) ms))
    (grown_entries o 0 t k [] m.flow.entries e grew.0)
    ∙ grown_flows world host (n + 1) t k [] ms (openings ms) e refl grew.1)
grown_flows world host n t k (l ∷ ls) [] more e same grew = absurd grew
grown_flows world host n t k (l ∷ ls) (m ∷ ms) more e same grew =
    let first : opening_of m.flow ≡ opening_of l.flow = cc (same) in
    let rest : openings ms ≡ openings ls ++ more = cc (same) in
    filter-append (λ (f : Sent). eqb f.tick k) (live_frames world host n m) (frames_of_flows world host (n + 1) ms)
    ∙ (ap (λ fs. fs ++ of_tick k (frames_of_flows world host (n + 1) ms))
    (grown_flow world host n t k l m e first grew.0)
    ∙ (ap (λ fs. of_tick k (live_frames world host n l) ++ fs)
    (grown_flows world host (n + 1) t k ls ms more e rest grew.1)
    ∙ sym (filter-append (λ (f : Sent). eqb f.tick k) (live_frames world host n l)
    (frames_of_flows world host (n + 1) ls))))

-- ----- counts before the tick
none_early : (t : ℕ) (more : List Entry) → AllAt t more → filter (λ (x : Entry). ltb x.tick t) more ≡ []
none_early t [] at = refl
none_early t (x ∷ xs) at =
    let here : x.tick ≡ t = at.0 in
    let e : ltb x.tick t ≡ false = grind (arith, nat_tests, here) in
    rw e (none_early t xs at.1)

all_early : (t : ℕ) (h : List Entry) → EntriesBefore t h → filter (λ (x : Entry). ltb x.tick t) h ≡ h
all_early t [] before = refl
all_early t (x ∷ xs) before =
    let here : x.tick < t = before.0 in
    let e : ltb x.tick t ≡ true = grind (arith, nat_tests, here) in
    rw e (ap (λ ys. x ∷ ys) (all_early t xs before.1))

pub count_grown : (t : ℕ) (h g : List Entry) → EntriesBefore t h → Grew t h g → sent_before t g ≡ sent_by h
count_grown t h g before grew =
    let p : Entry → Bool = λ (x : Entry). ltb x.tick t in
    ap sent_by
    (ap (filter p) grew.1
    ∙ (filter-append p h grew.0
    ∙ (ap (λ ys. ys ++ filter p grew.0) (all_early t h before)
    ∙ (ap (λ ys. h ++ ys) (none_early t grew.0 grew.2) ∙ append-nil h))))

abbrev pub counts_of : List Live → List ℕ
counts_of ls = map (λ (l : Live). sent_by l.flow.entries) ls

abbrev pub counts_before : (t : ℕ) → List Live → List ℕ
counts_before t ls = map (λ (l : Live). sent_before t l.flow.entries) ls

abbrev pub AllEntriesBefore : (t : ℕ) → List Live → Type 0
AllEntriesBefore t ls = Each (λ (l : Live). EntriesBefore t l.flow.entries) ls

-- the flows of a tick sent nothing before it
counts_new : (t : ℕ) (ms : List Live) → AllGrew t [] ms → counts_before t ms ≡ replicate (length ms) 0
counts_new t [] grew = refl
counts_new t (m ∷ ms) grew =
    let first : sent_before t m.flow.entries ≡ 0 = count_grown t [] m.flow.entries tt grew.0 in
    ap (λ n. n ∷ counts_before t ms) first ∙ ap (λ ns. 0 ∷ ns) (counts_new t ms grew.1)

-- the flows sent before the tick what they had sent; those that were opened in it sent nothing
pub counts_grown : (t : ℕ) (ls ms : List Live) → AllEntriesBefore t ls → AllGrew t ls ms
    → counts_before t ms ≡ counts_of ls ++ replicate (length ms - length ls) 0
counts_grown t [] ms before grew =
    let all : length ms ≡ length ms - 0 = omega arith in
    counts_new t ms grew ∙ ap (λ n. replicate n 0) all
counts_grown t (l ∷ ls) [] before grew = absurd grew
counts_grown t (l ∷ ls) (m ∷ ms) before grew =
    let same : length ms - length ls ≡ suc (length ms) - suc (length ls) = omega arith in
    ap (λ n. n ∷ counts_before t ms) (count_grown t l.flow.entries m.flow.entries before.0 grew.0)
    ∙ ap (λ ns. sent_by l.flow.entries ∷ ns)
    (counts_grown t ls ms before.1 grew.1 ∙ ap (λ n. counts_of ls ++ replicate n 0) same)

-- ----- what comes next is earlier than the next tick
at_before : (t : ℕ) (xs : List Entry) → AllAt t xs → EntriesBefore (t + 1) xs
at_before t [] at = tt
at_before t (x ∷ xs) at = ((let here : x.tick ≡ t = at.0 in omega arith), at_before t xs at.1)

grew_before : (t : ℕ) (h more : List Entry) → EntriesBefore t h → AllAt t more → EntriesBefore (t + 1) (h ++ more)
grew_before t [] more before at = at_before t more at
grew_before t (x ∷ xs) more before at = (
  (let here : x.tick < t = before.0 in omega arith),
  grew_before t xs more before.1 at,
)

pub flows_before : (t : ℕ) (ls ms : List Live) → AllEntriesBefore t ls → AllGrew t ls ms → AllEntriesBefore (t + 1) ms
flows_before t [] [] before grew = tt
flows_before t [] (m ∷ ms) before grew = (
  subst (λ ys. EntriesBefore (t + 1) ys) (sym (grew.0).1) (grew_before t [] (grew.0).0 tt (grew.0).2),
  flows_before t [] ms tt grew.1,
)
flows_before t (l ∷ ls) [] before grew = absurd grew
flows_before t (l ∷ ls) (m ∷ ms) before grew = (
  subst (λ ys. EntriesBefore (t + 1) ys) (sym (grew.0).1)
      (grew_before t l.flow.entries (grew.0).0 before.0 (grew.0).2),
  flows_before t ls ms before.1 grew.1,
)

lines_next : (t : ℕ) (h more : List LogLine) → LinesBefore t h → LinesAt t more → LinesBefore (t + 1) (h ++ more)
lines_next t [] [] before at = tt
lines_next t [] (l ∷ ls) before at = ((let here : l.tick ≡ t = at.0 in omega arith), lines_next t [] ls tt at.1)
lines_next t (l ∷ ls) more before at = (
  (let here : l.tick < t = before.0 in omega arith),
  lines_next t ls more before.1 at,
)

pub log_before : (t : ℕ) (h g : List LogLine) → LinesBefore t h → LogGrew t h g → LinesBefore (t + 1) g
log_before t h g before grew = subst (λ ys. LinesBefore (t + 1) ys) (sym grew.1) (lines_next t h grew.0 before grew.2)
