-- The flows and hosts of a world, one more: their frames of a tick, and their counts.
use Rattle.std.proofs.Common.{◌≡◌, ℕ, suc, ◌+◌, ◌≤◌, eqb, List, [], ◌∷◌, ◌++◌, length, get_or, set}
use Rattle.std.proofs.Common.{◌-◌, replicate, length-append, take, drop, Some, slice_get, refl, sym, ap, ◌∙◌, subst}
use Rattle.std.proofs.Common.{arith, append_assoc, append-nil}
use Rattle.std.proofs.lemmas.List.{length-map, set_at, map-append, take_at}
use Rattle.std.proofs.lemmas.List.Elements.{filter-append}
use Rattle.std.proofs.Math.Seq.{get_or-append_seam}
use Rattle.host_rounds.specs.Hosts.{Live, Host}
use Rattle.host_rounds.specs.Scripts.{Site}
use Rattle.host_rounds.specs.Passing.{AllGrew}
use Rattle.scenario_runs.specs.Applications.{Script}
use Rattle.link_script.specs.declared.frames.Sent.{Sent}
use Rattle.flow_state.specs.Flow as records
use Rattle.local_host.specs.Lacking.{LacksTicks}
use Rattle.scenario_runs.specs.Worlds.{World, host_at, frames_of_entries, frames_of_flows, frames_of_hosts}
use Rattle.sent_frames.specs.declared.counts.SentCounts.{SentCounts}
use Rattle.sent_frames.specs.Sending.{of_tick, sent_by, sent_before, answers_in, LinesBefore}
use Rattle.scenario_world.specs.Playing.{IsCounted, IsCountedBefore, AreCounted, AreCountedBefore, AreEarly}
use Rattle.scenario_world.proofs.Grown.{live_frames, counts_of, counts_before, counts_grown}
use Rattle.scenario_world.proofs.WorldTicks.{AreTicked, host_frames}
use Rattle.scenario_world.proofs.Lacking.{lacking_frames}
use Rattle.scenario_world.proofs.Lists.{cut_at, taken_more, taken_len}

-- ----- a flow more
counts_cut : (t : ℕ) (cs : List ℕ) (ls : List Live) (i : ℕ) (l : Live) → slice_get ls i ≡ Some l
    → cs ≡ counts_of (take i ls) ++ counts_before t (drop i ls)
    → cs ≡ counts_of (take i ls) ++ sent_before t l.flow.entries ∷ counts_before t (drop (i + 1) ls)
counts_cut t cs ls i l e is = is ∙ ap (λ ms. counts_of (take i ls) ++ counts_before t ms) (cut_at ls i l e)

counted_len : (ls : List Live) (i : ℕ) (l : Live) → slice_get ls i ≡ Some l → length (counts_of (take i ls)) ≡ i
counted_len ls i l e = length-map (take i ls) (λ (m : Live). sent_by m.flow.entries) ∙ taken_len ls i l e

-- what the flow sent before the tick is at its place
pub count_there : (t : ℕ) (cs : List ℕ) (ls : List Live) (i : ℕ) (l : Live) → slice_get ls i ≡ Some l
    → cs ≡ counts_of (take i ls) ++ counts_before t (drop i ls) → get_or cs i 0 ≡ sent_before t l.flow.entries
count_there t cs ls i l e is =
    let front : List ℕ = counts_of (take i ls) in
    let n : ℕ = sent_before t l.flow.entries in
    let back : List ℕ = counts_before t (drop (i + 1) ls) in
    ap (λ xs. get_or xs i 0) (counts_cut t cs ls i l e is)
    ∙ (ap (λ k. get_or (front ++ n ∷ back) k 0) (sym (counted_len ls i l e)) ∙ get_or-append_seam front n back 0)

pub counts_more : (t : ℕ) (cs after : List ℕ) (ls : List Live) (i : ℕ) (l : Live) → slice_get ls i ≡ Some l
    → cs ≡ counts_of (take i ls) ++ counts_before t (drop i ls) → after ≡ set cs i (sent_by l.flow.entries)
    → after ≡ counts_of (take (i + 1) ls) ++ counts_before t (drop (i + 1) ls)
counts_more t cs after ls i l e is was =
    let front : List ℕ = counts_of (take i ls) in
    let n : ℕ = sent_before t l.flow.entries in
    let m : ℕ = sent_by l.flow.entries in
    let back : List ℕ = counts_before t (drop (i + 1) ls) in
    let all : counts_of (take (i + 1) ls) ≡ front ++ m ∷ [] =
    ap counts_of (taken_more ls i l e) ∙ map-append (λ (k : Live). sent_by k.flow.entries) (take i ls) (l ∷ []) in
    was
    ∙ (ap (λ xs. set xs i m) (counts_cut t cs ls i l e is)
    ∙ (set_at front n back m i (counted_len ls i l e)
    ∙ (sym (append_assoc front (m ∷ []) back) ∙ ap (λ xs. xs ++ back) (sym all))))

frames_of_flows-push : (w : World) (h n : ℕ) (ls : List Live) (l : Live)
    → frames_of_flows w h n (ls ++ l ∷ []) ≡ frames_of_flows w h n ls ++ live_frames w h (n + length ls) l
frames_of_flows-push w h n [] l =
    let e : n ≡ n + 0 = omega arith in append-nil (live_frames w h n l) ∙ ap (λ k. live_frames w h k l) e
frames_of_flows-push w h n (m ∷ ms) l =
    let e : n + 1 + length ms ≡ n + suc (length ms) = omega arith in
    ap (λ fs. live_frames w h n m ++ fs)
    (frames_of_flows-push w h (n + 1) ms l ∙ ap (λ k. frames_of_flows w h (n + 1) ms ++ live_frames w h k l) e)
    ∙ sym (append_assoc (live_frames w h n m) (frames_of_flows w h (n + 1) ms)
    (live_frames w h (n + suc (length ms)) l))

-- of a list of frames those of a tick behind others, one piece more
pub piece_more : (t : ℕ) (old before after front piece all : List Sent) → before ≡ old ++ of_tick t front
    → after ≡ before ++ of_tick t piece → all ≡ front ++ piece → after ≡ old ++ of_tick t all
piece_more t old before after front piece all was more is =
    more
    ∙ (ap (λ fs. fs ++ of_tick t piece) was
    ∙ (append_assoc old (of_tick t front) (of_tick t piece)
    ∙ ap (λ fs. old ++ fs) (sym (ap (of_tick t) is ∙ filter-append (λ (f : Sent). eqb f.tick t) front piece))))

-- the frames of a record are those of its flow
pub record_frames : (w : World) (h f i : ℕ) (r : records.Flow) (l : Live) → f ≡ i → LacksTicks r l.flow
    → frames_of_entries h f 0 (host_at w r.tuple.raddr) r.tuple r.entries ≡ live_frames w h i l
record_frames w h f i r l same lacks = lacking_frames w h f r l.flow lacks ∙ ap (λ k. live_frames w h k l) same

-- the frames of a flow more
pub lives_more : (w : World) (h t : ℕ) (ls : List Live) (i : ℕ) (l : Live) (old before after : List Sent)
    → slice_get ls i ≡ Some l → before ≡ old ++ of_tick t (frames_of_flows w h 0 (take i ls))
    → after ≡ before ++ of_tick t (live_frames w h i l)
    → after ≡ old ++ of_tick t (frames_of_flows w h 0 (take (i + 1) ls))
lives_more w h t ls i l old before after e was more =
    let front : List Sent = frames_of_flows w h 0 (take i ls) in
    let place : 0 + length (take i ls) ≡ i = omega (arith, taken_len ls i l e) in
    piece_more t old before after front (live_frames w h i l) (frames_of_flows w h 0 (take (i + 1) ls)) was more
    (ap (frames_of_flows w h 0) (taken_more ls i l e)
    ∙ (frames_of_flows-push w h 0 (take i ls) l ∙ ap (λ k. front ++ live_frames w h k l) place))

-- and of a record's
pub flows_more : (w : World) (h t f : ℕ) (ls : List Live) (i : ℕ) (l : Live) (r : records.Flow)
    (old before after : List Sent) → slice_get ls i ≡ Some l → f ≡ i → LacksTicks r l.flow
    → before ≡ old ++ of_tick t (frames_of_flows w h 0 (take i ls))
    → after ≡ before ++ of_tick t (frames_of_entries h f 0 (host_at w r.tuple.raddr) r.tuple r.entries)
    → after ≡ old ++ of_tick t (frames_of_flows w h 0 (take (i + 1) ls))
flows_more w h t f ls i l r old before after e same lacks was more =
    lives_more w h t ls i l old before after e was
    (more ∙ ap (λ fs. before ++ of_tick t fs) (record_frames w h f i r l same lacks))

-- ----- a host
all_grew_len : (t : ℕ) (ls ms : List Live) → AllGrew t ls ms → length ls ≤ length ms
all_grew_len t [] ms grew = omega arith
all_grew_len t (l ∷ ls) [] grew = absurd grew
all_grew_len t (l ∷ ls) (m ∷ ms) grew = let rest = all_grew_len t ls ms grew.1 in omega (arith, rest)

counted_flows : (ls : List Live) → length (counts_of ls) ≡ length ls
counted_flows ls = length-map ls (λ (m : Live). sent_by m.flow.entries)

pub fewer_counted : (t : ℕ) (host : Host) (c : SentCounts) → IsCountedBefore t host c
    → length c.flows.items ≤ length host.flows
fewer_counted t host c was =
    let all = all_grew_len t was.before.flows host.flows was.went.flows in
    omega (arith, ap length was.counted.flows, counted_flows was.before.flows, all)

-- where the new flows are counted, too
pub opened_counts : (t n : ℕ) (host : Host) (c : SentCounts) (after : List ℕ) → IsCountedBefore t host c
    → n ≡ length c.flows.items → after ≡ c.flows.items ++ replicate (length host.flows - n) 0
    → after ≡ counts_before t host.flows
opened_counts t n host c after was len is =
    let same : n ≡ length was.before.flows = len ∙ (ap length was.counted.flows ∙ counted_flows was.before.flows) in
    is
    ∙ (ap (λ ns. ns ++ replicate (length host.flows - n) 0) was.counted.flows
    ∙ (ap (λ k. counts_of was.before.flows ++ replicate (length host.flows - k) 0) same
    ∙ sym (counts_grown t was.before.flows host.flows was.early.entries was.went.flows)))

-- the lines that were looked at
lines_before : (t : ℕ) (host : Host) (c : SentCounts) → (was : IsCountedBefore t host c)
    → take c.lines host.log ≡ was.before.log
lines_before t host c was =
    ap (take c.lines) (was.went.log).1 ∙ take_at was.before.log (was.went.log).0 c.lines (sym was.counted.lines)

pub lines_seen : (t : ℕ) (host : Host) (c : SentCounts) → IsCountedBefore t host c → c.lines ≤ length host.log
lines_seen t host c was =
    omega (
      arith,
      was.counted.lines,
      ap length (was.went.log).1,
      length-append was.before.log (was.went.log).0,
    )

pub lines_earlier : (t : ℕ) (host : Host) (c : SentCounts) → IsCountedBefore t host c
    → LinesBefore t (take c.lines host.log)
lines_earlier t host c was = subst (λ ls. LinesBefore t ls) (sym (lines_before t host c was)) was.early.lines

pub answers_seen : (t : ℕ) (host : Host) (c : SentCounts) → IsCountedBefore t host c
    → c.answers ≡ answers_in (take c.lines host.log)
answers_seen t host c was = was.counted.answers ∙ ap answers_in (sym (lines_before t host c was))

-- ----- a host more
pub before_len : (t : ℕ) (sites : World) (cs : List SentCounts) → AreCountedBefore t sites cs → length cs ≡ length sites
before_len t [] [] all = refl
before_len t [] (c ∷ cs) all = absurd all
before_len t (s ∷ ss) [] all = absurd all
before_len t (s ∷ ss) (c ∷ cs) all = ap suc (before_len t ss cs all.1)

counted_push : (sites : World) (cs : List SentCounts) (site : Site (List Script)) (c : SentCounts) → AreCounted sites cs
    → IsCounted site.host c → AreCounted (sites ++ site ∷ []) (cs ++ c ∷ [])
counted_push [] [] site c all one = (one, tt)
counted_push [] (d ∷ ds) site c all one = absurd all
counted_push (s ∷ ss) [] site c all one = absurd all
counted_push (s ∷ ss) (d ∷ ds) site c all one = (all.0, counted_push ss ds site c all.1 one)

pub counted_more : (sites sites' : World) (cs cs' : List SentCounts) (site : Site (List Script)) (c : SentCounts)
    → AreCounted sites cs → IsCounted site.host c → sites' ≡ sites ++ site ∷ [] → cs' ≡ cs ++ c ∷ []
    → AreCounted sites' cs'
counted_more sites sites' cs cs' site c all one is was =
    subst (λ ss. AreCounted ss cs') (sym is)
    (subst (λ ds. AreCounted (sites ++ site ∷ []) ds) (sym was) (counted_push sites cs site c all one))

-- the host at a place, before it is counted
pub before_there : (t : ℕ) (sites : World) (cs : List SentCounts) (i : ℕ) (site : Site (List Script)) (c : SentCounts)
    → slice_get sites i ≡ Some site → slice_get cs i ≡ Some c → AreCountedBefore t (drop i sites) (drop i cs)
    → IsCountedBefore t site.host c × AreCountedBefore t (drop (i + 1) sites) (drop (i + 1) cs)
before_there t sites cs i site c e f left =
    let at_site = subst (λ ss. AreCountedBefore t ss (drop i cs)) (cut_at sites i site e) left in
    subst (λ ds. AreCountedBefore t (site ∷ drop (i + 1) sites) ds) (cut_at cs i c f) at_site

frames_of_hosts-push : (w : World) (h : ℕ) (sites : World) (site : Site (List Script))
    → frames_of_hosts w h (sites ++ site ∷ []) ≡ frames_of_hosts w h sites ++ host_frames w (h + length sites) site.host
frames_of_hosts-push w h [] site =
    let e : h ≡ h + 0 = omega arith in
    append-nil (host_frames w h site.host) ∙ ap (λ k. host_frames w k site.host) e
frames_of_hosts-push w h (s ∷ ss) site =
    let e : h + 1 + length ss ≡ h + suc (length ss) = omega arith in
    ap (λ fs. host_frames w h s.host ++ fs)
    (frames_of_hosts-push w (h + 1) ss site ∙ ap (λ k. frames_of_hosts w (h + 1) ss ++ host_frames w k site.host) e)
    ∙ sym (append_assoc (host_frames w h s.host) (frames_of_hosts w (h + 1) ss)
    (host_frames w (h + suc (length ss)) site.host))

pub hosts_more : (w : World) (t : ℕ) (sites : World) (i : ℕ) (site : Site (List Script)) (old before after : List Sent)
    → slice_get sites i ≡ Some site → before ≡ old ++ of_tick t (frames_of_hosts w 0 (take i sites))
    → after ≡ before ++ of_tick t (host_frames w i site.host)
    → after ≡ old ++ of_tick t (frames_of_hosts w 0 (take (i + 1) sites))
hosts_more w t sites i site old before after e was more =
    let front : List Sent = frames_of_hosts w 0 (take i sites) in
    let place : 0 + length (take i sites) ≡ i = omega (arith, taken_len sites i site e) in
    piece_more t old before after front (host_frames w i site.host) (frames_of_hosts w 0 (take (i + 1) sites)) was more
    (ap (frames_of_hosts w 0) (taken_more sites i site e)
    ∙ (frames_of_hosts-push w 0 (take i sites) site ∙ ap (λ k. front ++ host_frames w k site.host) place))

-- ----- all hosts of a tick
pub before_ticked : (t : ℕ) (before after : World) (cs : List SentCounts) → AreEarly t before → AreCounted before cs
    → AreTicked t before after → AreCountedBefore t after cs
before_ticked t [] [] [] early counted ticked = tt
before_ticked t [] [] (c ∷ cs) early counted ticked = absurd counted
before_ticked t [] (a ∷ az) cs early counted ticked = absurd ticked
before_ticked t (b ∷ bs) [] cs early counted ticked = absurd ticked
before_ticked t (b ∷ bs) (a ∷ az) [] early counted ticked = absurd counted
before_ticked t (b ∷ bs) (a ∷ az) (c ∷ cs) early counted ticked = (
  record { before = b.host; early = early.0; counted = counted.0; went = (ticked.0).went },
  before_ticked t bs az cs early.1 counted.1 ticked.1,
)
