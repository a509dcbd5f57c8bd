-- The flows of a host of shared flows, one after the other: their frames of a tick, and their counts.
use Rattle.std.proofs.Common.{◌≡◌, ℕ, suc, ◌+◌, ◌<◌, Bool, true, false, List, [], ◌∷◌, ◌++◌, length, get_or, set}
use Rattle.std.proofs.Common.{take, drop, Some, slice_get, sym, ap, ◌∙◌, subst, arith, append_assoc, append-nil}
use Rattle.std.proofs.Common.{length-append}
use Rattle.std.proofs.lemmas.List.{length-map, map-append}
use Rattle.std.proofs.lemmas.Option.{slice_get-get_or, get_or_from_slice_get}
use Rattle.host_rounds.specs.Hosts.{Host, Live}
use Rattle.host_rounds.specs.Logs as logs
use Rattle.link_script.specs.declared.frames.Sent.{Sent}
use Rattle.flow_state.specs.Flow.{Flow}
use Rattle.scenario_runs.specs.Worlds.{World, host_at, frames_of_flows}
use Rattle.sent_frames.specs.declared.counts.SentCounts.{SentCounts}
use Rattle.sent_frames.specs.Sending.{addresses_of, of_tick, sent_by, sent_before, AreUpTo}
use Rattle.scenario_world.proofs.Grown.{live_frames, counts_of, counts_before}
use Rattle.scenario_world.proofs.Counted.{count_there, counts_more, lives_more}
use Rattle.scenario_world.proofs.Lists.{cut_at, taken_more, taken_len}
use Rattle.core_host.specs.Emission.{IsIndexedAt, IsRecordAt}
use Rattle.core_host.specs.Views.{Staffed, seen_by}
use Rattle.shared_world.specs.Looking.{IsLookedAt, IsSilentIn, IsSilentBut}
use Rattle.shared_world.proofs.Closed.{SaysIndexed, each_there, indexed_before, indexed_more, indexed_still, said}
use Rattle.shared_world.proofs.Closed.{still_there}
use Rattle.shared_world.proofs.Looked.{looked_on}

-- ----- counts
-- the flow at a place has its count there
count_at : (t : ℕ) (cs : List ℕ) (ls : List Live) (i : ℕ) (l : Live) → slice_get ls i ≡ Some l
    → cs ≡ counts_of (take i ls) ++ counts_before t (drop i ls)
    → (i < length cs) × (slice_get cs i ≡ Some (sent_before t l.flow.entries))
count_at t cs ls i l here is =
    let front : List ℕ = counts_of (take i ls) in
    let cut : length (counts_before t (drop i ls)) ≡ suc (length (drop (i + 1) ls)) =
    length-map (drop i ls) (λ (m : Live). sent_before t m.flow.entries) ∙ ap length (cut_at ls i l here) in
    let long : length front ≡ i =
    length-map (take i ls) (λ (m : Live). sent_by m.flow.entries) ∙ taken_len ls i l here in
    let all : length cs ≡ length front + length (counts_before t (drop i ls)) =
    ap length is ∙ length-append front (counts_before t (drop i ls)) in
    let inside : i < length cs = omega (arith, cut, long, all) in
    (inside, slice_get-get_or cs i 0 inside ∙ ap Some (count_there t cs ls i l here is))

-- The count of a flow is there by its record.
pub number_there : (t : ℕ) (cs : List ℕ) (i at : ℕ) (r : Flow) (h : Host) → IsIndexedAt i at h → IsRecordAt i r h
    → ((l : Live) → slice_get h.flows i ≡ Some l → slice_get cs i ≡ Some (sent_before t l.flow.entries))
    → get_or cs i 0 ≡ sent_before t r.entries
number_there t cs i at r h there is counted =
    get_or_from_slice_get cs i (sent_before t there.flow.flow.entries) 0 (counted there.flow there.there)
    ∙ ap (λ (f : logs.Flow). sent_before t f.entries) (is there.flow there.there)

-- A flow that sent nothing in the tick has the same count after it.
counts_still : (t : ℕ) (cs : List ℕ) (ls : List Live) (i : ℕ) (l : Live) → slice_get ls i ≡ Some l
    → cs ≡ counts_of (take i ls) ++ counts_before t (drop i ls)
    → sent_before t l.flow.entries ≡ sent_by l.flow.entries
    → cs ≡ counts_of (take (i + 1) ls) ++ counts_before t (drop (i + 1) ls)
counts_still t cs ls i l here is same =
    let front : List ℕ = counts_of (take i ls) in
    let n : ℕ = sent_by l.flow.entries in
    let back : List ℕ = counts_before t (drop (i + 1) ls) in
    let all : counts_of (take (i + 1) ls) ≡ front ++ n ∷ [] =
    ap counts_of (taken_more ls i l here) ∙ map-append (λ (k : Live). sent_by k.flow.entries) (take i ls) (l ∷ []) in
    is
    ∙ (ap (λ ms. front ++ counts_before t ms) (cut_at ls i l here)
    ∙ (ap (λ k. front ++ k ∷ back) same
    ∙ (sym (append_assoc front (n ∷ []) back) ∙ ap (λ xs. xs ++ back) (sym all))))

-- ----- the flows before a place
-- Their frames were collected, and they are counted.
pub record AreCollected (t host : ℕ) (addresses : List ℕ) (old now : Staffed) (i at : ℕ) (was is : SentCounts)
    (before after : List Sent) : Type 0 where
  pub count : at ≡ indexed_before i (seen_by old).flows
  pub looked : IsLookedAt old now
  pub flows : is.flows.items ≡ counts_of (take i (seen_by old).flows) ++ counts_before t (drop i (seen_by old).flows)
  pub answers : is.answers ≡ was.answers
  pub lines : is.lines ≡ was.lines
  pub frames : (world : World) → addresses ≡ addresses_of world
      → after ≡ before ++ of_tick t (frames_of_flows world host 0 (take i (seen_by old).flows))
  pub last : AreUpTo t after

-- what the next place is, for the one that is collected there
pub count_next : (t host : ℕ) (addresses : List ℕ) (old now : Staffed) (i at : ℕ) (was is : SentCounts)
    (before after : List Sent) (l : Live) → AreCollected t host addresses old now i at was is before after
    → slice_get (seen_by now).flows i ≡ Some l
    → (i < length is.flows.items) × (slice_get is.flows.items i ≡ Some (sent_before t l.flow.entries))
count_next t host addresses old now i at was is before after l to here =
    count_at t is.flows.items (seen_by old).flows i l
    (ap (λ (h : Host). slice_get h.flows i) (sym to.looked.step.made) ∙ here) to.flows

-- The flow at the next place is in the index, and was collected by its record.
pub collected_on : (t host : ℕ) (addresses : List ℕ) (old now next : Staffed) (i at : ℕ) (was is more : SentCounts)
    (before after end : List Sent) (given : Bool)
    → AreCollected t host addresses old now i at was is before after → i < length (seen_by old).flows
    → SaysIndexed now i given → given ≡ true → IsLookedAt now next
    → ((world : World) (l : Live) → addresses ≡ addresses_of world → slice_get (seen_by now).flows i ≡ Some l
    → end ≡ after ++ of_tick t (live_frames world host i l))
    → ((l : Live) → slice_get (seen_by now).flows i ≡ Some l
    → more.flows.items ≡ set is.flows.items i (sent_by l.flow.entries))
    → more.answers ≡ is.answers → more.lines ≡ is.lines → AreUpTo t end
    → AreCollected t host addresses old next (i + 1) (at + 1) was more before end
collected_on t host addresses old now next i at was is more before after end given to inside says so looked frames
    flows answers lines last =
    let ls = (seen_by old).flows in
    let found = said old now i given true to.looked inside says so in
    let l = found.flow in
    let here = still_there old now i l to.looked found.here in
    record {
      count = indexed_more ls i at l found.here found.is to.count;
      looked = looked_on old now next to.looked looked;
      flows = counts_more t is.flows.items more.flows.items ls i l found.here to.flows (flows l here);
      answers = answers ∙ to.answers;
      lines = lines ∙ to.lines;
      frames = λ world same. lives_more world host t ls i l before after end found.here (to.frames world same)
          (frames world l same here);
      last = last;
    }

-- so it is where things are named otherwise
pub collected_as : (t host : ℕ) (addresses : List ℕ) (old now now' : Staffed) (i at at' : ℕ) (was is is' : SentCounts)
    (before after after' : List Sent) → now' ≡ now → at' ≡ at → is' ≡ is → after' ≡ after
    → AreCollected t host addresses old now i at was is before after
    → AreCollected t host addresses old now' i at' was is' before after'
collected_as t host addresses old now now' i at at' was is is' before after after' hosts ats counts sent all =
    subst (λ (h : Staffed). AreCollected t host addresses old h i at' was is' before after') (sym hosts)
    (subst (λ (n : ℕ). AreCollected t host addresses old now i n was is' before after') (sym ats)
    (subst (λ (c : SentCounts). AreCollected t host addresses old now i at was c before after') (sym counts)
    (subst (λ (fs : List Sent). AreCollected t host addresses old now i at was is before fs) (sym sent) all)))

-- It isn't in the index, and sent nothing.
pub collected_past : (t host : ℕ) (addresses : List ℕ) (old now : Staffed) (i at : ℕ) (was is : SentCounts)
    (before after : List Sent) (given : Bool)
    → AreCollected t host addresses old now i at was is before after → i < length (seen_by old).flows
    → SaysIndexed now i given → given ≡ false → IsSilentBut t (seen_by old).flows
    → AreCollected t host addresses old now (i + 1) at was is before after
collected_past t host addresses old now i at was is before after given to inside says so silent =
    let ls = (seen_by old).flows in
    let found = said old now i given false to.looked inside says so in
    let l = found.flow in
    let none = each_there (λ (k : Live). k.indexed ≡ false → IsSilentIn t k.flow.entries) ls i l silent found.here
    found.is in
    record {
      count = indexed_still ls i at l found.here found.is to.count;
      looked = to.looked;
      flows = counts_still t is.flows.items ls i l found.here to.flows none.counted;
      answers = to.answers;
      lines = to.lines;
      frames = λ world same. lives_more world host t ls i l before after after found.here (to.frames world same)
          (sym (ap (λ fs. after ++ fs)
          (none.frames host i (host_at world l.flow.tuple.raddr) l.flow.tuple) ∙ append-nil after));
      last = to.last;
    }
