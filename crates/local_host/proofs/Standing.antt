-- The flows whose records are not filed: only these change by what the host does by itself.
use Rattle.std.proofs.Common.{◌≡◌, ℕ, zero, suc, ◌+◌, ◌<◌, ◌≤◌, ◌++◌, ◌||◌, ◌==◌, ◌&&◌, not, Bool, true, false, cond}
use Rattle.std.proofs.Common.{List, [], ◌∷◌, length, get_or, set, map, drop, take, position, Option, Some, None}
use Rattle.std.proofs.Common.{is_some, Result, Ok, Err, OnOk, refl, sym, ap, subst, ◌∙◌, true≢false, arith}
use Rattle.std.specs.List.{list_any, filter}
use Rattle.std.proofs.lemmas.List.Sums.{sum_by-cons, sum_by_push}
use Rattle.std.proofs.lemmas.List.Quantifiers.{position-Some}
use Rattle.std.proofs.lemmas.List.{map-append, drop_more, take_at}
use Rattle.tas_model.specs.declared.entry.FlowId.{FlowId}
use Rattle.tas_model.specs.declared.entry.FourTuple.{FourTuple}
use Rattle.tas_model.specs.declared.entry.FrameId.{FrameId}
use Rattle.tas_model.specs.declared.entry.Seg.{Seg}
use Rattle.tas_model.specs.declared.entry.Reason.{Reason}
use Rattle.tas_model.specs.declared.entry.Caller.TheVariants.{Slow, Core}
use Rattle.tas_model.specs.declared.entry.Call.TheVariants as calls
use Rattle.tas_model.specs.Endpoint.{Endpoint, is_closed}
use Rattle.tas_model.specs.ApplicationCalls.{column_by}
use Rattle.tas_model.specs.NextSegment.{Going, going, going_in}
use Rattle.tas_model.proofs.Tests.{on_cond}
use Rattle.tas_runs.specs.Records.{Content}
use Rattle.host_rounds.specs.Lists.{change_at}
use Rattle.host_rounds.specs.Hosts.{Live, endpoint, is_over, is_held, with_call, is_indexed_as, is_in_slot, opened_as}
use Rattle.host_rounds.specs.Hosts.{same_tuple}
use Rattle.host_rounds.specs.Upkeep.{swept, controlled_where, timed, timed_unless, quieted, quieted_within}
use Rattle.local_host.specs.declared.arrival.Taking.{Taking}
use Rattle.local_host.specs.declared.arrival.Taking.TheVariants as takings
use Rattle.local_host.specs.Arriving.{taking_in}
use Rattle.tas_runs.specs.LocalScript.{Shown}
use Rattle.capture_items.specs.Starts.{equal_tuple}
use Rattle.local_host.specs.declared.flows.Openings.{Openings}
use Rattle.local_host.specs.Index.{passes_at, is_standing, with_first, standing_places, IsAtRest, AreAtRest, number_of}
use Rattle.local_host.specs.Index.{flows_in, IsKnown, IsIndex, indexed_at}
use Rattle.local_host.specs.Script.{asked_live}
use Rattle.local_host.proofs.Emitting.{all_is_sent}
use Rattle.local_host.proofs.Places.{ok_by, wrote_change}
use Rattle.local_host.proofs.Given.{one_given, given_push, given_map, given_change}
use Rattle.local_host.proofs.Indexing.{length_change, all_kept, Keeps, swept_keeps, map_index, change_index}
use Rattle.local_host.proofs.Indexing.{pushed_index, latest_found}
use Rattle.local_host.proofs.Slots.{marked_map, marked_change, marked_push, marked_swept}

-- ----- what a flow at rest stays
abbrev pub Rests : (Live → Live) → Type 0
Rests f = (l : Live) → l.filed ≡ true → IsAtRest l → f l ≡ l

pub swept_rests : Rests swept
swept_rests l filed rest = rw (rest.over, filed, rest.index) refl

timed_by : (t : ℕ) (l : Live) (b : Bool) → b ≡ true → timed_unless b Slow t l ≡ l
timed_by t l true h = refl
timed_by t l false h = absurd (true≢false (sym h))

pub timed_rests : (t : ℕ) → Rests (timed Slow t)
timed_rests t l filed rest = timed_by t l (is_over l) rest.over

closed_by : (e : Endpoint) (r : Option Reason) → is_some r ≡ true
    → is_some (going_in (column_by r e.peer e.tx.una) e) ≡ false
closed_by e None h = absurd (true≢false (sym h))
closed_by e (Some why) h = refl

closed_sends_nothing : (e : Endpoint) → is_closed e ≡ true → is_some (going e) ≡ false
unfolding going
closed_sends_nothing e closed = closed_by e e.reason closed

pub quieted_rests : (t : ℕ) → Rests (quieted t)
quieted_rests t l filed rest = all_is_sent t l (closed_sends_nothing (endpoint l) rest.over)

-- ----- what files nothing
abbrev pub Stays : (Live → Live) → Type 0
Stays f = (l : Live) → (f l).filed ≡ l.filed

controlled_filed : (t : ℕ) (l : Live) (b : Bool) → (controlled_where b Slow t (with_call l Slow t calls.Tick [])).filed
    ≡ l.filed
controlled_filed t l true = refl
controlled_filed t l false = refl

timed_filed : (t : ℕ) (l : Live) (b : Bool) → (timed_unless b Slow t l).filed ≡ l.filed
timed_filed t l true = refl
timed_filed t l false = controlled_filed t l _

pub timed_stays : (t : ℕ) → Stays (timed Slow t)
timed_stays t l = timed_filed t l (is_over l)

abbrev IsFiledAs : Live → Live → Type 0
IsFiledAs l m = m.filed ≡ l.filed

quieted_filed : (most t : ℕ) (l : Live) → IsFiledAs l (quieted_within most t l)
quieted_filed zero t l = refl
quieted_filed (suc most) t l = by_going (going (endpoint l)) (λ m. quieted_filed most t m) where
  by_going : (g : Option Going) → ((m : Live) → IsFiledAs m (quieted_within most t m))
      → IsFiledAs l (elim g [ None ↦ l | Some s ↦ quieted_within most t (with_call l (Core 0) t calls.Emit []) ])
  by_going None rest = refl
  by_going (Some s) rest = rest (with_call l (Core 0) t calls.Emit [])

pub quieted_stays : (t : ℕ) → Stays (quieted t)
quieted_stays t l = quieted_filed (length (endpoint l).tx.out + 4) t l

pub received_stays : (by : Taking) (t : ℕ) (frame : FrameId) (seg : Seg) → Stays (taking_in by t frame seg)
received_stays takings.Serially t frame seg l = refl
received_stays takings.Slowly t frame seg l = refl

pub asked_stays : (t : ℕ) (content : Content) (s : Shown) → Stays (asked_live t content s)
asked_stays t content s l = (all_kept t content (record { live = l; shown = s })).filed

-- ----- all filed flows are at rest
pub rest_map : (f : Live → Live) → Rests f → Stays f → (ls : List Live) → AreAtRest ls → AreAtRest (map f ls)
rest_map f rests stays [] at = tt
rest_map f rests stays (l ∷ ls) at = (here, rest_map f rests stays ls at.1) where
  here : (f l).filed ≡ true → IsAtRest (f l)
  here h =
      let filed : l.filed ≡ true = sym (stays l) ∙ h in
      subst IsAtRest (sym (rests l filed (at.0 filed))) (at.0 filed)

pub rest_swept : (ls : List Live) → AreAtRest ls → AreAtRest (map swept ls)
rest_swept [] at = tt
rest_swept (l ∷ ls) at = (
  on_cond (λ (m : Live). m.filed ≡ true → IsAtRest m) (is_over l) _ l
      (λ over. λ h. record { over = over; index = refl }) (λ runs. at.0),
  rest_swept ls at.1,
)

filed_apart : (l : Live) → is_standing l ≡ true → l.filed ≡ true → ⊥
filed_apart l stands filed = true≢false (sym stands ∙ ap not filed)

pub rest_change : (f : Live → Live) → Stays f → (ls : List Live) (i : ℕ) → passes_at is_standing ls i ≡ true
    → AreAtRest ls → AreAtRest (change_at i f ls)
rest_change f stays [] i stands at = tt
rest_change f stays (l ∷ ls) zero stands at = (λ h. absurd (filed_apart l stands (sym (stays l) ∙ h)), at.1)
rest_change f stays (l ∷ ls) (suc i) stands at = (at.0, rest_change f stays ls i stands at.1)

-- the same of any flow, by what leaves those at rest so
abbrev pub Calms : (Live → Live) → Type 0
Calms f = (l : Live) → IsAtRest l → IsAtRest (f l)

pub rest_calm : (f : Live → Live) → Calms f → Stays f → (ls : List Live) (i : ℕ) → AreAtRest ls
    → AreAtRest (change_at i f ls)
rest_calm f calms stays [] i at = tt
rest_calm f calms stays (l ∷ ls) zero at = (λ h. calms l (at.0 (sym (stays l) ∙ h)), at.1)
rest_calm f calms stays (l ∷ ls) (suc i) at = (at.0, rest_calm f calms stays ls i at.1)

pub rest_push : (ls : List Live) (l : Live) → l.filed ≡ false → AreAtRest ls → AreAtRest (ls ++ l ∷ [])
rest_push [] l fresh at = (λ h. absurd (true≢false (sym h ∙ fresh)), tt)
rest_push (m ∷ ls) l fresh at = (at.0, rest_push ls l fresh at.1)

-- ----- the places of those that stand
pub places_map : (f : Live → Live) → Stays f → (ls : List Live) → standing_places (map f ls) ≡ standing_places ls
places_map f stays [] = refl
places_map f stays (l ∷ ls) = cc (stays l, places_map f stays ls)

pub places_change : (f : Live → Live) → Stays f → (ls : List Live) (i : ℕ)
    → standing_places (change_at i f ls) ≡ standing_places ls
places_change f stays [] i = refl
places_change f stays (l ∷ ls) zero = ap (λ (b : Bool). with_first (not b)
    (map (λ (place : ℕ). suc place) (standing_places ls))) (stays l)
places_change f stays (l ∷ ls) (suc i) = ap (λ (places : List ℕ). with_first (is_standing l)
    (map (λ (place : ℕ). suc place) places)) (places_change f stays ls i)

first_behind : (b : Bool) (ps qs : List ℕ) → with_first b (ps ++ qs) ≡ with_first b ps ++ qs
first_behind true ps qs = refl
first_behind false ps qs = refl

pub places_push : (ls : List Live) (l : Live) → l.filed ≡ false
    → standing_places (ls ++ l ∷ []) ≡ standing_places ls ++ length ls ∷ []
places_push [] l fresh = ap (λ (b : Bool). with_first (not b) []) fresh
places_push (m ∷ ls) l fresh =
    ap (λ (places : List ℕ). with_first (is_standing m) (map (λ (place : ℕ). suc place) places))
    (places_push ls l fresh)
    ∙ (ap (with_first (is_standing m)) (map-append (λ (place : ℕ). suc place) (standing_places ls) (length ls ∷ []))
    ∙ first_behind (is_standing m) (map (λ (place : ℕ). suc place) (standing_places ls)) (suc (length ls) ∷ []))

-- each is the place of a flow
abbrev pub AllBelow : (n : ℕ) → List ℕ → Type 0
AllBelow n [] = Unit {0}
AllBelow n (p ∷ ps) = (p < n) × AllBelow n ps

below_next : (n : ℕ) (ps : List ℕ) → AllBelow n ps → AllBelow (suc n) (map (λ (place : ℕ). suc place) ps)
below_next n [] all = tt
below_next n (p ∷ ps) all = (omega (arith, all.0), below_next n ps all.1)

below_first : (b : Bool) (n : ℕ) (ps : List ℕ) → AllBelow (suc n) ps → AllBelow (suc n) (with_first b ps)
below_first true n ps all = (omega arith, all)
below_first false n ps all = all

places_below : (ls : List Live) → AllBelow (length ls) (standing_places ls)
places_below [] = tt
places_below (l ∷ ls) = below_first (is_standing l) (length ls) (map (λ (place : ℕ). suc place) (standing_places ls))
    (below_next (length ls) (standing_places ls) (places_below ls))

below_at : (n : ℕ) (ps : List ℕ) (k d : ℕ) → AllBelow n ps → k < length ps → get_or ps k d < n
below_at n [] k d all low = absurd (omega (arith, low))
below_at n (p ∷ ps) zero d all low = all.0
below_at n (p ∷ ps) (suc k) d all low = below_at n ps k d all.1 (omega (arith, low))

pub place_below : (ls : List Live) (places : List ℕ) (k d : ℕ) → places ≡ standing_places ls → k < length places
    → get_or places k d < length ls
place_below ls places k d is low = below_at (length ls) places k d
    (subst (AllBelow (length ls)) (sym is) (places_below ls)) low

-- ----- a change of each of them
abbrev pub changed_all : (Live → Live) → List ℕ → List Live → List Live
changed_all f [] ls = ls
changed_all f (p ∷ ps) ls = changed_all f ps (change_at p f ls)

changed_behind : (f : Live → Live) (l : Live) (ps : List ℕ) (ls : List Live)
    → changed_all f (map (λ (place : ℕ). suc place) ps) (l ∷ ls) ≡ l ∷ changed_all f ps ls
changed_behind f l [] ls = refl
changed_behind f l (p ∷ ps) ls = changed_behind f l ps (change_at p f ls)

-- is a change of all flows
pub all_changed : (f : Live → Live) → Rests f → (ls : List Live) → AreAtRest ls
    → changed_all f (standing_places ls) ls ≡ map f ls
all_changed f rests [] at = refl
all_changed f rests (l ∷ ls) at = by_filed l.filed refl (all_changed f rests ls at.1) where
  by_filed : (b : Bool) → l.filed ≡ b → changed_all f (standing_places ls) ls ≡ map f ls
      → changed_all f (with_first (not b) (map (λ (place : ℕ). suc place) (standing_places ls))) (l ∷ ls)
      ≡ f l ∷ map f ls
  by_filed true is rest = changed_behind f l (standing_places ls) ls
      ∙ (ap (λ (ms : List Live). l ∷ ms) rest ∙ ap (λ (m : Live). m ∷ map f ls) (sym (rests l is (at.0 is))))
  by_filed false is rest = changed_behind f (f l) (standing_places ls) ls ∙ ap (λ (ms : List Live). f l ∷ ms) rest

-- one of them more
pub changed_more : (f : Live → Live) (places : List ℕ) (k d : ℕ) (ls : List Live) → k < length places
    → changed_all f (drop k places) ls ≡ changed_all f (drop (k + 1) places) (change_at (get_or places k d) f ls)
changed_more f places k d ls low = ap (λ (ps : List ℕ). changed_all f ps ls) (drop_more places k d low)

-- ----- those that were filed are left out
pub filter_next : (test : ℕ → Bool) (ps : List ℕ) → filter test (map (λ (place : ℕ). suc place) ps)
    ≡ map (λ (place : ℕ). suc place) (filter (λ (p : ℕ). test (suc p)) ps)
filter_next test [] = refl
filter_next test (p ∷ ps) = by_test (test (suc p)) refl (filter_next test ps) where
  by_test : (b : Bool) → test (suc p) ≡ b → filter test (map (λ (place : ℕ). suc place) ps)
      ≡ map (λ (place : ℕ). suc place) (filter (λ (q : ℕ). test (suc q)) ps)
      → filter test (suc p ∷ map (λ (place : ℕ). suc place) ps)
      ≡ map (λ (place : ℕ). suc place) (filter (λ (q : ℕ). test (suc q)) (p ∷ ps))
  by_test true is rest = rw (is) (ap (λ (qs : List ℕ). suc p ∷ qs) rest)
  by_test false is rest = rw (is) rest

swept_filed : (l : Live) → l.filed ≡ true → (swept l).filed ≡ true
swept_filed l filed = on_cond (λ (m : Live). m.filed ≡ true) (is_over l) _ l
    (λ over. ap (λ (b : Bool). b || not (is_held l)) filed) (λ runs. filed)

pub places_swept : (ls : List Live) → filter (passes_at is_standing (map swept ls)) (standing_places ls)
    ≡ standing_places (map swept ls)
places_swept [] = refl
places_swept (l ∷ ls) = by_filed l.filed refl (filter_next test (standing_places ls)
    ∙ ap (map (λ (place : ℕ). suc place)) (places_swept ls)) where
      test : ℕ → Bool
      test = passes_at is_standing (swept l ∷ map swept ls)

      rest : List ℕ
      rest = map (λ (place : ℕ). suc place) (standing_places (map swept ls))

      by_first : (b : Bool) (ps qs : List ℕ) → ps ≡ qs → cond b (0 ∷ ps) ps ≡ with_first b qs
      by_first true ps qs same = ap (λ (rs : List ℕ). 0 ∷ rs) same
      by_first false ps qs same = same

      by_filed : (b : Bool) → l.filed ≡ b → filter test (map (λ (place : ℕ). suc place) (standing_places ls)) ≡ rest
          → filter test (with_first (not b) (map (λ (place : ℕ). suc place) (standing_places ls)))
          ≡ with_first (is_standing (swept l)) rest
      by_filed true is same = same ∙ ap (λ (b : Bool). with_first (not b) rest) (sym (swept_filed l is))
      by_filed false is same = by_first (is_standing (swept l))
          (filter test (map (λ (place : ℕ). suc place) (standing_places ls))) rest same

-- ----- a test that none at rest passes
any_next : (test : ℕ → Bool) (ps : List ℕ) → list_any test (map (λ (place : ℕ). suc place) ps)
    ≡ list_any (λ (p : ℕ). test (suc p)) ps
any_next test [] = refl
any_next test (p ∷ ps) = ap (λ (b : Bool). test (suc p) || b) (any_next test ps)

pub any_standing : (test : Live → Bool) → ((l : Live) → l.filed ≡ true → test l ≡ false) → (ls : List Live)
    → list_any (passes_at test ls) (standing_places ls) ≡ list_any test ls
any_standing test never [] = refl
any_standing test never (l ∷ ls) = by_filed l.filed refl
    (any_next (passes_at test (l ∷ ls)) (standing_places ls) ∙ any_standing test never ls) where
      by_filed : (b : Bool) → l.filed ≡ b → list_any (passes_at test (l ∷ ls))
          (map (λ (place : ℕ). suc place) (standing_places ls)) ≡ list_any test ls
          → list_any (passes_at test (l ∷ ls))
          (with_first (not b) (map (λ (place : ℕ). suc place) (standing_places ls)))
          ≡ (test l || list_any test ls)
      by_filed true is rest = rest ∙ ap (λ (b : Bool). b || list_any test ls) (sym (never l is))
      by_filed false is rest = ap (λ (b : Bool). test l || b) rest

slot_by : (b other : Bool) → b ≡ true → (not b && other) ≡ false
slot_by true other h = refl
slot_by false other h = absurd (true≢false (sym h))

pub filed_in_no_slot : (slot : ℕ) (l : Live) → l.filed ≡ true → is_in_slot slot l ≡ false
filed_in_no_slot slot l filed = slot_by l.filed (l.flow.id.slot == slot) filed

-- ----- a flow at its place
pub passes_get : (test : Live → Bool) (ls : List Live) (i : ℕ) (d : Live) → i < length ls
    → passes_at test ls i ≡ test (get_or ls i d)
passes_get test [] i d low = absurd (omega (arith, low))
passes_get test (l ∷ ls) zero d low = refl
passes_get test (l ∷ ls) (suc i) d low = passes_get test ls i d (omega (arith, low))

pub passes_past : (test : Live → Bool) (ls : List Live) (i : ℕ) → length ls ≤ i → passes_at test ls i ≡ false
passes_past test [] i past = refl
passes_past test (l ∷ ls) zero past = absurd (omega (arith, past))
passes_past test (l ∷ ls) (suc i) past = passes_past test ls i (omega (arith, past))

pub passes_below : (test : Live → Bool) (ls : List Live) (i : ℕ) → passes_at test ls i ≡ true → i < length ls
passes_below test [] i h = absurd (true≢false (sym h))
passes_below test (l ∷ ls) zero h = omega arith
passes_below test (l ∷ ls) (suc i) h = let low : i < length ls = passes_below test ls i h in omega (arith, low)

-- the same where the flows are seen by an equation
pub stands_below : (i : ℕ) {ls seen : List Live} → ls ≡ seen → passes_at is_standing seen i ≡ true → i < length ls
stands_below i {ls} {seen} same stands = passes_below is_standing ls i
    (subst (λ (ms : List Live). passes_at is_standing ms i ≡ true) (sym same) stands)

stands_by : (l : Live) (b : Bool) → l.filed ≡ b → l.indexed ≡ true → (l.filed ≡ true → IsAtRest l)
    → is_standing l ≡ true
stands_by l true is indexed at = absurd (true≢false (sym indexed ∙ (at is).index))
stands_by l false is indexed at = ap not is

and_front : (a b : Bool) → (a && b) ≡ true → a ≡ true
and_front true b h = refl
and_front false b h = h

-- the flow that the index has stands
pub found_stands : (t : FourTuple) (ls : List Live) (i : ℕ) → position (is_indexed_as t) ls ≡ Some i → AreAtRest ls
    → passes_at is_standing ls i ≡ true
found_stands t [] i found at = absurd (cc (found))
found_stands t (l ∷ ls) i found at =
    let there = position-Some (is_indexed_as t) (l ∷ ls) i l found in
    passes_get is_standing (l ∷ ls) i l there.0 ∙ at_place (l ∷ ls) i l there.0 there.1 at
  where
    at_place : (ms : List Live) (k : ℕ) (d : Live) → k < length ms → is_indexed_as t (get_or ms k d) ≡ true
        → AreAtRest ms → is_standing (get_or ms k d) ≡ true
    at_place [] k d low passes at = absurd (omega (arith, low))
    at_place (m ∷ ms) zero d low passes at = stands_by m m.filed refl
        (and_front m.indexed (same_tuple t m.flow.tuple) passes) at.0
    at_place (m ∷ ms) (suc k) d low passes at = at_place ms k d (omega (arith, low)) passes at.1

indexed_passes : (t : FourTuple) (ls : List Live) (i : ℕ) → indexed_at t ls i ≡ passes_at (is_indexed_as t) ls i
indexed_passes t [] i = refl
indexed_passes t (l ∷ ls) zero = refl
indexed_passes t (l ∷ ls) (suc i) = indexed_passes t ls i

-- and whatever led to a flow that is indexed under the four-tuple, it is the one that the index has
pub indexed_found : {known : FourTuple → Option Openings} (t : FourTuple) (ls : List Live) (i : ℕ) → IsIndex known ls
    → passes_at (is_indexed_as t) ls i ≡ true → Some i ≡ position (is_indexed_as t) ls
indexed_found {known} t [] i index here = absurd (true≢false (sym here))
indexed_found {known} t (l ∷ ls) i index here =
    let low : i < length (l ∷ ls) = passes_below (is_indexed_as t) (l ∷ ls) i here in
    latest_found known t (l ∷ ls) i l index (index.leads t i (indexed_passes t (l ∷ ls) i ∙ here))
    (sym (passes_get (is_indexed_as t) (l ∷ ls) i l low) ∙ here)

-- ----- slots
abbrev one_in : ℕ → Live → ℕ
one_in slot l = cond (l.flow.id.slot == slot) 1 0

in_cons : (slot : ℕ) (l : Live) (ls : List Live) → flows_in slot (l ∷ ls) ≡ one_in slot l + flows_in slot ls
in_cons slot l ls = sum_by-cons (one_in slot) l ls

pub in_push : (slot : ℕ) (ls : List Live) (l : Live) → flows_in slot (ls ++ l ∷ []) ≡ flows_in slot ls + one_in slot l
in_push slot ls l = sum_by_push (one_in slot) ls l

same_slot : (slot : ℕ) (f : Live → Live) → Keeps f → (l : Live) → one_in slot (f l) ≡ one_in slot l
same_slot slot f keeps l = ap (λ (id : FlowId). cond (id.slot == slot) 1 0) (keeps.same l).id

in_map : (slot : ℕ) (f : Live → Live) → Keeps f → (ls : List Live) → flows_in slot (map f ls) ≡ flows_in slot ls
in_map slot f keeps [] = refl
in_map slot f keeps (l ∷ ls) =
    in_cons slot (f l) (map f ls) ∙ (ap (λ (n : ℕ). n + flows_in slot (map f ls)) (same_slot slot f keeps l)
    ∙ (ap (λ (n : ℕ). one_in slot l + n) (in_map slot f keeps ls) ∙ sym (in_cons slot l ls)))

in_change : (slot : ℕ) (f : Live → Live) → Keeps f → (ls : List Live) (i : ℕ)
    → flows_in slot (change_at i f ls) ≡ flows_in slot ls
in_change slot f keeps [] i = refl
in_change slot f keeps (l ∷ ls) zero = in_cons slot (f l) ls
    ∙ (ap (λ (n : ℕ). n + flows_in slot ls) (same_slot slot f keeps l) ∙ sym (in_cons slot l ls))
in_change slot f keeps (l ∷ ls) (suc i) = in_cons slot l (change_at i f ls)
    ∙ (ap (λ (n : ℕ). one_in slot l + n) (in_change slot f keeps ls i) ∙ sym (in_cons slot l ls))

one_at_most : (b : Bool) → cond b 1 0 ≤ 1
one_at_most true = omega arith
one_at_most false = omega arith

pub in_few : (slot : ℕ) (ls : List Live) → flows_in slot ls ≤ length ls
in_few slot [] = omega arith
in_few slot (l ∷ ls) =
    let rest : flows_in slot ls ≤ length ls = in_few slot ls in
    let one : one_in slot l ≤ 1 = one_at_most (l.flow.id.slot == slot) in
    omega (arith, in_cons slot l ls, rest, one)

-- ----- all that is known
pub known_map : (known : FourTuple → Option Openings) (slots : ℕ → Option ℕ) (places : List ℕ) (given : ℕ)
    (marks : List Bool) (f : Live → Live) (ls : List Live) → Keeps f → Rests f → Stays f
    → IsKnown known slots places given marks ls
    → IsKnown known slots places given marks (map f ls)
known_map known slots places given marks f ls keeps rests stays is = record {
  index = map_index known f ls keeps is.index;
  counts = λ slot. is.counts slot ∙ sym (in_map slot f keeps ls);
  standing = is.standing ∙ sym (places_map f stays ls);
  filed = rest_map f rests stays ls is.filed;
  ports = is.ports ∙ sym (given_map f keeps ls);
  taken = marked_map marks f keeps stays ls is.taken;
}

pub known_change : (known : FourTuple → Option Openings) (slots : ℕ → Option ℕ) (places : List ℕ) (given : ℕ)
    (marks : List Bool) (f : Live → Live) (ls : List Live) (i : ℕ) → Keeps f → Stays f
    → passes_at is_standing ls i ≡ true
    → IsKnown known slots places given marks ls
    → IsKnown known slots places given marks (change_at i f ls)
known_change known slots places given marks f ls i keeps stays stands is = record {
  index = change_index known f ls i keeps is.index;
  counts = λ slot. is.counts slot ∙ sym (in_change slot f keeps ls i);
  standing = is.standing ∙ sym (places_change f stays ls i);
  filed = rest_change f stays ls i stands is.filed;
  ports = is.ports ∙ sym (given_change f keeps ls i);
  taken = marked_change marks f keeps stays ls i is.taken;
}

pub known_calm : (known : FourTuple → Option Openings) (slots : ℕ → Option ℕ) (places : List ℕ) (given : ℕ)
    (marks : List Bool) (f : Live → Live) (ls : List Live) (i : ℕ) → Keeps f → Calms f → Stays f
    → IsKnown known slots places given marks ls
    → IsKnown known slots places given marks (change_at i f ls)
known_calm known slots places given marks f ls i keeps calms stays is = record {
  index = change_index known f ls i keeps is.index;
  counts = λ slot. is.counts slot ∙ sym (in_change slot f keeps ls i);
  standing = is.standing ∙ sym (places_change f stays ls i);
  filed = rest_calm f calms stays ls i is.filed;
  ports = is.ports ∙ sym (given_change f keeps ls i);
  taken = marked_change marks f keeps stays ls i is.taken;
}

-- after a sweep
pub places_left : {places later : List ℕ} (ls : List Live) {after : List Live} → places ≡ standing_places ls
    → after ≡ map swept ls
    → later ≡ filter (passes_at is_standing after) places → later ≡ standing_places after
places_left {places} {later} ls {after} is made left =
    left ∙ (ap (λ (ms : List Live). filter (passes_at is_standing ms) places) made
    ∙ (ap (filter (passes_at is_standing (map swept ls))) is ∙ (places_swept ls ∙ ap standing_places (sym made))))

pub known_swept : {known : FourTuple → Option Openings} {slots : ℕ → Option ℕ} {places later : List ℕ} {given : ℕ}
    {marks anew : List Bool} {ls after : List Live} → IsKnown known slots places given marks ls → after ≡ map swept ls
    → later ≡ standing_places after → length anew ≡ length marks
    → ((slot : ℕ) → slot < length marks → get_or anew slot false ≡ list_any (is_in_slot slot) after)
    → IsKnown known slots later given anew after
known_swept {known} {slots} {places} {later} {given} {marks} {anew} {ls} {after} is made left same noted =
    subst (IsKnown known slots later given anew) (sym made) (record {
      index = map_index known swept ls swept_keeps is.index;
      counts = λ slot. is.counts slot ∙ sym (in_map slot swept swept_keeps ls);
      standing = left ∙ ap standing_places made;
      filed = rest_swept ls is.filed;
      ports = is.ports ∙ sym (given_map swept swept_keeps ls);
      taken = marked_swept marks anew ls is.taken same
          (λ slot low. noted slot low ∙ ap (list_any (is_in_slot slot)) made);
    })

-- ----- a loop over the places
-- What is left to do leads to the same end.
pub record Leads (f : Live → Live) (places : List ℕ) (k : ℕ) (ls old : List Live) : Type 0 where
  pub same : changed_all f (drop k places) ls ≡ changed_all f places old
  pub len : length ls ≡ length old

pub leads_below : {f : Live → Live} {places : List ℕ} {k : ℕ} {ls old : List Live} → Leads f places k ls old
    → places ≡ standing_places old → k < length places → get_or places k 0 < length ls
leads_below {f} {places} {k} {ls} {old} leads is low = subst (λ (n : ℕ). get_or places k 0 < n) (sym leads.len)
    (place_below old places k 0 is low)

-- a flow more was changed
pub leads_on : {f : Live → Live} {places : List ℕ} {k : ℕ} {ls old : List Live} {was made : Live}
    → Leads f places k ls old → places ≡ standing_places old → k < length places
    → was ≡ get_or ls (get_or places k 0) was → made ≡ f was
    → Leads f places (k + 1) (set ls (get_or places k 0) made) old
leads_on {f} {places} {k} {ls} {old} {was} {made} leads is low read by =
    let wrote : set ls (get_or places k 0) made ≡ change_at (get_or places k 0) f ls = wrote_change f ls ls
    (get_or places k 0) was made refl (leads_below leads is low) read by in
    record {
      same = ap (changed_all f (drop (k + 1) places)) wrote ∙ (sym (changed_more f places k 0 ls low) ∙ leads.same);
      len = ap length wrote ∙ (length_change f ls (get_or places k 0) ∙ leads.len);
    }

none_left : (places : List ℕ) (k : ℕ) → length places ≤ k → drop k places ≡ []
none_left [] zero past = refl
none_left [] (suc k) past = refl
none_left (p ∷ ps) zero past = absurd (omega (arith, past))
none_left (p ∷ ps) (suc k) past = none_left ps k (omega (arith, past))

-- and all were
pub leads_to_all : {f : Live → Live} {places : List ℕ} {k : ℕ} {ls old : List Live} → Rests f → Leads f places k ls old
    → places ≡ standing_places old → AreAtRest old → length places ≤ k → ls ≡ map f old
leads_to_all {f} {places} {k} {ls} {old} rests leads is rest past =
    sym (ap (λ (ps : List ℕ). changed_all f ps ls) (none_left places k past))
    ∙ (leads.same ∙ (ap (λ (ps : List ℕ). changed_all f ps old) is ∙ all_changed f rests old rest))

-- ----- one flow more
pub known_push : (known later : FourTuple → Option Openings) (slots more : ℕ → Option ℕ) (places longer : List ℕ)
    (given more_ports : ℕ) (marks anew : List Bool) (tuple : FourTuple) (now : Openings) (ls : List Live) (l : Live)
    → now.latest ≡ length ls → now.count ≡ 1 + opened_as tuple ls
    → ((q : FourTuple) → later q ≡ cond (equal_tuple tuple q) (Some now) (known q))
    → ((slot : ℕ) → number_of (more slot) ≡ number_of (slots slot) + cond (l.flow.id.slot == slot) 1 0)
    → longer ≡ places ++ length ls ∷ [] → more_ports ≡ given + one_given l
    → ((slot : ℕ) → get_or anew slot false ≡ (get_or marks slot false || l.flow.id.slot == slot))
    → l.flow.tuple ≡ tuple → position (is_indexed_as tuple) ls ≡ None → l.filed ≡ false
    → IsKnown known slots places given marks ls
    → IsKnown later more longer more_ports anew (ls ++ l ∷ [])
known_push known later slots more places longer given more_ports marks anew tuple now ls l latest count noted counted
    grown counts_port marked own none fresh is =
    record {
      index =
          pushed_index known later tuple ls l now.latest (opened_as tuple ls) latest refl
          (λ q. noted q ∙ ap (λ (n : ℕ). cond (equal_tuple tuple q) (Some (record { latest = now.latest; count = n }))
          (known q)) count)
          own none is.index;
      counts = λ slot. counted slot ∙ (ap (λ (n : ℕ). n + one_in slot l) (is.counts slot) ∙ sym (in_push slot ls l));
      standing = grown ∙ (ap (λ (ps : List ℕ). ps ++ length ls ∷ []) is.standing ∙ sym (places_push ls l fresh));
      filed = rest_push ls l fresh is.filed;
      ports = counts_port ∙ (ap (λ (n : ℕ). n + one_given l) is.ports ∙ sym (given_push ls l));
      taken = marked_push marks anew ls l fresh marked is.taken;
    }

-- ----- a slice that was written whole
pub written_whole : (made old : List Bool) (n : ℕ) → n ≡ length old → length made ≡ length old
    → take n (made ++ drop (length made) old) ≡ made
written_whole made old n all same =
    ap (λ (k : ℕ). take k (made ++ drop (length made) old)) (all ∙ sym same)
    ∙ take_at made (drop (length made) old) (length made) refl

-- ----- what was done
-- What is known is right after a change of all flows,
pub sound_by_map : {T E : Type 0} (r : Result T E) {known : FourTuple → Option Openings} {slots : ℕ → Option ℕ}
    {places : List ℕ} {given : ℕ} {marks : List Bool} {f : Live → Live} {ls : List Live} (after : List Live)
    → Keeps f → Rests f → Stays f
    → IsKnown known slots places given marks ls → OnOk r (after ≡ map f ls)
    → OnOk r (IsKnown known slots places given marks after)
sound_by_map r {known} {slots} {places} {given} {marks} {f} {ls} after keeps rests stays sound = ok_by r
    (λ made. subst (IsKnown known slots places given marks) (sym made)
    (known_map known slots places given marks f ls keeps rests stays sound))

-- and of one that stands,
pub sound_by_change : {T E : Type 0} (r : Result T E) {known : FourTuple → Option Openings} {slots : ℕ → Option ℕ}
    {places : List ℕ} {given : ℕ} {marks : List Bool} (f : Live → Live) (i : ℕ) {ls seen : List Live} (was made : Live)
    → Keeps f → Stays f → IsKnown known slots places given marks ls → ls ≡ seen → passes_at is_standing seen i ≡ true
    → was ≡ get_or ls i was
    → OnOk r (made ≡ f was) → OnOk r (IsKnown known slots places given marks (set ls i made))
sound_by_change r {known} {slots} {places} {given} {marks} f i {ls} {seen} was made keeps stays sound same stands read =
    ok_by r
    (λ by. subst (IsKnown known slots places given marks) (sym
    (wrote_change f ls ls i was made refl (stands_below i same stands) read by))
    (known_change known slots places given marks f ls i keeps stays
    (subst (λ (ms : List Live). passes_at is_standing ms i ≡ true) (sym same) stands) sound))

-- or of any that stays at rest,
pub sound_calm : {known : FourTuple → Option Openings} {slots : ℕ → Option ℕ} {places : List ℕ} {given : ℕ}
    {marks : List Bool} (f : Live → Live) (i : ℕ) {ls : List Live} (was made : Live) → Keeps f → Calms f → Stays f
    → IsKnown known slots places given marks ls
    → i < length ls → was ≡ get_or ls i was → made ≡ f was → IsKnown known slots places given marks (set ls i made)
sound_calm {known} {slots} {places} {given} {marks} f i {ls} was made keeps calms stays sound low read by =
    subst (IsKnown known slots places given marks) (sym (wrote_change f ls ls i was made refl low read by))
    (known_calm known slots places given marks f ls i keeps calms stays sound)

pub sound_if_calm : {T E : Type 0} (r : Result T E) {known : FourTuple → Option Openings} {slots : ℕ → Option ℕ}
    {places : List ℕ} {given : ℕ} {marks : List Bool} (f : Live → Live) (i : ℕ) {ls : List Live} (was made : Live)
    → Keeps f → Calms f → Stays f → IsKnown known slots places given marks ls → i < length ls → was ≡ get_or ls i was
    → OnOk r (made ≡ f was)
    → OnOk r (IsKnown known slots places given marks (set ls i made))
sound_if_calm r f i was made keeps calms stays sound low read =
    ok_by r (λ by. sound_calm f i was made keeps calms stays sound low read by)

-- which is the change that was meant.
pub done_by_calm : {T E : Type 0} (r s : Result T E) (f : Live → Live) (i : ℕ) {ls seen : List Live} (was made : Live)
    (after : List Live) → ls ≡ seen → i < length seen → was ≡ get_or ls i was
    → OnOk r (made ≡ f was) → s ≡ r → OnOk s (after ≡ set ls i made)
    → OnOk s (after ≡ change_at i f seen)
done_by_calm {T} {E} (Ok x) s f i {ls} {seen} was made after same low read by is kept = ok_by s
    (λ left. left ∙ wrote_change f ls seen i was made same low read by) kept
done_by_calm {T} {E} (Err e) s f i {ls} {seen} was made after same low read by is kept = subst
    (λ (t : Result T E). OnOk t (after ≡ change_at i f seen)) (sym is) tt

pub done_by_change : {T E : Type 0} (r s : Result T E) (f : Live → Live) (i : ℕ) {ls seen : List Live} (was made : Live)
    (after : List Live) → ls ≡ seen → passes_at is_standing seen i ≡ true → was ≡ get_or ls i was
    → OnOk r (made ≡ f was) → s ≡ r → OnOk s (after ≡ set ls i made)
    → OnOk s (after ≡ change_at i f seen)
done_by_change r s f i {ls} {seen} was made after same stands read by is kept =
    done_by_calm r s f i was made after same (passes_below is_standing seen i stands) read by is kept

-- the same answer
pub ok_as : {T E : Type 0} (P : Type 0) (r s : Result T E) → s ≡ r → OnOk r P → OnOk s P
ok_as {T} {E} P r s is kept = subst (λ (q : Result T E). OnOk q P) (sym is) kept
