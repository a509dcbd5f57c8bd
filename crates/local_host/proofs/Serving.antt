-- A capture's script, stage by stage, of a flow among the flows of its host.
use Rattle.std.proofs.Common.{◌≡◌, ℕ, zero, suc, ◌+◌, ◌<◌, ◌≤◌, ◌++◌, not, Bool, cond, List, [], ◌∷◌}
use Rattle.std.proofs.Common.{length, get_or, set, slice_get, fold, position, nat_lt, Option, Some, None, refl, sym, ap}
use Rattle.std.proofs.Common.{◌∙◌, arith}
use Rattle.std.specs.List.{position_or_len}
use Rattle.tas_model.specs.declared.entry.FourTuple.{FourTuple}
use Rattle.tas_model.specs.declared.entry.Seg.{Seg}
use Rattle.host_rounds.specs.Lists.{change_at}
use Rattle.host_rounds.specs.Hosts.{Live, Host, is_indexed_as, at_flow}
use Rattle.host_rounds.specs.Scripts.{Site}
use Rattle.tas_runs.specs.Records.{Content, Local}
use Rattle.tas_runs.specs.LocalScript.{Stage, Beginning, Accepting, Sending, Shutting, Aborting, Receiving, Leaving}
use Rattle.tas_runs.specs.LocalScript.{Shown, nothing_shown, all_shown, at_stage, shown_after, sees, served_at}
use Rattle.tas_runs.specs.LocalScript.{served_where, served_flow}
use Rattle.local_host.specs.Script.{Served, staged, later_stages, asked_all, asked_live, shown_in, at_place, asked_at}
use Rattle.local_host.specs.Script.{served_later}
use Rattle.std.proofs.lemmas.List.Quantifiers.{position-Some}
use Rattle.local_host.proofs.Places.{wrote_change}
use Rattle.local_host.proofs.Indexing.{Kept, stage_kept}

-- ----- one place of a list
same_some : {X : Type 0} (x y : X) → Some x ≡ Some y → x ≡ y
same_some x y h = cc (h)

change_get : {X : Type 0} (f : X → X) (xs : List X) (i : ℕ) (x : X) → slice_get xs i ≡ Some x
    → change_at i f xs ≡ change_at i (λ (y : X). f x) xs
change_get f [] i x h = refl
change_get {X} f (y ∷ ys) zero x h = ap (λ (z : X). f z ∷ ys) (same_some y x h)
change_get {X} f (y ∷ ys) (suc i) x h = ap (λ (zs : List X). y ∷ zs) (change_get f ys i x h)

change_or : {X : Type 0} (f : X → X) (xs : List X) (i : ℕ) (d : X)
    → change_at i f xs ≡ change_at i (λ (y : X). f (get_or xs i d)) xs
change_or f [] i d = refl
change_or f (y ∷ ys) zero d = refl
change_or {X} f (y ∷ ys) (suc i) d = ap (λ (zs : List X). y ∷ zs) (change_or f ys i d)

get_change : {X : Type 0} (xs : List X) (i : ℕ) (x y : X) → slice_get xs i ≡ Some x
    → slice_get (change_at i (λ (z : X). y) xs) i ≡ Some y
get_change [] i x y h = absurd (cc (h))
get_change (z ∷ zs) zero x y h = refl
get_change (z ∷ zs) (suc i) x y h = get_change zs i x y h

or_change : {X : Type 0} (xs : List X) (i : ℕ) (y d : X) → i < length xs
    → get_or (change_at i (λ (z : X). y) xs) i d ≡ y
or_change [] i y d low = absurd (omega (arith, low))
or_change (z ∷ zs) zero y d low = refl
or_change (z ∷ zs) (suc i) y d low = or_change zs i y d (omega (arith, low))

change_again : {X : Type 0} (xs : List X) (i : ℕ) (y z : X)
    → change_at i (λ (x : X). z) (change_at i (λ (x : X). y) xs) ≡ change_at i (λ (x : X). z) xs
change_again [] i y z = refl
change_again (x ∷ xs) zero y z = refl
change_again {X} (x ∷ xs) (suc i) y z = ap (λ (zs : List X). x ∷ zs) (change_again xs i y z)

const_length : {X : Type 0} (xs : List X) (i : ℕ) (y : X) → length (change_at i (λ (x : X). y) xs) ≡ length xs
const_length [] i y = refl
const_length (x ∷ xs) zero y = refl
const_length (x ∷ xs) (suc i) y = ap suc (const_length xs i y)

pub some_below : {X : Type 0} (xs : List X) (i : ℕ) (x : X) → slice_get xs i ≡ Some x → i < length xs
some_below [] i x h = absurd (cc (h))
some_below (y ∷ ys) zero x h = omega arith
some_below (y ∷ ys) (suc i) x h = let low : i < length ys = some_below ys i x h in omega (arith, low)

-- a search finds the same where the test says the same of what was put there
front_change : {X : Type 0} (test : X → Bool) (xs : List X) (i : ℕ) (x y : X) → slice_get xs i ≡ Some x
    → test y ≡ test x
    → position_or_len test (change_at i (λ (z : X). y) xs) ≡ position_or_len test xs
front_change test [] i x y h same = refl
front_change test (z ∷ zs) zero x y h same =
    ap (λ (b : Bool). cond (not b) (1 + position_or_len test zs) 0) (same ∙ ap test (sym (same_some z x h)))
front_change test (z ∷ zs) (suc i) x y h same =
    ap (λ (n : ℕ). cond (not (test z)) (1 + n) 0) (front_change test zs i x y h same)

position_change : {X : Type 0} (test : X → Bool) (xs : List X) (i : ℕ) (x y : X) → slice_get xs i ≡ Some x
    → test y ≡ test x
    → position test (change_at i (λ (z : X). y) xs) ≡ position test xs
position_change {X} test xs i x y h same =
    let after : List X = change_at i (λ (z : X). y) xs in
    let front : position_or_len test after ≡ position_or_len test xs = front_change test xs i x y h same in
    ap (λ (n : ℕ). cond (nat_lt n (length after)) (Some n) None) front
    ∙ ap (λ (n : ℕ). cond (nat_lt (position_or_len test xs) n) (Some (position_or_len test xs)) None)
    (const_length xs i y)

-- ----- what was shown
pub all_enough : (ls : List Live) (shown : List Shown) → length ls ≤ length shown → all_shown ls shown ≡ shown
all_enough [] shown h = refl
all_enough (l ∷ ls) [] h = absurd (omega (arith, h))
all_enough (l ∷ ls) (s ∷ shown) h = ap (λ (ss : List Shown). s ∷ ss) (all_enough ls shown (omega (arith, h)))

pub all_length : (ls : List Live) (shown : List Shown) → length ls ≤ length (all_shown ls shown)
all_length [] shown = omega arith
all_length (l ∷ ls) [] = let rest : length ls ≤ length (all_shown ls []) = all_length ls [] in omega (arith, rest)
all_length (l ∷ ls) (s ∷ shown) = let rest : length ls ≤ length (all_shown ls shown) = all_length ls shown in omega
    (arith, rest)

-- one thing more than so few
pub shown_more : (ls : List Live) (shown : List Shown) → length shown < length ls
    → all_shown ls (shown ++ nothing_shown ∷ []) ≡ all_shown ls shown
shown_more [] shown h = absurd (omega (arith, h))
shown_more (l ∷ ls) [] h = refl
shown_more (l ∷ ls) (s ∷ shown) h = ap (λ (ss : List Shown). s ∷ ss) (shown_more ls shown (omega (arith, h)))

-- ----- the flow of a four-tuple
-- the index leads to the flow at this place, which is l
pub record IsAt (tuple : FourTuple) (i : ℕ) (l : Live) (site : Site (List Shown)) : Type 0 where
  pub found : position (is_indexed_as tuple) site.host.flows ≡ Some i
  pub here : slice_get site.host.flows i ≡ Some l

indexed_kept : (tuple : FourTuple) (l m : Live) → Kept l m → is_indexed_as tuple m ≡ is_indexed_as tuple l
indexed_kept tuple l m kept = cc (kept.indexed, kept.tuple)

-- put at its place, it is there
placed_is : (tuple : FourTuple) (i : ℕ) (l : Live) (p : Served) (site : Site (List Shown)) → IsAt tuple i l site
    → Kept l p.live
    → IsAt tuple i p.live (at_place i p site)
placed_is tuple i l p site at kept = record {
  found = position_change (is_indexed_as tuple) site.host.flows i l p.live at.here (indexed_kept tuple l p.live kept)
      ∙ at.found;
  here = get_change site.host.flows i l p.live at.here;
}

placed_shown : (i : ℕ) (p : Served) (site : Site (List Shown))
    → shown_in (at_place i p site) ≡ change_at i (λ (s : Shown). p.shown) (shown_in site)
placed_shown i p site =
    all_enough _ _ (omega (
      arith,
      const_length site.host.flows i p.live,
      const_length
          (shown_in site) i p.shown,
      all_length site.host.flows site.scripts,
    ))

placed_twice : (i : ℕ) (p q : Served) (site : Site (List Shown)) → at_place i q (at_place i p site) ≡ at_place i q site
placed_twice i p q site =
    let shown : change_at i (λ (s : Shown). q.shown) (shown_in (at_place i p site))
    ≡ change_at i (λ (s : Shown). q.shown) (shown_in site) =
    ap (change_at i (λ (s : Shown). q.shown)) (placed_shown i p site)
    ∙ change_again (shown_in site) i p.shown q.shown in
    ap (λ (ls : List Live). record {
      host = record (site.host) { flows = ls };
      scripts = change_at i
          (λ (s : Shown). q.shown) (shown_in (at_place i p site));
    })
    (change_again site.host.flows i p.live q.live)
    ∙ ap (λ (ss : List Shown). record {
      host = record
          (site.host) { flows = change_at i (λ (l : Live). q.live) site.host.flows };
      scripts = ss;
    }) shown

placed_get : (i : ℕ) (l : Live) (p : Served) (site : Site (List Shown)) → slice_get site.host.flows i ≡ Some l
    → get_or (shown_in (at_place i p site)) i nothing_shown ≡ p.shown
placed_get i l p site here =
    ap (λ (ss : List Shown). get_or ss i nothing_shown) (placed_shown i p site)
    ∙ or_change (shown_in site) i p.shown nothing_shown
    (omega (arith, some_below site.host.flows i l here, all_length site.host.flows site.scripts))

-- ----- one stage
served_by : (stage : Stage) (t : ℕ) (content : Content) (i : ℕ) (l : Live) (site : Site (List Shown))
    → slice_get site.host.flows i ≡ Some l
    → served_at i (Some l) stage t content site
    ≡ at_place i (staged t content (record { live = l; shown = get_or (shown_in site) i nothing_shown }) stage) site
served_by stage t content i l site here =
    let s : Shown = get_or (shown_in site) i nothing_shown in
    ap (λ (ls : List Live). record {
      host = record (site.host) { flows = ls };
      scripts = change_at i
          (shown_after stage t content l) (shown_in site);
    })
    (change_get (at_stage stage t content s) site.host.flows i l here)
    ∙ ap (λ (ss : List Shown). record {
      host = record
          (site.host) { flows = change_at i (λ (m : Live). at_stage stage t content s l) site.host.flows };
      scripts = ss;
    })
    (change_or (shown_after stage t content l) (shown_in site) i nothing_shown)

pub served_one : (stage : Stage) (t : ℕ) (content : Content) (tuple : FourTuple) (i : ℕ) (l : Live)
    (site : Site (List Shown)) → IsAt tuple i l site
    → served_flow stage t content tuple site
    ≡ at_place i (staged t content (record { live = l; shown = get_or (shown_in site) i nothing_shown }) stage) site
served_one stage t content tuple i l site at =
    ap (λ (o : Option ℕ). served_where o stage t content site) at.found
    ∙ (ap (λ (o : Option Live). served_at i o stage t content site) at.here
    ∙ served_by stage t content i l site at.here)

-- ----- all stages
after_kept : (l m n : Live) → Kept l m → Kept m n → Kept l n
after_kept l m n a b = record {
  tuple = b.tuple ∙ a.tuple;
  id = b.id ∙ a.id;
  indexed = b.indexed
      ∙ a.indexed;
  filed = b.filed ∙ a.filed;
}

stages_served : (stages : List Stage) (t : ℕ) (content : Content) (tuple : FourTuple) (i : ℕ) (l : Live) (p : Served)
    (site : Site (List Shown))
    → IsAt tuple i l site → Kept l p.live
    → fold (λ (s : Site (List Shown)) (stage : Stage). served_flow stage t content tuple s) (at_place i p site) stages
    ≡ at_place i (fold (staged t content) p stages) site
stages_served [] t content tuple i l p site at kept = refl
stages_served (stage ∷ stages) t content tuple i l p site at kept =
    let here : Site (List Shown) = at_place i p site in
    let next : Served = staged t content p stage in
    let one : served_flow stage t content tuple here ≡ at_place i next site =
    served_one stage t content tuple i p.live here (placed_is tuple i l p site at kept)
    ∙ (ap (λ (s : Shown). at_place i (staged t content (record { live = p.live; shown = s }) stage) here)
    (placed_get i l p site at.here)
    ∙ placed_twice i p next site) in
    ap (λ (s : Site (List Shown)). fold (λ (r : Site (List Shown)) (later : Stage). served_flow later t content tuple r)
    s stages) one
    ∙ stages_served stages t content tuple i l next site at
    (after_kept l p.live next.live kept (stage_kept stage t content p.shown p.live))

all_served : (stage : Stage) (stages : List Stage) (t : ℕ) (content : Content) (tuple : FourTuple) (i : ℕ) (l : Live)
    (site : Site (List Shown))
    → IsAt tuple i l site
    → fold (λ (s : Site (List Shown)) (later : Stage). served_flow later t content tuple s) site (stage ∷ stages)
    ≡ at_place i (fold (staged t content) (record { live = l; shown = get_or (shown_in site) i nothing_shown })
    (stage ∷ stages)) site
all_served stage stages t content tuple i l site at =
    let s : Shown = get_or (shown_in site) i nothing_shown in
    ap (λ (r : Site (List Shown)). fold (λ (q : Site (List Shown)) (later : Stage). served_flow later t content tuple q)
    r stages)
    (served_one stage t content tuple i l site at)
    ∙ stages_served stages t content tuple i l (staged t content (record { live = l; shown = s }) stage) site at
    (stage_kept stage t content s l)

-- where the index leads to a flow
pub later_served_at : (t : ℕ) (content : Content) (tuple : FourTuple) (i : ℕ) (l : Live) (site : Site (List Shown))
    → IsAt tuple i l site
    → served_later t content tuple site ≡ asked_at i l t content site
unfolding served_later asked_all
later_served_at t content tuple i l site at =
    all_served Accepting (Sending ∷ Shutting ∷ Aborting ∷ Receiving ∷ Leaving ∷ []) t content tuple i l site at

-- and where it leads to none
served_nowhere : (stages : List Stage) (t : ℕ) (content : Content) (tuple : FourTuple) (site : Site (List Shown))
    → position (is_indexed_as tuple) site.host.flows ≡ None
    → fold (λ (s : Site (List Shown)) (stage : Stage). served_flow stage t content tuple s) site stages ≡ site
served_nowhere [] t content tuple site none = refl
served_nowhere (stage ∷ stages) t content tuple site none =
    ap (λ (s : Site (List Shown)). fold (λ (r : Site (List Shown)) (later : Stage). served_flow later t content tuple r)
    s stages)
    (ap (λ (o : Option ℕ). served_where o stage t content site) none)
    ∙ served_nowhere stages t content tuple site none

pub later_served_nowhere : (t : ℕ) (content : Content) (tuple : FourTuple) (site : Site (List Shown))
    → position (is_indexed_as tuple) site.host.flows ≡ None → site ≡ served_later t content tuple site
unfolding served_later
later_served_nowhere t content tuple site none = sym (served_nowhere later_stages t content tuple site none)

-- ----- what the program does at a place
get_any : {X : Type 0} (xs : List X) (i : ℕ) (d e : X) → i < length xs → get_or xs i d ≡ get_or xs i e
get_any [] i d e low = absurd (omega (arith, low))
get_any (x ∷ xs) zero d e low = refl
get_any (x ∷ xs) (suc i) d e low = get_any xs i d e (omega (arith, low))

same_change : {X : Type 0} (xs : List X) (i : ℕ) → xs ≡ change_at i (λ (x : X). x) xs
same_change [] i = refl
same_change (x ∷ xs) zero = refl
same_change {X} (x ∷ xs) (suc i) = ap (λ (zs : List X). x ∷ zs) (same_change xs i)

-- the one at a place that is found
pub found_at : {X : Type 0} (test : X → Bool) (xs : List X) (i : ℕ) → position test xs ≡ Some i
    → (x : X) × (slice_get xs i ≡ Some x)
found_at test [] i found = absurd (cc (found))
found_at {X} test (x ∷ xs) i found = at (x ∷ xs) i (position-Some test (x ∷ xs) i x found).0 where
  at : (ys : List X) (k : ℕ) → k < length ys → (y : X) × (slice_get ys k ≡ Some y)
  at [] k low = absurd (omega (arith, low))
  at (y ∷ ys) zero low = (y, refl)
  at (y ∷ ys) (suc k) low = at ys k (omega (arith, low))

-- what was shown of the flow there
was_shown : (site : Site (List Shown)) (i : ℕ) (inside : List Shown) (was : Shown) → inside ≡ shown_in site
    → was ≡ get_or inside i was
    → i < length (shown_in site) → was ≡ get_or (shown_in site) i nothing_shown
was_shown site i inside was same read low =
    read ∙ (ap (λ (ss : List Shown). get_or ss i was) same ∙ get_any (shown_in site) i was nothing_shown low)

pub asked_placed : (site : Site (List Shown)) (i t : ℕ) (content : Content) (l : Live) (inside : List Shown)
    (was made : Shown) (host : Host)
    → slice_get site.host.flows i ≡ Some l → inside ≡ shown_in site → was ≡ get_or inside i was
    → host ≡ at_flow i (asked_live t content was) site.host
    → made ≡ (asked_all t content (record { live = l; shown = was })).shown
    → ◌≡◌ {A = Site (List Shown)} (record { host = host; scripts = set inside i made }) (asked_at i l t content site)
asked_placed site i t content l inside was made host here same read served shown =
    let low : i < length (shown_in site) = omega (
      arith,
      some_below site.host.flows i l here,
      all_length site.host.flows
          site.scripts,
    ) in
    let s : Shown = get_or (shown_in site) i nothing_shown in
    let is : was ≡ s = was_shown site i inside was same read low in
    let first : host ≡ at_flow i (λ (m : Live). asked_live t content s l) site.host =
    served
    ∙ (ap (λ (r : Shown). at_flow i (asked_live t content r) site.host) is
    ∙ ap (λ (ls : List Live). record (site.host) { flows = ls })
    (change_get (asked_live t content s) site.host.flows i l here)) in
    let f : Shown → Shown = λ r. (asked_all t content (record { live = l; shown = r })).shown in
    let second : set inside i made ≡ change_at i (λ (r : Shown). f s) (shown_in site) =
    wrote_change f inside (shown_in site) i was made same low read shown
    ∙ change_or f (shown_in site) i nothing_shown in
    ap (λ (h : Host). record { host = h; scripts = set inside i made }) first
    ∙ ap (λ (ss : List Shown). record {
      host = at_flow i
          (λ (m : Live). asked_live t content s l) site.host;
      scripts = ss;
    }) second

pub seen_placed : (site : Site (List Shown)) (i t : ℕ) (tuple : FourTuple) (seg : Seg) (l : Live) (inside : List Shown)
    (was made : Shown)
    → slice_get site.host.flows i ≡ Some l → inside ≡ shown_in site → was ≡ get_or inside i was → made ≡ sees seg l was
    → ◌≡◌ {A = Site (List Shown)} (record { host = site.host; scripts = set inside i made })
    (served_where (Some i) Beginning t (Local tuple seg) site)
seen_placed site i t tuple seg l inside was made here same read shown =
    let low : i < length (shown_in site) = omega (
      arith,
      some_below site.host.flows i l here,
      all_length site.host.flows
          site.scripts,
    ) in
    ap (λ (ls : List Live). record { host = record (site.host) { flows = ls }; scripts = set inside i made })
    (same_change site.host.flows i)
    ∙ (ap (λ (ss : List Shown). record { host = at_flow i (λ (m : Live). m) site.host; scripts = ss })
    (wrote_change (sees seg l) inside (shown_in site) i was made same low read shown)
    ∙ ap (λ (o : Option Live). served_at i o Beginning t (Local tuple seg) site) (sym here))
