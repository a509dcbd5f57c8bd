-- The index stays right while flows change, and when one is opened.
use Rattle.std.proofs.Common.{◌≡◌, ℕ, zero, suc, ◌+◌, ◌<◌, ◌++◌, ◌&&◌, ◌||◌, ◌⊎◌, inl, inr, Bool, true, false, cond}
use Rattle.std.proofs.Common.{List, [], ◌∷◌, length, get_or, map, fold, position, Option, Some, None, if◌then◌else◌}
use Rattle.std.proofs.Common.{refl, sym, ap, subst, ◌∙◌, true≢false, arith, length-append}
use Rattle.std.proofs.lemmas.List.{length-map}
use Rattle.std.specs.List.{list_any}
use Rattle.std.proofs.lemmas.List.Sums.{sum_by-cons, sum_by_push}
use Rattle.std.proofs.lemmas.List.Quantifiers.{position-Some}
use Rattle.tas_model.specs.declared.entry.FourTuple.{FourTuple}
use Rattle.tas_model.specs.declared.entry.FrameId.{FrameId}
use Rattle.tas_model.specs.declared.entry.Seg.{Seg}
use Rattle.tas_model.specs.declared.entry.Caller.TheVariants.{Slow, Core}
use Rattle.tas_model.specs.declared.entry.Call.TheVariants as calls
use Rattle.tas_model.specs.NextSegment.{Going, going}
use Rattle.tas_model.proofs.Tests.{on_cond}
use Rattle.tas_runs.specs.Records.{Content, Remote, Local, is_remote}
use Rattle.host_rounds.specs.Lists.{change_at}
use Rattle.host_rounds.specs.Hosts.{Live, endpoint, is_over, is_held, with_call, is_indexed_as, opened_as, same_tuple}
use Rattle.host_rounds.specs.Upkeep.{swept, controlled_where, timed, timed_unless, quieted, quieted_within}
use Rattle.local_host.specs.declared.arrival.Taking.{Taking}
use Rattle.local_host.specs.declared.arrival.Taking.TheVariants as takings
use Rattle.local_host.specs.Arriving.{taking_in}
use Rattle.tas_runs.specs.LocalScript.{Stage, Beginning, Accepting, Sending, Shutting, Aborting, Receiving, Leaving}
use Rattle.tas_runs.specs.LocalScript.{Shown, at_stage, asked_where, is_wanted, given_up, resets_here}
use Rattle.capture_items.specs.Starts.{equal_tuple}
use Rattle.capture_items.proofs.Listed.{tuple_exact, tuple_itself, tuple_apart, same_equal}
use Rattle.local_host.specs.declared.flows.Openings.{Openings}
use Rattle.local_host.specs.Index.{indexed_at, latest_of, count_of, IsIndex}
use Rattle.local_host.specs.Script.{Served, staged, later_stages, asked_all, asked_live}
use Rattle.local_host.proofs.Hosting.{unknown}

-- ----- changes that index nothing
-- the flow keeps its id and its four-tuple, and is indexed only where it was
pub record Same (l m : Live) : Type 0 where
  pub tuple : m.flow.tuple ≡ l.flow.tuple
  pub id : m.flow.id ≡ l.flow.id
  pub index : m.indexed ≡ true → l.indexed ≡ true

pub record Keeps (f : Live → Live) : Type 0 where
  pub same : (l : Live) → Same l (f l)

itself : (l : Live) → Same l l
itself l = record { tuple = refl; id = refl; index = λ h. h }

after : (l m n : Live) → Same l m → Same m n → Same l n
after l m n a b = record { tuple = b.tuple ∙ a.tuple; id = b.id ∙ a.id; index = λ h. a.index (b.index h) }

and_first : (a b : Bool) → (a && b) ≡ true → a ≡ true
and_first true b h = refl
and_first false b h = h

and_second : (a b : Bool) → (a && b) ≡ true → b ≡ true
and_second true b h = h
and_second false b h = absurd (true≢false (sym h))

and_both : (a b : Bool) → a ≡ true → b ≡ true → (a && b) ≡ true
and_both true true h g = refl
and_both false b h g = absurd (true≢false (sym h))
and_both true false h g = absurd (true≢false (sym g))

pub or_first : (a b : Bool) → (a || b) ≡ false → a ≡ false
or_first false b h = refl
or_first true b h = h

pub or_second : (a b : Bool) → (a || b) ≡ false → b ≡ false
or_second false b h = h
or_second true b h = absurd (true≢false h)

was_indexed : (t : FourTuple) (l m : Live) → Same l m → is_indexed_as t m ≡ true → is_indexed_as t l ≡ true
was_indexed t l m s h =
    and_both l.indexed (same_tuple t l.flow.tuple) (s.index (and_first m.indexed (same_tuple t m.flow.tuple) h))
    (ap (same_tuple t) (sym s.tuple) ∙ and_second m.indexed (same_tuple t m.flow.tuple) h)

pub swept_keeps : Keeps swept
swept_keeps = record {
  same = λ l. on_cond (Same l) (is_over l) _ l
      (λ t. record { tuple = refl; id = refl; index = λ h. absurd (true≢false (sym h)) }) (λ f. itself l);
}

controlled_same : (b : Bool) (t : ℕ) (l : Live) → Same l (controlled_where b Slow t (with_call l Slow t calls.Tick []))
controlled_same true t l = record { tuple = refl; id = refl; index = λ h. h }
controlled_same false t l = record { tuple = refl; id = refl; index = λ h. h }

timed_same : (b : Bool) (t : ℕ) (l : Live) → Same l (timed_unless b Slow t l)
timed_same true t l = itself l
timed_same false t l = controlled_same _ t l

pub timed_keeps : (t : ℕ) → Keeps (timed Slow t)
timed_keeps t = record { same = λ l. timed_same (is_over l) t l }

quieted_same : (most t : ℕ) (l : Live) → Same l (quieted_within most t l)
quieted_same zero t l = itself l
quieted_same (suc most) t l = by_going (going (endpoint l)) (λ m. quieted_same most t m) where
  by_going : (g : Option Going) → ((m : Live) → Same m (quieted_within most t m))
      → Same l (elim g [ None ↦ l | Some s ↦ quieted_within most t (with_call l (Core 0) t calls.Emit []) ])
  by_going None rest = itself l
  by_going (Some s) rest = after l (with_call l (Core 0) t calls.Emit []) _
      (record { tuple = refl; id = refl; index = λ h. h }) (rest (with_call l (Core 0) t calls.Emit []))

pub quieted_keeps : (t : ℕ) → Keeps (quieted t)
quieted_keeps t = record { same = λ l. quieted_same (length (endpoint l).tx.out + 4) t l }

pub received_keeps : (by : Taking) (t : ℕ) (frame : FrameId) (seg : Seg) → Keeps (taking_in by t frame seg)
received_keeps takings.Serially t frame seg = record {
  same = λ l. record { tuple = refl; id = refl; index = λ h. h };
}
received_keeps takings.Slowly t frame seg = record { same = λ l. record { tuple = refl; id = refl; index = λ h. h } }

-- ----- the script
-- the flow keeps all that its host knows it by
pub record Kept (l m : Live) : Type 0 where
  pub tuple : m.flow.tuple ≡ l.flow.tuple
  pub id : m.flow.id ≡ l.flow.id
  pub indexed : m.indexed ≡ l.indexed
  pub filed : m.filed ≡ l.filed

asked_kept : (stage : Stage) (t : ℕ) (wanted : Bool) (s : Shown) (l : Live) → Kept l (asked_where wanted stage t s l)
asked_kept stage t false s l = record { tuple = refl; id = refl; indexed = refl; filed = refl }
asked_kept Beginning t true s l = record { tuple = refl; id = refl; indexed = refl; filed = refl }
asked_kept Accepting t true s l = record { tuple = refl; id = refl; indexed = refl; filed = refl }
asked_kept Sending t true s l = record { tuple = refl; id = refl; indexed = refl; filed = refl }
asked_kept Shutting t true s l = record { tuple = refl; id = refl; indexed = refl; filed = refl }
asked_kept Aborting t true s l = record { tuple = refl; id = refl; indexed = refl; filed = refl }
asked_kept Receiving t true s l = record { tuple = refl; id = refl; indexed = refl; filed = refl }
asked_kept Leaving t true s l = record { tuple = refl; id = refl; indexed = refl; filed = refl }

given_up_kept : (l : Live) → Kept l (given_up l)
given_up_kept l =
    on_cond (Kept l) (is_over l && is_held l) _ l
    (λ t. record { tuple = refl; id = refl; indexed = refl; filed = refl })
    (λ f. record { tuple = refl; id = refl; indexed = refl; filed = refl })

pub stage_kept : (stage : Stage) (t : ℕ) (content : Content) (s : Shown) (l : Live)
    → Kept l (at_stage stage t content s l)
stage_kept Beginning t content s l = asked_kept Beginning t (is_wanted Beginning content s l) s l
stage_kept Accepting t content s l = asked_kept Accepting t (is_wanted Accepting content s l) s l
stage_kept Sending t content s l = asked_kept Sending t (is_wanted Sending content s l) s l
stage_kept Shutting t content s l = asked_kept Shutting t (is_wanted Shutting content s l) s l
stage_kept Aborting t content s l = asked_kept Aborting t (is_wanted Aborting content s l) s l
stage_kept Receiving t content s l = asked_kept Receiving t (is_wanted Receiving content s l) s l
stage_kept Leaving t content s l = given_up_kept l

pub stages_kept : (stages : List Stage) (t : ℕ) (content : Content) (p : Served)
    → Kept p.live (fold (staged t content) p stages).live
stages_kept [] t content p = record { tuple = refl; id = refl; indexed = refl; filed = refl }
stages_kept (stage ∷ stages) t content p =
    let now : Kept p.live (at_stage stage t content p.shown p.live) = stage_kept stage t content p.shown p.live in
    let rest = stages_kept stages t content (staged t content p stage) in
    record {
      tuple = rest.tuple ∙ now.tuple;
      id = rest.id ∙ now.id;
      indexed = rest.indexed ∙ now.indexed;
      filed = rest.filed ∙ now.filed;
    }

pub all_kept : (t : ℕ) (content : Content) (p : Served) → Kept p.live (asked_all t content p).live
unfolding asked_all
all_kept t content p = stages_kept later_stages t content p

pub asked_keeps : (t : ℕ) (content : Content) (s : Shown) → Keeps (asked_live t content s)
asked_keeps t content s = record { same = λ l. same_of l (all_kept t content (record { live = l; shown = s })) } where
  same_of : (l : Live) → Kept l (asked_live t content s l) → Same l (asked_live t content s l)
  same_of l kept = record { tuple = kept.tuple; id = kept.id; index = λ h. sym kept.indexed ∙ h }

-- ----- lists of flows
at_map : (t : FourTuple) (f : Live → Live) → Keeps f → (ls : List Live) (k : ℕ) → indexed_at t (map f ls) k ≡ true
    → indexed_at t ls k ≡ true
at_map t f keeps [] k h = h
at_map t f keeps (l ∷ ls) zero h = was_indexed t l (f l) (keeps.same l) h
at_map t f keeps (l ∷ ls) (suc k) h = at_map t f keeps ls k h

at_change : (t : FourTuple) (f : Live → Live) → Keeps f → (ls : List Live) (i k : ℕ)
    → indexed_at t (change_at i f ls) k ≡ true → indexed_at t ls k ≡ true
at_change t f keeps [] i k h = h
at_change t f keeps (l ∷ ls) zero zero h = was_indexed t l (f l) (keeps.same l) h
at_change t f keeps (l ∷ ls) zero (suc k) h = h
at_change t f keeps (l ∷ ls) (suc i) zero h = h
at_change t f keeps (l ∷ ls) (suc i) (suc k) h = at_change t f keeps ls i k h

pub length_change : (f : Live → Live) (ls : List Live) (i : ℕ) → length (change_at i f ls) ≡ length ls
length_change f [] i = refl
length_change f (l ∷ ls) zero = refl
length_change f (l ∷ ls) (suc i) = ap suc (length_change f ls i)

abbrev one : FourTuple → Live → ℕ
one t l = cond (same_tuple t l.flow.tuple) 1 0

same_one : (t : FourTuple) (l m : Live) → Same l m → one t m ≡ one t l
same_one t l m s = ap (λ (u : FourTuple). cond (same_tuple t u) 1 0) s.tuple

opened_cons : (t : FourTuple) (l : Live) (ls : List Live) → opened_as t (l ∷ ls) ≡ one t l + opened_as t ls
opened_cons t l ls = sum_by-cons (one t) l ls

opened_push : (t : FourTuple) (ls : List Live) (l : Live) → opened_as t (ls ++ l ∷ []) ≡ opened_as t ls + one t l
opened_push t ls l = sum_by_push (one t) ls l

opened_map : (t : FourTuple) (f : Live → Live) → Keeps f → (ls : List Live) → opened_as t (map f ls) ≡ opened_as t ls
opened_map t f keeps [] = refl
opened_map t f keeps (l ∷ ls) =
    let rest : opened_as t (map f ls) ≡ opened_as t ls = opened_map t f keeps ls in
    let here : one t (f l) ≡ one t l = same_one t l (f l) (keeps.same l) in
    opened_cons t (f l) (map f ls) ∙ (ap (λ (n : ℕ). n + opened_as t (map f ls)) here
    ∙ (ap (λ (n : ℕ). one t l + n) rest ∙ sym (opened_cons t l ls)))

opened_change : (t : FourTuple) (f : Live → Live) → Keeps f → (ls : List Live) (i : ℕ)
    → opened_as t (change_at i f ls) ≡ opened_as t ls
opened_change t f keeps [] i = refl
opened_change t f keeps (l ∷ ls) zero =
    opened_cons t (f l) ls ∙ (ap (λ (n : ℕ). n + opened_as t ls) (same_one t l (f l) (keeps.same l))
    ∙ sym (opened_cons t l ls))
opened_change t f keeps (l ∷ ls) (suc i) =
    opened_cons t l (change_at i f ls) ∙ (ap (λ (n : ℕ). one t l + n) (opened_change t f keeps ls i)
    ∙ sym (opened_cons t l ls))

-- ----- the index
pub map_index : (known : FourTuple → Option Openings) (f : Live → Live) (ls : List Live) → Keeps f → IsIndex known ls
    → IsIndex known (map f ls)
map_index known f ls keeps index = record {
  leads = λ t k h. index.leads t k (at_map t f keeps ls k h);
  within = λ t k h. subst (λ (n : ℕ). k < n) (sym (length-map ls f)) (index.within t k h);
  counts = λ t. index.counts t ∙ sym (opened_map t f keeps ls);
}

pub change_index : (known : FourTuple → Option Openings) (f : Live → Live) (ls : List Live) (i : ℕ) → Keeps f
    → IsIndex known ls → IsIndex known (change_at i f ls)
change_index known f ls i keeps index = record {
  leads = λ t k h. index.leads t k (at_change t f keeps ls i k h);
  within = λ t k h. subst (λ (n : ℕ). k < n) (sym (length_change f ls i)) (index.within t k h);
  counts = λ t. index.counts t ∙ sym (opened_change t f keeps ls i);
}

-- ----- a search
at_place : (t : FourTuple) (ls : List Live) (i : ℕ) (d : Live) → i < length ls
    → indexed_at t ls i ≡ is_indexed_as t (get_or ls i d)
at_place t [] i d below = absurd (omega arith)
at_place t (l ∷ ls) zero d below = refl
at_place t (l ∷ ls) (suc i) d below = at_place t ls i d (omega arith)

same_place : (i j : ℕ) → Some i ≡ Some j → i ≡ j
same_place i j h = cc (h)

found_by : (known : FourTuple → Option Openings) (t : FourTuple) (ls : List Live) (i j : ℕ) → IsIndex known ls
    → latest_of (known t) ≡ Some i → position (is_indexed_as t) ls ≡ Some j → j ≡ i
found_by known t [] i j index latest found = absurd (cc (found))
found_by known t (l ∷ ls) i j index latest found =
    let there = position-Some (is_indexed_as t) (l ∷ ls) j l found in
    same_place j i (sym (index.leads t j (at_place t (l ∷ ls) j l there.0 ∙ there.1)) ∙ latest)

passes_at : (t : FourTuple) (ls : List Live) (j : ℕ) (d : Live) → position (is_indexed_as t) ls ≡ Some j
    → (j < length ls) × (is_indexed_as t (get_or ls j d) ≡ true)
passes_at t ls j d found =
    let there = position-Some (is_indexed_as t) ls j d found in
    (there.0, there.1)

found_passes : (t : FourTuple) (ls : List Live) (j : ℕ) (d : Live) → position (is_indexed_as t) ls ≡ Some j
    → is_indexed_as t (get_or ls j d) ≡ true
found_passes t ls j d found = (passes_at t ls j d found).1

none_there : (t : FourTuple) (ls : List Live) (i : ℕ) (d : Live) → i < length ls → list_any (is_indexed_as t) ls ≡ false
    → is_indexed_as t (get_or ls i d) ≡ false
none_there t [] i d below h = absurd (omega arith)
none_there t (l ∷ ls) zero d below h = or_first (is_indexed_as t l) (list_any (is_indexed_as t) ls) h
none_there t (l ∷ ls) (suc i) d below h = none_there t ls i d (omega arith)
    (or_second (is_indexed_as t l) (list_any (is_indexed_as t) ls) h)

found_somewhere : (known : FourTuple → Option Openings) (t : FourTuple) (ls : List Live) (j : ℕ) → IsIndex known ls
    → latest_of (known t) ≡ None → position (is_indexed_as t) ls ≡ Some j → ⊥
found_somewhere known t [] j index none found = absurd (cc (found))
found_somewhere known t (l ∷ ls) j index none found =
    let there = passes_at t (l ∷ ls) j l found in
    let lead : latest_of (known t) ≡ Some j = index.leads t j (at_place t (l ∷ ls) j l there.0 ∙ there.1) in
    absurd (cc (lead, none))

-- the flow that was opened last, where it is indexed
pub latest_found : (known : FourTuple → Option Openings) (t : FourTuple) (ls : List Live) (i : ℕ) (d : Live)
    → IsIndex known ls → latest_of (known t) ≡ Some i → is_indexed_as t (get_or ls i d) ≡ true
    → Some i ≡ position (is_indexed_as t) ls
latest_found known t ls i d index latest here = by_found (position (is_indexed_as t) ls) refl where
  below : i < length ls
  below = index.within t i latest

  by_found : (o : Option ℕ) → position (is_indexed_as t) ls ≡ o → Some i ≡ position (is_indexed_as t) ls
  by_found None is = absurd (true≢false (sym here ∙ none_there t ls i d below (unknown (is_indexed_as t) ls is)))
  by_found (Some j) is = ap (λ (k : ℕ). Some k) (sym (found_by known t ls i j index latest is)) ∙ sym is

-- and else none is
pub latest_not_found : (known : FourTuple → Option Openings) (t : FourTuple) (ls : List Live) (i : ℕ) (d : Live)
    → IsIndex known ls → latest_of (known t) ≡ Some i → is_indexed_as t (get_or ls i d) ≡ false
    → None ≡ position (is_indexed_as t) ls
latest_not_found known t ls i d index latest away = by_found (position (is_indexed_as t) ls) refl where
  by_found : (o : Option ℕ) → position (is_indexed_as t) ls ≡ o → None ≡ position (is_indexed_as t) ls
  by_found None is = sym is
  by_found (Some j) is =
      let same : j ≡ i = found_by known t ls i j index latest is in
      absurd (true≢false (sym (found_passes t ls j d is)
      ∙ (ap (λ (k : ℕ). is_indexed_as t (get_or ls k d)) same ∙ away)))

pub none_latest : (known : FourTuple → Option Openings) (t : FourTuple) (ls : List Live) → IsIndex known ls
    → latest_of (known t) ≡ None → None ≡ position (is_indexed_as t) ls
none_latest known t ls index none = by_found (position (is_indexed_as t) ls) refl where
  by_found : (o : Option ℕ) → position (is_indexed_as t) ls ≡ o → None ≡ position (is_indexed_as t) ls
  by_found None is = sym is
  by_found (Some j) is = absurd (found_somewhere known t ls j index none is)

-- ----- one flow more
at_push : (t : FourTuple) (ls : List Live) (l : Live) (k : ℕ) → indexed_at t (ls ++ l ∷ []) k ≡ true
    → (indexed_at t ls k ≡ true) ⊎ ((k ≡ length ls) × (is_indexed_as t l ≡ true))
at_push t [] l zero h = inr (refl, h)
at_push t [] l (suc k) h = absurd (true≢false (sym h))
at_push t (m ∷ ls) l zero h = inl h
at_push t (m ∷ ls) l (suc k) h = by_rest (at_push t ls l k h) where
  by_rest : (indexed_at t ls k ≡ true) ⊎ ((k ≡ length ls) × (is_indexed_as t l ≡ true))
      → (indexed_at t ls k ≡ true) ⊎ ((suc k ≡ suc (length ls)) × (is_indexed_as t l ≡ true))
  by_rest (inl g) = inl g
  by_rest (inr g) = inr (ap suc g.0, g.1)

nowhere : (t : FourTuple) (ls : List Live) (k : ℕ) → list_any (is_indexed_as t) ls ≡ false → indexed_at t ls k ≡ false
nowhere t [] k h = refl
nowhere t (l ∷ ls) zero h = or_first (is_indexed_as t l) (list_any (is_indexed_as t) ls) h
nowhere t (l ∷ ls) (suc k) h = nowhere t ls k (or_second (is_indexed_as t l) (list_any (is_indexed_as t) ls) h)

nothing : (n : ℕ) → n + 0 ≡ n
nothing n = omega arith

-- A flow is opened where none of its four-tuple is indexed.
pub push_index : (known after : FourTuple → Option Openings) (tuple : FourTuple) (ls : List Live) (l : Live)
    → ((q : FourTuple) → after q ≡ cond (equal_tuple tuple q)
    (Some (record { latest = length ls; count = count_of (known tuple) + 1 })) (known q))
    → l.flow.tuple ≡ tuple → position (is_indexed_as tuple) ls ≡ None → IsIndex known ls → IsIndex after (ls ++ l ∷ [])
push_index known later tuple ls l is own none index = record {
  leads = λ t k h. leads_by t k (equal_tuple tuple t) refl (at_push t ls l k h);
  within = λ t k h. within_by t k (equal_tuple tuple t) refl h;
  counts = λ t. counts_by t (equal_tuple tuple t) refl;
}
  where
    here : (t : FourTuple) → equal_tuple tuple t ≡ true
        → later t ≡ Some (record { latest = length ls; count = count_of (known tuple) + 1 })
    here t e = is t ∙ ap (λ (b : Bool). cond b (Some
        (record { latest = length ls; count = count_of (known tuple) + 1 })) (known t)) e

    away : (t : FourTuple) → equal_tuple tuple t ≡ false → later t ≡ known t
    away t e = is t ∙ ap (λ (b : Bool). cond b (Some
        (record { latest = length ls; count = count_of (known tuple) + 1 })) (known t)) e

    own_equal : (t : FourTuple) → same_tuple t l.flow.tuple ≡ equal_tuple t tuple
    own_equal t = ap (same_tuple t) own ∙ same_equal t tuple

    leads_by : (t : FourTuple) (k : ℕ) (b : Bool) → equal_tuple tuple t ≡ b
        → (indexed_at t ls k ≡ true) ⊎ ((k ≡ length ls) × (is_indexed_as t l ≡ true)) → latest_of (later t) ≡ Some k
    leads_by t k true e (inl g) = absurd (true≢false
        (sym g ∙ nowhere t ls k (subst (λ (u : FourTuple). list_any (is_indexed_as u) ls ≡ false)
        (tuple_exact tuple t e) (unknown (is_indexed_as tuple) ls none))))
    leads_by t k true e (inr g) = ap latest_of (here t e) ∙ ap (λ (n : ℕ). Some n) (sym g.0)
    leads_by t k false e (inl g) = ap latest_of (away t e) ∙ index.leads t k g
    leads_by t k false e (inr g) = absurd (true≢false
        (sym (sym (own_equal t) ∙ and_second l.indexed (same_tuple t l.flow.tuple) g.1) ∙ tuple_apart tuple t e))

    within_by : (t : FourTuple) (k : ℕ) (b : Bool) → equal_tuple tuple t ≡ b → latest_of (later t) ≡ Some k
        → k < length (ls ++ l ∷ [])
    within_by t k true e h =
        let at : length ls ≡ k = same_place (length ls) k (sym (ap latest_of (here t e)) ∙ h) in
        omega (arith, length-append ls (l ∷ []), at)
    within_by t k false e h =
        let at : k < length ls = index.within t k (sym (ap latest_of (away t e)) ∙ h) in
        omega (arith, length-append ls (l ∷ []), at)

    counts_by : (t : FourTuple) (b : Bool) → equal_tuple tuple t ≡ b → count_of (later t) ≡ opened_as t (ls ++ l ∷ [])
    counts_by t true e =
        let same : tuple ≡ t = tuple_exact tuple t e in
        let mine : one t l ≡ 1 = ap (λ (b : Bool). cond b 1 0)
        (own_equal t ∙ (ap (equal_tuple t) same ∙ tuple_itself t)) in
        let before : count_of (known tuple) ≡ opened_as t ls = index.counts tuple
        ∙ ap (λ (u : FourTuple). opened_as u ls) same in
        ap count_of (here t e) ∙ (ap (λ (n : ℕ). n + 1) before
        ∙ (ap (λ (n : ℕ). opened_as t ls + n) (sym mine) ∙ sym (opened_push t ls l)))
    counts_by t false e =
        let other : one t l ≡ 0 = ap (λ (b : Bool). cond b 1 0) (own_equal t ∙ tuple_apart tuple t e) in
        let sum : opened_as t (ls ++ l ∷ []) ≡ opened_as t ls + one t l = opened_push t ls l in
        ap count_of (away t e) ∙ (index.counts t ∙
        (sym (nothing (opened_as t ls)) ∙ (ap (λ (n : ℕ). opened_as t ls + n) (sym other) ∙ sym sum)))

-- the same where place and count are known by equations
pub pushed_index : (known later : FourTuple → Option Openings) (tuple : FourTuple) (ls : List Live) (l : Live)
    (place before : ℕ) → place ≡ length ls → before ≡ opened_as tuple ls
    → ((q : FourTuple) → later q ≡ cond (equal_tuple tuple q) (Some (record { latest = place; count = 1 + before }))
    (known q))
    → l.flow.tuple ≡ tuple → position (is_indexed_as tuple) ls ≡ None → IsIndex known ls → IsIndex later (ls ++ l ∷ [])
pushed_index known later tuple ls l place before at counted is own none index =
    let more : 1 + before ≡ count_of (known tuple) + 1 = one_more before (count_of (known tuple))
    (counted ∙ sym (index.counts tuple)) in
    push_index known later tuple ls l
    (λ q. is q ∙ (ap (λ (n : ℕ). cond (equal_tuple tuple q) (Some (record { latest = n; count = 1 + before }))
    (known q)) at ∙ ap (λ (n : ℕ). cond (equal_tuple tuple q) (Some (record { latest = length ls; count = n }))
    (known q)) more))
    own none index
  where
    one_more : (a b : ℕ) → a ≡ b → 1 + a ≡ b + 1
    one_more a b h = omega arith

-- some record's content of this kind
abbrev no_tuple : FourTuple
no_tuple = record { laddr = 0; lport = 0; raddr = 0; rport = 0 }

abbrev bare_seg : (resets : Bool) → Seg
bare_seg resets = record {
  head = record {
    flags = if resets then 4 else 0;
    seq = record { 0 = 0 };
    ack = record
        { 0 = 0 };
    window = 0;
    mss = None;
    scale = None;
  };
  bytes = [];
}

abbrev pub some_content : (remote resets : Bool) → Content
some_content true resets = Remote no_tuple (bare_seg false)
some_content false resets = Local no_tuple (bare_seg resets)

pub content_remote : (remote resets : Bool) → is_remote (some_content remote resets) ≡ remote
content_remote true resets = refl
content_remote false resets = refl

pub content_resets : (remote resets : Bool) → (remote ≡ true → resets ≡ false)
    → resets_here (some_content remote resets) ≡ resets
content_resets true resets apart = sym (apart refl)
content_resets false true apart = refl
content_resets false false apart = refl
