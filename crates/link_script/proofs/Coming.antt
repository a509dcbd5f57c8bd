-- The frames that are due are those of the tick before, and those of earlier ticks that a delay of a line leads to.
use Rattle.std.proofs.Common.{◌≡◌, ℕ, zero, suc, ◌<◌, ◌≤◌, ◌+◌, ◌-◌, Bool, true, false, not, ◌&&◌, ◌||◌, List, [], ◌∷◌}
use Rattle.std.proofs.Common.{◌++◌, cond, eqb, leb, ltb, Option, Some, None, filter, refl, sym, ◌∙◌, ap, subst, arith}
use Rattle.std.specs.List.{flat_map, list_any, AllByRecursion}
use Rattle.std.specs.List.Sorted.{IsStrictlySortedBy}
use Rattle.std.specs.Ordering.{nat_cmp, is_eq, is_lt, ordering_then}
use Rattle.std.specs.BTreeMap.{is_at}
use Rattle.std.specs.BTreeSet.{BTreeSet, contains}
use Rattle.std.proofs.lemmas.List.{append-nil}
use Rattle.std.specs.declared.cmp.Ordering.{Ordering}
use Rattle.std.specs.declared.cmp.Ordering.TheVariants.{Less, Equal, Greater}
use Rattle.std.proofs.lemmas.Bool.Decides.{nat_tests}
use Rattle.std.proofs.lemmas.List.Elements.{filter-append}
use Rattle.std.proofs.lemmas.Map.Keys.{sorted_head, sorted_tail}
use Rattle.tas_model.specs.declared.entry.FrameId.{FrameId}
use Rattle.link_script.specs.LinkLines.{LinkLines, AreDelays, line_on}
use Rattle.link_script.specs.DueFrames.{act_on, is_lost, is_due, delay_by, copies_under, inverted, coming_of}
use Rattle.link_script.specs.DueFrames.{coming_after, due_cmp, due}
use Rattle.link_script.specs.declared.script.LinkAct.{LinkAct}
use Rattle.link_script.specs.declared.script.LinkAct.TheVariants as acts
use Rattle.link_script.specs.declared.frames.Sent.{Sent}
use Rattle.link_script.proofs.DueOrder.{tied, same_order}

-- ----- lists
filter-flat_map : (p : Sent → Bool) (f : Sent → List Sent) (xs : List Sent)
    → filter p (flat_map f xs) ≡ flat_map (λ x. filter p (f x)) xs
filter-flat_map p f [] = refl
filter-flat_map p f (x ∷ xs) = filter-append p (f x) (flat_map f xs)
    ∙ ap (λ ys. filter p (f x) ++ ys) (filter-flat_map p f xs)

filter-flat_map_numbers : (p : Sent → Bool) (f : ℕ → List Sent) (ns : List ℕ)
    → filter p (flat_map f ns) ≡ flat_map (λ n. filter p (f n)) ns
filter-flat_map_numbers p f [] = refl
filter-flat_map_numbers p f (n ∷ ns) = filter-append p (f n) (flat_map f ns)
    ∙ ap (λ ys. filter p (f n) ++ ys) (filter-flat_map_numbers p f ns)

-- only the frames of one tick matter, where those of others give nothing
only_tick : (t : ℕ) (f : Sent → List Sent) (xs : List Sent) → ((x : Sent) → eqb x.tick t ≡ false → f x ≡ [])
    → flat_map f xs ≡ flat_map f (filter (λ (x : Sent). eqb x.tick t) xs)
only_tick t f [] h = refl
only_tick t f (x ∷ xs) h = by_tick (eqb x.tick t) refl (only_tick t f xs h)
  where
    by_tick : (b : Bool) → eqb x.tick t ≡ b → flat_map f xs ≡ flat_map f (filter (λ (y : Sent). eqb y.tick t) xs)
        → f x ++ flat_map f xs ≡ flat_map f
        (cond b (x ∷ filter (λ (y : Sent). eqb y.tick t) xs) (filter (λ (y : Sent). eqb y.tick t) xs))
    by_tick true e r = ap (λ ys. f x ++ ys) r
    by_tick false e r = ap (λ ys. ys ++ flat_map f xs) (h x e) ∙ r

-- no frame of a tick gives anything
none_of_tick : (t : ℕ) (f : Sent → List Sent) (xs : List Sent) → ((x : Sent) → eqb x.tick t ≡ true → f x ≡ [])
    → flat_map f (filter (λ (x : Sent). eqb x.tick t) xs) ≡ []
none_of_tick t f [] h = refl
none_of_tick t f (x ∷ xs) h = by_tick (eqb x.tick t) refl (none_of_tick t f xs h)
  where
    by_tick : (b : Bool) → eqb x.tick t ≡ b → flat_map f (filter (λ (y : Sent). eqb y.tick t) xs) ≡ []
        → flat_map f (cond b (x ∷ filter (λ (y : Sent). eqb y.tick t) xs) (filter (λ (y : Sent). eqb y.tick t) xs)) ≡ []
    by_tick true e r = ap (λ ys. ys ++ flat_map f (filter (λ (y : Sent). eqb y.tick t) xs)) (h x e) ∙ r
    by_tick false e r = r

-- ----- what comes of a frame has its tick
-- frames of two ticks don't tie
ticks_apart : (x f : Sent) → eqb f.tick x.tick ≡ false → tied x f ≡ false
ticks_apart x f e = by_order (ltb x.tick f.tick) (ltb f.tick x.tick) refl refl
  where
    by_order : (p q : Bool) → ltb x.tick f.tick ≡ p → ltb f.tick x.tick ≡ q → tied x f ≡ false
    by_order true q ep eq = rw ep refl
    by_order false true ep eq = let other : eqb x.tick f.tick ≡ false = grind (arith, nat_tests) in
        rw (ep, other, eq) refl
    by_order false false ep eq = absurd (grind (arith, nat_tests))

copies_apart : (act : Option LinkAct) (x f : Sent) → eqb f.tick x.tick ≡ false
    → filter (tied x) (copies_under act f) ≡ []
copies_apart None x f e = let a = ticks_apart x f e in rw a refl
copies_apart (Some acts.Drop) x f e = let a = ticks_apart x f e in rw a refl
copies_apart (Some acts.Dup) x f e =
    let a = ticks_apart x f e in
    let b = ticks_apart x (record f { id = record (f.id) { copy = 1 } }) e in rw (a, b) refl
copies_apart (Some (acts.Delay ticks)) x f e = let a = ticks_apart x f e in rw a refl
copies_apart (Some (acts.Corrupt place)) x f e = let a =
    ticks_apart x (record f { packet = inverted f.packet place }) e in rw a refl

coming_apart : (lines : LinkLines) (tick : ℕ) (x f : Sent) → eqb f.tick x.tick ≡ false
    → filter (tied x) (coming_of lines tick f) ≡ []
coming_apart lines tick x f e = by_due (is_due lines tick f)
  where
    by_due : (b : Bool) → filter (tied x) (cond b (copies_under (act_on lines f.id) f) []) ≡ []
    by_due true = copies_apart (act_on lines f.id) x f e
    by_due false = refl

-- a frame that comes in a tick was sent one tick earlier, and a delay that the set has
delay_among : (lines : LinkLines) (delays : BTreeSet ℕ) (act : Option LinkAct) (id : FrameId) → AreDelays lines delays
    → act_on lines id ≡ act → contains nat_cmp delays (delay_by act) ≡ true
delay_among lines delays None id h e = h.none
delay_among lines delays (Some acts.Drop) id h e = h.none
delay_among lines delays (Some acts.Dup) id h e = h.none
delay_among lines delays (Some (acts.Corrupt place)) id h e = h.none
delay_among lines delays (Some (acts.Delay ticks)) id h e = by_number (leb id.number 4294967294) e
  where
    by_number : (b : Bool) → cond b (line_on lines (record { host = id.host; flow = id.flow; number = id.number })) None
        ≡ Some (acts.Delay ticks) → contains nat_cmp delays ticks ≡ true
    by_number true i = h.each (record { host = id.host; flow = id.flow; number = id.number }) ticks i
    by_number false i = absurd (cc (i))

-- ----- the delays
or_right : (a b : Bool) → b ≡ true → a || b ≡ true
or_right true b e = refl
or_right false b e = e

is_less : (d e : ℕ) → nat_cmp d e ≡ Less → ltb d e ≡ true
is_less d e h = by_tests (ltb d e) (eqb d e) h
  where
    by_tests : (p q : Bool) → cond p Less (cond q Equal Greater) ≡ Less → p ≡ true
    by_tests true q i = refl
    by_tests false true i = absurd (cc (i))
    by_tests false false i = absurd (cc (i))

-- a set of numbers that has one has one that passes a test which that one passes
any_from : (v tick d : ℕ) (ds : List ℕ) → list_any (is_at (nat_cmp d)) ds ≡ true → eqb (v + 1 + d) tick ≡ true
    → list_any (λ (e : ℕ). eqb (v + 1 + e) tick) ds ≡ true
any_from v tick d [] h t = absurd (cc (h))
any_from v tick d (e ∷ es) h t = by_first (ltb d e) (eqb d e) refl refl h (λ i. any_from v tick d es i t)
  where
    by_first : (p q : Bool) → ltb d e ≡ p → eqb d e ≡ q
        → is_eq (cond p Less (cond q Equal Greater)) || list_any (is_at (nat_cmp d)) es ≡ true
        → (list_any (is_at (nat_cmp d)) es ≡ true → list_any (λ (k : ℕ). eqb (v + 1 + k) tick) es ≡ true)
        → eqb (v + 1 + e) tick || list_any (λ (k : ℕ). eqb (v + 1 + k) tick) es ≡ true
    by_first true q ep eq i r = or_right (eqb (v + 1 + e) tick) _ (r i)
    by_first false true ep eq i r = let same : eqb (v + 1 + e) tick ≡ true = grind (arith, nat_tests) in rw same refl
    by_first false false ep eq i r = or_right (eqb (v + 1 + e) tick) _ (r i)

-- one number of a set at most leads from a tick to another
none_above : (v tick d : ℕ) (g : ℕ → List Sent) (ds : List ℕ) → ((e : ℕ) → eqb (v + 1 + e) tick ≡ false → g e ≡ [])
    → eqb (v + 1 + d) tick ≡ true
    → AllByRecursion (λ (e : ℕ). nat_cmp d e ≡ Less) ds → flat_map g ds ≡ []
none_above v tick d g [] other t above = refl
none_above v tick d g (e ∷ es) other t above =
    let later : ltb d e ≡ true = is_less d e above.0 in
    let apart : eqb (v + 1 + e) tick ≡ false = grind (arith, nat_tests) in
    ap (λ ys. ys ++ flat_map g es) (other e apart) ∙ none_above v tick d g es other t above.1

one_delay : (v tick : ℕ) (g : ℕ → List Sent) (all : List Sent) → ((d : ℕ) → eqb (v + 1 + d) tick ≡ true → g d ≡ all)
    → ((d : ℕ) → eqb (v + 1 + d) tick ≡ false → g d ≡ [])
    → (ds : List ℕ) → IsStrictlySortedBy nat_cmp ds
    → flat_map g ds ≡ cond (list_any (λ (d : ℕ). eqb (v + 1 + d) tick) ds) all []
one_delay v tick g all here other [] up = refl
one_delay v tick g all here other (d ∷ ds) up =
    by_first (eqb (v + 1 + d) tick) refl (one_delay v tick g all here other ds (sorted_tail nat_cmp d ds up))
  where
    by_first : (b : Bool) → eqb (v + 1 + d) tick ≡ b
        → flat_map g ds ≡ cond (list_any (λ (e : ℕ). eqb (v + 1 + e) tick) ds) all []
        → g d ++ flat_map g ds ≡ cond (b || list_any (λ (e : ℕ). eqb (v + 1 + e) tick) ds) all []
    by_first true e r =
        let rest : flat_map g ds ≡ [] = none_above v tick d g ds other e (sorted_head nat_cmp d ds up) in
        ap (λ ys. g d ++ ys) rest ∙ (append-nil (g d) ∙ here d e)
    by_first false e r = ap (λ ys. ys ++ flat_map g ds) (other d e) ∙ r

module _ (lines : LinkLines) (sent : List Sent) (tick : ℕ) (x : Sent) where
  -- what ties with x of what comes of a frame, and of all frames of its tick
  abbrev tied_of : Sent → List Sent
  tied_of f = filter (tied x) (coming_of lines tick f)

  abbrev all_tied : List Sent
  all_tied = flat_map tied_of (filter (λ (f : Sent). eqb f.tick x.tick) sent)

  after_here : (d : ℕ) → eqb (x.tick + 1 + d) tick ≡ true → filter (tied x) (coming_after lines sent tick d) ≡ all_tied
  after_here d e =
      let early : leb (d + 1) tick ≡ true = grind (arith, nat_tests) in
      let when : tick - d - 1 ≡ x.tick = (let s : x.tick + 1 + d ≡ tick = grind (arith, nat_tests) in omega arith) in
      rw (early, when) (filter-flat_map (tied x) (coming_of lines tick) (filter (λ (f : Sent). eqb f.tick x.tick) sent))

  after_other : (d : ℕ) → eqb (x.tick + 1 + d) tick ≡ false → filter (tied x) (coming_after lines sent tick d) ≡ []
  after_other d e = by_early (leb (d + 1) tick) refl
    where
      by_early : (b : Bool) → leb (d + 1) tick ≡ b
          → filter (tied x)
          (cond b (flat_map (coming_of lines tick) (filter (λ (f : Sent). eqb f.tick (tick - d - 1)) sent)) []) ≡ []
      by_early true i =
          filter-flat_map (tied x) (coming_of lines tick) (filter (λ (f : Sent). eqb f.tick (tick - d - 1)) sent)
          ∙ none_of_tick (tick - d - 1) tied_of sent (λ f t. coming_apart lines tick x f (grind (arith, nat_tests)))
      by_early false i = refl

  -- where no delay leads here, no frame of x's tick comes
  none_comes : (delays : BTreeSet ℕ) → AreDelays lines delays
      → list_any (λ (d : ℕ). eqb (x.tick + 1 + d) tick) delays.keys ≡ false → all_tied ≡ []
  none_comes delays h none = none_of_tick x.tick tied_of sent
      (λ f e. by_due f e (eqb (f.tick + 1 + delay_by (act_on lines f.id)) tick) (is_lost lines f.id) refl)
    where
      by_due : (f : Sent) → eqb f.tick x.tick ≡ true → (p q : Bool)
          → eqb (f.tick + 1 + delay_by (act_on lines f.id)) tick ≡ p
          → filter (tied x) (cond (p && not q) (copies_under (act_on lines f.id) f) []) ≡ []
      by_due f e false q i = refl
      by_due f e true q i =
          let there : list_any (λ (d : ℕ). eqb (x.tick + 1 + d) tick) delays.keys ≡ true
          = any_from x.tick tick (delay_by (act_on lines f.id)) delays.keys
          (delay_among lines delays (act_on lines f.id) f.id h refl) (grind (arith, nat_tests)) in
          absurd (cc (there, none))

  -- The frames found by the delays are those that are due, in what ties with x.
  pub found_alike : (delays : BTreeSet ℕ) → AreDelays lines delays → IsStrictlySortedBy nat_cmp delays.keys
      → filter (tied x) (flat_map (coming_after lines sent tick) delays.keys)
      ≡ filter (tied x) (flat_map (coming_of lines tick) sent)
  found_alike delays h up =
      filter-flat_map_numbers (tied x) (coming_after lines sent tick) delays.keys
      ∙ (one_delay x.tick tick (λ d. filter (tied x) (coming_after lines sent tick d)) all_tied after_here after_other
      delays.keys up
      ∙ (by_any (list_any (λ (d : ℕ). eqb (x.tick + 1 + d) tick) delays.keys) refl
      ∙ sym (filter-flat_map (tied x) (coming_of lines tick) sent
      ∙ only_tick x.tick tied_of sent (λ f e. coming_apart lines tick x f e))))
    where
      by_any : (b : Bool) → list_any (λ (d : ℕ). eqb (x.tick + 1 + d) tick) delays.keys ≡ b
          → cond b all_tied [] ≡ all_tied
      by_any true e = refl
      by_any false e = sym (none_comes delays h e)

-- ----- two lists
-- what ties with x of what comes, from the frames of its tick alone
from_tick : (lines : LinkLines) (sent : List Sent) (t : ℕ) (x : Sent)
    → filter (tied x) (flat_map (coming_of lines t) sent) ≡ all_tied lines sent t x
from_tick lines sent t x =
    filter-flat_map (tied x) (coming_of lines t) sent
    ∙ only_tick x.tick (tied_of lines sent t x) sent (λ f e. coming_apart lines t x f e)

-- What is due goes by the frames of each tick, but for ticks of which nothing comes.
pub due_by_ticks : (lines : LinkLines) (xs ys : List Sent) (t low : ℕ)
    → ((f : Sent) → f.tick < low → is_due lines t f ≡ false)
    → ((k : ℕ) → low ≤ k → filter (λ (f : Sent). eqb f.tick k) xs ≡ filter (λ (f : Sent). eqb f.tick k) ys)
    → due lines xs t ≡ due lines ys t
due_by_ticks lines xs ys t low over same =
    same_order (flat_map (coming_of lines t) xs) (flat_map (coming_of lines t) ys)
    (λ z. from_tick lines xs t z ∙ (by_low z (ltb z.tick low) refl ∙ sym (from_tick lines ys t z)))
  where
    none : (z : Sent) (sent : List Sent) → z.tick < low → all_tied lines sent t z ≡ []
    none z sent l =
        none_of_tick z.tick (tied_of lines sent t z) sent (λ f e.
        (let n : is_due lines t f ≡ false = over f (grind (arith, nat_tests, e, l)) in rw n refl))

    by_low : (z : Sent) (b : Bool) → ltb z.tick low ≡ b → all_tied lines xs t z ≡ all_tied lines ys t z
    by_low z true e =
        let l : z.tick < low = grind (arith, nat_tests, e) in none z xs l ∙ sym (none z ys l)
    by_low z false e =
        let l : low ≤ z.tick = grind (arith, nat_tests, e) in
        ap (flat_map (λ f. filter (tied z) (coming_of lines t f))) (same z.tick l)
