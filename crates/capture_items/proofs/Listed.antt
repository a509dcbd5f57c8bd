-- How the starts are kept.
use Rattle.std.proofs.Common.{◌≡◌, ℕ, zero, suc, ◌+◌, ◌==◌, ◌&&◌, ◌||◌, ◌≤◌, not, Bool, true, false}
use Rattle.std.proofs.Common.{cond, List, [], ◌∷◌, ◌++◌, length, fold, filter_map, Option, Some}
use Rattle.std.proofs.Common.{None, if◌then◌else◌, refl, sym, ap, ◌∙◌, subst, true≢false, arith, length-append}
use Rattle.std.proofs.lemmas.Bool.Decides.{nat_tests}
use Rattle.std.specs.List.{slice_get, list_any, cons_option}
use Rattle.std.specs.Map.{lookup}
use Rattle.std.specs.HashMap.{get}
use Rattle.std.specs.HashSet.{contains}
use Rattle.std.specs.Option.{unwrap_or}
use Rattle.std.proofs.lemmas.List.Elements.{filter_map-append}
use Rattle.std.proofs.lemmas.List.Sums.{fold-append}
use Rattle.tas_model.specs.declared.entry.FourTuple.{FourTuple}
use Rattle.tas_runs.specs.Records.{Item}
use Rattle.host_rounds.specs.declared.opening.Start.{Start}
use Rattle.host_rounds.specs.Hosts.{same_tuple}
use Rattle.tas_runs.specs.Starts.{with_new, local_syn, local_syns, first_start}
use Rattle.capture_items.specs.Starts.{equal_tuple, same_turn, same_known, syn_at, start_or, kept_starts}
use Rattle.capture_items.specs.Starts.{AreStartsOf, count_in, AreOf, with_one}
use Rattle.capture_items.specs.declared.starts.Turn.{Turn}
use Rattle.capture_items.specs.declared.starts.Known.{Known}
use Rattle.capture_items.specs.declared.starts.Numbering.{Numbering}

-- ----- a start is found
-- a number alone
abbrev pub numbered : ℕ → Start
numbered n = record { number = record { 0 = n }; scale = None }

pub start_found : (kept : List (Turn × Start)) (tuple : FourTuple) (k n : ℕ) (o : Option Start)
    → lookup (same_turn (record { tuple = tuple; place = k })) kept ≡ o → start_or n o ≡ kept_starts kept tuple k n
start_found kept tuple k n o found = ap (start_or n) (sym found)

-- the starts that are kept of the items are theirs
pub starts_are : (items : List Item) (kept : List (Turn × Start)) (tuple : FourTuple) (k n : ℕ)
    → AreStartsOf items kept → kept_starts kept tuple k n ≡ first_start items tuple k n
unfolding first_start
starts_are items kept tuple k n are = ap (start_or n) (are tuple k)

-- ----- four-tuples
-- those of one flow are the same
both : (a b : Bool) → (a && b) ≡ true → (a ≡ true) × (b ≡ true)
both true b h = (refl, h)
both false b h = absurd (true≢false (sym h))

equal : (m n : ℕ) → (m == n) ≡ true → m ≡ n
equal m n h = grind (arith, nat_tests, h)

same_fields : (a b c d e f g h : ℕ) → a ≡ e → b ≡ f → c ≡ g → d ≡ h
    → ◌≡◌ {A = FourTuple} (record { laddr = a; lport = b; raddr = c; rport = d })
    (record { laddr = e; lport = f; raddr = g; rport = h })
same_fields a b c d e f g h e1 e2 e3 e4 = cc (e1, e2, e3, e4)

pub tuple_exact : (a b : FourTuple) → equal_tuple a b ≡ true → a ≡ b
tuple_exact a b h =
    let first = both _ _ h in
    let second = both _ _ first.1 in
    let third = both _ _ second.1 in
    same_fields _ _ _ _ _ _ _ _ (equal a.laddr b.laddr first.0) (equal a.lport b.lport second.0)
    (equal a.raddr b.raddr third.0) (equal a.rport b.rport third.1)

self_equal : (n : ℕ) → (n == n) ≡ true
self_equal n = grind (arith, nat_tests)

pub tuple_itself : (a : FourTuple) → equal_tuple a a ≡ true
tuple_itself a = rw (self_equal a.laddr, self_equal a.lport, self_equal a.raddr, self_equal a.rport) refl

pub tuple_apart : (a b : FourTuple) → equal_tuple a b ≡ false → equal_tuple b a ≡ false
tuple_apart a b h = by_same (equal_tuple b a) refl where
  by_same : (t : Bool) → equal_tuple b a ≡ t → equal_tuple b a ≡ false
  by_same false e = e
  by_same true e = absurd (true≢false (sym (tuple_itself a) ∙ (ap (equal_tuple a) (sym (tuple_exact b a e)) ∙ h)))

nested : (a b c d : Bool) → (a && b && c && d) ≡ (a && (b && (c && d)))
nested true true true d = refl
nested true true false d = refl
nested true false c d = refl
nested false b c d = refl

-- segments are of one flow where their four-tuples are equal
pub same_equal : (a b : FourTuple) → same_tuple a b ≡ equal_tuple a b
same_equal a b = nested (a.laddr == b.laddr) (a.lport == b.lport) (a.raddr == b.raddr) (a.rport == b.rport)

-- ----- one number more
one_less : (m k : ℕ) → (suc m == suc k) ≡ (m == k)
one_less m k = by_equal (m == k) refl where
  by_equal : (b : Bool) → (m == k) ≡ b → (suc m == suc k) ≡ b
  by_equal true e = grind (arith, nat_tests, e)
  by_equal false e = grind (arith, nat_tests, e)

pub slice_get-push : {X : Type 0} (xs : List X) (y : X) (k : ℕ)
    → slice_get (xs ++ y ∷ []) k ≡ cond (length xs == k) (Some y) (slice_get xs k)
slice_get-push [] y zero = refl
slice_get-push [] y (suc k) =
    let apart : (0 == suc k) ≡ false = grind (arith, nat_tests) in
    rw apart refl
slice_get-push (x ∷ xs) y zero =
    let apart : (length (x ∷ xs) == 0) ≡ false = grind (arith, nat_tests) in
    rw apart refl
slice_get-push (x ∷ xs) y (suc k) =
    let same : (length (x ∷ xs) == suc k) ≡ (length xs == k) = one_less (length xs) k in
    slice_get-push xs y k ∙ ap (λ (b : Bool). cond b (Some y) (slice_get xs k)) (sym same)

-- a segment in the list has this number
abbrev is_listed : ℕ → List Start → Bool
is_listed m xs = list_any (λ (x : Start). x.number.0 == m) xs

pub list_any-push : (xs : List Start) (y : Start) (m : ℕ)
    → is_listed m (xs ++ y ∷ []) ≡ cond (y.number.0 == m) true (is_listed m xs)
list_any-push [] y m = or_false (y.number.0 == m) where
  or_false : (b : Bool) → (b || false) ≡ cond b true false
  or_false true = refl
  or_false false = refl
list_any-push (x ∷ xs) y m = ap (λ b. x.number.0 == m || b) (list_any-push xs y m)
    ∙ later (x.number.0 == m) (y.number.0 == m) (is_listed m xs) where
      later : (a b c : Bool) → (a || cond b true c) ≡ cond b true (a || c)
      later a true c = or_true a where
        or_true : (a : Bool) → (a || true) ≡ true
        or_true true = refl
        or_true false = refl
      later a false c = refl

-- what one segment more changes: its number isn't listed yet
pub record IsMore (s r : Numbering) (tuple : FourTuple) (syn : Start) : Type 0 where
  pub fresh : contains same_known s.known (record { tuple = tuple; number = syn.number.0 }) ≡ false
  pub counts : (q : FourTuple) → get equal_tuple r.counts q
      ≡ cond (equal_tuple tuple q) (Some (count_in s tuple + 1)) (get equal_tuple s.counts q)
  pub known : (q : Known) → contains same_known r.known q
      ≡ cond (same_known (record { tuple = tuple; number = syn.number.0 }) q) true (contains same_known s.known q)
  pub syns : (q : Turn) → get same_turn r.syns q
      ≡ cond (same_turn (record { tuple = tuple; place = count_in s tuple }) q) (Some syn) (get same_turn s.syns q)

more_by : (s r : Numbering) (tuple t : FourTuple) (syn : Start) (list : List Start) → IsMore s r tuple syn
    → AreOf s t list → AreOf r t (if equal_tuple t tuple then with_new list syn else list)
more_by s r tuple t syn list more are = by_same (equal_tuple t tuple) refl where
  by_same : (b : Bool) → equal_tuple t tuple ≡ b → AreOf r t (if b then with_new list syn else list)
  by_same false e =
      let apart : equal_tuple tuple t ≡ false = tuple_apart t tuple e in
      record {
        counted = ap (λ (o : Option ℕ). unwrap_or o 0)
            (more.counts t ∙ ap (λ (b : Bool). cond b (Some (count_in s tuple + 1)) (get equal_tuple s.counts t)) apart)
            ∙ are.counted;
        known = λ m. more.known (record { tuple = t; number = m })
            ∙ (ap (λ (b : Bool). cond (b && syn.number.0 == m) true
            (contains same_known s.known (record { tuple = t; number = m }))) apart ∙ are.known m);
        syns = λ k. more.syns (record { tuple = t; place = k })
            ∙ (ap (λ (b : Bool). cond (b && count_in s tuple == k) (Some syn)
            (get same_turn s.syns (record { tuple = t; place = k }))) apart ∙ are.syns k);
      }
  by_same true e =
      let exact : t ≡ tuple = tuple_exact t tuple e in
      let here : equal_tuple tuple t ≡ true = ap (equal_tuple tuple) exact ∙ tuple_itself tuple in
      let count : count_in s tuple ≡ length list = ap (count_in s) (sym exact) ∙ are.counted in
      let fresh : is_listed syn.number.0 list ≡ false = sym (are.known syn.number.0)
      ∙ (ap (λ (q : FourTuple). contains same_known s.known (record { tuple = q; number = syn.number.0 })) exact
      ∙ more.fresh) in
      let counted : count_in r t ≡ count_in s tuple + 1 = ap (λ (o : Option ℕ). unwrap_or o 0)
      (more.counts t ∙ ap (λ (b : Bool). cond b (Some (count_in s tuple + 1)) (get equal_tuple s.counts t)) here) in
      let longer : AreOf r t (list ++ syn ∷ []) =
      record {
        counted = omega (arith, counted, count, length-append list (syn ∷ []));
        known = λ m. more.known (record { tuple = t; number = m })
            ∙ (ap (λ (b : Bool). cond (b && syn.number.0 == m) true
            (contains same_known s.known (record { tuple = t; number = m }))) here
            ∙ (ap (cond (syn.number.0 == m) true) (are.known m) ∙ sym (list_any-push list syn m)));
        syns = λ k. more.syns (record { tuple = t; place = k })
            ∙ (ap (λ (b : Bool). cond (b && count_in s tuple == k) (Some syn)
            (get same_turn s.syns (record { tuple = t; place = k }))) here
            ∙ (ap (λ (n : ℕ). cond (n == k) (Some syn) (syn_at s.syns.entries t k)) count
            ∙ (ap (cond (length list == k) (Some syn)) (are.syns k) ∙ sym (slice_get-push list syn k))));
      }
      in
      rw fresh longer

pub listed_more : (s r : Numbering) (tuple t : FourTuple) (syn : Start) (list : List Start) → IsMore s r tuple syn
    → AreOf s t list → AreOf r t (if same_tuple t tuple then with_new list syn else list)
listed_more s r tuple t syn list more are = subst
    (λ (b : Bool). AreOf r t (if b then with_new list syn else list)) (sym (same_equal t tuple))
    (more_by s r tuple t syn list more are)

-- what stays where a number is listed already
pub record IsSame (s r : Numbering) : Type 0 where
  pub counts : (q : FourTuple) → get equal_tuple r.counts q ≡ get equal_tuple s.counts q
  pub known : (q : Known) → contains same_known r.known q ≡ contains same_known s.known q
  pub syns : (q : Turn) → get same_turn r.syns q ≡ get same_turn s.syns q

pub listed_again : (s r : Numbering) (tuple t : FourTuple) (syn : Start) (list : List Start) → IsSame s r
    → contains same_known s.known (record { tuple = tuple; number = syn.number.0 }) ≡ true → AreOf s t list
    → AreOf r t (if same_tuple t tuple then with_new list syn else list)
listed_again s r tuple t syn list same known are =
    subst (λ (b : Bool). AreOf r t (if b then with_new list syn else list)) (sym (same_equal t tuple))
    (by_same (equal_tuple t tuple) refl) where
      all : AreOf r t list
      all = record {
        counted = ap (λ (o : Option ℕ). unwrap_or o 0) (same.counts t) ∙ are.counted;
        known = λ m. same.known (record { tuple = t; number = m }) ∙ are.known m;
        syns = λ k. same.syns (record { tuple = t; place = k }) ∙ are.syns k;
      }

      by_same : (b : Bool) → equal_tuple t tuple ≡ b → AreOf r t (if b then with_new list syn else list)
      by_same false e = all
      by_same true e =
          let listed : is_listed syn.number.0 list ≡ true = sym (are.known syn.number.0)
          ∙ (ap (λ (q : FourTuple). contains same_known s.known (record { tuple = q; number = syn.number.0 }))
          (tuple_exact t tuple e) ∙ known) in
          rw listed all

-- ----- one item more
folded : (o : Option Start) (list : List Start) → fold with_new list (cons_option o []) ≡ with_one list o
folded None list = refl
folded (Some syn) list = refl

pub syns_push : (items : List Item) (x : Item) (t : FourTuple)
    → local_syns (items ++ x ∷ []) t ≡ with_one (local_syns items t) (local_syn t x.content)
syns_push items x t =
    let f : Item → Option Start = λ (y : Item). local_syn t y.content in
    ap (fold with_new []) (filter_map-append f items (x ∷ []))
    ∙ (fold-append with_new [] (filter_map f items) (cons_option (f x) [])
    ∙ folded (f x) (fold with_new [] (filter_map f items)))

pub with_one_few : (o : Option Start) (list : List Start) → length (with_one list o) ≤ length list + 1
with_one_few None list = omega arith
with_one_few (Some syn) list = by_known (is_listed syn.number.0 list) where
  by_known : (b : Bool) → length (if b then list else list ++ syn ∷ []) ≤ length list + 1
  by_known true = omega arith
  by_known false = omega (arith, length-append list (syn ∷ []))

pub with_one_if : (b : Bool) (list : List Start) (syn : Start)
    → with_one list (if b then Some syn else None) ≡ (if b then with_new list syn else list)
with_one_if true list syn = refl
with_one_if false list syn = refl

pub was_new : (b c : Bool) → b ≡ true → b ≡ not c → c ≡ false
was_new b true is e = absurd (true≢false (sym is ∙ e))
was_new b false is e = refl

pub was_known : (b c : Bool) → b ≡ false → b ≡ not c → c ≡ true
was_known b true is e = refl
was_known b false is e = absurd (true≢false (sym e ∙ is))
