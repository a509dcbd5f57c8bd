-- Where the entries of a tick begin in a history.
use Rattle.std.proofs.Common.{◌≡◌, ℕ, zero, suc, ◌+◌, ◌≤◌, ◌<◌, Bool, true, false, cond, ltb, List, [], ◌∷◌, ◌++◌}
use Rattle.std.proofs.Common.{length, true≢false}
use Rattle.std.proofs.Common.{filter, take, drop, flat_map, Some, slice_get, refl, sym, ap, ◌∙◌, subst, arith}
use Rattle.std.proofs.Common.{append-nil}
use Rattle.std.proofs.Common.{take-append-drop, append_assoc, length-append, add-one, drop-cons, get_or, eqb}
use Rattle.std.proofs.lemmas.Bool.Decides.{nat_tests}
use Rattle.std.proofs.lemmas.Option.{slice_get_within, get_or_from_slice_get}
use Rattle.std.proofs.lemmas.List.Concat.{flat_map-append}
use Rattle.std.proofs.lemmas.List.Elements.{filter-append}
use Rattle.tas_model.specs.declared.entry.HostParams.{HostParams}
use Rattle.tas_model.specs.declared.entry.Caller.{Caller}
use Rattle.tas_model.specs.declared.entry.Seg.{Seg}
use Rattle.tas_model.specs.declared.entry.Entry.{Entry}
use Rattle.tas_model.specs.LegalHistory.{Legal, LegalAfter, last_tick}
use Rattle.tas_model.specs.Outputs.{segments_in, sent}
use Rattle.flow_state.specs.Stretches.{quiet_tick, quiet_ticks}
use Rattle.link_script.specs.declared.frames.Sent.{Sent}
use Rattle.run_texts.specs.Frames.{AreAllShort}
use Rattle.run_texts.proofs.Lists.{taken_more}
use Rattle.sent_frames.specs.declared.frames.Origin.{Origin}
use Rattle.sent_frames.specs.Sending.{of_tick, segment_frames, entry_frames, sent_by, sent_before, EntriesBefore}
use Rattle.sent_frames.proofs.Ticks.{none_of_tick}
use Rattle.sent_frames.proofs.Numbered.{sent_by-append, sent_by-le, entry_frames-append}

-- ----- ticks do not fall
abbrev Rising : (low : ℕ) → List Entry → Type 0
Rising low [] = Unit {0}
Rising low (x ∷ xs) = (low ≤ x.tick) × Rising x.tick xs

last_more : (t : ℕ) (xs : List Entry) (x : Entry) → last_tick t (xs ++ x ∷ []) ≡ x.tick
last_more t [] x = refl
last_more t (y ∷ ys) x = last_more y.tick ys x

rising_after : (params : HostParams) (earlier xs : List Entry) → LegalAfter params earlier xs
    → Rising (last_tick 0 earlier) xs
rising_after params earlier [] h = tt
rising_after params earlier (x ∷ xs) h = (
  h.0.tick,
  subst (λ n. Rising n xs) (last_more 0 earlier x) (rising_after params (earlier ++ x ∷ []) xs h.1),
)

rising : (params : HostParams) (h : List Entry) → Legal params h → Rising 0 h
rising params [] legal = tt
rising params (x ∷ xs) legal = (omega arith, rising_after params (x ∷ []) xs legal.1)

rising_front : (low : ℕ) (xs ys : List Entry) → Rising low (xs ++ ys) → Rising low xs
rising_front low [] ys h = tt
rising_front low (x ∷ xs) ys h = (h.0, rising_front x.tick xs ys h.1)

last_least : (low : ℕ) (xs : List Entry) → Rising low xs → low ≤ last_tick low xs
last_least low [] h = omega arith
last_least low (x ∷ xs) h = omega (arith, h.0, last_least x.tick xs h.1)

all_before : (low t : ℕ) (xs : List Entry) → Rising low xs → last_tick low xs < t → EntriesBefore t xs
all_before low t [] h l = tt
all_before low t (x ∷ xs) h l = (omega (arith, last_least x.tick xs h.1), all_before x.tick t xs h.1 l)

pub last_tick-append : (n : ℕ) (xs ys : List Entry) → last_tick n (xs ++ ys) ≡ last_tick (last_tick n xs) ys
last_tick-append n [] ys = refl
last_tick-append n (x ∷ xs) ys = last_tick-append x.tick xs ys

-- ----- stretches
abbrev pub joined : List (List Entry) → List Entry
joined xss = flat_map (λ (xs : List Entry). xs) xss

pub joined-append : (xss yss : List (List Entry)) → joined (xss ++ yss) ≡ joined xss ++ joined yss
joined-append xss yss = flat_map-append (λ (xs : List Entry). xs) xss yss

-- the first stretches, and the others
pub joined_parts : (xss : List (List Entry)) (i : ℕ) → joined xss ≡ joined (take i xss) ++ joined (drop i xss)
joined_parts xss i = ap joined (sym (take-append-drop i xss)) ∙ joined-append (take i xss) (drop i xss)

-- one stretch more
pub joined_more : (xss : List (List Entry)) (i : ℕ) (xs : List Entry) → slice_get xss i ≡ Some xs
    → joined (take (i + 1) xss) ≡ joined (take i xss) ++ xs
joined_more xss i xs e =
    ap joined (taken_more xss i xs e)
    ∙ (joined-append (take i xss) (xs ∷ []) ∙ ap (λ t. joined (take i xss) ++ t) (append-nil xs))

pub quiet_last : (c : Caller) (m n t k : ℕ) → last_tick m (quiet_ticks c n t (suc k)) ≡ t + k
quiet_last c m n t zero = sym (omega arith)
quiet_last c m n t (suc k) = quiet_last c t (n + 1) (t + 1) k ∙ omega arith

pub quiet_sends_none : (p : Entry → Bool) (c : Caller) (n t k : ℕ) → sent (filter p (quiet_ticks c n t k)) ≡ []
quiet_sends_none p c n t zero = refl
quiet_sends_none p c n t (suc k) =
    by_test (p (quiet_tick c n t)) (filter p (quiet_ticks c (n + 1) (t + 1) k)) (quiet_sends_none p c (n + 1) (t + 1) k)
  where
    by_test : (b : Bool) (xs : List Entry) → sent xs ≡ [] → sent (cond b (quiet_tick c n t ∷ xs) xs) ≡ []
    by_test true xs h = h
    by_test false xs h = h

pub quiet_has_none : (c : Caller) (n t k : ℕ) → sent (quiet_ticks c n t k) ≡ []
quiet_has_none c n t zero = refl
quiet_has_none c n t (suc k) = quiet_has_none c (n + 1) (t + 1) k

-- and so it adds no frames
pub quiet_frames : (o : Origin) (m : ℕ) (c : Caller) (n t k : ℕ) → entry_frames o m (quiet_ticks c n t k) ≡ []
quiet_frames o m c n t zero = refl
quiet_frames o m c n t (suc k) =
    let e : m + 0 ≡ m = omega arith in
    ap (λ j. entry_frames o j (quiet_ticks c (n + 1) (t + 1) k)) e ∙ quiet_frames o m c (n + 1) (t + 1) k

-- ----- the search for the first stretch of a tick
abbrev earlier : (tick : ℕ) → List Entry → List Entry
earlier t xs = filter (λ (x : Entry). ltb x.tick t) xs

joined_less : (xss : List (List Entry)) (i : ℕ) (xs : List Entry) → slice_get xss i ≡ Some xs
    → joined (drop i xss) ≡ xs ++ joined (drop (i + 1) xss)
joined_less xss i xs e =
    let inside : i < length xss = slice_get_within xss i xs e in
    let cut : drop i xss ≡ get_or xss i xs ∷ drop (i + 1) xss = rw (add-one, drop-cons xss i xs inside) refl in
    ap joined (cut ∙ ap (λ ys. ys ∷ drop (i + 1) xss) (get_or_from_slice_get xss i xs xs e))

sent_none : (t : ℕ) (xs ys : List Entry) → sent (earlier t xs) ≡ [] → sent (earlier t ys) ≡ []
    → sent (earlier t (xs ++ ys)) ≡ []
sent_none t xs ys a b =
    ap sent (filter-append (λ (x : Entry). ltb x.tick t) xs ys)
    ∙ (flat_map-append (λ (x : Entry). segments_in x.reply) (earlier t xs) (earlier t ys)
    ∙ (ap (λ zs. zs ++ sent (earlier t ys)) a ∙ b))

-- a stretch more that sent nothing before the tick
pub none_more : (t : ℕ) (xss : List (List Entry)) (i : ℕ) (xs : List Entry) → slice_get xss i ≡ Some xs
    → sent (earlier t xs) ≡ [] → sent (earlier t (joined (drop (i + 1) xss))) ≡ []
    → sent (earlier t (joined (drop i xss))) ≡ []
none_more t xss i xs e a b =
    ap (λ ys. sent (earlier t ys)) (joined_less xss i xs e) ∙ sent_none t xs (joined (drop (i + 1) xss)) a b

-- a stretch that ended before it
pub ended : (t : ℕ) (xss : List (List Entry)) (i : ℕ) (xs : List Entry) → slice_get xss i ≡ Some xs
    → ((n : ℕ) → last_tick n xs < t) → last_tick 0 (joined (take (i + 1) xss)) < t
ended t xss i xs e h =
    subst (λ n. n < t)
    (sym (ap (last_tick 0) (joined_more xss i xs e) ∙ last_tick-append 0 (joined (take i xss)) xs))
    (h (last_tick 0 (joined (take i xss))))

-- ----- what was collected
front_before : (params : HostParams) (xss : List (List Entry)) (i t : ℕ) → Legal params (joined xss)
    → (0 < i → last_tick 0 (joined (take i xss)) < t) → EntriesBefore t (joined (take i xss))
front_before params xss zero t legal h = tt
front_before params xss (suc i) t legal h =
    let all : Rising 0 (joined xss) = rising params (joined xss) legal in
    let parts = subst (λ ys. Rising 0 ys) (joined_parts xss (suc i)) all in
    all_before 0 t (joined (take (suc i) xss))
    (rising_front 0 (joined (take (suc i) xss)) (joined (drop (suc i) xss)) parts)
    (h (omega arith))

all_kept : (t : ℕ) (xs : List Entry) → EntriesBefore t xs → earlier t xs ≡ xs
all_kept t [] h = refl
all_kept t (x ∷ xs) h =
    let e : ltb x.tick t ≡ true = (let l : x.tick < t = h.0 in grind (arith, nat_tests, l)) in
    rw e (ap (λ ys. x ∷ ys) (all_kept t xs h.1))

-- Before the first of these stretches nothing was sent in the tick, and all that was sent before it.
pub starts : (params : HostParams) (entries : List Entry) (xss : List (List Entry)) (i t : ℕ) → Legal params entries
    → joined xss ≡ entries → (0 < i → last_tick 0 (joined (take i xss)) < t)
    → sent (earlier t (joined (drop i xss))) ≡ []
    → ((o : Origin) → of_tick t (entry_frames o 0 (joined (take i xss))) ≡ [])
    × (sent_before t entries ≡ sent_by (joined (take i xss)))
starts params entries xss i t legal whole first rest =
    let front : List Entry = joined (take i xss) in
    let back : List Entry = joined (drop i xss) in
    let before : EntriesBefore t front =
    front_before params xss i t (subst (λ ys. Legal params ys) (sym whole) legal) first in
    let parts : earlier t entries ≡ front ++ earlier t back =
    ap (earlier t) (sym whole ∙ joined_parts xss i)
    ∙ (filter-append (λ (x : Entry). ltb x.tick t) front back
    ∙ ap (λ ys. ys ++ earlier t back) (all_kept t front before)) in
    let none : sent_by (earlier t back) ≡ 0 = ap length rest in (
      λ o. none_of_tick o 0 t front before,
      ap sent_by parts ∙ (sent_by-append front (earlier t back) ∙ omega (arith, none)),
    )

-- one stretch more
pub collected_more : (o : Origin) (t n : ℕ) (xss : List (List Entry)) (i : ℕ) (xs : List Entry)
    (old before after : List Sent) → slice_get xss i ≡ Some xs
    → before ≡ old ++ of_tick t (entry_frames o 0 (joined (take i xss))) → n ≡ sent_by (joined (take i xss))
    → after ≡ before ++ of_tick t (entry_frames o n xs)
    → after ≡ old ++ of_tick t (entry_frames o 0 (joined (take (i + 1) xss)))
collected_more o t n xss i xs old before after e was number more =
    let front : List Entry = joined (take i xss) in
    let all : entry_frames o 0 (joined (take (i + 1) xss)) ≡ entry_frames o 0 front ++ entry_frames o n xs =
    ap (entry_frames o 0) (joined_more xss i xs e)
    ∙ (entry_frames-append o 0 front xs
    ∙ ap (λ k. entry_frames o 0 front ++ entry_frames o k xs) (let z : 0 + sent_by front ≡ n = omega (arith, number) in
    z)) in
    more
    ∙ (ap (λ fs. fs ++ of_tick t (entry_frames o n xs)) was
    ∙ (append_assoc old (of_tick t (entry_frames o 0 front)) (of_tick t (entry_frames o n xs))
    ∙ ap (λ fs. old ++ fs)
    (sym (ap (of_tick t) all ∙ filter-append (λ (f : Sent). eqb f.tick t) (entry_frames o 0 front)
    (entry_frames o n xs)))))

pub number_more : (n m : ℕ) (xss : List (List Entry)) (i : ℕ) (xs : List Entry) → slice_get xss i ≡ Some xs
    → n ≡ sent_by (joined (take i xss)) → m ≡ n + sent_by xs → m ≡ sent_by (joined (take (i + 1) xss))
number_more n m xss i xs e was more =
    more ∙ (ap (λ k. k + sent_by xs) was
    ∙ sym (ap sent_by (joined_more xss i xs e) ∙ sent_by-append (joined (take i xss)) xs))

-- there are no more segments than entries
pub few_sent : (n : ℕ) (xss : List (List Entry)) (i : ℕ) (xs : List Entry) → slice_get xss i ≡ Some xs
    → n ≡ sent_by (joined (take i xss)) → n + length xs ≤ length (joined xss)
few_sent n xss i xs e number =
    omega (
      arith,
      number,
      sent_by-le (joined (take i xss)),
      ap length (joined_parts xss i ∙ ap (λ ys. joined (take i xss) ++ ys) (joined_less xss i xs e)),
      length-append (joined (take i xss)) (xs ++ joined (drop (i + 1) xss)),
      length-append xs (joined (drop (i + 1) xss)),
    )

-- ----- room in a packet
short_front : (xs ys : List Seg) → AreAllShort (xs ++ ys) → AreAllShort xs
short_front [] ys h = tt
short_front (x ∷ xs) ys h = (h.0, short_front xs ys h.1)

short_back : (xs ys : List Seg) → AreAllShort (xs ++ ys) → AreAllShort ys
short_back [] ys h = h
short_back (x ∷ xs) ys h = short_back xs ys h.1

-- the segments of a stretch, where those of all entries have room
pub short_in : (entries : List Entry) (xss : List (List Entry)) (i : ℕ) (xs : List Entry) → joined xss ≡ entries
    → slice_get xss i ≡ Some xs → AreAllShort (sent entries) → AreAllShort (sent xs)
short_in entries xss i xs whole e all =
    let front : List Entry = joined (take i xss) in
    let back : List Entry = joined (drop (i + 1) xss) in
    let parts : sent entries ≡ sent front ++ (sent xs ++ sent back) =
    ap sent (sym whole ∙ (joined_parts xss i ∙ ap (λ ys. front ++ ys) (joined_less xss i xs e)))
    ∙ (flat_map-append (λ (x : Entry). segments_in x.reply) front (xs ++ back)
    ∙ ap (λ ys. sent front ++ ys) (flat_map-append (λ (x : Entry). segments_in x.reply) xs back)) in
    short_front (sent xs) (sent back)
    (short_back (sent front) (sent xs ++ sent back) (subst (λ ys. AreAllShort ys) parts all))

-- ----- a tick in which nothing was sent
frames_in : (o : Origin) (n u t : ℕ) (segs : List Seg)
    → length (of_tick t (segment_frames o n u segs)) ≡ cond (eqb u t) (length segs) 0
frames_in o n u t segs = by_test (eqb u t) refl segs n
  where
    by_test : (b : Bool) → eqb u t ≡ b → (segs : List Seg) (n : ℕ)
        → length (of_tick t (segment_frames o n u segs)) ≡ cond b (length segs) 0
    by_test true is [] n = refl
    by_test false is [] n = refl
    by_test true is (seg ∷ segs) n = rw is (ap suc (by_test true is segs (n + 1)))
    by_test false is (seg ∷ segs) n = rw is (by_test false is segs (n + 1))

before_first : (t : ℕ) (x : Entry) (xs : List Entry)
    → sent_before t (x ∷ xs) ≡ cond (ltb x.tick t) (length (segments_in x.reply)) 0 + sent_before t xs
before_first t x xs = by_test (ltb x.tick t)
  where
    rest : List Entry
    rest = filter (λ (y : Entry). ltb y.tick t) xs

    by_test : (b : Bool) → sent_by (cond b (x ∷ rest) rest)
        ≡ cond b (length (segments_in x.reply)) 0 + sent_by rest
    by_test true = sent_by-append (x ∷ []) rest
        ∙ ap (λ n. n + sent_by rest) (ap length (append-nil (segments_in x.reply)))
    by_test false = omega arith

apart : (u t k : ℕ) → cond (eqb u t) k 0 + cond (ltb u t) k 0 ≤ k
apart u t k = by_tests (eqb u t) (ltb u t) refl refl
  where
    by_tests : (a b : Bool) → eqb u t ≡ a → ltb u t ≡ b → cond a k 0 + cond b k 0 ≤ k
    by_tests true true same less = absurd (true≢false (sym less ∙ not_less same))
      where
        not_less : eqb u t ≡ true → ltb u t ≡ false
        not_less h = grind (arith, nat_tests, h)
    by_tests true false same less = omega arith
    by_tests false true same less = omega arith
    by_tests false false same less = omega arith

few_now : (o : Origin) (n t : ℕ) (xs : List Entry)
    → length (of_tick t (entry_frames o n xs)) + sent_before t xs ≤ sent_by xs
few_now o n t [] = omega arith
few_now o n t (x ∷ xs) =
    let k : ℕ = length (segments_in x.reply) in
    let front : List Sent = segment_frames o n x.tick (segments_in x.reply) in
    let back : List Sent = entry_frames o (n + k) xs in
    let both : length (of_tick t (front ++ back)) ≡ length (of_tick t front) + length (of_tick t back) =
    ap length (filter-append (λ (f : Sent). eqb f.tick t) front back)
    ∙ length-append (of_tick t front) (of_tick t back) in
    let all : sent_by (x ∷ xs) ≡ k + sent_by xs = length-append (segments_in x.reply) (sent xs) in
    omega (
      arith,
      both,
      all,
      frames_in o n x.tick t (segments_in x.reply),
      before_first t x xs,
      apart x.tick t k,
      few_now o (n + k) t xs,
    )

none_left : (fs : List Sent) → length fs ≤ 0 → fs ≡ []
none_left [] h = refl
none_left (f ∷ fs) h = absurd (omega (arith, h))

-- where all that was sent was sent before the tick, no frame is of it
pub none_sent_now : (o : Origin) (t : ℕ) (h : List Entry) → sent_by h ≡ sent_before t h
    → of_tick t (entry_frames o 0 h) ≡ []
none_sent_now o t h same = none_left (of_tick t (entry_frames o 0 h)) (omega (arith, same, few_now o 0 t h))
