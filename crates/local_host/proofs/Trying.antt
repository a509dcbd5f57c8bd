-- Attempts that become trials, are made, and whose flows go back.
use Rattle.std.proofs.Common.{◌≡◌, ℕ, zero, suc, ◌+◌, ◌<◌, ◌≤◌, ◌++◌, ◌==◌, List, [], ◌∷◌, length, get_or, set, map}
use Rattle.std.proofs.Common.{All, Bool, true, false, Option, Some, None, slice_get, refl, sym, ap, subst}
use Rattle.std.proofs.Common.{◌∙◌, arith, tests, append_assoc, true≢false, ◌⊎◌, inl, inr}
use Rattle.std.specs.Prelude.{IsPermutation}
use Rattle.std.proofs.lemmas.List.{map-append}
use Rattle.std.proofs.lemmas.List.Sums.{sum_by_push}
use Rattle.std.proofs.lemmas.List.Elements.{All-push, All-head, All-tail, All-nil, All-cons}
use Rattle.std.proofs.lemmas.List.Sorted.{sum_by-IsPermutation}
use Rattle.flow_state.specs.declared.call.Answer.{Answer}
use Rattle.host_rounds.specs.Lists.{Each, change_at}
use Rattle.host_rounds.specs.Hosts.{Live}
use Rattle.host_rounds.specs.Deliveries.{Arrival}
use Rattle.local_host.specs.declared.attempts.Attempt.{Attempt}
use Rattle.local_host.specs.declared.attempts.Trial.{Trial}
use Rattle.local_host.specs.declared.lanes.Handed.{Handed}
use Rattle.local_host.specs.declared.lanes.Job.{Job}
use Rattle.local_host.specs.Index.{passes_at}
use Rattle.local_host.specs.Lanes.{worked_job}
use Rattle.local_host.specs.Handing.{AreHanded, is_in_index, jobs_at, put_jobs}
use Rattle.local_host.specs.Trying.{answer_to, tried_live, AreMade, unanswered, AreAnswered, attempt_of, tried_by}
use Rattle.local_host.specs.Trying.{tried_trial, put_by, put_trial, put_trials, is_of, trials_at, HasFlow, HasOwnFlow}
use Rattle.local_host.specs.Trying.{AreLent, CanTry, CanTryIt}
use Rattle.local_host.proofs.LaneLists.{set_there, set_elsewhere, length_set, there_below, all_same, tally, count_cons}
use Rattle.local_host.proofs.LaneLists.{none_is}
use Rattle.local_host.proofs.HandingOut.{passes_there, either}
use Rattle.local_host.proofs.LaneWork.{places_worked}

some_is : {X : Type 0} (a b : X) → ◌≡◌ {A = Option X} (Some a) (Some b) → a ≡ b
some_is a b e = cc (e)

-- ----- attempts without an answer
abbrev IsFresh : Option Attempt → Type 0
IsFresh None = Unit {0}
IsFresh (Some x) = x.answer ≡ None

fresh_one : (x : Option Attempt) → unanswered x ≡ x → IsFresh x
fresh_one None same = tt
fresh_one (Some x) same = sym (ap (λ (y : Attempt). y.answer) (some_is (record x { answer = None }) x same))

are_fresh : (xs : List (Option Attempt)) → AreAnswered xs xs → Each IsFresh xs
are_fresh [] same = tt
are_fresh (x ∷ xs) same = (fresh_one x (head_is same), are_fresh xs (tail_is same)) where
  head_is : ◌≡◌ {A = List (Option Attempt)} (unanswered x ∷ map unanswered xs) (x ∷ xs) → unanswered x ≡ x
  head_is e = cc (e)

  tail_is : ◌≡◌ {A = List (Option Attempt)} (unanswered x ∷ map unanswered xs) (x ∷ xs) → map unanswered xs ≡ xs
  tail_is e = cc (e)

one_unmade : (t : ℕ) (x : Option Attempt) (xs : List (Option Attempt)) (F : List Live) → IsFresh x
    → AreMade t xs F F → AreMade t (x ∷ xs) F F
one_unmade t None xs F fresh rest = (F, refl, rest)
one_unmade t (Some x) xs F fresh rest =
    subst (λ (a : Option Answer). AreMade t (Some (record x { answer = a }) ∷ xs) F F) (sym fresh) (F, refl, rest)

-- they leave all as it is
pub none_made : (t : ℕ) (xs : List (Option Attempt)) (F : List Live) → AreAnswered xs xs → AreMade t xs F F
none_made t xs F same = each_unmade xs (are_fresh xs same) where
  each_unmade : (ys : List (Option Attempt)) → Each IsFresh ys → AreMade t ys F F
  each_unmade [] fresh = refl
  each_unmade (y ∷ ys) fresh = one_unmade t y ys F fresh.0 (each_unmade ys fresh.1)

-- ----- flows that are taken out
abbrev is_at : (place : ℕ) → Trial → Bool
is_at q x = is_of q x.attempt x.flow

never_of : (q : ℕ) (a : Option Attempt) → is_of q a None ≡ false
never_of q None = refl
never_of q (Some x) = refl

nothing_had : (flows : List Live) (a : Option Attempt) → HasFlow flows a None
nothing_had flows None = tt
nothing_had flows (Some x) = tt

pub nothing_lent : {old now : List Live} {given : List (Option Attempt)} {trials : List Trial} (a : Option Attempt)
    → AreLent old now given trials
    → AreLent old now (given ++ a ∷ []) (trials ++ (record { attempt = a; flow = None }) ∷ [])
nothing_lent {old} {now} {given} {trials} a is = record {
  tried = map-append attempt_of trials (x ∷ []) ∙ ap (λ (ys : List (Option Attempt)). ys ++ a ∷ []) is.tried;
  len = is.len;
  apart = λ q none. is.apart q (sym (counted q) ∙ none);
  away = λ q l there indexed. counted q ∙ is.away q l there indexed;
  own = All-push (HasOwnFlow old) trials x is.own (nothing_had old a);
  once = λ q. subst (λ (n : ℕ). n ≤ 1) (sym (counted q)) (is.once q);
} where
  x : Trial
  x = record { attempt = a; flow = None }

  counted : (q : ℕ) → trials_at q (trials ++ x ∷ []) ≡ trials_at q trials
  counted q =
      let none : tally (is_of q a None) ≡ 0 = ap tally (never_of q a) in
      let pushed = sum_by_push (λ (y : Trial). tally (is_at q y)) trials x in
      omega (arith, pushed, none)

pub one_lent : {old now : List Live} {given : List (Option Attempt)} {trials : List Trial} (a : Attempt)
    (was stand : Live) → passes_at is_in_index now a.place ≡ true → was ≡ get_or now a.place was
    → stand.indexed ≡ false → AreLent old now given trials
    → AreLent old (set now a.place stand) (given ++ Some a ∷ [])
    (trials ++ (record { attempt = Some a; flow = Some was }) ∷ [])
one_lent {old} {now} {given} {trials} a was stand passes read standing is = record {
  tried = map-append attempt_of trials (x ∷ []) ∙ ap (λ (ys : List (Option Attempt)). ys ++ Some a ∷ []) is.tried;
  len = length_set now a.place stand ∙ is.len;
  apart = λ q none. set_elsewhere now a.place q stand (other q none) ∙ is.apart q (before q none);
  away = λ q l there indexed. by_place q l there indexed (either (a.place == q));
  own = All-push (HasOwnFlow old) trials x is.own (sym (is.apart a.place new) ∙ there_now, indexed_was);
  once = λ q. few q (either (a.place == q));
} where
  x : Trial
  x = record { attempt = Some a; flow = Some was }

  there_now : slice_get now a.place ≡ Some was
  there_now = (passes_there now a.place was passes).1 ∙ ap (λ (l : Live). Some l) (sym read)

  indexed_was : was.indexed ≡ true
  indexed_was = ap is_in_index read ∙ (passes_there now a.place was passes).2

  new : trials_at a.place trials ≡ 0
  new = is.away a.place was there_now indexed_was

  counted : (q : ℕ) → trials_at q (trials ++ x ∷ []) ≡ trials_at q trials + tally (a.place == q)
  counted q = sum_by_push (λ (y : Trial). tally (is_at q y)) trials x

  before : (q : ℕ) → trials_at q (trials ++ x ∷ []) ≡ 0 → trials_at q trials ≡ 0
  before q none = omega (arith, counted q, none)

  other : (q : ℕ) → trials_at q (trials ++ x ∷ []) ≡ 0 → a.place ≡ q → ⊥
  other q none e =
      let is_it : (a.place == q) ≡ true = grind (arith, tests, e) in
      let one_more : tally (a.place == q) ≡ 1 = ap tally is_it in
      absurd (omega (arith, counted q, none, one_more))

  by_place : (q : ℕ) (l : Live) → slice_get (set now a.place stand) q ≡ Some l → l.indexed ≡ true
      → ((a.place == q) ≡ true) ⊎ ((a.place == q) ≡ false) → trials_at q (trials ++ x ∷ []) ≡ 0
  by_place q l there indexed (inl e) =
      let same : a.place ≡ q = grind (arith, tests, e) in
      let found : slice_get (set now a.place stand) q ≡ Some stand =
      subst (λ (n : ℕ). slice_get (set now a.place stand) n ≡ Some stand) same
      (set_there now a.place stand (passes_there now a.place was passes).0) in
      absurd (true≢false (sym indexed ∙ (ap is_in_index (some_is l stand (sym there ∙ found)) ∙ standing)))
  by_place q l there indexed (inr e) =
      let apart : a.place ≡ q → ⊥ = λ same. true≢false (sym (grind (arith, tests, same)) ∙ e) in
      let none : trials_at q trials ≡ 0 =
      is.away q l (sym (set_elsewhere now a.place q stand apart) ∙ there) indexed in
      let no_more : tally (a.place == q) ≡ 0 = ap tally e in
      omega (arith, counted q, none, no_more)

  few : (q : ℕ) → ((a.place == q) ≡ true) ⊎ ((a.place == q) ≡ false) → trials_at q (trials ++ x ∷ []) ≤ 1
  few q (inl e) =
      let same : a.place ≡ q = grind (arith, tests, e) in
      let none : trials_at q trials ≡ 0 = subst (λ (n : ℕ). trials_at n trials ≡ 0) same new in
      let one_more : tally (a.place == q) ≡ 1 = ap tally e in
      omega (arith, counted q, none, one_more)
  few q (inr e) =
      let no_more : tally (a.place == q) ≡ 0 = ap tally e in
      let once : trials_at q trials ≤ 1 = is.once q in
      omega (arith, counted q, no_more, once)

pub none_lent : (flows : List Live) → AreLent flows flows [] []
none_lent flows = record {
  tried = refl;
  len = refl;
  apart = λ q none. refl;
  away = λ q l there indexed. refl;
  own = All-nil (HasOwnFlow flows);
  once = λ q. omega arith;
}

-- ----- attempts that are made in turn
change_is : (f : Live → Live) (ls : List Live) (i : ℕ) (l : Live) → slice_get ls i ≡ Some l
    → change_at i f ls ≡ set ls i (f l)
change_is f [] i l here = absurd (cc (here))
change_is f (m ∷ ls) zero l here = ap (λ (n : Live). f n ∷ ls) (some_is m l here)
change_is f (m ∷ ls) (suc i) l here = ap (λ (ns : List Live). m ∷ ns) (change_is f ls i l here)

-- a flow that a trial has stands at its place
abbrev IsHereBy : List Live → Option Attempt → Option Live → Type 0
IsHereBy F (Some a) (Some l) = slice_get F a.place ≡ Some l
IsHereBy F a l = Unit {0}

abbrev IsHere : List Live → Trial → Type 0
IsHere F x = IsHereBy F x.attempt x.flow

abbrev is_fresh : Trial → Type 0
is_fresh x = IsFresh x.attempt

itself : (n : ℕ) → (n == n) ≡ true
itself n = grind (arith, tests)

-- and stays there while another one is put back
here_by : (F : List Live) (p : ℕ) (m : Live) (a : Option Attempt) (l : Option Live) → (is_of p a l ≡ true → ⊥)
    → IsHereBy F a l → IsHereBy (set F p m) a l
here_by F p m None l other here = tt
here_by F p m (Some a) None other here = tt
here_by F p m (Some a) (Some l) other here =
    set_elsewhere F p a.place m (λ e. other (grind (arith, tests, e))) ∙ here

pub made_in_turn : (t : ℕ) (xs : List Trial) (F : List Live) → All (IsHere F) xs → Each is_fresh xs
    → ((q : ℕ) → trials_at q xs ≤ 1)
    → AreMade t (map attempt_of (map (tried_trial t) xs)) F (put_trials (map (tried_trial t) xs) F)
made_in_turn t [] F here fresh once = refl
made_in_turn t (x ∷ xs) F here fresh once =
    by_parts x.attempt x.flow (All-head (IsHere F) x xs here) fresh.0
    (λ q. omega (arith, count_cons (is_at q) x xs, once q))
    (λ G others. made_in_turn t xs G others fresh.1 (λ q. omega (arith, count_cons (is_at q) x xs, once q))) where
      ys : List Trial
      ys = map (tried_trial t) xs

      by_parts : (a : Option Attempt) (l : Option Live) → IsHereBy F a l → IsFresh a
          → ((q : ℕ) → tally (is_of q a l) + trials_at q xs ≤ 1)
          → ((G : List Live) → All (IsHere G) xs → AreMade t (map attempt_of ys) G (put_trials ys G))
          → AreMade t (attempt_of (tried_by t a l) ∷ map attempt_of ys) F
          (put_trials ys (put_by (tried_by t a l).attempt (tried_by t a l).flow F))
      by_parts None l there new few rest = (F, refl, rest F (All-tail (IsHere F) x xs here))
      by_parts (Some a) None there new few rest =
          subst (λ (o : Option Answer). AreMade t (Some (record a { answer = o }) ∷ map attempt_of ys) F
          (put_trials ys F)) (sym new) (F, refl, rest F (All-tail (IsHere F) x xs here))
      by_parts (Some a) (Some l) there new few rest =
          let m : Live = tried_live t a l in
          let G : List Live = set F a.place m in
          let one : tally (a.place == a.place) ≡ 1 = ap tally (itself a.place) in
          let none : trials_at a.place xs ≡ 0 = omega (arith, few a.place, one) in
          let apart : All (λ (y : Trial). is_at a.place y ≡ true → ⊥) xs = none_is (is_at a.place) xs none in
          let others : All (IsHere G) xs = λ k d low. here_by F a.place m (get_or xs k d).attempt (get_or xs k d).flow
          (apart k d low) (All-tail (IsHere F) x xs here k d low) in (
            G,
            (
              there_below F a.place l there,
              λ n found. ap (answer_to t a) (some_is l n (sym there ∙ found)),
              change_is (tried_live t a) F a.place l there,
            ),
            rest G others,
          )

-- ----- flows that differ where others are put back alone
abbrev HasPlaceBy : List Live → Option Attempt → Option Live → Type 0
HasPlaceBy F (Some a) (Some l) = a.place < length F
HasPlaceBy F a l = Unit {0}

abbrev HasPlace : List Live → Trial → Type 0
HasPlace F x = HasPlaceBy F x.attempt x.flow

still_below : (F : List Live) (p : ℕ) (m : Live) (a : Option Attempt) (l : Option Live) → HasPlaceBy F a l
    → HasPlaceBy (set F p m) a l
still_below F p m None l low = tt
still_below F p m (Some a) None low = tt
still_below F p m (Some a) (Some l) low = subst (λ (n : ℕ). a.place < n) (sym (length_set F p m)) low

pub put_apart : (xs : List Trial) (S F : List Live) → length S ≡ length F
    → ((q : ℕ) → trials_at q xs ≡ 0 → slice_get S q ≡ slice_get F q) → All (HasPlace F) xs
    → put_trials xs S ≡ put_trials xs F
put_apart [] S F len same below = all_same S F len (λ q. same q refl)
put_apart (x ∷ xs) S F len same below =
    by_parts x.attempt x.flow (All-head (HasPlace F) x xs below) (λ q zero none. same q
    (let no_more : tally (is_at q x) ≡ 0 = ap tally zero in
    omega (arith, count_cons (is_at q) x xs, no_more, none))) (put_apart xs) where
      rest : All (HasPlace F) xs
      rest = All-tail (HasPlace F) x xs below

      by_parts : (a : Option Attempt) (l : Option Live) → HasPlaceBy F a l
          → ((q : ℕ) → is_of q a l ≡ false → trials_at q xs ≡ 0 → slice_get S q ≡ slice_get F q)
          → ((A B : List Live) → length A ≡ length B
          → ((q : ℕ) → trials_at q xs ≡ 0 → slice_get A q ≡ slice_get B q) → All (HasPlace B) xs
          → put_trials xs A ≡ put_trials xs B)
          → put_trials xs (put_by a l S) ≡ put_trials xs (put_by a l F)
      by_parts None l low alike others = others S F len (λ q none. alike q refl none) rest
      by_parts (Some a) None low alike others = others S F len (λ q none. alike q refl none) rest
      by_parts (Some a) (Some l) low alike others =
          others (set S a.place l) (set F a.place l)
          (length_set S a.place l ∙ (len ∙ sym (length_set F a.place l)))
          (λ q none. by_place q none (either (a.place == q)))
          (λ k d below. still_below F a.place l (get_or xs k d).attempt (get_or xs k d).flow (rest k d below)) where
            by_place : (q : ℕ) → trials_at q xs ≡ 0 → ((a.place == q) ≡ true) ⊎ ((a.place == q) ≡ false)
                → slice_get (set S a.place l) q ≡ slice_get (set F a.place l) q
            by_place q none (inl e) =
                let is : a.place ≡ q = grind (arith, tests, e) in
                let s : a.place < length S = omega (arith, low, len) in
                subst (λ (p : ℕ). slice_get (set S a.place l) p ≡ slice_get (set F a.place l) p) is
                (set_there S a.place l s ∙ sym (set_there F a.place l low))
            by_place q none (inr e) =
                let other : a.place ≡ q → ⊥ = λ is. true≢false (sym (grind (arith, tests, is)) ∙ e) in
                set_elsewhere S a.place q l other ∙ (alike q e none ∙ sym (set_elsewhere F a.place q l other))

-- ----- flows of jobs that are put back beside them
set_agree : {X : Type 0} (S F : List X) (p q : ℕ) (x : X) → length S ≡ length F → slice_get S q ≡ slice_get F q
    → slice_get (set S p x) q ≡ slice_get (set F p x) q
set_agree [] [] p q x len same = refl
set_agree [] (f ∷ fs) p q x len same = absurd (omega (arith, len))
set_agree (s ∷ ss) [] p q x len same = absurd (omega (arith, len))
set_agree (s ∷ ss) (f ∷ fs) zero zero x len same = refl
set_agree (s ∷ ss) (f ∷ fs) zero (suc q) x len same = same
set_agree (s ∷ ss) (f ∷ fs) (suc p) zero x len same = same
set_agree (s ∷ ss) (f ∷ fs) (suc p) (suc q) x len same = set_agree ss fs p q x (omega (arith, len)) same

jobs_agree : (js : List Job) (S F : List Live) (q : ℕ) → length S ≡ length F → slice_get S q ≡ slice_get F q
    → slice_get (put_jobs js S) q ≡ slice_get (put_jobs js F) q
jobs_agree [] S F q len same = same
jobs_agree (j ∷ js) S F q len same =
    jobs_agree js (set S j.place j.flow) (set F j.place j.flow) q
    (length_set S j.place j.flow ∙ (len ∙ sym (length_set F j.place j.flow)))
    (set_agree S F j.place q j.flow len same)

length_jobs : (js : List Job) (F : List Live) → length (put_jobs js F) ≡ length F
length_jobs [] F = refl
length_jobs (j ∷ js) F = length_jobs js (set F j.place j.flow) ∙ length_set F j.place j.flow

jobs_elsewhere : (js : List Job) (F : List Live) (q : ℕ) → jobs_at q js ≡ 0
    → slice_get (put_jobs js F) q ≡ slice_get F q
jobs_elsewhere [] F q none = refl
jobs_elsewhere (j ∷ js) F q none =
    let counted = count_cons (λ (k : Job). k.place == q) j js in
    let other : j.place ≡ q → ⊥ = λ e.
    let is : (j.place == q) ≡ true = grind (arith, tests, e) in
    let one : tally (j.place == q) ≡ 1 = ap tally is in
    absurd (omega (arith, counted, none, one)) in
    jobs_elsewhere js (set F j.place j.flow) q (omega (arith, counted, none))
    ∙ set_elsewhere F j.place q j.flow other

-- ----- all of it
tried_at : (t q : ℕ) (xs : List Trial) → trials_at q (map (tried_trial t) xs) ≡ trials_at q xs
tried_at t q [] = refl
tried_at t q (x ∷ xs) =
    count_cons (is_at q) (tried_trial t x) (map (tried_trial t) xs)
    ∙ (ap (λ (b : Bool). tally b + trials_at q (map (tried_trial t) xs)) (by_parts x.attempt x.flow)
    ∙ (ap (λ (n : ℕ). tally (is_at q x) + n) (tried_at t q xs) ∙ sym (count_cons (is_at q) x xs))) where
      by_parts : (a : Option Attempt) (l : Option Live)
          → is_of q (tried_by t a l).attempt (tried_by t a l).flow ≡ is_of q a l
      by_parts None l = refl
      by_parts (Some a) None = refl
      by_parts (Some a) (Some l) = refl

tried_same : (t : ℕ) (xs : List Trial)
    → map unanswered (map attempt_of (map (tried_trial t) xs)) ≡ map unanswered (map attempt_of xs)
tried_same t [] = refl
tried_same t (x ∷ xs) =
    ap (λ (o : Option Attempt). o ∷ map unanswered (map attempt_of (map (tried_trial t) xs)))
    (by_parts x.attempt x.flow)
    ∙ ap (λ (os : List (Option Attempt)). unanswered x.attempt ∷ os) (tried_same t xs) where
      by_parts : (a : Option Attempt) (l : Option Live) → unanswered (tried_by t a l).attempt ≡ unanswered a
      by_parts None l = refl
      by_parts (Some a) None = refl
      by_parts (Some a) (Some l) = refl

-- these are the attempts that were given
pub tried_answered : (t : ℕ) (given : List (Option Attempt)) (xs : List Trial) → map attempt_of xs ≡ given
    → AreAnswered given given → AreAnswered given (map attempt_of (map (tried_trial t) xs))
tried_answered t given xs are fresh = tried_same t xs ∙ (ap (map unanswered) are ∙ fresh)

fresh_trials : (xs : List Trial) → Each IsFresh (map attempt_of xs) → Each is_fresh xs
fresh_trials [] fresh = tt
fresh_trials (x ∷ xs) fresh = (fresh.0, fresh_trials xs fresh.1)

-- Jobs and trials that were handed out, worked and put back.
pub both_made : (t : ℕ) (old now lent : List Live) (jobs js : List Job) (left : List Handed) (cores : List ℕ)
    (frames : List Arrival) (given : List (Option Attempt)) (xs : List Trial)
    → AreHanded old now jobs left cores frames → IsPermutation jobs js → AreLent now lent given xs
    → AreAnswered given given
    → AreMade t (map attempt_of (map (tried_trial t) xs)) (put_jobs (map (worked_job t) js) now)
    (put_trials (map (tried_trial t) xs) (put_jobs (map (worked_job t) js) lent))
both_made t old now lent jobs js left cores frames given xs handed moved out fresh =
    subst (AreMade t (map attempt_of ys) middle)
    (sym (put_apart ys (put_jobs worked lent) middle len
    (λ q none. jobs_agree worked lent now q out.len (out.apart q (sym (tried_at t q xs) ∙ none)))
    (λ k d low. placed k d low)))
    (made_in_turn t xs middle (λ k d low. here k d low)
    (fresh_trials xs (subst (Each IsFresh) (sym out.tried) (are_fresh given fresh))) out.once) where
      worked : List Job
      worked = map (worked_job t) js

      ys : List Trial
      ys = map (tried_trial t) xs

      middle : List Live
      middle = put_jobs worked now

      len : length (put_jobs worked lent) ≡ length middle
      len = length_jobs worked lent ∙ (out.len ∙ sym (length_jobs worked now))

      none_worked : (q : ℕ) (l : Live) → slice_get now q ≡ Some l → l.indexed ≡ true → jobs_at q worked ≡ 0
      none_worked q l there indexed =
          places_worked t q js
          ∙ (sum_by-IsPermutation (λ (j : Job). tally (j.place == q)) jobs js moved
          ∙ handed.away q l there indexed)

      here_of : (a : Option Attempt) (l : Option Live) → HasFlow now a l → IsHereBy middle a l
      here_of None l has = tt
      here_of (Some a) None has = tt
      here_of (Some a) (Some l) has = jobs_elsewhere worked now a.place (none_worked a.place l has.0 has.1) ∙ has.0

      here : All (IsHere middle) xs
      here k d low = here_of (get_or xs k d).attempt (get_or xs k d).flow (out.own k d low)

      place_of : (a : Option Attempt) (l : Option Live) → IsHereBy middle a l
          → HasPlaceBy middle (tried_by t a l).attempt (tried_by t a l).flow
      place_of None l there = tt
      place_of (Some a) None there = tt
      place_of (Some a) (Some l) there = there_below middle a.place l there

      places : (zs : List Trial) → All (IsHere middle) zs → All (HasPlace middle) (map (tried_trial t) zs)
      places [] all = All-nil (HasPlace middle)
      places (z ∷ zs) all =
          All-cons (HasPlace middle) (tried_trial t z) (map (tried_trial t) zs)
          (place_of z.attempt z.flow (All-head (IsHere middle) z zs all))
          (places zs (All-tail (IsHere middle) z zs all))

      placed : All (HasPlace middle) ys
      placed = places xs here

-- ----- flows that go back one by one
pub put_both : (xs ys : List Trial) (F : List Live) → put_trials (xs ++ ys) F ≡ put_trials ys (put_trials xs F)
put_both [] ys F = refl
put_both (x ∷ xs) ys F = put_both xs ys (put_trial x F)

-- some more
pub more_put : (xs ys : List Trial) (first now after : List Live) (os told more : List (Option Attempt))
    → now ≡ put_trials xs first → after ≡ put_trials ys now → told ≡ os ++ map attempt_of xs
    → more ≡ told ++ map attempt_of ys
    → (after ≡ put_trials (xs ++ ys) first) × (more ≡ os ++ map attempt_of (xs ++ ys))
more_put xs ys first now after os told more so_far put gathered pushed = (
  put ∙ (ap (put_trials ys) so_far ∙ sym (put_both xs ys first)),
  pushed
      ∙ (ap (λ (zs : List (Option Attempt)). zs ++ map attempt_of ys) gathered
      ∙ (append_assoc os (map attempt_of xs) (map attempt_of ys)
      ∙ ap (λ (zs : List (Option Attempt)). os ++ zs) (sym (map-append attempt_of xs ys)))),
)

-- ----- what may be tried
pub can_try : (given : List (Option Attempt)) (xs : List Trial) → map attempt_of xs ≡ given → All CanTryIt given
    → All CanTry xs
can_try given xs are all = each_can xs (subst (All CanTryIt) (sym are) all) where
  each_can : (ys : List Trial) → All CanTryIt (map attempt_of ys) → All CanTry ys
  each_can [] can = All-nil CanTry
  each_can (y ∷ ys) can =
      All-cons CanTry y ys (All-head CanTryIt y.attempt (map attempt_of ys) can)
      (each_can ys (All-tail CanTryIt y.attempt (map attempt_of ys) can))
