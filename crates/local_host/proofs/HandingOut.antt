-- Frames that are handed out one by one, jobs that are given to lanes, and flows that are put back.
use Rattle.std.proofs.Common.{◌≡◌, ℕ, zero, suc, ◌+◌, ◌<◌, ◌≤◌, ◌++◌, ◌==◌, List, [], ◌∷◌, length, get_or, set, map}
use Rattle.std.proofs.Common.{take, drop, All, Bool, true, false, Option, Some, slice_get, refl, sym, ap, subst}
use Rattle.std.proofs.Common.{◌∙◌, arith, tests, append_assoc, append-nil, true≢false, ◌⊎◌, inl, inr}
use Rattle.std.specs.Prelude.{IsPermutation}
use Rattle.std.proofs.lemmas.List.{drop_more, take_more, map-append, length_push}
use Rattle.std.proofs.lemmas.List.Sums.{sum_by_push}
use Rattle.std.proofs.lemmas.List.Elements.{All-push, All-set, All-get_or, All-more, All-nil, All-cons, All-head}
use Rattle.std.proofs.lemmas.List.Elements.{All-tail, All-append}
use Rattle.std.proofs.lemmas.List.Sorted.{IsPermutation-trans, IsPermutation-sym, IsPermutation-append_left}
use Rattle.std.proofs.lemmas.List.Sorted.{IsPermutation-append_right, IsPermutation-append_comm}
use Rattle.host_rounds.specs.Hosts.{Live}
use Rattle.host_rounds.specs.Deliveries.{Arrival}
use Rattle.local_host.specs.declared.arrival.Arrival as code
use Rattle.local_host.specs.declared.lanes.Handed.{Handed}
use Rattle.local_host.specs.declared.lanes.Job.{Job}
use Rattle.local_host.specs.declared.lanes.Lane.{Lane}
use Rattle.local_host.specs.declared.attempts.Attempt.{Attempt}
use Rattle.local_host.specs.declared.attempts.Trial.{Trial}
use Rattle.std.specs.Global.{Vec}
use Rattle.local_host.specs.Arriving.{arrival_in}
use Rattle.local_host.specs.Index.{passes_at}
use Rattle.local_host.specs.Lanes.{arrival_of}
use Rattle.local_host.specs.Handing.{place_in, joined, frames_of, frames_by, jobs_of, jobs_in, left_in, jobs_at}
use Rattle.local_host.specs.Handing.{IsJobOf, IsSteered, AreSentTo, AreHanded, by_core, is_in_index, HasMore}
use Rattle.local_host.specs.Handing.{AreLanes, IsOfOneCore, IsEmptyLane, IsLendingOut, put_jobs, strays_in}
use Rattle.local_host.specs.Handing.{trials_in}
use Rattle.local_host.proofs.LaneLists.{set_there, set_elsewhere, length_set, tally, count_cons}
use Rattle.local_host.proofs.LaneLists.{perm_by, joined_push, joined_more}
use Rattle.local_host.proofs.OwnCores.{steered_last, jobs_still, job_still, even_more}

-- ----- one frame
-- it is left
pub left_one : {old now : List Live} {jobs : List Job} {left : List Handed} {cores : List ℕ} {frames : List Arrival}
    (core : ℕ) (after : List Handed) (h : Handed) → after ≡ left ++ h ∷ [] → AreHanded old now jobs left cores frames
    → AreHanded old now jobs after (cores ++ core ∷ []) (frames ++ arrival_of h ∷ [])
left_one {old} {now} {jobs} {left} {cores} {frames} core after h made is = record {
  even = even_more cores frames core (arrival_of h) is.even;
  len = is.len;
  apart = is.apart;
  away = is.away;
  own = is.own;
  sent = jobs_still jobs core (arrival_of h) is.sent;
  once = is.once;
  shared = subst (λ (xs : List Arrival). IsPermutation xs (frames ++ arrival_of h ∷ [])) (sym grown)
      (IsPermutation-append_left (arrival_of h ∷ []) (frames_by jobs ++ map arrival_of left) frames is.shared);
} where
  grown : frames_by jobs ++ map arrival_of after ≡ (frames_by jobs ++ map arrival_of left) ++ arrival_of h ∷ []
  grown = ap (λ (hs : List Handed). frames_by jobs ++ map arrival_of hs) made
      ∙ (ap (λ (xs : List Arrival). frames_by jobs ++ xs) (map-append arrival_of left (h ∷ []))
      ∙ sym (append_assoc (frames_by jobs) (map arrival_of left) (arrival_of h ∷ [])))

-- more among the frames of the jobs
shared_more : (fs gs : List Arrival) (ls frames : List Arrival) (x : Arrival) → IsPermutation gs (fs ++ x ∷ [])
    → IsPermutation (fs ++ ls) frames → IsPermutation (gs ++ ls) (frames ++ x ∷ [])
shared_more fs gs ls frames x more is =
    IsPermutation-trans (gs ++ ls) ((fs ++ x ∷ []) ++ ls) (frames ++ x ∷ [])
    (IsPermutation-append_left ls gs (fs ++ x ∷ []) more)
    (IsPermutation-trans ((fs ++ x ∷ []) ++ ls) ((fs ++ ls) ++ x ∷ []) (frames ++ x ∷ [])
    (subst (λ (xs : List Arrival). IsPermutation xs ((fs ++ ls) ++ x ∷ [])) (sym (append_assoc fs (x ∷ []) ls))
    (subst (IsPermutation (fs ++ (x ∷ [] ++ ls))) (sym (append_assoc fs ls (x ∷ [])))
    (IsPermutation-append_right fs (x ∷ [] ++ ls) (ls ++ x ∷ []) (IsPermutation-append_comm (x ∷ []) ls))))
    (IsPermutation-append_left (x ∷ []) (fs ++ ls) frames is))

-- it goes to a job
count_set : (q : ℕ) (jobs : List Job) (k : ℕ) (j d : Job) → j.place ≡ (get_or jobs k d).place → k < length jobs
    → jobs_at q (set jobs k j) ≡ jobs_at q jobs
count_set q [] k j d same low = refl
count_set q (i ∷ is) zero j d same low =
    count_cons (λ (k : Job). k.place == q) j is ∙ (ap (λ (n : ℕ). tally (n == q) + jobs_at q is) same
    ∙ sym (count_cons (λ (k : Job). k.place == q) i is))
count_set q (i ∷ is) (suc k) j d same low =
    count_cons (λ (k : Job). k.place == q) i (set is k j)
    ∙ (ap (λ (n : ℕ). tally (i.place == q) + n) (count_set q is k j d same (omega (arith, low)))
    ∙ sym (count_cons (λ (k : Job). k.place == q) i is))

frames_more : (h : Handed) (before after : Job) → HasMore h before after
    → frames_of after ≡ frames_of before ++ arrival_of h ∷ []
frames_more h before after more = ap (map arrival_of) more.frames ∙ map-append arrival_of before.frames.items (h ∷ [])

own_more : (old : List Live) (h : Handed) (before after : Job) → HasMore h before after
    → place_in old (arrival_of h).packet ≡ Some before.place → IsJobOf old before → IsJobOf old after
own_more old h before after more led is = record {
  low = subst (λ (n : ℕ). n < 16) (sym more.core) is.low;
  here = ap (slice_get old) more.place ∙ (is.here ∙ ap (λ (l : Live). Some l) (sym more.flow));
  led = subst (All (λ (g : Handed). place_in old (arrival_of g).packet ≡ Some after.place)) (sym more.frames)
      (subst (λ (n : ℕ). All (λ (g : Handed). place_in old (arrival_of g).packet ≡ Some n)
      (before.frames.items ++ h ∷ [])) (sym more.place)
      (All-push (λ (g : Handed). place_in old (arrival_of g).packet ≡ Some before.place) before.frames.items h is.led
      led));
}

abbrev IsSentTo : (cores : List ℕ) (frames : List Arrival) (core : ℕ) → Handed → Type 0
IsSentTo cores frames core g = IsSteered cores frames (by_core core (arrival_of g))

sent_more : {cores : List ℕ} {frames : List Arrival} (h : Handed) (before after : Job) → HasMore h before after
    → length cores ≡ length frames → AreSentTo cores frames before
    → AreSentTo (cores ++ before.core ∷ []) (frames ++ arrival_of h ∷ []) after
sent_more {cores} {frames} h before after more even sent =
    subst (All (IsSentTo (cores ++ before.core ∷ []) (frames ++ arrival_of h ∷ []) after.core)) (sym more.frames)
    (subst (λ (n : ℕ). All (IsSentTo (cores ++ before.core ∷ []) (frames ++ arrival_of h ∷ []) n)
    (before.frames.items ++ h ∷ [])) (sym more.core)
    (All-push (IsSentTo (cores ++ before.core ∷ []) (frames ++ arrival_of h ∷ []) before.core) before.frames.items h
    (job_still before before.core (arrival_of h) sent)
    (steered_last cores frames before.core (arrival_of h) even)))

pub added_one : {old now : List Live} {jobs : List Job} {left : List Handed} {cores : List ℕ} {frames : List Arrival}
    (core : ℕ) (h : Handed) (k : ℕ) (was job : Job) → k < length jobs → was ≡ get_or jobs k was → HasMore h was job
    → was.core ≡ core → place_in old (arrival_of h).packet ≡ Some was.place → AreHanded old now jobs left cores frames
    → AreHanded old now (set jobs k job) left (cores ++ core ∷ []) (frames ++ arrival_of h ∷ [])
added_one {old} {now} {jobs} {left} {cores} {frames} core h k was job low read more here led is = record {
  even = even_more cores frames core (arrival_of h) is.even;
  len = is.len;
  apart = λ q none. is.apart q (sym (same q) ∙ none);
  away = λ q l there indexed. same q ∙ is.away q l there indexed;
  own = All-set (IsJobOf old) jobs k job (own_more old h was job more led mine) is.own;
  sent = All-set (AreSentTo (cores ++ core ∷ []) (frames ++ arrival_of h ∷ [])) jobs k job
      (subst (λ (n : ℕ). AreSentTo (cores ++ n ∷ []) (frames ++ arrival_of h ∷ []) job) here
      (sent_more h was job more is.even to_it))
      (jobs_still jobs core (arrival_of h) is.sent);
  once = λ q. subst (λ (n : ℕ). n ≤ 1) (sym (same q)) (is.once q);
  shared = shared_more (frames_by jobs) (frames_by (set jobs k job)) (map arrival_of left) frames (arrival_of h)
      (joined_more frames_of jobs k job was (arrival_of h ∷ []) low
      (perm_by (frames_of job) (frames_of (get_or jobs k was) ++ arrival_of h ∷ [])
      (frames_more h was job more ∙ ap (λ (j : Job). frames_of j ++ arrival_of h ∷ []) read)))
      is.shared;
} where
  same : (q : ℕ) → jobs_at q (set jobs k job) ≡ jobs_at q jobs
  same q = count_set q jobs k job was (more.place ∙ ap (λ (j : Job). j.place) read) low

  mine : IsJobOf old was
  mine = subst (IsJobOf old) (sym read) (All-get_or (IsJobOf old) jobs k was low is.own)

  to_it : AreSentTo cores frames was
  to_it = subst (AreSentTo cores frames) (sym read) (All-get_or (AreSentTo cores frames) jobs k was low is.sent)

-- it begins a job
pub passes_there : (flows : List Live) (p : ℕ) (d : Live) → passes_at is_in_index flows p ≡ true
    → (p < length flows) × (slice_get flows p ≡ Some (get_or flows p d)) × ((get_or flows p d).indexed ≡ true)
passes_there [] p d h = absurd (true≢false (sym h))
passes_there (l ∷ ls) zero d h = (omega arith, refl, h)
passes_there (l ∷ ls) (suc p) d h =
    let rest = passes_there ls p d h in
    let low : p < length ls = rest.0 in
    (omega (arith, low), rest.1, rest.2)

pub either : (b : Bool) → (b ≡ true) ⊎ (b ≡ false)
either true = inl refl
either false = inr refl

pub opened_one : {old now : List Live} {jobs : List Job} {left : List Handed} {cores : List ℕ} {frames : List Arrival}
    (h : Handed) (place : ℕ) (was stand : Live) (job : Job) → passes_at is_in_index now place ≡ true
    → was ≡ get_or now place was → stand.indexed ≡ false → job.core < 16 → job.place ≡ place → job.flow ≡ was
    → job.frames.items ≡ h ∷ [] → place_in old (arrival_of h).packet ≡ Some place
    → AreHanded old now jobs left cores frames
    → AreHanded old (set now place stand) (jobs ++ job ∷ []) left (cores ++ job.core ∷ [])
    (frames ++ arrival_of h ∷ [])
opened_one {old} {now} {jobs} {left} {cores} {frames} h place was stand job passes read standing low at flow one led
    is =
    record {
      even = even_more cores frames job.core (arrival_of h) is.even;
      len = length_set now place stand ∙ is.len;
      apart = λ q none. set_elsewhere now place q stand (other q none) ∙ is.apart q (before q none);
      away = λ q l there indexed. by_place q l there indexed (either (place == q));
      own = All-push (IsJobOf old) jobs job is.own mine;
      sent = All-push (AreSentTo (cores ++ job.core ∷ []) (frames ++ arrival_of h ∷ [])) jobs job
          (jobs_still jobs job.core (arrival_of h) is.sent)
          (subst (All (IsSentTo (cores ++ job.core ∷ []) (frames ++ arrival_of h ∷ []) job.core)) (sym one)
          (λ k d below. sent_one k d below));
      once = λ q. few q (either (place == q));
      shared = shared_more (frames_by jobs) (frames_by (jobs ++ job ∷ [])) (map arrival_of left) frames (arrival_of h)
          (perm_by (frames_by (jobs ++ job ∷ [])) (frames_by jobs ++ arrival_of h ∷ [])
          (joined_push frames_of jobs job
          ∙ ap (λ (hs : List Handed). frames_by jobs ++ map arrival_of hs) one))
          is.shared;
    } where
      there_now : slice_get now place ≡ Some was
      there_now = (passes_there now place was passes).1 ∙ ap (λ (l : Live). Some l) (sym read)

      new : jobs_at place jobs ≡ 0
      new = is.away place (get_or now place was) (passes_there now place was passes).1
          (passes_there now place was passes).2

      counted : (q : ℕ) → jobs_at q (jobs ++ job ∷ []) ≡ jobs_at q jobs + tally (place == q)
      counted q = sum_by_push (λ (j : Job). tally (j.place == q)) jobs job
          ∙ ap (λ (n : ℕ). jobs_at q jobs + tally (n == q)) at

      before : (q : ℕ) → jobs_at q (jobs ++ job ∷ []) ≡ 0 → jobs_at q jobs ≡ 0
      before q none = omega (arith, counted q, none)

      other : (q : ℕ) → jobs_at q (jobs ++ job ∷ []) ≡ 0 → place ≡ q → ⊥
      other q none e =
          let is_it : (place == q) ≡ true = grind (arith, tests, e) in
          let one_more : tally (place == q) ≡ 1 = ap tally is_it in
          absurd (omega (arith, counted q, none, one_more))

      by_place : (q : ℕ) (l : Live) → slice_get (set now place stand) q ≡ Some l → l.indexed ≡ true
          → ((place == q) ≡ true) ⊎ ((place == q) ≡ false) → jobs_at q (jobs ++ job ∷ []) ≡ 0
      by_place q l there indexed (inl e) =
          let same : place ≡ q = grind (arith, tests, e) in
          let found : slice_get (set now place stand) q ≡ Some stand =
          subst (λ (n : ℕ). slice_get (set now place stand) n ≡ Some stand) same
          (set_there now place stand (passes_there now place was passes).0) in
          absurd (true≢false (sym indexed ∙ (ap is_in_index (some_is l stand (sym there ∙ found)) ∙ standing))) where
            some_is : (a b : Live) → ◌≡◌ {A = Option Live} (Some a) (Some b) → a ≡ b
            some_is a b e = cc (e)
      by_place q l there indexed (inr e) =
          let apart : place ≡ q → ⊥ = λ same. true≢false (sym (grind (arith, tests, same)) ∙ e) in
          let none : jobs_at q jobs ≡ 0 = is.away q l (sym (set_elsewhere now place q stand apart) ∙ there) indexed in
          let no_more : tally (place == q) ≡ 0 = ap tally e in
          omega (arith, counted q, none, no_more)

      few : (q : ℕ) → ((place == q) ≡ true) ⊎ ((place == q) ≡ false) → jobs_at q (jobs ++ job ∷ []) ≤ 1
      few q (inl e) =
          let same : place ≡ q = grind (arith, tests, e) in
          let none : jobs_at q jobs ≡ 0 = subst (λ (n : ℕ). jobs_at n jobs ≡ 0) same new in
          let one_more : tally (place == q) ≡ 1 = ap tally e in
          omega (arith, counted q, none, one_more)
      few q (inr e) =
          let no_more : tally (place == q) ≡ 0 = ap tally e in
          let once : jobs_at q jobs ≤ 1 = is.once q in
          omega (arith, counted q, no_more, once)

      sent_one : (k : ℕ) (d : Handed) → k < 1
          → IsSentTo (cores ++ job.core ∷ []) (frames ++ arrival_of h ∷ []) job.core (get_or (h ∷ []) k d)
      sent_one zero d below = steered_last cores frames job.core (arrival_of h) is.even
      sent_one (suc k) d below = absurd (omega (arith, below))

      mine : IsJobOf old job
      mine = record {
        low = low;
        here = ap (slice_get old) at ∙ (sym (is.apart place new) ∙ (there_now
            ∙ ap (λ (l : Live). Some l) (sym flow)));
        led = subst (All (λ (g : Handed). place_in old (arrival_of g).packet ≡ Some job.place)) (sym one)
            (λ k d below. by_one k d below);
      } where
        by_one : (k : ℕ) (d : Handed) → k < 1
            → place_in old (arrival_of (get_or (h ∷ []) k d)).packet ≡ Some job.place
        by_one zero d below = led ∙ ap (λ (n : ℕ). Some n) (sym at)
        by_one (suc k) d below = absurd (omega (arith, below))

-- ----- all frames
mapped_get : {A B : Type 0} (g : A → B) (xs : List A) (k : ℕ) (d : A) (e : B) → k < length xs
    → get_or (map g xs) k e ≡ g (get_or xs k d)
mapped_get g [] k d e low = absurd (omega (arith, low))
mapped_get g (x ∷ xs) zero d e low = refl
mapped_get g (x ∷ xs) (suc k) d e low = mapped_get g xs k d e (omega (arith, low))

pub place_told : (old : List Live) (places : List (Option ℕ)) (xs : List code.Arrival) (k : ℕ) (d : code.Arrival)
    (e : Option ℕ) → k < length xs → places ≡ map (λ (x : code.Arrival). place_in old (arrival_in x).packet) xs
    → place_in old (arrival_in (get_or xs k d)).packet ≡ get_or places k e
place_told old places xs k d e low told =
    sym (ap (λ (ps : List (Option ℕ)). get_or ps k e) told
    ∙ mapped_get (λ (x : code.Arrival). place_in old (arrival_in x).packet) xs k d e low)

pub handed_more : {old now : List Live} {jobs : List Job} {left : List Handed} (cores : List ℕ)
    (xs : List code.Arrival) (k : ℕ) (n : ℕ) (d : code.Arrival) → length cores ≡ length xs → k < length xs
    → AreHanded old now jobs left (take k cores ++ get_or cores k n ∷ [])
    (map arrival_in (take k xs) ++ arrival_in (get_or xs k d) ∷ [])
    → AreHanded old now jobs left (take (k + 1) cores) (map arrival_in (take (k + 1) xs))
handed_more {old} {now} {jobs} {left} cores xs k n d even low is =
    subst (AreHanded old now jobs left (take (k + 1) cores))
    (sym (ap (map arrival_in) (take_more xs k d low) ∙ map-append arrival_in (take k xs) (get_or xs k d ∷ [])))
    (subst (λ (cs : List ℕ). AreHanded old now jobs left cs
    (map arrival_in (take k xs) ++ arrival_in (get_or xs k d) ∷ []))
    (sym (take_more cores k n (subst (λ (len : ℕ). k < len) (sym even) low))) is)

-- ----- lanes
joined_both : {A B : Type 0} (g : A → List B) (xs ys : List A) → joined g (xs ++ ys) ≡ joined g xs ++ joined g ys
joined_both g [] ys = refl
joined_both {A} {B} g (x ∷ xs) ys = ap (λ (zs : List B). g x ++ zs) (joined_both g xs ys)
    ∙ sym (append_assoc (g x) (joined g xs) (joined g ys))

abbrev lane_frames : Lane → List Arrival
lane_frames l = frames_by (jobs_of l)

lanes_frames : (lanes : List Lane) → frames_by (jobs_in lanes) ≡ joined lane_frames lanes
lanes_frames [] = refl
lanes_frames (l ∷ ls) = joined_both frames_of (jobs_of l) (jobs_in ls)
    ∙ ap (λ (xs : List Arrival). lane_frames l ++ xs) (lanes_frames ls)

-- ----- lanes that get more
abbrev strays_of : Lane → List Handed
strays_of l = l.strays.items

abbrev trials_of : Lane → List Trial
trials_of l = l.trials.items

joined_still : {A B : Type 0} (g : A → List B) (xs : List A) (k : ℕ) (y d : A) → g y ≡ g (get_or xs k d)
    → joined g (set xs k y) ≡ joined g xs
joined_still g [] k y d same = refl
joined_still {A} {B} g (x ∷ xs) zero y d same = ap (λ (zs : List B). zs ++ joined g xs) same
joined_still {A} {B} g (x ∷ xs) (suc k) y d same = ap (λ (zs : List B). g x ++ zs) (joined_still g xs k y d same)

joined_last : {A B : Type 0} (g : A → List B) (xs : List A) (k : ℕ) (y d : A) (zs : List B) → k + 1 ≡ length xs
    → g y ≡ g (get_or xs k d) ++ zs → joined g (set xs k y) ≡ joined g xs ++ zs
joined_last g [] k y d zs last more = absurd (omega (arith, last))
joined_last {A} {B} g (x ∷ []) zero y d zs last more =
    ap (λ (ws : List B). ws ++ []) more
    ∙ (append-nil (g x ++ zs) ∙ ap (λ (ws : List B). ws ++ zs) (sym (append-nil (g x))))
joined_last g (x ∷ w ∷ ws) zero y d zs last more = absurd (omega (arith, last))
joined_last {A} {B} g (x ∷ xs) (suc k) y d zs last more =
    ap (λ (ws : List B). g x ++ ws) (joined_last g xs k y d zs (omega (arith, last)) more)
    ∙ sym (append_assoc (g x) (joined g xs) zs)

joined_none : {A B : Type 0} (g : A → List B) (xs : List A) (y : A) → g y ≡ [] → joined g (xs ++ y ∷ []) ≡ joined g xs
joined_none {A} {B} g xs y none =
    joined_push g xs y ∙ (ap (λ (zs : List B). joined g xs ++ zs) none ∙ append-nil (joined g xs))

-- one of them has more
lane_grown : {jobs : List Job} {strays : List Handed} {trials : List Trial} {lanes : List Lane} (i : ℕ)
    (was lane : Lane) (js : List Job) (hs : List Handed) (ts : List Trial) → i < length lanes
    → was ≡ get_or lanes i was → lane.core ≡ was.core → lane.left.items ≡ was.left.items
    → lane.jobs.items ≡ was.jobs.items ++ js → lane.strays.items ≡ was.strays.items ++ hs
    → trials_in (set lanes i lane) ≡ trials_in lanes ++ ts → All (λ (j : Job). j.core ≡ was.core) js
    → AreLanes jobs strays trials lanes → AreLanes (jobs ++ js) (strays ++ hs) (trials ++ ts) (set lanes i lane)
lane_grown {jobs} {strays} {trials} {lanes} i was lane js hs ts low read core left more passed grown mine is = record {
  moved = IsPermutation-trans (jobs ++ js) (jobs_in lanes ++ js) (jobs_in after)
      (IsPermutation-append_left js jobs (jobs_in lanes) is.moved)
      (IsPermutation-sym (jobs_in after) (jobs_in lanes ++ js)
      (joined_more jobs_of lanes i lane was js low
      (perm_by (jobs_of lane) (jobs_of (get_or lanes i was) ++ js)
      (more ∙ ap (λ (l : Lane). jobs_of l ++ js) read))));
  shuffled = subst (λ (xs : List Arrival). IsPermutation xs (frames_by (jobs_in after)))
      (sym (joined_both frames_of jobs js))
      (IsPermutation-trans (frames_by jobs ++ frames_by js) (frames_by (jobs_in lanes) ++ frames_by js)
      (frames_by (jobs_in after))
      (IsPermutation-append_left (frames_by js) (frames_by jobs) (frames_by (jobs_in lanes)) is.shuffled)
      (IsPermutation-sym (frames_by (jobs_in after)) (frames_by (jobs_in lanes) ++ frames_by js) seen));
  passed = IsPermutation-trans (strays ++ hs) (strays_in lanes ++ hs) (strays_in after)
      (IsPermutation-append_left hs strays (strays_in lanes) is.passed)
      (IsPermutation-sym (strays_in after) (strays_in lanes ++ hs)
      (joined_more strays_of lanes i lane was hs low
      (perm_by (strays_of lane) (strays_of (get_or lanes i was) ++ hs)
      (passed ∙ ap (λ (l : Lane). strays_of l ++ hs) read))));
  tried = grown ∙ ap (λ (xs : List Trial). xs ++ ts) is.tried;
  low = All-set (λ (l : Lane). l.core < 16) lanes i lane
      (subst (λ (n : ℕ). n < 16) (sym (core ∙ ap (λ (l : Lane). l.core) read))
      (All-get_or (λ (l : Lane). l.core < 16) lanes i was low is.low)) is.low;
  own = All-set IsOfOneCore lanes i lane own is.own;
  fresh = All-set (λ (l : Lane). l.left.items ≡ []) lanes i lane
      (left ∙ (ap (λ (l : Lane). l.left.items) read
      ∙ All-get_or (λ (l : Lane). l.left.items ≡ []) lanes i was low is.fresh)) is.fresh;
} where
  after : List Lane
  after = set lanes i lane

  seen : IsPermutation (frames_by (jobs_in after)) (frames_by (jobs_in lanes) ++ frames_by js)
  seen =
      subst (λ (xs : List Arrival). IsPermutation xs (frames_by (jobs_in lanes) ++ frames_by js))
      (sym (lanes_frames after))
      (subst (λ (xs : List Arrival). IsPermutation (joined lane_frames after) (xs ++ frames_by js))
      (sym (lanes_frames lanes))
      (joined_more lane_frames lanes i lane was (frames_by js) low
      (perm_by (lane_frames lane) (lane_frames (get_or lanes i was) ++ frames_by js)
      (ap frames_by more ∙ (joined_both frames_of was.jobs.items js
      ∙ ap (λ (l : Lane). lane_frames l ++ frames_by js) read)))))

  had : All (λ (j : Job). j.core ≡ was.core) was.jobs.items
  had = subst IsOfOneCore (sym read) (All-get_or IsOfOneCore lanes i was low is.own)

  own : IsOfOneCore lane
  own =
      subst (All (λ (j : Job). j.core ≡ lane.core)) (sym more)
      (subst (λ (n : ℕ). All (λ (j : Job). j.core ≡ n) (was.jobs.items ++ js)) (sym core)
      (All-append (λ (j : Job). j.core ≡ was.core) was.jobs.items js had mine))

-- the same, where there is more of one kind alone
trimmed : {jobs : List Job} {strays : List Handed} {trials : List Trial} {lanes : List Lane}
    → AreLanes (jobs ++ []) (strays ++ []) (trials ++ []) lanes → AreLanes jobs strays trials lanes
trimmed {jobs} {strays} {trials} {lanes} is =
    subst (λ (js : List Job). AreLanes js strays trials lanes) (append-nil jobs)
    (subst (λ (hs : List Handed). AreLanes (jobs ++ []) hs trials lanes) (append-nil strays)
    (subst (λ (ts : List Trial). AreLanes (jobs ++ []) (strays ++ []) ts lanes) (append-nil trials) is))

no_jobs : (core : ℕ) → All (λ (j : Job). j.core ≡ core) []
no_jobs core = All-nil (λ (j : Job). j.core ≡ core)

none_more : {X : Type 0} (after before : List X) → after ≡ before → after ≡ before ++ []
none_more after before same = same ∙ sym (append-nil before)

still_tried : (lanes : List Lane) (i : ℕ) (was lane : Lane) → was ≡ get_or lanes i was
    → lane.trials.items ≡ was.trials.items → trials_in (set lanes i lane) ≡ trials_in lanes ++ []
still_tried lanes i was lane read same =
    none_more (trials_in (set lanes i lane)) (trials_in lanes)
    (joined_still trials_of lanes i lane was (same ∙ ap trials_of read))

pub job_given : {jobs : List Job} {strays : List Handed} {trials : List Trial} {lanes : List Lane} (job : Job) (i : ℕ)
    (was lane : Lane) → i < length lanes → was ≡ get_or lanes i was → was.core ≡ job.core → lane.core ≡ was.core
    → lane.left.items ≡ was.left.items → lane.strays.items ≡ was.strays.items → lane.trials.items ≡ was.trials.items
    → lane.jobs.items ≡ was.jobs.items ++ job ∷ [] → AreLanes jobs strays trials lanes
    → AreLanes (jobs ++ job ∷ []) strays trials (set lanes i lane)
job_given {jobs} {strays} {trials} {lanes} job i was lane low read mine core left passed tried more is =
    subst (λ (hs : List Handed). AreLanes (jobs ++ job ∷ []) hs trials (set lanes i lane)) (append-nil strays)
    (subst (λ (ts : List Trial). AreLanes (jobs ++ job ∷ []) (strays ++ []) ts (set lanes i lane)) (append-nil trials)
    (lane_grown i was lane (job ∷ []) [] [] low read core left more
    (none_more lane.strays.items was.strays.items passed) (still_tried lanes i was lane read tried)
    (All-cons (λ (j : Job). j.core ≡ was.core) job [] (sym mine) (no_jobs was.core)) is))

pub stray_given : {jobs : List Job} {strays : List Handed} {trials : List Trial} {lanes : List Lane} (h : Handed)
    (i : ℕ) (was lane : Lane) → i < length lanes → was ≡ get_or lanes i was → lane.core ≡ was.core
    → lane.left.items ≡ was.left.items → lane.jobs.items ≡ was.jobs.items → lane.trials.items ≡ was.trials.items
    → lane.strays.items ≡ was.strays.items ++ h ∷ [] → AreLanes jobs strays trials lanes
    → AreLanes jobs (strays ++ h ∷ []) trials (set lanes i lane)
stray_given {jobs} {strays} {trials} {lanes} h i was lane low read core left worked tried more is =
    subst (λ (js : List Job). AreLanes js (strays ++ h ∷ []) trials (set lanes i lane)) (append-nil jobs)
    (subst (λ (ts : List Trial). AreLanes (jobs ++ []) (strays ++ h ∷ []) ts (set lanes i lane)) (append-nil trials)
    (lane_grown i was lane [] (h ∷ []) [] low read core left (none_more lane.jobs.items was.jobs.items worked) more
    (still_tried lanes i was lane read tried) (no_jobs was.core) is))

pub stray_more : {jobs : List Job} {lanes : List Lane} (all : List Handed) (k : ℕ) (d : Handed) (i : ℕ)
    (was lane : Lane) → k < length all → i < length lanes → was ≡ get_or lanes i was → lane.core ≡ was.core
    → lane.left.items ≡ was.left.items → lane.jobs.items ≡ was.jobs.items → lane.trials.items ≡ was.trials.items
    → lane.strays.items ≡ was.strays.items ++ get_or all k d ∷ [] → AreLanes jobs (take k all) [] lanes
    → AreLanes jobs (take (k + 1) all) [] (set lanes i lane)
stray_more {jobs} {lanes} all k d i was lane here low read core left worked tried more is =
    subst (λ (hs : List Handed). AreLanes jobs hs [] (set lanes i lane)) (sym (take_more all k d here))
    (stray_given (get_or all k d) i was lane low read core left worked tried more is)

pub trial_given : {jobs : List Job} {strays : List Handed} {trials : List Trial} {lanes : List Lane} (x : Trial) (i : ℕ)
    (was lane : Lane) → i + 1 ≡ length lanes → was ≡ get_or lanes i was → lane.core ≡ was.core
    → lane.left.items ≡ was.left.items → lane.jobs.items ≡ was.jobs.items → lane.strays.items ≡ was.strays.items
    → lane.trials.items ≡ was.trials.items ++ x ∷ [] → AreLanes jobs strays trials lanes
    → AreLanes jobs strays (trials ++ x ∷ []) (set lanes i lane)
trial_given {jobs} {strays} {trials} {lanes} x i was lane last read core left worked passed more is =
    let low : i < length lanes = omega (arith, last) in
    subst (λ (js : List Job). AreLanes js strays (trials ++ x ∷ []) (set lanes i lane)) (append-nil jobs)
    (subst (λ (hs : List Handed). AreLanes (jobs ++ []) hs (trials ++ x ∷ []) (set lanes i lane)) (append-nil strays)
    (lane_grown i was lane [] [] (x ∷ []) low read core left (none_more lane.jobs.items was.jobs.items worked)
    (none_more lane.strays.items was.strays.items passed)
    (joined_last trials_of lanes i lane was (x ∷ []) last (more ∙ ap (λ (l : Lane). trials_of l ++ x ∷ []) read))
    (no_jobs was.core) is))

-- one lane more, which has nothing yet
pub lane_added : {jobs : List Job} {strays : List Handed} {trials : List Trial} {lanes : List Lane} (core : ℕ)
    (lane : Lane) (after : List Lane) → after ≡ lanes ++ lane ∷ [] → core < 16 → IsEmptyLane core lane
    → AreLanes jobs strays trials lanes → AreLanes jobs strays trials after
lane_added {jobs} {strays} {trials} {lanes} core lane after made low empty is =
    subst (AreLanes jobs strays trials) (sym made)
    (record {
      moved = subst (IsPermutation jobs) (sym same_jobs) is.moved;
      shuffled = subst (λ (js : List Job). IsPermutation (frames_by jobs) (frames_by js)) (sym same_jobs) is.shuffled;
      passed = subst (IsPermutation strays) (sym (joined_none strays_of lanes lane empty.strays)) is.passed;
      tried = joined_none trials_of lanes lane empty.trials ∙ is.tried;
      low = All-push (λ (l : Lane). l.core < 16) lanes lane is.low (subst (λ (n : ℕ). n < 16) (sym empty.core) low);
      own = All-push IsOfOneCore lanes lane is.own
          (subst (All (λ (j : Job). j.core ≡ lane.core)) (sym empty.jobs) (no_jobs lane.core));
      fresh = All-push (λ (l : Lane). l.left.items ≡ []) lanes lane is.fresh empty.left;
    }) where
      same_jobs : jobs_in (lanes ++ lane ∷ []) ≡ jobs_in lanes
      same_jobs = joined_none jobs_of lanes lane empty.jobs

pub no_lanes : AreLanes [] [] [] []
no_lanes = record {
  moved = perm_by [] [] refl;
  shuffled = perm_by [] [] refl;
  passed = perm_by [] [] refl;
  tried = refl;
  low = All-nil (λ (l : Lane). l.core < 16);
  own = All-nil IsOfOneCore;
  fresh = All-nil (λ (l : Lane). l.left.items ≡ []);
}

-- what a push leaves at the end
pub last_of : {X : Type 0} (xs after : List X) (x d : X) (i : ℕ) → after ≡ xs ++ x ∷ [] → i + 1 ≡ length after
    → get_or after i d ≡ x
last_of {X} xs after x d i made last =
    ap (λ (zs : List X). get_or zs i d) made ∙ at_end xs i (omega (arith, last, ap length made, length_push xs x)) where
      at_end : (zs : List X) (k : ℕ) → k ≡ length zs → get_or (zs ++ x ∷ []) k d ≡ x
      at_end [] zero same = refl
      at_end [] (suc k) same = absurd (omega (arith, same))
      at_end (z ∷ zs) zero same = absurd (omega (arith, same))
      at_end (z ∷ zs) (suc k) same = at_end zs k (omega (arith, same))

-- lanes that got jobs, then strays, and then trials
pub all_lent : {now lent : List Live} {given : List (Option Attempt)} {first second lanes : List Lane}
    (jobs : List Job) (left : List Handed) {js : List Job} {hs : List Handed} → js ≡ jobs → hs ≡ left
    → AreLanes js [] [] first
    → ((ks : List Job) → AreLanes ks [] [] first → AreLanes ks hs [] second)
    → ((ks : List Job) (gs : List Handed) → AreLanes ks gs [] second → IsLendingOut now lent given ks gs lanes)
    → IsLendingOut now lent given jobs left lanes
all_lent {now} {lent} {given} {first} {second} {lanes} jobs left {js} {hs} same_jobs same_left are strays trials =
    trials jobs left
    (subst (λ (gs : List Handed). AreLanes jobs gs [] second) same_left
    (strays jobs (subst (λ (ks : List Job). AreLanes ks [] [] first) same_jobs are)))

-- the trials of all lanes
pub in_lanes : (P : Trial → Type 0) (lanes : List Lane) → All P (trials_in lanes)
    → All (λ (l : Lane). All P l.trials.items) lanes
in_lanes P [] all = All-nil (λ (l : Lane). All P l.trials.items)
in_lanes P (l ∷ ls) all =
    All-cons (λ (m : Lane). All P m.trials.items) l ls (front l.trials.items (trials_in ls) all)
    (in_lanes P ls (back l.trials.items (trials_in ls) all)) where
      front : (xs ys : List Trial) → All P (xs ++ ys) → All P xs
      front [] ys each = All-nil P
      front (x ∷ xs) ys each =
          All-cons P x xs (All-head P x (xs ++ ys) each) (front xs ys (All-tail P x (xs ++ ys) each))

      back : (xs ys : List Trial) → All P (xs ++ ys) → All P ys
      back [] ys each = each
      back (x ∷ xs) ys each = back xs ys (All-tail P x (xs ++ ys) each)

-- ----- flows that are put back
put_both : (js ks : List Job) (flows : List Live) → put_jobs (js ++ ks) flows ≡ put_jobs ks (put_jobs js flows)
put_both [] ks flows = refl
put_both (j ∷ js) ks flows = put_both js ks (set flows j.place j.flow)

rest_is : {X : Type 0} (xs ys : List X) (k : ℕ) → drop k xs ≡ drop k ys → drop (k + 1) xs ≡ drop (k + 1) ys
rest_is {X} xs ys k same = one_more xs k ∙ (ap (drop 1) same ∙ sym (one_more ys k)) where
  one_more : (zs : List X) (n : ℕ) → drop (n + 1) zs ≡ drop 1 (drop n zs)
  one_more [] zero = refl
  one_more [] (suc n) = let next : suc n + 1 ≡ suc (n + 1) = omega arith in rw next refl
  one_more (z ∷ zs) zero = refl
  one_more (z ∷ zs) (suc n) = let next : suc n + 1 ≡ suc (n + 1) = omega arith in rw next (one_more zs n)

set_behind : {X : Type 0} (xs : List X) (k : ℕ) (x : X) → drop (k + 1) (set xs k x) ≡ drop (k + 1) xs
set_behind [] k x = refl
set_behind (y ∷ ys) zero x = refl
set_behind (y ∷ ys) (suc k) x = let next : suc k + 1 ≡ suc (k + 1) = omega arith in rw next (set_behind ys k x)

get_front : {X : Type 0} (xs : List X) (k : ℕ) (d : X) → get_or xs k d ≡ get_or (drop k xs) 0 d
get_front [] zero d = refl
get_front [] (suc k) d = refl
get_front (x ∷ xs) zero d = refl
get_front (x ∷ xs) (suc k) d = get_front xs k d

-- a lane that was put back keeps its trials
pub trials_kept : (old now : List Lane) (k : ℕ) (d lane : Lane) → lane.trials ≡ (get_or now k d).trials
    → trials_in now ≡ trials_in old → trials_in (set now k lane) ≡ trials_in old
trials_kept old now k d lane same are =
    joined_still trials_of now k lane d (ap (λ (ts : Vec Trial). ts.items) same) ∙ are

-- one lane more was put back
pub put_more : (old now : List Lane) (k : ℕ) (d lane : Lane) (flows next end : List Live) (left more all : List Handed)
    → k < length old → drop k now ≡ drop k old
    → next ≡ put_jobs (get_or now k d).jobs.items flows → more ≡ left ++ (get_or now k d).left.items
    → (get_or now k d).failed ≡ false
    → put_jobs (jobs_in (drop k old)) flows ≡ end → left ++ left_in (drop k old) ≡ all
    → All (λ (l : Lane). l.failed ≡ false) (take k old)
    → (drop (k + 1) (set now k lane) ≡ drop (k + 1) old) × (put_jobs (jobs_in (drop (k + 1) old)) next ≡ end)
    × (more ++ left_in (drop (k + 1) old) ≡ all) × All (λ (l : Lane). l.failed ≡ false) (take (k + 1) old)
put_more old now k d lane flows next end left more all low same put gathered done ends alls before =
    let l : Lane = get_or old k d in
    let here : get_or now k d ≡ l = get_front now k d ∙ (ap (λ (ls : List Lane). get_or ls 0 d) same
    ∙ sym (get_front old k d)) in
    let rest : List Lane = drop (k + 1) old in
    let split : drop k old ≡ l ∷ rest = drop_more old k d low in (
      set_behind now k lane ∙ rest_is now old k same,
      ap (put_jobs (jobs_in rest)) (put ∙ ap (λ (m : Lane). put_jobs m.jobs.items flows) here)
          ∙ (sym (put_both l.jobs.items (jobs_in rest) flows)
          ∙ (sym (ap (λ (ls : List Lane). put_jobs (jobs_in ls) flows) split) ∙ ends)),
      ap (λ (hs : List Handed). hs ++ left_in rest) (gathered ∙ ap (λ (m : Lane). left ++ m.left.items) here)
          ∙ (append_assoc left l.left.items (left_in rest)
          ∙ (sym (ap (λ (ls : List Lane). left ++ left_in ls) split) ∙ alls)),
      All-more (λ (m : Lane). m.failed ≡ false) old k d low before
          (subst (λ (m : Lane). m.failed ≡ false) here done),
    )
