-- Jobs that are worked one after the other, and what they leave of all flows.
use Rattle.std.proofs.Common.{◌≡◌, ℕ, zero, suc, ◌+◌, ◌<◌, ◌≤◌, ◌++◌, ◌==◌, List, [], ◌∷◌, length, get_or, set, map}
use Rattle.std.proofs.Common.{take, drop, fold, All, Bool, true, false, cond, Some, is_some, slice_get}
use Rattle.std.proofs.Common.{refl, sym, ap, subst, ◌∙◌, arith, tests, append_assoc, true≢false, ◌⊎◌, inl, inr}
use Rattle.std.specs.Prelude.{IsPermutation}
use Rattle.std.proofs.lemmas.List.{drop_more, map-append}
use Rattle.std.proofs.lemmas.List.Elements.{All-head, All-tail, All-map, All-append, All-nil, All-cons}
use Rattle.std.proofs.lemmas.List.Sorted.{IsPermutation-refl, IsPermutation-trans, IsPermutation-cons}
use Rattle.std.proofs.lemmas.List.Sorted.{IsPermutation-middle, IsPermutation-append, All-permutation}
use Rattle.std.proofs.lemmas.List.Sorted.{sum_by-IsPermutation, IsPermutation-sym, IsPermutation-map}
use Rattle.std.proofs.lemmas.List.Sorted.{IsPermutation-append_left, IsPermutation-append_right}
use Rattle.std.proofs.lemmas.List.Sorted.{IsPermutation-append_comm}
use Rattle.tas_model.specs.declared.entry.FrameId.{FrameId}
use Rattle.tas_model.specs.declared.entry.FourTuple.{FourTuple}
use Rattle.tas_model.specs.declared.entry.Caller.TheVariants.{Core}
use Rattle.host_rounds.specs.Hosts.{Live, is_indexed_as}
use Rattle.host_rounds.specs.Deliveries.{Packet, Damaged, Segment, Arrival, received}
use Rattle.host_rounds.proofs.Loops.{mapped_at}
use Rattle.core_rounds.specs.CoreTicks.{Taken, is_frame}
use Rattle.local_host.specs.declared.lanes.Handed.{Handed}
use Rattle.local_host.specs.declared.lanes.Job.{Job}
use Rattle.local_host.specs.Lanes.{worked_job, worked_flow, worked_frame, packet_taken, is_taken, taken_of, left_of}
use Rattle.local_host.specs.Lanes.{left_by, arrival_of, more_if, more_unless}
use Rattle.local_host.specs.Handing.{place_in, frames_of, frames_by, jobs_at, IsJobOf, AreHanded, AreDistinct}
use Rattle.local_host.specs.Handing.{IsSteered, AreSentTo}
use Rattle.local_host.specs.Handing.{put_jobs, by_core, order_by, taken_packet, flow_taken, TookFrames}
use Rattle.local_host.proofs.Places.{found_change, set_change}
use Rattle.local_host.proofs.LaneLists.{set_there, set_elsewhere, set_same, set_twice, length_set, there_below}
use Rattle.local_host.proofs.LaneLists.{there_or, all_same, position_kept, count_cons, none_is, same_filter}
use Rattle.local_host.proofs.LaneLists.{perm_by, crossed, tally}

-- what stands at the next place is as it was
next_is : {X : Type 0} (f : X → X) (old : List X) (k : ℕ) (d : X) → k < length old
    → get_or (map f (take k old) ++ drop k old) k d ≡ get_or old k d
next_is f [] k d low = absurd (omega (arith, low))
next_is f (x ∷ xs) zero d low = refl
next_is f (x ∷ xs) (suc k) d low = next_is f xs k d (omega (arith, low))

pub mapped_more : {X : Type 0} (f : X → X) (old now : List X) (k : ℕ) (d made : X) → k < length old
    → made ≡ f (get_or now k d) → now ≡ map f (take k old) ++ drop k old
    → set now k made ≡ map f (take (k + 1) old) ++ drop (k + 1) old
mapped_more {X} f old now k d made low by is =
    ap (λ (zs : List X). set zs k made) is
    ∙ (ap (set (map f (take k old) ++ drop k old) k)
    (by ∙ ap (λ (zs : List X). f (get_or zs k d)) is) ∙ mapped_at f old k d low)

pub left_more : (t : ℕ) (old now : List Job) (k : ℕ) (d : Job) (left after end : List Handed) → k < length old
    → after ≡ left ++ left_of (get_or now k d).core t (get_or now k d).frames.items (get_or now k d).flow
    → now ≡ map (worked_job t) (take k old) ++ drop k old → left ++ left_by t (drop k old) ≡ end
    → after ++ left_by t (drop (k + 1) old) ≡ end
left_more t old now k d left after end low by is before =
    let was : Job = get_or now k d in
    let here : was ≡ get_or old k d = ap (λ (zs : List Job). get_or zs k d) is
    ∙ next_is (worked_job t) old k d low in
    let rest : List Handed = left_by t (drop (k + 1) old) in
    ap (λ (hs : List Handed). hs ++ rest) by
    ∙ (append_assoc left (left_of was.core t was.frames.items was.flow) rest
    ∙ (ap (λ (hs : List Handed). left ++ hs)
    (ap (λ (j : Job). left_of j.core t j.frames.items j.flow ++ rest) here
    ∙ sym (ap (left_by t) (drop_more old k d low))) ∙ before))

-- ----- the frames of a job
-- each was taken or is left
step_shared : (b : Bool) (x : Arrival) (h : Handed) (ts : List Arrival) (ls : List Handed) (rest : List Arrival)
    → x ≡ arrival_of h → IsPermutation (ts ++ map arrival_of ls) rest
    → IsPermutation (more_if b x ts ++ map arrival_of (more_unless b h ls)) (x ∷ rest)
step_shared true x h ts ls rest is perm = IsPermutation-cons x (ts ++ map arrival_of ls) rest perm
step_shared false x h ts ls rest is perm =
    subst (λ (y : Arrival). IsPermutation (ts ++ y ∷ map arrival_of ls) (x ∷ rest)) is
    (IsPermutation-trans (ts ++ x ∷ map arrival_of ls) (x ∷ (ts ++ map arrival_of ls)) (x ∷ rest)
    (IsPermutation-middle ts x (map arrival_of ls)) (IsPermutation-cons x (ts ++ map arrival_of ls) rest perm))

pub work_shared : (core t : ℕ) (hs : List Handed) (l : Live)
    → IsPermutation (taken_of core t hs l ++ map arrival_of (left_of core t hs l)) (map arrival_of hs)
work_shared core t [] l = IsPermutation-refl []
work_shared core t (h ∷ hs) l =
    let next : Live = worked_frame core t (arrival_of h) l in
    step_shared (is_taken (arrival_of h).packet l) (arrival_of h) h (taken_of core t hs next) (left_of core t hs next)
    (map arrival_of hs) refl (work_shared core t hs next)

arrivals_by : (core : ℕ) (xs : List Arrival) → map (λ (x : Taken). x.arrival) (map (by_core core) xs) ≡ xs
arrivals_by core [] = refl
arrivals_by core (x ∷ xs) = ap (λ (ys : List Arrival). x ∷ ys) (arrivals_by core xs)

abbrev arrivals_taken : List Taken → List Arrival
arrivals_taken order = map (λ (x : Taken). x.arrival) order

-- and so it is with all jobs
pub jobs_shared : (t : ℕ) (js : List Job)
    → IsPermutation (map (λ (x : Taken). x.arrival) (order_by t js) ++ map arrival_of (left_by t js)) (frames_by js)
jobs_shared t [] = IsPermutation-refl []
jobs_shared t (j ∷ js) =
    let ts : List Arrival = taken_of j.core t j.frames.items j.flow in
    let ls : List Arrival = map arrival_of (left_of j.core t j.frames.items j.flow) in
    let rest : List Arrival = arrivals_taken (order_by t js) in
    let kept : List Arrival = map arrival_of (left_by t js) in
    let taken : arrivals_taken (order_by t (j ∷ js)) ≡ ts ++ rest =
    map-append (λ (x : Taken). x.arrival) (map (by_core j.core) ts) (order_by t js)
    ∙ ap (λ (xs : List Arrival). xs ++ rest) (arrivals_by j.core ts) in
    let left : map arrival_of (left_by t (j ∷ js)) ≡ ls ++ kept =
    map-append arrival_of (left_of j.core t j.frames.items j.flow) (left_by t js) in
    IsPermutation-trans (arrivals_taken (order_by t (j ∷ js)) ++ map arrival_of (left_by t (j ∷ js)))
    ((ts ++ rest) ++ (ls ++ kept)) (frames_by (j ∷ js))
    (perm_by (arrivals_taken (order_by t (j ∷ js)) ++ map arrival_of (left_by t (j ∷ js)))
    ((ts ++ rest) ++ (ls ++ kept))
    (ap (λ (xs : List Arrival). xs ++ map arrival_of (left_by t (j ∷ js))) taken
    ∙ ap (λ (xs : List Arrival). (ts ++ rest) ++ xs) left))
    (IsPermutation-trans ((ts ++ rest) ++ (ls ++ kept)) ((ts ++ ls) ++ (rest ++ kept)) (frames_by (j ∷ js))
    (crossed ts rest ls kept)
    (IsPermutation-append (ts ++ ls) (frames_of j) (rest ++ kept) (frames_by js)
    (work_shared j.core t j.frames.items j.flow) (jobs_shared t js)))

-- ----- what a job leaves of the flows
pub taken_shape : (core t : ℕ) (frame : FrameId) (p : Packet) (l : Live) (tuple : FourTuple)
    → is_indexed_as tuple (packet_taken core t frame p l) ≡ is_indexed_as tuple l
taken_shape core t frame (Damaged rule) l tuple = refl
taken_shape core t frame (Segment other seg) l tuple = refl

pub place_kept : (F : List Live) (i : ℕ) (l m : Live) (p : Packet) → slice_get F i ≡ Some l
    → ((tuple : FourTuple) → is_indexed_as tuple m ≡ is_indexed_as tuple l) → place_in (set F i m) p ≡ place_in F p
place_kept F i l m (Damaged rule) here same = refl
place_kept F i l m (Segment tuple seg) here same = position_kept (is_indexed_as tuple) F i l m here (same tuple)

pub frame_done : (core t place : ℕ) (frame : FrameId) (p : Packet) (F : List Live) (l : Live)
    → slice_get F place ≡ Some l → place_in F p ≡ Some place
    → taken_packet core t frame p F ≡ set F place (packet_taken core t frame p l)
frame_done core t place frame (Damaged rule) F l here led = absurd (cc (led))
frame_done core t place frame (Segment tuple seg) F l here led =
    let f : Live → Live = received (Core core) t frame seg in
    let found = found_change (is_indexed_as tuple) f F place led in
    sym found.1 ∙ (sym (set_change f F place l found.0)
    ∙ ap (λ (m : Live). set F place (f m)) (there_or F place l l here))

frame_shape : (b : Bool) (core t : ℕ) (frame : FrameId) (p : Packet) (l : Live) (tuple : FourTuple)
    → is_indexed_as tuple (cond b (packet_taken core t frame p l) l) ≡ is_indexed_as tuple l
frame_shape true core t frame p l tuple = taken_shape core t frame p l tuple
frame_shape false core t frame p l tuple = refl

pub worked_shape : (core t : ℕ) (hs : List Handed) (l : Live) (tuple : FourTuple)
    → is_indexed_as tuple (worked_flow core t hs l) ≡ is_indexed_as tuple l
worked_shape core t [] l tuple = refl
worked_shape core t (h ∷ hs) l tuple =
    let x : Arrival = arrival_of h in
    worked_shape core t hs (worked_frame core t x l) tuple
    ∙ frame_shape (is_taken x.packet l) core t x.frame x.packet l tuple

abbrev IsLed : List Live → ℕ → Handed → Type 0
IsLed F place h = place_in F (arrival_of h).packet ≡ Some place

pub job_done : (core t place : ℕ) (hs : List Handed) (F : List Live) (l : Live) → slice_get F place ≡ Some l
    → All (IsLed F place) hs
    → fold (flow_taken t) F (map (by_core core) (taken_of core t hs l)) ≡ set F place (worked_flow core t hs l)
job_done core t place [] F l here led = sym (set_same F place l here)
job_done core t place (h ∷ hs) F l here led =
    by_test (is_taken x.packet l) (job_done core t place hs) where
      x : Arrival
      x = arrival_of h

      mine : place_in F x.packet ≡ Some place
      mine = All-head (IsLed F place) h hs led

      others : All (IsLed F place) hs
      others = All-tail (IsLed F place) h hs led

      by_test : (b : Bool)
          → ((G : List Live) (m : Live) → slice_get G place ≡ Some m → All (IsLed G place) hs
          → fold (flow_taken t) G (map (by_core core) (taken_of core t hs m)) ≡ set G place (worked_flow core t hs m))
          → fold (flow_taken t) F (map (by_core core) (more_if b x
          (taken_of core t hs (cond b (packet_taken core t x.frame x.packet l) l))))
          ≡ set F place (worked_flow core t hs (cond b (packet_taken core t x.frame x.packet l) l))
      by_test true rest =
          let m : Live = packet_taken core t x.frame x.packet l in
          let G : List Live = set F place m in
          ap (λ (H : List Live). fold (flow_taken t) H (map (by_core core) (taken_of core t hs m)))
          (frame_done core t place x.frame x.packet F l here mine)
          ∙ (rest G m (set_there F place m (there_below F place l here))
          (λ k d low. place_kept F place l m (arrival_of (get_or hs k d)).packet here
          (taken_shape core t x.frame x.packet l) ∙ others k d low)
          ∙ set_twice F place m (worked_flow core t hs m))
      by_test false rest = rest F l here others

pub fold_both : {A B : Type 0} (f : B → A → B) (b : B) (xs ys : List A) → fold f b (xs ++ ys) ≡ fold f (fold f b xs) ys
fold_both f b [] ys = refl
fold_both f b (x ∷ xs) ys = fold_both f (f b x) xs ys

other_places : (q : ℕ) (js : List Job) → jobs_at q js ≡ 0 → All (λ (k : Job). q ≡ k.place → ⊥) js
other_places q js none k d low = λ e.
    let is : ((get_or js k d).place == q) ≡ true = grind (arith, tests, e) in
    none_is (λ (j : Job). j.place == q) js none k d low is

once_rest : (q : ℕ) (j : Job) (js : List Job) → jobs_at q (j ∷ js) ≤ 1 → jobs_at q js ≤ 1
once_rest q j js few = omega (arith, count_cons (λ (k : Job). k.place == q) j js, few)

itself : (n : ℕ) → (n == n) ≡ true
itself n = grind (arith, tests)

once_here : (j : Job) (js : List Job) → jobs_at j.place (j ∷ js) ≤ 1 → jobs_at j.place js ≡ 0
once_here j js few =
    let one : tally (j.place == j.place) ≡ 1 = ap tally (itself j.place) in
    omega (arith, count_cons (λ (k : Job). k.place == j.place) j js, one, few)

-- a job at another place stays one
job_kept : (F : List Live) (i : ℕ) (l m : Live) (j : Job) → slice_get F i ≡ Some l
    → ((tuple : FourTuple) → is_indexed_as tuple m ≡ is_indexed_as tuple l) → (i ≡ j.place → ⊥) → IsJobOf F j
    → IsJobOf (set F i m) j
job_kept F i l m j here same other is = record {
  low = is.low;
  here = set_elsewhere F i j.place m other ∙ is.here;
  led = λ k d low. place_kept F i l m (arrival_of (get_or j.frames.items k d)).packet here same ∙ is.led k d low;
}

pub jobs_done : (t : ℕ) (js : List Job) (F : List Live) → All (IsJobOf F) js → ((q : ℕ) → jobs_at q js ≤ 1)
    → fold (flow_taken t) F (order_by t js) ≡ put_jobs (map (worked_job t) js) F
jobs_done t [] F own once = refl
jobs_done t (j ∷ js) F own once =
    let mine : IsJobOf F j = All-head (IsJobOf F) j js own in
    let all : All (IsJobOf F) js = All-tail (IsJobOf F) j js own in
    let w : Live = worked_flow j.core t j.frames.items j.flow in
    let G : List Live = set F j.place w in
    let apart : All (λ (k : Job). j.place ≡ k.place → ⊥) js = other_places j.place js
    (once_here j js (once j.place)) in
    fold_both (flow_taken t) F (map (by_core j.core) (taken_of j.core t j.frames.items j.flow)) (order_by t js)
    ∙ (ap (λ (H : List Live). fold (flow_taken t) H (order_by t js))
    (job_done j.core t j.place j.frames.items F j.flow mine.here mine.led)
    ∙ jobs_done t js G
    (λ k d low. job_kept F j.place j.flow w (get_or js k d) mine.here
    (worked_shape j.core t j.frames.items j.flow) (apart k d low) (all k d low))
    (λ q. once_rest q j js (once q)))

-- ----- flows that differ at the places of jobs alone
either : (b : Bool) → (b ≡ true) ⊎ (b ≡ false)
either true = inl refl
either false = inr refl

pub put_alike : (js : List Job) (S F : List Live) → length S ≡ length F
    → ((q : ℕ) → jobs_at q js ≡ 0 → slice_get S q ≡ slice_get F q) → All (λ (j : Job). j.place < length F) js
    → put_jobs js S ≡ put_jobs js F
put_alike [] S F len same below = all_same S F len (λ q. same q refl)
put_alike (j ∷ js) S F len same below =
    put_alike js (set S j.place j.flow) (set F j.place j.flow)
    (length_set S j.place j.flow ∙ (len ∙ sym (length_set F j.place j.flow)))
    (λ q none. by_place q none (either (j.place == q)))
    (λ k d low. subst (λ (n : ℕ). (get_or js k d).place < n) (sym (length_set F j.place j.flow))
    (All-tail (λ (k : Job). k.place < length F) j js below k d low)) where
      mine : j.place < length F
      mine = All-head (λ (k : Job). k.place < length F) j js below

      by_place : (q : ℕ) → jobs_at q js ≡ 0 → ((j.place == q) ≡ true) ⊎ ((j.place == q) ≡ false)
          → slice_get (set S j.place j.flow) q ≡ slice_get (set F j.place j.flow) q
      by_place q none (inl is) =
          let e : j.place ≡ q = grind (arith, tests, is) in
          let s : j.place < length S = omega (arith, mine, len) in
          subst (λ (p : ℕ). slice_get (set S j.place j.flow) p ≡ slice_get (set F j.place j.flow) p) e
          (set_there S j.place j.flow s ∙ sym (set_there F j.place j.flow mine))
      by_place q none (inr is) =
          let zero : tally (j.place == q) ≡ 0 = ap tally is in
          let all : jobs_at q (j ∷ js) ≡ 0 =
          omega (arith, count_cons (λ (k : Job). k.place == q) j js, zero, none) in
          let other : j.place ≡ q → ⊥ = λ e. true≢false (sym (grind (arith, tests, e)) ∙ is) in
          set_elsewhere S j.place q j.flow other ∙ (same q all ∙ sym (set_elsewhere F j.place q j.flow other))

pub places_worked : (t q : ℕ) (js : List Job) → jobs_at q (map (worked_job t) js) ≡ jobs_at q js
places_worked t q [] = refl
places_worked t q (j ∷ js) =
    count_cons (λ (k : Job). k.place == q) (worked_job t j) (map (worked_job t) js)
    ∙ (ap (λ (n : ℕ). tally (j.place == q) + n) (places_worked t q js)
    ∙ sym (count_cons (λ (k : Job). k.place == q) j js))

-- ----- frames that are taken are of flows
abbrev IsKnown : List Live → Arrival → Type 0
IsKnown F x = is_some (place_in F x.packet) ≡ true

-- what holds of all frames of a job holds of those that are taken
taken_more : (P : Arrival → Type 0) (b : Bool) (x : Arrival) (xs : List Arrival) → P x → All P xs
    → All P (more_if b x xs)
taken_more P true x xs here rest = All-cons P x xs here rest
taken_more P false x xs here rest = rest

taken_keep : (P : Arrival → Type 0) (core t : ℕ) (hs : List Handed) (l : Live)
    → All (λ (h : Handed). P (arrival_of h)) hs → All P (taken_of core t hs l)
taken_keep P core t [] l all = All-nil P
taken_keep P core t (h ∷ hs) l all =
    taken_more P (is_taken (arrival_of h).packet l) (arrival_of h)
    (taken_of core t hs (worked_frame core t (arrival_of h) l))
    (All-head (λ (g : Handed). P (arrival_of g)) h hs all)
    (taken_keep P core t hs (worked_frame core t (arrival_of h) l)
    (All-tail (λ (g : Handed). P (arrival_of g)) h hs all))

-- and so it is with all jobs
abbrev HaveAll : (Taken → Type 0) → Job → Type 0
HaveAll P j = All (λ (h : Handed). P (by_core j.core (arrival_of h))) j.frames.items

order_keeps : (P : Taken → Type 0) (t : ℕ) (js : List Job)
    → All (HaveAll P) js → All P (order_by t js)
order_keeps P t [] all = All-nil P
order_keeps P t (j ∷ js) all =
    let ts : List Arrival = taken_of j.core t j.frames.items j.flow in
    All-append P (map (by_core j.core) ts) (order_by t js)
    (All-map P (by_core j.core) ts
    (taken_keep (λ (x : Arrival). P (by_core j.core x)) j.core t j.frames.items j.flow (All-head (HaveAll P) j js all)))
    (order_keeps P t js (All-tail (HaveAll P) j js all))

-- ----- all of it
-- The jobs of lanes, in any order, were worked and put back.
pub took_frames : (t : ℕ) (old now : List Live) (jobs js : List Job) (left rest : List Handed)
    (cores : List ℕ) (frames : List Arrival) → AreHanded old now jobs left cores frames → AreDistinct frames
    → IsPermutation jobs js → IsPermutation (frames_by jobs) (frames_by js) → IsPermutation (left ++ left_by t js) rest
    → TookFrames t old cores frames (map arrival_of rest) (put_jobs (map (worked_job t) js) now)
took_frames t old now jobs js left rest cores frames handed distinct moved shuffled gathered = record {
  order = order_by t js;
  steered = order_keeps (IsSteered cores frames) t js
      (All-permutation (AreSentTo cores frames) jobs js moved handed.sent);
  shared = λ frame. same_filter (is_frame frame) (arrivals_taken (order_by t js) ++ map arrival_of rest) frames whole
      (distinct frame);
  known = order_keeps (λ (x : Taken). IsKnown old x.arrival) t js
      (λ k d low. λ i h below. ap is_some ((own k d low).led i h below));
  made = jobs_done t js old own once ∙ sym (put_alike (map (worked_job t) js) now old handed.len
      (λ q none. handed.apart q (sym (moved_at q) ∙ (sym (places_worked t q js) ∙ none)))
      below);
} where
  own : All (IsJobOf old) js
  own = All-permutation (IsJobOf old) jobs js moved handed.own

  moved_at : (q : ℕ) → jobs_at q js ≡ jobs_at q jobs
  moved_at q = sum_by-IsPermutation (λ (j : Job). cond (j.place == q) 1 0) jobs js moved

  once : (q : ℕ) → jobs_at q js ≤ 1
  once q = let few : jobs_at q jobs ≤ 1 = handed.once q in omega (arith, moved_at q, few)

  below : All (λ (j : Job). j.place < length old) (map (worked_job t) js)
  below = All-map (λ (j : Job). j.place < length old) (worked_job t) js
      (λ k d low. there_below old (get_or js k d).place (get_or js k d).flow (own k d low).here)

  taken : List Arrival
  taken = arrivals_taken (order_by t js)

  kept : List Arrival
  kept = map arrival_of (left_by t js)

  first : List Arrival
  first = map arrival_of left

  last : IsPermutation (map arrival_of rest) (first ++ kept)
  last = subst (IsPermutation (map arrival_of rest)) (map-append arrival_of left (left_by t js))
      (IsPermutation-sym (map arrival_of (left ++ left_by t js)) (map arrival_of rest)
      (IsPermutation-map arrival_of (left ++ left_by t js) rest gathered))

  turned : IsPermutation (taken ++ (first ++ kept)) ((taken ++ kept) ++ first)
  turned = subst (IsPermutation (taken ++ (first ++ kept))) (sym (append_assoc taken kept first))
      (IsPermutation-append_right taken (first ++ kept) (kept ++ first) (IsPermutation-append_comm first kept))

  done : IsPermutation ((taken ++ kept) ++ first) frames
  done = IsPermutation-trans ((taken ++ kept) ++ first) (frames_by js ++ first) frames
      (IsPermutation-append_left first (taken ++ kept) (frames_by js) (jobs_shared t js))
      (IsPermutation-trans (frames_by js ++ first) (frames_by jobs ++ first) frames
      (IsPermutation-append_left first (frames_by js) (frames_by jobs)
      (IsPermutation-sym (frames_by jobs) (frames_by js) shuffled)) handed.shared)

  whole : IsPermutation (taken ++ map arrival_of rest) frames
  whole = IsPermutation-trans (taken ++ map arrival_of rest) (taken ++ (first ++ kept)) frames
      (IsPermutation-append_right taken (map arrival_of rest) (first ++ kept) last)
      (IsPermutation-trans (taken ++ (first ++ kept)) ((taken ++ kept) ++ first) frames turned done)
