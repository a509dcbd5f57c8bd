-- Frames and the cores that they were steered to, while more frames come.
use Rattle.std.proofs.Common.{◌≡◌, ℕ, zero, suc, ◌++◌, List, [], ◌∷◌, length, All, Some, slice_get, refl, sym, ap}
use Rattle.std.proofs.Common.{get_or, subst, ◌∙◌, ◌+◌}
use Rattle.std.proofs.lemmas.List.{length_push}
use Rattle.host_rounds.specs.Deliveries.{Arrival}
use Rattle.core_rounds.specs.CoreTicks.{Taken}
use Rattle.local_host.specs.declared.lanes.Job.{Job}
use Rattle.local_host.specs.Handing.{by_core, IsSteered, AreSteered, AreSentTo}

get_before : {X : Type 0} (xs ys : List X) (k : ℕ) (x : X) → slice_get xs k ≡ Some x → slice_get (xs ++ ys) k ≡ Some x
get_before [] ys k x here = absurd (cc (here))
get_before (z ∷ zs) ys zero x here = here
get_before (z ∷ zs) ys (suc k) x here = get_before zs ys k x here

get_last : {X : Type 0} (xs : List X) (x : X) (k : ℕ) → k ≡ length xs → slice_get (xs ++ x ∷ []) k ≡ Some x
get_last {X} xs x k here = subst (λ (n : ℕ). slice_get (xs ++ x ∷ []) n ≡ Some x) (sym here) (at_end xs) where
  at_end : (ys : List X) → slice_get (ys ++ x ∷ []) (length ys) ≡ Some x
  at_end [] = refl
  at_end (y ∷ ys) = at_end ys

-- the last one
pub steered_last : (cores : List ℕ) (frames : List Arrival) (core : ℕ) (x : Arrival) → length cores ≡ length frames
    → IsSteered (cores ++ core ∷ []) (frames ++ x ∷ []) (by_core core x)
steered_last cores frames core x even = record {
  place = length frames;
  core = get_last cores core (length frames) (sym even);
  frame = get_last frames x (length frames) refl;
}

-- and those before it
pub steered_still : {cores : List ℕ} {frames : List Arrival} {y : Taken} (core : ℕ) (x : Arrival)
    → IsSteered cores frames y → IsSteered (cores ++ core ∷ []) (frames ++ x ∷ []) y
steered_still {cores} {frames} {y} core x is = record {
  place = is.place;
  core = get_before cores (core ∷ []) is.place y.core is.core;
  frame = get_before frames (x ∷ []) is.place y.arrival is.frame;
}

pub order_still : {cores : List ℕ} {frames : List Arrival} (order : List Taken) (core : ℕ) (x : Arrival)
    → AreSteered cores frames order → AreSteered (cores ++ core ∷ []) (frames ++ x ∷ []) order
order_still order core x all = λ k d low. steered_still core x (all k d low)

pub job_still : {cores : List ℕ} {frames : List Arrival} (j : Job) (core : ℕ) (x : Arrival)
    → AreSentTo cores frames j → AreSentTo (cores ++ core ∷ []) (frames ++ x ∷ []) j
job_still j core x all = λ k d low. steered_still core x (all k d low)

pub jobs_still : {cores : List ℕ} {frames : List Arrival} (jobs : List Job) (core : ℕ) (x : Arrival)
    → All (AreSentTo cores frames) jobs → All (AreSentTo (cores ++ core ∷ []) (frames ++ x ∷ [])) jobs
jobs_still jobs core x all = λ k d low. job_still (get_or jobs k d) core x (all k d low)

-- both lists are one longer
pub even_more : {A B : Type 0} (xs : List A) (ys : List B) (x : A) (y : B) → length xs ≡ length ys
    → length (xs ++ x ∷ []) ≡ length (ys ++ y ∷ [])
even_more xs ys x y even = length_push xs x ∙ (ap (λ (n : ℕ). n + 1) even ∙ sym (length_push ys y))
