-- What collecting and sorting give: all frames, in order.
use Rattle.std.proofs.Common.{◌≡◌, ℕ, suc, ◌+◌, ◌≤◌, ◌<◌, ◌==◌, ◌&&◌, not, nat_lt, Bool, true, false, List, [], ◌∷◌}
use Rattle.std.proofs.Common.{◌++◌, length, get_or, map, filter, flat_map, slice_get, Some, None, refl, ap, sym, ◌∙◌}
use Rattle.std.proofs.Common.{append_assoc, append-nil, take, arith}
use Rattle.std.proofs.lemmas.Bool.Decides.{nat_tests}
use Rattle.std.proofs.lemmas.List.Elements.{filter_agree}
use Rattle.std.proofs.lemmas.List.{take_all}
use Rattle.std.proofs.lemmas.List.Concat.{flat_map-append}
use Rattle.std.proofs.lemmas.List.Folds.{flat_map-map}
use Rattle.std.specs.Ordering.{is_lt, nat_cmp}
use Rattle.std.specs.List.Sorted.{IsStableByKey, IsNonDecreasingBy}
use Rattle.run_texts.specs.declared.frames.Frame.{Frame}
use Rattle.run_texts.specs.Frames.{Sent, seen_frame, Rises, IsInOrder}
use Rattle.run_texts.proofs.Lists.{taken_more}

-- an element's frames more
pub frames_more : {X : Type 0} (f : X → List Sent) (xs : List X) (i : ℕ) (x : X) (old before after : List Sent)
    → slice_get xs i ≡ Some x → before ≡ old ++ flat_map f (take i xs) → after ≡ before ++ f x
    → after ≡ old ++ flat_map f (take (i + 1) xs)
frames_more f xs i x old before after here first more =
    let last : flat_map f (take i xs ++ x ∷ []) ≡ flat_map f (take i xs) ++ f x = flat_map-append f (take i xs) (x ∷ [])
    ∙ ap (λ t. flat_map f (take i xs) ++ t) (append-nil (f x)) in
    more ∙ (ap (λ t. t ++ f x) first
    ∙ (append_assoc old (flat_map f (take i xs)) (f x)
    ∙ ap (λ t. old ++ t) (sym last ∙ ap (flat_map f) (sym (taken_more xs i x here)))))

-- all elements' frames, under another view
pub frames_whole : {X Y : Type 0} (v : X → Y) (f : Y → List Sent) (xs : List X) (n : ℕ) (old now : List Sent)
    → length xs ≤ n → now ≡ old ++ flat_map (λ x. f (v x)) (take n xs) → now ≡ old ++ flat_map f (map v xs)
frames_whole v f xs n old now le is = is ∙ ap (λ t. old ++ t) (ap (flat_map (λ x. f (v x))) (take_all n xs le)
    ∙ sym (flat_map-map f v xs))

-- ----- the order
rising : (low : ℕ) (fs : List Frame) → ((j : ℕ) (d : Frame) → j < length fs → low ≤ (get_or fs j d).tick)
    → IsNonDecreasingBy (λ (f : Frame). f.tick) fs → Rises low (map seen_frame fs)
rising low [] above up = tt
rising low (f ∷ fs) above up = (
  above 0 f (omega arith),
  rising f.tick fs (λ j d q. up 0 (suc j) d (omega arith) (omega (arith, q)))
      (λ i j d le q. up (suc i) (suc j) d (omega (arith, le)) (omega (arith, q))),
)

-- ----- frames of one tick keep their order
ties_are : (t n : ℕ) → (not (is_lt (nat_cmp t n)) && not (is_lt (nat_cmp n t))) ≡ (n == t)
ties_are t n = by_tests (nat_lt t n) refl (n == t) refl (nat_lt n t) refl
  where
    by_tests : (a : Bool) → nat_lt t n ≡ a → (b : Bool) → (n == t) ≡ b → (c : Bool) → nat_lt n t ≡ c
        → (not (is_lt (nat_cmp t n)) && not (is_lt (nat_cmp n t))) ≡ (n == t)
    by_tests a e b f c g = grind (arith, nat_tests)

filter-map : {X Y : Type 0} (p : Y → Bool) (v : X → Y) (xs : List X) → filter p (map v xs)
    ≡ map v (filter (λ x. p (v x)) xs)
filter-map p v [] = refl
filter-map p v (x ∷ xs) = by_test (p (v x)) refl (filter-map p v xs)
  where
    by_test : (b : Bool) → p (v x) ≡ b → filter p (map v xs) ≡ map v (filter (λ x. p (v x)) xs)
        → filter p (map v (x ∷ xs)) ≡ map v (filter (λ x. p (v x)) (x ∷ xs))
    by_test true e h = rw e (ap (λ l. v x ∷ l) h)
    by_test false e h = rw e h

frame_at : (tick : ℕ) → Frame
frame_at t = record {
  tick = t;
  tuple = record { laddr = 0; lport = 0; raddr = 0; rport = 0 };
  seg = record {
    head = record { flags = 0; seq = record { 0 = 0 }; ack = record { 0 = 0 }; window = 0; mss = None; scale = None };
    bytes = record { ref_ptr = (0, 0); now = [] };
  };
}

same_at : (t : ℕ) (before after : List Frame) → IsStableByKey (λ (f : Frame). f.tick) nat_cmp before after
    → filter (λ (f : Frame). f.tick == t) after ≡ filter (λ (f : Frame). f.tick == t) before
unfolding frame_at
same_at t before after stable =
    let test : Frame → Bool = λ (f : Frame). not (is_lt (nat_cmp t f.tick)) && not (is_lt (nat_cmp f.tick t)) in
    let plain : Frame → Bool = λ (f : Frame). f.tick == t in
    let agree : (xs : List Frame) → filter test xs ≡ filter plain xs = filter_agree test plain
    (λ (f : Frame). ties_are t f.tick) in
    sym (agree after) ∙ (stable (frame_at t) ∙ agree before)

pub in_order : (all : List Sent) (before after : List Frame) → map seen_frame before ≡ all
    → IsNonDecreasingBy (λ (f : Frame). f.tick) after → IsStableByKey (λ (f : Frame). f.tick) nat_cmp before after
    → IsInOrder all after
in_order all before after is up stable =
    record {
      rises = rising 0 after (λ j d q. omega arith) up;
      same = λ t.
          let p : Sent → Bool = λ (s : Sent). s.tick == t in
          filter-map p seen_frame after
          ∙ (ap (map seen_frame) (same_at t before after stable)
          ∙ (sym (filter-map p seen_frame before) ∙ ap (filter p) is));
    }
