-- The list of begun flows.
use Rattle.std.proofs.Common.{◌≡◌, ℕ, ◌+◌, ◌≤◌, ◌<◌, cond, Bool, true, false, List, [], ◌∷◌, ◌++◌}
use Rattle.std.proofs.Common.{ap, sym, ◌∙◌, refl, subst, arith, get_or, set, append-nil}
use Rattle.std.specs.Prelude.{Option, Some, None, not, ◌||◌, length, take, drop, All}
use Rattle.std.specs.List.{filter, find}
use Rattle.std.specs.Option.{option_map}
use Rattle.std.proofs.lemmas.List.{take_more_set, take-set-le, drop-set-lt, drop_more, take_all, take_more, length-set}
use Rattle.std.proofs.lemmas.List.Elements.{filter-append, All-head, All-tail, All-filter}
use Rattle.tas_model.specs.declared.entry.FlowId.{FlowId}
use Rattle.flow_lock.specs.Answers.{is_open_in}
use Rattle.flow_lock.specs.declared.view.Mark.{Mark}
use Rattle.libtas_sockets.specs.Connecting.{fits, id_of, still_begun}
use Rattle.libtas_sockets.specs.declared.begun.Begun.{Begun}
use Rattle.libtas_sockets.specs.declared.begun.Target.{Target}

module _ {A : Type 0} (stays : A → Bool) where
  -- what is in front are those of the elements so far that stay
  pub record Kept (old now : List A) (kept at : ℕ) : Type 0 where
    pub front : take kept now ≡ filter stays (take at old)
    pub back : drop at now ≡ drop at old
    pub near : kept ≤ at
    pub same : length now ≡ length old

  pub kept_none : (old : List A) → Kept old old 0 0
  kept_none old = record { front = refl; back = refl; near = omega arith; same = refl }

  one : (x : A) (b : Bool) → stays x ≡ b → filter stays (x ∷ []) ≡ cond b (x ∷ []) []
  one x b e = ap (λ t. cond {A = List A} t (x ∷ []) []) e

  fronts : (now : List A) (kept : ℕ) (x : A) (b : Bool) → kept < length now
      → take (kept + cond b 1 0) (set now kept x) ≡ take kept now ++ cond b (x ∷ []) []
  fronts now kept x true near = take_more_set now kept x near
  fronts now kept x false near =
      let z : kept + 0 ≡ kept = omega arith in
      subst (λ n. take n (set now kept x) ≡ take kept now ++ []) (sym z)
      (take-set-le kept now kept x (omega arith) ∙ sym (append-nil (take kept now)))

  pub kept_here : (old now : List A) (kept at : ℕ) (x : A) → Kept old now kept at → at < length now
      → get_or now at x ≡ x
      → get_or old at x ≡ x
  kept_here old now kept at x k near is =
      let in_old : at < length old = let s = k.same in omega arith in
      let heads : get_or now at x ∷ drop (at + 1) now ≡ get_or old at x ∷ drop (at + 1) old =
      sym (drop_more now at x near) ∙ (k.back ∙ drop_more old at x in_old) in
      ap (λ l. get_or l 0 x) (sym heads) ∙ is

  pub kept_more : (old now : List A) (kept at : ℕ) (x : A) → Kept old now kept at → at < length now
      → get_or now at x ≡ x
      → Kept old (set now kept x) (kept + cond (stays x) 1 0) (at + 1)
  kept_more old now kept at x k near is =
      let in_old : at < length old = let s = k.same in omega arith in
      let heads : get_or now at x ∷ drop (at + 1) now ≡ get_or old at x ∷ drop (at + 1) old =
      sym (drop_more now at x near) ∙ (k.back ∙ drop_more old at x in_old) in
      let here : get_or old at x ≡ x = kept_here old now kept at x k near is in
      let rest : drop (at + 1) now ≡ drop (at + 1) old = ap (drop 1) heads in
      let below : kept < length now = let n = k.near in omega arith in
      record {
        front = fronts now kept x (stays x) below
            ∙ (ap (λ l. l ++ cond (stays x) (x ∷ []) []) k.front
            ∙ (sym (filter-append stays (take at old) (x ∷ []))
            ∙ ap (filter stays) (ap (λ y. take at old ++ y ∷ []) (sym here) ∙ sym (take_more old at x in_old))));
        back = drop-set-lt (at + 1) now kept x (let n = k.near in omega arith) ∙ rest;
        near = le_count (stays x) k.near;
        same = length-set now kept x ∙ k.same;
      }
    where
      le_count : (b : Bool) → kept ≤ at → kept + cond b 1 0 ≤ at + 1
      le_count true n = omega (arith, n)
      le_count false n = omega (arith, n)

  pub kept_all : (old now : List A) (kept at : ℕ) → Kept old now kept at → length now ≤ at
      → take kept now ≡ filter stays old
  kept_all old now kept at k past =
      k.front ∙ ap (filter stays) (take_all at old (let s = k.same in omega arith))

-- what holds of all holds of the one that is found
pub found_has : {A : Type 0} (P : A → Type 0) (test : A → Bool) (l : List A) (x : A) → find test l ≡ Some x → All P l
    → P x
found_has P test [] x e all = absurd (cc (e))
found_has P test (y ∷ ys) x e all = by_test (test y) e (found_has P test ys x) where
  by_test : (b : Bool) → cond b (Some y) (find test ys) ≡ Some x → (find test ys ≡ Some x → All P ys → P x) → P x
  by_test true q rest = let same : y ≡ x = cc (q) in subst P same (All-head P y ys all)
  by_test false q rest = rest q (All-tail P y ys all)

-- ----- the flow that a connect takes up
pub begun_near : (slots : ℕ) (target : Target) (l : List Begun) (id : FlowId)
    → option_map id_of (find (fits target) l) ≡ Some id → All (λ (q : Begun). q.id.slot < slots) l → id.slot < slots
begun_near slots target l id e all = by_found (find (fits target) l) refl e where
  by_found : (x : Option Begun) → find (fits target) l ≡ x → option_map id_of x ≡ Some id → id.slot < slots
  by_found None is q = absurd (cc (q))
  by_found (Some b) is q =
      let same : b.id ≡ id = cc (q) in
      subst (λ (i : FlowId). i.slot < slots) same (found_has (λ (g : Begun). g.id.slot < slots) (fits target) l b is
      all)

-- the slots of those that stay begun
pub still_near : (slots : ℕ) (target : Target) (marks : List Mark) (b d : List Begun) → d ≡ still_begun target marks b
    → All (λ (q : Begun). q.id.slot < slots) b → All (λ (q : Begun). q.id.slot < slots) d
still_near slots target marks b d e all =
    subst (All (λ (q : Begun). q.id.slot < slots)) (sym e)
    (All-filter (λ (q : Begun). not (fits target q) || is_open_in marks q.id) (λ (q : Begun). q.id.slot < slots) b all)
