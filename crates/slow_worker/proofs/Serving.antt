-- The frames that wait, one after the other.
use Rattle.std.proofs.Common.{◌≡◌, ap, sym, ◌∙◌, refl, subst, ℕ, ◌+◌, ◌-◌, ◌<◌, ◌≤◌, List, [], ◌∷◌, ◌++◌}
use Rattle.std.proofs.Common.{append_assoc, append-nil, inl, inr, length, arith}
use Rattle.std.specs.Prelude.{Result, Ok, Err, OnErr}
use Rattle.std.proofs.lemmas.List.{length-append}
use Rattle.core_worker.specs.Workers.{Common}
use Rattle.core_worker.specs.declared.frames.PassedFrame.{PassedFrame}
use Rattle.slow_handshake.specs.Numbers.{FirstNumbers}
use Rattle.slow_worker.specs.Workers.{Worker, Sight, Setting, setting_of, sight_of, waiting, IsSound, HasSenders}
use Rattle.slow_worker.specs.Serving.{IsUnserved}
use Rattle.slow_worker.specs.Queues.{kept_of, IsOneServed, AreServed, IsSame, IsAllServed, IsStopped, IsPartServed}
use Rattle.slow_worker.specs.Queues.{IsFirstServed, IsFirstLeft, Standing}
use Rattle.slow_worker.specs.declared.served.Served.{Served}

-- ----- the first frame
pub joined : {A : Type 0} (a b c d : List A) → a ≡ b → c ≡ d → a ++ c ≡ b ++ d
joined a b c d e f = ap (λ l. l ++ c) e ∙ ap (λ l. b ++ l) f

pub first_left : (ns : FirstNumbers) (c : Common) (tick : ℕ) (u v n : Worker) (f : PassedFrame)
    (rest : List PassedFrame) → u ≡ v
    → waiting u ≡ f ∷ rest → IsUnserved (setting_of ns c tick u) f.frame.packet (sight_of u) (sight_of n)
    → waiting n ≡ waiting u → IsSame u n → IsFirstLeft ns c tick v n
first_left ns c tick u v n f rest is first unserved still same =
    subst (λ (w : Worker). IsFirstLeft ns c tick w n) is
    (record { stopped = inr (f, rest, first, unserved); still = still; same = same })

pub first_served : (ns : FirstNumbers) (c : Common) (tick : ℕ) (u v n : Worker) (f : PassedFrame)
    (rest : List PassedFrame) (a : Served)
    → u ≡ v → waiting u ≡ f ∷ rest → IsOneServed (setting_of ns c tick u) f (sight_of u) (sight_of n) a
    → waiting n ≡ rest ++ kept_of f a → length n.exceptions.list ≡ length u.exceptions.list - 1 → IsSame u n
    → IsFirstServed ns c tick v n
first_served ns c tick u v n f rest a is first served after fewer same =
    subst (λ (w : Worker). IsFirstServed ns c tick w n) is (record {
      first = f;
      rest = rest;
      waits = first;
      answer = a;
      served = served;
      after = after;
      fewer = fewer;
      same = same;
    })

-- ----- a loop that handles frames
-- one frame more
served_more : (at : Setting) (fs : List PassedFrame) (f : PassedFrame) (s m n : Sight) (kept : List PassedFrame)
    (a : Served) → AreServed at fs s m kept → IsOneServed at f m n a
    → AreServed at (fs ++ f ∷ []) s n (kept ++ kept_of f a)
served_more at [] f s m n kept a (e, none) d = (
  n,
  a,
  [],
  subst (λ x. IsOneServed at f x n a) e d,
  (refl, refl),
  ap (λ l. l ++ kept_of f a) none ∙ sym (append-nil (kept_of f a)),
)
served_more at (g ∷ gs) f s m n kept a (x, b, more, one, rest, e) d = (
  x,
  b,
  more ++ kept_of f a,
  one,
  served_more at gs f x m n more a rest d,
  ap (λ l. l ++ kept_of f a) e ∙ append_assoc (kept_of g b) more (kept_of f a),
)

-- those handled, those that are left, and those that are kept
pub record Loop (ns : FirstNumbers) (c : Common) (tick : ℕ) (first now : Worker) (count : ℕ) : Type 0 where
  pub done : List PassedFrame
  pub left : List PassedFrame
  pub kept : List PassedFrame
  pub number : length left + count ≡ length (waiting first)
  pub all : waiting first ≡ done ++ left
  pub served : AreServed (setting_of ns c tick first) done (sight_of first) (sight_of now) kept
  pub still : waiting now ≡ left ++ kept
  pub exceptions : length now.exceptions.list ≤ length left
  pub same : IsSame first now
  pub stays : IsSound c.table (sight_of now)
  pub own : HasSenders c now

pub loop_first : (ns : FirstNumbers) (c : Common) (tick : ℕ) (w : Worker) → IsSound c.table (sight_of w)
    → HasSenders c w
    → Loop ns c tick w w 0
loop_first ns c tick w stays own = record {
  done = [];
  left = waiting w;
  kept = [];
  number = omega arith;
  all = refl;
  served = (refl, refl);
  still = sym (append-nil (waiting w));
  exceptions = let e = length-append w.exceptions.list w.deferred.list in omega (arith, e);
  same = refl;
  stays = stays;
  own = own;
}

-- one is left
pub loop_waits : (ns : FirstNumbers) (c : Common) (tick : ℕ) (first m : Worker) (count : ℕ)
    → Loop ns c tick first m count
    → count < length (waiting first) → 0 < length (waiting m)
loop_waits ns c tick first m count l near =
    let e = ap length l.still in
    let a = length-append l.left l.kept in
    omega (arith, e, a, l.number, near)

same_setting : (ns : FirstNumbers) (c : Common) (tick : ℕ) (first m : Worker) → IsSame first m
    → setting_of ns c tick m ≡ setting_of ns c tick first
same_setting ns c tick first m e =
    ap (λ (s : Standing). record { tick = tick; check_sums = s.check_sums; queues = c.queues; numbers = ns }) e

head_or : PassedFrame → List PassedFrame → PassedFrame
head_or d [] = d
head_or d (f ∷ fs) = f

tail_of : List PassedFrame → List PassedFrame
tail_of [] = []
tail_of (f ∷ fs) = fs

pub loop_more : (ns : FirstNumbers) (c : Common) (tick : ℕ) (first m n : Worker) (count : ℕ)
    → Loop ns c tick first m count
    → count < length (waiting first) → IsFirstServed ns c tick m n → IsSound c.table (sight_of n) → HasSenders c n
    → Loop ns c tick first n (count + 1)
unfolding head_or tail_of
loop_more ns c tick first m n count l near d stays own = by_left l.left l.number l.all l.still l.exceptions where
  at_one : IsOneServed (setting_of ns c tick first) d.first (sight_of m) (sight_of n) d.answer
  at_one = subst (λ at. IsOneServed at d.first (sight_of m) (sight_of n) d.answer)
      (same_setting ns c tick first m l.same) d.served

  by_left : (left : List PassedFrame) → length left + count ≡ length (waiting first)
      → waiting first ≡ l.done ++ left → waiting m ≡ left ++ l.kept → length m.exceptions.list ≤ length left
      → Loop ns c tick first n (count + 1)
  by_left [] number all still few = absurd (omega (arith, number, near))
  by_left (g ∷ gs) number all still few =
      let both : d.first ∷ d.rest ≡ g ∷ (gs ++ l.kept) = sym d.waits ∙ still in
      let same_first : d.first ≡ g = ap (head_or g) both in
      let rest : d.rest ≡ gs ++ l.kept = ap tail_of both in
      let done : waiting first ≡ (l.done ++ d.first ∷ []) ++ gs =
      all ∙ (ap (λ f. l.done ++ f ∷ gs) (sym same_first) ∙ sym (append_assoc l.done (d.first ∷ []) gs)) in
      record {
        done = l.done ++ d.first ∷ [];
        left = gs;
        kept = l.kept ++ kept_of d.first d.answer;
        number = omega (arith, number);
        all = done;
        served = served_more (setting_of ns c tick first) l.done d.first (sight_of first) (sight_of m)
            (sight_of n) l.kept
            d.answer l.served at_one;
        still = d.after ∙ (ap (λ x. x ++ kept_of d.first d.answer) rest
            ∙ append_assoc gs l.kept (kept_of d.first d.answer));
        exceptions = omega (arith, d.fewer, few);
        same = d.same ∙ l.same;
        stays = stays;
        own = own;
      }

pub none_of : {A : Type 0} (xs : List A) → length xs ≡ 0 → xs ≡ []
none_of [] e = refl
none_of (x ∷ xs) e = absurd (omega (arith, e))

pub loop_ends : (ns : FirstNumbers) (c : Common) (tick : ℕ) (first w : Worker) (count : ℕ)
    → Loop ns c tick first w count
    → length (waiting first) ≤ count → IsAllServed ns c tick first w
loop_ends ns c tick first w count l past =
    let left : l.left ≡ [] = none_of l.left (omega (arith, l.number, past)) in
    let few : length w.exceptions.list ≡ 0 =
    let z = ap length left in omega (arith, l.exceptions, z) in
    let none : w.exceptions.list ≡ [] = none_of w.exceptions.list few in
    let kept : w.deferred.list ≡ l.kept =
    sym (ap (λ x. x ++ w.deferred.list) none) ∙ (l.still ∙ ap (λ x. x ++ l.kept) left) in
    let done : waiting first ≡ l.done = l.all ∙ (ap (λ x. l.done ++ x) left ∙ append-nil l.done) in
    record {
      served = subst (λ fs. AreServed (setting_of ns c tick first) fs (sight_of first) (sight_of w) w.deferred.list)
          (sym done)
          (subst (λ k. AreServed (setting_of ns c tick first) l.done (sight_of first) (sight_of w) k)
          (sym kept) l.served);
      none = none;
      same = l.same;
    }

-- what stops before a list, or at its first frame
longer_stop : (at : Setting) (left more : List PassedFrame) (s n : Sight) → 0 < length left
    → IsStopped at (left ++ more) s n → IsStopped at left s n
unfolding head_or
longer_stop at left more s n some (inl e) = inl e
longer_stop at [] more s n some (inr r) = absurd (omega (arith, some))
longer_stop at (g ∷ gs) more s n some (inr (f, rest, first, un)) =
    inr (g, gs, refl, subst (λ (x : PassedFrame). IsUnserved at x.frame.packet s n) (ap (head_or g) (sym first)) un)

pub loop_stops : (ns : FirstNumbers) (c : Common) (tick : ℕ) (first m w : Worker) (count : ℕ)
    → Loop ns c tick first m count
    → count < length (waiting first) → IsFirstLeft ns c tick m w → IsPartServed ns c tick first w
loop_stops ns c tick first m w count l near d =
    let at : setting_of ns c tick m ≡ setting_of ns c tick first = same_setting ns c tick first m l.same in
    let some : 0 < length l.left = omega (arith, l.number, near) in
    let by_list : IsStopped (setting_of ns c tick first) (l.left ++ l.kept) (sight_of m) (sight_of w) =
    subst (λ fs. IsStopped (setting_of ns c tick first) fs (sight_of m) (sight_of w)) l.still
    (subst (λ x. IsStopped x (waiting m) (sight_of m) (sight_of w)) at d.stopped) in
    record {
      done = l.done;
      left = l.left;
      kept = l.kept;
      all = l.all;
      before = sight_of m;
      served = l.served;
      stopped = longer_stop (setting_of ns c tick first) l.left l.kept (sight_of m) (sight_of w) some by_list;
      still = d.still ∙ l.still;
      same = d.same ∙ l.same;
    }

pub err_of : {A E : Type 0} (P : Type 0) → P → (x : Result A E) → OnErr x P
err_of P p (Ok a) = tt
err_of P p (Err e) = p
