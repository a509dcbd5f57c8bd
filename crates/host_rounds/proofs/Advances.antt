-- How many timers of a flow had their turn.
use Rattle.std.proofs.Common.{◌≡◌, ℕ, zero, suc, ◌+◌, ◌≤◌, ◌==◌, Bool, true, false, List, [], ◌∷◌, ◌++◌, map, Option}
use Rattle.std.proofs.Common.{Some, None, refl, sym, subst, ap, ◌∙◌, true≢false, arith, tests}
use Rattle.tas_model.specs.declared.entry.Entry.{Entry}
use Rattle.tas_model.specs.declared.entry.Caller.{Caller}
use Rattle.tas_model.specs.declared.entry.Call.{Call}
use Rattle.tas_model.specs.declared.entry.Call.TheVariants as calls
use Rattle.tas_model.specs.Endpoint.{is_closed}
use Rattle.tas_model.specs.Segments.{one_if}
use Rattle.tas_model.specs.NextSegment.{Going, going}
use Rattle.tas_model.proofs.Histories.{replay_push}
use Rattle.tas_model.proofs.Tests.{on_cond}
use Rattle.host_rounds.specs.Lists.{Each, change_first, change_at}
use Rattle.host_rounds.specs.Hosts.{Live, Holder, endpoint, is_over, with_call}
use Rattle.host_rounds.specs.Upkeep.{swept, controlled, timed, timed_unless, emits, emits_where}
use Rattle.host_rounds.specs.Passing.{is_tick, ticks_in, ticks_of}
use Rattle.host_rounds.specs.Histories.{HasHistory}
use Rattle.host_rounds.proofs.Steps.{tick_steps}
use Rattle.host_rounds.proofs.Flows.{call_kept, on_control}
use Rattle.host_rounds.proofs.ClosedStays.{closed_stays}

-- ----- one flow
-- k timers of the flow had their turn
pub record Advances (k : ℕ) (l m : Live) : Type 0 where
  pub one : is_over m ≡ false → ticks_of m ≡ ticks_of l + k
  pub most : ticks_of m ≤ ticks_of l + k
  pub over : is_over l ≡ true → (is_over m ≡ true) × (ticks_of m ≡ ticks_of l)

pub stays : (l : Live) → Advances 0 l l
stays l = record { one = λ h. omega arith; most = omega arith; over = λ h. (h, refl) }

pub both : (k j : ℕ) (l m p : Live) → Advances k l m → Advances j m p → Advances (k + j) l p
both k j l m p a b = record {
  one = λ h. by_middle (is_over m) refl h;
  most = let x : ticks_of m ≤ ticks_of l + k = a.most in let y : ticks_of p ≤ ticks_of m + j = b.most in omega arith;
  over = λ h. ((b.over (a.over h).0).0, (b.over (a.over h).0).1 ∙ (a.over h).1);
} where
  by_middle : (c : Bool) → is_over m ≡ c → is_over p ≡ false → ticks_of p ≡ ticks_of l + (k + j)
  by_middle true t h = absurd (true≢false (sym (b.over t).0 ∙ h))
  by_middle false f h = let x : ticks_of m ≡ ticks_of l + k = a.one f in
      let y : ticks_of p ≡ ticks_of m + j = b.one h in omega arith

ticks_push : (h : List Entry) (x : Entry) → ticks_in (h ++ x ∷ []) ≡ ticks_in h + one_if (is_tick x.call)
ticks_push [] x = omega arith
ticks_push (y ∷ h) x = let rest : ticks_in (h ++ x ∷ []) ≡ ticks_in h + one_if (is_tick x.call) = ticks_push h x in
    omega arith

pub call_over : (by : Caller) (t : ℕ) (call : Call) (offer : List ℕ) (l : Live) → HasHistory l → is_over l ≡ true
    → is_over (with_call l by t call offer) ≡ true
call_over by t call offer l legal h = ap is_closed (replay_push l.flow.params l.flow.entries _ legal)
    ∙ closed_stays (endpoint l) _ call _ h

pub call_advances : (by : Caller) (t : ℕ) (call : Call) (offer : List ℕ) (l : Live) → HasHistory l
    → is_tick call ≡ false → Advances 0 l (with_call l by t call offer)
call_advances by t call offer l legal plain =
    let one : ticks_of (with_call l by t call offer) ≡ ticks_of l + one_if (is_tick call) =
    ticks_push l.flow.entries _ in
    let none : one_if (is_tick call) ≡ 0 = ap one_if plain in
    record {
      one = λ h. omega arith;
      most = omega arith;
      over = λ h. (call_over by t call offer l legal h, omega arith);
    }

controlled_advances : (by : Caller) (t : ℕ) (l : Live) → HasHistory l → Advances 0 l (controlled by t l)
controlled_advances by t l legal =
    on_control (Advances 0 l) _ by t l (λ h. call_advances by t calls.Control [] l legal refl) (λ h. stays l)

pub timed_advances : (by : Caller) (t : ℕ) (l : Live) → HasHistory l → Advances 1 l (timed by t l)
timed_advances by t l legal = by_over (is_over l) refl where
  by_over : (b : Bool) → is_over l ≡ b → Advances 1 l (timed_unless b by t l)
  by_over true h = record { one = λ f. absurd (true≢false (sym h ∙ f)); most = omega arith; over = λ g. (h, refl) }
  by_over false h =
      let m : Live = with_call l by t calls.Tick [] in
      let one : ticks_of m ≡ ticks_of l + 1 = ticks_push l.flow.entries _ in
      let ticked : Advances 1 l m = record {
        one = λ f. one;
        most = omega arith;
        over = λ g. absurd (true≢false (sym g ∙ h));
      } in
      let kept : HasHistory m = call_kept l by t calls.Tick [] legal tt (λ u. tick_steps (endpoint l) u _ h) in
      both 1 0 l m (controlled by t m) ticked (controlled_advances by t m kept)

pub swept_advances : (l : Live) → Advances 0 l (swept l)
swept_advances l =
    on_cond (Advances 0 l) (is_over l) _ _ (λ t. record {
      one = λ h. omega arith;
      most = omega arith;
      over = λ h. (h, refl);
    }) (λ f. stays l)

pub emits_advances : (by : Caller) (t : ℕ) (l : Live) → HasHistory l → Advances 0 l (emits by t l)
emits_advances by t l legal = by_going (going (endpoint l)) where
  by_going : (o : Option Going) → Advances 0 l (emits_where o by t l)
  by_going None = stays l
  by_going (Some g) = call_advances by t calls.Emit [] l legal refl

pub holder_advances : (l : Live) (holder : Holder) → Advances 0 l (record l { holder = holder })
holder_advances l holder = record { one = λ h. omega arith; most = omega arith; over = λ h. (h, refl) }

-- ----- all flows of a host
-- `turns` says how many timers of each flow had their turn. Flows that were opened meanwhile have no more Ticks than
-- that.
abbrev pub AllAdvance : (turns : ℕ → ℕ) → (ls ms : List Live) → Type 0
AllAdvance turns [] [] = Unit {0}
AllAdvance turns [] (m ∷ ms) = (ticks_of m ≤ turns 0) × AllAdvance (λ n. turns (suc n)) [] ms
AllAdvance turns (l ∷ ls) [] = ⊥
AllAdvance turns (l ∷ ls) (m ∷ ms) = Advances (turns 0) l m × AllAdvance (λ n. turns (suc n)) ls ms

abbrev pub none : ℕ → ℕ
none n = 0

pub all_stay : (ls : List Live) → AllAdvance none ls ls
all_stay [] = tt
all_stay (l ∷ ls) = (stays l, all_stay ls)

abbrev pub sum_of : (f g : ℕ → ℕ) → ℕ → ℕ
sum_of f g n = f n + g n

pub all_both : (f g : ℕ → ℕ) (ls ms ps : List Live) → AllAdvance f ls ms → AllAdvance g ms ps
    → AllAdvance (sum_of f g) ls ps
all_both f g [] [] [] a b = tt
all_both f g [] [] (p ∷ ps) a b = let x : ticks_of p ≤ g 0 = b.0 in
    (omega arith, all_both (λ n. f (suc n)) (λ n. g (suc n)) [] [] ps tt b.1)
all_both f g [] (m ∷ ms) [] a b = absurd b
all_both f g [] (m ∷ ms) (p ∷ ps) a b =
    let x : ticks_of m ≤ f 0 = a.0 in
    let y : ticks_of p ≤ ticks_of m + g 0 = b.0.most in
    (omega arith, all_both (λ n. f (suc n)) (λ n. g (suc n)) [] ms ps a.1 b.1)
all_both f g (l ∷ ls) [] ps a b = absurd a
all_both f g (l ∷ ls) (m ∷ ms) [] a b = absurd b
all_both f g (l ∷ ls) (m ∷ ms) (p ∷ ps) a b =
    (both (f 0) (g 0) l m p a.0 b.0, all_both (λ n. f (suc n)) (λ n. g (suc n)) ls ms ps a.1 b.1)

-- ----- what changes a list
pub map_advances : (f : Live → Live) → ((l : Live) → Advances 0 l (f l)) → (ls : List Live)
    → AllAdvance none ls (map f ls)
map_advances f each [] = tt
map_advances f each (l ∷ ls) = (each l, map_advances f each ls)

pub first_advances : (test : Live → Bool) (f : Live → Live) → ((l : Live) → HasHistory l → Advances 0 l (f l))
    → (ls : List Live) → Each HasHistory ls → AllAdvance none ls (change_first test f ls)
first_advances test f each [] legal = tt
first_advances test f each (l ∷ ls) legal = by_test (test l) (first_advances test f each ls legal.1) where
  by_test : (b : Bool) → AllAdvance none ls (change_first test f ls)
      → AllAdvance none (l ∷ ls) (elim b [ true ↦ f l ∷ ls | false ↦ l ∷ change_first test f ls ])
  by_test true rest = (each l legal.0, all_stay ls)
  by_test false rest = (stays l, rest)

pub at_advances : (n : ℕ) (f : Live → Live) → ((l : Live) → HasHistory l → Advances 0 l (f l)) → (ls : List Live)
    → Each HasHistory ls → AllAdvance none ls (change_at n f ls)
at_advances n f each [] legal = tt
at_advances zero f each (l ∷ ls) legal = (each l legal.0, all_stay ls)
at_advances (suc n) f each (l ∷ ls) legal = (stays l, at_advances n f each ls legal.1)

all_zero : (turns : ℕ → ℕ) → ((n : ℕ) → turns n ≡ 0) → (ls : List Live) → AllAdvance turns ls ls
all_zero turns zeros [] = tt
all_zero turns zeros (l ∷ ls) = (
  subst (λ (k : ℕ). Advances k l l) (sym (zeros 0)) (stays l),
  all_zero (λ n. turns (suc n)) (λ n. zeros (suc n)) ls,
)

suc_not_zero : (n : ℕ) → one_if (suc n == 0) ≡ 0
suc_not_zero n = grind (arith, tests)

zero_not_suc : (n : ℕ) → one_if (0 == suc n) ≡ 0
zero_not_suc n = grind (arith, tests)

suc_same : (i n : ℕ) → one_if (suc i == suc n) ≡ one_if (i == n)
suc_same i n = by_same (i == n) refl where
  by_same : (b : Bool) → (i == n) ≡ b → one_if (suc i == suc n) ≡ one_if b
  by_same true h = grind (arith, tests, h)
  by_same false h = grind (arith, tests, h)

pub timer_advances : (n : ℕ) (f : Live → Live) → ((l : Live) → HasHistory l → Advances 1 l (f l)) → (turns : ℕ → ℕ)
    → ((i : ℕ) → turns i ≡ one_if (i == n))
    → (ls : List Live) → Each HasHistory ls → AllAdvance turns ls (change_at n f ls)
timer_advances n f each turns is [] legal = tt
timer_advances zero f each turns is (l ∷ ls) legal = (
  subst (λ (k : ℕ). Advances k l (f l)) (sym (is 0)) (each l legal.0),
  all_zero (λ n. turns (suc n)) (λ n. is (suc n) ∙ suc_not_zero n) ls,
)
timer_advances (suc n) f each turns is (l ∷ ls) legal = (
  subst (λ (k : ℕ). Advances k l l) (sym (is 0 ∙ zero_not_suc n)) (stays l),
  timer_advances n f each (λ i. turns (suc i)) (λ i. is (suc i) ∙ suc_same i n) ls legal.1,
)

pub push_advances : (ls : List Live) (m : Live) → ticks_of m ≡ 0 → AllAdvance none ls (ls ++ m ∷ [])
push_advances [] m h = (omega arith, tt)
push_advances (l ∷ ls) m h = (stays l, push_advances ls m h)
