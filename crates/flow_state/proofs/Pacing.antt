-- Runs of quiet ticks with Controls between them.
use Rattle.std.proofs.Common.{◌≡◌, ℕ, zero, suc, ◌+◌, ◌*◌, ◌-◌, ◌≤◌, Bool, true, false, ◌&&◌, eqb, List, [], ◌∷◌}
use Rattle.std.proofs.Common.{◌++◌, length, get_or, take, slice_get, Option, Some, None, refl, sym, ◌∙◌, ap, arith}
use Rattle.std.proofs.Common.{subst}
use Rattle.std.proofs.Common.{append_assoc, append-nil, length-append}
use Rattle.std.specs.Prelude.{IfSome}
use Rattle.std.proofs.lemmas.Bool.Decides.{nat_tests}
use Rattle.std.proofs.lemmas.List.Concat.{flat_map-append}
use Rattle.tas_model.specs.declared.entry.Entry.{Entry}
use Rattle.tas_model.specs.declared.entry.Reply.{Reply}
use Rattle.tas_model.specs.LegalHistory.{same_caller}
use Rattle.flow_state.specs.declared.slot.CallSlot.TheVariants as cs
use Rattle.flow_state.specs.declared.slot.ReplySlot.TheVariants as rs
use Rattle.flow_state.specs.declared.slot.Slot.{Slot}
use Rattle.flow_state.specs.declared.paced.PacedRun.{PacedRun}
use Rattle.flow_state.specs.declared.stretch.QuietRun.{QuietRun}
use Rattle.flow_state.specs.declared.stretch.Stretch.{Stretch}
use Rattle.flow_state.specs.declared.stretch.Stretch.TheVariants.{Paced}
use Rattle.flow_state.specs.Arena.{Memory}
use Rattle.flow_state.specs.Calls.{reply_bytes}
use Rattle.flow_state.specs.Flow.{last_reply}
use Rattle.flow_state.specs.Slots.{entry_of, bytes_at, call_in, reply_part, reply_in}
use Rattle.flow_state.specs.Stretches.{quiet_ticks, run_entries, control_entry, Pace, paced, paced_times}
use Rattle.flow_state.specs.Stretches.{pace_of, paced_entries, first_paced, entries_in, entries_of, IsPacedRun}
use Rattle.flow_state.specs.Stretches.{follows_run, paces_on, AllWithin}
use Rattle.flow_state.proofs.Counting.{caller_is}
use Rattle.flow_state.proofs.Runs.{length_ticks}
use Rattle.flow_state.proofs.Looking.{last_reply_push}

-- ----- tests
both : (a b : Bool) → (a && b) ≡ true → (a ≡ true) × (b ≡ true)
both true true h = (refl, refl)
both true false h = absurd (cc (h))
both false b h = absurd (cc (h))

equal : (k j : ℕ) → eqb k j ≡ true → k ≡ j
equal k j h = grind (arith, nat_tests)

pub follows_is : (r : QuietRun) (t : ℕ) (s : Slot) → follows_run r t s ≡ true
    → (r.caller ≡ s.caller) × (s.number ≡ r.number + r.more + 1) × (t ≡ r.tick + r.more)
follows_is r t s h =
    let tick = both (same_caller r.caller s.caller && eqb s.number (r.number + r.more + 1)) _ h in
    let number = both (same_caller r.caller s.caller) _ tick.0 in
    (caller_is r.caller s.caller number.0, equal _ _ number.1, equal _ _ tick.1)

-- what runs of the same pace that follow on others have in common with them
pub record OnPace (r next : PacedRun) : Type 0 where
  pub pace : pace_of r ≡ pace_of next
  pub number : r.number ≡ next.run.number
  pub tick : r.tick ≡ next.run.tick

pub on_pace : (r next : PacedRun) → paces_on r next ≡ true → OnPace r next
on_pace r next h =
    let tick = both (same_caller r.run.caller next.run.caller && eqb r.run.more next.run.more && eqb r.cwnd next.cwnd
    && eqb r.ssthresh next.ssthresh && eqb r.number next.run.number) _ h in
    let number = both (same_caller r.run.caller next.run.caller && eqb r.run.more next.run.more
    && eqb r.cwnd next.cwnd && eqb r.ssthresh next.ssthresh) _ tick.0 in
    let ssthresh = both (same_caller r.run.caller next.run.caller && eqb r.run.more next.run.more
    && eqb r.cwnd next.cwnd) _ number.0 in
    let cwnd = both (same_caller r.run.caller next.run.caller && eqb r.run.more next.run.more) _ ssthresh.0 in
    let more = both (same_caller r.run.caller next.run.caller) _ cwnd.0 in
    let is-caller : r.run.caller ≡ next.run.caller = caller_is _ _ more.0 in
    let is-more : r.run.more ≡ next.run.more = equal _ _ more.1 in
    let is-cwnd : r.cwnd ≡ next.cwnd = equal _ _ cwnd.1 in
    let is-ssthresh : r.ssthresh ≡ next.ssthresh = equal _ _ ssthresh.1 in
    record {
      pace = cc (is-caller, is-more, is-cwnd, is-ssthresh);
      number = equal _ _ number.1;
      tick = equal _ _ tick.1;
    }

-- ----- more runs
-- so many and one more behind them
pub times_push : (p : Pace) (n t k : ℕ) → paced_times p n t (suc k)
    ≡ paced_times p n t k ++ paced p (n + k * (p.more + 2)) (t + k * (p.more + 1))
times_push p n t zero =
    let number : n ≡ n + 0 * (p.more + 2) = omega arith in
    let tick : t ≡ t + 0 * (p.more + 1) = omega arith in
    append-nil (paced p n t) ∙ cc (number, tick)
times_push p n t (suc k) =
    let number : n + (p.more + 2) + k * (p.more + 2) ≡ n + suc k * (p.more + 2) = omega arith in
    let tick : t + (p.more + 1) + k * (p.more + 1) ≡ t + suc k * (p.more + 1) = omega arith in
    let more = times_push p (n + (p.more + 2)) (t + (p.more + 1)) k in
    let last : paced p (n + (p.more + 2) + k * (p.more + 2)) (t + (p.more + 1) + k * (p.more + 1))
    ≡ paced p (n + suc k * (p.more + 2)) (t + suc k * (p.more + 1)) = cc (number, tick) in
    ap (λ (xs : List Entry). paced p n t ++ xs) (more
    ∙ ap (λ (xs : List Entry). paced_times p (n + (p.more + 2)) (t + (p.more + 1)) k ++ xs) last)
    ∙ sym (append_assoc (paced p n t) (paced_times p (n + (p.more + 2)) (t + (p.more + 1)) k)
    (paced p (n + suc k * (p.more + 2)) (t + suc k * (p.more + 1))))

same_times : (p q : Pace) (n m t u k j : ℕ) → p ≡ q → n ≡ m → t ≡ u → k ≡ j
    → paced_times p n t k ≡ paced_times q m u j
same_times p q n m t u k j pace number tick count = cc (pace, number, tick, count)

-- the first run, and those behind it
pub rest_is : (r : PacedRun) (n t k : ℕ) → r.more ≡ suc k → n ≡ r.run.number + (r.run.more + 2)
    → t ≡ r.run.tick + (r.run.more + 1)
    → paced_entries r ≡ first_paced r ++ paced_times (pace_of r) n t (suc k)
rest_is r n t k count number tick =
    ap (λ (xs : List Entry). first_paced r ++ xs)
    (same_times (pace_of r) (pace_of r) (r.run.number + (r.run.more + 2)) n (r.run.tick + (r.run.more + 1)) t r.more
    (suc k) refl (sym number) (sym tick) count)

pub alone : (r : PacedRun) → r.more ≡ 0 → paced_entries r ≡ first_paced r
alone r none =
    let count : suc r.more ≡ 1 = omega (arith, none) in
    ap (paced_times (pace_of r) r.run.number r.run.tick) count ∙ append-nil (first_paced r)

-- runs and the one behind them
pub joined_is : (r next : PacedRun) (k : ℕ) → IsPacedRun r → OnPace r next → next.more ≡ 0 → k ≡ suc r.more
    → paced_entries r ++ paced_entries next ≡ paced_times (pace_of r) r.run.number r.run.tick (suc k)
joined_is r next k is on one more =
    let p : Pace = pace_of r in
    let n : next.run.number ≡ r.run.number + suc r.more * (r.run.more + 2) = sym on.number ∙ is.number in
    let t : next.run.tick ≡ r.run.tick + suc r.more * (r.run.more + 1) = sym on.tick ∙ is.tick in
    let last : first_paced next
    ≡ paced p (r.run.number + suc r.more * (r.run.more + 2)) (r.run.tick + suc r.more * (r.run.more + 1)) =
    ap (λ (q : Pace). paced q next.run.number next.run.tick) (sym on.pace)
    ∙ (ap (λ (m : ℕ). paced p m next.run.tick) n
    ∙ ap (λ (m : ℕ). paced p (r.run.number + suc r.more * (r.run.more + 2)) m) t) in
    let count : suc (suc r.more) ≡ suc k = ap suc (sym more) in
    ap (λ (xs : List Entry). paced_entries r ++ xs) (alone next one ∙ last)
    ∙ (sym (times_push p r.run.number r.run.tick (suc r.more))
    ∙ ap (paced_times p r.run.number r.run.tick) count)

pub joined_fits : (r next : PacedRun) (k : ℕ) → IsPacedRun r → IsPacedRun next → OnPace r next → next.more ≡ 0
    → k ≡ suc r.more → IsPacedRun (record r { more = k; number = next.number; tick = next.tick })
joined_fits r next k is fits on one more =
    let same : next.run.more ≡ r.run.more = sym (ap (λ (p : Pace). p.more) on.pace) in
    let one-number : suc next.more * (next.run.more + 2) ≡ 1 * (r.run.more + 2) =
    ap (λ j. suc j * (next.run.more + 2)) one ∙ ap (λ j. 1 * (j + 2)) same in
    let one-tick : suc next.more * (next.run.more + 1) ≡ 1 * (r.run.more + 1) =
    ap (λ j. suc j * (next.run.more + 1)) one ∙ ap (λ j. 1 * (j + 1)) same in
    let numbers : suc k * (r.run.more + 2) ≡ suc (suc r.more) * (r.run.more + 2) =
    ap (λ j. suc j * (r.run.more + 2)) more in
    let ticks : suc k * (r.run.more + 1) ≡ suc (suc r.more) * (r.run.more + 1) =
    ap (λ j. suc j * (r.run.more + 1)) more in
    record {
      number = omega (arith, fits.number, one-number, on.number, is.number, numbers);
      tick = omega (arith, fits.tick, one-tick, on.tick, is.tick, ticks);
      low_number = fits.low_number;
      low_tick = fits.low_tick;
    }

-- ----- the run and its Control at the end of the stretches
pub control_is : (memory : Memory) (t : ℕ) (s : Slot) (cwnd ssthresh : ℕ) → s.call ≡ cs.Control
    → s.reply ≡ rs.Window cwnd ssthresh → entry_of memory t s ≡ control_entry s.caller s.number t cwnd ssthresh
control_is memory t s cwnd ssthresh call reply =
    let bytes : List ℕ = bytes_at memory.bytes s.bytes in
    cc (ap (call_in memory.came bytes) call, ap (reply_in (reply_part s.call bytes)) reply)

pub run_closed : (memory : Memory) (r : QuietRun) (t : ℕ) (s : Slot) (p : PacedRun) → s.call ≡ cs.Control
    → s.reply ≡ rs.Window p.cwnd p.ssthresh → follows_run r t s ≡ true → p.run ≡ r → p.more ≡ 0
    → run_entries r ++ entry_of memory t s ∷ [] ≡ paced_entries p
run_closed memory r t s p call reply follows run one =
    let is = follows_is r t s follows in
    let entry : entry_of memory t s
    ≡ control_entry r.caller (r.number + r.more + 1) (r.tick + r.more) p.cwnd p.ssthresh =
    control_is memory t s p.cwnd p.ssthresh call reply ∙ cc (is.0, is.1, is.2) in
    let first : run_entries r ++ control_entry r.caller (r.number + r.more + 1) (r.tick + r.more) p.cwnd p.ssthresh ∷ []
    ≡ first_paced p = cc (run) in
    ap (λ (x : Entry). run_entries r ++ x ∷ []) entry ∙ (first ∙ sym (alone p one))

-- the last two of a list
pub last_two : (ss : List Stretch) (a b d e : Stretch) → 2 ≤ length ss → get_or ss (length ss - 2) d ≡ a
    → get_or ss (length ss - 1) e ≡ b → ss ≡ take (length ss - 2) ss ++ a ∷ b ∷ []
last_two [] a b d e two first second = absurd (omega (arith, two))
last_two (x ∷ []) a b d e two first second = absurd (omega (arith, two))
last_two (x ∷ y ∷ []) a b d e two first second = cc (first, second)
last_two (x ∷ y ∷ z ∷ ss) a b d e two first second =
    let one : suc (length (z ∷ ss)) ≡ length (x ∷ y ∷ z ∷ ss) - 1 = omega arith in
    let less : length (z ∷ ss) ≡ length (x ∷ y ∷ z ∷ ss) - 2 = omega arith in
    let one' : length (z ∷ ss) ≡ length (y ∷ z ∷ ss) - 1 = omega arith in
    let less' : length ss ≡ length (y ∷ z ∷ ss) - 2 = omega arith in
    let f : get_or (y ∷ z ∷ ss) (length (y ∷ z ∷ ss) - 2) d ≡ a =
    subst (λ k. get_or (y ∷ z ∷ ss) k d ≡ a) less'
    (subst (λ k. get_or (x ∷ y ∷ z ∷ ss) k d ≡ a) (sym less) first) in
    let s : get_or (y ∷ z ∷ ss) (length (y ∷ z ∷ ss) - 1) e ≡ b =
    subst (λ k. get_or (y ∷ z ∷ ss) k e ≡ b) one'
    (subst (λ k. get_or (x ∷ y ∷ z ∷ ss) k e ≡ b) (sym one) second) in
    let rest = last_two (y ∷ z ∷ ss) a b d e (omega arith) f s in
    ap (λ (xs : List Stretch). x ∷ xs) rest
    ∙ ap (λ k. take k (x ∷ y ∷ z ∷ ss) ++ a ∷ b ∷ []) (suc_less ss)
  where
    suc_less : (zs : List Stretch) → suc (length (y ∷ z ∷ zs) - 2) ≡ length (x ∷ y ∷ z ∷ zs) - 2
    suc_less zs = omega arith

pub cut_two : (memory : Memory) (ss : List Stretch) (a b : Stretch) → ss ≡ take (length ss - 2) ss ++ a ∷ b ∷ []
    → entries_of memory ss
    ≡ entries_of memory (take (length ss - 2) ss) ++ (entries_in memory a ++ entries_in memory b)
cut_two memory ss a b cut =
    ap (entries_of memory) cut
    ∙ (flat_map-append (entries_in memory) (take (length ss - 2) ss) (a ∷ b ∷ [])
    ∙ ap (λ (xs : List Entry). entries_of memory (take (length ss - 2) ss) ++ (entries_in memory a ++ xs))
    (append-nil (entries_in memory b)))

pub cut_one : (memory : Memory) (ss : List Stretch) (a : Stretch) → ss ≡ take (length ss - 1) ss ++ a ∷ []
    → entries_of memory ss ≡ entries_of memory (take (length ss - 1) ss) ++ entries_in memory a
cut_one memory ss a cut =
    ap (entries_of memory) cut
    ∙ (flat_map-append (entries_in memory) (take (length ss - 1) ss) (a ∷ [])
    ∙ ap (λ (xs : List Entry). entries_of memory (take (length ss - 1) ss) ++ xs) (append-nil (entries_in memory a)))

-- where a value is there, what holds of it implies more
pub if_some : {X : Type 0} (P Q : X → Type 0) (o : Option X) → ((x : X) → P x → Q x) → IfSome o P → IfSome o Q
if_some P Q (Some x) more is = more x is
if_some P Q None more is = tt

-- ----- the entry at a place
pub length_paced : (p : Pace) (n t : ℕ) → length (paced p n t) ≡ p.more + 2
length_paced p n t =
    omega (
      arith,
      length-append (quiet_ticks p.caller n t (suc p.more))
          (control_entry p.caller (n + p.more + 1) (t + p.more) p.cwnd p.ssthresh ∷ []),
      length_ticks p.caller n t (suc p.more),
    )

-- the entry is looked for behind the runs before these
pub record Passed (self runs : PacedRun) (j left : ℕ) : Type 0 where
  pub fits : IsPacedRun runs
  pub at : slice_get (paced_entries self) j ≡ slice_get (paced_entries runs) left
  pub past : length (paced_entries self) + left ≡ length (paced_entries runs) + j

-- ----- the last reply
pub last_paced : (r : PacedRun) → reply_bytes (last_reply (paced_entries r)) ≡ []
last_paced r =
    let p : Pace = pace_of r in
    let n : ℕ = r.run.number + r.more * (p.more + 2) in
    let t : ℕ = r.run.tick + r.more * (p.more + 1) in
    let before : List Entry = paced_times p r.run.number r.run.tick r.more in
    let ticks : List Entry = quiet_ticks p.caller n t (suc p.more) in
    let control : Entry = control_entry p.caller (n + p.more + 1) (t + p.more) p.cwnd p.ssthresh in
    let all : paced_entries r ≡ (before ++ ticks) ++ control ∷ [] =
    times_push p r.run.number r.run.tick r.more ∙ sym (append_assoc before ticks (control ∷ [])) in
    ap (λ (xs : List Entry). reply_bytes (last_reply xs)) all
    ∙ ap (λ (y : Reply). reply_bytes y) (last_reply_push (before ++ ticks) control)

-- ----- stretches with fewer or more at their end
pub within_take : (n k m : ℕ) (ss : List Stretch) → AllWithin n k ss → AllWithin n k (take m ss)
within_take n k zero ss all = tt
within_take n k (suc m) [] all = tt
within_take n k (suc m) (s ∷ ss) all = (all.0, within_take n k m ss all.1)

take_take : (m n : ℕ) (ss : List Stretch) → m ≤ n → take m (take n ss) ≡ take m ss
take_take zero n ss few = refl
take_take (suc m) zero ss few = absurd (omega (arith, few))
take_take (suc m) (suc n) [] few = refl
take_take (suc m) (suc n) (s ∷ ss) few = ap (λ (xs : List Stretch). s ∷ xs) (take_take m n ss (omega (arith, few)))

take_length : (n : ℕ) (ss : List Stretch) → n ≤ length ss → length (take n ss) ≡ n
take_length zero ss few = refl
take_length (suc n) [] few = absurd (omega (arith, few))
take_length (suc n) (s ∷ ss) few = ap suc (take_length n ss (omega (arith, few)))

-- two taken off, one after the other
pub two_off : (ss one two : List Stretch) (n m : ℕ) → 2 ≤ length ss → n ≡ length ss → m ≡ length one
    → one ≡ take (n - 1) ss → two ≡ take (m - 1) one → two ≡ take (length ss - 2) ss
two_off ss one two n m some all fewer first second =
    let count : m - 1 ≡ length ss - 2 =
    omega (arith, some, all, fewer, ap (length {A = Stretch}) first, take_length (n - 1) ss (omega (arith, all))) in
    second ∙ (ap (take (m - 1)) first ∙ (take_take (m - 1) (n - 1) ss (omega (arith, count, some, all))
    ∙ ap (λ j. take j ss) count))

pub entries_push : (memory : Memory) (ss : List Stretch) (s : Stretch)
    → entries_of memory (ss ++ s ∷ []) ≡ entries_of memory ss ++ entries_in memory s
entries_push memory ss s =
    flat_map-append (entries_in memory) ss (s ∷ [])
    ∙ ap (λ (xs : List Entry). entries_of memory ss ++ xs) (append-nil (entries_in memory s))

-- runs that take the place of the last stretch, and have those behind it too
pub put_joined : (memory : Memory) (ss seen short after : List Stretch) (n : ℕ) (runs next : PacedRun) → seen ≡ ss
    → n ≡ length ss → short ≡ take (n - 1) ss → after ≡ short ++ Paced runs ∷ []
    → entries_of memory seen ++ paced_entries next
    ≡ entries_of memory (take (length seen - 1) seen) ++ paced_entries runs
    → entries_of memory after ≡ entries_of memory ss ++ paced_entries next
put_joined memory ss seen short after n runs next same all off on is =
    let there : entries_of memory ss ++ paced_entries next
    ≡ entries_of memory (take (length ss - 1) ss) ++ paced_entries runs =
    subst (λ (xs : List Stretch). entries_of memory xs ++ paced_entries next
    ≡ entries_of memory (take (length xs - 1) xs) ++ paced_entries runs) same is in
    let off' : short ≡ take (length ss - 1) ss = off ∙ ap (λ j. take (j - 1) ss) all in
    ap (entries_of memory) on
    ∙ (entries_push memory short (Paced runs)
    ∙ (ap (λ (xs : List Stretch). entries_of memory xs ++ paced_entries runs) off' ∙ sym there))

-- the run and the Control at the end, and what takes their place
pub run_put : (memory : Memory) (ss seen short after : List Stretch) (run : PacedRun) → seen ≡ ss
    → short ≡ take (length ss - 2) ss → entries_of memory after ≡ entries_of memory short ++ paced_entries run
    → entries_of memory seen ≡ entries_of memory (take (length seen - 2) seen) ++ paced_entries run
    → entries_of memory after ≡ entries_of memory ss
run_put memory ss seen short after run same off on is =
    let there : entries_of memory ss ≡ entries_of memory (take (length ss - 2) ss) ++ paced_entries run =
    subst (λ (xs : List Stretch). entries_of memory xs
    ≡ entries_of memory (take (length xs - 2) xs) ++ paced_entries run) same is in
    on ∙ (ap (λ (xs : List Stretch). entries_of memory xs ++ paced_entries run) off ∙ sym there)
