-- Runs of quiet ticks, and one tick more.
use Rattle.std.proofs.Common.{◌≡◌, ℕ, zero, suc, ◌+◌, ◌-◌, ◌<◌, Bool, true, false, ◌&&◌, eqb, List, [], ◌∷◌, ◌++◌}
use Rattle.std.proofs.Common.{length, get_or, set, slice_get, Option, Some, refl, sym, ◌∙◌, ap, subst, arith}
use Rattle.std.proofs.Common.{append_assoc, append-nil}
use Rattle.std.proofs.lemmas.Bool.Decides.{nat_tests}
use Rattle.std.proofs.lemmas.Option.{slice_get-get_or}
use Rattle.tas_model.specs.declared.entry.Caller.{Caller}
use Rattle.tas_model.specs.declared.entry.Entry.{Entry}
use Rattle.tas_model.specs.LegalHistory.{last_tick, same_caller}
use Rattle.flow_state.specs.declared.slot.CallSlot.{CallSlot}
use Rattle.flow_state.specs.declared.slot.CallSlot.TheVariants as cs
use Rattle.flow_state.specs.declared.slot.ReplySlot.{ReplySlot}
use Rattle.flow_state.specs.declared.slot.ReplySlot.TheVariants as rs
use Rattle.flow_state.specs.declared.slot.Slot.{Slot}
use Rattle.flow_state.specs.declared.stretch.QuietRun.{QuietRun}
use Rattle.flow_state.specs.declared.stretch.Stretch.{Stretch}
use Rattle.flow_state.specs.declared.stretch.Stretch.TheVariants.{Quiet}
use Rattle.flow_state.specs.Arena.{Memory}
use Rattle.flow_state.specs.Slots.{entry_of, bytes_at, call_in, reply_part, reply_in}
use Rattle.flow_state.specs.Stretches.{quiet_tick, quiet_ticks, run_entries, entries_in, entries_of, StretchWithin}
use Rattle.flow_state.specs.Stretches.{AllWithin, is_quiet_pair, is_quiet_tick, comes_next, ends_so, goes_on}
use Rattle.flow_state.proofs.Counting.{caller_is}

-- the last of so many and one more
pub ticks_push : (c : Caller) (n t k : ℕ) → quiet_ticks c n t (suc k) ≡ quiet_ticks c n t k
    ++ quiet_tick c (n + k) (t + k) ∷ []
ticks_push c n t zero =
    let number : n ≡ n + 0 = omega arith in
    let tick : t ≡ t + 0 = omega arith in
    let same : quiet_tick c n t ≡ quiet_tick c (n + 0) (t + 0) = cc (number, tick) in
    ap (λ (x : Entry). x ∷ []) same
ticks_push c n t (suc k) =
    let number : n + 1 + k ≡ n + suc k = omega arith in
    let tick : t + 1 + k ≡ t + suc k = omega arith in
    let same : quiet_tick c (n + 1 + k) (t + 1 + k) ≡ quiet_tick c (n + suc k) (t + suc k) = cc (number, tick) in
    ap (λ (xs : List Entry). quiet_tick c n t ∷ xs) (ticks_push c (n + 1) (t + 1) k
    ∙ ap (λ (x : Entry). quiet_ticks c (n + 1) (t + 1) k ++ x ∷ []) same)

pub tick_at : (c : Caller) (n t k j : ℕ) → j < k
    → slice_get (quiet_ticks c n t k) j ≡ Some (quiet_tick c (n + j) (t + j))
tick_at c n t zero j below = absurd (omega arith)
tick_at c n t (suc k) zero below =
    let number : n ≡ n + 0 = omega arith in
    let tick : t ≡ t + 0 = omega arith in
    let same : quiet_tick c n t ≡ quiet_tick c (n + 0) (t + 0) = cc (number, tick) in
    ap (λ (x : Entry). Some x) same
tick_at c n t (suc k) (suc j) below =
    let number : n + 1 + j ≡ n + suc j = omega arith in
    let tick : t + 1 + j ≡ t + suc j = omega arith in
    let same : quiet_tick c (n + 1 + j) (t + 1 + j) ≡ quiet_tick c (n + suc j) (t + suc j) = cc (number, tick) in
    tick_at c (n + 1) (t + 1) k j (omega arith) ∙ ap (λ (x : Entry). Some x) same

pub length_ticks : (c : Caller) (n t k : ℕ) → length (quiet_ticks c n t k) ≡ k
length_ticks c n t zero = refl
length_ticks c n t (suc k) = ap suc (length_ticks c (n + 1) (t + 1) k)

-- ----- the next quiet tick of a run
pair_is : (c : CallSlot) (r : ReplySlot) → is_quiet_pair c r ≡ true → (c ≡ cs.Tick) × (r ≡ rs.Quiet)
pair_is cs.Tick rs.Quiet h = (refl, refl)
pair_is _ _ h = absurd (cc (h))

three : (a b c : Bool) → (a && b && c) ≡ true → (a ≡ true) × (b ≡ true) × (c ≡ true)
three true true true h = (refl, refl, refl)
three true true false h = absurd (cc (h))
three true false c h = absurd (cc (h))
three false b c h = absurd (cc (h))

equal : (k j : ℕ) → eqb k j ≡ true → k ≡ j
equal k j h = grind (arith, nat_tests)

pub next_is : (r : QuietRun) (caller : Caller) (number tick : ℕ) → comes_next r caller number tick ≡ true
    → (r.caller ≡ caller) × (number ≡ r.number + r.more + 1) × (tick ≡ r.tick + r.more + 1)
next_is r caller number tick h =
    let all = three (same_caller r.caller caller) (eqb number (r.number + r.more + 1))
    (eqb tick (r.tick + r.more + 1)) h in
    (caller_is r.caller caller all.0, equal _ _ all.1, equal _ _ all.2)

pub quiet_entry : (memory : Memory) (t : ℕ) (s : Slot) → is_quiet_tick s ≡ true
    → entry_of memory t s ≡ quiet_tick s.caller s.number t
quiet_entry memory t s h = let is : (s.call ≡ cs.Tick) × (s.reply ≡ rs.Quiet) = pair_is s.call s.reply h in
    let bytes : List ℕ = bytes_at memory.bytes s.bytes in
    cc (ap (call_in memory.came bytes) is.0, ap (reply_in (reply_part s.call bytes)) is.1)

-- so many, and so many behind them
pub ticks_then : (c : Caller) (n t j k : ℕ) → quiet_ticks c n t (j + k)
    ≡ quiet_ticks c n t j ++ quiet_ticks c (n + j) (t + j) k
ticks_then c n t zero k =
    let number : n ≡ n + 0 = omega arith in
    let tick : t ≡ t + 0 = omega arith in
    let count : 0 + k ≡ k = omega arith in
    ap (quiet_ticks c n t) count ∙ (ap (λ (m : ℕ). quiet_ticks c m t k) number
    ∙ ap (λ (m : ℕ). quiet_ticks c (n + 0) m k) tick)
ticks_then c n t (suc j) k =
    let number : n + 1 + j ≡ n + suc j = omega arith in
    let tick : t + 1 + j ≡ t + suc j = omega arith in
    let count : suc j + k ≡ suc (j + k) = omega arith in
    ap (quiet_ticks c n t) count
    ∙ ap (λ (xs : List Entry). quiet_tick c n t ∷ xs) (ticks_then c (n + 1) (t + 1) j k
    ∙ (ap (λ (m : ℕ). quiet_ticks c (n + 1) (t + 1) j ++ quiet_ticks c m (t + 1 + j) k) number
    ∙ ap (λ (m : ℕ). quiet_ticks c (n + 1) (t + 1) j ++ quiet_ticks c (n + suc j) m k) tick))

run_longer : (r : QuietRun) (caller : Caller) (n t k : ℕ) → comes_next r caller n t ≡ true
    → run_entries (record r { more = r.more + k }) ≡ run_entries r ++ quiet_ticks caller n t k
run_longer r caller n t k next =
    let is : (r.caller ≡ caller) × (n ≡ r.number + r.more + 1) × (t ≡ r.tick + r.more + 1) =
    next_is r caller n t next in
    let number : r.number + suc r.more ≡ n = omega (arith, is.1) in
    let tick : r.tick + suc r.more ≡ t = omega (arith, is.2) in
    let count : suc (r.more + k) ≡ suc r.more + k = omega arith in
    ap (quiet_ticks r.caller r.number r.tick) count
    ∙ (ticks_then r.caller r.number r.tick (suc r.more) k
    ∙ ap (λ (xs : List Entry). run_entries r ++ xs)
    (ap (λ (m : ℕ). quiet_ticks r.caller m (r.tick + suc r.more) k) number
    ∙ (ap (λ (m : ℕ). quiet_ticks r.caller n m k) tick ∙ ap (λ (c : Caller). quiet_ticks c n t k) is.0)))

-- the history with its last run lengthened by so many
pub longer : (memory : Memory) (ss : List Stretch) (i : ℕ) (d : Stretch) (r : QuietRun) (caller : Caller)
    (n t k : ℕ) → length ss ≡ suc i → get_or ss i d ≡ Quiet r → comes_next r caller n t ≡ true
    → entries_of memory (set ss i (Quiet (record r { more = r.more + k }))) ≡ entries_of memory ss
    ++ quiet_ticks caller n t k
longer memory [] i d r caller n t k len is next = absurd (omega (arith, len))
longer memory (x ∷ []) zero d r caller n t k len is next =
    let run : entries_in memory x ≡ run_entries r = ap (entries_in memory) is in
    append-nil (run_entries (record r { more = r.more + k }))
    ∙ (run_longer r caller n t k next
    ∙ ap (λ (xs : List Entry). xs ++ quiet_ticks caller n t k) (sym run ∙ sym (append-nil (entries_in memory x))))
longer memory (x ∷ []) (suc i) d r caller n t k len is next = absurd (omega (arith, len))
longer memory (x ∷ y ∷ ss) zero d r caller n t k len is next = absurd (omega (arith, len))
longer memory (x ∷ y ∷ ss) (suc i) d r caller n t k len is next =
    ap (λ (xs : List Entry). entries_in memory x ++ xs)
    (longer memory (y ∷ ss) i d r caller n t k (omega (arith, len)) is next)
    ∙ sym (append_assoc (entries_in memory x) (entries_of memory (y ∷ ss)) (quiet_ticks caller n t k))

-- what goes on has a last stretch
pub goes_somewhere : (ss : List Stretch) (caller : Caller) (n t : ℕ) → goes_on ss caller n t ≡ true
    → length ss ≡ suc (length ss - 1)
goes_somewhere [] caller n t goes = absurd (cc (goes))
goes_somewhere (s ∷ ss) caller n t goes = omega arith

-- where the last run goes on, the tick is its next one
pub goes_next : (ss : List Stretch) (i : ℕ) (d : Stretch) (r : QuietRun) (caller : Caller) (n t : ℕ)
    → length ss ≡ suc i → get_or ss i d ≡ Quiet r → goes_on ss caller n t ≡ true → comes_next r caller n t ≡ true
goes_next ss i d r caller n t len is goes =
    let last : length ss - 1 ≡ i = omega (arith, len) in
    let there : slice_get ss (length ss - 1) ≡ Some (Quiet r) = ap (slice_get ss) last
    ∙ (slice_get-get_or ss i d (omega (arith, len)) ∙ ap (λ (s : Stretch). Some s) is) in
    subst (λ (o : Option Stretch). ends_so o caller n t ≡ true) there goes

-- ----- the last tick
last_both : (t : ℕ) (xs ys : List Entry) → last_tick t (xs ++ ys) ≡ last_tick (last_tick t xs) ys
last_both t [] ys = refl
last_both t (x ∷ xs) ys = last_both x.tick xs ys

pub last_push : (t : ℕ) (xs : List Entry) (x : Entry) → last_tick t (xs ++ x ∷ []) ≡ x.tick
last_push t xs x = last_both t xs (x ∷ [])

last_run : (t : ℕ) (r : QuietRun) → last_tick t (run_entries r) ≡ r.tick + r.more
last_run t r = ap (last_tick t) (ticks_push r.caller r.number r.tick r.more)
    ∙ last_push t (quiet_ticks r.caller r.number r.tick r.more)
    (quiet_tick r.caller (r.number + r.more) (r.tick + r.more))

pub last_is : (memory : Memory) (t : ℕ) (ss : List Stretch) (i : ℕ) (d : Stretch) (r : QuietRun) → length ss ≡ suc i
    → get_or ss i d ≡ Quiet r → last_tick t (entries_of memory ss) ≡ r.tick + r.more
last_is memory t [] i d r len is = absurd (omega (arith, len))
last_is memory t (x ∷ []) zero d r len is =
    ap (last_tick t) (append-nil (entries_in memory x) ∙ ap (entries_in memory) is) ∙ last_run t r
last_is memory t (x ∷ []) (suc i) d r len is = absurd (omega (arith, len))
last_is memory t (x ∷ y ∷ ss) zero d r len is = absurd (omega (arith, len))
last_is memory t (x ∷ y ∷ ss) (suc i) d r len is = last_both t (entries_in memory x) (entries_of memory (y ∷ ss))
    ∙ last_is memory (last_tick t (entries_in memory x)) (y ∷ ss) i d r (omega (arith, len)) is

-- ----- what lies in memory
pub within_set : (n k : ℕ) (ss : List Stretch) (i : ℕ) (s : Stretch) → StretchWithin n k s → AllWithin n k ss
    → AllWithin n k (set ss i s)
within_set n k [] i s is all = tt
within_set n k (x ∷ ss) zero s is all = (is, all.1)
within_set n k (x ∷ ss) (suc i) s is all = (all.0, within_set n k ss i s is all.1)

pub within_push : (n k : ℕ) (ss : List Stretch) (s : Stretch) → StretchWithin n k s → AllWithin n k ss
    → AllWithin n k (ss ++ s ∷ [])
within_push n k [] s is all = (is, tt)
within_push n k (x ∷ ss) s is all = (all.0, within_push n k ss s is all.1)
