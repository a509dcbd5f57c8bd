-- Lines of quiet ticks, whose ticks and numbers rise.
use Rattle.std.proofs.Common.{◌≡◌, ℕ, zero, suc, ◌+◌, ◌/◌, ◌%◌, ◌^◌, ◌<◌, ◌≤◌, List, [], ◌∷◌, ◌++◌, length}
use Rattle.std.proofs.Common.{codes, decimal, refl, ap, sym, ◌∙◌, append_assoc, arith}
use Rattle.std.proofs.lemmas.Fmt.{decimal_digit, decimal_step}
use Rattle.std.proofs.lemmas.List.{length-append}
use Rattle.tas_model.specs.declared.entry.Caller.{Caller}
use Rattle.tas_runs.specs.Report.{entry_text, entries_text, caller_text}
use Rattle.flow_state.specs.declared.stretch.QuietRun.{QuietRun}
use Rattle.flow_state.specs.Stretches.{quiet_tick, quiet_ticks, run_entries}
use Rattle.run_texts.specs.Counting.{lines_from, AreAlike}
use Rattle.run_texts.proofs.Counting.{alike_by_two}

-- all digits of a number but the last
abbrev stem_of : ℕ → List ℕ
stem_of zero = []
stem_of (suc n) = decimal (suc n)

abbrev pub stem : ℕ → List ℕ
stem n = stem_of (n / 10)

pub decimal_ends : (n : ℕ) → n < 2 ^ 64 → decimal n ≡ stem n ++ (48 + n % 10) ∷ []
decimal_ends n small = by_front (n / 10) refl
  where
    by_front : (m : ℕ) → n / 10 ≡ m → decimal n ≡ stem_of m ++ (48 + n % 10) ∷ []
    by_front zero e =
        let is : n % 10 ≡ n = omega (arith, e) in
        decimal_digit n (omega (arith, e)) ∙ ap (λ (d : ℕ). (48 + d) ∷ []) (sym is)
    by_front (suc m) e = decimal_step n (omega (arith, e)) small ∙ ap (λ (k : ℕ). decimal k ++ (48 + n % 10) ∷ []) e

-- so much more is in the last digit
pub decimal_more : (n k : ℕ) → n % 10 + k ≤ 9 → n + k < 2 ^ 64 → decimal (n + k) ≡ stem n ++ (48 + n % 10 + k) ∷ []
decimal_more n k few small =
    let front : (n + k) / 10 ≡ n / 10 = omega (arith, few) in
    let end : 48 + (n + k) % 10 ≡ 48 + n % 10 + k = omega (arith, few) in
    decimal_ends (n + k) small ∙ (ap (λ (m : ℕ). stem_of m ++ (48 + (n + k) % 10) ∷ []) front
    ∙ ap (λ (d : ℕ). stem n ++ d ∷ []) end)

-- ----- the line of a quiet tick
abbrev pub mark : Caller → List ℕ
mark c = (codes " " ++ caller_text c) ++ codes "."

abbrev tail : List ℕ
tail = codes " tick = quiet" ++ 10 ∷ []

pub in_order : (t s k p n a b c d e : List ℕ) → ((((((((t ++ s) ++ k) ++ p) ++ n) ++ a) ++ b) ++ c) ++ d) ++ e
    ≡ t ++ (((s ++ k) ++ p) ++ (n ++ (a ++ (b ++ (c ++ (d ++ e))))))
in_order t s k p n a b c d e = simp append_assoc refl

pub line_is : (c : Caller) (n t : ℕ) → entry_text [] (quiet_tick c n t) ≡ decimal t ++ (mark c ++ (decimal n ++ tail))
line_is c n t = in_order (decimal t) (codes " ") (caller_text c) (codes ".") (decimal n) (codes " ") (codes "tick")
    (codes " = ") (codes "quiet") (10 ∷ [])

-- with the last digits apart
split : (xs m ys e : List ℕ) (x y : ℕ) → (xs ++ x ∷ []) ++ (m ++ ((ys ++ y ∷ []) ++ e)) ≡ xs ++ x ∷ (m ++ (ys ++ y ∷ e))
split xs m ys e x y = append_assoc xs (x ∷ []) (m ++ ((ys ++ y ∷ []) ++ e))
    ∙ ap (λ (l : List ℕ). xs ++ x ∷ (m ++ l)) (append_assoc ys (y ∷ []) e)

line_split : (c : Caller) (n t k : ℕ) → n % 10 + k ≤ 9 → t % 10 + k ≤ 9 → n + k < 2 ^ 64 → t + k < 2 ^ 64
    → entry_text [] (quiet_tick c (n + k) (t + k))
    ≡ stem t ++ (48 + t % 10 + k) ∷ (mark c ++ (stem n ++ (48 + n % 10 + k) ∷ tail))
line_split c n t k few early small low =
    line_is c (n + k) (t + k)
    ∙ (ap (λ (l : List ℕ). l ++ (mark c ++ (decimal (n + k) ++ tail))) (decimal_more t k early low)
    ∙ (ap (λ (l : List ℕ). (stem t ++ (48 + t % 10 + k) ∷ []) ++ (mark c ++ (l ++ tail))) (decimal_more n k few small)
    ∙ split (stem t) (mark c) (stem n) tail (48 + t % 10 + k) (48 + n % 10 + k)))

-- its digits rise by one from one tick to the next
pub ticks_alike : (c : Caller) (n t j more first second : ℕ) → j ≤ more → n + more < 2 ^ 64 → t + more < 2 ^ 64
    → first + 1 ≡ length (decimal (t + j))
    → second + 1 ≡ length (decimal (t + j)) + length (mark c) + length (decimal (n + j))
    → AreAlike (λ (i : ℕ). entry_text [] (quiet_tick c (n + i) (t + i))) j more first second
ticks_alike c n t j more first second within small low at behind =
    let m : ℕ = n + j in
    let u : ℕ = t + j in
    let tick : length (decimal u) ≡ length (stem u) + 1 =
    ap (length {A = ℕ}) (decimal_ends u (omega (arith, low, within))) ∙ length-append (stem u) ((48 + u % 10) ∷ []) in
    let number : length (decimal m) ≡ length (stem m) + 1 =
    ap (length {A = ℕ}) (decimal_ends m (omega (arith, small, within)))
    ∙ length-append (stem m) ((48 + m % 10) ∷ []) in
    alike_by_two (λ (i : ℕ). entry_text [] (quiet_tick c (n + i) (t + i))) j more first second (48 + u % 10)
    (48 + m % 10) (stem u) (mark c ++ stem m) tail within (omega (arith, at, tick))
    (omega (arith, behind, tick, number, length-append (mark c) (stem m))) (omega arith) (omega arith) (omega arith)
    (omega arith)
    (λ k inside few less.
    let number_is : n + (j + k) ≡ m + k = omega arith in
    let tick_is : t + (j + k) ≡ u + k = omega arith in
    ap (λ (i : ℕ). entry_text [] (quiet_tick c i (t + (j + k)))) number_is
    ∙ (ap (λ (i : ℕ). entry_text [] (quiet_tick c (m + k) i)) tick_is
    ∙ (line_split c m u k (omega (arith, less)) (omega (arith, few)) (omega (arith, small, inside))
    (omega (arith, low, inside))
    ∙ ap (λ (l : List ℕ). stem u ++ (48 + u % 10 + k) ∷ l)
    (sym (append_assoc (mark c) (stem m) ((48 + m % 10 + k) ∷ tail))))))

-- ----- lines one after another, whatever the names of hosts
pub ticks_are : (names : List (List ℕ)) (c : Caller) (n t j k : ℕ)
    → lines_from (λ (i : ℕ). entry_text [] (quiet_tick c (n + i) (t + i))) j k
    ≡ entries_text names (quiet_ticks c (n + j) (t + j) k)
ticks_are names c n t j zero = refl
ticks_are names c n t j (suc k) =
    let number : n + (j + 1) ≡ n + j + 1 = omega arith in
    let tick : t + (j + 1) ≡ t + j + 1 = omega arith in
    ap (λ (l : List ℕ). entry_text [] (quiet_tick c (n + j) (t + j)) ++ l) (ticks_are names c n t (j + 1) k
    ∙ (ap (λ (m : ℕ). entries_text names (quiet_ticks c m (t + (j + 1)) k)) number
    ∙ ap (λ (m : ℕ). entries_text names (quiet_ticks c (n + j + 1) m k)) tick))

pub run_is : (names : List (List ℕ)) (r : QuietRun)
    → lines_from (λ (i : ℕ). entry_text [] (quiet_tick r.caller (r.number + i) (r.tick + i))) 0 (r.more + 1)
    ≡ entries_text names (run_entries r)
run_is names r =
    let number : r.number + 0 ≡ r.number = omega arith in
    let tick : r.tick + 0 ≡ r.tick = omega arith in
    let count : r.more + 1 ≡ suc r.more = omega arith in
    ticks_are names r.caller r.number r.tick 0 (r.more + 1)
    ∙ (ap (λ (m : ℕ). entries_text names (quiet_ticks r.caller m (r.tick + 0) (r.more + 1))) number
    ∙ (ap (λ (m : ℕ). entries_text names (quiet_ticks r.caller r.number m (r.more + 1))) tick
    ∙ ap (λ (m : ℕ). entries_text names (quiet_ticks r.caller r.number r.tick m)) count))
