-- A replay, a batch at a time.
use Rattle.std.proofs.Common.{◌≡◌, ℕ, suc, ◌+◌, ◌<◌, ◌≤◌, ◌==◌, Bool, false, [], ◌∷◌, ◌++◌, List, length, map}
use Rattle.std.proofs.Common.{count_by, Result, Ok, IfOk, cond, refl, ap, subst, sym, ◌∙◌, arith, length-append}
use Rattle.std.proofs.lemmas.Bool.Decides.{nat_tests}
use Rattle.std.proofs.lemmas.List.{length-map}
use Rattle.std.proofs.lemmas.List.Sums.{sum_by-append}
use Rattle.tas_runs.specs.Records.{Item}
use Rattle.tas_runs.specs.Batches.{batches_of}
use Rattle.tas_runs.specs.LocalScript.{Shown, capture_scripts, due_in}
use Rattle.host_rounds.specs.Scripts.{Site}
use Rattle.host_rounds.specs.SerialOrder.{serial_tick, serial_ticks}
use Rattle.host_rounds.proofs.Loops.{ticks_done}
use Rattle.capture_items.proofs.Batches.{no_batch}
use Rattle.capture_items.proofs.Replays.{ticks_next}

-- the ticks of these records
abbrev pub ticks : (items : List Item) (t : ℕ) → Site (List Shown) → List Item → Site (List Shown)
ticks items t site xs = serial_ticks (capture_scripts items) t site (map due_in (batches_of xs))

-- the tick of a batch
abbrev pub tick : (items : List Item) (t : ℕ) → Site (List Shown) → (batch : List Item) → Site (List Shown)
tick items t site batch = serial_tick (capture_scripts items) t site (due_in batch)

-- the batches that are left after one more tick
pub next_played : (items xs batch rest : List Item) (t : ℕ) (site next whole : Site (List Shown))
    → batches_of xs ≡ batch ∷ batches_of rest → next ≡ tick items t site batch → ticks items t site xs ≡ whole
    → ticks items (t + 1) next rest ≡ whole
next_played items xs batch rest t site next whole first made so_far =
    ap (λ (s : Site (List Shown)). ticks items (t + 1) s rest) made
    ∙ (sym (ticks_next items xs batch rest t site first) ∙ so_far)

pub next_counted : (xs batch rest : List Item) (t whole : ℕ) → batches_of xs ≡ batch ∷ batches_of rest
    → t + length (batches_of xs) ≡ whole → (t + 1) + length (batches_of rest) ≡ whole
next_counted xs batch rest t whole first so_far =
    let len : length (batches_of xs) ≡ suc (length (batches_of rest)) = ap length first in
    omega (arith, len, so_far)

-- no batch is left
pub no_more : (items xs : List Item) (t : ℕ) (site whole : Site (List Shown)) → xs ≡ []
    → ticks items t site xs ≡ whole → site ≡ whole
no_more items xs t site whole none so_far =
    let empty : batches_of xs ≡ [] = ap batches_of none ∙ no_batch in
    let scripts = capture_scripts items in
    sym (ap (λ (bs : List (List Item)). serial_ticks scripts t site (map due_in bs)) empty ∙ ticks_done scripts t site)
    ∙ so_far

pub no_more_ticks : (xs : List Item) (t whole : ℕ) → xs ≡ [] → t + length (batches_of xs) ≡ whole → t ≡ whole
no_more_ticks xs t whole none so_far =
    let empty : length (batches_of xs) ≡ 0 = ap (λ (ys : List Item). length (batches_of ys)) none
    ∙ ap length no_batch in
    omega (arith, empty, so_far)

-- ----- the items that are left
pub items_left : (xs batch rest : List Item) (n m whole : ℕ) → xs ≡ batch ++ rest → m ≡ n + length batch
    → n + length xs ≡ whole → m + length rest ≡ whole
items_left xs batch rest n m whole front more so_far =
    let len : length xs ≡ length batch + length rest = ap length front ∙ length-append batch rest in
    omega (arith, len, more, so_far)

pub batch_within : {X : Type 0} (f : X → Item) (xs rest : List Item) (batch : List X) (n whole : ℕ)
    → xs ≡ map f batch ++ rest → n + length xs ≡ whole → n + length batch ≤ whole
batch_within f xs rest batch n whole front so_far =
    let len : length xs ≡ length (map f batch) + length rest = ap length front ∙ length-append (map f batch) rest in
    omega (arith, len, length-map batch f, so_far)

pub counted_left : (p : Item → Bool) (xs batch rest : List Item) (n m whole : ℕ) → xs ≡ batch ++ rest
    → m ≡ n + count_by p batch → n + count_by p xs ≡ whole → m + count_by p rest ≡ whole
counted_left p xs batch rest n m whole front more so_far =
    let len : count_by p xs ≡ count_by p batch + count_by p rest =
    ap (count_by p) front ∙ sum_by-append (λ (x : Item). cond (p x) 1 0) batch rest in
    omega (arith, len, more, so_far)

pub all_counted : (p : Item → Bool) (xs : List Item) (n whole : ℕ) → xs ≡ [] → n + count_by p xs ≡ whole → n ≡ whole
all_counted p xs n whole none so_far =
    let empty : count_by p xs ≡ 0 = ap (count_by p) none in
    omega (arith, empty, so_far)

pub none_left : {X : Type 0} (xs : List Item) (batch : List X) → (0 < length xs → 0 < length batch)
    → length batch ≡ 0 → xs ≡ []
none_left [] batch some empty = refl
none_left (x ∷ xs) batch some empty = absurd (omega (arith, some (omega arith), empty))

pub some_left : {X : Type 0} (f : X → Item) (xs rest : List Item) (batch : List X) → xs ≡ map f batch ++ rest
    → 0 < length batch → 0 < length xs
some_left f xs rest [] front some = absurd (omega (arith, some))
some_left f xs rest (x ∷ batch) front some =
    let len : length xs ≡ suc (length (map f batch ++ rest)) = ap length front in
    omega (arith, len)

pub some_there : {X : Type 0} (xs lent : List X) (n : ℕ) (b : Bool) → lent ≡ xs → length lent ≡ n → b ≡ (n == 0)
    → b ≡ false → 0 < length xs
some_there xs lent n b same len test apart =
    let not_none : (n == 0) ≡ false = sym test ∙ apart in
    let here : length lent ≡ length xs = ap length same in
    grind (arith, nat_tests, not_none, len, here)

-- what holds of an answer that is known
pub ok_gives : {T E : Type 0} (r : Result T E) (P : T → Type 0) (x : T) → r ≡ Ok x → IfOk r P → P x
ok_gives {T} {E} r P x is fact = subst (λ (s : Result T E). IfOk s P) is fact
