-- The application asks in the order of its scripts.
use Rattle.std.proofs.Common.{◌≡◌, ℕ, ◌+◌, ◌≤◌, ◌<◌, ◌==◌, Bool, true, false, cond, List, [], ◌∷◌, ◌++◌, map, fold}
use Rattle.std.proofs.Common.{filter, ◌||◌, refl, sym, subst, ap, ◌∙◌, true≢false, arith, tests, append_assoc}
use Rattle.std.proofs.Common.{if◌then◌else◌}
use Rattle.std.specs.List.{list_any}
use Rattle.tas_model.specs.declared.entry.FourTuple.{FourTuple}
use Rattle.host_rounds.specs.Lists.{Each}
use Rattle.host_rounds.specs.Hosts.{Live}
use Rattle.host_rounds.specs.Upkeep.{swept, all_swept}
use Rattle.host_rounds.specs.Deliveries.{Arrival}
use Rattle.host_rounds.specs.Scripts.{Site}
use Rattle.host_rounds.specs.Rounds.{Timer, Frame, Ask, Emission, does, timers_from, due_actions, OfScript, is_by}
use Rattle.host_rounds.specs.Rounds.{actions_of, on_host, Round}
use Rattle.tas_runs.specs.Records.{Content, Damaged, Remote, Local, Item}
use Rattle.tas_runs.specs.Batches.{is_of, clashes, NoneClash}
use Rattle.tas_runs.specs.LocalScript.{Stage, Beginning, Accepting, Sending, Shutting, Aborting, Receiving, Leaving}
use Rattle.tas_runs.specs.LocalScript.{stages, Shown, capture_scripts, arrivals_in, asks_of, asks_in, due_in}
use Rattle.tas_runs.specs.Asking.{RisesWithin, AreAsked, NumbersRise, IsCaptureBatch}
use Rattle.tas_runs.proofs.Followed.{same_number, same_is, number_same, stage_places, Act, ask, stage_for, stages_for}
use Rattle.tas_runs.proofs.Followed.{AllFollow, all_both, map_follows, none, swept_follows, all_stages, all_follow}

-- ----- the scripts of a batch
-- one record at most is of a four-tuple: where one is, none of a batch behind it is
any_last : (tuple : FourTuple) (earlier : List Item) (x : Item) → is_of tuple x ≡ true
    → list_any (is_of tuple) (earlier ++ x ∷ []) ≡ true
any_last tuple [] x h = rw h refl
any_last tuple (y ∷ earlier) x h = by_first (is_of tuple y) (any_last tuple earlier x h) where
  by_first : (b : Bool) → list_any (is_of tuple) (earlier ++ x ∷ []) ≡ true
      → (b || list_any (is_of tuple) (earlier ++ x ∷ [])) ≡ true
  by_first true rest = refl
  by_first false rest = rest

any_more : (tuple : FourTuple) (earlier : List Item) (x : Item) → list_any (is_of tuple) earlier ≡ true
    → list_any (is_of tuple) (earlier ++ x ∷ []) ≡ true
any_more tuple [] x h = absurd (true≢false (sym h))
any_more tuple (y ∷ earlier) x h = by_first (is_of tuple y) h (any_more tuple earlier x) where
  by_first : (b : Bool) → (b || list_any (is_of tuple) earlier) ≡ true
      → (list_any (is_of tuple) earlier ≡ true → list_any (is_of tuple) (earlier ++ x ∷ []) ≡ true)
      → (b || list_any (is_of tuple) (earlier ++ x ∷ [])) ≡ true
  by_first true h rest = refl
  by_first false h rest = rest h

clash_is : (tuple : FourTuple) (earlier : List Item) (number : ℕ) (content : Content)
    → list_any (is_of tuple) earlier ≡ true → is_of tuple (record { number = number; content = content }) ≡ true
    → clashes earlier (record { number = number; content = content }) ≡ true
clash_is tuple earlier number (Damaged rule) any h = absurd (true≢false (sym h))
clash_is tuple earlier number (Remote other seg) any h =
    subst (λ (own : FourTuple). list_any (is_of own) earlier ≡ true) (same_is tuple other h) any
clash_is tuple earlier number (Local other seg) any h =
    subst (λ (own : FourTuple). list_any (is_of own) earlier ≡ true) (same_is tuple other h) any

not_of : (tuple : FourTuple) (earlier : List Item) (x : Item) → list_any (is_of tuple) earlier ≡ true
    → clashes earlier x ≡ false → is_of tuple x ≡ false
not_of tuple earlier x any free = by_of (is_of tuple x) refl where
  by_of : (b : Bool) → is_of tuple x ≡ b → b ≡ false
  by_of true h = absurd (true≢false (sym (clash_is tuple earlier x.number x.content any h) ∙ free))
  by_of false h = refl

none_behind : (tuple : FourTuple) (earlier xs : List Item) → list_any (is_of tuple) earlier ≡ true
    → NoneClash earlier xs → Each (λ (y : Item). is_of tuple y ≡ false) xs
none_behind tuple earlier [] any free = tt
none_behind tuple earlier (y ∷ ys) any free =
    (not_of tuple earlier y any free.0, none_behind tuple (earlier ++ y ∷ []) ys (any_more tuple earlier y any) free.1)

-- the records of a four-tuple are those with one number
abbrev IsNumberOf : FourTuple → ℕ → Item → Type 0
IsNumberOf tuple n y = is_of tuple y ≡ (n == y.number)

others : (tuple : FourTuple) (n low : ℕ) (xs : List Item) → n < low → NumbersRise low xs
    → Each (λ (y : Item). is_of tuple y ≡ false) xs → Each (IsNumberOf tuple n) xs
others tuple n low [] small rise free = tt
others tuple n low (y ∷ ys) small rise free =
    let here : low ≤ y.number = rise.0 in
    let below : n < y.number = omega arith in
    let other : (n == y.number) ≡ false = grind (arith, tests, below) in
    (free.0 ∙ sym other, others tuple n (y.number + 1) ys (omega arith) rise.1 free.1)

number_of_tuple : (tuple : FourTuple) (low : ℕ) (earlier xs : List Item) → NoneClash earlier xs → NumbersRise low xs
    → (n : ℕ) × (low ≤ n) × Each (IsNumberOf tuple n) xs
number_of_tuple tuple low earlier [] free rise = (low, omega arith, tt)
number_of_tuple tuple low earlier (x ∷ xs) free rise =
    by_of (is_of tuple x) refl (number_of_tuple tuple (x.number + 1) (earlier ++ x ∷ []) xs free.1 rise.1) where
      by_of : (b : Bool) → is_of tuple x ≡ b → (n : ℕ) × (x.number + 1 ≤ n) × Each (IsNumberOf tuple n) xs
          → (n : ℕ) × (low ≤ n) × Each (IsNumberOf tuple n) (x ∷ xs)
      by_of true h rest =
          let here : low ≤ x.number = rise.0 in (
            x.number,
            here,
            (
              h ∙ sym (number_same x.number),
              others tuple x.number (x.number + 1) xs (omega arith) rise.1
                  (none_behind tuple (earlier ++ x ∷ []) xs (any_last tuple earlier x h) free.1),
            ),
          )
      by_of false h rest =
          let here : low ≤ x.number = rise.0 in
          let past : x.number + 1 ≤ rest.0 = rest.1 in
          let above : x.number < rest.0 = omega arith in
          let other : (rest.0 == x.number) ≡ false = grind (arith, tests, above) in
          (rest.0, omega arith, (h ∙ sym other, rest.2))

-- ----- by number
abbrev by_script : List Item → (number : ℕ) → Act → Bool
by_script items n action = is_by (capture_scripts items) (OfScript n) action

abbrev frame_actions : List Arrival → List Act
frame_actions frames = map Frame frames

abbrev ask_of : Item → List Act
ask_of x = map Ask (asks_of x)

abbrev ask_actions : List Item → List Act
ask_actions xs = map Ask (asks_in xs)

abbrev stage_numbered : ℕ → Act → List Stage
stage_numbered n (Ask a) = if n == a.item.number then a.stage ∷ [] else []
stage_numbered n _ = []

abbrev stages_numbered : ℕ → List Act → List Stage
stages_numbered n [] = []
stages_numbered n (a ∷ rest) = stage_numbered n a ++ stages_numbered n rest

numbered_filter : (items : List Item) (n : ℕ) (xs : List Act)
    → stages_numbered n (filter (by_script items n) xs) ≡ stages_numbered n xs
numbered_filter items n [] = refl
numbered_filter items n (a ∷ xs) = by_test (by_script items n a) refl (numbered_filter items n xs) where
  other : (a : Act) → by_script items n a ≡ false → stage_numbered n a ≡ []
  other (Timer i) h = refl
  other (Frame x) h = refl
  other (Ask a) h = ap (λ (b : Bool). if b then a.stage ∷ [] else []) h
  other (Emission i) h = refl

  by_test : (b : Bool) → by_script items n a ≡ b
      → stages_numbered n (filter (by_script items n) xs) ≡ stages_numbered n xs
      → stages_numbered n (cond b (a ∷ filter (by_script items n) xs) (filter (by_script items n) xs))
      ≡ stage_numbered n a ++ stages_numbered n xs
  by_test true h rest = ap (λ (zs : List Stage). stage_numbered n a ++ zs) rest
  by_test false h rest = rest ∙ ap (λ (zs : List Stage). zs ++ stages_numbered n xs) (sym (other a h))

numbered_append : (n : ℕ) (xs ys : List Act) → stages_numbered n (xs ++ ys) ≡ stages_numbered n xs
    ++ stages_numbered n ys
numbered_append n [] ys = refl
numbered_append n (x ∷ xs) ys = ap (λ (zs : List Stage). stage_numbered n x ++ zs) (numbered_append n xs ys)
    ∙ sym (append_assoc (stage_numbered n x) (stages_numbered n xs) (stages_numbered n ys))

timers_numbered : (n i : ℕ) (ls : List Live) → stages_numbered n (timers_from i ls) ≡ []
timers_numbered n i [] = refl
timers_numbered n i (l ∷ ls) = timers_numbered n (i + 1) ls

frames_numbered : (n : ℕ) (frames : List Arrival) → stages_numbered n (frame_actions frames) ≡ []
frames_numbered n [] = refl
frames_numbered n (x ∷ xs) = frames_numbered n xs

-- the script of one record
abbrev script_where : Bool → List Stage
script_where b =
    (if b then Beginning ∷ [] else []) ++ ((if b then Accepting ∷ [] else [])
    ++ ((if b then Sending ∷ [] else []) ++ ((if b then Shutting ∷ [] else [])
    ++ ((if b then Aborting ∷ [] else []) ++ ((if b then Receiving ∷ [] else [])
    ++ ((if b then Leaving ∷ [] else []) ++ []))))))

script_is : (b : Bool) → script_where b ≡ (if b then stages else [])
script_is true = refl
script_is false = refl

later_none : (n low : ℕ) (xs : List Item) → n < low → NumbersRise low xs → stages_numbered n (ask_actions xs) ≡ []
later_none n low [] small rise = refl
later_none n low (x ∷ xs) small rise =
    let here : low ≤ x.number = rise.0 in
    let below : n < x.number = omega arith in
    let other : (n == x.number) ≡ false = grind (arith, tests, below) in
    numbered_append n (ask_of x) (ask_actions xs)
    ∙ ap (λ (zs : List Stage). zs ++ stages_numbered n (ask_actions xs)) (script_is (n == x.number)
    ∙ ap (λ (b : Bool). if b then stages else []) other)
    ∙ later_none n (x.number + 1) xs (omega arith) rise.1

-- all stages of a record, or none
one_script : (n low : ℕ) (xs : List Item) → NumbersRise low xs
    → RisesWithin 0 7 (stage_places (stages_numbered n (ask_actions xs)))
one_script n low [] rise = omega arith
one_script n low (x ∷ xs) rise =
    subst (λ (ss : List Stage). RisesWithin 0 7 (stage_places ss)) (sym (numbered_append n (ask_of x) (ask_actions xs)))
    (subst (λ (ss : List Stage). RisesWithin 0 7 (stage_places (ss ++ stages_numbered n (ask_actions xs))))
    (sym (script_is (n == x.number))) (by_number (n == x.number) refl (one_script n (x.number + 1) xs rise.1)))
  where
    by_number : (b : Bool) → (n == x.number) ≡ b → RisesWithin 0 7 (stage_places (stages_numbered n (ask_actions xs)))
        → RisesWithin 0 7 (stage_places ((if b then stages else []) ++ stages_numbered n (ask_actions xs)))
    by_number false h rest = rest
    by_number true h rest =
        let same : n ≡ x.number = same_number n x.number h in
        subst (λ (ss : List Stage). RisesWithin 0 7 (stage_places (stages ++ ss)))
        (sym (later_none n (x.number + 1) xs (omega arith) rise.1)) (
          omega arith,
          (omega arith, (omega arith, (omega arith, (omega arith, (omega arith, (omega arith, omega arith)))))),
        )

-- ----- one four-tuple
-- an action asks the same of a four-tuple as of a number
abbrev Agrees : FourTuple → ℕ → Act → Type 0
Agrees tuple n a = stage_for tuple a ≡ stage_numbered n a

each_append : (P : Act → Type 0) (xs ys : List Act) → Each P xs → Each P ys → Each P (xs ++ ys)
each_append P [] ys a b = b
each_append P (x ∷ xs) ys a b = (a.0, each_append P xs ys a.1 b)

each_filter : (P : Act → Type 0) (test : Act → Bool) (xs : List Act) → Each P xs → Each P (filter test xs)
each_filter P test [] all = tt
each_filter P test (x ∷ xs) all = by_test (test x) (each_filter P test xs all.1) where
  by_test : (b : Bool) → Each P (filter test xs) → Each P (cond b (x ∷ filter test xs) (filter test xs))
  by_test true rest = (all.0, rest)
  by_test false rest = rest

each_rest : (P : Act → Type 0) (test : Act → Bool) (x : Act) (xs : List Act) → Each P (filter test (x ∷ xs))
    → Each P (filter test xs)
each_rest P test x xs all = by_test (test x) all where
  by_test : (b : Bool) → Each P (cond b (x ∷ filter test xs) (filter test xs)) → Each P (filter test xs)
  by_test true h = h.1
  by_test false h = h

each_first : (P : Act → Type 0) (test : Act → Bool) (x : Act) (xs : List Act) → test x ≡ true
    → Each P (filter test (x ∷ xs)) → P x
each_first P test x xs h all = by_test (test x) h all where
  by_test : (b : Bool) → b ≡ true → Each P (cond b (x ∷ filter test xs) (filter test xs)) → P x
  by_test true h a = a.0
  by_test false h a = absurd (true≢false (sym h))

-- what holds of each script's actions holds of all actions
agree_all : (items : List Item) (tuple : FourTuple) (n : ℕ) (xs : List Act)
    → ((m : ℕ) → Each (Agrees tuple n) (filter (by_script items m) xs)) → Each (Agrees tuple n) xs
agree_all items tuple n [] each = tt
agree_all items tuple n (Timer i ∷ xs) each =
    (refl, agree_all items tuple n xs (λ m. each_rest (Agrees tuple n) (by_script items m) (Timer i) xs (each m)))
agree_all items tuple n (Frame x ∷ xs) each =
    (refl, agree_all items tuple n xs (λ m. each_rest (Agrees tuple n) (by_script items m) (Frame x) xs (each m)))
agree_all items tuple n (Ask a ∷ xs) each = (
  each_first (Agrees tuple n) (by_script items a.item.number) (Ask a) xs (number_same a.item.number)
      (each a.item.number),
  agree_all items tuple n xs (λ m. each_rest (Agrees tuple n) (by_script items m) (Ask a) xs (each m)),
)
agree_all items tuple n (Emission i ∷ xs) each =
    (refl, agree_all items tuple n xs (λ m. each_rest (Agrees tuple n) (by_script items m) (Emission i) xs (each m)))

agree_timers : (tuple : FourTuple) (n i : ℕ) (ls : List Live) → Each (Agrees tuple n) (timers_from i ls)
agree_timers tuple n i [] = tt
agree_timers tuple n i (l ∷ ls) = (refl, agree_timers tuple n (i + 1) ls)

agree_frames : (tuple : FourTuple) (n : ℕ) (frames : List Arrival) → Each (Agrees tuple n) (frame_actions frames)
agree_frames tuple n [] = tt
agree_frames tuple n (x ∷ xs) = (refl, agree_frames tuple n xs)

agree_ask : (tuple : FourTuple) (n : ℕ) (stage : Stage) (x : Item) → IsNumberOf tuple n x → Agrees tuple n (ask stage x)
agree_ask tuple n stage x h = ap (λ (b : Bool). if b then stage ∷ [] else []) h

agree_asks : (tuple : FourTuple) (n : ℕ) (batch : List Item) → Each (IsNumberOf tuple n) batch
    → Each (Agrees tuple n) (ask_actions batch)
agree_asks tuple n [] each = tt
agree_asks tuple n (x ∷ xs) each =
    each_append (Agrees tuple n) (ask_of x) (ask_actions xs) (
      agree_ask tuple n Beginning x each.0,
      (
        agree_ask tuple n Accepting x each.0,
        (
          agree_ask tuple n Sending x each.0,
          (
            agree_ask tuple n Shutting x each.0,
            (
              agree_ask tuple n Aborting x each.0,
              (agree_ask tuple n Receiving x each.0, (agree_ask tuple n Leaving x each.0, tt)),
            ),
          ),
        ),
      ),
    )
    (agree_asks tuple n xs each.1)

agree_stages : (tuple : FourTuple) (n : ℕ) (xs : List Act) → Each (Agrees tuple n) xs
    → stages_for tuple xs ≡ stages_numbered n xs
agree_stages tuple n [] each = refl
agree_stages tuple n (a ∷ xs) each =
    ap (λ (zs : List Stage). zs ++ stages_for tuple xs) each.0
    ∙ ap (λ (zs : List Stage). stage_numbered n a ++ zs) (agree_stages tuple n xs each.1)

-- In the order of a tick the stages that are asked of a four-tuple are those of one script, each once, or none.
script_of : (items : List Item) (t : ℕ) (batch : List Item) (before after : Site (List Shown))
    (round : Round (capture_scripts items) t (due_in batch) before after) → IsCaptureBatch batch
    → (tuple : FourTuple) → RisesWithin 0 7 (stage_places (stages_for tuple (actions_of round.order)))
script_of items t batch before after round is tuple =
    let one = number_of_tuple tuple is.1.0 [] batch is.0.flows is.1.1 in
    let n : ℕ = one.0 in
    let timers : List Act = timers_from 0 before.host.flows in
    let frames : List Act = frame_actions (arrivals_in batch) in
    let due : List Act = due_actions before.host.flows (due_in batch) in
    let due_agree : Each (Agrees tuple n) due =
    each_append (Agrees tuple n) timers (frames ++ ask_actions batch) (agree_timers tuple n 0 before.host.flows)
    (each_append (Agrees tuple n) frames (ask_actions batch) (agree_frames tuple n (arrivals_in batch))
    (agree_asks tuple n batch one.2)) in
    let agree : Each (Agrees tuple n) (actions_of round.order) =
    agree_all items tuple n (actions_of round.order)
    (λ m. subst (Each (Agrees tuple n)) (sym (round.due_each (OfScript m)))
    (each_filter (Agrees tuple n) (by_script items m) due due_agree)) in
    let due_is : stages_numbered n due ≡ stages_numbered n (ask_actions batch) =
    numbered_append n timers (frames ++ ask_actions batch)
    ∙ ap (λ (zs : List Stage). zs ++ stages_numbered n (frames ++ ask_actions batch))
    (timers_numbered n 0 before.host.flows)
    ∙ numbered_append n frames (ask_actions batch)
    ∙ ap (λ (zs : List Stage). zs ++ stages_numbered n (ask_actions batch)) (frames_numbered n (arrivals_in batch)) in
    let order_is : stages_for tuple (actions_of round.order) ≡ stages_numbered n (ask_actions batch) =
    agree_stages tuple n (actions_of round.order) agree
    ∙ sym (numbered_filter items n (actions_of round.order))
    ∙ ap (stages_numbered n) (round.due_each (OfScript n))
    ∙ numbered_filter items n due
    ∙ due_is in
    subst (λ (ss : List Stage). RisesWithin 0 7 (stage_places ss)) (sym order_is) (one_script n is.1.0 batch is.1.1)

-- ----- the tick
all_asked : (f : FourTuple → List Stage) → ((tuple : FourTuple) → RisesWithin 0 7 (stage_places (f tuple)))
    → (ls ms : List Live) → AllFollow f ls ms → AreAsked ls ms
all_asked f rises [] [] all = tt
all_asked f rises [] (m ∷ ms) all = (all.0 0 7 (rises m.flow.tuple), all_asked f rises [] ms all.1)
all_asked f rises (l ∷ ls) [] all = absurd all
all_asked f rises (l ∷ ls) (m ∷ ms) all = (all.0.rises 0 7 (rises l.flow.tuple), all_asked f rises ls ms all.1)

-- In a tick the application makes each call of a flow's script once at most, and in their order.
pub round_asked : (items : List Item) (t : ℕ) (batch : List Item) (before after : Site (List Shown))
    → IsCaptureBatch batch → Round (capture_scripts items) t (due_in batch) before after
    → AreAsked before.host.flows after.host.flows
round_asked items t batch before after is round =
    let f : FourTuple → List Stage = all_stages (actions_of round.order) in
    let start : Site (List Shown) = on_host all_swept before in
    let last : Site (List Shown) = fold (does (capture_scripts items) t) start round.order in
    let all : AllFollow f before.host.flows last.host.flows =
    all_both none f before.host.flows start.host.flows last.host.flows
    (map_follows none swept swept_follows before.host.flows)
    (all_follow items t start round.order round.workers) in
    subst (λ (site : Site (List Shown)). AreAsked before.host.flows site.host.flows) round.made
    (all_asked f (script_of items t batch before after round is) before.host.flows last.host.flows all)
