-- A tick with cores is a right one.
use Rattle.std.proofs.Common.{◌≡◌, ℕ, ◌+◌, Bool, List, [], ◌∷◌, ◌++◌, map, fold, filter, refl, sym, subst, ap, ◌∙◌}
use Rattle.std.proofs.Common.{append_assoc, append-nil}
use Rattle.tas_model.specs.declared.entry.Caller.{Caller}
use Rattle.tas_model.specs.declared.entry.Caller.TheVariants.{Slow, Core}
use Rattle.host_rounds.specs.Lists.{Each}
use Rattle.host_rounds.specs.Hosts.{Live, Host, Starts}
use Rattle.host_rounds.specs.Upkeep.{swept, all_swept}
use Rattle.host_rounds.specs.Deliveries.{Arrival}
use Rattle.host_rounds.specs.Scripts.{Site, Scripts}
use Rattle.host_rounds.specs.Moves.{AreByMoves}
use Rattle.host_rounds.specs.Rounds.{Action, Timer, Frame, Ask, Deed, does, on_host, Due, timers_from, due_actions}
use Rattle.host_rounds.specs.Rounds.{Agent, is_by, actions_of, IsWorker, Round}
use Rattle.host_rounds.specs.Cores.{IsWorkerOf, AllBelow}
use Rattle.host_rounds.specs.SerialOrder.{slow_phase, ask_phase, emit_phase}
use Rattle.host_rounds.proofs.Lists.{fold_append, map_append, filter_append, each_append}
use Rattle.host_rounds.proofs.AllLegal.{AreLegal, all_kept, all_swept_kept}
use Rattle.host_rounds.proofs.Quiet.{all_quiet}
use Rattle.host_rounds.proofs.AllBelow.{made_low}
use Rattle.host_rounds.proofs.SerialFrames.{by_slow, slow_actions, slow_workers, timers_fold, asks_fold}
use Rattle.host_rounds.proofs.SerialEmissions.{emissions_from, emissions_fold, emissions_due, emissions_workers}
use Rattle.core_rounds.specs.CoreTicks.{Taken, taken_by_cores, AreShared, AreTried, tried_and_rest, IsCoresTick}
use Rattle.core_rounds.proofs.CoresFrames.{by_cores, arrivals_of, cores_fold, cores_actions, cores_workers}
use Rattle.core_rounds.proofs.CoresFrames.{as_frame, as_ask, left_due, left_fold}
use Rattle.core_rounds.proofs.CoresFrames.{alike_to_agents, asks_alike, asks_past}

-- ----- the phases
abbrev after_slow : {S : Type 0} → ℕ → Site S → Site S
after_slow t site = on_host (slow_phase t) site

abbrev after_cores : {S : Type 0} → Site S → Host → Site S
after_cores site middle = record site { host = middle }

abbrev after_tried : {S A : Type 0} → Scripts S A → ℕ → Site S → Host → List A → Site S
after_tried scripts t site middle tried = ask_phase scripts t (after_cores site middle) tried

abbrev after_rest : {S A : Type 0} → Scripts S A → ℕ → Site S → Host → List A → List Arrival → Site S
after_rest scripts t site middle tried rest = tried_and_rest scripts t (after_cores site middle) tried rest

abbrev after_asks : {S A : Type 0} → Scripts S A → ℕ → Site S → Host → List A → List Arrival → List A → Site S
after_asks scripts t site middle tried rest later =
    ask_phase scripts t (after_rest scripts t site middle tried rest) later

abbrev timers_due : {S A : Type 0} → Site S → List (Deed A)
timers_due site = by_slow (timers_from 0 (map swept site.host.flows))

abbrev asks_due : {A : Type 0} → List A → List (Deed A)
asks_due asks = by_slow (map Ask asks)

abbrev last_due : {S A : Type 0} → ℕ → Site S → List (Deed A)
last_due t asked = emissions_from t 0 asked.host.flows

abbrev order_to : {S A : Type 0} → Site S → List Taken → List A → List Arrival → List (Deed A) → List (Deed A)
order_to site order tried rest more =
    timers_due site ++ (by_cores order ++ (asks_due tried ++ (left_due rest ++ more)))

abbrev order_of : {S A : Type 0} → ℕ → Site S → List Taken → List A → List Arrival → List A → Site S → List (Deed A)
order_of t site order tried rest later asked = order_to site order tried rest (asks_due later ++ last_due t asked)

-- ----- what the order leaves
to_rest : {S A : Type 0} (scripts : Scripts S A) (t : ℕ) (site : Site S) (middle : Host) (order : List Taken)
    (tried : List A) (rest : List Arrival) (more : List (Deed A))
    → ((starts : Starts) → taken_by_cores starts t (slow_phase t site.host) order ≡ middle)
    → fold (does scripts t) (on_host all_swept site) (order_to site order tried rest more)
    ≡ fold (does scripts t) (after_rest scripts t site middle tried rest) more
to_rest {S} {A} scripts t site middle order tried rest more made =
    let timers : List (Deed A) = timers_due site in
    let cores : List (Deed A) = by_cores order in
    let asks : List (Deed A) = asks_due tried in
    let left : List (Deed A) = left_due rest in
    fold_append (does scripts t) (on_host all_swept site) timers (cores ++ (asks ++ (left ++ more)))
    ∙ ap (λ (s : Site S). fold (does scripts t) s (cores ++ (asks ++ (left ++ more))))
    (timers_fold scripts t 0 (on_host all_swept site) [] (map swept site.host.flows) refl)
    ∙ fold_append (does scripts t) (after_slow t site) cores (asks ++ (left ++ more))
    ∙ ap (λ (s : Site S). fold (does scripts t) s (asks ++ (left ++ more)))
    (cores_fold scripts t (after_slow t site) order ∙ ap (λ (h : Host). after_cores site h) (made scripts.starts))
    ∙ fold_append (does scripts t) (after_cores site middle) asks (left ++ more)
    ∙ ap (λ (s : Site S). fold (does scripts t) s (left ++ more))
    (asks_fold scripts t (after_cores site middle) tried)
    ∙ fold_append (does scripts t) (after_tried scripts t site middle tried) left more
    ∙ ap (λ (s : Site S). fold (does scripts t) s more)
    (left_fold scripts t (after_tried scripts t site middle tried) rest)

cores_made : {S A : Type 0} (scripts : Scripts S A) (t : ℕ) (site : Site S) (middle : Host) (order : List Taken)
    (tried : List A) (rest : List Arrival) (later : List A)
    → ((starts : Starts) → taken_by_cores starts t (slow_phase t site.host) order ≡ middle)
    → fold (does scripts t) (on_host all_swept site)
    (order_of t site order tried rest later (after_asks scripts t site middle tried rest later))
    ≡ on_host (emit_phase t) (after_asks scripts t site middle tried rest later)
cores_made {S} {A} scripts t site middle order tried rest later made =
    let asked : Site S = after_asks scripts t site middle tried rest later in
    let asks : List (Deed A) = asks_due later in
    let last : List (Deed A) = last_due t asked in
    to_rest scripts t site middle order tried rest (asks ++ last) made
    ∙ fold_append (does scripts t) (after_rest scripts t site middle tried rest) asks last
    ∙ ap (λ (s : Site S). fold (does scripts t) s last)
    (asks_fold scripts t (after_rest scripts t site middle tried rest) later)
    ∙ emissions_fold scripts t 0 asked [] asked.host.flows refl

-- ----- that it does what is due
timers_map : {A : Type 0} (f : Live → Live) (n : ℕ) (ls : List Live)
    → timers_from {A = A} n (map f ls) ≡ timers_from n ls
timers_map f n [] = refl
timers_map {A} f n (l ∷ ls) = ap (λ (zs : List (Action A)). Timer n ∷ zs) (timers_map f (n + 1) ls)

-- the actions that the slow path is first to do
slow_first : {A : Type 0} (xs : List (Action A)) (more : List (Deed A))
    → actions_of (by_slow xs ++ more) ≡ xs ++ actions_of more
slow_first {A} xs more =
    map_append (λ (m : Deed A). m.action) (by_slow xs) more
    ∙ ap (λ (zs : List (Action A)). zs ++ actions_of more) (slow_actions xs)

cores_actions_of : {S A : Type 0} (t : ℕ) (site : Site S) (order : List Taken) (tried : List A) (rest : List Arrival)
    (later : List A) (asked : Site S)
    → actions_of (order_of t site order tried rest later asked)
    ≡ timers_from 0 site.host.flows ++ (map Frame (arrivals_of order)
    ++ (map Ask tried ++ (map Frame rest ++ (map Ask later ++ actions_of (last_due {A = A} t asked)))))
cores_actions_of {S} {A} t site order tried rest later asked =
    let last : List (Deed A) = last_due t asked in
    let to_left : List (Deed A) = left_due rest ++ (asks_due later ++ last) in
    let to_tried : List (Deed A) = asks_due tried ++ to_left in
    let to_cores : List (Deed A) = by_cores order ++ to_tried in
    slow_first (timers_from 0 (map swept site.host.flows)) to_cores
    ∙ ap (λ (zs : List (Action A)). zs ++ actions_of to_cores) (timers_map swept 0 site.host.flows)
    ∙ ap (λ (zs : List (Action A)). timers_from 0 site.host.flows ++ zs)
    (map_append (λ (m : Deed A). m.action) (by_cores order) to_tried
    ∙ ap (λ (zs : List (Action A)). zs ++ actions_of to_tried) (cores_actions order)
    ∙ ap (λ (zs : List (Action A)). map Frame (arrivals_of order) ++ zs)
    (slow_first (map Ask tried) to_left
    ∙ ap (λ (zs : List (Action A)). map Ask tried ++ zs)
    (slow_first (map Frame rest) (asks_due later ++ last)
    ∙ ap (λ (zs : List (Action A)). map Frame rest ++ zs) (slow_first (map Ask later) last))))

-- Where b₂ may as well come before c₁, and d comes to nothing.
filter_within : {X : Type 0} (test : X → Bool) (a b₁ c₁ b₂ c₂ d b c : List X)
    → filter test (c₁ ++ (b₂ ++ (c₂ ++ d))) ≡ filter test (b₂ ++ (c₁ ++ (c₂ ++ d)))
    → filter test (b₁ ++ b₂) ≡ filter test b → filter test (c₁ ++ c₂) ≡ filter test c → filter test d ≡ []
    → filter test (a ++ (b₁ ++ (c₁ ++ (b₂ ++ (c₂ ++ d))))) ≡ filter test (a ++ (b ++ c))
filter_within {X} test a b₁ c₁ b₂ c₂ d b c turned same_b same_c h =
    let behind : filter test (c₁ ++ (c₂ ++ d)) ≡ filter test c =
    ap (filter test) (sym (append_assoc c₁ c₂ d))
    ∙ filter_append test (c₁ ++ c₂) d
    ∙ ap (λ (zs : List X). filter test (c₁ ++ c₂) ++ zs) h
    ∙ append-nil (filter test (c₁ ++ c₂))
    ∙ same_c in
    filter_append test a (b₁ ++ (c₁ ++ (b₂ ++ (c₂ ++ d))))
    ∙ ap (λ (zs : List X). filter test a ++ zs)
    (filter_append test b₁ (c₁ ++ (b₂ ++ (c₂ ++ d)))
    ∙ ap (λ (zs : List X). filter test b₁ ++ zs) turned
    ∙ sym (filter_append test b₁ (b₂ ++ (c₁ ++ (c₂ ++ d))))
    ∙ ap (filter test) (sym (append_assoc b₁ b₂ (c₁ ++ (c₂ ++ d))))
    ∙ filter_append test (b₁ ++ b₂) (c₁ ++ (c₂ ++ d))
    ∙ ap (λ (zs : List X). zs ++ filter test (c₁ ++ (c₂ ++ d))) same_b
    ∙ ap (λ (zs : List X). filter test b ++ zs) behind
    ∙ sym (filter_append test b c))
    ∙ sym (filter_append test a (b ++ c))

cores_due : {S A : Type 0} (scripts : Scripts S A) (t : ℕ) (site : Site S) (due : Due A) (order : List Taken)
    (tried : List A) (rest : List Arrival) (later : List A) (asked : Site S)
    → AreShared due.frames order rest → AreTried scripts due.asks tried later → (a : Agent)
    → filter (is_by scripts a) (actions_of (order_of t site order tried rest later asked))
    ≡ filter (is_by scripts a) (due_actions site.host.flows due)
cores_due {S} {A} scripts t site due order tried rest later asked shared are_tried a =
    let test : Action A → Bool = is_by scripts a in
    let last : List (Action A) = actions_of (last_due t asked) in
    ap (filter test) (cores_actions_of t site order tried rest later asked)
    ∙ filter_within test (timers_from 0 site.host.flows) (map Frame (arrivals_of order)) (map Ask tried)
    (map Frame rest) (map Ask later) last (map Frame due.frames) (map Ask due.asks)
    (asks_past scripts a tried rest (map Ask later ++ last))
    (ap (filter test) (sym (map_append (λ (x : Arrival). as_frame {A = A} x) (arrivals_of order) rest))
    ∙ alike_to_agents scripts a (arrivals_of order ++ rest) due.frames shared)
    (ap (filter test) (sym (map_append (λ (x : A). as_ask x) tried later))
    ∙ asks_alike scripts a (tried ++ later) due.asks are_tried)
    (emissions_due scripts a t 0 asked.host.flows)

-- what is known of the slow path, of core 0 and of each core that takes a frame is known of each who does something
order_workers : {S A : Type 0} (W : Caller → Type 0) → W Slow → W (Core 0) → (t : ℕ) (site : Site S)
    (order : List Taken) (tried : List A) (rest : List Arrival) (later : List A) (asked : Site S)
    → Each (λ (x : Taken). W (Core x.core)) order
    → Each (λ (m : Deed A). W m.by) (order_of t site order tried rest later asked)
order_workers {S} {A} W slow core t site order tried rest later asked each =
    let By : Deed A → Type 0 = λ m. W m.by in
    let timers : List (Deed A) = timers_due site in
    let cores : List (Deed A) = by_cores order in
    let asks : List (Deed A) = asks_due tried in
    let left : List (Deed A) = left_due rest in
    let last : List (Deed A) = asks_due later ++ last_due t asked in
    each_append By timers (cores ++ (asks ++ (left ++ last)))
    (slow_workers W slow (timers_from 0 (map swept site.host.flows)))
    (each_append By cores (asks ++ (left ++ last)) (cores_workers A W order each)
    (each_append By asks (left ++ last) (slow_workers W slow (map Ask tried))
    (each_append By left last (slow_workers W slow (map Frame rest))
    (each_append By (asks_due later) (last_due t asked) (slow_workers W slow (map Ask later))
    (emissions_workers W core A t 0 asked.host.flows)))))

any_cores : (order : List Taken) → Each (λ (x : Taken). IsWorker (Core x.core)) order
any_cores [] = tt
any_cores (x ∷ xs) = (tt, any_cores xs)

-- ----- the tick
-- the histories before the last phase
asks_legal : {S A : Type 0} (scripts : Scripts S A) (t : ℕ) (site : Site S) (middle : Host) (order : List Taken)
    (tried : List A) (rest : List Arrival) (later : List A)
    → ((starts : Starts) → taken_by_cores starts t (slow_phase t site.host) order ≡ middle) → AreByMoves scripts
    → AreLegal site.host
    → AreLegal (after_asks scripts t site middle tried rest later).host
asks_legal {S} {A} scripts t site middle order tried rest later made by_moves each =
    let L : Site S → Type 0 = λ s. AreLegal s.host in
    let left : L (after_rest scripts t site middle tried rest) =
    subst L (to_rest scripts t site middle order tried rest [] made)
    (all_kept scripts t (on_host all_swept site) (order_to site order tried rest []) by_moves
    (all_swept_kept site.host each)) in
    subst L (asks_fold scripts t (after_rest scripts t site middle tried rest) later)
    (all_kept scripts t (after_rest scripts t site middle tried rest) (asks_due later) by_moves left)

pub cores_round : {S A : Type 0} (scripts : Scripts S A) (cores t : ℕ) (due : Due A) (before after : Site S)
    → AreByMoves scripts → AreLegal before.host
    → IsCoresTick scripts cores t due before after → Round scripts t due before after
cores_round {S} {A} scripts cores t due before after by_moves each tick =
    let order : List Taken = tick.phase.order in
    let rest : List Arrival = tick.rest in
    let tried : List A = tick.tried in
    let later : List A = tick.later in
    let asked : Site S = after_asks scripts t before tick.middle tried rest later in
    subst (λ (site : Site S). Round scripts t due before site) tick.made
    (record {
      order = order_of t before order tried rest later asked;
      due_each = cores_due scripts t before due order tried rest later asked tick.phase.shared tick.asked;
      workers = order_workers IsWorker tt tt t before order tried rest later asked (any_cores order);
      made = cores_made scripts t before tick.middle order tried rest later tick.phase.made;
      quiet = all_quiet t asked.host.flows
          (asks_legal scripts t before tick.middle order tried rest later tick.phase.made by_moves each);
    })

-- and its entries are by its cores
pub cores_low : {S A : Type 0} (scripts : Scripts S A) (cores t : ℕ) (due : Due A) (before after : Site S)
    → AreByMoves scripts → AreLegal before.host → IsCoresTick scripts cores t due before after
    → AllBelow cores before.host → AllBelow cores after.host
cores_low {S} {A} scripts cores t due before after by_moves legal tick all =
    let order : List Taken = tick.phase.order in
    let asked : Site S = after_asks scripts t before tick.middle tick.tried tick.rest tick.later in
    made_low cores scripts t before after (order_of t before order tick.tried tick.rest tick.later asked) by_moves legal
    (order_workers (IsWorkerOf cores) tt tick.some t before order tick.tried tick.rest tick.later asked tick.below)
    (cores_made scripts t before tick.middle order tick.tried tick.rest tick.later tick.phase.made ∙ tick.made) all
