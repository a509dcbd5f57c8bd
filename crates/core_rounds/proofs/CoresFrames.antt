-- The frames of a tick with cores, and what applications ask in it, as deeds.
use Rattle.std.proofs.Common.{◌≡◌, ℕ, Bool, true, false, cond, List, [], ◌∷◌, ◌++◌, map, fold, filter, refl, sym, ap}
use Rattle.std.proofs.Common.{◌∙◌, ◌==◌}
use Rattle.tas_model.specs.declared.entry.FrameId.{FrameId}
use Rattle.tas_model.specs.declared.entry.Caller.{Caller}
use Rattle.tas_model.specs.declared.entry.Caller.TheVariants.{Slow, Core}
use Rattle.host_rounds.specs.Lists.{Each}
use Rattle.host_rounds.specs.Hosts.{Host}
use Rattle.host_rounds.specs.Deliveries.{Arrival, received, delivered}
use Rattle.host_rounds.specs.Scripts.{Site, Scripts}
use Rattle.host_rounds.specs.Rounds.{Action, Frame, Ask, Deed, does, on_host, Agent, OfFlow, OfFrame, OfScript, is_by}
use Rattle.host_rounds.specs.Rounds.{actions_of}
use Rattle.host_rounds.proofs.SerialFrames.{by_slow}
use Rattle.host_rounds.proofs.Lists.{filter_append}
use Rattle.core_rounds.specs.CoreTicks.{Taken, taken_by_cores, is_frame, rest_phase}

-- ----- what cores do
abbrev pub by_cores : {A : Type 0} → List Taken → List (Deed A)
by_cores order = map (λ (x : Taken). record { by = Core x.core; action = Frame x.arrival }) order

abbrev pub arrivals_of : List Taken → List Arrival
arrivals_of order = map (λ (x : Taken). x.arrival) order

pub cores_fold : {S A : Type 0} (scripts : Scripts S A) (t : ℕ) (site : Site S) (order : List Taken)
    → fold (does scripts t) site (by_cores order)
    ≡ on_host (λ (host : Host). taken_by_cores scripts.starts t host order) site
cores_fold scripts t site [] = refl
cores_fold scripts t site (x ∷ xs) =
    let next : Host = delivered (received (Core x.core)) scripts.starts t site.host x.arrival in
    cores_fold scripts t (record site { host = next }) xs

pub cores_actions : {A : Type 0} (order : List Taken)
    → actions_of (by_cores {A = A} order) ≡ map Frame (arrivals_of order)
cores_actions [] = refl
cores_actions {A} (x ∷ xs) = ap (λ (zs : List (Action A)). Frame x.arrival ∷ zs) (cores_actions xs)

-- what is known of each core is known of each who takes a frame
pub cores_workers : (A : Type 0) (W : Caller → Type 0) (order : List Taken)
    → Each (λ (x : Taken). W (Core x.core)) order → Each (λ (m : Deed A). W m.by) (by_cores order)
cores_workers A W [] each = tt
cores_workers A W (x ∷ xs) each = (each.0, cores_workers A W xs each.1)

-- ----- what they left
abbrev pub as_frame : {A : Type 0} → Arrival → Action A
as_frame x = Frame x

abbrev as_actions : {A : Type 0} → List Arrival → List (Action A)
as_actions xs = map Frame xs

abbrev pub left_due : {A : Type 0} → List Arrival → List (Deed A)
left_due rest = by_slow (as_actions rest)

pub left_fold : {S A : Type 0} (scripts : Scripts S A) (t : ℕ) (site : Site S) (rest : List Arrival)
    → fold (does scripts t) site (left_due rest) ≡ on_host (λ (host : Host). rest_phase scripts t host rest) site
left_fold scripts t site [] = refl
left_fold scripts t site (x ∷ xs) =
    left_fold scripts t (does scripts t site (record { by = Slow; action = Frame x })) xs

-- ----- that all frames have their turn
no_frames : {S A : Type 0} (scripts : Scripts S A) (a : Agent) → ((x : Arrival) → is_by scripts a (Frame x) ≡ false)
    → (xs : List Arrival) → filter (is_by scripts a) (map Frame xs) ≡ []
no_frames scripts a h [] = refl
no_frames scripts a h (x ∷ xs) = rw (h x) (no_frames scripts a h xs)

of_frame : {S A : Type 0} (scripts : Scripts S A) (frame : FrameId) (xs : List Arrival)
    → filter (is_by scripts (OfFrame frame)) (map Frame xs) ≡ map Frame (filter (is_frame frame) xs)
of_frame scripts frame [] = refl
of_frame {S} {A} scripts frame (x ∷ xs) = by_test (is_frame frame x) (of_frame scripts frame xs) where
  by_test : (b : Bool) → filter (is_by scripts (OfFrame frame)) (map Frame xs) ≡ map Frame (filter (is_frame frame) xs)
      → cond b (Frame x ∷ filter (is_by scripts (OfFrame frame)) (map Frame xs))
      (filter (is_by scripts (OfFrame frame)) (map Frame xs))
      ≡ as_actions {A = A} (cond b (x ∷ filter (is_frame frame) xs) (filter (is_frame frame) xs))
  by_test true h = ap (λ (zs : List (Action A)). Frame x ∷ zs) h
  by_test false h = h

-- Where each frame comes as often, the frames are the same to each agent.
pub alike_to_agents : {S A : Type 0} (scripts : Scripts S A) (a : Agent) (xs ys : List Arrival)
    → ((frame : FrameId) → filter (is_frame frame) xs ≡ filter (is_frame frame) ys)
    → filter (is_by scripts a) (map Frame xs) ≡ filter (is_by scripts a) (map Frame ys)
alike_to_agents scripts (OfFlow n) xs ys h = no_frames scripts (OfFlow n) (λ x. refl) xs
    ∙ sym (no_frames scripts (OfFlow n) (λ x. refl) ys)
alike_to_agents {S} {A} scripts (OfFrame frame) xs ys h =
    of_frame scripts frame xs ∙ ap (λ (zs : List Arrival). as_actions {A = A} zs) (h frame)
    ∙ sym (of_frame scripts frame ys)
alike_to_agents scripts (OfScript n) xs ys h = no_frames scripts (OfScript n) (λ x. refl) xs
    ∙ sym (no_frames scripts (OfScript n) (λ x. refl) ys)

-- ----- that all who ask have their turn
no_asks : {S A : Type 0} (scripts : Scripts S A) (a : Agent) → ((x : A) → is_by scripts a (Ask x) ≡ false)
    → (xs : List A) → filter (is_by scripts a) (map Ask xs) ≡ []
no_asks scripts a h [] = refl
no_asks scripts a h (x ∷ xs) = rw (h x) (no_asks scripts a h xs)

abbrev is_asked_by : {S A : Type 0} → Scripts S A → ℕ → A → Bool
is_asked_by scripts n x = n == scripts.agent x

abbrev pub as_ask : {A : Type 0} → A → Action A
as_ask x = Ask x

abbrev as_asks : {A : Type 0} → List A → List (Action A)
as_asks xs = map Ask xs

of_script : {S A : Type 0} (scripts : Scripts S A) (n : ℕ) (xs : List A)
    → filter (is_by scripts (OfScript n)) (map Ask xs) ≡ map Ask (filter (is_asked_by scripts n) xs)
of_script scripts n [] = refl
of_script {S} {A} scripts n (x ∷ xs) = by_test (is_asked_by scripts n x) (of_script scripts n xs) where
  by_test : (b : Bool) → filter (is_by scripts (OfScript n)) (map Ask xs) ≡ map Ask (filter (is_asked_by scripts n) xs)
      → cond b (Ask x ∷ filter (is_by scripts (OfScript n)) (map Ask xs))
      (filter (is_by scripts (OfScript n)) (map Ask xs))
      ≡ as_asks (cond b (x ∷ filter (is_asked_by scripts n) xs) (filter (is_asked_by scripts n) xs))
  by_test true h = ap (λ (zs : List (Action A)). Ask x ∷ zs) h
  by_test false h = h

-- Where each who asks does so alike, the asks are the same to each agent.
pub asks_alike : {S A : Type 0} (scripts : Scripts S A) (a : Agent) (xs ys : List A)
    → ((n : ℕ) → filter (is_asked_by scripts n) xs ≡ filter (is_asked_by scripts n) ys)
    → filter (is_by scripts a) (map Ask xs) ≡ filter (is_by scripts a) (map Ask ys)
asks_alike scripts (OfFlow n) xs ys h = no_asks scripts (OfFlow n) (λ x. refl) xs
    ∙ sym (no_asks scripts (OfFlow n) (λ x. refl) ys)
asks_alike scripts (OfFrame frame) xs ys h = no_asks scripts (OfFrame frame) (λ x. refl) xs
    ∙ sym (no_asks scripts (OfFrame frame) (λ x. refl) ys)
asks_alike {S} {A} scripts (OfScript n) xs ys h =
    of_script scripts n xs ∙ ap (λ (zs : List A). as_asks zs) (h n) ∙ sym (of_script scripts n ys)

-- ----- asks before frames
past : {X : Type 0} (test : X → Bool) (b c : List X) → filter test b ≡ [] → filter test (b ++ c) ≡ filter test c
past {X} test b c h = filter_append test b c ∙ ap (λ (zs : List X). zs ++ filter test c) h

past_both : {X : Type 0} (test : X → Bool) (b c d : List X) → filter test b ≡ []
    → filter test (b ++ (c ++ d)) ≡ filter test (c ++ (b ++ d))
past_both {X} test b c d h =
    past test b (c ++ d) h
    ∙ filter_append test c d
    ∙ ap (λ (zs : List X). filter test c ++ zs) (sym (past test b d h))
    ∙ sym (filter_append test c (b ++ d))

-- No agent tells whether asks come before frames or after them.
pub asks_past : {S A : Type 0} (scripts : Scripts S A) (a : Agent) (asks : List A) (frames : List Arrival)
    (more : List (Action A))
    → filter (is_by scripts a) (map Ask asks ++ (map Frame frames ++ more))
    ≡ filter (is_by scripts a) (map Frame frames ++ (map Ask asks ++ more))
asks_past scripts (OfFlow n) asks frames more =
    past_both (is_by scripts (OfFlow n)) (map Ask asks) (map Frame frames) more
    (no_asks scripts (OfFlow n) (λ x. refl) asks)
asks_past scripts (OfFrame frame) asks frames more =
    past_both (is_by scripts (OfFrame frame)) (map Ask asks) (map Frame frames) more
    (no_asks scripts (OfFrame frame) (λ x. refl) asks)
asks_past scripts (OfScript n) asks frames more =
    sym (past_both (is_by scripts (OfScript n)) (map Frame frames) (map Ask asks) more
    (no_frames scripts (OfScript n) (λ x. refl) frames))
