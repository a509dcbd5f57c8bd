-- The serial order is one of the right orders.
use Rattle.std.proofs.Common.{◌≡◌, ℕ, ◌+◌, Bool, List, [], ◌∷◌, ◌++◌, map, fold, filter, refl, sym, subst, ap, ◌∙◌}
use Rattle.std.proofs.Common.{append_assoc, append-nil}
use Rattle.tas_model.specs.declared.entry.Caller.{Caller}
use Rattle.tas_model.specs.declared.entry.Caller.TheVariants.{Slow, Core}
use Rattle.host_rounds.specs.Lists.{Each}
use Rattle.host_rounds.specs.Hosts.{Live, Host}
use Rattle.host_rounds.specs.Upkeep.{swept, all_swept}
use Rattle.host_rounds.specs.Scripts.{Site, Scripts}
use Rattle.host_rounds.specs.Moves.{AreByMoves}
use Rattle.host_rounds.specs.Rounds.{Action, Timer, Frame, Ask, Deed, does, on_host, Due, timers_from, due_actions}
use Rattle.host_rounds.specs.Rounds.{Agent, is_by, actions_of, IsWorker, IsQuiet, Round, Rounds}
use Rattle.host_rounds.specs.SerialOrder.{slow_phase, frame_phase, ask_phase, serial_tick, serial_ticks}
use Rattle.host_rounds.proofs.Lists.{fold_append, map_append, filter_append, each_append}
use Rattle.host_rounds.proofs.AllLegal.{AreLegal, all_kept, all_swept_kept, round_kept}
use Rattle.host_rounds.proofs.Quiet.{all_quiet}
use Rattle.host_rounds.proofs.SerialFrames.{by_slow, slow_actions, slow_workers, timers_fold, frames_made, frames_fold}
use Rattle.host_rounds.proofs.SerialFrames.{frames_actions, frames_workers, asks_fold}
use Rattle.host_rounds.proofs.SerialEmissions.{emissions_from, emissions_fold, emissions_due, emissions_workers}

-- ----- the phases
abbrev after_slow : {S : Type 0} → ℕ → Site S → Site S
after_slow t site = on_host (slow_phase t) site

abbrev after_frames : {S A : Type 0} → Scripts S A → ℕ → Site S → Due A → Site S
after_frames scripts t site due = on_host (λ (host : Host). frame_phase scripts t (slow_phase t host) due.frames) site

abbrev after_asks : {S A : Type 0} → Scripts S A → ℕ → Site S → Due A → Site S
after_asks scripts t site due = ask_phase scripts t (after_frames scripts t site due) due.asks

abbrev timers_due : {S A : Type 0} → Site S → List (Deed A)
timers_due site = by_slow (timers_from 0 (map swept site.host.flows))

abbrev frames_due : {S A : Type 0} → Scripts S A → ℕ → Site S → Due A → List (Deed A)
frames_due scripts t site due = frames_made scripts.starts t (slow_phase t site.host) due.frames

abbrev asks_due : {A : Type 0} → Due A → List (Deed A)
asks_due due = by_slow (map Ask due.asks)

abbrev last_due : {S A : Type 0} → Scripts S A → ℕ → Site S → Due A → List (Deed A)
last_due scripts t site due = emissions_from t 0 (after_asks scripts t site due).host.flows

abbrev pub serial_order : {S A : Type 0} → Scripts S A → ℕ → Site S → Due A → List (Deed A)
serial_order scripts t site due =
    timers_due site ++ (frames_due scripts t site due ++ (asks_due due ++ last_due scripts t site due))

-- ----- what the order leaves
pub serial_made : {S A : Type 0} (scripts : Scripts S A) (t : ℕ) (site : Site S) (due : Due A)
    → fold (does scripts t) (on_host all_swept site) (serial_order scripts t site due) ≡ serial_tick scripts t site due
unfolding serial_tick
serial_made {S} {A} scripts t site due =
    let timers : List (Deed A) = timers_due site in
    let frames : List (Deed A) = frames_due scripts t site due in
    let asks : List (Deed A) = asks_due due in
    let last : List (Deed A) = last_due scripts t site due in
    fold_append (does scripts t) (on_host all_swept site) timers (frames ++ (asks ++ last))
    ∙ ap (λ (s : Site S). fold (does scripts t) s (frames ++ (asks ++ last)))
    (timers_fold scripts t 0 (on_host all_swept site) [] (map swept site.host.flows) refl)
    ∙ fold_append (does scripts t) (after_slow t site) frames (asks ++ last)
    ∙ ap (λ (s : Site S). fold (does scripts t) s (asks ++ last)) (frames_fold scripts t (after_slow t site) due.frames)
    ∙ fold_append (does scripts t) (after_frames scripts t site due) asks last
    ∙ ap (λ (s : Site S). fold (does scripts t) s last) (asks_fold scripts t (after_frames scripts t site due) due.asks)
    ∙ emissions_fold scripts t 0 (after_asks scripts t site due) [] (after_asks scripts t site due).host.flows refl

-- ----- that it does what is due
timers_map : {A : Type 0} (f : Live → Live) (n : ℕ) (ls : List Live)
    → timers_from {A = A} n (map f ls) ≡ timers_from n ls
timers_map f n [] = refl
timers_map {A} f n (l ∷ ls) = ap (λ (zs : List (Action A)). Timer n ∷ zs) (timers_map f (n + 1) ls)

serial_actions : {S A : Type 0} (scripts : Scripts S A) (t : ℕ) (site : Site S) (due : Due A)
    → actions_of (serial_order scripts t site due)
    ≡ timers_from 0 site.host.flows ++ (map Frame due.frames
    ++ (map Ask due.asks ++ actions_of (last_due scripts t site due)))
serial_actions {S} {A} scripts t site due =
    let act : Deed A → Action A = λ m. m.action in
    let timers : List (Deed A) = timers_due site in
    let frames : List (Deed A) = frames_due scripts t site due in
    let asks : List (Deed A) = asks_due due in
    let last : List (Deed A) = last_due scripts t site due in
    map_append act timers (frames ++ (asks ++ last))
    ∙ ap (λ (zs : List (Action A)). zs ++ actions_of (frames ++ (asks ++ last)))
    (slow_actions (timers_from 0 (map swept site.host.flows)) ∙ timers_map swept 0 site.host.flows)
    ∙ ap (λ (zs : List (Action A)). timers_from 0 site.host.flows ++ zs)
    (map_append act frames (asks ++ last)
    ∙ ap (λ (zs : List (Action A)). zs ++ actions_of (asks ++ last))
    (frames_actions scripts.starts t (slow_phase t site.host) due.frames)
    ∙ ap (λ (zs : List (Action A)). map Frame due.frames ++ zs)
    (map_append act asks last ∙ ap (λ (zs : List (Action A)). zs ++ actions_of last) (slow_actions (map Ask due.asks))))

filter_end : {X : Type 0} (test : X → Bool) (a b c d : List X) → filter test d ≡ []
    → filter test (a ++ (b ++ (c ++ d))) ≡ filter test (a ++ (b ++ c))
filter_end {X} test a b c d h =
    ap (filter test) (ap (λ (zs : List X). a ++ zs) (sym (append_assoc b c d)) ∙ sym (append_assoc a (b ++ c) d))
    ∙ filter_append test (a ++ (b ++ c)) d
    ∙ ap (λ (zs : List X). filter test (a ++ (b ++ c)) ++ zs) h
    ∙ append-nil (filter test (a ++ (b ++ c)))

serial_due : {S A : Type 0} (scripts : Scripts S A) (t : ℕ) (site : Site S) (due : Due A) (a : Agent)
    → filter (is_by scripts a) (actions_of (serial_order scripts t site due))
    ≡ filter (is_by scripts a) (due_actions site.host.flows due)
serial_due scripts t site due a =
    ap (filter (is_by scripts a)) (serial_actions scripts t site due)
    ∙ filter_end (is_by scripts a) (timers_from 0 site.host.flows) (map Frame due.frames) (map Ask due.asks)
    (actions_of (last_due scripts t site due))
    (emissions_due scripts a t 0 (after_asks scripts t site due).host.flows)

-- what is known of the slow path and of core 0 is known of each who does something
pub serial_workers : {S A : Type 0} (W : Caller → Type 0) → W Slow → W (Core 0) → (scripts : Scripts S A) (t : ℕ)
    (site : Site S) (due : Due A) → Each (λ (m : Deed A). W m.by) (serial_order scripts t site due)
serial_workers {S} {A} W slow core scripts t site due =
    let By : Deed A → Type 0 = λ m. W m.by in
    let timers : List (Deed A) = timers_due site in
    let frames : List (Deed A) = frames_due scripts t site due in
    let asks : List (Deed A) = asks_due due in
    let last : List (Deed A) = last_due scripts t site due in
    each_append By timers (frames ++ (asks ++ last)) (slow_workers W slow (timers_from 0 (map swept site.host.flows)))
    (each_append By frames (asks ++ last)
    (frames_workers W slow core A scripts.starts t (slow_phase t site.host) due.frames)
    (each_append By asks last (slow_workers W slow (map Ask due.asks))
    (emissions_workers W core A t 0 (after_asks scripts t site due).host.flows)))

-- ----- the tick
-- the histories before the last phase
asks_legal : {S A : Type 0} (scripts : Scripts S A) (t : ℕ) (site : Site S) (due : Due A) → AreByMoves scripts
    → AreLegal site.host
    → AreLegal (after_asks scripts t site due).host
asks_legal {S} {A} scripts t site due by_moves each =
    let L : Site S → Type 0 = λ s. AreLegal s.host in
    let start : L (on_host all_swept site) = all_swept_kept site.host each in
    let timed_all : L (after_slow t site) =
    subst L (timers_fold scripts t 0 (on_host all_swept site) [] (map swept site.host.flows) refl)
    (all_kept scripts t (on_host all_swept site) (timers_due site) by_moves start) in
    let framed : L (after_frames scripts t site due) =
    subst L (frames_fold scripts t (after_slow t site) due.frames)
    (all_kept scripts t (after_slow t site) (frames_due scripts t site due) by_moves timed_all) in
    subst L (asks_fold scripts t (after_frames scripts t site due) due.asks)
    (all_kept scripts t (after_frames scripts t site due) (asks_due due) by_moves framed)

serial_quiet : {S A : Type 0} (scripts : Scripts S A) (t : ℕ) (site : Site S) (due : Due A) → AreByMoves scripts
    → AreLegal site.host
    → Each IsQuiet (serial_tick scripts t site due).host.flows
unfolding serial_tick
serial_quiet scripts t site due by_moves each =
    all_quiet t (after_asks scripts t site due).host.flows (asks_legal scripts t site due by_moves each)

-- The serial tick is a right one,
pub serial_round : {S A : Type 0} (scripts : Scripts S A) (t : ℕ) (due : Due A) (site : Site S) → AreByMoves scripts
    → AreLegal site.host
    → Round scripts t due site (serial_tick scripts t site due)
serial_round scripts t due site by_moves each =
    record {
      order = serial_order scripts t site due;
      due_each = serial_due scripts t site due;
      workers = serial_workers IsWorker tt tt scripts t site due;
      made = serial_made scripts t site due;
      quiet = serial_quiet scripts t site due by_moves each;
    }

-- and so are the serial ticks of a run.
pub serial_rounds : {S A : Type 0} (scripts : Scripts S A) (t : ℕ) (site : Site S) (dues : List (Due A))
    → AreByMoves scripts → AreLegal site.host
    → Rounds scripts t dues site (serial_ticks scripts t site dues)
unfolding serial_ticks
serial_rounds scripts t site [] by_moves each = refl
serial_rounds {S} scripts t site (due ∷ dues) by_moves each =
    let next : Site S = serial_tick scripts t site due in
    let round : Round scripts t due site next = serial_round scripts t due site by_moves each in (
      next,
      round,
      serial_rounds scripts (t + 1) next dues by_moves
          (round_kept scripts t due site next by_moves round each),
    )
