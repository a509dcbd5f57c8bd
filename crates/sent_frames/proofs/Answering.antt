-- Answers to segments of no flow, by the stretches of a log.
use Rattle.std.proofs.Common.{◌≡◌, ℕ, ◌+◌, ◌≤◌, eqb, List, [], ◌∷◌, ◌++◌, length, filter, take, drop, Some}
use Rattle.std.proofs.Common.{None, slice_get, cond, is_some, length-append, append-nil}
use Rattle.std.proofs.Common.{refl, sym, ap, ◌∙◌, arith, append_assoc, take-append-drop}
use Rattle.std.proofs.lemmas.List.Concat.{flat_map-append}
use Rattle.std.proofs.lemmas.List.Elements.{filter-append}
use Rattle.host_rounds.specs.declared.log.LogLine.{LogLine}
use Rattle.host_rounds.specs.declared.log.LogEvent.{LogEvent}
use Rattle.host_rounds.specs.declared.log.LogEvent.TheVariants as events
use Rattle.tas_core.specs.declared.stretch.LogStretch.{LogStretch}
use Rattle.tas_core.specs.Stretches.{lines_in, lines_of, IsOfRun, ComeAfter}
use Rattle.tas_core.proofs.Newest.{AreOfRun, lines_parts}
use Rattle.link_script.specs.declared.frames.Sent.{Sent}
use Rattle.run_texts.proofs.Lists.{taken_more}
use Rattle.scenario_runs.specs.Worlds.{World, answer_on, frames_of_answer, frames_of_log}
use Rattle.sent_frames.specs.Sending.{of_tick, LinesBefore, is_answered, answers_in}
use Rattle.sent_frames.proofs.Numbered.{answers_in-append, answers_in-le, frames_of_log-append}
use Rattle.sent_frames.proofs.Ticks.{no_answers}

-- ----- a stretch more
lines_more : (ss : List LogStretch) (i : ℕ) (s : LogStretch) → slice_get ss i ≡ Some s
    → lines_of (take (i + 1) ss) ≡ lines_of (take i ss) ++ lines_in s
lines_more ss i s e =
    ap lines_of (taken_more ss i s e)
    ∙ (flat_map-append lines_in (take i ss) (s ∷ []) ∙ ap (λ ls. lines_of (take i ss) ++ ls) (append-nil (lines_in s)))

pub number_more : (n m k : ℕ) (ss : List LogStretch) (i : ℕ) (s : LogStretch) → slice_get ss i ≡ Some s
    → n ≡ k + answers_in (lines_of (take i ss)) → m ≡ n + answers_in (lines_in s)
    → m ≡ k + answers_in (lines_of (take (i + 1) ss))
number_more n m k ss i s e was more =
    let all : answers_in (lines_of (take (i + 1) ss)) ≡ answers_in (lines_of (take i ss)) + answers_in (lines_in s) =
    ap answers_in (lines_more ss i s e) ∙ answers_in-append (lines_of (take i ss)) (lines_in s) in
    omega (arith, was, more, all)

pub few_left : (n k : ℕ) (ss : List LogStretch) (i : ℕ) (s : LogStretch) → slice_get ss i ≡ Some s
    → n ≡ k + answers_in (lines_of (take i ss)) → n + length (lines_in s) ≤ k + length (lines_of ss)
few_left n k ss i s e was =
    let front = lines_of (take i ss) in
    let back = lines_of (drop (i + 1) ss) in
    let here : length (lines_of (take (i + 1) ss)) ≡ length front + length (lines_in s) =
    ap length (lines_more ss i s e) ∙ length-append front (lines_in s) in
    let all : length (lines_of ss) ≡ length (lines_of (take (i + 1) ss)) + length back =
    ap length (lines_parts ss (i + 1)) ∙ length-append (lines_of (take (i + 1) ss)) back in
    omega (arith, was, here, all, answers_in-le front)

pub answers_more : (world : World) (host t n k : ℕ) (ss : List LogStretch) (i : ℕ) (s : LogStretch)
    (old before after : List Sent) → slice_get ss i ≡ Some s → n ≡ k + answers_in (lines_of (take i ss))
    → before ≡ old ++ of_tick t (frames_of_log world host k (lines_of (take i ss)))
    → after ≡ before ++ of_tick t (frames_of_log world host n (lines_in s))
    → after ≡ old ++ of_tick t (frames_of_log world host k (lines_of (take (i + 1) ss)))
answers_more world host t n k ss i s old before after e number was more =
    let front : List Sent = frames_of_log world host k (lines_of (take i ss)) in
    let last : List Sent = frames_of_log world host n (lines_in s) in
    let all : frames_of_log world host k (lines_of (take (i + 1) ss)) ≡ front ++ last =
    ap (frames_of_log world host k) (lines_more ss i s e)
    ∙ (frames_of_log-append world host k (lines_of (take i ss)) (lines_in s)
    ∙ ap (λ m. front ++ frames_of_log world host m (lines_in s)) (sym number)) in
    more
    ∙ (ap (λ fs. fs ++ of_tick t last) was
    ∙ (append_assoc old (of_tick t front) (of_tick t last)
    ∙ ap (λ fs. old ++ fs) (sym (ap (of_tick t) all ∙ filter-append (λ (f : Sent). eqb f.tick t) front last))))

-- ----- lines of runs show no answer
none_in : (event : LogEvent) → IsOfRun event → answer_on event ≡ None
none_in (events.Dropped frame backlog) h = refl
none_in (events.Refused frame number) h = refl
none_in (events.Listen app port ok) h = absurd h
none_in (events.AcceptNotYet app port) h = absurd h
none_in (events.ConnectRefused app raddr rport no_port) h = absurd h
none_in (events.Stray frame tuple seg answer) h = absurd h

pub runs_answer_none : (ls : List LogLine) → AreOfRun ls → answers_in ls ≡ 0
runs_answer_none [] all = refl
runs_answer_none (l ∷ ls) all =
    ap (λ a. length (cond (is_some a) (l ∷ filter is_answered ls) (filter is_answered ls))) (none_in l.event all.0)
    ∙ runs_answer_none ls all.1

pub runs_send_none : (world : World) (host n : ℕ) (ls : List LogLine) → AreOfRun ls
    → frames_of_log world host n ls ≡ []
runs_send_none world host n [] all = refl
runs_send_none world host n (l ∷ ls) all =
    ap (λ a. frames_of_answer world host n l.tick a
    ++ frames_of_log world host (n + length (frames_of_answer world host n l.tick a)) ls) (none_in l.event all.0)
    ∙ runs_send_none world host (n + 0) ls all.1

-- so those of the newest stretches are all
pub newest_number : (seen : ℕ) (log : List LogLine) (ss : List LogStretch) → ComeAfter seen log ss
    → answers_in (lines_of ss) ≡ answers_in (drop seen log)
newest_number seen log ss after =
    let both : answers_in (drop seen log) ≡ answers_in after.passed + answers_in (lines_of ss) =
    ap answers_in after.all ∙ answers_in-append after.passed (lines_of ss) in
    omega (arith, both, runs_answer_none after.passed after.of_run)

pub newest_frames : (world : World) (host n seen : ℕ) (log : List LogLine) (ss : List LogStretch)
    → ComeAfter seen log ss
    → frames_of_log world host n (lines_of ss) ≡ frames_of_log world host n (drop seen log)
newest_frames world host n seen log ss after =
    let number : n + answers_in after.passed ≡ n = omega (arith, runs_answer_none after.passed after.of_run) in
    sym (ap (frames_of_log world host n) after.all
    ∙ (frames_of_log-append world host n after.passed (lines_of ss)
    ∙ (ap (λ fs. fs ++ frames_of_log world host (n + answers_in after.passed) (lines_of ss))
    (runs_send_none world host n after.passed after.of_run)
    ∙ ap (λ m. frames_of_log world host m (lines_of ss)) number)))

pub newest_length : (seen : ℕ) (log : List LogLine) (ss : List LogStretch) → ComeAfter seen log ss
    → length (lines_of ss) ≤ length (drop seen log)
newest_length seen log ss after =
    omega (arith, ap length after.all, length-append after.passed (lines_of ss))

-- the lines that were looked at show no answer of the tick
pub answers_whole : (world : World) (host t seen n : ℕ) (log : List LogLine) → LinesBefore t (take seen log)
    → n ≡ answers_in (take seen log)
    → of_tick t (frames_of_log world host n (drop seen log)) ≡ of_tick t (frames_of_log world host 0 log)
answers_whole world host t seen n log before number =
    let front : List Sent = frames_of_log world host 0 (take seen log) in
    let back : List Sent = frames_of_log world host n (drop seen log) in
    let z : 0 + answers_in (take seen log) ≡ n = omega (arith, number) in
    let all : frames_of_log world host 0 log ≡ front ++ back =
    ap (frames_of_log world host 0) (sym (take-append-drop seen log))
    ∙ (frames_of_log-append world host 0 (take seen log) (drop seen log)
    ∙ ap (λ m. front ++ frames_of_log world host m (drop seen log)) z) in
    sym (ap (of_tick t) all
    ∙ (filter-append (λ (f : Sent). eqb f.tick t) front back
    ∙ ap (λ fs. fs ++ of_tick t back) (no_answers world host 0 t (take seen log) before)))

pub number_whole : (seen n m : ℕ) (log : List LogLine) → n ≡ answers_in (take seen log)
    → m ≡ n + answers_in (drop seen log) → m ≡ answers_in log
number_whole seen n m log was more =
    let all : answers_in log ≡ answers_in (take seen log) + answers_in (drop seen log) =
    ap answers_in (sym (take-append-drop seen log)) ∙ answers_in-append (take seen log) (drop seen log) in
    omega (arith, was, more, all)
