-- A log in stretches, and the runs among them.
use Rattle.std.proofs.Common.{◌≡◌, ℕ, zero, suc, ◌+◌, ◌-◌, ◌<◌, List, [], ◌∷◌, ◌++◌, flat_map, refl, ap, sym, ◌∙◌}
use Rattle.std.proofs.Common.{append-nil, arith}
use Rattle.std.proofs.lemmas.List.Concat.{flat_map-append}
use Rattle.host_rounds.specs.declared.log.LogLine.{LogLine}
use Rattle.tas_runs.specs.Report.{log_text}
use Rattle.tas_core.specs.declared.stretch.RunKind.{RunKind}
use Rattle.tas_core.specs.declared.stretch.RunKind.TheVariants.{Dropped, Refused}
use Rattle.tas_core.specs.declared.stretch.LogRun.{LogRun}
use Rattle.tas_core.specs.declared.stretch.LogStretch.{LogStretch}
use Rattle.tas_core.specs.Stretches.{event_by, numbered_line, numbered_lines, run_lines, lines_in, lines_of}
use Rattle.tas_core.proofs.Runs.{lines_push}
use Rattle.run_texts.specs.Frames.{event_frames, answer_frames}
use Rattle.run_texts.proofs.Lists.{log_line, log_is}

-- what is made of all stretches is made of all lines
pub lines_by : {B : Type 0} (f : LogLine → List B) (ss : List LogStretch)
    → flat_map (λ s. flat_map f (lines_in s)) ss ≡ flat_map f (lines_of ss)
lines_by f [] = refl
lines_by f (s ∷ ss) = ap (λ t. flat_map f (lines_in s) ++ t) (lines_by f ss)
    ∙ sym (flat_map-append f (lines_in s) (lines_of ss))

pub stretches_are : (names : List (List ℕ)) (ss : List LogStretch)
    → flat_map (λ s. log_text names (lines_in s)) ss ≡ log_text names (lines_of ss)
stretches_are names ss = each ss ∙ (lines_by (log_line names) ss ∙ log_is names (lines_of ss))
  where
    each : (ss : List LogStretch)
        → flat_map (λ s. log_text names (lines_in s)) ss ≡ flat_map (λ s. flat_map (log_line names) (lines_in s)) ss
    each [] = refl
    each (s ∷ ss) = ap (λ t. log_text names (lines_in s) ++ t) (each ss)
        ∙ ap (λ t. t ++ flat_map (λ x. flat_map (log_line names) (lines_in x)) ss) (sym (log_is names (lines_in s)))

-- ----- a run
-- one line more
pub run_more : (names : List (List ℕ)) (r : LogRun) (n k : ℕ)
    → flat_map (log_line names) (numbered_lines r n k) ++ log_line names (numbered_line r (n + k))
    ≡ flat_map (log_line names) (numbered_lines r n (suc k))
run_more names r n k =
    sym (ap (flat_map (log_line names)) (lines_push r n k)
    ∙ (flat_map-append (log_line names) (numbered_lines r n k) (numbered_line r (n + k) ∷ [])
    ∙ ap (λ t. flat_map (log_line names) (numbered_lines r n k) ++ t)
    (append-nil (log_line names (numbered_line r (n + k))))))

-- the first lines, and the others
pub run_parts : (names : List (List ℕ)) (r : LogRun) (n k m : ℕ)
    → flat_map (log_line names) (numbered_lines r n k) ++ flat_map (log_line names) (numbered_lines r (n + k) m)
    ≡ log_text names (numbered_lines r n (k + m))
run_parts names r n k m = sym (flat_map-append (log_line names) (numbered_lines r n k) (numbered_lines r (n + k) m))
    ∙ (ap (flat_map (log_line names)) (parts n k) ∙ log_is names (numbered_lines r n (k + m)))
  where
    parts : (n k : ℕ) → numbered_lines r n k ++ numbered_lines r (n + k) m ≡ numbered_lines r n (k + m)
    parts n zero =
        let place : n + 0 ≡ n = omega arith in
        let count : m ≡ 0 + m = omega arith in
        ap (λ i. numbered_lines r i m) place ∙ ap (numbered_lines r n) count
    parts n (suc k) =
        let place : n + suc k ≡ n + 1 + k = omega arith in
        let count : suc (k + m) ≡ suc k + m = omega arith in
        ap (λ i. numbered_lines r n (suc k) ++ numbered_lines r i m) place
        ∙ (ap (λ (ls : List LogLine). numbered_line r n ∷ ls) (parts (n + 1) k) ∙ ap (numbered_lines r n) count)

-- the first and so many others, and one more
pub run_step : (names : List (List ℕ)) (r : LogRun) (j : ℕ)
    → flat_map (log_line names) (numbered_lines r r.first.number (suc j))
    ++ log_line names (numbered_line r (r.first.number + j + 1))
    ≡ flat_map (log_line names) (numbered_lines r r.first.number (suc (j + 1)))
run_step names r j =
    let n : ℕ = r.first.number in
    let place : n + j + 1 ≡ n + suc j = omega arith in
    let count : suc (suc j) ≡ suc (j + 1) = omega arith in
    ap (λ m. flat_map (log_line names) (numbered_lines r n (suc j)) ++ log_line names (numbered_line r m)) place
    ∙ (run_more names r n (suc j) ∙ ap (λ k. flat_map (log_line names) (numbered_lines r n k)) count)

-- and those that are left
abbrev pub run_left : (names : List (List ℕ)) (r : LogRun) (j : ℕ) → List ℕ
run_left names r j = flat_map (log_line names)
    (numbered_lines r (r.first.number + suc (j + 1)) (r.last - r.first.number - (j + 1)))

pub run_rest : (names : List (List ℕ)) (r : LogRun) (j : ℕ) → j < r.last - r.first.number
    → flat_map (log_line names) (numbered_lines r r.first.number (suc (j + 1))) ++ run_left names r j
    ≡ log_text names (run_lines r)
run_rest names r j below =
    let more : ℕ = r.last - r.first.number in
    let count : suc (j + 1) + (more - (j + 1)) ≡ suc more = omega (arith, below) in
    run_parts names r r.first.number (suc (j + 1)) (more - (j + 1))
    ∙ ap (λ k. log_text names (numbered_lines r r.first.number k)) count

pub run_whole : (names : List (List ℕ)) (r : LogRun) (j : ℕ) → j ≡ r.last - r.first.number
    → flat_map (log_line names) (numbered_lines r r.first.number (suc j)) ≡ log_text names (run_lines r)
run_whole names r j all =
    ap (λ k. flat_map (log_line names) (numbered_lines r r.first.number (suc k))) all ∙ log_is names (run_lines r)

-- a run shows no answer
pub run_sends_none : (r : LogRun) (n k : ℕ) → flat_map answer_frames (numbered_lines r n k) ≡ []
run_sends_none r n zero = refl
run_sends_none r n (suc k) =
    ap (λ fs. fs ++ flat_map answer_frames (numbered_lines r (n + 1) k)) (by_kind r.kind)
    ∙ run_sends_none r (n + 1) k
  where
    by_kind : (kind : RunKind) → event_frames r.tick (event_by kind (record (r.first) { number = n })) ≡ []
    by_kind (Dropped backlog) = refl
    by_kind (Refused number) = refl
