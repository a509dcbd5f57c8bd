-- Runs of lines, and one line more.
use Rattle.std.proofs.Common.{◌≡◌, ℕ, zero, suc, ◌+◌, ◌-◌, List, [], ◌∷◌, ◌++◌, length, get_or, set, refl, sym, ap}
use Rattle.std.proofs.Common.{◌∙◌, arith, append_assoc, append-nil}
use Rattle.tas_model.specs.declared.entry.FrameId.{FrameId}
use Rattle.host_rounds.specs.declared.log.LogLine.{LogLine}
use Rattle.tas_core.specs.declared.stretch.RunKind.{RunKind}
use Rattle.tas_core.specs.declared.stretch.LogRun.{LogRun}
use Rattle.tas_core.specs.declared.stretch.LogStretch.{LogStretch}
use Rattle.tas_core.specs.declared.stretch.LogStretch.TheVariants.{Run}
use Rattle.tas_core.specs.Stretches.{line_by, numbered_line, numbered_lines, run_lines, lines_in, lines_of, ComesNext}

-- the lines are those whatever the last is
other_end : (r : LogRun) (last n k : ℕ) → numbered_lines (record r { last = last }) n k ≡ numbered_lines r n k
other_end r last n zero = refl
other_end r last n (suc k) = ap (λ (ls : List LogLine). numbered_line r n ∷ ls) (other_end r last (n + 1) k)

-- the last of so many and one more
pub lines_push : (r : LogRun) (n k : ℕ)
    → numbered_lines r n (suc k) ≡ numbered_lines r n k ++ numbered_line r (n + k) ∷ []
lines_push r n zero =
    let same : n ≡ n + 0 = omega arith in
    ap (λ m. numbered_line r m ∷ []) same
lines_push r n (suc k) =
    let same : n + 1 + k ≡ n + suc k = omega arith in
    ap (λ (ls : List LogLine). numbered_line r n ∷ ls) (lines_push r (n + 1) k
    ∙ ap (λ m. numbered_lines r (n + 1) k ++ numbered_line r m ∷ []) same)

pub length_lines : (r : LogRun) (n k : ℕ) → length (numbered_lines r n k) ≡ k
length_lines r n zero = refl
length_lines r n (suc k) = ap suc (length_lines r (n + 1) k)

-- a run with its next line
run_longer : (r : LogRun) (tick : ℕ) (kind : RunKind) (frame : FrameId) → ComesNext r tick kind frame
    → run_lines (record r { last = frame.number }) ≡ run_lines r ++ line_by tick kind frame ∷ []
run_longer r tick kind frame next =
    let first : ℕ = r.first.number in
    let number : frame.number ≡ r.last + 1 = ap (λ (f : FrameId). f.number) next.next_frame in
    let count : suc (frame.number - first) ≡ suc (suc (r.last - first)) = omega (arith, number, next.whole) in
    let place : first + suc (r.last - first) ≡ r.last + 1 = omega (arith, next.whole) in
    let same : line_by r.tick r.kind (record (r.first) { number = r.last + 1 }) ≡ line_by tick kind frame =
    ap (λ t. line_by t r.kind (record (r.first) { number = r.last + 1 })) next.same_tick
    ∙ (ap (λ (x : RunKind). line_by tick x (record (r.first) { number = r.last + 1 })) next.same_kind
    ∙ ap (λ (f : FrameId). line_by tick kind f) (sym next.next_frame)) in
    other_end r frame.number first (suc (frame.number - first))
    ∙ (ap (numbered_lines r first) count
    ∙ (lines_push r first (suc (r.last - first))
    ∙ ap (λ (l : LogLine). run_lines r ++ l ∷ []) (ap (numbered_line r) place ∙ same)))

-- the log with its last run lengthened
pub longer : (ss : List LogStretch) (i : ℕ) (d : LogStretch) (r : LogRun) (tick : ℕ) (kind : RunKind) (frame : FrameId)
    → length ss ≡ suc i → get_or ss i d ≡ Run r → ComesNext r tick kind frame
    → lines_of (set ss i (Run (record r { last = frame.number }))) ≡ lines_of ss ++ line_by tick kind frame ∷ []
longer [] i d r tick kind frame len is next = absurd (omega (arith, len))
longer (x ∷ []) zero d r tick kind frame len is next =
    let run : lines_in x ≡ run_lines r = ap lines_in is in
    append-nil (run_lines (record r { last = frame.number }))
    ∙ (run_longer r tick kind frame next
    ∙ ap (λ (ls : List LogLine). ls ++ line_by tick kind frame ∷ []) (sym run ∙ sym (append-nil (lines_in x))))
longer (x ∷ []) (suc i) d r tick kind frame len is next = absurd (omega (arith, len))
longer (x ∷ y ∷ ss) zero d r tick kind frame len is next = absurd (omega (arith, len))
longer (x ∷ y ∷ ss) (suc i) d r tick kind frame len is next =
    ap (λ (ls : List LogLine). lines_in x ++ ls)
    (longer (y ∷ ss) i d r tick kind frame (omega (arith, len)) is next)
    ∙ sym (append_assoc (lines_in x) (lines_of (y ∷ ss)) (line_by tick kind frame ∷ []))
