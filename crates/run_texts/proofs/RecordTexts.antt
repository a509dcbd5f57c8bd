-- Lines of records, whose numbers rise.
use Rattle.std.proofs.Common.{◌≡◌, ◌==◌, ℕ, zero, suc, ◌+◌, ◌-◌, ◌%◌, ◌^◌, ◌<◌, ◌≤◌, true, cond, List, []}
use Rattle.std.proofs.Common.{◌∷◌, ◌++◌, length, codes, decimal, refl, ap, sym, ◌∙◌, append_assoc, arith}
use Rattle.std.proofs.lemmas.Bool.Decides.{nat_tests}
use Rattle.std.proofs.lemmas.List.{length-append}
use Rattle.tas_model.specs.declared.entry.FrameId.{FrameId}
use Rattle.tas_runs.specs.Report.{log_text, name_at, flow_text, copy_text, frame_text}
use Rattle.tas_core.specs.declared.stretch.RunKind.{RunKind}
use Rattle.tas_core.specs.declared.stretch.RunKind.TheVariants.{Dropped, Refused}
use Rattle.tas_core.specs.declared.stretch.LogRun.{LogRun}
use Rattle.tas_core.specs.Stretches.{line_by, numbered_line, numbered_lines, run_lines}
use Rattle.run_texts.specs.Counting.{lines_from, AreAlike}
use Rattle.run_texts.specs.Records.{word_of, end_of, record_line}
use Rattle.run_texts.proofs.Lists.{log_line}
use Rattle.run_texts.proofs.Counting.{alike_by_one}
use Rattle.run_texts.proofs.Decades.{stem, decimal_ends, decimal_more}

-- ----- as the definitions have them
is_record : (host : ℕ) → host ≡ 2 ^ 32 - 1 → (host == 2 ^ 32 - 1) ≡ true
is_record host h = grind (arith, nat_tests, h)

record_frame : (names : List (List ℕ)) (f : FrameId) → f.host ≡ 2 ^ 32 - 1
    → frame_text names f ≡ codes "r:" ++ decimal f.number
record_frame names f h =
    ap (λ b. cond b (codes "r:" ++ decimal f.number) (name_at names f.host ++ codes ":" ++ flow_text f.flow
    ++ codes "." ++ decimal f.number ++ copy_text f.copy)) (is_record f.host h)

dropped_pieces : (t n w : List ℕ)
    → t ++ codes " " ++ (codes "dropped " ++ (codes "r:" ++ n) ++ codes " = " ++ w) ++ codes "\n"
    ≡ (t ++ codes " dropped r:") ++ (n ++ (codes " = " ++ w ++ codes "\n"))
dropped_pieces t n w = simp append_assoc refl

refused_pieces : (t n w : List ℕ)
    → t ++ codes " " ++ (codes "refused " ++ (codes "r:" ++ n) ++ codes " = " ++ w) ++ codes "\n"
    ≡ (t ++ codes " refused r:") ++ (n ++ (codes " = " ++ w ++ codes "\n"))
refused_pieces t n w = simp append_assoc refl

line_is : (names : List (List ℕ)) (tick : ℕ) (kind : RunKind) (f : FrameId) → f.host ≡ 2 ^ 32 - 1
    → log_line names (line_by tick kind f) ≡ record_line tick kind f.number
line_is names tick (Dropped backlog) f h =
    ap (λ (x : List ℕ). decimal tick ++ codes " "
    ++ (codes "dropped " ++ x ++ codes " = " ++ cond backlog (codes "backlogfull") (codes "noflowslot")) ++ codes "\n")
    (record_frame names f h)
    ∙ dropped_pieces (decimal tick) (decimal f.number) (cond backlog (codes "backlogfull") (codes "noflowslot"))
line_is names tick (Refused number) f h =
    ap (λ (x : List ℕ). decimal tick ++ codes " " ++ (codes "refused " ++ x ++ codes " = " ++ decimal number)
    ++ codes "\n") (record_frame names f h)
    ∙ refused_pieces (decimal tick) (decimal f.number) (decimal number)

lines_are : (names : List (List ℕ)) (r : LogRun) (j k : ℕ) → r.first.host ≡ 2 ^ 32 - 1
    → lines_from (λ (i : ℕ). record_line r.tick r.kind (r.first.number + i)) j k
    ≡ log_text names (numbered_lines r (r.first.number + j) k)
lines_are names r j zero h = refl
lines_are names r j (suc k) h =
    let f : ℕ → List ℕ = λ (i : ℕ). record_line r.tick r.kind (r.first.number + i) in
    let number : r.first.number + (j + 1) ≡ r.first.number + j + 1 = omega arith in
    ap (λ (x : List ℕ). x ++ lines_from f (j + 1) k)
    (sym (line_is names r.tick r.kind (record (r.first) { number = r.first.number + j }) h))
    ∙ ap (λ (x : List ℕ). log_line names (numbered_line r (r.first.number + j)) ++ x)
    (lines_are names r (j + 1) k h ∙ ap (λ (n : ℕ). log_text names (numbered_lines r n k)) number)

pub run_is : (names : List (List ℕ)) (r : LogRun) → r.first.host ≡ 2 ^ 32 - 1
    → lines_from (λ (i : ℕ). record_line r.tick r.kind (r.first.number + i)) 0 (r.last - r.first.number + 1)
    ≡ log_text names (run_lines r)
run_is names r h =
    let more : ℕ = r.last - r.first.number in
    let number : r.first.number + 0 ≡ r.first.number = omega arith in
    let count : more + 1 ≡ suc more = omega arith in
    lines_are names r 0 (more + 1) h
    ∙ (ap (λ (n : ℕ). log_text names (numbered_lines r n (more + 1))) number
    ∙ ap (λ (k : ℕ). log_text names (numbered_lines r r.first.number k)) count)

-- ----- the digit of a line's number rises by one from one record to the next
pub records_alike : (t : ℕ) (kind : RunKind) (n j more place : ℕ) → j ≤ more → n + more < 2 ^ 64
    → place + 1 ≡ length (decimal t) + length (word_of kind) + length (decimal (n + j))
    → AreAlike (λ (i : ℕ). record_line t kind (n + i)) j more place place
records_alike t kind n j more place within small at =
    let m : ℕ = n + j in
    let front : List ℕ = decimal t ++ word_of kind in
    let number : length (decimal m) ≡ length (stem m) + 1 =
    ap (length {A = ℕ}) (decimal_ends m (omega (arith, small, within)))
    ∙ length-append (stem m) ((48 + m % 10) ∷ []) in
    alike_by_one (λ (i : ℕ). record_line t kind (n + i)) j more place (48 + m % 10) (front ++ stem m) (end_of kind)
    within
    (omega (arith, at, number, length-append front (stem m), length-append (decimal t) (word_of kind)))
    (omega arith) (omega arith)
    (λ k inside few.
    let number_is : n + (j + k) ≡ m + k = omega arith in
    ap (record_line t kind) number_is
    ∙ (ap (λ (x : List ℕ). front ++ (x ++ end_of kind))
    (decimal_more m k (omega (arith, few)) (omega (arith, small, inside)))
    ∙ parts front (stem m) (end_of kind) (48 + m % 10 + k)))
  where
    parts : (xs ys zs : List ℕ) (d : ℕ) → xs ++ ((ys ++ d ∷ []) ++ zs) ≡ (xs ++ ys) ++ d ∷ zs
    parts xs ys zs d = ap (λ (l : List ℕ). xs ++ l) (append_assoc ys (d ∷ []) zs) ∙ sym (append_assoc xs ys (d ∷ zs))

-- the pieces of a line behind a text
pub line_behind : (w t s n e : List ℕ) → (((w ++ t) ++ s) ++ n) ++ e ≡ w ++ ((t ++ s) ++ (n ++ e))
line_behind w t s n e = simp append_assoc refl
