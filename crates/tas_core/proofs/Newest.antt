-- The stretches behind the first lines of a log.
use Rattle.std.proofs.Common.{◌≡◌, ℕ, zero, suc, ◌+◌, ◌-◌, ◌≤◌, ◌<◌, List, [], ◌∷◌, ◌++◌, length, get_or, sym, ap}
use Rattle.std.proofs.Common.{◌∙◌, arith, take, drop, append_assoc, append-nil, length-append, take-append-drop}
use Rattle.std.proofs.lemmas.List.{take_more, drop-append-le}
use Rattle.std.proofs.lemmas.List.Concat.{flat_map-append}
use Rattle.std.proofs.Math.Seq.{drop-append-add}
use Rattle.host_rounds.specs.Lists.{Each}
use Rattle.host_rounds.specs.declared.log.LogLine.{LogLine}
use Rattle.tas_core.specs.declared.stretch.RunKind.{RunKind}
use Rattle.tas_core.specs.declared.stretch.RunKind.TheVariants.{Dropped, Refused}
use Rattle.tas_core.specs.declared.stretch.LogRun.{LogRun}
use Rattle.tas_core.specs.declared.stretch.LogStretch.{LogStretch}
use Rattle.tas_core.specs.declared.stretch.LogStretch.TheVariants.{One, Run}
use Rattle.tas_core.specs.Stretches.{event_by, numbered_lines, lines_in, lines_of}
use Rattle.tas_core.specs.Stretches.{IsOfRun, ComeAfter}

abbrev pub AreOfRun : List LogLine → Type 0
AreOfRun ls = Each (λ (l : LogLine). IsOfRun l.event) ls

pub lines_are : (r : LogRun) (n k : ℕ) → AreOfRun (numbered_lines r n k)
lines_are r n zero = tt
lines_are r n (suc k) = (by_kind r.kind, lines_are r (n + 1) k)
  where
    by_kind : (kind : RunKind) → IsOfRun (event_by kind (record (r.first) { number = n }))
    by_kind (Dropped backlog) = tt
    by_kind (Refused number) = tt

rest_are : (ls : List LogLine) (n : ℕ) → AreOfRun ls → AreOfRun (drop n ls)
rest_are [] zero all = tt
rest_are [] (suc n) all = tt
rest_are (l ∷ ls) zero all = all
rest_are (l ∷ ls) (suc n) all = rest_are ls n all.1

-- a stretch of more lines than one is a run
long_is : (s : LogStretch) (more : ℕ) → suc more ≡ length (lines_in s) → 0 < more → AreOfRun (lines_in s)
long_is (One line) more len long = absurd (omega (arith, len, long))
long_is (Run run) more len long = lines_are run run.first.number (suc (run.last - run.first.number))

-- the first stretches, and the others
pub lines_parts : (ss : List LogStretch) (i : ℕ) → lines_of ss ≡ lines_of (take i ss) ++ lines_of (drop i ss)
lines_parts ss i = sym (ap lines_of (take-append-drop i ss)) ∙ flat_map-append lines_in (take i ss) (drop i ss)

-- one stretch more
pub lines_more : (ss : List LogStretch) (i : ℕ) (d : LogStretch) → i < length ss
    → lines_of (take (i + 1) ss) ≡ lines_of (take i ss) ++ lines_in (get_or ss i d)
lines_more ss i d below =
    ap lines_of (take_more ss i d below)
    ∙ (flat_map-append lines_in (take i ss) (get_or ss i d ∷ [])
    ∙ ap (λ ls. lines_of (take i ss) ++ ls) (append-nil (lines_in (get_or ss i d))))

pub count_more : (ss : List LogStretch) (i : ℕ) (d : LogStretch) → i < length ss
    → length (lines_of (take (i + 1) ss)) ≡ length (lines_of (take i ss)) + length (lines_in (get_or ss i d))
count_more ss i d below = ap length (lines_more ss i d below)
    ∙ length-append (lines_of (take i ss)) (lines_in (get_or ss i d))

pub some_left : (ss : List LogStretch) (i lines left : ℕ) → length (lines_of (take i ss)) ≡ lines + left → 0 < left
    → 0 < i
some_left ss zero lines left len some = absurd (omega (arith, len, some))
some_left ss (suc i) lines left len some = omega arith

-- they begin right behind those lines
pub come_next : (ss : List LogStretch) (i lines : ℕ) → length (lines_of (take i ss)) ≡ lines
    → ComeAfter lines (lines_of ss) (drop i ss)
come_next ss i lines len =
    let place : lines ≡ length (lines_of (take i ss)) + 0 = omega (arith, len) in
    record {
      passed = [];
      all = ap (drop lines) (lines_parts ss i)
          ∙ (ap (λ n. drop n (lines_of (take i ss) ++ lines_of (drop i ss))) place
          ∙ drop-append-add (lines_of (take i ss)) (lines_of (drop i ss)) 0);
      of_run = tt;
    }

-- or behind the end of a run
pub come_behind : (ss : List LogStretch) (i lines left more : ℕ) (d : LogStretch) → i < length ss
    → length (lines_of (take (i + 1) ss)) ≡ lines + left → suc more ≡ length (lines_in (get_or ss i d)) → left ≤ more
    → 0 < left → ComeAfter lines (lines_of ss) (drop (i + 1) ss)
come_behind ss i lines left more d below len size less some =
    let s : LogStretch = get_or ss i d in
    let front : List LogLine = lines_of (take i ss) in
    let back : List LogLine = lines_of (drop (i + 1) ss) in
    let n : ℕ = lines - length front in
    let count = count_more ss i d below in
    let place : lines ≡ length front + n = omega (arith, count, len, size, less) in
    let inside : n ≤ length (lines_in s) = omega (arith, count, len, size, less) in
    let long : 0 < more = omega (arith, some, less) in
    record {
      passed = drop n (lines_in s);
      all = ap (drop lines) (lines_parts ss (i + 1) ∙ ap (λ ls. ls ++ back) (lines_more ss i d below)
          ∙ append_assoc front (lines_in s) back)
          ∙ (ap (λ m. drop m (front ++ (lines_in s ++ back))) place
          ∙ (drop-append-add front (lines_in s ++ back) n ∙ drop-append-le n (lines_in s) back inside));
      of_run = rest_are (lines_in s) n (long_is s more size long);
    }
