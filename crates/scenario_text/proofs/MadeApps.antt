-- The applications of the made scenario, as they are read step by step.
use Rattle.std.proofs.Common.{◌≡◌, ℕ, suc, zero, ◌+◌, ◌^◌, ◌≤◌, ◌<◌, Bool, true, false, ◌&&◌, ◌||◌, nat_le, List}
use Rattle.std.proofs.Common.{[], ◌∷◌, ◌++◌, length, map, drop, Option, Some, None, Result, Ok, if◌then◌else◌}
use Rattle.std.proofs.Common.{refl, sym, ◌∙◌, ap, arith}
use Rattle.std.specs.Prelude.{codes, decimal, bytes_eq}
use Rattle.std.specs.List.{list_all, range_with_len}
use Rattle.std.proofs.lemmas.Bool.Decides.{nat_tests}
use Rattle.std.proofs.lemmas.Fmt.{decimal_injective}
use Rattle.std.proofs.lemmas.List.Folds.{list_any-append}
use Rattle.std.proofs.lemmas.Slice.Eq.{bytes_eq-Decides}
use Rattle.link_script.specs.LinkLines.{no_lines, with_drop_each}
use Rattle.scenario_text.specs.Canonical.{line_of}
use Rattle.scenario_text.specs.Drafts.{is_lost_step, brings, brings_again, has_app, has_host, is_nil, last_steps}
use Rattle.scenario_text.specs.Drafts.{with_step, judged, host_with}
use Rattle.scenario_text.specs.Statements.{none_given, by_words}
use Rattle.scenario_text.specs.Reads.{taken_by, taken_if}
use Rattle.scenario_text.specs.declared.draft.Draft.{Draft}
use Rattle.scenario_text.specs.declared.scenario.AppLine.{AppLine}
use Rattle.scenario_text.specs.declared.scenario.HostLine.{HostLine}
use Rattle.scenario_text.specs.declared.scenario.Scenario.{Scenario}
use Rattle.scenario_text.specs.declared.scenario.Step.{Step}
use Rattle.scenario_text.specs.declared.reading.ScenarioFault.{ScenarioFault}
use Rattle.scenario_text.specs.declared.statement.Statement.TheVariants as says
use Rattle.scenario_text.specs.declared.statement.Reading.TheVariants.{Says}
use Rattle.scenario_text.proofs.WordedLines.{is_word, spaced, Leads, worded}

-- ----- the draft behind the lines of hosts and link, with these applications
abbrev pub two_hosts : List HostLine
two_hosts =
    host_with (codes "a") 167772161 (record none_given { rto = Some 8 })
    ∷ host_with (codes "b") 167772162 (record none_given { rto = Some 8 })
    ∷ []

abbrev pub made_draft : List AppLine → Draft
made_draft apps = record {
  limit = Some 5000;
  hosts = two_hosts;
  apps = apps;
  link = with_drop_each no_lines 0 7;
  moves = [];
  kills = [];
}

abbrev pub taken_with : List AppLine → Result Draft ℕ
taken_with apps = Ok (made_draft apps)

-- ----- the last application
abbrev pub with_more : AppLine → Step → AppLine
with_more app step = record app { steps = app.steps ++ step ∷ [] }

not_nil : (apps : List AppLine) (app : AppLine) → is_nil (apps ++ app ∷ []) ≡ false
not_nil [] app = refl
not_nil (a ∷ apps) app = refl

steps_of_last : (apps : List AppLine) (app : AppLine) → last_steps (apps ++ app ∷ []) ≡ app.steps
steps_of_last [] app = refl
steps_of_last (a ∷ []) app = refl
steps_of_last (a ∷ b ∷ apps) app = steps_of_last (b ∷ apps) app

step_of_last : (apps : List AppLine) (app : AppLine) (step : Step)
    → with_step (apps ++ app ∷ []) step ≡ apps ++ with_more app step ∷ []
step_of_last [] app step = refl
step_of_last (a ∷ []) app step = refl
step_of_last (a ∷ b ∷ apps) app step = ap (λ (xs : List AppLine). a ∷ xs) (step_of_last (b ∷ apps) app step)

-- ----- a step
abbrev pub step_refused : (before : List Step) → Step → Option ℕ
step_refused before step =
    if is_lost_step two_hosts before step then Some 6
    else if brings_again before (brings step) then Some 7
    else if nat_le 1000 (length before) then Some 8
    else None

step_judged : (apps : List AppLine) (app : AppLine) (step : Step)
    → judged (made_draft (apps ++ app ∷ [])) (says.Do step) ≡ step_refused app.steps step
step_judged apps app step = rw (not_nil apps app, steps_of_last apps app) refl

-- The line of a step of the last application is taken.
pub step_read : (apps : List AppLine) (app : AppLine) (step : Step)
    (word : List ℕ) (words : List (List ℕ)) (rest : List ℕ)
    → list_all is_word (word ∷ words) ≡ true → length (word ++ spaced words) ≤ 4096
    → by_words (word ++ spaced words) (word ∷ words) ≡ Says (says.Do step) → step_refused app.steps step ≡ None
    → (all : Result Scenario ScenarioFault)
    → Leads (made_draft (apps ++ with_more app step ∷ [])) rest all
    → Leads (made_draft (apps ++ app ∷ [])) (line_of word words ++ rest) all
step_read apps app step word words rest e short said right all h =
    let d : Draft = made_draft (apps ++ app ∷ []) in
    let taken : taken_by d (by_words (word ++ spaced words) (word ∷ words))
    ≡ Ok (made_draft (apps ++ with_more app step ∷ [])) =
    ap (taken_by d) said
    ∙ (ap (taken_if d (says.Do step)) (step_judged apps app step ∙ right)
    ∙ ap taken_with (step_of_last apps app step)) in
    worded d _ word words rest e short taken all h

-- ----- an application
app_judged : (apps : List AppLine) (host name : List ℕ) → has_host two_hosts host ≡ true
    → has_app apps host name ≡ false → length apps ≤ 2000 → judged (made_draft apps) (says.App host name) ≡ None
app_judged apps host name known fresh few =
    let within : nat_le 2048 (length apps) ≡ false = grind (arith, nat_tests, few) in
    rw (known, fresh, within) refl

-- The line of an application with a new name is taken.
pub app_read : (apps : List AppLine) (host name word : List ℕ) (words : List (List ℕ)) (rest : List ℕ)
    → list_all is_word (word ∷ words) ≡ true → length (word ++ spaced words) ≤ 4096
    → by_words (word ++ spaced words) (word ∷ words) ≡ Says (says.App host name)
    → has_host two_hosts host ≡ true → has_app apps host name ≡ false → length apps ≤ 2000
    → (all : Result Scenario ScenarioFault)
    → Leads (made_draft (apps ++ (record { host = host; name = name; steps = [] }) ∷ [])) rest all
    → Leads (made_draft apps) (line_of word words ++ rest) all
app_read apps host name word words rest e short said known fresh few all h =
    let d : Draft = made_draft apps in
    let taken : taken_by d (by_words (word ++ spaced words) (word ∷ words))
    ≡ Ok (made_draft (apps ++ (record { host = host; name = name; steps = [] }) ∷ [])) =
    ap (taken_by d) said ∙ ap (taken_if d (says.App host name)) (app_judged apps host name known fresh few) in
    worded d _ word words rest e short taken all h

-- ----- names that differ
false_by : (b : Bool) → (b ≡ true → ⊥) → b ≡ false
false_by true h = absurd (h refl)
false_by false h = refl

-- the applications of a host whose names are a letter and a number, from this number on
pub other_number : (host : List ℕ) (letter : ℕ) (app : ℕ → AppLine)
    → ((i : ℕ) → (app i).name ≡ letter ∷ decimal i) → (from count n : ℕ) → from + count ≤ n → n < 2 ^ 64
    → has_app (map app (range_with_len from count)) host (letter ∷ decimal n) ≡ false
other_number host letter app named from zero n h small = refl
other_number host letter app named from (suc count) n h small =
    let other : bytes_eq (app from).name (letter ∷ decimal n) ≡ false = names_differ (omega (arith, h)) in
    rw (other, other_number host letter app named (from + 1) count n (omega (arith, h)) small)
    (none (bytes_eq (app from).host host)) where
      none : (b : Bool) → ((b && false) || false) ≡ false
      none true = refl
      none false = refl

      names_differ : from < n → bytes_eq (app from).name (letter ∷ decimal n) ≡ false
      names_differ below = false_by (bytes_eq (app from).name (letter ∷ decimal n)) (λ t.
          let same : (app from).name ≡ letter ∷ decimal n =
          (bytes_eq-Decides (app from).name (letter ∷ decimal n)).0 t in
          let digits : decimal from ≡ decimal n = ap (drop 1) (sym (named from) ∙ same) in
          let equal : from ≡ n = decimal_injective from n (omega (arith, below, small)) small digits in
          omega (arith, equal, below))

-- the applications of another host
pub other_host : (host name : List ℕ) (app : ℕ → AppLine) → ((i : ℕ) → bytes_eq (app i).host host ≡ false)
    → (from count : ℕ) → has_app (map app (range_with_len from count)) host name ≡ false
other_host host name app other from zero = refl
other_host host name app other from (suc count) =
    rw (other from, other_host host name app other (from + 1) count) refl

pub none_of_both : (apps others : List AppLine) (host name : List ℕ) → has_app apps host name ≡ false
    → has_app others host name ≡ false → has_app (apps ++ others) host name ≡ false
none_of_both apps others host name a b =
    list_any-append (λ (x : AppLine). bytes_eq x.host host && bytes_eq x.name name) apps others ∙ rw (a, b) refl
