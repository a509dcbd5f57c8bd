-- A scenario as far as its lines were read is in its ranges, and so is the whole.
use Rattle.std.proofs.Common.{◌≡◌, ◌≤◌, ℕ, ◌+◌, ◌||◌, Bool, true, false, nat_le, List, [], ◌∷◌, ◌++◌, length}
use Rattle.std.proofs.Common.{Option, Some, None, Result, Ok, Err, unwrap_or, if◌then◌else◌, IfSome, IfOk}
use Rattle.std.proofs.Common.{refl, sym, ap, subst, suc, arith, length-append}
use Rattle.std.proofs.lemmas.Result.{IfOk-at_ok}
use Rattle.std.proofs.lemmas.Bool.Decides.{nat_tests}
use Rattle.std.specs.Str.Lines.{lines}
use Rattle.host_rounds.specs.Lists.{Each}
use Rattle.host_rounds.proofs.Lists.{each_append}
use Rattle.scenario_text.specs.Statements.{reading}
use Rattle.scenario_text.specs.Drafts.{no_draft, is_large, is_unknown, repeats, judged, host_with, with_step, with_line}
use Rattle.scenario_text.specs.Reads.{taken_if, taken_by, taken, finished, read_from, reads}
use Rattle.scenario_text.specs.declared.draft.Draft.{Draft}
use Rattle.scenario_text.specs.declared.scenario.HostLine.{HostLine}
use Rattle.scenario_text.specs.declared.scenario.AppLine.{AppLine}
use Rattle.scenario_text.specs.declared.scenario.Step.{Step}
use Rattle.scenario_text.specs.declared.scenario.Scenario.{Scenario}
use Rattle.scenario_text.specs.declared.statement.Statement.{Statement}
use Rattle.scenario_text.specs.declared.statement.Statement.TheVariants as says
use Rattle.scenario_text.specs.declared.statement.Reading.{Reading}
use Rattle.scenario_text.specs.declared.statement.Reading.TheVariants.{Nothing, Wrong, Says}
use Rattle.scenario_text.specs.declared.reading.ScenarioFault.{ScenarioFault}
use Rattle.scenario_text.specs.declared.reading.ScenarioFault.TheVariants.{Refused}
use Rattle.scenario_ranges.specs.Ranges.{IsFrom, IsStepInRange, IsHostInRange, IsInRange}
use Rattle.scenario_ranges.proofs.HostOptions.{host_from}
use Rattle.scenario_ranges.proofs.LineForms.{IsSaidInRange, IsReadInRange}
use Rattle.scenario_ranges.proofs.Readings.{reading_from}

abbrev pub IsAppInRange : AppLine → Type 0
IsAppInRange app = Each IsStepInRange app.steps

-- What was read is in its ranges; it may have no host yet.
pub record IsDraftInRange (d : Draft) : Type 0 where
  pub limit : IfSome d.limit (IsFrom 1 10000)
  pub count : length d.hosts ≤ 8
  pub hosts : Each IsHostInRange d.hosts
  pub apps : length d.apps ≤ 2048
  pub steps : Each IsAppInRange d.apps

-- ----- what a line adds
step_added : (apps : List AppLine) (step : Step) → Each IsAppInRange apps → IsStepInRange step
    → Each IsAppInRange (with_step apps step)
step_added [] step h s = tt
step_added (app ∷ []) step h s = (each_append IsStepInRange app.steps (step ∷ []) h.0 (s, tt), tt)
step_added (app ∷ other ∷ apps) step h s = (h.0, step_added (other ∷ apps) step h.1 s)

-- a step more is of an application that stands
as_many : (apps : List AppLine) (step : Step) → length (with_step apps step) ≡ length apps
as_many [] step = refl
as_many (app ∷ []) step = refl
as_many (app ∷ other ∷ apps) step = ap suc (as_many (other ∷ apps) step)

-- a host more, where there were fewer than eight, and an application, where there were fewer than 2,048
not_full : (unknown repeated full : Bool)
    → ◌≡◌ {A = Option ℕ} (if unknown then Some 6 else if repeated then Some 7 else if full then Some 8 else None) None
    → full ≡ false
not_full true repeated full e = absurd (cc (e))
not_full false true full e = absurd (cc (e))
not_full false false true e = absurd (cc (e))
not_full false false false e = refl

neither : (a b : Bool) → (a || b) ≡ false → a ≡ false
neither true b e = absurd (cc (e))
neither false b e = refl

one_more : (hosts : List HostLine) (host : HostLine) → nat_le 8 (length hosts) ≡ false → length (hosts ++ host ∷ []) ≤ 8
one_more hosts host e = grind (arith, nat_tests, e, length-append hosts (host ∷ []))

one_app : (apps : List AppLine) (app : AppLine) → nat_le 2048 (length apps) ≡ false → length (apps ++ app ∷ []) ≤ 2048
one_app apps app e = grind (arith, nat_tests, e, length-append apps (app ∷ []))

line_added : (d : Draft) (statement : Statement) → IsDraftInRange d → IsSaidInRange statement
    → judged d statement ≡ None → IsDraftInRange (with_line d statement)
line_added d (says.Limit ticks) h s e = record {
  limit = s;
  count = h.count;
  hosts = h.hosts;
  apps = h.apps;
  steps = h.steps;
}
line_added d (says.Host name addr given) h s e = record {
  limit = h.limit;
  count = one_more d.hosts (host_with name addr given)
      (neither (nat_le 8 (length d.hosts)) (is_large given) (not_full given.unknown
      (repeats d (says.Host name addr given)) (nat_le 8 (length d.hosts) || is_large given) e));
  hosts = each_append IsHostInRange d.hosts (host_with name addr given ∷ []) h.hosts (host_from name addr given s, tt);
  apps = h.apps;
  steps = h.steps;
}
line_added d (says.App host name) h s e = record {
  limit = h.limit;
  count = h.count;
  hosts = h.hosts;
  apps = one_app d.apps _
      (not_full (is_unknown d (says.App host name)) (repeats d (says.App host name)) (nat_le 2048 (length d.apps)) e);
  steps = each_append IsAppInRange d.apps _ h.steps (tt, tt);
}
line_added d (says.Do step) h s e =
    record {
      limit = h.limit;
      count = h.count;
      hosts = h.hosts;
      apps = subst (λ (n : ℕ). n ≤ 2048) (sym (as_many d.apps step)) h.apps;
      steps = step_added d.apps step h.steps s;
    }
line_added d (says.OnFrame host flow number act) h s e =
    record { limit = h.limit; count = h.count; hosts = h.hosts; apps = h.apps; steps = h.steps }
line_added d (says.DropEach host k) h s e =
    record { limit = h.limit; count = h.count; hosts = h.hosts; apps = h.apps; steps = h.steps }
line_added d (says.Move line worded) h s e =
    record { limit = h.limit; count = h.count; hosts = h.hosts; apps = h.apps; steps = h.steps }
line_added d (says.Kill line worded) h s e =
    record { limit = h.limit; count = h.count; hosts = h.hosts; apps = h.apps; steps = h.steps }

-- ----- a line
taken_if_in : (d : Draft) (statement : Statement) (refusal : Option ℕ) → judged d statement ≡ refusal
    → IsDraftInRange d → IsSaidInRange statement → IfOk (taken_if d statement refusal) IsDraftInRange
taken_if_in d statement None e h s = line_added d statement h s e
taken_if_in d statement (Some kind) e h s = tt

taken_by_in : (d : Draft) (reading : Reading) → IsDraftInRange d → IsReadInRange reading
    → IfOk (taken_by d reading) IsDraftInRange
taken_by_in d Nothing h r = h
taken_by_in d (Wrong kind) h r = tt
taken_by_in d (Says statement) h r = taken_if_in d statement (judged d statement) refl h r

-- ----- all lines
default_limit : (limit : Option ℕ) → IfSome limit (IsFrom 1 10000) → IsFrom 1 10000 (unwrap_or limit 1000)
default_limit None h = (omega arith, omega arith)
default_limit (Some ticks) h = h

finished_in : (line : ℕ) (d : Draft) (hosts : List HostLine) → d.hosts ≡ hosts → IsDraftInRange d
    → IfOk (finished line d hosts) IsInRange
finished_in line d [] e h = tt
finished_in line d (host ∷ hosts) e h = record {
  limit = default_limit d.limit h.limit;
  count = (some d.hosts host hosts e, h.count);
  hosts = h.hosts;
  apps = h.apps;
  steps = h.steps;
} where
  some : (all : List HostLine) (host : HostLine) (hosts : List HostLine) → all ≡ host ∷ hosts → 1 ≤ length all
  some all host hosts e = grind (arith, ap length e)

all_lines : (line : ℕ) (d : Draft) (texts : List (List ℕ)) → IsDraftInRange d
    → IfOk (read_from line d texts) IsInRange
all_lines line d [] h = finished_in line d d.hosts refl h
all_lines line d (text ∷ texts) h =
    by_line (taken d text) (taken_by_in d (reading text) h (reading_from text))
    (λ next. all_lines (line + 1) next texts) where
      by_line : (next : Result Draft ℕ) → IfOk next IsDraftInRange
          → ((next : Draft) → IsDraftInRange next → IfOk (read_from (line + 1) next texts) IsInRange)
          → IfOk (elim next as (λ r. Result Scenario ScenarioFault)
          [ Ok d ↦ read_from (line + 1) d texts | Err kind ↦ Err (Refused line kind) ]) IsInRange
      by_line (Ok next) h rest = rest next h
      by_line (Err kind) h rest = tt

pub read_in_range : (text : List ℕ) (s : Scenario) → reads text ≡ Ok s → IsInRange s
unfolding reads
read_in_range text s e = IfOk-at_ok IsInRange e (all_lines 1 no_draft (lines text) none) where
  none : IsDraftInRange no_draft
  none = record { limit = tt; count = omega arith; hosts = tt; apps = omega arith; steps = tt }
