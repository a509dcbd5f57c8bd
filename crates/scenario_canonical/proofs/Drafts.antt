-- A scenario as far as its lines were read: each of them can be printed and read again.
use Rattle.std.proofs.Common.{length, nat_le, ◌≡◌, ℕ, ◌+◌, ◌||◌, Bool, true, false, not, List, [], ◌∷◌, ◌++◌}
use Rattle.std.proofs.Common.{Option, Some, None, Result, Ok, Err, IfSome, IfOk, is_some, unwrap_or, refl, sym}
use Rattle.std.proofs.Common.{◌∙◌, ap, subst, if◌then◌else◌}
use Rattle.std.proofs.lemmas.Result.{IfOk-at_ok}
use Rattle.std.specs.Str.Lines.{lines}
use Rattle.link_script.specs.LinkLines.{line_on, drop_each_of, with_act, with_drop_each}
use Rattle.link_script.specs.declared.script.LinkAct.{LinkAct}
use Rattle.link_script.specs.declared.script.Target.{Target}
use Rattle.scenario_text.specs.Statements.{reading}
use Rattle.scenario_text.specs.Drafts.{no_draft, is_unknown, repeats, is_full, judged, host_of, has_host, has_address}
use Rattle.scenario_text.specs.Drafts.{is_large, has_app, has_kill, host_with, is_nil, last_steps, is_lost_step, brings}
use Rattle.scenario_text.specs.Drafts.{brings_again, is_second, is_second_each, with_step, with_line}
use Rattle.scenario_text.specs.Reads.{taken_if, taken_by, taken, finished, read_from, reads}
use Rattle.scenario_text.specs.declared.draft.Draft.{Draft}
use Rattle.scenario_text.specs.declared.scenario.HostLine.{HostLine}
use Rattle.scenario_text.specs.declared.scenario.AppLine.{AppLine}
use Rattle.scenario_text.specs.declared.scenario.Step.{Step}
use Rattle.scenario_text.specs.declared.scenario.Scenario.{Scenario}
use Rattle.scenario_text.specs.declared.statement.Statement.{Statement}
use Rattle.scenario_text.specs.declared.statement.Statement.TheVariants as says
use Rattle.scenario_text.specs.declared.statement.Reading.{Reading}
use Rattle.scenario_text.specs.declared.statement.Reading.TheVariants.{Nothing, Wrong, Says}
use Rattle.scenario_text.specs.declared.reading.ScenarioFault.{ScenarioFault}
use Rattle.scenario_text.specs.declared.reading.ScenarioFault.TheVariants.{Refused}
use Rattle.scenario_canonical.proofs.WordForms.{IsLine}
use Rattle.scenario_canonical.proofs.LineForms.{line_text, again, limit_said, default_limit}
use Rattle.scenario_canonical.proofs.Readings.{said_again}
use Rattle.scenario_canonical.proofs.Order.{each_if, each_more, each_inserted, rising_inserted}
use Rattle.scenario_canonical.proofs.Taken.{EachAfter, after_if, after_more, IsHostTaken, IsStepTaken, IsAppTaken}
use Rattle.scenario_canonical.proofs.Taken.{IsActTaken, IsDropTaken, IsMoveTaken, IsKillTaken, IsLimitLine, IsTaken}
use Rattle.scenario_canonical.proofs.Taken.{number_known, app_with_host, act_with_host, drop_with_host, move_with_host}
use Rattle.scenario_canonical.proofs.Taken.{kill_with_app, kill_with_step, step_more}

-- ----- tests that a line has passed
-- a line that is not refused
record IsRight (d : Draft) (statement : Statement) : Type 0 where
  known : is_unknown d statement ≡ false
  fresh : repeats d statement ≡ false
  few : is_full d statement ≡ false

right_by : (d : Draft) (statement : Statement) → judged d statement ≡ None → IsRight d statement
right_by d statement e =
    by_tests (is_unknown d statement) (repeats d statement) (is_full d statement) refl refl refl e where
      by_tests : (a b c : Bool) → is_unknown d statement ≡ a → repeats d statement ≡ b → is_full d statement ≡ c
          → ◌≡◌ {A = Option ℕ} (if a then Some 6 else if b then Some 7 else if c then Some 8 else None) None
          → IsRight d statement
      by_tests true b c ea eb ec e = absurd (cc (e))
      by_tests false true c ea eb ec e = absurd (cc (e))
      by_tests false false true ea eb ec e = absurd (cc (e))
      by_tests false false false ea eb ec e = record { known = ea; fresh = eb; few = ec }

neither : (a b : Bool) → (a || b) ≡ false → (a ≡ false) × (b ≡ false)
neither true b e = absurd (cc (e))
neither false b e = (refl, e)

not_not : (b : Bool) → not b ≡ false → b ≡ true
not_not true e = refl
not_not false e = absurd (cc (e))

not_some : {X : Type 0} (o : Option X) → is_some o ≡ false → o ≡ None
not_some None e = refl
not_some (Some x) e = absurd (cc (e))

-- ----- what a line adds
host_added : (d : Draft) (host : HostLine) → IsTaken d → IsHostTaken d.hosts host
    → IsTaken (record d { hosts = d.hosts ++ host ∷ [] })
host_added d host h t =
    let more : List HostLine = d.hosts ++ host ∷ [] in
    record {
      limit = h.limit;
      hosts = after_more IsHostTaken [] d.hosts host h.hosts t;
      apps = after_if (IsAppTaken d.hosts) (IsAppTaken more) [] d.apps (app_with_host d.hosts host) h.apps;
      acts = each_if (IsActTaken d.hosts) (IsActTaken more) d.link.acts (act_with_host d.hosts host) h.acts;
      order = h.order;
      drops = after_if (IsDropTaken d.hosts) (IsDropTaken more) [] d.link.drops (drop_with_host d.hosts host) h.drops;
      moves = each_if (IsMoveTaken d.hosts) (IsMoveTaken more) d.moves (move_with_host d.hosts host) h.moves;
      kills = h.kills;
    }

app_added : (d : Draft) (app : AppLine) → IsTaken d → IsAppTaken d.hosts d.apps app
    → IsTaken (record d { apps = d.apps ++ app ∷ [] })
app_added d app h t = record {
  limit = h.limit;
  hosts = h.hosts;
  apps = after_more (IsAppTaken d.hosts) [] d.apps app h.apps t;
  acts = h.acts;
  order = h.order;
  drops = h.drops;
  moves = h.moves;
  kills = after_if (IsKillTaken d.apps) (IsKillTaken (d.apps ++ app ∷ [])) [] d.kills (kill_with_app d.apps app)
      h.kills;
}

step_added : (d : Draft) (step : Step) → IsTaken d → is_nil d.apps ≡ false
    → IsStepTaken d.hosts (last_steps d.apps) step → IsTaken (record d { apps = with_step d.apps step })
step_added d step h some t = record {
  limit = h.limit;
  hosts = h.hosts;
  apps = step_more d.hosts [] d.apps step h.apps some t;
  acts = h.acts;
  order = h.order;
  drops = h.drops;
  moves = h.moves;
  kills = after_if (IsKillTaken d.apps) (IsKillTaken (with_step d.apps step)) [] d.kills
      (kill_with_step d.apps step) h.kills;
}

abbrev target_of : (host flow number : ℕ) → Target
target_of host flow number = record { host = host; flow = flow; number = number }

act_placed : (d : Draft) (target : Target) (act : LinkAct) → IsTaken d → IsActTaken d.hosts (target, act)
    → line_on d.link target ≡ None → IsTaken (record d { link = with_act d.link target act })
act_placed d target act h t fresh = record {
  limit = h.limit;
  hosts = h.hosts;
  apps = h.apps;
  acts = each_inserted (IsActTaken d.hosts) d.link.acts target act fresh h.acts t;
  order = rising_inserted d.link.acts target act fresh h.order;
  drops = h.drops;
  moves = h.moves;
  kills = h.kills;
}

act_added : (d : Draft) (host : List ℕ) (flow number : ℕ) (act : LinkAct) → IsTaken d
    → IsLine (line_text (says.OnFrame host flow number act)) (says.OnFrame host flow number act)
    → (i : ℕ) → host_of d.hosts host ≡ Some i → is_second d.link (host_of d.hosts host) flow number ≡ false
    → IsTaken (with_line d (says.OnFrame host flow number act))
act_added d host flow number act h l i is fresh =
    let first : is_some (line_on d.link (target_of i flow number)) ≡ false =
    ap (λ (o : Option ℕ). is_second d.link o flow number) (sym is) ∙ fresh in
    let taken : IsTaken (record d { link = with_act d.link (target_of i flow number) act }) =
    act_placed d (target_of i flow number) act h (record { name = host; line = l; host = is }) (not_some _ first) in
    subst (λ (n : ℕ). IsTaken (record d { link = with_act d.link (target_of n flow number) act }))
    (sym (ap (λ (o : Option ℕ). unwrap_or o 0) is)) taken

drop_placed : (d : Draft) (host k : ℕ) → IsTaken d
    → IsDropTaken d.hosts d.link.drops (record { host = host; k = k })
    → IsTaken (record d { link = with_drop_each d.link host k })
drop_placed d host k h t = record {
  limit = h.limit;
  hosts = h.hosts;
  apps = h.apps;
  acts = h.acts;
  order = h.order;
  drops = after_more (IsDropTaken d.hosts) [] d.link.drops (record { host = host; k = k }) h.drops t;
  moves = h.moves;
  kills = h.kills;
}

drop_added : (d : Draft) (host : List ℕ) (k : ℕ) → IsTaken d
    → IsLine (line_text (says.DropEach host k)) (says.DropEach host k)
    → (i : ℕ) → host_of d.hosts host ≡ Some i → is_second_each d.link (host_of d.hosts host) ≡ false
    → IsTaken (with_line d (says.DropEach host k))
drop_added d host k h l i is fresh =
    let first : is_some (drop_each_of d.link.drops i) ≡ false =
    ap (λ (o : Option ℕ). is_second_each d.link o) (sym is) ∙ fresh in
    let taken : IsTaken (record d { link = with_drop_each d.link i k }) =
    drop_placed d i k h (record { name = host; line = l; host = is; fresh = not_some _ first }) in
    subst (λ (n : ℕ). IsTaken (record d { link = with_drop_each d.link n k }))
    (sym (ap (λ (o : Option ℕ). unwrap_or o 0) is)) taken

line_added : (d : Draft) (statement : Statement) → IsTaken d → IsRight d statement
    → IsLine (line_text statement) (again statement) → IsTaken (with_line d statement)
line_added d (says.Limit ticks) h r l = record {
  limit = l;
  hosts = h.hosts;
  apps = h.apps;
  acts = h.acts;
  order = h.order;
  drops = h.drops;
  moves = h.moves;
  kills = h.kills;
}
line_added d (says.Host name addr given) h r l =
    let front : ((given.repeated || has_host d.hosts name) ≡ false) × (has_address d.hosts addr ≡ false) =
    neither _ _ r.fresh in
    let room : (nat_le 8 (length d.hosts) ≡ false) × (is_large given ≡ false) = neither _ _ r.few in
    host_added d (host_with name addr given) h (record {
      line = l;
      same = refl;
      name = (neither _ _ front.0).1;
      address = front.1;
      few = room.0;
      fits = room.1;
    })
line_added d (says.App host name) h r l = app_added d (record { host = host; name = name; steps = [] }) h (record {
  line = l;
  known = not_not _ r.known;
  fresh = r.fresh;
  few = r.few;
  steps = tt;
})
line_added d (says.Do step) h r l =
    let known : (is_nil d.apps ≡ false) × (is_lost_step d.hosts (last_steps d.apps) step ≡ false) =
    neither _ _ r.known in
    step_added d step h known.0 (record { line = l; found = known.1; fresh = r.fresh; few = r.few })
line_added d (says.OnFrame host flow number act) h r l =
    let known : (i : ℕ) × (host_of d.hosts host ≡ Some i) =
    number_known d.hosts host (host_of d.hosts host) refl (not_not _ r.known) in
    act_added d host flow number act h l known.0 known.1 r.fresh
line_added d (says.DropEach host k) h r l =
    let known : (i : ℕ) × (host_of d.hosts host ≡ Some i) =
    number_known d.hosts host (host_of d.hosts host) refl (not_not _ r.known) in
    drop_added d host k h l known.0 known.1 r.fresh
line_added d (says.Move line worded) h r l = record {
  limit = h.limit;
  hosts = h.hosts;
  apps = h.apps;
  acts = h.acts;
  order = h.order;
  drops = h.drops;
  moves = each_more (IsMoveTaken d.hosts) d.moves line h.moves
      (record { line = l; known = not_not _ (neither _ _ r.known).1 });
  kills = h.kills;
}
line_added d (says.Kill line worded) h r l = record {
  limit = h.limit;
  hosts = h.hosts;
  apps = h.apps;
  acts = h.acts;
  order = h.order;
  drops = h.drops;
  moves = h.moves;
  kills = after_more (IsKillTaken d.apps) [] d.kills line h.kills
      (record { line = l; known = not_not _ (neither _ _ r.known).1; fresh = r.fresh });
}

-- ----- a line
taken_if_by : (d : Draft) (statement : Statement) (refusal : Option ℕ) → judged d statement ≡ refusal → IsTaken d
    → IsLine (line_text statement) (again statement) → IfOk (taken_if d statement refusal) IsTaken
taken_if_by d statement None e h l = line_added d statement h (right_by d statement e) l
taken_if_by d statement (Some kind) e h l = tt

line_taken_by : (d : Draft) (line : List ℕ) (said : Reading) → reading line ≡ said → IsTaken d
    → IfOk (taken_by d said) IsTaken
line_taken_by d line Nothing e h = h
line_taken_by d line (Wrong kind) e h = tt
line_taken_by d line (Says statement) e h =
    taken_if_by d statement (judged d statement) refl h (said_again line statement e)

-- ----- all lines
-- the draft of a whole scenario
abbrev pub draft_of : Scenario → Draft
draft_of s = record {
  limit = Some s.limit;
  hosts = s.hosts;
  apps = s.apps;
  link = s.link;
  moves = s.moves;
  kills = s.kills;
}

-- A scenario whose lines can all be printed and read again, and that has a host.
pub record IsWhole (s : Scenario) : Type 0 where
  pub lines : IsTaken (draft_of s)
  pub some : is_nil s.hosts ≡ false

limit_or_default : (limit : Option ℕ) → IfSome limit IsLimitLine → IsLimitLine (unwrap_or limit 1000)
limit_or_default None h = limit_said 1000 default_limit
limit_or_default (Some ticks) h = h

finished_by : (line : ℕ) (d : Draft) (hosts : List HostLine) → d.hosts ≡ hosts → IsTaken d
    → IfOk (finished line d hosts) IsWhole
finished_by line d [] e h = tt
finished_by line d (host ∷ hosts) e h = record {
  lines = record {
    limit = limit_or_default d.limit h.limit;
    hosts = h.hosts;
    apps = h.apps;
    acts = h.acts;
    order = h.order;
    drops = h.drops;
    moves = h.moves;
    kills = h.kills;
  };
  some = ap is_nil e;
}

all_lines : (line : ℕ) (d : Draft) (texts : List (List ℕ)) → IsTaken d → IfOk (read_from line d texts) IsWhole
all_lines line d [] h = finished_by line d d.hosts refl h
all_lines line d (text ∷ texts) h =
    by_line (taken d text) (line_taken_by d text (reading text) refl h)
    (λ next. all_lines (line + 1) next texts) where
      by_line : (next : Result Draft ℕ) → IfOk next IsTaken
          → ((next : Draft) → IsTaken next → IfOk (read_from (line + 1) next texts) IsWhole)
          → IfOk (elim next as (λ r. Result Scenario ScenarioFault)
          [ Ok d ↦ read_from (line + 1) d texts | Err kind ↦ Err (Refused line kind) ]) IsWhole
      by_line (Ok next) h rest = rest next h
      by_line (Err kind) h rest = tt

pub read_whole : (text : List ℕ) (s : Scenario) → reads text ≡ Ok s → IsWhole s
unfolding reads
read_whole text s e = IfOk-at_ok IsWhole e (all_lines 1 no_draft (lines text) none) where
  none : IsTaken no_draft
  none = record { limit = tt; hosts = tt; apps = tt; acts = tt; order = tt; drops = tt; moves = tt; kills = tt }
