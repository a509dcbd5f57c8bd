-- The canonical text of a scenario, read line by line, leads to the scenario.
use Rattle.std.proofs.Common.{◌≡◌, ℕ, ◌+◌, ◌<◌, ◌&&◌, ◌||◌, Bool, true, false, not, nat_le, List, [], ◌∷◌, ◌++◌, length}
use Rattle.std.proofs.Common.{Option, Some, None, Result, Ok, Err, IfOk, is_some, unwrap_or, refl, sym, ◌∙◌, ap, subst}
use Rattle.std.proofs.Common.{append_assoc, get_or, if◌then◌else◌, rules}
use Rattle.std.proofs.lemmas.List.{append-nil}
use Rattle.std.proofs.lemmas.List.Quantifiers.{position-Some}
use Rattle.std.proofs.lemmas.Option.{slice_get-get_or}
use Rattle.std.proofs.lemmas.Slice.Eq.{bytes_eq-Decides}
use Rattle.std.specs.Prelude.{codes, decimal, bytes_eq, slice_get}
use Rattle.std.specs.List.{flat_map}
use Rattle.std.specs.Str.Lines.{lines}
use Rattle.link_script.specs.LinkLines.{LinkLines, line_on, drop_each_of, with_act, with_drop_each, no_lines}
use Rattle.link_script.specs.declared.script.DropEach.{DropEach}
use Rattle.scenario_text.specs.Statements.{reading, none_given}
use Rattle.scenario_text.specs.Canonical.{line_of, host_text, app_text, step_text, act_line, act_text, each_text}
use Rattle.scenario_text.specs.Canonical.{name_in, name_at, move_text, kill_text, canonical}
use Rattle.scenario_text.specs.Drafts.{no_draft, is_unknown, repeats, is_full, judged, host_of, has_host}
use Rattle.scenario_text.specs.Drafts.{is_nil, last_steps, with_step, with_line, host_with}
use Rattle.scenario_text.specs.Reads.{taken_if, taken_by, taken, finished, read_from, reads}
use Rattle.scenario_text.specs.declared.draft.Draft.{Draft}
use Rattle.scenario_text.specs.declared.scenario.HostLine.{HostLine}
use Rattle.scenario_text.specs.declared.scenario.AppLine.{AppLine}
use Rattle.scenario_text.specs.declared.scenario.MoveLine.{MoveLine}
use Rattle.scenario_text.specs.declared.scenario.KillLine.{KillLine}
use Rattle.scenario_text.specs.declared.scenario.Step.{Step}
use Rattle.scenario_text.specs.declared.scenario.Scenario.{Scenario}
use Rattle.scenario_text.specs.declared.statement.Statement.{Statement}
use Rattle.scenario_text.specs.declared.statement.Statement.TheVariants as says
use Rattle.scenario_text.specs.declared.statement.Reading.{Reading}
use Rattle.scenario_text.specs.declared.statement.Reading.TheVariants.{Says}
use Rattle.scenario_text.specs.declared.reading.ScenarioFault.{ScenarioFault}
use Rattle.scenario_text.proofs.WordedLines.{Leads, line_leads}
use Rattle.scenario_canonical.proofs.WordForms.{IsLine}
use Rattle.scenario_canonical.proofs.HostOptions.{given_of}
use Rattle.scenario_canonical.proofs.Readings.{clean_line}
use Rattle.scenario_canonical.proofs.Order.{Entry, Each, IsRising, AreBelow, all_below, none_at, goes_last}
use Rattle.scenario_canonical.proofs.Taken.{EachAfter, IsHostTaken, IsStepTaken, IsAppTaken, IsActTaken, IsDropTaken}
use Rattle.scenario_canonical.proofs.Taken.{IsMoveTaken, IsKillTaken, IsTaken}
use Rattle.scenario_canonical.proofs.Drafts.{draft_of, IsWhole, read_whole}

-- ----- a line
abbrev ok_draft : Draft → Result Draft ℕ
ok_draft d = Ok d

not_refused : (unknown repeated full : Bool) → unknown ≡ false → repeated ≡ false → full ≡ false
    → ◌≡◌ {A = Option ℕ} (if unknown then Some 6 else if repeated then Some 7 else if full then Some 8 else None) None
not_refused unknown repeated full a b c = rw (a, b, c) refl

-- a line at the front of a text that says what is not refused
line_back : (d next : Draft) (text : List ℕ) (statement : Statement) (rest : List ℕ) → IsLine text statement
    → is_unknown d statement ≡ false → repeats d statement ≡ false → is_full d statement ≡ false
    → with_line d statement ≡ next → (all : Result Scenario ScenarioFault) → Leads next rest all
    → Leads d (text ++ rest) all
line_back d next text statement rest l known fresh few same all h line =
    let body : List ℕ = l.0 in
    let judged_so : judged d statement ≡ None =
    not_refused (is_unknown d statement) (repeats d statement) (is_full d statement) known fresh few in
    let taken_so : taken d body ≡ Ok next =
    ap (taken_by d) l.2
    ∙ (ap (taken_if d statement) judged_so ∙ ap ok_draft same) in
    ap (λ (t : List ℕ). read_from line d (lines t))
    (ap (λ (t : List ℕ). t ++ rest) l.1 ∙ append_assoc body (10 ∷ []) rest)
    ∙ line_leads d next body rest (clean_line body statement l.2) taken_so all h line

-- ----- the lines of a kind, one after another
stage : {X : Type 0} (draft : List X → Draft) (text : X → List ℕ) (P : List X → X → Type 0)
    (all : Result Scenario ScenarioFault)
    → ((before : List X) (x : X) (rest : List ℕ) → P before x → Leads (draft (before ++ x ∷ [])) rest all
    → Leads (draft before) (text x ++ rest) all)
    → (before xs : List X) (rest : List ℕ) → EachAfter P before xs → Leads (draft (before ++ xs)) rest all
    → Leads (draft before) (flat_map text xs ++ rest) all
stage draft text P all one before [] rest h l = subst (λ zs. Leads (draft zs) rest all) (append-nil before) l
stage draft text P all one before (x ∷ xs) rest h l =
    let last : Leads (draft ((before ++ x ∷ []) ++ xs)) rest all =
    subst (λ zs. Leads (draft zs) rest all) (sym (append_assoc before (x ∷ []) xs)) l in
    let behind : Leads (draft (before ++ x ∷ [])) (flat_map text xs ++ rest) all =
    stage draft text P all one (before ++ x ∷ []) xs rest h.1 last in
    subst (λ t. Leads (draft before) t all) (sym (append_assoc (text x) (flat_map text xs) rest))
    (one before x (flat_map text xs ++ rest) h.0 behind)

-- ----- names of hosts
-- the number of a name is that of a host which has it
name_there : (hosts : List HostLine) (name : List ℕ) (i : ℕ) → host_of hosts name ≡ Some i → name_at hosts i ≡ name
name_there hosts name i e =
    let found : (i < length hosts) × (bytes_eq (get_or hosts i no_host).name name ≡ true)
    × ((k : ℕ) → k < i → bytes_eq (get_or hosts k no_host).name name ≡ false) =
    position-Some (λ (h : HostLine). bytes_eq h.name name) hosts i no_host e in
    ap name_in (slice_get-get_or hosts i no_host found.0)
    ∙ (bytes_eq-Decides (get_or hosts i no_host).name name).0 found.1 where
      no_host : HostLine
      no_host = host_with [] 0 none_given

-- ----- hosts
abbrev with_limit : ℕ → Draft
with_limit limit = record no_draft { limit = Some limit }

abbrev with_hosts : Scenario → List HostLine → Draft
with_hosts s hosts = record (with_limit s.limit) { hosts = hosts }

host_back : (s : Scenario) (all : Result Scenario ScenarioFault) (before : List HostLine) (h : HostLine) (rest : List ℕ)
    → IsHostTaken before h → Leads (with_hosts s (before ++ h ∷ [])) rest all
    → Leads (with_hosts s before) (host_text h ++ rest) all
host_back s all before h rest t l =
    let same : with_line (with_hosts s before) (says.Host h.name h.params.addr (given_of h.params))
    ≡ with_hosts s (before ++ h ∷ []) = ap (λ (x : HostLine). with_hosts s (before ++ x ∷ [])) t.same in
    line_back (with_hosts s before) (with_hosts s (before ++ h ∷ [])) (host_text h)
    (says.Host h.name h.params.addr (given_of h.params)) rest t.line refl (rw (t.name, t.address) refl)
    (rw (t.few, t.fits) refl) same all l

-- ----- applications and their steps
abbrev with_apps : Scenario → List AppLine → Draft
with_apps s apps = record (with_hosts s s.hosts) { apps = apps }

abbrev begun : AppLine → List Step → AppLine
begun app first = record app { steps = first }

not_nil : (apps : List AppLine) (app : AppLine) → is_nil (apps ++ app ∷ []) ≡ false
not_nil [] app = refl
not_nil (a ∷ apps) app = refl

steps_of_last : (apps : List AppLine) (app : AppLine) → last_steps (apps ++ app ∷ []) ≡ app.steps
steps_of_last [] app = refl
steps_of_last (a ∷ []) app = refl
steps_of_last (a ∷ b ∷ apps) app = steps_of_last (b ∷ apps) app

step_of_last : (apps : List AppLine) (app : AppLine) (step : Step)
    → with_step (apps ++ app ∷ []) step ≡ apps ++ (record app { steps = app.steps ++ step ∷ [] }) ∷ []
step_of_last [] app step = refl
step_of_last (a ∷ []) app step = refl
step_of_last (a ∷ b ∷ apps) app step = ap (λ (xs : List AppLine). a ∷ xs) (step_of_last (b ∷ apps) app step)

abbrev with_steps : Scenario → List AppLine → AppLine → List Step → Draft
with_steps s apps app first = with_apps s (apps ++ begun app first ∷ [])

step_back : (s : Scenario) (all : Result Scenario ScenarioFault) (apps : List AppLine) (app : AppLine)
    (before : List Step) (step : Step) (rest : List ℕ) → IsStepTaken s.hosts before step
    → Leads (with_steps s apps app (before ++ step ∷ [])) rest all
    → Leads (with_steps s apps app before) (step_text step ++ rest) all
step_back s all apps app before step rest t l =
    line_back (with_steps s apps app before) (with_steps s apps app (before ++ step ∷ [])) (step_text step)
    (says.Do step) rest t.line
    (rw (not_nil apps (begun app before), steps_of_last apps (begun app before)) t.found)
    (rw (steps_of_last apps (begun app before)) t.fresh)
    (rw (steps_of_last apps (begun app before)) t.few)
    (ap (with_apps s) (step_of_last apps (begun app before) step)) all l

app_back : (s : Scenario) (all : Result Scenario ScenarioFault) (before : List AppLine) (app : AppLine) (rest : List ℕ)
    → IsAppTaken s.hosts before app → Leads (with_apps s (before ++ app ∷ [])) rest all
    → Leads (with_apps s before) (app_text app ++ rest) all
app_back s all before app rest t l =
    let line : List ℕ = line_of (codes "app") (app.host ∷ app.name ∷ []) in
    let stepped : Leads (with_steps s before app []) (flat_map step_text app.steps ++ rest) all =
    stage (with_steps s before app) step_text (IsStepTaken s.hosts) all (step_back s all before app) [] app.steps rest
    t.steps l in
    subst (λ x. Leads (with_apps s before) x all) (sym (append_assoc line (flat_map step_text app.steps) rest))
    (line_back (with_apps s before) (with_steps s before app []) line (says.App app.host app.name)
    (flat_map step_text app.steps ++ rest) t.line (ap not t.known) t.fresh t.few refl all stepped)

-- ----- lines of the link
abbrev with_link : Scenario → LinkLines → Draft
with_link s link = record (with_apps s s.apps) { link = link }

abbrev with_acts : Scenario → List Entry → Draft
with_acts s acts = with_link s (record no_lines { acts = acts })

-- a line on a frame that goes behind those before it
record IsActNext (hosts : List HostLine) (before : List Entry) (e : Entry) : Type 0 where
  act : IsActTaken hosts e
  below : AreBelow before e.0

acts_next : (hosts : List HostLine) (before acts : List Entry) → Each (IsActTaken hosts) acts
    → IsRising (before ++ acts) → EachAfter (IsActNext hosts) before acts
acts_next hosts before [] h r = tt
acts_next hosts before (e ∷ es) h r = (
  record { act = h.0; below = all_below before e es r },
  acts_next hosts (before ++ e ∷ []) es h.1 (subst IsRising (sym (append_assoc before (e ∷ []) es)) r),
)

known_by : (hosts : List HostLine) (name : List ℕ) (i : ℕ) → host_of hosts name ≡ Some i
    → not (has_host hosts name) ≡ false
known_by hosts name i e = ap (λ (o : Option ℕ). not (is_some o)) e

act_back : (s : Scenario) (all : Result Scenario ScenarioFault) (before : List Entry) (e : Entry) (rest : List ℕ)
    → IsActNext s.hosts before e → Leads (with_acts s (before ++ e ∷ [])) rest all
    → Leads (with_acts s before) (act_text s.hosts e ++ rest) all
act_back s all before e rest t l =
    let name : List ℕ = t.act.name in
    let is : host_of s.hosts name ≡ Some e.0.host = t.act.host in
    let d : Draft = with_acts s before in
    let statement : Statement = says.OnFrame name e.0.flow e.0.number e.1 in
    let fresh : repeats d statement ≡ false = rw (is, none_at before e.0 t.below) refl in
    let same : with_line d statement ≡ with_acts s (before ++ e ∷ []) =
    rw is (ap (with_acts s) (goes_last before e.0 e.1 t.below)) in
    subst (λ (n : List ℕ). Leads d (act_line n (decimal e.0.flow) (decimal e.0.number) e.1 ++ rest) all)
    (sym (name_there s.hosts name e.0.host is))
    (line_back d (with_acts s (before ++ e ∷ [])) (act_line name (decimal e.0.flow) (decimal e.0.number) e.1) statement
    rest t.act.line (known_by s.hosts name e.0.host is) fresh refl same all l)

abbrev with_drops : Scenario → List DropEach → Draft
with_drops s drops = with_link s (record { acts = s.link.acts; drops = drops })

drop_back : (s : Scenario) (all : Result Scenario ScenarioFault) (before : List DropEach) (x : DropEach)
    (rest : List ℕ) → IsDropTaken s.hosts before x → Leads (with_drops s (before ++ x ∷ [])) rest all
    → Leads (with_drops s before) (each_text s.hosts x ++ rest) all
drop_back s all before x rest t l =
    let d : Draft = with_drops s before in
    let fresh : repeats d (says.DropEach t.name x.k) ≡ false = rw (t.host, t.fresh) refl in
    let same : with_line d (says.DropEach t.name x.k) ≡ with_drops s (before ++ x ∷ []) = rw t.host refl in
    subst (λ (n : List ℕ). Leads d (line_of (codes "dropeach") (n ∷ decimal x.k ∷ []) ++ rest) all)
    (sym (name_there s.hosts t.name x.host t.host))
    (line_back d (with_drops s (before ++ x ∷ [])) (line_of (codes "dropeach") (t.name ∷ decimal x.k ∷ []))
    (says.DropEach t.name x.k) rest t.line (known_by s.hosts t.name x.host t.host) fresh refl same all l)

-- ----- moves and kills
abbrev with_moves : Scenario → List MoveLine → Draft
with_moves s moves = record (with_link s s.link) { moves = moves }

abbrev IsMoveNext : Scenario → List MoveLine → MoveLine → Type 0
IsMoveNext s before m = IsMoveTaken s.hosts m

moves_next : (s : Scenario) (before moves : List MoveLine) → Each (IsMoveTaken s.hosts) moves
    → EachAfter (IsMoveNext s) before moves
moves_next s before [] h = tt
moves_next s before (m ∷ ms) h = (h.0, moves_next s (before ++ m ∷ []) ms h.1)

move_back : (s : Scenario) (all : Result Scenario ScenarioFault) (before : List MoveLine) (m : MoveLine)
    (rest : List ℕ) → IsMoveNext s before m → Leads (with_moves s (before ++ m ∷ [])) rest all
    → Leads (with_moves s before) (move_text m ++ rest) all
move_back s all before m rest t l =
    line_back (with_moves s before) (with_moves s (before ++ m ∷ [])) (move_text m) (says.Move m true) rest t.line
    (ap not t.known) refl refl refl all l

abbrev with_kills : Scenario → List KillLine → Draft
with_kills s kills = record (with_moves s s.moves) { kills = kills }

kill_back : (s : Scenario) (all : Result Scenario ScenarioFault) (before : List KillLine) (k : KillLine)
    (rest : List ℕ) → IsKillTaken s.apps before k → Leads (with_kills s (before ++ k ∷ [])) rest all
    → Leads (with_kills s before) (kill_text k ++ rest) all
kill_back s all before k rest t l =
    line_back (with_kills s before) (with_kills s (before ++ k ∷ [])) (kill_text k) (says.Kill k true) rest t.line
    (ap not t.known) t.fresh refl refl all l

-- ----- the whole
done : (s : Scenario) → is_nil s.hosts ≡ false → Leads (with_kills s s.kills) [] (Ok s)
done s some line = by_hosts s.hosts some where
  by_hosts : (hosts : List HostLine) → is_nil hosts ≡ false → finished line (with_kills s s.kills) hosts ≡ Ok s
  by_hosts [] e = absurd (cc (e))
  by_hosts (host ∷ hosts) e = refl

seven_parts : (a b c d e f g : List ℕ)
    → a ++ b ++ c ++ d ++ e ++ f ++ g ≡ a ++ (b ++ (c ++ (d ++ (e ++ (f ++ g)))))
seven_parts a b c d e f g = search (rules, append_assoc)

pub canonical_read : (text : List ℕ) (s : Scenario) → reads text ≡ Ok s → reads (canonical s) ≡ Ok s
unfolding reads
canonical_read text s e =
    let whole : IsWhole s = read_whole text s e in
    let h : IsTaken (draft_of s) = whole.lines in
    let kills_text : List ℕ = flat_map kill_text s.kills in
    let moves_text : List ℕ = flat_map move_text s.moves ++ kills_text in
    let drops_text : List ℕ = flat_map (each_text s.hosts) s.link.drops ++ moves_text in
    let acts_text : List ℕ = flat_map (act_text s.hosts) s.link.acts ++ drops_text in
    let apps_text : List ℕ = flat_map app_text s.apps ++ acts_text in
    let hosts_text : List ℕ = flat_map host_text s.hosts ++ apps_text in
    let kills : Leads (with_kills s []) (kills_text ++ []) (Ok s) =
    stage (with_kills s) kill_text (IsKillTaken s.apps) (Ok s) (kill_back s (Ok s)) [] s.kills [] h.kills
    (done s whole.some) in
    let ended : Leads (with_kills s []) kills_text (Ok s) =
    subst (λ t. Leads (with_kills s []) t (Ok s)) (append-nil kills_text) kills in
    let moves : Leads (with_moves s []) moves_text (Ok s) =
    stage (with_moves s) move_text (IsMoveNext s) (Ok s) (move_back s (Ok s)) [] s.moves kills_text
    (moves_next s [] s.moves h.moves) ended in
    let drops : Leads (with_drops s []) drops_text (Ok s) =
    stage (with_drops s) (each_text s.hosts) (IsDropTaken s.hosts) (Ok s) (drop_back s (Ok s)) [] s.link.drops
    moves_text h.drops moves in
    let acts : Leads (with_acts s []) acts_text (Ok s) =
    stage (with_acts s) (act_text s.hosts) (IsActNext s.hosts) (Ok s) (act_back s (Ok s)) [] s.link.acts drops_text
    (acts_next s.hosts [] s.link.acts h.acts h.order) drops in
    let apps : Leads (with_apps s []) apps_text (Ok s) =
    stage (with_apps s) app_text (IsAppTaken s.hosts) (Ok s) (app_back s (Ok s)) [] s.apps acts_text h.apps acts in
    let hosts : Leads (with_hosts s []) hosts_text (Ok s) =
    stage (with_hosts s) host_text IsHostTaken (Ok s) (host_back s (Ok s)) [] s.hosts apps_text h.hosts apps in
    let limit_text : List ℕ = line_of (codes "limit") (decimal s.limit ∷ []) in
    ap (λ (t : List ℕ). read_from 1 no_draft (lines t))
    (seven_parts limit_text (flat_map host_text s.hosts) (flat_map app_text s.apps)
    (flat_map (act_text s.hosts) s.link.acts) (flat_map (each_text s.hosts) s.link.drops) (flat_map move_text s.moves)
    kills_text)
    ∙ line_back no_draft (with_limit s.limit) limit_text (says.Limit s.limit) hosts_text h.limit refl refl refl refl
    (Ok s) hosts 1

pub one_scenario : (a b : List ℕ) (s t : Scenario) → reads a ≡ Ok s → reads b ≡ Ok t → canonical s ≡ canonical t → s ≡ t
one_scenario a b s t ea eb same =
    let first : reads (canonical s) ≡ Ok s = canonical_read a s ea in
    let second : reads (canonical t) ≡ Ok t = canonical_read b t eb in
    let both : Ok s ≡ reads (canonical t) = sym first ∙ ap reads same in
    cc (both, second)

-- what is printed of a scenario that was read
pub printed_back : {E : Type 0} (s : Scenario) (printed : Result (List ℕ) E)
    → IfOk printed (λ (t : List ℕ). t ≡ canonical s)
    → IfOk printed (λ (t : List ℕ). (text : List ℕ) → reads text ≡ Ok s → reads t ≡ Ok s)
printed_back s (Ok t) e = λ text read. ap reads e ∙ canonical_read text s read
printed_back s (Err fault) e = tt
