-- The text of a report is that of its lines, one behind the other.
use Rattle.std.proofs.Common.{◌≡◌, ℕ, ◌+◌, Bool, false, List, [], ◌∷◌, ◌++◌, length, if◌then◌else◌}
use Rattle.std.proofs.Common.{Option, Some, None, refl, sym, ap, subst, ◌∙◌, append_assoc}
use Rattle.std.proofs.lemmas.List.{append-nil, length-append}
use Rattle.std.proofs.lemmas.Option.{same_Some}
use Rattle.std.specs.Prelude.{decimal, codes, slice_get}
use Rattle.tas_model.specs.declared.entry.HostParams.{HostParams}
use Rattle.tas_model.specs.declared.entry.Entry.{Entry}
use Rattle.tas_model.specs.declared.entry.Phase.{Phase}
use Rattle.tas_model.specs.declared.entry.Reason.{Reason}
use Rattle.tas_model.specs.Endpoint.{Endpoint, phase}
use Rattle.tas_model.specs.LegalHistory.{replay}
use Rattle.tas_model.specs.Outputs.{bytes_read}
use Rattle.host_rounds.specs.declared.log.LogLine.{LogLine}
use Rattle.host_rounds.specs.declared.log.LogEvent.{LogEvent}
use Rattle.host_rounds.specs.declared.log.LogEvent.TheVariants as events
use Rattle.host_rounds.specs.Lists.{Each}
use Rattle.host_rounds.specs.Logs.{Flow, HostRun, RunLog}
use Rattle.tas_runs.specs.Report as report
use Rattle.tas_runs.specs.Report.{line, names_of, name_at, addr_text, phase_text, reason_text, entry_text}
use Rattle.tas_runs.specs.Report.{entries_text, event_text, log_text, flows_text, host_text, hosts_text, read_text}
use Rattle.report_lines.specs.Lines.{Line, Host, Logged, Begins, End}
use Rattle.report_lines.specs.Shown.{AreNames, IsLine, line_text, state_text, told_text}
use Rattle.trace_audit.specs.TextLines.{text_lines}
use Rattle.trace_audit.specs.Forms.{AreSaid}
use Rattle.audited_runs.specs.LogLines.{told_event, log_lines, entry_lines, end_lines, flow_lines, flows_lines}
use Rattle.audited_runs.specs.LogLines.{host_lines, hosts_lines, lines_of}
use Rattle.audited_runs.proofs.OneLine.{cut_line}
use Rattle.audited_runs.proofs.LineTexts.{text_line}

-- ----- the text of lines
abbrev pub text_of : (names : List (List ℕ)) → List Line → List ℕ
text_of names [] = []
text_of names (l ∷ ls) = line (line_text names l) ++ text_of names ls

-- The text of a line is the first line of the text that begins with it.
pub line_cut : (names : List (List ℕ)) (said : Line) (rest : List ℕ) → AreNames names → IsLine names said
    → text_lines (line (line_text names said) ++ rest) ≡ line (line_text names said) ∷ text_lines rest
line_cut names said rest ok fits = cut_line (line_text names said) rest (text_line names said ok fits).lacks

-- Cut into lines, it says these.
pub text_says : (names : List (List ℕ)) (ls : List Line) → AreNames names → Each (IsLine names) ls
    → AreSaid names (text_lines (text_of names ls)) ls
text_says names [] ok all = tt
text_says names (l ∷ ls) ok all =
    subst (λ (texts : List (List ℕ)). AreSaid names texts (l ∷ ls))
    (sym (line_cut names l (text_of names ls) ok all.0))
    (record { fits = all.0; shown = refl }, text_says names ls ok all.1)

joined : (names : List (List ℕ)) (a b : List Line) → text_of names (a ++ b) ≡ text_of names a ++ text_of names b
joined names [] b = refl
joined names (l ∷ ls) b =
    ap (λ (t : List ℕ). line (line_text names l) ++ t) (joined names ls b)
    ∙ sym (append_assoc (line (line_text names l)) (text_of names ls) (text_of names b))

-- ----- flows
entries_say : (names : List (List ℕ)) (xs : List Entry) → entries_text names xs ≡ text_of names (entry_lines xs)
entries_say names [] = refl
entries_say names (x ∷ xs) = ap (λ (t : List ℕ). entry_text names x ++ t) (entries_say names xs)

state_says : (e : Endpoint) → report.state_text e ≡ state_text (phase e) e.reason
state_says e = by_reason (phase e) e.reason where
  by_reason : (p : Phase) (r : Option Reason)
      → elim r [ None ↦ phase_text p | Some why ↦ phase_text p ++ codes " " ++ reason_text why ] ≡ state_text p r
  by_reason p None = refl
  by_reason p (Some why) = refl

four : (a b c d e : List ℕ) → ((a ++ b) ++ c) ++ d ≡ a ++ (b ++ (c ++ (d ++ [])))
four a b c d e =
    append_assoc (a ++ b) c d
    ∙ (append_assoc a b (c ++ d) ∙ ap (λ (t : List ℕ). a ++ (b ++ (c ++ t))) (sym (append-nil d)))

ends_say : (names : List (List ℕ)) (params : HostParams) (h : List Entry)
    → text_of names (end_lines params h)
    ≡ line (codes "state " ++ report.state_text (replay params h)) ++ (line (read_text (bytes_read h)) ++ [])
ends_say names params h =
    ap (λ (t : List ℕ). line (codes "state " ++ t) ++ (line (read_text (bytes_read h)) ++ []))
    (sym (state_says (replay params h)))

flow_says : (names : List (List ℕ)) (n : ℕ) (f : Flow) → report.flow_lines names n f ≡ text_of names (flow_lines n f)
flow_says names n f =
    four (line (line_text names (Begins n f.id f.tuple))) (entries_text names f.entries)
    (line (codes "state " ++ report.state_text (replay f.params f.entries))) (line (read_text (bytes_read f.entries)))
    []
    ∙ ap (λ (t : List ℕ). line (line_text names (Begins n f.id f.tuple)) ++ t)
    (ap (λ (t : List ℕ). entries_text names f.entries ++ t) (sym (ends_say names f.params f.entries))
    ∙ (ap (λ (t : List ℕ). t ++ text_of names (end_lines f.params f.entries)) (entries_say names f.entries)
    ∙ sym (joined names (entry_lines f.entries) (end_lines f.params f.entries))))

flows_say : (names : List (List ℕ)) (n : ℕ) (fs : List Flow) → flows_text names n fs ≡ text_of names (flows_lines n fs)
flows_say names n [] = refl
flows_say names n (f ∷ fs) =
    ap (λ (t : List ℕ). t ++ flows_text names (n + 1) fs) (flow_says names n f)
    ∙ (ap (λ (t : List ℕ). text_of names (flow_lines n f) ++ t) (flows_say names (n + 1) fs)
    ∙ sym (joined names (flow_lines n f) (flows_lines (n + 1) fs)))

-- ----- logs
event_says : (names : List (List ℕ)) (e : LogEvent) → event_text names e ≡ told_text names (told_event e)
event_says names (events.Listen app port ok) = refl
event_says names (events.AcceptNotYet app port) = refl
event_says names (events.ConnectRefused app raddr rport no_port) = refl
event_says names (events.Stray frame tuple seg answer) = refl
event_says names (events.Dropped frame backlog) = refl
event_says names (events.Refused frame rule) = refl

log_says : (names : List (List ℕ)) (ls : List LogLine) → log_text names ls ≡ text_of names (log_lines ls)
log_says names [] = refl
log_says names (l ∷ ls) =
    ap (λ (t : List ℕ). line (decimal l.tick ++ codes " " ++ t) ++ log_text names ls) (event_says names l.event)
    ∙ ap (λ (t : List ℕ). line (line_text names (Logged l.tick (told_event l.event))) ++ t) (log_says names ls)

-- ----- hosts
-- the hosts have these names, the first of them at this place
abbrev AreAt : (names : List (List ℕ)) → (i : ℕ) → List HostRun → Type 0
AreAt names i [] = Unit {0}
AreAt names i (h ∷ hs) = (slice_get names i ≡ Some h.name) × AreAt names (i + 1) hs

got_behind : (before : List (List ℕ)) (y : List ℕ) (ys : List (List ℕ))
    → slice_get (before ++ y ∷ ys) (length before) ≡ Some y
got_behind [] y ys = refl
got_behind (x ∷ xs) y ys = got_behind xs y ys

at_places : (before : List (List ℕ)) (hosts : List HostRun) → AreAt (before ++ names_of hosts) (length before) hosts
at_places before [] = tt
at_places before (h ∷ hs) = (
  got_behind before h.name (names_of hs),
  subst (λ (names : List (List ℕ)). AreAt names (length before + 1) hs)
      (append_assoc before (h.name ∷ []) (names_of hs))
      (subst (λ (n : ℕ). AreAt ((before ++ h.name ∷ []) ++ names_of hs) n hs)
      (length-append before (h.name ∷ [])) (at_places (before ++ h.name ∷ []) hs)),
)

name_is : (names : List (List ℕ)) (i : ℕ) (name : List ℕ) → slice_get names i ≡ Some name → name_at names i ≡ name
name_is names i name e = by_name (slice_get names i) e where
  by_name : (o : Option (List ℕ)) → o ≡ Some name → elim o [ None ↦ codes "-" | Some n ↦ n ] ≡ name
  by_name None e = absurd (cc (e))
  by_name (Some n) e = same_Some n name e

host_says : (names : List (List ℕ)) (i : ℕ) (h : HostRun) → slice_get names i ≡ Some h.name
    → host_text names h ≡ text_of names (host_lines i h)
host_says names i h at =
    ap (λ (t : List ℕ). line (codes "host " ++ t ++ codes " " ++ addr_text h.addr) ++ log_text names h.log
    ++ flows_text names 0 h.flows) (sym (name_is names i h.name at))
    ∙ (append_assoc (line (line_text names (Host i h.addr))) (log_text names h.log) (flows_text names 0 h.flows)
    ∙ ap (λ (t : List ℕ). line (line_text names (Host i h.addr)) ++ t)
    (ap (λ (t : List ℕ). t ++ flows_text names 0 h.flows) (log_says names h.log)
    ∙ (ap (λ (t : List ℕ). text_of names (log_lines h.log) ++ t) (flows_say names 0 h.flows)
    ∙ sym (joined names (log_lines h.log) (flows_lines 0 h.flows)))))

hosts_say : (names : List (List ℕ)) (i : ℕ) (hs : List HostRun) → AreAt names i hs
    → hosts_text names hs ≡ text_of names (hosts_lines i hs)
hosts_say names i [] at = refl
hosts_say names i (h ∷ hs) at =
    ap (λ (t : List ℕ). t ++ hosts_text names hs) (host_says names i h at.0)
    ∙ (ap (λ (t : List ℕ). text_of names (host_lines i h) ++ t) (hosts_say names (i + 1) hs at.1)
    ∙ sym (joined names (host_lines i h) (hosts_lines (i + 1) hs)))

-- ----- the whole
abbrev run_report : RunLog → Bool → List ℕ
run_report log replayed =
    line (codes "tas " ++ (if replayed then codes "replay" else codes "run"))
    ++ hosts_text (names_of log.hosts) log.hosts
    ++ (if replayed then report.counts_text log else [])
    ++ line (codes "end " ++ decimal log.ticks ++ codes " ticks")

whole : (a b c : List ℕ) → ((a ++ b) ++ []) ++ c ≡ a ++ (b ++ (c ++ []))
whole a b c =
    ap (λ (t : List ℕ). t ++ c) (append-nil (a ++ b))
    ∙ (append_assoc a b c ∙ ap (λ (t : List ℕ). a ++ (b ++ t)) (sym (append-nil c)))

pub report_says : (log : RunLog) → log.replay ≡ false
    → report.report log ≡ text_of (names_of log.hosts) (lines_of log)
unfolding report.report
report_says log run =
    let names : List (List ℕ) = names_of log.hosts in
    ap (λ (b : Bool). run_report log b) run
    ∙ (whole (line (codes "tas run")) (hosts_text names log.hosts)
    (line (codes "end " ++ decimal log.ticks ++ codes " ticks"))
    ∙ ap (λ (t : List ℕ). line (codes "tas run") ++ t)
    (ap (λ (t : List ℕ). t ++ text_of names (End log.ticks ∷ [])) (hosts_say names 0 log.hosts (at_places [] log.hosts))
    ∙ sym (joined names (hosts_lines 0 log.hosts) (End log.ticks ∷ []))))
