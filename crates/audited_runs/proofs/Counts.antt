-- How many flows a report shows, and how many entries.
use Rattle.std.proofs.Common.{◌≡◌, ℕ, ◌+◌, Bool, true, false, cond, List, [], ◌∷◌, ◌++◌, length, count_by, refl, sym}
use Rattle.std.proofs.Common.{◌∙◌, arith}
use Rattle.std.proofs.lemmas.List.Recursion.{is_count_by}
use Rattle.tas_model.specs.declared.entry.Entry.{Entry}
use Rattle.host_rounds.specs.declared.log.LogLine.{LogLine}
use Rattle.host_rounds.specs.Logs.{Flow, HostRun, RunLog}
use Rattle.report_lines.specs.Lines.{Line, End}
use Rattle.trace_audit.specs.Verdicts.{begins_flow, is_entry}
use Rattle.audited_runs.specs.LogLines.{log_lines, entry_lines, end_lines, flow_lines, flows_lines, host_lines}
use Rattle.audited_runs.specs.LogLines.{hosts_lines, lines_of, flows_in, entries_of, entries_in}

abbrev counted : (Line → Bool) → List Line → ℕ
counted test [] = 0
counted test (l ∷ ls) = cond (test l) (1 + counted test ls) (counted test ls)

counted_is : (test : Line → Bool) (ls : List Line) → counted test ls ≡ count_by test ls
counted_is test ls = is_count_by (counted test) test refl (λ l ms. refl) ls

one_more : (b : Bool) (x y z : ℕ) → x ≡ y + z → cond b (1 + x) x ≡ cond b (1 + y) y + z
one_more true x y z e = omega (arith, e)
one_more false x y z e = e

joined : (test : Line → Bool) (a b : List Line) → counted test (a ++ b) ≡ counted test a + counted test b
joined test [] b = omega arith
joined test (l ∷ ls) b =
    one_more (test l) (counted test (ls ++ b)) (counted test ls) (counted test b) (joined test ls b)

-- ----- flows
no_flow_entries : (xs : List Entry) → counted begins_flow (entry_lines xs) ≡ 0
no_flow_entries [] = refl
no_flow_entries (x ∷ xs) = no_flow_entries xs

no_flow_logged : (ls : List LogLine) → counted begins_flow (log_lines ls) ≡ 0
no_flow_logged [] = refl
no_flow_logged (l ∷ ls) = no_flow_logged ls

one_flow : (n : ℕ) (f : Flow) → counted begins_flow (flow_lines n f) ≡ 1
one_flow n f =
    let both : counted begins_flow (entry_lines f.entries ++ end_lines f.params f.entries)
    ≡ counted begins_flow (entry_lines f.entries) + 0 =
    joined begins_flow (entry_lines f.entries) (end_lines f.params f.entries) in
    let none : counted begins_flow (entry_lines f.entries) ≡ 0 = no_flow_entries f.entries in omega (arith, both, none)

all_flows : (n : ℕ) (fs : List Flow) → counted begins_flow (flows_lines n fs) ≡ length fs
all_flows n [] = refl
all_flows n (f ∷ fs) =
    let both : counted begins_flow (flow_lines n f ++ flows_lines (n + 1) fs)
    ≡ counted begins_flow (flow_lines n f) + counted begins_flow (flows_lines (n + 1) fs) =
    joined begins_flow (flow_lines n f) (flows_lines (n + 1) fs) in
    let one : counted begins_flow (flow_lines n f) ≡ 1 = one_flow n f in
    let rest : counted begins_flow (flows_lines (n + 1) fs) ≡ length fs = all_flows (n + 1) fs in
    omega (arith, both, one, rest)

host_flows : (i : ℕ) (h : HostRun) → counted begins_flow (host_lines i h) ≡ length h.flows
host_flows i h =
    let both : counted begins_flow (log_lines h.log ++ flows_lines 0 h.flows)
    ≡ counted begins_flow (log_lines h.log) + counted begins_flow (flows_lines 0 h.flows) =
    joined begins_flow (log_lines h.log) (flows_lines 0 h.flows) in
    let none : counted begins_flow (log_lines h.log) ≡ 0 = no_flow_logged h.log in
    let all : counted begins_flow (flows_lines 0 h.flows) ≡ length h.flows = all_flows 0 h.flows in
    omega (arith, both, none, all)

hosts_flows : (i : ℕ) (hs : List HostRun) → counted begins_flow (hosts_lines i hs) ≡ flows_in hs
hosts_flows i [] = refl
hosts_flows i (h ∷ hs) =
    let both : counted begins_flow (host_lines i h ++ hosts_lines (i + 1) hs)
    ≡ counted begins_flow (host_lines i h) + counted begins_flow (hosts_lines (i + 1) hs) =
    joined begins_flow (host_lines i h) (hosts_lines (i + 1) hs) in
    let one : counted begins_flow (host_lines i h) ≡ length h.flows = host_flows i h in
    let rest : counted begins_flow (hosts_lines (i + 1) hs) ≡ flows_in hs = hosts_flows (i + 1) hs in
    omega (arith, both, one, rest)

pub flows_counted : (log : RunLog) → flows_in log.hosts ≡ count_by begins_flow (lines_of log)
flows_counted log =
    let both : counted begins_flow (hosts_lines 0 log.hosts ++ End log.ticks ∷ [])
    ≡ counted begins_flow (hosts_lines 0 log.hosts) + 0 =
    joined begins_flow (hosts_lines 0 log.hosts) (End log.ticks ∷ []) in
    let all : counted begins_flow (hosts_lines 0 log.hosts) ≡ flows_in log.hosts = hosts_flows 0 log.hosts in
    let same : counted begins_flow (lines_of log) ≡ flows_in log.hosts = omega (arith, both, all) in
    sym same ∙ counted_is begins_flow (lines_of log)

-- ----- entries
each_entry : (xs : List Entry) → counted is_entry (entry_lines xs) ≡ length xs
each_entry [] = refl
each_entry (x ∷ xs) = let rest : counted is_entry (entry_lines xs) ≡ length xs = each_entry xs in omega (arith, rest)

no_entry_logged : (ls : List LogLine) → counted is_entry (log_lines ls) ≡ 0
no_entry_logged [] = refl
no_entry_logged (l ∷ ls) = no_entry_logged ls

flow_entries : (n : ℕ) (f : Flow) → counted is_entry (flow_lines n f) ≡ length f.entries
flow_entries n f =
    let both : counted is_entry (entry_lines f.entries ++ end_lines f.params f.entries)
    ≡ counted is_entry (entry_lines f.entries) + 0 =
    joined is_entry (entry_lines f.entries) (end_lines f.params f.entries) in
    let each : counted is_entry (entry_lines f.entries) ≡ length f.entries = each_entry f.entries in
    omega (arith, both, each)

all_entries : (n : ℕ) (fs : List Flow) → counted is_entry (flows_lines n fs) ≡ entries_of fs
all_entries n [] = refl
all_entries n (f ∷ fs) =
    let both : counted is_entry (flow_lines n f ++ flows_lines (n + 1) fs)
    ≡ counted is_entry (flow_lines n f) + counted is_entry (flows_lines (n + 1) fs) =
    joined is_entry (flow_lines n f) (flows_lines (n + 1) fs) in
    let one : counted is_entry (flow_lines n f) ≡ length f.entries = flow_entries n f in
    let rest : counted is_entry (flows_lines (n + 1) fs) ≡ entries_of fs = all_entries (n + 1) fs in
    omega (arith, both, one, rest)

host_entries : (i : ℕ) (h : HostRun) → counted is_entry (host_lines i h) ≡ entries_of h.flows
host_entries i h =
    let both : counted is_entry (log_lines h.log ++ flows_lines 0 h.flows)
    ≡ counted is_entry (log_lines h.log) + counted is_entry (flows_lines 0 h.flows) =
    joined is_entry (log_lines h.log) (flows_lines 0 h.flows) in
    let none : counted is_entry (log_lines h.log) ≡ 0 = no_entry_logged h.log in
    let all : counted is_entry (flows_lines 0 h.flows) ≡ entries_of h.flows = all_entries 0 h.flows in
    omega (arith, both, none, all)

hosts_entries : (i : ℕ) (hs : List HostRun) → counted is_entry (hosts_lines i hs) ≡ entries_in hs
hosts_entries i [] = refl
hosts_entries i (h ∷ hs) =
    let both : counted is_entry (host_lines i h ++ hosts_lines (i + 1) hs)
    ≡ counted is_entry (host_lines i h) + counted is_entry (hosts_lines (i + 1) hs) =
    joined is_entry (host_lines i h) (hosts_lines (i + 1) hs) in
    let one : counted is_entry (host_lines i h) ≡ entries_of h.flows = host_entries i h in
    let rest : counted is_entry (hosts_lines (i + 1) hs) ≡ entries_in hs = hosts_entries (i + 1) hs in
    omega (arith, both, one, rest)

pub entries_counted : (log : RunLog) → entries_in log.hosts ≡ count_by is_entry (lines_of log)
entries_counted log =
    let both : counted is_entry (hosts_lines 0 log.hosts ++ End log.ticks ∷ [])
    ≡ counted is_entry (hosts_lines 0 log.hosts) + 0 =
    joined is_entry (hosts_lines 0 log.hosts) (End log.ticks ∷ []) in
    let all : counted is_entry (hosts_lines 0 log.hosts) ≡ entries_in log.hosts = hosts_entries 0 log.hosts in
    let same : counted is_entry (lines_of log) ≡ entries_in log.hosts = omega (arith, both, all) in
    sym same ∙ counted_is is_entry (lines_of log)
