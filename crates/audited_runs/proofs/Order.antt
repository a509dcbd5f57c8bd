-- The lines of a log's report stand in a report's order.
use Rattle.std.proofs.Common.{◌≡◌, ℕ, ◌+◌, List, [], ◌∷◌, ◌++◌, map, refl, ap, subst, ◌∙◌}
use Rattle.tas_model.specs.declared.entry.Entry.{Entry}
use Rattle.tas_model.specs.declared.entry.FlowId.{FlowId}
use Rattle.tas_model.specs.declared.entry.FourTuple.{FourTuple}
use Rattle.tas_model.specs.declared.entry.HostParams.{HostParams}
use Rattle.tas_model.specs.Endpoint.{phase}
use Rattle.tas_model.specs.LegalHistory.{Legal, replay}
use Rattle.tas_model.specs.Outputs.{bytes_read}
use Rattle.std.proofs.Common.{length}
use Rattle.host_rounds.specs.declared.log.LogLine.{LogLine}
use Rattle.host_rounds.specs.Lists.{Each}
use Rattle.host_rounds.specs.Logs.{Flow, HostRun, RunLog}
use Rattle.report_lines.specs.Lines.{Line, Title, Host, Begins, End}
use Rattle.report_form.specs.Reports as form
use Rattle.report_form.specs.Reports.{FlowPart, HostPart, Report, IsReport}
use Rattle.audited_runs.specs.LogLines.{told_event, log_lines, entry_lines, end_lines, flow_lines, flows_lines}
use Rattle.audited_runs.specs.LogLines.{host_lines, hosts_lines, lines_of}
use Rattle.audited_runs.specs.Told.{IsTold, IsHostTold, AreTold}

-- the part that tells a flow
abbrev part_of : FlowId → FourTuple → HostParams → (x : Entry) → (xs : List Entry) → FlowPart
part_of id tuple params x xs = record {
  id = id;
  lport = tuple.lport;
  raddr = tuple.raddr;
  rport = tuple.rport;
  first = x;
  later = xs;
  phase = phase (replay params (x ∷ xs));
  reason = (replay params (x ∷ xs)).reason;
  count = length (bytes_read (x ∷ xs));
  bytes = bytes_read (x ∷ xs);
}

record OfFlow (addr n : ℕ) (ls : List Line) : Type 0 where
  pub part : FlowPart
  pub same : ls ≡ form.flow_lines addr n part

of_history : (n : ℕ) (id : FlowId) (tuple : FourTuple) (params p : HostParams) (h : List Entry) → Legal p h
    → OfFlow tuple.laddr n (Begins n id tuple ∷ entry_lines h ++ end_lines params h)
of_history n id tuple params p [] legal = absurd legal
of_history n id tuple params p (x ∷ xs) legal = record { part = part_of id tuple params x xs; same = refl }

of_flow : (all : List HostParams) (p : HostParams) (n : ℕ) (f : Flow) → IsTold all p f
    → OfFlow p.addr n (flow_lines n f)
of_flow all p n f told =
    subst (λ (addr : ℕ). OfFlow addr n (flow_lines n f)) told.own
    (of_history n f.id f.tuple f.params p f.entries told.legal)

record OfFlows (addr n : ℕ) (ls : List Line) : Type 0 where
  pub parts : List FlowPart
  pub same : ls ≡ form.flows_lines addr n parts

both : (a b c d : List Line) → a ≡ c → b ≡ d → a ++ b ≡ c ++ d
both a b c d e f = rw (e, f) refl

of_flows : (all : List HostParams) (p : HostParams) (n : ℕ) (fs : List Flow) → Each (IsTold all p) fs
    → OfFlows p.addr n (flows_lines n fs)
of_flows all p n [] told = record { parts = []; same = refl }
of_flows all p n (f ∷ fs) told =
    let one = of_flow all p n f told.0 in
    let rest = of_flows all p (n + 1) fs told.1 in
    record {
      parts = one.part ∷ rest.parts;
      same =
          both (flow_lines n f) (flows_lines (n + 1) fs) (form.flow_lines p.addr n one.part)
          (form.flows_lines p.addr (n + 1) rest.parts) one.same rest.same;
    }

log_same : (log : List LogLine)
    → log_lines log ≡ map form.logged (map (λ (l : LogLine). (l.tick, told_event l.event)) log)
log_same [] = refl
log_same (l ∷ ls) = ap (λ (t : List Line). form.logged (l.tick, told_event l.event) ∷ t) (log_same ls)

record OfHosts (i : ℕ) (addrs : List ℕ) (ls : List Line) : Type 0 where
  pub parts : List HostPart
  pub own : form.addrs_of parts ≡ addrs
  pub same : ls ≡ form.hosts_lines i parts

abbrev host_part : HostParams → HostRun → List FlowPart → HostPart
host_part p h parts = record {
  addr = p.addr;
  log = map (λ (l : LogLine). (l.tick, told_event l.event)) h.log;
  flows = parts;
}

of_host : (all : List HostParams) (p : HostParams) (i : ℕ) (h : HostRun) (told : IsHostTold all p h)
    → host_lines i h ≡ form.host_lines i (host_part p h (of_flows all p 0 h.flows told.flows).parts)
of_host all p i h told =
    let flows = of_flows all p 0 h.flows told.flows in
    ap (λ (addr : ℕ). Host i addr ∷ log_lines h.log ++ flows_lines 0 h.flows) told.addr
    ∙ (ap (λ (t : List Line). Host i p.addr ∷ t ++ flows_lines 0 h.flows) (log_same h.log)
    ∙ ap (λ (t : List Line). Host i p.addr
    ∷ map form.logged (map (λ (l : LogLine). (l.tick, told_event l.event)) h.log) ++ t) flows.same)

of_hosts : (all ps : List HostParams) (i : ℕ) (hs : List HostRun) → AreTold all ps hs
    → OfHosts i (map (λ (p : HostParams). p.addr) ps) (hosts_lines i hs)
of_hosts all [] i [] told = record { parts = []; own = refl; same = refl }
of_hosts all [] i (h ∷ hs) told = absurd told
of_hosts all (p ∷ ps) i [] told = absurd told
of_hosts all (p ∷ ps) i (h ∷ hs) told =
    let part : HostPart = host_part p h (of_flows all p 0 h.flows told.0.flows).parts in
    let rest = of_hosts all ps (i + 1) hs told.1 in
    record {
      parts = part ∷ rest.parts;
      own = ap (λ (t : List ℕ). p.addr ∷ t) rest.own;
      same =
          both (host_lines i h) (hosts_lines (i + 1) hs) (form.host_lines i part) (form.hosts_lines (i + 1) rest.parts)
          (of_host all p i h told.0) rest.same;
    }

pub in_order : (ps : List HostParams) (log : RunLog) → AreTold ps ps log.hosts
    → IsReport (map (λ (p : HostParams). p.addr) ps) (lines_of log)
in_order ps log told =
    let all = of_hosts ps ps 0 log.hosts told in
    record {
      report = record { hosts = all.parts; ticks = log.ticks };
      hosts = all.own;
      shown = ap (λ (t : List Line). Title ∷ t ++ End log.ticks ∷ []) all.same;
    }
