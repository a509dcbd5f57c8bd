-- Up to each line of a log's report the flow that it shows is right.
use Rattle.std.proofs.Common.{◌≡◌, ℕ, zero, suc, ◌+◌, List, [], ◌∷◌, ◌++◌, length, take, fold, refl, sym, subst}
use Rattle.std.proofs.Common.{append_assoc, Option, Some, None}
use Rattle.std.specs.Prelude.{slice_get, IfSome}
use Rattle.std.proofs.lemmas.List.{append-nil, length-append}
use Rattle.std.proofs.lemmas.Option.{same_Some}
use Rattle.tas_model.specs.declared.entry.Entry.{Entry}
use Rattle.tas_model.specs.declared.entry.FlowId.{FlowId}
use Rattle.tas_model.specs.declared.entry.FourTuple.{FourTuple}
use Rattle.tas_model.specs.declared.entry.HostParams.{HostParams}
use Rattle.tas_model.specs.Endpoint.{phase}
use Rattle.tas_model.specs.LegalHistory.{Along as Following, MayFollow, Legal, replay}
use Rattle.tas_model.specs.Outputs.{bytes_read}
use Rattle.host_rounds.specs.declared.log.LogLine.{LogLine}
use Rattle.host_rounds.specs.Lists.{Each}
use Rattle.host_rounds.specs.Logs.{Flow, HostRun, RunLog}
use Rattle.report_lines.specs.Lines.{Line, End}
use Rattle.trace_audit.specs.Shown.{ShownFlow, Now, begun, with_line, nothing_shown}
use Rattle.trace_audit.specs.Right.{AreLegal, IsRight, IsRightNow, AreRight}
use Rattle.audited_runs.specs.LogLines.{log_lines, entry_lines, end_lines, flow_lines, flows_lines}
use Rattle.audited_runs.specs.LogLines.{host_lines, hosts_lines, lines_of}
use Rattle.audited_runs.specs.Told.{BeginsFromPeer, IsTold, IsHostTold, AreTold}

-- a beginning of a history with this
front : (fact : List Entry → Entry → Type 0) (earlier xs ys : List Entry) → Following fact earlier (xs ++ ys)
    → Following fact earlier xs
front fact earlier [] ys all = tt
front fact earlier (x ∷ xs) ys all = (all.0, front fact (earlier ++ x ∷ []) xs ys all.1)

module _ (all : List HostParams) where
  legal_front : (p : HostParams) (tuple : FourTuple) (xs ys : List Entry) → AreLegal all p tuple (xs ++ ys)
      → AreLegal all p tuple xs
  legal_front p tuple [] ys legal = tt
  legal_front p tuple (x ∷ xs) ys legal =
      ((legal.0.0, front (MayFollow p) (x ∷ []) xs ys legal.0.1), legal.1)

  told_legal : (p : HostParams) (tuple : FourTuple) (h : List Entry) → Legal p h → BeginsFromPeer all tuple h
      → AreLegal all p tuple h
  told_legal p tuple [] legal peer = tt
  told_legal p tuple (x ∷ xs) legal peer = (legal, peer)

  -- What these lines show from here on is right, line by line.
  abbrev Onwards : Now → List Line → Type 0
  Onwards n [] = IsRightNow all n
  Onwards n (l ∷ ls) = IsRightNow all n × Onwards (with_line n l) ls

  each_take : (n : Now) (ls : List Line) (k : ℕ) → Onwards n ls → IsRightNow all (fold with_line n (take k ls))
  each_take n [] zero right = right
  each_take n [] (suc k) right = right
  each_take n (l ∷ ls) zero right = right.0
  each_take n (l ∷ ls) (suc k) right = each_take (with_line n l) ls k right.1

  abbrev showing : (host : ℕ) → ShownFlow → Now
  showing host f = record { host = host; flow = Some f }

  right_now : (p : HostParams) (host : ℕ) (f : ShownFlow) → slice_get all host ≡ Some p → IsRight all p f
      → IsRightNow all (showing host f)
  right_now p host f at right = by_host (slice_get all host) at where
    by_host : (o : Option HostParams) → o ≡ Some p → IfSome o (λ q. IsRight all q f)
    by_host None e = absurd (cc (e))
    by_host (Some q) e = subst (λ (r : HostParams). IsRight all r f) (sym (same_Some q p e)) right

  -- ----- one flow
  module _ (p : HostParams) (host : ℕ) (at : slice_get all host ≡ Some p) (tuple : FourTuple) where
    abbrev entered : List Entry → ShownFlow
    entered h = record { tuple = tuple; entries = h; state = None; read = None }

    entered_right : (h : List Entry) → AreLegal all p tuple h → IsRightNow all (showing host (entered h))
    entered_right h legal = right_now p host (entered h) at (record { legal = legal; state = tt; read = tt })

    entries_right : (earlier later : List Entry) (rest : List Line) → AreLegal all p tuple (earlier ++ later)
        → Onwards (showing host (entered (earlier ++ later))) rest
        → Onwards (showing host (entered earlier)) (entry_lines later ++ rest)
    entries_right earlier [] rest legal more =
        subst (λ (h : List Entry). Onwards (showing host (entered h)) rest) (append-nil earlier) more
    entries_right earlier (x ∷ xs) rest legal more = (
      entered_right earlier (legal_front p tuple earlier (x ∷ xs) legal),
      entries_right (earlier ++ x ∷ []) xs rest
          (subst (AreLegal all p tuple) (sym (append_assoc earlier (x ∷ []) xs)) legal)
          (subst (λ (h : List Entry). Onwards (showing host (entered h)) rest)
          (sym (append_assoc earlier (x ∷ []) xs)) more),
    )

    abbrev ended : List Entry → ShownFlow
    ended h =
        record {
          tuple = tuple;
          entries = h;
          state = Some (phase (replay p h), (replay p h).reason);
          read = None;
        }

    abbrev over : List Entry → ShownFlow
    over h =
        record {
          tuple = tuple;
          entries = h;
          state = Some (phase (replay p h), (replay p h).reason);
          read = Some (length (bytes_read h), bytes_read h);
        }

    over_right : (h : List Entry) → AreLegal all p tuple h → IsRightNow all (showing host (over h))
    over_right h legal =
        right_now p host (over h) at (record { legal = legal; state = (refl, refl); read = (refl, refl) })

    end_right : (h : List Entry) (rest : List Line) → AreLegal all p tuple h → Onwards (showing host (over h)) rest
        → Onwards (showing host (entered h)) (end_lines p h ++ rest)
    end_right h rest legal more = (
      entered_right h legal,
      (right_now p host (ended h) at (record { legal = legal; state = (refl, refl); read = tt }), more),
    )

  -- What is right behind each flow of this host is right.
  abbrev Behind : HostParams → (host : ℕ) → List Line → Type 0
  Behind p host rest = (n : Now) → n.host ≡ host → IsRightNow all n → Onwards n rest

  history_right : (p : HostParams) (host k : ℕ) (id : FlowId) (tuple : FourTuple) (h : List Entry) (rest : List Line)
      → slice_get all host ≡ Some p → AreLegal all p tuple h → Behind p host rest
      → Onwards (showing host (begun tuple)) ((entry_lines h ++ end_lines p h) ++ rest)
  history_right p host k id tuple h rest at legal more =
      subst (Onwards (showing host (begun tuple))) (sym (append_assoc (entry_lines h) (end_lines p h) rest))
      (entries_right p host at tuple [] h (end_lines p h ++ rest) legal
      (end_right p host at tuple h rest legal
      (more (showing host (over p host at tuple h)) refl (over_right p host at tuple h legal))))

  flow_right : (p : HostParams) (host k : ℕ) (f : Flow) (rest : List Line) → slice_get all host ≡ Some p
      → IsTold all p f → Behind p host rest → Behind p host (flow_lines k f ++ rest)
  flow_right p host k f rest at told more n same right = (
    right,
    subst (λ (q : HostParams). Onwards (showing n.host (begun f.tuple))
        ((entry_lines f.entries ++ end_lines q f.entries) ++ rest)) (sym told.params)
        (subst (λ (i : ℕ). Onwards (showing i (begun f.tuple))
        ((entry_lines f.entries ++ end_lines p f.entries) ++ rest))
        (sym same)
        (history_right p host k f.id f.tuple f.entries rest at
        (told_legal p f.tuple f.entries told.legal told.peer) more)),
  )

  flows_right : (p : HostParams) (host k : ℕ) (fs : List Flow) (rest : List Line) → slice_get all host ≡ Some p
      → Each (IsTold all p) fs → Behind p host rest → Behind p host (flows_lines k fs ++ rest)
  flows_right p host k [] rest at told more = more
  flows_right p host k (f ∷ fs) rest at told more =
      subst (Behind p host) (sym (append_assoc (flow_lines k f) (flows_lines (k + 1) fs) rest))
      (flow_right p host k f (flows_lines (k + 1) fs ++ rest) at told.0
      (flows_right p host (k + 1) fs rest at told.1 more))

  -- ----- a host
  log_right : (n : Now) (ls : List LogLine) (rest : List Line) → IsRightNow all n → Onwards n rest
      → Onwards n (log_lines ls ++ rest)
  log_right n [] rest right more = more
  log_right n (l ∷ ls) rest right more = (right, log_right n ls rest right more)

  -- What is right behind any line is right.
  abbrev Anywhere : List Line → Type 0
  Anywhere rest = (n : Now) → IsRightNow all n → Onwards n rest

  host_right : (p : HostParams) (i : ℕ) (h : HostRun) (rest : List Line) → slice_get all i ≡ Some p
      → IsHostTold all p h → Anywhere rest → Anywhere (host_lines i h ++ rest)
  host_right p i h rest at told more n right = (
    right,
    subst (Onwards (record { host = i; flow = None }))
        (sym (append_assoc (log_lines h.log) (flows_lines 0 h.flows) rest))
        (log_right (record { host = i; flow = None }) h.log (flows_lines 0 h.flows ++ rest) tt
        (flows_right p i 0 h.flows rest at told.flows (λ m same now. more m now)
        (record { host = i; flow = None }) refl tt)),
  )

  -- the hosts from this one on
  abbrev AreFrom : (i : ℕ) → List HostParams → Type 0
  AreFrom i [] = Unit {0}
  AreFrom i (p ∷ ps) = (slice_get all i ≡ Some p) × AreFrom (i + 1) ps

  hosts_right : (ps : List HostParams) (i : ℕ) (hs : List HostRun) (rest : List Line) → AreFrom i ps → AreTold all ps hs
      → Anywhere rest → Anywhere (hosts_lines i hs ++ rest)
  hosts_right [] i [] rest from told more = more
  hosts_right [] i (h ∷ hs) rest from told more = absurd told
  hosts_right (p ∷ ps) i [] rest from told more = absurd told
  hosts_right (p ∷ ps) i (h ∷ hs) rest from told more =
      subst Anywhere (sym (append_assoc (host_lines i h) (hosts_lines (i + 1) hs) rest))
      (host_right p i h (hosts_lines (i + 1) hs ++ rest) from.0 told.0
      (hosts_right ps (i + 1) hs rest from.1 told.1 more))

got_behind : (before : List HostParams) (p : HostParams) (ps : List HostParams)
    → slice_get (before ++ p ∷ ps) (length before) ≡ Some p
got_behind [] p ps = refl
got_behind (x ∷ xs) p ps = got_behind xs p ps

from_there : (before ps : List HostParams) → AreFrom (before ++ ps) (length before) ps
from_there before [] = tt
from_there before (p ∷ ps) = (
  got_behind before p ps,
  subst (λ (all : List HostParams). AreFrom all (length before + 1) ps) (append_assoc before (p ∷ []) ps)
      (subst (λ (n : ℕ). AreFrom ((before ++ p ∷ []) ++ ps) n ps) (length-append before (p ∷ []))
      (from_there (before ++ p ∷ []) ps)),
)

pub are_right : (ps : List HostParams) (log : RunLog) → AreTold ps ps log.hosts → AreRight ps (lines_of log)
are_right ps log told k =
    each_take ps nothing_shown (lines_of log) k (
      tt,
      hosts_right ps ps 0 log.hosts (End log.ticks ∷ []) (from_there [] ps) told (λ n right. (right, right))
          nothing_shown tt,
    )
