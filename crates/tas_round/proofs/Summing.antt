-- What a summary counts, host by host and flow by flow.
use Rattle.std.proofs.Common.{◌≡◌, ℕ, zero, suc, ◌+◌, ◌≤◌, [], ◌∷◌, ◌++◌, Bool, false, true, List, length, map, take}
use Rattle.std.proofs.Common.{drop, slice_get, Some, Result, Ok, Err, OnOk, refl, ap, subst, sym, ◌∙◌, append-nil}
use Rattle.std.proofs.Common.{arith, cond, codes, count_by, bytes_eq, length-append}
use Rattle.std.proofs.lemmas.List.{map-append, take_all}
use Rattle.std.proofs.lemmas.List.Concat.{flat_map-append}
use Rattle.std.proofs.lemmas.List.Folds.{fold-map}
use Rattle.tas_num.specs.declared.outside.IoFault.{IoFault}
use Rattle.tas_num.specs.Streams.{SinkState, Wrote}
use Rattle.flow_state.specs.Flow as records
use Rattle.tas_model.specs.Outputs.{bytes_read}
use Rattle.host_rounds.specs.Logs.{Flow, HostRun, RunLog}
use Rattle.tas_runs.specs.Summary.{flows_on, all_read, is_done, summary_lines, summary}
use Rattle.run_texts.specs.Frames.{history_of}
use Rattle.run_texts.specs.Writes.{Writes}
use Rattle.run_texts.proofs.Lists.{taken_more}
use Rattle.tas_round.specs.declared.logs.HostRun as code
use Rattle.tas_round.specs.Runs.{host_in}

-- ----- the host with a name
-- it is none of those that were passed over
passed_by : (name : List ℕ) (hs : List code.HostRun) (i : ℕ) (h : code.HostRun) → slice_get hs i ≡ Some h
    → bytes_eq h.name name ≡ false
    → flows_on name (map host_in (drop (suc i) hs)) ≡ flows_on name (map host_in (drop i hs))
passed_by name [] i h here other = absurd (cc (here))
passed_by name (x ∷ xs) zero h here other =
    let same : x ≡ h = cc (here) in
    let not_it : bytes_eq x.name name ≡ false = ap (λ (r : code.HostRun). bytes_eq r.name name) same ∙ other in
    sym (ap (λ (b : Bool). cond b (host_in x).flows (flows_on name (map host_in xs))) not_it)
passed_by name (x ∷ xs) (suc i) h here other = passed_by name xs i h here other

pub passed_over : (name : List ℕ) (hs : List code.HostRun) (i : ℕ) (h : code.HostRun) → slice_get hs i ≡ Some h
    → bytes_eq h.name name ≡ false
    → flows_on name (map host_in (drop (i + 1) hs)) ≡ flows_on name (map host_in (drop i hs))
passed_over name hs i h here other =
    let next : suc i ≡ i + 1 = omega arith in
    subst (λ (n : ℕ). flows_on name (map host_in (drop n hs)) ≡ flows_on name (map host_in (drop i hs))) next
    (passed_by name hs i h here other)

-- it is this one
pub found_there : (name : List ℕ) (hs : List code.HostRun) (i : ℕ) (h : code.HostRun) → slice_get hs i ≡ Some h
    → bytes_eq h.name name ≡ true → (host_in h).flows ≡ flows_on name (map host_in (drop i hs))
found_there name [] i h here it = absurd (cc (here))
found_there name (x ∷ xs) zero h here it =
    let same : x ≡ h = cc (here) in
    let is : bytes_eq x.name name ≡ true = ap (λ (r : code.HostRun). bytes_eq r.name name) same ∙ it in
    sym (ap (λ (b : Bool). cond b (host_in x).flows (flows_on name (map host_in xs))) is
    ∙ ap (λ (r : code.HostRun). (host_in r).flows) same)
found_there name (x ∷ xs) (suc i) h here it = found_there name xs i h here it

-- no host has it
pub none_left : (name : List ℕ) (hs : List code.HostRun) (i : ℕ) → length hs ≤ i
    → flows_on name (map host_in (drop i hs)) ≡ []
none_left name [] zero e = refl
none_left name [] (suc i) e = refl
none_left name (x ∷ xs) zero e = absurd (omega (arith, e))
none_left name (x ∷ xs) (suc i) e = none_left name xs i (omega (arith, e))

-- ----- flows
-- the bytes of one flow more
pub all_read_more : (fs : List records.History) (i before after : ℕ) (f : records.History) → slice_get fs i ≡ Some f
    → before ≡ length (all_read (map history_of (take i fs))) → after ≡ before + length (bytes_read f.entries)
    → after ≡ length (all_read (map history_of (take (i + 1) fs)))
all_read_more fs i before after f here so_far more =
    let old : List Flow = map history_of (take i fs) in
    let taken : map history_of (take (i + 1) fs) ≡ old ++ history_of f ∷ [] =
    ap (map history_of) (taken_more fs i f here) ∙ map-append history_of (take i fs) (f ∷ []) in
    let grown : all_read (map history_of (take (i + 1) fs)) ≡ all_read old ++ bytes_read f.entries =
    ap all_read taken
    ∙ (flat_map-append (λ (x : Flow). bytes_read x.entries) old (history_of f ∷ [])
    ∙ ap (λ (t : List ℕ). all_read old ++ t) (append-nil (bytes_read f.entries))) in
    let len : length (all_read (map history_of (take (i + 1) fs)))
    ≡ length (all_read old) + length (bytes_read f.entries) =
    ap length grown ∙ length-append (all_read old) (bytes_read f.entries) in
    omega (arith, so_far, more, len)

-- those of a flow and of all in front of it are as many as all at most
pub all_read_within : (fs : List records.History) (i : ℕ) (f : records.History) → slice_get fs i ≡ Some f
    → length (all_read (map history_of (take i fs))) + length (bytes_read f.entries)
    ≤ length (all_read (map history_of fs))
all_read_within [] i f here = absurd (cc (here))
all_read_within (x ∷ xs) zero f here =
    let same : x ≡ f = cc (here) in
    let own : length (bytes_read x.entries) ≡ length (bytes_read f.entries) =
    ap (λ (g : records.History). length (bytes_read g.entries)) same in
    let all : length (all_read (map history_of (x ∷ xs)))
    ≡ length (bytes_read x.entries) + length (all_read (map history_of xs)) =
    length-append (bytes_read x.entries) (all_read (map history_of xs)) in
    omega (arith, own, all)
all_read_within (x ∷ xs) (suc i) f here =
    let rest : length (all_read (map history_of (take i xs))) + length (bytes_read f.entries)
    ≤ length (all_read (map history_of xs)) = all_read_within xs i f here in
    let front : length (all_read (map history_of (x ∷ take i xs)))
    ≡ length (bytes_read x.entries) + length (all_read (map history_of (take i xs))) =
    length-append (bytes_read x.entries) (all_read (map history_of (take i xs))) in
    let all : length (all_read (map history_of (x ∷ xs)))
    ≡ length (bytes_read x.entries) + length (all_read (map history_of xs)) =
    length-append (bytes_read x.entries) (all_read (map history_of xs)) in
    omega (arith, rest, front, all)

pub all_read_whole : (fs : List records.History) (n count : ℕ) → length fs ≤ n
    → count ≡ length (all_read (map history_of (take n fs))) → count ≡ length (all_read (map history_of fs))
all_read_whole fs n count e so_far =
    so_far ∙ ap (λ (l : List records.History). length (all_read (map history_of l))) (take_all n fs e)

-- a test of what the elements stand for
pub count_mapped : {X Y : Type 0} (p : Y → Bool) (f : X → Y) (xs : List X)
    → count_by p (map f xs) ≡ count_by (λ x. p (f x)) xs
count_mapped {X} {Y} p f xs = fold-map (λ (m : ℕ) (y : Y). m + cond (p y) 1 0) f 0 xs

-- ----- the text
pub summary_is : (clients c read closed : ℕ) (log : RunLog) → c ≡ clients
    → read ≡ length (all_read (flows_on (codes "b") log.hosts))
    → closed ≡ count_by is_done (flows_on (codes "a") log.hosts)
    → summary_lines c read closed ≡ summary clients log
unfolding summary
summary_is clients c read closed log e f g = λ i. summary_lines (e i) (f i) (g i)

-- all that waited was written, and the text behind it
pub all_written : {v w : List ℕ} (a b : SinkState) (r : Result (Unit {0}) IoFault) (text : List ℕ) → v ≡ []
    → OnOk r (w ≡ []) → Writes a v r b w text → Wrote a r b text []
all_written {v} {w} a b (Ok u) text none empty h =
    subst (λ (l : List ℕ). Wrote a (Ok u) b text l) empty
    (subst (λ (l : List ℕ). Wrote a (Ok u) b (l ++ text) w) none h.wrote)
all_written {v} {w} a b (Err fault) text none empty h =
    let first = subst (λ (l : List ℕ). Wrote a (Err fault) b (l ++ text) w) none h.wrote in
    record {
      front = first.front;
      rest = first.rest;
      split = first.split;
      grown = first.grown;
      whole = tt;
      counts = first.counts;
      memory = first.memory;
      same = first.same;
    }
