-- The lines of hosts and of their flows, one at a time.
use Rattle.std.proofs.Common.{◌≡◌, ℕ, ◌+◌, ◌≤◌, [], ◌∷◌, ◌++◌, List, length, map, flat_map, take, drop, slice_get, Some}
use Rattle.std.proofs.Common.{Result, Ok, IsErr, refl, ap, subst, sym, ◌∙◌, append_assoc, append-nil, take-append-drop}
use Rattle.std.proofs.Common.{length-take, arith, ◌<◌}
use Rattle.std.proofs.lemmas.List.{take_all}
use Rattle.std.proofs.lemmas.Option.{slice_get_within}
use Rattle.tas_num.specs.declared.outside.IoFault.{IoFault}
use Rattle.tas_num.specs.Streams.{SinkState}
use Rattle.host_rounds.specs.Logs.{Flow}
use Rattle.tas_runs.specs.Report.{flow_lines, flows_text, host_text, hosts_text, names_of}
use Rattle.tas_round.specs.declared.logs.HostRun as code
use Rattle.tas_round.specs.Runs.{host_in}
use Rattle.run_texts.specs.Writes.{Writes}
use Rattle.run_texts.proofs.Lists.{taken_more}
use Rattle.run_texts.proofs.Writing.{wrote_both, stopped_in, wrote_as}

-- flows behind others
pub flows_append : (names : List (List ℕ)) (n m : ℕ) (xs ys : List Flow) → m ≡ n + length xs
    → flows_text names n (xs ++ ys) ≡ flows_text names n xs ++ flows_text names m ys
flows_append names n m [] ys e =
    let same : m ≡ n = omega (arith, e) in
    ap (λ (k : ℕ). flows_text names k ys) (sym same)
flows_append names n m (x ∷ xs) ys e =
    let next : m ≡ (n + 1) + length xs = omega (arith, e) in
    ap (λ (t : List ℕ). flow_lines names n x ++ t) (flows_append names (n + 1) m xs ys next)
    ∙ sym (append_assoc (flow_lines names n x) (flows_text names (n + 1) xs) (flows_text names m ys))

-- one flow more
pub flows_more : (names : List (List ℕ)) (fs : List Flow) (i : ℕ) (f : Flow) → slice_get fs i ≡ Some f
    → flows_text names 0 (take i fs) ++ flow_lines names i f ≡ flows_text names 0 (take (i + 1) fs)
flows_more names fs i f e =
    let inside : i < length fs = slice_get_within fs i f e in
    let len : i ≡ 0 + length (take i fs) = omega (arith, inside, length-take i fs) in
    sym (ap (flows_text names 0) (taken_more fs i f e)
    ∙ (flows_append names 0 i (take i fs) (f ∷ []) len ∙ ap (λ (t : List ℕ). flows_text names 0 (take i fs) ++ t)
    (append-nil (flow_lines names i f))))

-- and all that are left
pub flows_rest : (names : List (List ℕ)) (fs : List Flow) (i : ℕ) → i ≤ length fs
    → flows_text names 0 (take i fs) ++ flows_text names i (drop i fs) ≡ flows_text names 0 fs
flows_rest names fs i inside =
    let len : i ≡ 0 + length (take i fs) = omega (arith, inside, length-take i fs) in
    sym (flows_append names 0 i (take i fs) (drop i fs) len) ∙ ap (flows_text names 0) (take-append-drop i fs)

pub wrote_flow : {v w u : List ℕ} (names : List (List ℕ)) (fs : List Flow) (i : ℕ) (f : Flow) (a b c : SinkState)
    (r : Result (Unit {0}) IoFault) → slice_get fs i ≡ Some f
    → Writes a v (Ok tt) b w (flows_text names 0 (take i fs)) → Writes b w r c u (flow_lines names i f)
    → Writes a v r c u (flows_text names 0 (take (i + 1) fs))
wrote_flow names fs i f a b c r e first second =
    let more = flows_more names fs i f e in
    wrote_both a b c r (flows_text names 0 (take i fs)) (flow_lines names i f) (flows_text names 0 (take (i + 1) fs))
    more first second

pub stopped_flow : {v w u : List ℕ} (names : List (List ℕ)) (fs : List Flow) (i : ℕ) (f : Flow) (a b c : SinkState)
    (r q : Result (Unit {0}) IoFault) → slice_get fs i ≡ Some f → IsErr r → r ≡ q
    → Writes a v (Ok tt) b w (flows_text names 0 (take i fs)) → Writes b w q c u (flow_lines names i f)
    → Writes a v r c u (flows_text names 0 fs)
stopped_flow {v} {w} {u} names fs i f a b c r q e failed same first second =
    let handed = λ (s : Result (Unit {0}) IoFault). Writes b w s c u (flow_lines names i f) in
    let last : Writes b w r c u (flow_lines names i f) = subst handed (sym same) second in
    let inside : i < length fs = slice_get_within fs i f e in
    let rest = flows_text names (i + 1) (drop (i + 1) fs) in
    let all = flows_rest names fs (i + 1) (omega (arith, inside)) in
    let more = wrote_flow names fs i f a b c r e first last in
    stopped_in a c r (flows_text names 0 (take (i + 1) fs)) rest (flows_text names 0 fs) all failed more

pub wrote_flows : {v w : List ℕ} (names : List (List ℕ)) (fs : List Flow) (n : ℕ) (a b : SinkState)
    (r : Result (Unit {0}) IoFault) → length fs ≤ n → Writes a v r b w (flows_text names 0 (take n fs))
    → Writes a v r b w (flows_text names 0 fs)
wrote_flows names fs n a b r e h =
    let all = ap (flows_text names 0) (take_all n fs e) in
    wrote_as a b r (flows_text names 0 (take n fs)) (flows_text names 0 fs) all h

-- ----- hosts
abbrev pub host_lines : (names : List (List ℕ)) → code.HostRun → List ℕ
host_lines names h = host_text names (host_in h)

pub hosts_are : (names : List (List ℕ)) (hs : List code.HostRun) → flat_map (host_lines names) hs
    ≡ hosts_text names (map host_in hs)
hosts_are names [] = refl
hosts_are names (h ∷ hs) = ap (λ (t : List ℕ). host_lines names h ++ t) (hosts_are names hs)

-- a name more
pub names_more : (before after : List (List ℕ)) (hs : List code.HostRun) (i : ℕ) (h : code.HostRun)
    → slice_get hs i ≡ Some h → before ≡ names_of (map host_in (take i hs)) → after ≡ before ++ h.name ∷ []
    → after ≡ names_of (map host_in (take (i + 1) hs))
names_more before after hs i h here first more =
    more ∙ (ap (λ (l : List (List ℕ)). l ++ h.name ∷ []) first
    ∙ (sym (names_and (take i hs)) ∙ ap (λ (l : List code.HostRun). names_of (map host_in l))
    (sym (taken_more hs i h here))))
  where
    names_and : (xs : List code.HostRun) → names_of (map host_in (xs ++ h ∷ [])) ≡ names_of (map host_in xs) ++ h.name
        ∷ []
    names_and [] = refl
    names_and (x ∷ xs) = ap (λ (l : List (List ℕ)). x.name ∷ l) (names_and xs)

pub names_whole : (names : List (List ℕ)) (hs : List code.HostRun) (n : ℕ) → length hs ≤ n
    → names ≡ names_of (map host_in (take n hs)) → names ≡ names_of (map host_in hs)
names_whole names hs n e h = h ∙ ap (λ (l : List code.HostRun). names_of (map host_in l)) (take_all n hs e)
