-- The ports that a host gives to connects stay apart from those of its listeners, and each is given once.
use Rattle.std.proofs.Common.{◌≡◌, ℕ, zero, suc, ◌+◌, ◌<◌, ◌≤◌, ◌++◌, Bool, true, false, cond, List, [], ◌∷◌, map}
use Rattle.std.proofs.Common.{◌==◌, ◌&&◌, ◌||◌, position, None, Result, Ok, Err, OnOk, OnErr, refl, sym}
use Rattle.std.proofs.Common.{ap, subst, ◌∙◌, true≢false, arith, tests, nat_le}
use Rattle.std.proofs.Common.{◌-◌, ◌^◌, length, length-append}
use Rattle.std.proofs.lemmas.List.{length-map}
use Rattle.std.specs.List.{filter, list_any}
use Rattle.tas_model.specs.declared.entry.FourTuple.{FourTuple}
use Rattle.tas_model.specs.declared.entry.HostParams.{HostParams}
use Rattle.host_rounds.specs.Lists.{Each, change_at}
use Rattle.host_rounds.specs.Hosts.{Live, Listener, is_indexed_as, first_port}
use Rattle.local_host.specs.declared.host.Listener as code
use Rattle.local_host.specs.Index.{given_in}
use Rattle.local_host.specs.Ports.{listener_in, IsHost}
use Rattle.local_host.proofs.Indexing.{Keeps, length_change}
use Rattle.local_host.proofs.Given.{one_given, given_push, given_map, given_change}
use Rattle.local_host.proofs.Records.{each_push}
use Rattle.local_host.proofs.Searching.{position_none}

-- ----- flows with lower ports
abbrev IsBelow : ℕ → Live → Type 0
IsBelow n l = l.flow.tuple.lport < n

kept_below : (n : ℕ) (f : Live → Live) (l : Live) → Keeps f → IsBelow n l → IsBelow n (f l)
kept_below n f l keeps low = subst (λ (t : FourTuple). t.lport < n) (sym (keeps.same l).tuple) low

below_map : (n : ℕ) (f : Live → Live) (ls : List Live) → Keeps f → Each (IsBelow n) ls → Each (IsBelow n) (map f ls)
below_map n f [] keeps all = tt
below_map n f (l ∷ ls) keeps all = (kept_below n f l keeps all.0, below_map n f ls keeps all.1)

below_change : (n : ℕ) (f : Live → Live) (ls : List Live) (i : ℕ) → Keeps f → Each (IsBelow n) ls
    → Each (IsBelow n) (change_at i f ls)
below_change n f [] i keeps all = tt
below_change n f (l ∷ ls) zero keeps all = (kept_below n f l keeps all.0, all.1)
below_change n f (l ∷ ls) (suc i) keeps all = (all.0, below_change n f ls i keeps all.1)

below_more : (n m : ℕ) (ls : List Live) → n ≤ m → Each (IsBelow n) ls → Each (IsBelow m) ls
below_more n m [] more all = tt
below_more n m (l ∷ ls) more all = (omega (arith, more, all.0), below_more n m ls more all.1)

-- ----- what holds of each host
pub host_map : {params : HostParams} {listeners : List code.Listener} {ls : List Live} (f : Live → Live) → Keeps f
    → IsHost params listeners ls → IsHost params listeners (map f ls)
host_map {params} {listeners} {ls} f keeps is = record {
  ranges = is.ranges;
  few = subst (λ (n : ℕ). n < 2 ^ 32) (sym (length-map ls f)) is.few;
  ports =
      λ loose. record {
        listened = (is.ports loose).listened;
        flows = subst (λ (n : ℕ). Each (IsBelow (first_port + n)) (map f ls)) (sym (given_map f keeps ls))
            (below_map (first_port + given_in ls) f ls keeps (is.ports loose).flows);
      };
}

pub host_change : {params : HostParams} {listeners : List code.Listener} {ls : List Live} (f : Live → Live) (i : ℕ)
    → Keeps f → IsHost params listeners ls → IsHost params listeners (change_at i f ls)
host_change {params} {listeners} {ls} f i keeps is = record {
  ranges = is.ranges;
  few = subst (λ (n : ℕ). n < 2 ^ 32) (sym (length_change f ls i)) is.few;
  ports =
      λ loose. record {
        listened = (is.ports loose).listened;
        flows = subst (λ (n : ℕ). Each (IsBelow (first_port + n)) (change_at i f ls)) (sym (given_change f keeps ls i))
            (below_change (first_port + given_in ls) f ls i keeps (is.ports loose).flows);
      };
}

pub host_none : {params : HostParams} {listeners : List code.Listener} {ls : List Live} → IsHost params listeners ls
    → IsHost params listeners []
host_none is = record {
  ranges = is.ranges;
  few = omega arith;
  ports = λ loose. record { listened = (is.ports loose).listened; flows = tt };
}

few_more : (ls : List Live) (l : Live) → length ls < 2 ^ 32 - 1 → length (ls ++ l ∷ []) < 2 ^ 32
few_more ls l less = let one : length (ls ++ l ∷ []) ≡ length ls + 1 = length-append ls (l ∷ []) in
    omega (arith, one, less)

-- one flow more: at the port of a listener,
pub host_low : {params : HostParams} {listeners : List code.Listener} {ls : List Live} (l : Live)
    → length ls < 2 ^ 32 - 1 → (params.fixed ≡ false → l.flow.tuple.lport < first_port)
    → IsHost params listeners ls → IsHost params listeners (ls ++ l ∷ [])
host_low {params} {listeners} {ls} l less low is = record {
  ranges = is.ranges;
  few = few_more ls l less;
  ports =
      λ loose.
      let here : l.flow.tuple.lport < first_port = low loose in
      record {
        listened = (is.ports loose).listened;
        flows = subst (λ (n : ℕ). Each (IsBelow (first_port + n)) (ls ++ l ∷ [])) (sym (given_push ls l))
            (each_push (IsBelow (first_port + (given_in ls + one_given l))) ls l
            (below_more (first_port + given_in ls) (first_port + (given_in ls + one_given l)) ls (omega arith)
            (is.ports loose).flows)
            (omega (arith, here)));
      };
}

one_where : (b : Bool) (n : ℕ) → b ≡ true → n ≡ cond b 1 0 → n ≡ 1
one_where true n is one = one
one_where false n is one = absurd (true≢false (sym is))

next_given : (n : ℕ) → nat_le first_port (first_port + n) ≡ true
next_given n = grind (arith, tests)

-- and at the next port that is given
pub host_next : {params : HostParams} {listeners : List code.Listener} {ls : List Live} (l : Live)
    → length ls < 2 ^ 32 - 1 → (params.fixed ≡ false → l.flow.tuple.lport ≡ first_port + given_in ls)
    → IsHost params listeners ls → IsHost params listeners (ls ++ l ∷ [])
host_next {params} {listeners} {ls} l less is_next is = record {
  ranges = is.ranges;
  few = few_more ls l less;
  ports =
      λ loose.
      let next : l.flow.tuple.lport ≡ first_port + given_in ls = is_next loose in
      let one : one_given l ≡ 1 = one_where (nat_le first_port l.flow.tuple.lport) (one_given l)
      (ap (nat_le first_port) next ∙ next_given (given_in ls)) refl in
      record {
        listened = (is.ports loose).listened;
        flows = subst (λ (n : ℕ). Each (IsBelow (first_port + n)) (ls ++ l ∷ [])) (sym (given_push ls l))
            (each_push (IsBelow (first_port + (given_in ls + one_given l))) ls l
            (below_more (first_port + given_in ls) (first_port + (given_in ls + one_given l)) ls (omega arith)
            (is.ports loose).flows)
            (omega (arith, next, one)));
      };
}

-- after a change of the flows, of which none is left where it failed
pub host_done : {T E : Type 0} (r : Result T E) {params : HostParams} {listeners : List code.Listener}
    {ls : List Live} (made after : List Live) → IsHost params listeners ls → IsHost params listeners made
    → OnOk r (after ≡ made) → OnErr r (after ≡ []) → IsHost params listeners after
host_done {T} {E} (Ok x) {params} {listeners} {ls} made after is new ok err =
    subst (IsHost params listeners) (sym ok) new
host_done {T} {E} (Err e) {params} {listeners} {ls} made after is new ok err = subst (IsHost params listeners) (sym err)
    (host_none is)

-- ----- listeners
abbrev IsLow : code.Listener → Type 0
IsLow l = l.port < first_port

pub host_listened : {params : HostParams} {listeners : List code.Listener} {ls : List Live} (l : code.Listener)
    → l.port < first_port → IsHost params listeners ls → IsHost params (listeners ++ l ∷ []) ls
host_listened {params} {listeners} {ls} l low is = record {
  ranges = is.ranges;
  few = is.few;
  ports =
      λ loose. record {
        listened = each_push IsLow listeners l (is.ports loose).listened low;
        flows = (is.ports loose).flows;
      };
}

each_left : (keep : code.Listener → Bool) (ls : List code.Listener) → Each IsLow ls → Each IsLow (filter keep ls)
each_left keep [] all = tt
each_left keep (l ∷ ls) all = by_test (keep l) (each_left keep ls all.1) where
  by_test : (b : Bool) → Each IsLow (filter keep ls) → Each IsLow (cond b (l ∷ filter keep ls) (filter keep ls))
  by_test true rest = (all.0, rest)
  by_test false rest = rest

pub host_forgot : {params : HostParams} {listeners : List code.Listener} {ls : List Live}
    (keep : code.Listener → Bool) → IsHost params listeners ls → IsHost params (filter keep listeners) ls
host_forgot {params} {listeners} {ls} keep is = record {
  ranges = is.ranges;
  few = is.few;
  ports =
      λ loose. record {
        listened = each_left keep listeners (is.ports loose).listened;
        flows = (is.ports loose).flows;
      };
}

-- a test of what the code's listeners are
pub left_mapped : (keep : Listener → Bool) (ls : List code.Listener)
    → map listener_in (filter (λ (l : code.Listener). keep (listener_in l)) ls) ≡ filter keep (map listener_in ls)
left_mapped keep [] = refl
left_mapped keep (l ∷ ls) = by_test (keep (listener_in l)) (left_mapped keep ls) where
  more : List Listener → List Listener
  more rest = listener_in l ∷ rest

  by_test : (b : Bool)
      → map listener_in (filter (λ (k : code.Listener). keep (listener_in k)) ls) ≡ filter keep (map listener_in ls)
      → map listener_in (cond b (l ∷ filter (λ (k : code.Listener). keep (listener_in k)) ls)
      (filter (λ (k : code.Listener). keep (listener_in k)) ls))
      ≡ cond b (listener_in l ∷ filter keep (map listener_in ls)) (filter keep (map listener_in ls))
  by_test true rest = ap more rest
  by_test false rest = rest

-- ----- the next port
and_past : (i a c d b : Bool) → b ≡ false → (i && (a && b && c && d)) ≡ false
and_past false a c d b h = refl
and_past true false c d b h = refl
and_past true true c d false h = refl
and_past true true c d true h = absurd (true≢false h)

apart : (tuple : FourTuple) (n : ℕ) (l : Live) → tuple.lport ≡ n → IsBelow n l → is_indexed_as tuple l ≡ false
apart tuple n l next low =
    let other : (tuple.lport == l.flow.tuple.lport) ≡ false = grind (arith, tests, next, low) in
    and_past l.indexed (tuple.laddr == l.flow.tuple.laddr) (tuple.raddr == l.flow.tuple.raddr)
    (tuple.rport == l.flow.tuple.rport) (tuple.lport == l.flow.tuple.lport) other

all_apart : (tuple : FourTuple) (n : ℕ) (ls : List Live) → tuple.lport ≡ n → Each (IsBelow n) ls
    → Each (λ (l : Live). is_indexed_as tuple l ≡ false) ls
all_apart tuple n [] next all = tt
all_apart tuple n (l ∷ ls) next all = (apart tuple n l next all.0, all_apart tuple n ls next all.1)

-- no flow has it yet
pub next_is_fresh : (tuple : FourTuple) (ls : List Live) {params : HostParams} {listeners : List code.Listener}
    → params.fixed ≡ false → tuple.lport ≡ first_port + given_in ls → IsHost params listeners ls
    → position (is_indexed_as tuple) ls ≡ None
next_is_fresh tuple ls loose next is = position_none (is_indexed_as tuple) ls
    (all_apart tuple (first_port + given_in ls) ls next (is.ports loose).flows)

-- a port where an application listens is none that connects are given
pub listened_low : (port : ℕ) (ls : List code.Listener) → Each IsLow ls
    → list_any (λ (l : Listener). l.port == port) (map listener_in ls) ≡ true → port < first_port
listened_low port [] all h = absurd (true≢false (sym h))
listened_low port (l ∷ ls) all h = by_test (l.port == port) refl h (listened_low port ls all.1) where
  by_test : (b : Bool) → (l.port == port) ≡ b
      → (b || list_any (λ (k : Listener). k.port == port) (map listener_in ls)) ≡ true
      → (list_any (λ (k : Listener). k.port == port) (map listener_in ls) ≡ true → port < first_port)
      → port < first_port
  by_test true is any rest = let here : l.port < first_port = all.0 in grind (arith, tests, is, here)
  by_test false is any rest = rest any
