-- The sockets that an application's names stand for are its own.
use Rattle.std.proofs.Common.{◌≡◌, ℕ, zero, suc, ◌<◌, ◌==◌, not, Bool, true, false, List, [], ◌∷◌, ◌++◌, length, map}
use Rattle.std.proofs.Common.{filter, position, slice_get, bytes_eq, Option, Some, None, if◌then◌else◌, refl, sym}
use Rattle.std.proofs.Common.{subst, ap, ◌∙◌, ◌&&◌, true≢false, arith, tests}
use Rattle.std.proofs.lemmas.List.Quantifiers.{position-Some}
use Rattle.std.proofs.lemmas.Option.{get_or_from_slice_get}
use Rattle.host_rounds.specs.Lists.{Each, change_at}
use Rattle.host_rounds.specs.Hosts.{Live, Host, Holder, Waiting, Application, GivenUp, Starts, is_ready, is_waiting_by}
use Rattle.host_rounds.specs.Hosts.{is_running}
use Rattle.host_rounds.proofs.AllLegal.{each_push}
use Rattle.scenario_text.specs.declared.scenario.Step.{Step}
use Rattle.scenario_runs.specs.Applications.{Bound, AListener, ASocket, Turn, bound_in, flow_of, is_concerned}
use Rattle.scenario_runs.specs.Applications.{aborted_where}
use Rattle.scenario_laws.proofs.Acts.{Act, Rests, Calls, Accepts, Connects, GivesUp, Notes, Listens, leaves, MayAct}
use Rattle.scenario_laws.proofs.Acts.{Names, IsNamed, MayName}
use Rattle.scenario_laws.specs.Names.{holder_by, holder_at, IsHeld, AreTwo, AreApart, AreOwn}
use Rattle.scenario_laws.proofs.Deeds.{Worked, OfEachFlow}

-- ----- who has which socket
pub not_waiting : (n : ℕ) → Waiting ≡ Application n → ⊥
not_waiting n h = absurd (cc (h))

pub not_given : (n : ℕ) → GivenUp ≡ Application n → ⊥
not_given n h = absurd (cc (h))

-- the same flows have the same holders
pub same_holders : (t : ℕ) (ls ms : List Live) → OfEachFlow (Worked t) ls ms → (k : ℕ) → holder_at ms k ≡ holder_at ls k
same_holders t [] [] all k = refl
same_holders t [] (m ∷ ms) all k = absurd all
same_holders t (l ∷ ls) [] all k = absurd all
same_holders t (l ∷ ls) (m ∷ ms) all zero = all.0.holder
same_holders t (l ∷ ls) (m ∷ ms) all (suc k) = same_holders t ls ms all.1 k

at_same : (i : ℕ) (f : Live → Live) → ((l : Live) → (f l).holder ≡ l.holder) → (ls : List Live) (k : ℕ)
    → holder_at (change_at i f ls) k ≡ holder_at ls k
at_same i f same [] k = refl
at_same zero f same (l ∷ ls) zero = same l
at_same zero f same (l ∷ ls) (suc k) = refl
at_same (suc i) f same (l ∷ ls) zero = refl
at_same (suc i) f same (l ∷ ls) (suc k) = at_same i f same ls k

at_other : (i : ℕ) (f : Live → Live) (ls : List Live) (k : ℕ) → (i ≡ k → ⊥)
    → holder_at (change_at i f ls) k ≡ holder_at ls k
at_other i f [] k other = refl
at_other zero f (l ∷ ls) zero other = absurd (other refl)
at_other zero f (l ∷ ls) (suc k) other = refl
at_other (suc i) f (l ∷ ls) zero other = refl
at_other (suc i) f (l ∷ ls) (suc k) other = at_other i f ls k (λ h. other (ap suc h))

at_set : (k : ℕ) (holder : Holder) (ls : List Live) → k < length ls
    → holder_at (change_at k (λ (l : Live). record l { holder = holder }) ls) k ≡ holder
at_set k holder [] h = absurd (omega arith)
at_set zero holder (l ∷ ls) h = refl
at_set (suc k) holder (l ∷ ls) h = at_set k holder ls (omega arith)

length_at : (k : ℕ) (f : Live → Live) (ls : List Live) → length (change_at k f ls) ≡ length ls
length_at k f [] = refl
length_at zero f (l ∷ ls) = refl
length_at (suc k) f (l ∷ ls) = ap suc (length_at k f ls)

pub push_held : (ls : List Live) (l : Live) (n k : ℕ) → holder_at ls k ≡ Application n
    → holder_at (ls ++ l ∷ []) k ≡ Application n
push_held [] l n k h = absurd (not_waiting n h)
push_held (m ∷ ls) l n zero h = h
push_held (m ∷ ls) l n (suc k) h = push_held ls l n k h

push_new : (ls : List Live) (l : Live) → holder_at (ls ++ l ∷ []) (length ls) ≡ l.holder
push_new [] l = refl
push_new (m ∷ ls) l = push_new ls l

past_end : (ls : List Live) → holder_at ls (length ls) ≡ Waiting
past_end [] = refl
past_end (l ∷ ls) = past_end ls

-- ----- names
-- all that the other list leaves to the application
pub each_held : (ls ms : List Live) (n : ℕ) (names : Names)
    → ((k : ℕ) → holder_at ls k ≡ Application n → holder_at ms k ≡ Application n)
    → Each (λ (b : List ℕ × Bound). IsHeld ls n b.1) names → Each (λ (b : List ℕ × Bound). IsHeld ms n b.1) names
each_held ls ms n [] keeps each = tt
each_held ls ms n (b ∷ bs) keeps each = (one b.1 each.0, each_held ls ms n bs keeps each.1) where
  one : (c : Bound) → IsHeld ls n c → IsHeld ms n c
  one (AListener port) h = tt
  one (ASocket k) h = keeps k h

pub own_still : (ls ms : List Live) (n : ℕ) (names : Names)
    → ((k : ℕ) → holder_at ls k ≡ Application n → holder_at ms k ≡ Application n) → AreOwn ls n names
    → AreOwn ms n names
own_still ls ms n names keeps own = record { held = each_held ls ms n names keeps own.held; apart = own.apart }

-- what holds of each bound holds of one that is found
found_bound : (P : Bound → Type 0) (names : Names) (name : List ℕ) (k : ℕ)
    → Each (λ (b : List ℕ × Bound). P b.1) names → flow_of (bound_in names name) ≡ Some k → P (ASocket k)
found_bound P [] name k each found = absurd (cc (found))
found_bound P (b ∷ bs) name k each found =
    by_name (bytes_eq b.0 name) found (λ later. found_bound P bs name k each.1 later)
  where
    of_bound : (c : Bound) → P c → flow_of (Some c) ≡ Some k → P (ASocket k)
    of_bound (AListener port) p h = absurd (cc (h))
    of_bound (ASocket j) p h = let same : j ≡ k = cc (h) in subst (λ (i : ℕ). P (ASocket i)) same p

    by_name : (c : Bool) → flow_of (elim c [ true ↦ Some b.1 | false ↦ bound_in bs name ]) ≡ Some k
        → (flow_of (bound_in bs name) ≡ Some k → P (ASocket k)) → P (ASocket k)
    by_name true h rest = of_bound b.1 each.0 h
    by_name false h rest = rest h

pub named_held : (ls : List Live) (n : ℕ) (names : Names) (k : ℕ) → AreOwn ls n names → IsNamed names k
    → holder_at ls k ≡ Application n
named_held ls n names k own named = found_bound (IsHeld ls n) names named.0 k own.held named.1

-- ----- a name comes
two_apart : (ls : List Live) (n k : ℕ) (c : Bound) → holder_at ls k ≡ Waiting → IsHeld ls n c → AreTwo c (ASocket k)
two_apart ls n k (AListener port) free held = tt
two_apart ls n k (ASocket j) free held =
    λ same. not_waiting n (sym free ∙ ap (holder_at ls) (sym same) ∙ held)

apart_push : (ls : List Live) (n k : ℕ) (name : List ℕ) (names : Names) → holder_at ls k ≡ Waiting
    → Each (λ (b : List ℕ × Bound). IsHeld ls n b.1) names → AreApart names
    → AreApart (names ++ (name, ASocket k) ∷ [])
apart_push ls n k name [] free held apart = (tt, tt)
apart_push ls n k name (b ∷ bs) free held apart = (
  each_push (λ (c : List ℕ × Bound). AreTwo b.1 c.1) bs _ apart.0 (two_apart ls n k b.1 free held.0),
  apart_push ls n k name bs free held.1 apart.1,
)

socket_comes : (ls ms : List Live) (n k : ℕ) (name : List ℕ) (names : Names) → holder_at ls k ≡ Waiting
    → ((j : ℕ) → holder_at ls j ≡ Application n → holder_at ms j ≡ Application n) → holder_at ms k ≡ Application n
    → AreOwn ls n names → AreOwn ms n (names ++ (name, ASocket k) ∷ [])
socket_comes ls ms n k name names free keeps now own = record {
  held = each_push (λ (b : List ℕ × Bound). IsHeld ms n b.1) names _ (each_held ls ms n names keeps own.held) now;
  apart = apart_push ls n k name names free own.held own.apart;
}

listener_two : (c : Bound) (port : ℕ) → AreTwo c (AListener port)
listener_two (AListener other) port = tt
listener_two (ASocket k) port = tt

listener_apart : (port : ℕ) (name : List ℕ) (names : Names) → AreApart names
    → AreApart (names ++ (name, AListener port) ∷ [])
listener_apart port name [] apart = (tt, tt)
listener_apart port name (b ∷ bs) apart = (
  each_push (λ (c : List ℕ × Bound). AreTwo b.1 c.1) bs _ apart.0 (listener_two b.1 port),
  listener_apart port name bs apart.1,
)

-- ----- a name goes
pub each_filter : {X : Type 0} (P : X → Type 0) (test : X → Bool) (xs : List X) → Each P xs → Each P (filter test xs)
each_filter P test [] each = tt
each_filter {X} P test (x ∷ xs) each = by_test (test x) (each_filter P test xs each.1) where
  by_test : (b : Bool) → Each P (filter test xs) → Each P (if b then x ∷ filter test xs else filter test xs)
  by_test true rest = (each.0, rest)
  by_test false rest = rest

apart_filter : (test : List ℕ × Bound → Bool) (names : Names) → AreApart names → AreApart (filter test names)
apart_filter test [] apart = tt
apart_filter test (b ∷ bs) apart = by_test (test b) (apart_filter test bs apart.1) where
  by_test : (c : Bool) → AreApart (filter test bs) → AreApart (if c then b ∷ filter test bs else filter test bs)
  by_test true rest = (each_filter (λ (c : List ℕ × Bound). AreTwo b.1 c.1) test bs apart.0, rest)
  by_test false rest = rest

abbrev IsOther : (flow : ℕ) → Bound → Type 0
IsOther k c = AreTwo (ASocket k) c

two_turned : (c : Bound) (k : ℕ) → AreTwo c (ASocket k) → IsOther k c
two_turned (AListener port) k h = tt
two_turned (ASocket j) k h = λ same. h (sym same)

each_other : (b : Bound) (k : ℕ) (names : Names) → flow_of (Some b) ≡ Some k
    → Each (λ (c : List ℕ × Bound). AreTwo b c.1) names → Each (λ (c : List ℕ × Bound). IsOther k c.1) names
each_other (AListener port) k names h each = absurd (cc (h))
each_other (ASocket j) k names h each =
    let same : j ≡ k = cc (h) in
    subst (λ (i : ℕ). Each (λ (c : List ℕ × Bound). AreTwo (ASocket i) c.1) names) same each

-- no other name stands for the socket of the name that goes
all_other : (names : Names) (name : List ℕ) (k : ℕ) → AreApart names → flow_of (bound_in names name) ≡ Some k
    → Each (λ (c : List ℕ × Bound). IsOther k c.1)
    (filter (λ (b : List ℕ × Bound). not (bytes_eq b.0 name)) names)
all_other [] name k apart found = tt
all_other (b ∷ bs) name k apart found =
    by_name (bytes_eq b.0 name) found (λ later. all_other bs name k apart.1 later)
  where
    rest_of : Names
    rest_of = filter (λ (b : List ℕ × Bound). not (bytes_eq b.0 name)) bs

    by_name : (c : Bool) → flow_of (elim c [ true ↦ Some b.1 | false ↦ bound_in bs name ]) ≡ Some k
        → (flow_of (bound_in bs name) ≡ Some k → Each (λ (c : List ℕ × Bound). IsOther k c.1) rest_of)
        → Each (λ (c : List ℕ × Bound). IsOther k c.1) (if not c then b ∷ rest_of else rest_of)
    by_name true h rest =
        each_filter (λ (c : List ℕ × Bound). IsOther k c.1) _ bs (each_other b.1 k bs h apart.0)
    by_name false h rest =
        (two_turned b.1 k (found_bound (AreTwo b.1) bs name k apart.0 h), rest h)

held_other : (ls ms : List Live) (n k : ℕ) (names : Names)
    → ((j : ℕ) → (k ≡ j → ⊥) → holder_at ms j ≡ holder_at ls j)
    → Each (λ (c : List ℕ × Bound). IsOther k c.1) names → Each (λ (b : List ℕ × Bound). IsHeld ls n b.1) names
    → Each (λ (b : List ℕ × Bound). IsHeld ms n b.1) names
held_other ls ms n k [] same other held = tt
held_other ls ms n k (b ∷ bs) same other held =
    (one b.1 other.0 held.0, held_other ls ms n k bs same other.1 held.1)
  where
    one : (c : Bound) → IsOther k c → IsHeld ls n c → IsHeld ms n c
    one (AListener port) o h = tt
    one (ASocket j) o h = same j o ∙ h

socket_goes : (ls ms : List Live) (n k : ℕ) (name : List ℕ) (names : Names)
    → ((j : ℕ) → (k ≡ j → ⊥) → holder_at ms j ≡ holder_at ls j) → flow_of (bound_in names name) ≡ Some k
    → AreOwn ls n names → AreOwn ms n (filter (λ (b : List ℕ × Bound). not (bytes_eq b.0 name)) names)
socket_goes ls ms n k name names same found own = record {
  held = held_other ls ms n k _ same (all_other names name k own.apart found)
      (each_filter (λ (b : List ℕ × Bound). IsHeld ls n b.1) _ names own.held);
  apart = apart_filter _ names own.apart;
}

-- ----- acts
pub ready_waits : (port : ℕ) (l : Live) → is_ready port l ≡ true → l.holder ≡ Waiting
ready_waits port l ready = by_holder l.holder (l.flow.tuple.lport == port) (is_running l) ready where
  by_holder : (holder : Holder) (a c : Bool) → (a && is_waiting_by holder && c) ≡ true → holder ≡ Waiting
  by_holder Waiting a c h = refl
  by_holder (Application app) true c h = absurd (true≢false (sym h))
  by_holder (Application app) false c h = absurd (true≢false (sym h))
  by_holder GivenUp true c h = absurd (true≢false (sym h))
  by_holder GivenUp false c h = absurd (true≢false (sym h))

ready_holder : (port : ℕ) (ls : List Live) (k : ℕ) → position (is_ready port) ls ≡ Some k → (o : Option Live)
    → slice_get ls k ≡ o → holder_by o ≡ Waiting
ready_holder port ls k at None here = refl
ready_holder port ls k at (Some l) here = ready_waits port l
    (subst (λ (m : Live). is_ready port m ≡ true) (get_or_from_slice_get ls k l l here)
    (position-Some (is_ready port) ls k l at).1)

ready_inside : (port : ℕ) (ls : List Live) (k : ℕ) → position (is_ready port) ls ≡ Some k → k < length ls
ready_inside port [] k at = absurd (cc (at))
ready_inside port (l ∷ ls) k at = (position-Some (is_ready port) (l ∷ ls) k l at).0

-- a call, after which the socket changes hands
passed_other : (i : ℕ) (f : Live → Live) (holder : Holder) (ls : List Live) (k : ℕ) → (i ≡ k → ⊥)
    → holder_at (change_at i (λ (l : Live). record l { holder = holder }) (change_at i f ls)) k ≡ holder_at ls k
passed_other i f holder ls k other =
    at_other i (λ (l : Live). record l { holder = holder }) (change_at i f ls) k other ∙ at_other i f ls k other

passed_set : (k : ℕ) (f : Live → Live) (holder : Holder) (ls : List Live) → k < length ls
    → holder_at (change_at k (λ (l : Live). record l { holder = holder }) (change_at k f ls)) k ≡ holder
passed_set k f holder ls h =
    at_set k holder (change_at k f ls) (subst (λ (n : ℕ). k < n) (sym (length_at k f ls)) h)

same_number : (m n : ℕ) → Application m ≡ Application n → m ≡ n
same_number m n h = cc (h)

-- The act of one application leaves the others their sockets,
pub others_still : (starts : Starts) (t n : ℕ) (step : Step) (x : Turn) (act : Act) (after : Names)
    → x.script.number ≡ n → MayAct step x.host act → MayName x act after → AreOwn x.host.flows n x.script.names
    → (m : ℕ) → (m ≡ n → ⊥) → (k : ℕ) → holder_at x.host.flows k ≡ Application m
    → holder_at (leaves starts t n x.host act).flows k ≡ Application m
others_still starts t n step x Rests after mine may named own m other k h = h
others_still starts t n step x (Calls i call offer) after mine may named own m other k h =
    at_same i _ (λ l. refl) x.host.flows k ∙ h
others_still starts t n step x (Accepts i) after mine may named own m other k h =
    passed_other i _ _ x.host.flows k (λ same. not_waiting m
    (sym (ready_holder may.0 x.host.flows i may.1 _ refl) ∙ ap (holder_at x.host.flows) same ∙ h)) ∙ h
others_still starts t n step x (Connects slot tuple) after mine may named own m other k h =
    push_held x.host.flows _ m k h
others_still starts t n step x (GivesUp i call) after mine may named own m other k h =
    passed_other i _ _ x.host.flows k (λ same. other (same_number m n
    (sym h ∙ ap (holder_at x.host.flows) (sym same)
    ∙ named_held x.host.flows n x.script.names i own (named.0, named.1)))) ∙ h
others_still starts t n step x (Notes event) after mine may named own m other k h = h
others_still starts t n step x (Listens port) after mine may named own m other k h = h

-- and its names stand for its own.
pub own_after : (starts : Starts) (t n : ℕ) (step : Step) (x : Turn) (act : Act) (after : Names)
    → MayAct step x.host act → MayName x act after → AreOwn x.host.flows n x.script.names
    → AreOwn (leaves starts t n x.host act).flows n after
own_after starts t n step x Rests after may named own = subst (AreOwn x.host.flows n) (sym named) own
own_after starts t n step x (Calls i call offer) after may named own =
    subst (AreOwn (leaves starts t n x.host (Calls i call offer)).flows n) (sym named.0)
    (own_still x.host.flows _ n x.script.names (λ k h. at_same i _ (λ l. refl) x.host.flows k ∙ h) own)
own_after starts t n step x (Accepts i) after may named own =
    let free : holder_at x.host.flows i ≡ Waiting = ready_holder may.0 x.host.flows i may.1 _ refl in
    subst (AreOwn (leaves starts t n x.host (Accepts i)).flows n) (sym named.1)
    (socket_comes x.host.flows _ n i named.0 x.script.names free
    (λ k h. passed_other i _ _ x.host.flows k (λ same. not_waiting n
    (sym free ∙ ap (holder_at x.host.flows) same ∙ h)) ∙ h)
    (passed_set i _ (Application n) x.host.flows (ready_inside may.0 x.host.flows i may.1)) own)
own_after starts t n step x (Connects slot tuple) after may named own =
    subst (AreOwn (leaves starts t n x.host (Connects slot tuple)).flows n) (sym named.1)
    (socket_comes x.host.flows _ n (length x.host.flows) named.0 x.script.names (past_end x.host.flows)
    (λ k h. push_held x.host.flows _ n k h) (push_new x.host.flows _) own)
own_after starts t n step x (GivesUp i call) after may named own =
    subst (AreOwn (leaves starts t n x.host (GivesUp i call)).flows n) (sym named.2)
    (socket_goes x.host.flows _ n i named.0 x.script.names (λ j other. passed_other i _ _ x.host.flows j other) named.1
    own)
own_after starts t n step x (Notes event) after may named own = subst (AreOwn x.host.flows n) (sym named) own
own_after starts t n step x (Listens port) after may named own =
    subst (AreOwn x.host.flows n) (sym named.1) (record {
      held = each_push (λ (b : List ℕ × Bound). IsHeld x.host.flows n b.1) x.script.names _ own.held tt;
      apart = listener_apart port named.0 x.script.names own.apart;
    })

-- the flow of a call that is not by Accept is the application's
abbrev pub IsOwned : Host → (number : ℕ) → Act → Type 0
IsOwned host n (Calls k call offer) = holder_at host.flows k ≡ Application n
IsOwned host n (GivesUp k call) = holder_at host.flows k ≡ Application n
IsOwned host n _ = Unit {0}

pub act_owned : (n : ℕ) (x : Turn) (act : Act) (after : Names) → MayName x act after
    → AreOwn x.host.flows n x.script.names → IsOwned x.host n act
act_owned n x Rests after named own = tt
act_owned n x (Calls k call offer) after named own = named_held x.host.flows n x.script.names k own named.1
act_owned n x (Accepts k) after named own = tt
act_owned n x (Connects slot tuple) after named own = tt
act_owned n x (GivesUp k call) after named own =
    named_held x.host.flows n x.script.names k own (named.0, named.1)
act_owned n x (Notes event) after named own = tt
act_owned n x (Listens port) after named own = tt

-- ----- a kill
other_number : (m n : ℕ) → (m ≡ n → ⊥) → (m == n) ≡ false
other_number m n other = grind (arith, tests, other)

not_its : (n m t : ℕ) (host : Host) (l : Live) → (m ≡ n → ⊥) → l.holder ≡ Application m
    → (aborted_where (is_concerned n host l) t l).holder ≡ Application m
not_its n m t host l other h =
    let apart : is_concerned n host l ≡ false =
    ap (λ (holder : Holder). is_concerned n host (record l { holder = holder })) h ∙ other_number m n other in
    subst (λ (b : Bool). (aborted_where b t l).holder ≡ Application m) (sym apart) h

pub kill_leaves : (n t : ℕ) (host : Host) (ls : List Live) (m : ℕ) → (m ≡ n → ⊥) → (k : ℕ)
    → holder_at ls k ≡ Application m
    → holder_at (map (λ (l : Live). aborted_where (is_concerned n host l) t l) ls) k ≡ Application m
kill_leaves n t host [] m other k h = h
kill_leaves n t host (l ∷ ls) m other zero h = not_its n m t host l other h
kill_leaves n t host (l ∷ ls) m other (suc k) h = kill_leaves n t host ls m other k h
