-- The connects of a host get its ports in order, where nobody listens on one of them.
use Rattle.std.proofs.Common.{◌≡◌, ℕ, zero, suc, ◌+◌, ◌^◌, ◌≤◌, ◌<◌, Bool, true, false, cond, List, []}
use Rattle.std.proofs.Common.{◌∷◌, ◌++◌, length, map, fold, count_by, nat_lt, nat_le}
use Rattle.std.proofs.Common.{refl, sym, subst, ap, ◌∙◌, true≢false, arith, tests}
use Rattle.tas_model.specs.declared.entry.FourTuple.{FourTuple}
use Rattle.tas_model.specs.declared.entry.Entry.{Entry}
use Rattle.tas_model.specs.declared.entry.Caller.{Caller}
use Rattle.tas_model.specs.declared.entry.Call.{Call}
use Rattle.tas_model.specs.declared.entry.Call.TheVariants as calls
use Rattle.host_rounds.specs.Lists.{Each, change_at}
use Rattle.host_rounds.specs.Hosts.{Live, with_call, flows_of}
use Rattle.host_rounds.specs.Hosts.{first_port}
use Rattle.host_rounds.proofs.AllLegal.{each_push}
use Rattle.scenario_laws.specs.Ports.{is_connect, begins_by_connect, connect_ports, ports_from, all_ports}
use Rattle.scenario_laws.proofs.Deeds.{IsWorkerCall, IsWorkerEntry, Worked, OfEachFlow}

-- ----- how a flow began
pub record BegunAlike (l m : Live) : Type 0 where
  pub tuple : m.flow.tuple ≡ l.flow.tuple
  pub connect : begins_by_connect m.flow.entries ≡ begins_by_connect l.flow.entries

begins_push : (h : List Entry) (x : Entry) → is_connect x.call ≡ false
    → begins_by_connect (h ++ x ∷ []) ≡ begins_by_connect h
begins_push [] x plain = plain
begins_push (y ∷ h) x plain = refl

pub not_by_worker : (call : Call) → IsWorkerCall call → is_connect call ≡ false
not_by_worker (calls.Connect iss) kind = absurd kind
not_by_worker call kind = refl

begins_more : (h more : List Entry) → Each IsWorkerEntry more → begins_by_connect (h ++ more) ≡ begins_by_connect h
begins_more [] [] each = refl
begins_more [] (x ∷ more) each = not_by_worker x.call each.0.call
begins_more (y ∷ h) more each = refl

pub worked_alike : (t : ℕ) (l m : Live) → Worked t l m → BegunAlike l m
worked_alike t l m worked = record {
  tuple = worked.tuple;
  connect = ap begins_by_connect worked.entries ∙ begins_more l.flow.entries worked.more worked.each;
}

pub called_alike : (l : Live) (by : Caller) (t : ℕ) (call : Call) (offer : List ℕ) → is_connect call ≡ false
    → BegunAlike l (with_call l by t call offer)
called_alike l by t call offer plain = record { tuple = refl; connect = begins_push l.flow.entries _ plain }

pub alike : (l : Live) → BegunAlike l l
alike l = record { tuple = refl; connect = refl }

abbrev pub AllAlike : (before after : List Live) → Type 0
AllAlike ls ms = OfEachFlow BegunAlike ls ms

pub all_alike : (ls : List Live) → AllAlike ls ls
all_alike [] = tt
all_alike (l ∷ ls) = (alike l, all_alike ls)

pub all_worked_alike : (t : ℕ) (ls ms : List Live) → OfEachFlow (Worked t) ls ms → AllAlike ls ms
all_worked_alike t [] [] all = tt
all_worked_alike t [] (m ∷ ms) all = absurd all
all_worked_alike t (l ∷ ls) [] all = absurd all
all_worked_alike t (l ∷ ls) (m ∷ ms) all = (worked_alike t l m all.0, all_worked_alike t ls ms all.1)

pub at_alike : (k : ℕ) (f : Live → Live) → ((l : Live) → BegunAlike l (f l)) → (ls : List Live)
    → AllAlike ls (change_at k f ls)
at_alike k f each [] = tt
at_alike zero f each (l ∷ ls) = (each l, all_alike ls)
at_alike (suc k) f each (l ∷ ls) = (alike l, at_alike k f each ls)

pub map_alike : (f : Live → Live) → ((l : Live) → BegunAlike l (f l)) → (ls : List Live) → AllAlike ls (map f ls)
map_alike f each [] = tt
map_alike f each (l ∷ ls) = (each l, map_alike f each ls)

-- ----- the ports of flows
abbrev pub ports_of : List Live → List ℕ
ports_of ls = connect_ports (flows_of ls)

abbrev pub is_given : Live → Bool
is_given l = nat_le first_port l.flow.tuple.lport

-- a flow that was opened for a SYN is at a port below those of connects
abbrev pub IsAtListener : Live → Type 0
IsAtListener l = begins_by_connect l.flow.entries ≡ false → l.flow.tuple.lport < first_port

pub record FlowsRight (ls : List Live) : Type 0 where
  pub ports : ports_of ls ≡ ports_from first_port (length (ports_of ls))
  pub most : length (ports_of ls) ≤ all_ports
  pub given : count_by is_given ls ≡ length (ports_of ls)
  pub low : Each IsAtListener ls

pub ports_alike : (ls ms : List Live) → AllAlike ls ms → ports_of ms ≡ ports_of ls
ports_alike [] [] all = refl
ports_alike [] (m ∷ ms) all = absurd all
ports_alike (l ∷ ls) [] all = absurd all
ports_alike (l ∷ ls) (m ∷ ms) all = by_alike l.flow.tuple.lport (begins_by_connect l.flow.entries)
    (ap (λ (tuple : FourTuple). tuple.lport) all.0.tuple) all.0.connect (ports_alike ls ms all.1)
  where
    by_alike : (port : ℕ) (b : Bool) → m.flow.tuple.lport ≡ port → begins_by_connect m.flow.entries ≡ b
        → ports_of ms ≡ ports_of ls
        → ports_of (m ∷ ms) ≡ elim b [ true ↦ port ∷ ports_of ls | false ↦ ports_of ls ]
    by_alike port true same begins rest =
        ap (λ (c : Bool). elim c [ true ↦ m.flow.tuple.lport ∷ ports_of ms | false ↦ ports_of ms ]) begins
        ∙ ap (λ (n : ℕ). n ∷ ports_of ms) same ∙ ap (λ (ns : List ℕ). port ∷ ns) rest
    by_alike port false same begins rest =
        ap (λ (c : Bool). elim c [ true ↦ m.flow.tuple.lport ∷ ports_of ms | false ↦ ports_of ms ]) begins ∙ rest

count_alike : (n : ℕ) (ls ms : List Live) → AllAlike ls ms
    → fold (λ (k : ℕ) (l : Live). k + cond (is_given l) 1 0) n ms
    ≡ fold (λ (k : ℕ) (l : Live). k + cond (is_given l) 1 0) n ls
count_alike n [] [] all = refl
count_alike n [] (m ∷ ms) all = absurd all
count_alike n (l ∷ ls) [] all = absurd all
count_alike n (l ∷ ls) (m ∷ ms) all =
    ap (λ (tuple : FourTuple). fold (λ (k : ℕ) (l : Live). k + cond (is_given l) 1 0)
    (n + cond (nat_le first_port tuple.lport) 1 0) ms) all.0.tuple
    ∙ count_alike (n + cond (is_given l) 1 0) ls ms all.1

low_alike : (ls ms : List Live) → AllAlike ls ms → Each IsAtListener ls → Each IsAtListener ms
low_alike [] [] all low = tt
low_alike [] (m ∷ ms) all low = absurd all
low_alike (l ∷ ls) [] all low = absurd all
low_alike (l ∷ ls) (m ∷ ms) all low = (
  λ h. subst (λ (tuple : FourTuple). tuple.lport < first_port) (sym all.0.tuple) (low.0 (sym all.0.connect ∙ h)),
  low_alike ls ms all.1 low.1,
)

pub right_alike : (ls ms : List Live) → AllAlike ls ms → FlowsRight ls → FlowsRight ms
right_alike ls ms all right =
    let same : ports_of ms ≡ ports_of ls = ports_alike ls ms all in
    record {
      ports = subst (λ (ns : List ℕ). ns ≡ ports_from first_port (length ns)) (sym same) right.ports;
      most = subst (λ (ns : List ℕ). length ns ≤ all_ports) (sym same) right.most;
      given =
          subst (λ (ns : List ℕ). count_by is_given ms ≡ length ns) (sym same)
          (count_alike 0 ls ms all ∙ right.given);
      low = low_alike ls ms all right.low;
    }

-- ----- one flow more
count_push : (n : ℕ) (ls : List Live) (l : Live)
    → fold (λ (k : ℕ) (l : Live). k + cond (is_given l) 1 0) n (ls ++ l ∷ [])
    ≡ fold (λ (k : ℕ) (l : Live). k + cond (is_given l) 1 0) n ls + cond (is_given l) 1 0
count_push n [] l = refl
count_push n (m ∷ ls) l = count_push (n + cond (is_given m) 1 0) ls l

abbrev one_port : (connect : Bool) → (port : ℕ) → List ℕ
one_port true port = port ∷ []
one_port false port = []

ports_push : (ls : List Live) (l : Live)
    → ports_of (ls ++ l ∷ []) ≡ ports_of ls ++ one_port (begins_by_connect l.flow.entries) l.flow.tuple.lport
ports_push [] l = by_connect (begins_by_connect l.flow.entries) where
  by_connect : (b : Bool) → elim b [ true ↦ l.flow.tuple.lport ∷ [] | false ↦ [] ] ≡ one_port b l.flow.tuple.lport
  by_connect true = refl
  by_connect false = refl
ports_push (m ∷ ls) l = by_connect (begins_by_connect m.flow.entries) (ports_push ls l) where
  more : List ℕ
  more = one_port (begins_by_connect l.flow.entries) l.flow.tuple.lport

  by_connect : (b : Bool) → ports_of (ls ++ l ∷ []) ≡ ports_of ls ++ more
      → elim b [ true ↦ m.flow.tuple.lport ∷ ports_of (ls ++ l ∷ []) | false ↦ ports_of (ls ++ l ∷ []) ]
      ≡ elim b [ true ↦ m.flow.tuple.lport ∷ ports_of ls | false ↦ ports_of ls ] ++ more
  by_connect true rest = ap (λ (ns : List ℕ). m.flow.tuple.lport ∷ ns) rest
  by_connect false rest = rest

from_push : (port n : ℕ) → ports_from port n ++ (port + n) ∷ [] ≡ ports_from port (suc n)
from_push port zero = let same : port + zero ≡ port = omega arith in ap (λ (k : ℕ). k ∷ []) same
from_push port (suc n) =
    let same : port + suc n ≡ port + 1 + n = omega arith in
    ap (λ (k : ℕ). port ∷ (ports_from (port + 1) n ++ k ∷ [])) same
    ∙ ap (λ (ns : List ℕ). port ∷ ns) (from_push (port + 1) n)

length_push : (ns : List ℕ) (n : ℕ) → length (ns ++ n ∷ []) ≡ length ns + 1
length_push [] n = refl
length_push (m ∷ ns) n = let rest : length (ns ++ n ∷ []) ≡ length ns + 1 = length_push ns n in omega arith

no_more : (ns : List ℕ) → ns ++ [] ≡ ns
no_more [] = refl
no_more (n ∷ ns) = ap (λ (ms : List ℕ). n ∷ ms) (no_more ns)

pub connect_right : (ls : List Live) (l : Live) → FlowsRight ls → begins_by_connect l.flow.entries ≡ true
    → l.flow.tuple.lport ≡ first_port + count_by is_given ls
    → nat_lt (first_port + count_by is_given ls) (2 ^ 16) ≡ true → FlowsRight (ls ++ l ∷ [])
connect_right ls l right connect port left =
    let n : ℕ = length (ports_of ls) in
    let given : count_by is_given ls ≡ n = right.given in
    let ports : ports_of (ls ++ l ∷ []) ≡ ports_of ls ++ l.flow.tuple.lport ∷ [] =
    ports_push ls l ∙ ap (λ (b : Bool). ports_of ls ++ one_port b l.flow.tuple.lport) connect in
    let one_longer : length (ports_of ls ++ l.flow.tuple.lport ∷ []) ≡ n + 1 =
    length_push (ports_of ls) l.flow.tuple.lport in
    let longer : length (ports_of (ls ++ l ∷ [])) ≡ length (ports_of ls ++ l.flow.tuple.lport ∷ []) =
    ap (λ (ns : List ℕ). length ns) ports in
    let long : length (ports_of (ls ++ l ∷ [])) ≡ suc n = omega arith in
    let here : l.flow.tuple.lport ≡ first_port + n = omega arith in
    let below : first_port + n < 65536 = grind (arith, tests, left, given) in
    let counted : is_given l ≡ true = grind (arith, tests, here) in
    let one : cond {A = ℕ} (is_given l) 1 0 ≡ 1 = ap (λ (b : Bool). cond b 1 0) counted in
    let count : count_by is_given (ls ++ l ∷ []) ≡ count_by is_given ls + cond (is_given l) 1 0 = count_push 0 ls l in
    record {
      ports =
          ports
          ∙ ap (λ (k : ℕ). ports_of ls ++ k ∷ []) here
          ∙ ap (λ (ns : List ℕ). ns ++ (first_port + n) ∷ []) right.ports
          ∙ from_push first_port n
          ∙ ap (ports_from first_port) (sym long);
      most = omega arith;
      given = omega arith;
      low = each_push IsAtListener ls l right.low (λ h. absurd (true≢false (sym connect ∙ h)));
    }

pub syn_right : (ls : List Live) (l : Live) → FlowsRight ls → begins_by_connect l.flow.entries ≡ false
    → l.flow.tuple.lport < first_port → FlowsRight (ls ++ l ∷ [])
syn_right ls l right passive below =
    let ports : ports_of (ls ++ l ∷ []) ≡ ports_of ls =
    ports_push ls l ∙ ap (λ (b : Bool). ports_of ls ++ one_port b l.flow.tuple.lport) passive ∙ no_more (ports_of ls) in
    let counted : is_given l ≡ false = grind (arith, tests, below) in
    let none : cond {A = ℕ} (is_given l) 1 0 ≡ 0 = ap (λ (b : Bool). cond b 1 0) counted in
    let count : count_by is_given (ls ++ l ∷ []) ≡ count_by is_given ls + cond (is_given l) 1 0 = count_push 0 ls l in
    let given : count_by is_given ls ≡ length (ports_of ls) = right.given in
    let now : count_by is_given (ls ++ l ∷ []) ≡ length (ports_of ls) = omega arith in
    record {
      ports = subst (λ (ns : List ℕ). ns ≡ ports_from first_port (length ns)) (sym ports) right.ports;
      most = subst (λ (ns : List ℕ). length ns ≤ all_ports) (sym ports) right.most;
      given = subst (λ (ns : List ℕ). count_by is_given (ls ++ l ∷ []) ≡ length ns) (sym ports) now;
      low = each_push IsAtListener ls l right.low (λ h. below);
    }

pub ports_grow : (ls : List Live) (l : Live) → length (ports_of ls) ≤ length (ports_of (ls ++ l ∷ []))
ports_grow ls l =
    subst (λ (ns : List ℕ). length (ports_of ls) ≤ length ns) (sym (ports_push ls l))
    (by_connect (begins_by_connect l.flow.entries))
  where
    by_connect : (b : Bool) → length (ports_of ls) ≤ length (ports_of ls ++ one_port b l.flow.tuple.lport)
    by_connect true =
        let longer : length (ports_of ls ++ l.flow.tuple.lport ∷ []) ≡ length (ports_of ls) + 1 =
        length_push (ports_of ls) l.flow.tuple.lport in
        omega arith
    by_connect false =
        let same : length (ports_of ls ++ []) ≡ length (ports_of ls) =
        ap (λ (ns : List ℕ). length ns) (no_more (ports_of ls)) in
        omega arith
