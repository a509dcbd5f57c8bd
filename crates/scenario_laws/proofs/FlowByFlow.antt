-- What each deed of a tick keeps of a flow, a tick keeps of a host's flows, kills and sockets that change hands among
-- the deeds.
use Rattle.std.proofs.Common.{◌≡◌, ℕ, zero, suc, ◌+◌, ◌≤◌, ◌<◌, ◌==◌, Bool, true, false, List, [], ◌∷◌, ◌++◌, map}
use Rattle.std.proofs.Common.{position}
use Rattle.std.proofs.Common.{slice_get, Option, Some, None, IfSome, refl, sym, subst, ◌∙◌, true≢false, arith, tests}
use Rattle.std.proofs.lemmas.List.Quantifiers.{position-Some}
use Rattle.std.proofs.lemmas.Option.{get_or_from_slice_get}
use Rattle.tas_model.specs.declared.entry.HostParams.{HostParams}
use Rattle.tas_model.specs.declared.entry.Entry.{Entry}
use Rattle.tas_model.specs.declared.entry.Caller.TheVariants.{App}
use Rattle.tas_model.specs.declared.entry.Call.{Call}
use Rattle.tas_model.specs.declared.entry.Call.TheVariants as calls
use Rattle.host_rounds.specs.Lists.{Each, change_at, change_first}
use Rattle.host_rounds.specs.Hosts.{Live, Host, Waiting, Application, GivenUp, Starts, with_call, is_ready}
use Rattle.host_rounds.proofs.AllLegal.{each_first}
use Rattle.host_rounds.proofs.Rows.{change_twice}
use Rattle.scenario_text.specs.declared.scenario.Step.{Step}
use Rattle.scenario_text.specs.declared.scenario.Scenario.{Scenario}
use Rattle.scenario_runs.specs.Applications.{Script, Turn, is_concerned, aborted_where, is_killed_at, goes_on}
use Rattle.scenario_runs.specs.Applications.{turn_where, step_of}
use Rattle.scenario_runs.specs.Worlds.{starts_of, address_in}
use Rattle.scenario_laws.specs.Kills.{is_abort_by_slow}
use Rattle.scenario_laws.specs.Sockets.{holder_after, MayEnter}
use Rattle.scenario_laws.specs.Turns.{turn_on, GoesOn}
use Rattle.scenario_laws.proofs.Goes.{turn_goes}
use Rattle.scenario_laws.proofs.Acts.{Act, Rests, Calls, Accepts, Connects, GivesUp, Notes, Listens, leaves}
use Rattle.scenario_laws.proofs.Acts.{Names}
use Rattle.scenario_laws.proofs.Acts.{IsPlainCall}
use Rattle.scenario_laws.proofs.Acts.{IsLastCall, MayAct, step_acts}
use Rattle.scenario_laws.proofs.Deeds.{At, Worked, OfEachFlow, Keeps}
use Rattle.scenario_laws.specs.Names.{holder_by, holder_at, AreOwn}
use Rattle.scenario_laws.proofs.Sockets.{own_still, same_holders, push_held, IsOwned}
use Rattle.scenario_laws.proofs.Sockets.{act_owned, others_still, own_after, kill_leaves}
use Rattle.scenario_laws.proofs.AllTurned.{NumbersRise}
use Rattle.scenario_laws.proofs.Deeds.{found_has}

-- a flow with its first entry alone, by which it was opened
pub record IsNew (t : ℕ) (l : Live) : Type 0 where
  pub first : Entry
  pub entries : l.flow.entries ≡ first ∷ []
  pub tick : first.tick ≡ t
  pub plain : is_abort_by_slow first.caller first.call ≡ false
  pub holder : l.holder ≡ holder_after Waiting first.caller first.call
  pub may : (s : Scenario) → MayEnter s Waiting first.tick first.caller first.call

-- Each deed keeps the fact of a flow; K says of an application and a tick that it is killed then.
pub record KeepsFlow (K : (number at : ℕ) → Type 0) (t : ℕ) (P : Live → Type 0) : Type 0 where
  pub worked : (l m : Live) → Worked t l m → P l → P m
  pub plain : (l : Live) (n : ℕ) (call : Call) (offer : List ℕ) → IsPlainCall call
      → l.holder ≡ Application n → P l
      → P (with_call l (App n) t call offer)
  pub accept : (l : Live) (n port : ℕ) → is_ready port l ≡ true → P l
      → P (record (with_call l (App n) t calls.Accept []) { holder = Application n })
  pub last : (l : Live) (n : ℕ) (call : Call) → IsLastCall call → l.holder ≡ Application n → P l
      → P (record (with_call l (App n) t call []) { holder = GivenUp })
  pub killed : (l : Live) (n : ℕ) (host : Host) → K n t → P l → P (aborted_where (is_concerned n host l) t l)

-- A fact of a list of flows that goes with the fact of a flow: each of them may change where that is kept, and a new
-- one may come.
pub record IsListed (t : ℕ) (P : Live → Type 0) (Q : List Live → Type 0) : Type 0 where
  pub each : (ls ms : List Live) → OfEachFlow (λ l m. P l → P m) ls ms → Q ls → Q ms
  pub push : (ls : List Live) (l : Live) → IsNew t l → Q ls → Q (ls ++ l ∷ [])

-- ----- lists
all_carry : (P : Live → Type 0) (ls : List Live) → OfEachFlow (λ l m. P l → P m) ls ls
all_carry P [] = tt
all_carry P (l ∷ ls) = (λ x. x, all_carry P ls)

worked_carry : (P : Live → Type 0) (t : ℕ) (ls ms : List Live) → ((l m : Live) → Worked t l m → P l → P m)
    → OfEachFlow (Worked t) ls ms → OfEachFlow (λ l m. P l → P m) ls ms
worked_carry P t [] [] keeps all = tt
worked_carry P t [] (m ∷ ms) keeps all = absurd all
worked_carry P t (l ∷ ls) [] keeps all = absurd all
worked_carry P t (l ∷ ls) (m ∷ ms) keeps all = (keeps l m all.0, worked_carry P t ls ms keeps all.1)

map_carry : (P : Live → Type 0) (f : Live → Live) → ((l : Live) → P l → P (f l)) → (ls : List Live)
    → OfEachFlow (λ l m. P l → P m) ls (map f ls)
map_carry P f keeps [] = tt
map_carry P f keeps (l ∷ ls) = (keeps l, map_carry P f keeps ls)

at_carry : (P : Live → Type 0) (k : ℕ) (f : Live → Live) (ls : List Live)
    → IfSome (slice_get ls k) (λ l. P l → P (f l)) → OfEachFlow (λ l m. P l → P m) ls (change_at k f ls)
at_carry P k f [] keeps = tt
at_carry P zero f (l ∷ ls) keeps = (keeps, all_carry P ls)
at_carry P (suc k) f (l ∷ ls) keeps = (λ x. x, at_carry P k f ls keeps)

of_own : (P : Live → Type 0) (n : ℕ) (o : Option Live) → ((l : Live) → l.holder ≡ Application n → P l)
    → holder_by o ≡ Application n → IfSome o P
of_own P n None each own = tt
of_own P n (Some l) each own = each l own

ready_there : (port : ℕ) (ls : List Live) (k : ℕ) (found : Option Live) → position (is_ready port) ls ≡ Some k
    → slice_get ls k ≡ found → IfSome found (λ l. is_ready port l ≡ true)
ready_there port ls k None at here = tt
ready_there port ls k (Some l) at here =
    subst (λ (m : Live). is_ready port m ≡ true) (get_or_from_slice_get ls k l l here)
    (position-Some (is_ready port) ls k l at).1

ready_keeps : (P : Live → Type 0) (f : Live → Live) (port : ℕ) (o : Option Live)
    → ((l : Live) → is_ready port l ≡ true → P l → P (f l)) → IfSome o (λ l. is_ready port l ≡ true)
    → IfSome o (λ l. P l → P (f l))
ready_keeps P f port None keeps ready = tt
ready_keeps P f port (Some l) keeps ready = keeps l ready

-- ----- acts
act_keeps : (K : (number at : ℕ) → Type 0) (P : Live → Type 0) (Q : List Live → Type 0) (starts : Starts)
    (t n : ℕ) (step : Step) (host : Host) (act : Act) → KeepsFlow K t P → IsListed t P Q → MayAct step host act
    → IsOwned host n act → Q host.flows → Q (leaves starts t n host act).flows
act_keeps K P Q starts t n step host Rests keeps listed may own q = q
act_keeps K P Q starts t n step host (Calls k call offer) keeps listed may own q =
    listed.each host.flows _ (at_carry P k (λ (l : Live). with_call l (App n) t call offer) host.flows
    (of_own (λ (l : Live). P l → P (with_call l (App n) t call offer)) n (slice_get host.flows k)
    (λ l mine. keeps.plain l n call offer may mine) own)) q
act_keeps K P Q starts t n step host (Accepts k) keeps listed may own q =
    let f : Live → Live = λ (l : Live). record (with_call l (App n) t calls.Accept []) { holder = Application n } in
    subst Q (sym (change_twice k (λ (l : Live). with_call l (App n) t calls.Accept [])
    (λ (l : Live). record l { holder = Application n }) host.flows))
    (listed.each host.flows (change_at k f host.flows) (at_carry P k f host.flows
    (ready_keeps P f may.0 (slice_get host.flows k) (λ l ready. keeps.accept l n may.0 ready)
    (ready_there may.0 host.flows k (slice_get host.flows k) may.1 refl))) q)
act_keeps K P Q starts t n step host (Connects slot tuple) keeps listed may own q =
    listed.push host.flows _ (record {
      first = _;
      entries = refl;
      tick = refl;
      plain = refl;
      holder = refl;
      may = λ s. refl;
    }) q
act_keeps K P Q starts t n step host (GivesUp k call) keeps listed may own q =
    let f : Live → Live = λ (l : Live). record (with_call l (App n) t call []) { holder = GivenUp } in
    subst Q (sym (change_twice k (λ (l : Live). with_call l (App n) t call [])
    (λ (l : Live). record l { holder = GivenUp }) host.flows))
    (listed.each host.flows (change_at k f host.flows) (at_carry P k f host.flows
    (of_own (λ (l : Live). P l → P (f l)) n (slice_get host.flows k) (λ l mine. keeps.last l n call may mine) own)) q)
act_keeps K P Q starts t n step host (Notes event) keeps listed may own q = q
act_keeps K P Q starts t n step host (Listens port) keeps listed may own q = q

-- ----- a turn
turn_keeps : (s : Scenario) (p : HostParams) (K : (number at : ℕ) → Type 0) (P : Live → Type 0)
    (Q : List Live → Type 0) (t : ℕ) (host : Host) (x : Script) → KeepsFlow K t P → IsListed t P Q
    → (is_killed_at t x.kill ≡ true → K x.number t) → AreOwn host.flows x.number x.names → Q host.flows
    → Q (turn_on s p t host x).host.flows
turn_keeps s p K P Q t host x keeps listed kills own q = by_kill (is_killed_at t x.kill) refl where
  here : Turn
  here = record { host = host; script = x }

  by_left : (left : List Step) → Q (goes_on (starts_of p) (address_in s.hosts) t left here).host.flows
  by_left [] = q
  by_left (step ∷ rest) =
      let acted = step_acts (starts_of p) (address_in s.hosts) t step here in
      subst (λ (h : Host). Q h.flows) (sym acted.left)
      (act_keeps K P Q (starts_of p) t x.number step host acted.act keeps listed acted.may
      (act_owned x.number here acted.act _ acted.named own) q)

  by_kill : (b : Bool) → is_killed_at t x.kill ≡ b
      → Q (turn_where b (starts_of p) (address_in s.hosts) t here).host.flows
  by_kill true h =
      listed.each host.flows _ (map_carry P (λ (l : Live). aborted_where (is_concerned x.number host l) t l)
      (λ l. keeps.killed l x.number host (kills h)) host.flows) q
  by_kill false h = by_left x.left

-- it leaves the others their sockets, and the names of its own stand for its own
pub turn_leaves : (s : Scenario) (p : HostParams) (t : ℕ) (host : Host) (x : Script)
    → AreOwn host.flows x.number x.names → (m : ℕ) → (m ≡ x.number → ⊥) → (k : ℕ)
    → holder_at host.flows k ≡ Application m
    → holder_at (turn_on s p t host x).host.flows k ≡ Application m
turn_leaves s p t host x own m other k h = by_kill (is_killed_at t x.kill) where
  here : Turn
  here = record { host = host; script = x }

  by_left : (left : List Step)
      → holder_at (goes_on (starts_of p) (address_in s.hosts) t left here).host.flows k ≡ Application m
  by_left [] = h
  by_left (step ∷ rest) =
      let acted = step_acts (starts_of p) (address_in s.hosts) t step here in
      subst (λ (g : Host). holder_at g.flows k ≡ Application m) (sym acted.left)
      (others_still (starts_of p) t x.number step here acted.act _ refl acted.may acted.named own m other k h)

  by_kill : (b : Bool)
      → holder_at (turn_where b (starts_of p) (address_in s.hosts) t here).host.flows k ≡ Application m
  by_kill true = kill_leaves x.number t host host.flows m other k h
  by_kill false = by_left x.left

abbrev OwnsAs : (number : ℕ) → Turn → Type 0
OwnsAs n y = AreOwn y.host.flows n y.script.names

pub turn_owns : (s : Scenario) (p : HostParams) (t : ℕ) (host : Host) (x : Script) → AreOwn host.flows x.number x.names
    → AreOwn (turn_on s p t host x).host.flows x.number (turn_on s p t host x).script.names
turn_owns s p t host x own = by_kill (is_killed_at t x.kill) where
  here : Turn
  here = record { host = host; script = x }

  by_left : (left : List Step)
      → OwnsAs x.number (goes_on (starts_of p) (address_in s.hosts) t left here)
  by_left [] = own
  by_left (step ∷ rest) =
      let acted = step_acts (starts_of p) (address_in s.hosts) t step here in
      let names : Names = (step_of (starts_of p) (address_in s.hosts) t step here).script.names in
      subst (λ (g : Host). AreOwn g.flows x.number names) (sym acted.left)
      (own_after (starts_of p) t x.number step here acted.act names acted.may acted.named own)

  by_kill : (b : Bool) → OwnsAs x.number (turn_where b (starts_of p) (address_in s.hosts) t here)
  by_kill true = record { held = tt; apart = tt }
  by_kill false = by_left x.left

-- ----- a host and its scripts
-- each knows when its application is killed, and its names stand for its own sockets
abbrev pub KnowsKill : (K : (number at : ℕ) → Type 0) → Script → Type 0
KnowsKill K b = (at : ℕ) → b.kill ≡ Some at → K b.number at

abbrev pub Owns : List Live → Script → Type 0
Owns ls b = AreOwn ls b.number b.names

knows_now : (K : (number at : ℕ) → Type 0) (t : ℕ) (x : Script) → KnowsKill K x → is_killed_at t x.kill ≡ true
    → K x.number t
knows_now K t x knows h = by_kill x.kill refl h where
  by_kill : (o : Option ℕ) → x.kill ≡ o → is_killed_at t o ≡ true → K x.number t
  by_kill None same g = absurd (true≢false (sym g))
  by_kill (Some at) same g =
      let now : at ≡ t = grind (arith, tests, g) in subst (K x.number) now (knows at same)

pub record SiteFlows (K : (number at : ℕ) → Type 0) (Q : List Live → Type 0) (site : At) : Type 0 where
  pub scripts : Each (KnowsKill K) site.scripts
  pub owns : Each (Owns site.host.flows) site.scripts
  pub flows : Q site.host.flows

each_still : (ls ms : List Live) (bs : List Script)
    → ((n k : ℕ) → holder_at ls k ≡ Application n → holder_at ms k ≡ Application n) → Each (Owns ls) bs
    → Each (Owns ms) bs
each_still ls ms [] keeps each = tt
each_still ls ms (b ∷ bs) keeps each =
    (own_still ls ms b.number b.names (keeps b.number) each.0, each_still ls ms bs keeps each.1)

-- those behind a script have other numbers
later_owns : (ls ms : List Live) (n low : ℕ) (bs : List Script) → n < low → NumbersRise low bs
    → ((m : ℕ) → (m ≡ n → ⊥) → (k : ℕ) → holder_at ls k ≡ Application m → holder_at ms k ≡ Application m)
    → Each (Owns ls) bs → Each (Owns ms) bs
later_owns ls ms n low [] small rise keeps each = tt
later_owns ls ms n low (b ∷ bs) small rise keeps each =
    let here : low ≤ b.number = rise.0 in (
      own_still ls ms b.number b.names (keeps b.number (λ same. absurd (not_same b.number small here same))) each.0,
      later_owns ls ms n (b.number + 1) bs (omega arith) rise.1 keeps each.1,
    )
  where
    not_same : (m : ℕ) → n < low → low ≤ m → m ≡ n → ⊥
    not_same m s h e = omega arith

turned_owns : (ls ms : List Live) (y : Script) (low : ℕ) (bs : List Script) → NumbersRise low bs
    → ((m : ℕ) → (m ≡ y.number → ⊥) → (k : ℕ) → holder_at ls k ≡ Application m → holder_at ms k ≡ Application m)
    → Owns ms y → Each (Owns ls) bs
    → Each (Owns ms) (change_first (λ (b : Script). b.number == y.number) (λ (b : Script). y) bs)
turned_owns ls ms y low [] rise keeps own each = tt
turned_owns ls ms y low (b ∷ bs) rise keeps own each =
    by_test (b.number == y.number) refl (turned_owns ls ms y (b.number + 1) bs rise.1 keeps own each.1)
  where
    small : (b.number == y.number) ≡ true → y.number < b.number + 1
    small e = grind (arith, tests, e)

    other : (b.number == y.number) ≡ false → b.number ≡ y.number → ⊥
    other e same = absurd (true≢false (sym (grind (arith, tests, same)) ∙ e))

    by_test : (c : Bool) → (b.number == y.number) ≡ c
        → Each (Owns ms) (change_first (λ (b : Script). b.number == y.number) (λ (b : Script). y) bs)
        → Each (Owns ms) (elim c [
          | true ↦ y ∷ bs
          | false ↦ b ∷ change_first (λ (b : Script). b.number == y.number) (λ (b : Script). y) bs
        ])
    by_test true e rest = (own, later_owns ls ms y.number (b.number + 1) bs (small e) rise.1 keeps each.1)
    by_test false e rest = (own_still ls ms b.number b.names (keeps b.number (other e)) each.0, rest)

pub flows_keep : (s : Scenario) (p : HostParams) (K : (number at : ℕ) → Type 0) (P : Live → Type 0)
    (Q : List Live → Type 0) (t : ℕ) → KeepsFlow K t P → IsListed t P Q → Keeps s p t (SiteFlows K Q)
flows_keep s p K P Q t keeps listed = record {
  flows = λ site ms worked i. record {
    scripts = i.scripts;
    owns = each_still site.host.flows ms site.scripts
        (λ n k h. same_holders t site.host.flows ms worked k ∙ h) i.owns;
    flows = listed.each site.host.flows ms (worked_carry P t site.host.flows ms keeps.worked worked) i.flows;
  };
  line = λ site event kind i. record { scripts = i.scripts; owns = i.owns; flows = i.flows };
  syn = λ site slot start frame tuple seg listening i. record {
    scripts = i.scripts;
    owns = each_still site.host.flows _ site.scripts (λ n k h. push_held site.host.flows _ n k h) i.owns;
    flows = listed.push site.host.flows _ (record {
      first = _;
      entries = refl;
      tick = refl;
      plain = refl;
      holder = refl;
      may = λ s. tt;
    }) i.flows;
  };
  turn = λ site k x found rise i. (
      let knows : KnowsKill K x =
      found_has (KnowsKill K) (λ (b : Script). b.number == k) site.scripts x found i.scripts in
      let own : Owns site.host.flows x =
      found_has (Owns site.host.flows) (λ (b : Script). b.number == k) site.scripts x found i.owns in
      let goes : GoesOn t x (turn_on s p t site.host x).script =
      turn_goes (starts_of p) (address_in s.hosts) t (record { host = site.host; script = x }) in
      record {
        scripts = each_first (KnowsKill K) _ _ (λ b each. (λ at kill. subst (λ (n : ℕ). K n at) (sym goes.number)
            (knows at (sym goes.kill ∙ kill)))) site.scripts i.scripts;
        owns = turned_owns site.host.flows (turn_on s p t site.host x).host.flows (turn_on s p t site.host x).script 0
            site.scripts rise (λ m other j h. turn_leaves s p t site.host x own m
            (λ same. other (same ∙ sym goes.number)) j h)
            (subst (λ (n : ℕ). AreOwn (turn_on s p t site.host x).host.flows n
            (turn_on s p t site.host x).script.names) (sym goes.number) (turn_owns s p t site.host x own)) i.owns;
        flows = turn_keeps s p K P Q t site.host x keeps listed (knows_now K t x knows) own i.flows;
      });
}
