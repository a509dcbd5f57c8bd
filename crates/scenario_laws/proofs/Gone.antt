-- From the tick of its kill on an application has no socket.
use Rattle.std.proofs.Common.{◌≡◌, ℕ, ◌+◌, ◌≤◌, ◌<◌, ◌==◌, Bool, true, false, cond, List, [], ◌∷◌, map}
use Rattle.std.proofs.Common.{fold, Option, Some, None, refl, sym, subst, ap, ◌∙◌, true≢false, arith, tests}
use Rattle.std.specs.List.{find}
use Rattle.tas_model.specs.declared.entry.HostParams.{HostParams}
use Rattle.tas_model.specs.declared.entry.Caller.TheVariants.{App}
use Rattle.tas_model.specs.declared.entry.Call.TheVariants as calls
use Rattle.host_rounds.specs.Lists.{Each, change_first}
use Rattle.host_rounds.specs.Hosts.{Live, Host, Holder, Waiting, Application, GivenUp, Starts, with_call}
use Rattle.host_rounds.specs.Upkeep.{all_swept}
use Rattle.host_rounds.specs.Deliveries.{Arrival}
use Rattle.host_rounds.specs.Rounds.{Ask, Deed, does, on_host}
use Rattle.host_rounds.proofs.AllLegal.{each_map, each_first, each_at, each_push}
use Rattle.scenario_text.specs.declared.scenario.Step.{Step}
use Rattle.scenario_text.specs.declared.scenario.Scenario.{Scenario}
use Rattle.scenario_text.specs.declared.scenario.HostLine.{HostLine}
use Rattle.scenario_runs.specs.Applications.{Script, Turn, is_concerned, let_go, aborted_where, killed, is_killed_at}
use Rattle.scenario_runs.specs.Applications.{goes_on, turn_where}
use Rattle.scenario_runs.specs.Worlds.{starts_of, address_in, asked_of, scripts_of, scripts_on, site_of}
use Rattle.scenario_laws.specs.Kills.{IsKilled}
use Rattle.scenario_laws.specs.Turns.{OfEachScript, reached, turn_on, HadTurn, HadTurns, GoesOn}
use Rattle.scenario_laws.proofs.Goes.{turn_goes}
use Rattle.scenario_laws.proofs.Acts.{Act, Rests, Calls, Accepts, Connects, GivesUp, Notes, Listens, leaves, step_acts}
use Rattle.scenario_laws.proofs.AllTurned.{NumbersRise, found_number, deed_rises}
use Rattle.scenario_laws.proofs.Deeds.{At, Worked, OfEachFlow, AreByWorkers, Keeps, deeds_keep, round_keeps}
use Rattle.scenario_laws.proofs.InTurns.{tick_of, all_step}
use Rattle.scenario_laws.proofs.AllKept.{Stays, Leads}
use Rattle.scenario_laws.proofs.Deeds.{found_has}
use Rattle.scenario_laws.proofs.Sockets.{not_waiting, not_given}
use Rattle.scenario_laws.proofs.Silent.{Ends, none_left, scripts_end, killed_from}
use Rattle.scenario_laws.proofs.Kills.{fold_append, each_front, rises}

-- ----- no socket
abbrev pub IsNotOf : (number : ℕ) → Live → Type 0
IsNotOf n l = l.holder ≡ Application n → ⊥

not_other : (m n : ℕ) → (m ≡ n → ⊥) → Application m ≡ Application n → ⊥
not_other m n other h = other (cc (h))

not_let_go : (n : ℕ) (holder : Holder) → let_go holder ≡ Application n → ⊥
not_let_go n Waiting h = not_waiting n h
not_let_go n (Application m) h = not_given n h
not_let_go n GivenUp h = not_given n h

all_not : (n t : ℕ) (ls ms : List Live) → OfEachFlow (Worked t) ls ms → Each (IsNotOf n) ls → Each (IsNotOf n) ms
all_not n t [] [] all each = tt
all_not n t [] (m ∷ ms) all each = absurd all
all_not n t (l ∷ ls) [] all each = absurd all
all_not n t (l ∷ ls) (m ∷ ms) all each = ((λ h. each.0 (sym all.0.holder ∙ h)), all_not n t ls ms all.1 each.1)

act_not : (n t k : ℕ) (starts : Starts) (host : Host) (act : Act) → (k ≡ n → ⊥) → Each (IsNotOf n) host.flows
    → Each (IsNotOf n) (leaves starts t k host act).flows
act_not n t k starts host Rests other each = each
act_not n t k starts host (Calls flow call offer) other each =
    each_at (IsNotOf n) flow (λ (l : Live). with_call l (App k) t call offer) (λ l no_one. no_one) host.flows each
act_not n t k starts host (Accepts flow) other each =
    each_at (IsNotOf n) flow (λ (l : Live). record l { holder = Application k }) (λ l no_one. not_other k n other) _
    (each_at (IsNotOf n) flow (λ (l : Live). with_call l (App k) t calls.Accept []) (λ l no_one. no_one) host.flows
    each)
act_not n t k starts host (Connects slot tuple) other each =
    each_push (IsNotOf n) host.flows _ each (not_other k n other)
act_not n t k starts host (GivesUp flow call) other each =
    each_at (IsNotOf n) flow (λ (l : Live). record l { holder = GivenUp }) (λ l no_one. not_given n) _
    (each_at (IsNotOf n) flow (λ (l : Live). with_call l (App k) t call []) (λ l no_one. no_one) host.flows each)
act_not n t k starts host (Notes event) other each = each
act_not n t k starts host (Listens port) other each = each

aborted_not : (n t : ℕ) (concerned : Bool) (l : Live) → IsNotOf n l → IsNotOf n (aborted_where concerned t l)
aborted_not n t true l no_one = not_let_go n l.holder
aborted_not n t false l no_one = no_one

-- ----- no step left, and no socket
pub record IsGone (n : ℕ) (site : At) : Type 0 where
  pub left : Each (λ (b : Script). b.number ≡ n → b.left ≡ []) site.scripts
  pub flows : Each (IsNotOf n) site.host.flows

turn_gone : (s : Scenario) (p : HostParams) (n t : ℕ) (host : Host) (x : Script) → (x.number ≡ n → x.left ≡ [])
    → Each (IsNotOf n) host.flows → Each (IsNotOf n) (turn_on s p t host x).host.flows
turn_gone s p n t host x none each = by_kill (is_killed_at t x.kill) where
  here : Turn
  here = record { host = host; script = x }

  by_left : (left : List Step) → x.left ≡ left
      → Each (IsNotOf n) (goes_on (starts_of p) (address_in s.hosts) t left here).host.flows
  by_left [] same = each
  by_left (step ∷ rest) same =
      let acted = step_acts (starts_of p) (address_in s.hosts) t step here in
      subst (λ (h : Host). Each (IsNotOf n) h.flows) (sym acted.left)
      (act_not n t x.number (starts_of p) host acted.act (λ mine. no_step (sym same ∙ none mine)) each)
    where
      no_step : (step ∷ rest) ≡ [] → ⊥
      no_step e = absurd (cc (e))

  by_kill : (b : Bool) → Each (IsNotOf n) (turn_where b (starts_of p) (address_in s.hosts) t here).host.flows
  by_kill true =
      each_map (IsNotOf n) (λ (l : Live). aborted_where (is_concerned x.number host l) t l)
      (λ l no_one. aborted_not n t (is_concerned x.number host l) l no_one) host.flows each
  by_kill false = by_left x.left refl

goes_left : (n t : ℕ) (b a : Script) → GoesOn t b a → (b.number ≡ n → b.left ≡ []) → a.number ≡ n → a.left ≡ []
goes_left n t b a goes none mine = by_kill (is_killed_at t b.kill) refl (none (sym goes.number ∙ mine)) where
  by_kill : (c : Bool) → is_killed_at t b.kill ≡ c → b.left ≡ [] → a.left ≡ []
  by_kill true h left = goes.killed h
  by_kill false h left = let steps = goes.steps h in steps.2 ∙ none_left steps.0 b.left left

abbrev HasNone : (number : ℕ) → Script → Type 0
HasNone n b = b.number ≡ n → b.left ≡ []

gone_keeps : (s : Scenario) (p : HostParams) (n t : ℕ) → Keeps s p t (IsGone n)
gone_keeps s p n t = record {
  flows = λ site ms worked i. record { left = i.left; flows = all_not n t site.host.flows ms worked i.flows };
  line = λ site event kind i. record { left = i.left; flows = i.flows };
  syn = λ site slot start frame tuple seg listening i. record {
    left = i.left;
    flows = each_push (IsNotOf n) site.host.flows _ i.flows (not_waiting n);
  };
  turn = λ site k x found rise i. (
      let none : HasNone n x =
      found_has (HasNone n) (λ (b : Script). b.number == k) site.scripts x found i.left in
      let goes : GoesOn t x (turn_on s p t site.host x).script =
      turn_goes (starts_of p) (address_in s.hosts) t (record { host = site.host; script = x }) in
      record {
        left = each_first (HasNone n) _ _ (λ b each mine. goes_left n t x _ goes none mine) site.scripts i.left;
        flows = turn_gone s p n t site.host x none i.flows;
      });
}

-- ----- its kill
abbrev KilledAt : (number at : ℕ) → Script → Type 0
KilledAt n at b = b.number ≡ n → b.kill ≡ Some at

kills_keep : (s : Scenario) (p : HostParams) (n at t : ℕ) → Keeps s p t (λ site. Each (KilledAt n at) site.scripts)
kills_keep s p n at t = record {
  flows = λ site ms worked i. i;
  line = λ site event kind i. i;
  syn = λ site slot start frame tuple seg listening i. i;
  turn = λ site k x found rise i. (
      let kill : KilledAt n at x =
      found_has (KilledAt n at) (λ (b : Script). b.number == k) site.scripts x found i in
      let goes : GoesOn t x (turn_on s p t site.host x).script =
      turn_goes (starts_of p) (address_in s.hosts) t (record { host = site.host; script = x }) in
      each_first (KilledAt n at) _ _ (λ b each mine. goes.kill ∙ kill (sym goes.number ∙ mine)) site.scripts i);
}

-- after its kill none is the application's
killed_not : (n t : ℕ) (host : Host) (ls : List Live)
    → Each (IsNotOf n) (map (λ (l : Live). aborted_where (is_concerned n host l) t l) ls)
killed_not n t host [] = tt
killed_not n t host (l ∷ ls) = (by_concerned (is_concerned n host l) refl, killed_not n t host ls) where
  by_concerned : (b : Bool) → is_concerned n host l ≡ b → IsNotOf n (aborted_where b t l)
  by_concerned true h = not_let_go n l.holder
  by_concerned false h = λ mine. (
      let its : is_concerned n host l ≡ (n == n) =
      ap (λ (holder : Holder). is_concerned n host (record l { holder = holder })) mine in
      let itself : (n == n) ≡ true = grind (arith, tests) in
      true≢false (sym (its ∙ itself) ∙ h))

not_found : (n : ℕ) (bs : List Script) → find (λ (b : Script). b.number == n) bs ≡ None → Each (HasNone n) bs
not_found n [] h = tt
not_found n (b ∷ bs) h = by_test (b.number == n) refl h (λ later. not_found n bs later) where
  by_test : (c : Bool) → (b.number == n) ≡ c → cond c (Some b) (find (λ (b : Script). b.number == n) bs) ≡ None
      → (find (λ (b : Script). b.number == n) bs ≡ None → Each (HasNone n) bs) → Each (HasNone n) (b ∷ bs)
  by_test true e g rest = absurd (cc (g))
  by_test false e g rest = (
    λ mine. absurd (true≢false (sym (itself mine) ∙ e)),
    rest g,
  ) where
    itself : b.number ≡ n → (b.number == n) ≡ true
    itself mine = grind (arith, tests, mine)

-- its turn in that tick leaves it no step
ask_left : (s : Scenario) (p : HostParams) (n t : ℕ) (site : At) → NumbersRise 0 site.scripts
    → Each (KilledAt n t) site.scripts → (o : Option Script)
    → find (λ (b : Script). b.number == n) site.scripts ≡ o
    → Each (HasNone n) (asked_of (starts_of p) (address_in s.hosts) t o site).scripts
ask_left s p n t site rise kills None found = not_found n site.scripts found
ask_left s p n t site rise kills (Some x) found =
    only_one 0 site.scripts rise
  where
    mine : x.number ≡ n
    mine = let e : (x.number == n) ≡ true = found_number n site.scripts x found in grind (arith, tests, e)

    kill : x.kill ≡ Some t
    kill = found_has (KilledAt n t) (λ (b : Script). b.number == n) site.scripts x found kills mine

    y : Script
    y = (turn_on s p t site.host x).script

    goes : GoesOn t x y
    goes = turn_goes (starts_of p) (address_in s.hosts) t (record { host = site.host; script = x })

    now : is_killed_at t x.kill ≡ true
    now = let e : (t == t) ≡ true = grind (arith, tests) in ap (is_killed_at t) kill ∙ e

    none : y.left ≡ []
    none = goes.killed now

    number : y.number ≡ n
    number = goes.number ∙ mine

    later : (low : ℕ) (bs : List Script) → n < low → NumbersRise low bs → Each (HasNone n) bs
    later low [] small rise = tt
    later low (b ∷ bs) small rise =
        let here : low ≤ b.number = rise.0 in
        let apart : n < b.number = omega arith in
        ((λ same. absurd (omega (arith, same, apart))), later (b.number + 1) bs (omega arith) rise.1)

    only_one : (low : ℕ) (bs : List Script) → NumbersRise low bs
        → Each (HasNone n) (change_first (λ (b : Script). b.number == y.number) (λ (b : Script). y) bs)
    only_one low [] rise = tt
    only_one low (b ∷ bs) rise = by_test (b.number == y.number) refl (only_one (b.number + 1) bs rise.1) where
      by_test : (c : Bool) → (b.number == y.number) ≡ c
          → Each (HasNone n) (change_first (λ (b : Script). b.number == y.number) (λ (b : Script). y) bs)
          → Each (HasNone n) (elim c [
            | true ↦ y ∷ bs
            | false ↦ b ∷ change_first (λ (b : Script). b.number == y.number) (λ (b : Script). y) bs
          ])
      by_test true e rest =
          let small : n < b.number + 1 = grind (arith, tests, e, number) in
          ((λ h. none), later (b.number + 1) bs small rise.1)
      by_test false e rest = ((λ h. absurd (true≢false (sym (itself h) ∙ e))), rest) where
        itself : b.number ≡ n → (b.number == y.number) ≡ true
        itself h = grind (arith, tests, h, number)

-- ----- its tick
-- Its one turn among the deeds is its kill: at the end it is gone.
turn_ends : (s : Scenario) (p : HostParams) (n t : ℕ) (site : At) (deeds : List (Deed ℕ)) (b a : Script)
    → AreByWorkers deeds → NumbersRise 0 site.scripts → Each (KilledAt n t) site.scripts
    → HadTurn s p t site deeds b a → b.number ≡ n → b.kill ≡ Some t → IsGone n (reached s p t site deeds)
turn_ends s p n t site deeds b a workers rise kills had mine kill =
    subst (IsGone n) (sym parts) (deeds_keep s p (IsGone n) t next had.one.later (gone_keeps s p n t) split.1.1
    (deed_rises s p t 0 found asks rise_found) gone_next)
  where
    asks : Deed ℕ
    asks = record { by = had.one.by; action = Ask b.number }

    found : At
    found = reached s p t site had.one.earlier

    next : At
    next = does (scripts_of s p) t found asks

    split : AreByWorkers had.one.earlier × AreByWorkers (asks ∷ had.one.later)
    split = each_front _ had.one.earlier _ (subst AreByWorkers had.one.all workers)

    rise_found : NumbersRise 0 found.scripts
    rise_found = rises s p t site had.one.earlier rise

    kills_found : Each (KilledAt n t) found.scripts
    kills_found =
        deeds_keep s p (λ x. Each (KilledAt n t) x.scripts) t site had.one.earlier (kills_keep s p n t t) split.0 rise
        kills

    parts : reached s p t site deeds ≡ fold (does (scripts_of s p) t) next had.one.later
    parts =
        ap (fold (does (scripts_of s p) t) site) had.one.all
        ∙ fold_append (does (scripts_of s p) t) site had.one.earlier _

    now : is_killed_at t b.kill ≡ true
    now = let e : (t == t) ≡ true = grind (arith, tests) in ap (is_killed_at t) kill ∙ e

    host_next : next.host ≡ (killed t (record { host = found.host; script = b })).host
    host_next =
        sym (ap (λ (x : At). x.host) (fold_append (does (scripts_of s p) t) site had.one.earlier (asks ∷ [])))
        ∙ had.host
        ∙ ap (λ (c : Bool). (turn_where c (starts_of p) (address_in s.hosts) t (record {
          host = found.host;
          script = b;
        })).host) now

    left_next : Each (HasNone n) next.scripts
    left_next =
        subst (λ (k : ℕ). Each (HasNone n) (does (scripts_of s p) t found (record {
          by = had.one.by;
          action = Ask k;
        })).scripts) (sym mine) (ask_left s p n t found rise_found kills_found _ refl)

    gone_next : IsGone n next
    gone_next = record {
      left = left_next;
      flows = subst (λ (h : Host). Each (IsNotOf n) h.flows) (sym host_next)
          (subst (λ (k : ℕ). Each (IsNotOf n) (map (λ (l : Live). aborted_where (is_concerned k found.host l) t l)
          found.host.flows)) (sym mine) (killed_not n t found.host found.host.flows));
    }

-- ----- every tick
-- one of the scripts has the number, with what holds of each, or none has it
one_of : (F : Script → Script → Type 0) (G : Script → Type 0) (n : ℕ) (R : Type 0) (bs az : List Script)
    → OfEachScript F bs az → Each G bs → ((b a : Script) → F b a → G b → b.number ≡ n → R)
    → (Each (λ (b : Script). b.number ≡ n → ⊥) bs → R) → R
one_of F G n R [] [] all each found none = none tt
one_of F G n R [] (a ∷ az) all each found none = absurd all
one_of F G n R (b ∷ bs) [] all each found none = absurd all
one_of F G n R (b ∷ bs) (a ∷ az) all each found none =
    by_number (b.number == n) refl (λ other. one_of F G n R bs az all.1 each.1 found (λ later. none (other, later)))
  where
    by_number : (c : Bool) → (b.number == n) ≡ c → ((b.number ≡ n → ⊥) → R) → R
    by_number true e rest = found b a all.0 each.0 (same e) where
      same : (b.number == n) ≡ true → b.number ≡ n
      same h = grind (arith, tests, h)
    by_number false e rest = rest (λ same. absurd (true≢false (sym (itself same) ∙ e))) where
      itself : b.number ≡ n → (b.number == n) ≡ true
      itself h = grind (arith, tests, h)

abbrev pub IsPast : (n at t : ℕ) → Script → Type 0
IsPast n at t b = b.number ≡ n → at < t

-- where its kill is over, it is gone
pub record GoneAfter (n at t : ℕ) (site : At) : Type 0 where
  pub kills : Each (KilledAt n at) site.scripts
  pub gone : Each (IsPast n at t) site.scripts → IsGone n site

past_before : (n at t u : ℕ) (bs az : List Script) → OfEachScript (GoesOn t) bs az → (at < u → at < t)
    → Each (IsPast n at u) az → Each (IsPast n at t) bs
past_before n at t u [] [] goes earlier past = tt
past_before n at t u [] (a ∷ az) goes earlier past = absurd goes
past_before n at t u (b ∷ bs) [] goes earlier past = absurd goes
past_before n at t u (b ∷ bs) (a ∷ az) goes earlier past =
    ((λ mine. earlier (past.0 (goes.0.number ∙ mine))), past_before n at t u bs az goes.1 earlier past.1)

none_past : (n at t : ℕ) (bs : List Script) → Each (λ (b : Script). b.number ≡ n → ⊥) bs → Each (IsPast n at t) bs
none_past n at t [] none = tt
none_past n at t (b ∷ bs) none = ((λ mine. absurd (none.0 mine)), none_past n at t bs none.1)

still_gone : (s : Scenario) (n at t : ℕ) (frames : List Arrival) (b a : At) → HadTurns s (tick_of t frames b a)
    → NumbersRise 0 b.scripts → GoneAfter n at t b → Each (IsPast n at t) b.scripts → IsGone n a
still_gone s n at t frames b a had rise i past =
    round_keeps s b.host.params (IsGone n) t _ b a (gone_keeps s b.host.params n t) rise had.0 (i.gone past)

gone_leads : (s : Scenario) (n at : ℕ) → Leads s (λ l t site. GoneAfter n at t site)
gone_leads s n at l t frames b a had rise i = record {
  kills = round_keeps s p (λ x. Each (KilledAt n at) x.scripts) t _ b a (kills_keep s p n at t) rise had.0 i.kills;
  gone = λ past. by_tick (at == t) refl past;
} where
  p : HostParams
  p = b.host.params

  first : At
  first = on_host all_swept b

  goes : OfEachScript (GoesOn t) b.scripts a.scripts
  goes = all_step s p t first had.0.order b.scripts a.scripts had.1

  in_tick : at ≡ t → IsGone n a
  in_tick now =
      one_of (HadTurn s p t first had.0.order) (KilledAt n at) n (IsGone n a) b.scripts a.scripts had.1 i.kills
      (λ before after turn kills mine. subst (IsGone n) had.0.made (turn_ends s p n t first had.0.order before after
      had.0.workers rise (subst (λ (u : ℕ). Each (KilledAt n u) b.scripts) now i.kills) turn mine
      (subst (λ (u : ℕ). before.kill ≡ Some u) now (kills mine))))
      (λ none. still_gone s n at t frames b a had rise i (none_past n at t b.scripts none))

  by_tick : (c : Bool) → (at == t) ≡ c → Each (IsPast n at (t + 1)) a.scripts → IsGone n a
  by_tick true e past = in_tick (grind (arith, tests, e))
  by_tick false e past =
      still_gone s n at t frames b a had rise i
      (past_before n at t (t + 1) b.scripts a.scripts goes (λ h. earlier h) past)
    where
      earlier : at < t + 1 → at < t
      earlier h = grind (arith, tests, e, h)

-- ----- a run
ends_kill : (n at t : ℕ) (bs : List Script) → Each (Ends n at t) bs → Each (KilledAt n at) bs
ends_kill n at t [] each = tt
ends_kill n at t (b ∷ bs) each = (each.0.kill, ends_kill n at t bs each.1)

past_none : (n at : ℕ) (bs : List Script) → Each (IsPast n at 0) bs → Each (HasNone n) bs
past_none n at [] past = tt
past_none n at (b ∷ bs) past = ((λ mine. absurd (never (past.0 mine))), past_none n at bs past.1) where
  never : at < 0 → ⊥
  never h = omega arith

start_gone : (s : Scenario) (n at : ℕ) (lines : List HostLine) → IsKilled s n at
    → Each (λ (l : HostLine). GoneAfter n at 0 (site_of s l)) lines
start_gone s n at [] killed = tt
start_gone s n at (l ∷ ls) killed = (
  record {
    kills = ends_kill n at 0 (scripts_on s.kills l.name 0 s.apps)
        (scripts_end s.kills l.name n at 0 s.apps (killed_from s n at killed));
    gone = λ past. record { left = past_none n at (scripts_on s.kills l.name 0 s.apps) past; flows = tt };
  },
  start_gone s n at ls killed,
)

pub gone_stays : (s : Scenario) (n at : ℕ) → IsKilled s n at → Stays s (λ l t site. GoneAfter n at t site)
gone_stays s n at killed = record { start = start_gone s n at s.hosts killed; leads = gone_leads s n at }

pub all_past : (n at t : ℕ) (bs : List Script) → at < t → Each (IsPast n at t) bs
all_past n at t [] h = tt
all_past n at t (b ∷ bs) h = ((λ mine. h), all_past n at t bs h)
