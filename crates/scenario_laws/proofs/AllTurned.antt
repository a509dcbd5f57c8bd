-- Each application has one turn in a tick.
use Rattle.std.proofs.Common.{◌≡◌, ℕ, ◌+◌, ◌≤◌, ◌<◌, ◌==◌, Bool, true, false, cond, List, [], ◌∷◌, ◌++◌}
use Rattle.std.proofs.Common.{◌||◌}
use Rattle.std.proofs.Common.{map, fold, filter, Option, Some, None, refl, sym, subst, ap, ◌∙◌, arith}
use Rattle.std.proofs.Common.{tests}
use Rattle.std.specs.List.{find, list_any}
use Rattle.tas_model.specs.Segments.{one_if}
use Rattle.tas_model.specs.declared.entry.HostParams.{HostParams}
use Rattle.tas_model.specs.declared.entry.Caller.{Caller}
use Rattle.host_rounds.specs.Lists.{change_first}
use Rattle.host_rounds.specs.Hosts.{Live, Host}
use Rattle.host_rounds.specs.Deliveries.{Arrival}
use Rattle.host_rounds.specs.Upkeep.{all_swept}
use Rattle.host_rounds.specs.Scripts.{Site}
use Rattle.host_rounds.specs.Rounds.{Action, Timer, Frame, Ask, Emission, Deed, done_by, does, on_host, Round}
use Rattle.host_rounds.specs.Rounds.{timers_from, OfScript, is_by, actions_of}
use Rattle.scenario_text.specs.declared.scenario.Scenario.{Scenario}
use Rattle.scenario_runs.specs.Applications.{Script, turn}
use Rattle.scenario_runs.specs.Worlds.{starts_of, address_in, scripts_of, asked_of}
use Rattle.scenario_laws.specs.Turns.{OfEachScript, is_ask, is_turn_of, turn_on, HadTurn}
use Rattle.scenario_laws.proofs.Goes.{turn_goes}

-- ----- one script
abbrev pub Act : Type 0
Act = Action ℕ

abbrev pub turn_in : Scenario → HostParams → Act → ℕ → ℕ
turn_in s p a n = one_if (is_by (scripts_of s p) (OfScript n) a)

abbrev pub turns_in : Scenario → HostParams → List Act → ℕ → ℕ
turns_in s p [] n = 0
turns_in s p (a ∷ rest) n = turn_in s p a n + turns_in s p rest n

-- one deed, which is a turn of it or none
record Asked (s : Scenario) (p : HostParams) (t : ℕ) (site : Site (List Script)) (m : Deed ℕ) (b a : Script)
    : Type 0 where
  number : a.number ≡ b.number
  none : turn_in s p m.action b.number ≡ 0 → a ≡ b
  asks : turn_in s p m.action b.number ≡ 1 → m.action ≡ Ask b.number
  script : turn_in s p m.action b.number ≡ 1 → a ≡ (turn_on s p t site.host b).script
  host : turn_in s p m.action b.number ≡ 1
      → (does (scripts_of s p) t site m).host ≡ (turn_on s p t site.host b).host

-- these deeds, among which it has no turn or one, as far as is said here
record Turned (s : Scenario) (p : HostParams) (t : ℕ) (site : Site (List Script)) (deeds : List (Deed ℕ))
    (b a : Script) : Type 0 where
  number : a.number ≡ b.number
  none : turns_in s p (actions_of deeds) b.number ≡ 0 → a ≡ b
  one : turns_in s p (actions_of deeds) b.number ≡ 1 → HadTurn s p t site deeds b a

stays : (s : Scenario) (p : HostParams) (t : ℕ) (site : Site (List Script)) (m : Deed ℕ) (b : Script)
    → turn_in s p m.action b.number ≡ 0 → Asked s p t site m b b
stays s p t site m b none_here =
    record {
      number = refl;
      none = λ h. refl;
      asks = λ h. absurd (omega arith);
      script = λ h. absurd (omega arith);
      host = λ h. absurd (omega arith);
    }

no_deeds : (s : Scenario) (p : HostParams) (t : ℕ) (site : Site (List Script)) (b : Script) → Turned s p t site [] b b
no_deeds s p t site b = record { number = refl; none = λ h. refl; one = λ h. absurd (omega arith) }

-- ----- deeds that are no turns
not_turn : (s : Scenario) (p : HostParams) (n : ℕ) (a : Act) → turn_in s p a n ≡ 0 → is_ask n a ≡ false
not_turn s p n (Timer flow) h = refl
not_turn s p n (Frame x) h = refl
not_turn s p n (Ask k) h = by_test (n == k) h where
  by_test : (b : Bool) → one_if b ≡ 0 → b ≡ false
  by_test true g = absurd (omega arith)
  by_test false g = refl
not_turn s p n (Emission flow) h = refl

either_false : (a b : Bool) → a ≡ false → b ≡ false → (a || b) ≡ false
either_false true b h g = h
either_false false b h g = g

none_among : (s : Scenario) (p : HostParams) (n : ℕ) (deeds : List (Deed ℕ))
    → turns_in s p (actions_of deeds) n ≡ 0 → list_any (is_turn_of n) deeds ≡ false
none_among s p n [] h = refl
none_among s p n (m ∷ deeds) h =
    either_false (is_turn_of n m) (list_any (is_turn_of n) deeds) (not_turn s p n m.action (omega arith))
    (none_among s p n deeds (omega arith))

-- ----- one deed more
-- One that is no turn stands before those among which is one,
before_turn : (s : Scenario) (p : HostParams) (t : ℕ) (site : Site (List Script)) (m : Deed ℕ)
    (deeds : List (Deed ℕ)) (b a : Script) → turn_in s p m.action b.number ≡ 0
    → HadTurn s p t (does (scripts_of s p) t site m) deeds b a → HadTurn s p t site (m ∷ deeds) b a
before_turn s p t site m deeds b a none_here had = record {
  one = record {
    earlier = m ∷ had.one.earlier;
    by = had.one.by;
    later = had.one.later;
    all = ap (λ (ds : List (Deed ℕ)). m ∷ ds) had.one.all;
    none_earlier =
        either_false (is_turn_of b.number m) (list_any (is_turn_of b.number) had.one.earlier)
        (not_turn s p b.number m.action none_here) had.one.none_earlier;
    none_later = had.one.none_later;
  };
  script = had.script;
  host = had.host;
}

-- and one that is a turn before those that are none.
turn_first : (s : Scenario) (p : HostParams) (t : ℕ) (site : Site (List Script)) (m : Deed ℕ)
    (deeds : List (Deed ℕ)) (b c : Script) → turn_in s p m.action b.number ≡ 1
    → turns_in s p (actions_of deeds) b.number ≡ 0 → Asked s p t site m b c → HadTurn s p t site (m ∷ deeds) b c
turn_first s p t site m deeds b c here none_later asked =
    let same : m ≡ record { by = m.by; action = Ask b.number } =
    ap (λ (a : Act). record { by = m.by; action = a }) (asked.asks here) in
    record {
      one = record {
        earlier = [];
        by = m.by;
        later = deeds;
        all = ap (λ (d : Deed ℕ). d ∷ deeds) same;
        none_earlier = refl;
        none_later = none_among s p b.number deeds none_later;
      };
      script = asked.script here;
      host = ap (λ (d : Deed ℕ). (does (scripts_of s p) t site d).host) (sym same) ∙ asked.host here;
    }

one_more : (s : Scenario) (p : HostParams) (t : ℕ) (site : Site (List Script)) (m : Deed ℕ) (deeds : List (Deed ℕ))
    (b c a : Script) → Asked s p t site m b c → Turned s p t (does (scripts_of s p) t site m) deeds c a
    → Turned s p t site (m ∷ deeds) b a
one_more s p t site m deeds b c a asked rest = record {
  number = rest.number ∙ asked.number;
  none = λ h. rest.none (later (omega arith)) ∙ asked.none (omega arith);
  one = λ h. by_deed (is_by (scripts_of s p) (OfScript b.number) m.action) refl h;
} where
  later : {n : ℕ} → turns_in s p (actions_of deeds) b.number ≡ n → turns_in s p (actions_of deeds) c.number ≡ n
  later {n} h = subst (λ (k : ℕ). turns_in s p (actions_of deeds) k ≡ n) (sym asked.number) h

  by_deed : (d : Bool) → is_by (scripts_of s p) (OfScript b.number) m.action ≡ d
      → turns_in s p (actions_of (m ∷ deeds)) b.number ≡ 1 → HadTurn s p t site (m ∷ deeds) b a
  by_deed true e h =
      let here : turn_in s p m.action b.number ≡ 1 = ap one_if e in
      let none_later : turns_in s p (actions_of deeds) b.number ≡ 0 = omega arith in
      subst (HadTurn s p t site (m ∷ deeds) b) (sym (rest.none (later none_later)))
      (turn_first s p t site m deeds b c here none_later asked)
  by_deed false e h =
      let none_here : turn_in s p m.action b.number ≡ 0 = ap one_if e in
      let one_later : turns_in s p (actions_of deeds) b.number ≡ 1 = omega arith in
      before_turn s p t site m deeds b a none_here
      (subst (λ (x : Script). HadTurn s p t (does (scripts_of s p) t site m) deeds x a) (asked.none none_here)
      (rest.one (later one_later)))

-- ----- the scripts of a host
abbrev AllAsked : Scenario → HostParams → (tick : ℕ) → Site (List Script) → Deed ℕ → (before after : List Script)
    → Type 0
AllAsked s p t site m bs az = OfEachScript (Asked s p t site m) bs az

abbrev AllTurned : Scenario → HostParams → (tick : ℕ) → Site (List Script) → List (Deed ℕ)
    → (before after : List Script) → Type 0
AllTurned s p t site deeds bs az = OfEachScript (Turned s p t site deeds) bs az

-- their numbers rise, from `low` on
abbrev pub NumbersRise : (low : ℕ) → List Script → Type 0
NumbersRise low [] = Unit {0}
NumbersRise low (x ∷ xs) = (low ≤ x.number) × NumbersRise (x.number + 1) xs

all_none : (s : Scenario) (p : HostParams) (t : ℕ) (site : Site (List Script)) (bs : List Script)
    → AllTurned s p t site [] bs bs
all_none s p t site [] = tt
all_none s p t site (b ∷ bs) = (no_deeds s p t site b, all_none s p t site bs)

-- a deed that is no application's turn
all_stay : (s : Scenario) (p : HostParams) (t : ℕ) (site : Site (List Script)) (m : Deed ℕ) (bs : List Script)
    → ((n : ℕ) → turn_in s p m.action n ≡ 0) → AllAsked s p t site m bs bs
all_stay s p t site m [] zeros = tt
all_stay s p t site m (b ∷ bs) zeros = (stays s p t site m b (zeros b.number), all_stay s p t site m bs zeros)

all_more : (s : Scenario) (p : HostParams) (t : ℕ) (site : Site (List Script)) (m : Deed ℕ) (deeds : List (Deed ℕ))
    (bs cs az : List Script) → AllAsked s p t site m bs cs
    → AllTurned s p t (does (scripts_of s p) t site m) deeds cs az → AllTurned s p t site (m ∷ deeds) bs az
all_more s p t site m deeds [] [] [] x y = tt
all_more s p t site m deeds [] [] (a ∷ az) x y = absurd y
all_more s p t site m deeds [] (c ∷ cs) az x y = absurd x
all_more s p t site m deeds (b ∷ bs) [] az x y = absurd x
all_more s p t site m deeds (b ∷ bs) (c ∷ cs) [] x y = absurd y
all_more s p t site m deeds (b ∷ bs) (c ∷ cs) (a ∷ az) x y =
    (one_more s p t site m deeds b c a x.0 y.0, all_more s p t site m deeds bs cs az x.1 y.1)

-- numbers stay as they are
abbrev SameNumbers : (before after : List Script) → Type 0
SameNumbers bs az = OfEachScript (λ (b : Script) (a : Script). a.number ≡ b.number) bs az

pub of_each : (F G : Script → Script → Type 0) → ((b a : Script) → F b a → G b a) → (bs az : List Script)
    → OfEachScript F bs az → OfEachScript G bs az
of_each F G each [] [] all = tt
of_each F G each [] (a ∷ az) all = absurd all
of_each F G each (b ∷ bs) [] all = absurd all
of_each F G each (b ∷ bs) (a ∷ az) all = (each b a all.0, of_each F G each bs az all.1)

rise_after : (low : ℕ) (bs az : List Script) → SameNumbers bs az → NumbersRise low bs → NumbersRise low az
rise_after low [] [] all rise = tt
rise_after low [] (a ∷ az) all rise = absurd all
rise_after low (b ∷ bs) [] all rise = absurd all
rise_after low (b ∷ bs) (a ∷ az) all rise =
    let same : a.number ≡ b.number = all.0 in
    let here : low ≤ b.number = rise.0 in (
      omega arith,
      subst (λ (n : ℕ). NumbersRise (n + 1) az) (sym same) (rise_after (b.number + 1) bs az all.1 rise.1),
    )

-- ----- one is asked
abbrev turned : Scenario → HostParams → ℕ → Host → Script → Script
turned s p t host x =
    (turn (starts_of p) (address_in s.hosts) t (record { host = host; script = x })).script

turned_number : (s : Scenario) (p : HostParams) (t : ℕ) (host : Host) (x : Script)
    → (turned s p t host x).number ≡ x.number
turned_number s p t host x =
    (turn_goes (starts_of p) (address_in s.hosts) t (record { host = host; script = x })).number

abbrev asked_where : Scenario → HostParams → ℕ → Host → Option Script → List Script → List Script
asked_where s p t host None bs = bs
asked_where s p t host (Some x) bs =
    change_first (λ (b : Script). b.number == (turned s p t host x).number) (λ (b : Script). turned s p t host x) bs

pub found_number : (k : ℕ) (bs : List Script) (x : Script) → find (λ (b : Script). b.number == k) bs ≡ Some x
    → (x.number == k) ≡ true
found_number k [] x h = absurd (cc (h))
found_number k (b ∷ bs) x h = by_test (b.number == k) refl h (found_number k bs x) where
  by_test : (c : Bool) → (b.number == k) ≡ c
      → cond c (Some b) (find (λ (b : Script). b.number == k) bs) ≡ Some x
      → (find (λ (b : Script). b.number == k) bs ≡ Some x → (x.number == k) ≡ true) → (x.number == k) ≡ true
  by_test true e h rest = let same : b ≡ x = cc (h) in subst (λ (y : Script). (y.number == k) ≡ true) same e
  by_test false e h rest = rest h

changed_here : (test : Script → Bool) (f : Script → Script) (x : Script) (xs : List Script) → test x ≡ true
    → change_first test f (x ∷ xs) ≡ f x ∷ xs
changed_here test f x xs h =
    ap (λ (c : Bool). elim c [ true ↦ f x ∷ xs | false ↦ x ∷ change_first test f xs ]) h

changed_later : (test : Script → Bool) (f : Script → Script) (x : Script) (xs : List Script) → test x ≡ false
    → change_first test f (x ∷ xs) ≡ x ∷ change_first test f xs
changed_later test f x xs h =
    ap (λ (c : Bool). elim c [ true ↦ f x ∷ xs | false ↦ x ∷ change_first test f xs ]) h

-- what asking the script with this number leaves of one; `o` is what was found under the number
record AskedBy (s : Scenario) (p : HostParams) (t k : ℕ) (host : Host) (o : Option Script) (b a : Script) : Type 0 where
  number : a.number ≡ b.number
  none : one_if (b.number == k) ≡ 0 → a ≡ b
  found : one_if (b.number == k) ≡ 1 → o ≡ Some b
  script : one_if (b.number == k) ≡ 1 → a ≡ turned s p t host b

other_stays : (s : Scenario) (p : HostParams) (t k : ℕ) (host : Host) (o : Option Script) (b : Script)
    → (b.number == k) ≡ false → AskedBy s p t k host o b b
other_stays s p t k host o b other =
    let none_here : one_if (b.number == k) ≡ 0 = ap one_if other in
    record {
      number = refl;
      none = λ h. refl;
      found = λ h. absurd (omega arith);
      script = λ h. absurd (omega arith);
    }

-- no script from here on has this number
later_stay : (s : Scenario) (p : HostParams) (t k low : ℕ) (host : Host) (o : Option Script) (bs : List Script)
    → k < low → NumbersRise low bs → OfEachScript (AskedBy s p t k host o) bs bs
later_stay s p t k low host o [] small rise = tt
later_stay s p t k low host o (b ∷ bs) small rise =
    let here : low ≤ b.number = rise.0 in
    let above : k < b.number = omega arith in
    let other : (b.number == k) ≡ false = grind (arith, tests, above) in (
      other_stays s p t k host o b other,
      later_stay s p t k (b.number + 1) host o bs (omega arith) rise.1,
    )

one_asked : (s : Scenario) (p : HostParams) (t k low : ℕ) (host : Host) (bs : List Script) → NumbersRise low bs
    → (o : Option Script) → find (λ (b : Script). b.number == k) bs ≡ o
    → OfEachScript (AskedBy s p t k host o) bs (asked_where s p t host o bs)
one_asked s p t k low host [] rise None h = tt
one_asked s p t k low host [] rise (Some x) h = tt
one_asked s p t k low host (b ∷ bs) rise None h =
    by_test (b.number == k) refl h (one_asked s p t k (b.number + 1) host bs rise.1 None)
  where
    by_test : (c : Bool) → (b.number == k) ≡ c
        → cond c (Some b) (find (λ (b : Script). b.number == k) bs) ≡ None
        → (find (λ (b : Script). b.number == k) bs ≡ None → OfEachScript (AskedBy s p t k host None) bs bs)
        → OfEachScript (AskedBy s p t k host None) (b ∷ bs) (b ∷ bs)
    by_test true e h rest = absurd (cc (h))
    by_test false e h rest = (other_stays s p t k host None b e, rest h)
one_asked s p t k low host (b ∷ bs) rise (Some x) h =
    by_test (b.number == k) refl h (one_asked s p t k (b.number + 1) host bs rise.1 (Some x))
  where
    by_test : (c : Bool) → (b.number == k) ≡ c
        → cond c (Some b) (find (λ (b : Script). b.number == k) bs) ≡ Some x
        → (find (λ (b : Script). b.number == k) bs ≡ Some x
        → OfEachScript (AskedBy s p t k host (Some x)) bs
        (change_first (λ (b : Script). b.number == (turned s p t host x).number)
        (λ (b : Script). turned s p t host x) bs))
        → OfEachScript (AskedBy s p t k host (Some x)) (b ∷ bs)
        (change_first (λ (b : Script). b.number == (turned s p t host x).number)
        (λ (b : Script). turned s p t host x) (b ∷ bs))
    by_test true e h rest =
        let same : b ≡ x = cc (h) in
        let number : (turned s p t host x).number ≡ b.number =
        turned_number s p t host x ∙ ap (λ (y : Script). y.number) (sym same) in
        let here : (b.number == (turned s p t host x).number) ≡ true = grind (arith, tests, number) in
        let small : k < b.number + 1 = grind (arith, tests, e) in
        let one_here : one_if (b.number == k) ≡ 1 = ap one_if e in
        subst (OfEachScript (AskedBy s p t k host (Some x)) (b ∷ bs))
        (sym (changed_here (λ (b : Script). b.number == (turned s p t host x).number)
        (λ (b : Script). turned s p t host x) b bs here)) (
          record {
            number = number;
            none = λ g. absurd (omega arith);
            found = λ g. ap Some (sym same);
            script = λ g. ap (turned s p t host) (sym same);
          },
          later_stay s p t k (b.number + 1) host (Some x) bs small rise.1,
        )
    by_test false e h rest =
        let found : (x.number == k) ≡ true = found_number k bs x h in
        let number : (turned s p t host x).number ≡ x.number = turned_number s p t host x in
        let other : (b.number == (turned s p t host x).number) ≡ false = grind (arith, tests, number, found, e) in
        subst (OfEachScript (AskedBy s p t k host (Some x)) (b ∷ bs))
        (sym (changed_later (λ (b : Script). b.number == (turned s p t host x).number)
        (λ (b : Script). turned s p t host x) b bs other)) (
          other_stays s p t k host (Some x) b e,
          rest h,
        )

-- ----- a tick
pub asked_is : (s : Scenario) (p : HostParams) (t : ℕ) (o : Option Script) (site : Site (List Script))
    → (asked_of (starts_of p) (address_in s.hosts) t o site).scripts ≡ asked_where s p t site.host o site.scripts
asked_is s p t None site = refl
asked_is s p t (Some x) site = refl

by_ask : (s : Scenario) (p : HostParams) (t k : ℕ) (site : Site (List Script)) (by : Caller) (b a : Script)
    → AskedBy s p t k site.host (find (λ (x : Script). x.number == k) site.scripts) b a
    → Asked s p t site (record { by = by; action = Ask k }) b a
by_ask s p t k site by b a asked = record {
  number = asked.number;
  none = asked.none;
  asks = λ h. ap Ask (same_number (b.number == k) refl h);
  script = asked.script;
  host = λ h. ap (λ (o : Option Script). (asked_of (starts_of p) (address_in s.hosts) t o site).host) (asked.found h);
} where
  same_number : (c : Bool) → (b.number == k) ≡ c → one_if c ≡ 1 → k ≡ b.number
  same_number true e h = grind (arith, tests, e)
  same_number false e h = absurd (omega arith)

done_turned : (s : Scenario) (p : HostParams) (t low : ℕ) (site : Site (List Script)) (by : Caller) (action : Act)
    → NumbersRise low site.scripts
    → AllAsked s p t site (record { by = by; action = action }) site.scripts
    (done_by (scripts_of s p) t site by action).scripts
done_turned s p t low site by (Timer n) rise = all_stay s p t site _ site.scripts (λ n. refl)
done_turned s p t low site by (Frame x) rise = all_stay s p t site _ site.scripts (λ n. refl)
done_turned s p t low site by (Ask k) rise =
    let o : Option Script = find (λ (b : Script). b.number == k) site.scripts in
    subst (AllAsked s p t site (record { by = by; action = Ask k }) site.scripts) (sym (asked_is s p t o site))
    (of_each (AskedBy s p t k site.host o) (Asked s p t site (record { by = by; action = Ask k }))
    (λ b a asked. by_ask s p t k site by b a asked) site.scripts (asked_where s p t site.host o site.scripts)
    (one_asked s p t k low site.host site.scripts rise o refl))
done_turned s p t low site by (Emission n) rise = all_stay s p t site _ site.scripts (λ n. refl)

-- each deed keeps the numbers of the scripts
pub deed_rises : (s : Scenario) (p : HostParams) (t low : ℕ) (site : Site (List Script)) (m : Deed ℕ)
    → NumbersRise low site.scripts → NumbersRise low (does (scripts_of s p) t site m).scripts
deed_rises s p t low site m rise =
    rise_after low site.scripts (does (scripts_of s p) t site m).scripts
    (of_each (Asked s p t site m) (λ b a. a.number ≡ b.number) (λ b a asked. asked.number) site.scripts
    (does (scripts_of s p) t site m).scripts (done_turned s p t low site m.by m.action rise)) rise

all_turned : (s : Scenario) (p : HostParams) (t low : ℕ) (site : Site (List Script)) (order : List (Deed ℕ))
    → NumbersRise low site.scripts
    → AllTurned s p t site order site.scripts (fold (does (scripts_of s p) t) site order).scripts
all_turned s p t low site [] rise = all_none s p t site site.scripts
all_turned s p t low site (m ∷ order) rise =
    let next : Site (List Script) = does (scripts_of s p) t site m in
    all_more s p t site m order site.scripts next.scripts (fold (does (scripts_of s p) t) next order).scripts
    (done_turned s p t low site m.by m.action rise)
    (all_turned s p t low next order (deed_rises s p t low site m rise))

-- ----- what is due
pub turns_filter : (s : Scenario) (p : HostParams) (n : ℕ) (xs : List Act)
    → turns_in s p (filter (is_by (scripts_of s p) (OfScript n)) xs) n ≡ turns_in s p xs n
turns_filter s p n [] = refl
turns_filter s p n (a ∷ xs) = by_test (is_by (scripts_of s p) (OfScript n) a) refl (turns_filter s p n xs) where
  by_test : (b : Bool) → is_by (scripts_of s p) (OfScript n) a ≡ b
      → turns_in s p (filter (is_by (scripts_of s p) (OfScript n)) xs) n ≡ turns_in s p xs n
      → turns_in s p (cond b (a ∷ filter (is_by (scripts_of s p) (OfScript n)) xs)
      (filter (is_by (scripts_of s p) (OfScript n)) xs)) n
      ≡ turn_in s p a n + turns_in s p xs n
  by_test true h rest = omega arith
  by_test false h rest = let none_here : turn_in s p a n ≡ 0 = ap one_if h in omega arith

-- timers and frames ask nothing
pub timers_pass : (s : Scenario) (p : HostParams) (n i : ℕ) (ls : List Live) (rest : List Act)
    → turns_in s p (timers_from i ls ++ rest) n ≡ turns_in s p rest n
timers_pass s p n i [] rest = refl
timers_pass s p n i (l ∷ ls) rest =
    let more : turns_in s p (timers_from (i + 1) ls ++ rest) n ≡ turns_in s p rest n =
    timers_pass s p n (i + 1) ls rest in omega arith

pub frames_pass : (s : Scenario) (p : HostParams) (n : ℕ) (frames : List Arrival) (rest : List Act)
    → turns_in s p (map Frame frames ++ rest) n ≡ turns_in s p rest n
frames_pass s p n [] rest = refl
frames_pass s p n (x ∷ xs) rest =
    let more : turns_in s p (map Frame xs ++ rest) n ≡ turns_in s p rest n = frames_pass s p n xs rest in omega arith

abbrev pub asks_of : List Script → List Act
asks_of bs = map Ask (map (λ (x : Script). x.number) bs)

pub later_none : (s : Scenario) (p : HostParams) (n low : ℕ) (bs : List Script) → n < low → NumbersRise low bs
    → turns_in s p (asks_of bs) n ≡ 0
later_none s p n low [] small rise = refl
later_none s p n low (b ∷ bs) small rise =
    let here : low ≤ b.number = rise.0 in
    let above : n < b.number = omega arith in
    let other : (n == b.number) ≡ false = grind (arith, tests, above) in
    let none_here : one_if (n == b.number) ≡ 0 = ap one_if other in
    let rest : turns_in s p (asks_of bs) n ≡ 0 = later_none s p n (b.number + 1) bs (omega arith) rise.1 in
    omega arith

-- each script's number is asked once
abbrev Once : Scenario → HostParams → List Script → (turns : ℕ → ℕ) → Type 0
Once s p bs turns = OfEachScript (λ (b : Script) (a : Script). turns b.number ≡ 1) bs bs

once_from : (s : Scenario) (p : HostParams) (turns : ℕ → ℕ) (low : ℕ) (bs : List Script) → NumbersRise low bs
    → ((n : ℕ) → low ≤ n → turns n ≡ turns_in s p (asks_of bs) n) → Once s p bs turns
once_from s p turns low [] rise are = tt
once_from s p turns low (b ∷ bs) rise are =
    let here : low ≤ b.number = rise.0 in
    let mine : one_if (b.number == b.number) ≡ 1 = grind (arith, tests) in
    let rest : turns_in s p (asks_of bs) b.number ≡ 0 =
    later_none s p b.number (b.number + 1) bs (omega arith) rise.1 in
    let all : turns b.number ≡ one_if (b.number == b.number) + turns_in s p (asks_of bs) b.number =
    are b.number here in (
      omega arith,
      once_from s p turns (b.number + 1) bs rise.1 (λ n h. beyond n h (are n (omega arith))),
    )
  where
    beyond : (n : ℕ) → b.number + 1 ≤ n
        → turns n ≡ one_if (n == b.number) + turns_in s p (asks_of bs) n → turns n ≡ turns_in s p (asks_of bs) n
    beyond n h all =
        let other : (n == b.number) ≡ false = grind (arith, tests, h) in
        let none_here : one_if (n == b.number) ≡ 0 = ap one_if other in omega arith

had_turns : (s : Scenario) (p : HostParams) (t : ℕ) (site : Site (List Script)) (deeds : List (Deed ℕ))
    (bs az : List Script) → Once s p bs (turns_in s p (actions_of deeds)) → AllTurned s p t site deeds bs az
    → OfEachScript (HadTurn s p t site deeds) bs az
had_turns s p t site deeds [] [] once all = tt
had_turns s p t site deeds [] (a ∷ az) once all = absurd all
had_turns s p t site deeds (b ∷ bs) [] once all = absurd all
had_turns s p t site deeds (b ∷ bs) (a ∷ az) once all =
    (all.0.one once.0, had_turns s p t site deeds bs az once.1 all.1)

-- In a tick in which each application of a host is due to be asked, each has one turn.
pub round_turned : (s : Scenario) (p : HostParams) (t : ℕ) (frames : List Arrival) (b a : Site (List Script))
    → NumbersRise 0 b.scripts
    → (round :
    Round (scripts_of s p) t (record { frames = frames; asks = map (λ (x : Script). x.number) b.scripts }) b a)
    → OfEachScript (HadTurn s p t (on_host all_swept b) round.order) b.scripts a.scripts × NumbersRise 0 a.scripts
round_turned s p t frames b a rise round =
    let first : Site (List Script) = on_host all_swept b in
    let all : AllTurned s p t first round.order b.scripts a.scripts =
    subst (λ (site : Site (List Script)). AllTurned s p t first round.order b.scripts site.scripts) round.made
    (all_turned s p t 0 first round.order rise) in (
      had_turns s p t first round.order b.scripts a.scripts
          (once_from s p (turns_in s p (actions_of round.order)) 0 b.scripts rise (λ n h. turns_are n)) all,
      rise_after 0 b.scripts a.scripts
          (of_each (Turned s p t first round.order) (λ b a. a.number ≡ b.number) (λ b a turns. turns.number) b.scripts
          a.scripts all)
          rise,
    )
  where
    turns_are : (n : ℕ) → turns_in s p (actions_of round.order) n ≡ turns_in s p (asks_of b.scripts) n
    turns_are n =
        sym (turns_filter s p n (actions_of round.order))
        ∙ ap (λ (xs : List Act). turns_in s p xs n) (round.due_each (OfScript n))
        ∙ turns_filter s p n _
        ∙ timers_pass s p n 0 b.host.flows (map Frame frames ++ asks_of b.scripts)
        ∙ frames_pass s p n frames (asks_of b.scripts)
