-- Scripts have their turns, one after the other, on what the turns before left of their host.
use Rattle.std.proofs.Common.{◌≡◌, ◌<◌, ℕ, zero, suc, true, List, [], ◌∷◌, ◌++◌, length}
use Rattle.std.proofs.Common.{Option, refl, sym, ap, subst, ◌∙◌, arith}
use Rattle.std.specs.List.{find}
use Rattle.tas_model.specs.declared.entry.HostParams.{HostParams}
use Rattle.host_rounds.specs.Hosts.{Live, Host, Application}
use Rattle.host_rounds.specs.Lists.{Each}
use Rattle.host_rounds.specs.Scripts.{Site}
use Rattle.host_rounds.specs.SerialOrder.{ask_phase}
use Rattle.scenario_text.specs.declared.scenario.Scenario.{Scenario}
use Rattle.scenario_runs.specs.Applications.{Bound, AListener, ASocket, Script, Turn, turn, is_killed_at}
use Rattle.scenario_runs.specs.Worlds.{starts_of, address_in, scripts_of, asked_of, with_turn}
use Rattle.scenario_laws.specs.Names.{holder_at, IsHeld, AreOwn}
use Rattle.scenario_laws.specs.Turns.{GoesOn}
use Rattle.scenario_laws.proofs.FlowByFlow.{turn_leaves, turn_owns}
use Rattle.scenario_laws.proofs.Goes as steps
use Rattle.scenario_laws.proofs.Sockets.{own_still, not_waiting}
use Rattle.scenario_host.specs.Sound.{AreRising, IsFit, IsPlace, IsOneOf}
use Rattle.scenario_host.specs.Tries.{IsAtStep}
use Rattle.scenario_host.specs.Turns.{turn_of, site_with}
use Rattle.scenario_host.proofs.Going.{Goes, turn_goes}
use Rattle.shared_scripts.specs.Begun.{has_number}
use Rattle.shared_scripts.specs.Turns.{HadTurns}
use Rattle.shared_scripts.specs.Playing.{Owns}
use Rattle.shared_scripts.proofs.Rising.{rising_with, find_middle, put_middle, later_differ, append_one}
use Rattle.shared_scripts.proofs.Rising.{IsBelow, each_more}

-- ----- sockets are of flows that the host has
held_inside : (ls : List Live) (n k : ℕ) → holder_at ls k ≡ Application n → k < length ls
held_inside [] n k held = absurd (not_waiting n held)
held_inside (l ∷ ls) n zero held = omega arith
held_inside (l ∷ ls) n (suc k) held = omega (arith, held_inside ls n k held)

names_inside : (ls : List Live) (n : ℕ) (names : List (List ℕ × Bound))
    → Each (λ (b : List ℕ × Bound). IsHeld ls n b.1) names
    → Each (λ (b : List ℕ × Bound). IsOneOf (IsPlace (length ls)) b.1) names
names_inside ls n names each =
    each_more (λ (b : List ℕ × Bound). IsHeld ls n b.1) (λ (b : List ℕ × Bound). IsOneOf (IsPlace (length ls)) b.1)
    (λ b held. one b.1 held) names each
  where
    one : (c : Bound) → IsHeld ls n c → IsOneOf (IsPlace (length ls)) c
    one (AListener port) held = tt
    one (ASocket k) held = held_inside ls n k held

pub fit_by : (host : Host) (x : Script) → IsAtStep x → Owns host.flows x → IsFit (length host.flows) x
fit_by host x at own =
    record { steps = at.steps; part = at.part; names = names_inside host.flows x.number x.names own.held }

-- ----- one turn
-- It leaves this of the host and the script.
pub record HadTurn (s : Scenario) (p : HostParams) (t : ℕ) (before after : Host) (x y : Script) : Type 0 where
  pub params : after.params ≡ before.params
  pub number : y.number ≡ x.number
  pub kill : y.kill ≡ x.kill
  pub ended : is_killed_at t x.kill ≡ true → y.left ≡ []
  pub step : IsAtStep y
  pub own : Owns after.flows y
  pub others : (m : ℕ) → (m ≡ x.number → ⊥) → (k : ℕ) → holder_at before.flows k ≡ Application m
      → holder_at after.flows k ≡ Application m

pub had_turn : (s : Scenario) (p : HostParams) (t : ℕ) (before after : Host) (x y : Script)
    → turn_of after y ≡ turn (starts_of p) (address_in s.hosts) t (turn_of before x) → IsAtStep x
    → Owns before.flows x → HadTurn s p t before after x y
had_turn s p t before after x y made at own = record {
  params = ap (λ (z : Turn). z.host.params) made ∙ goes.host.params;
  number = number;
  kill = ap (λ (z : Turn). z.script.kill) made ∙ on.kill;
  ended = λ killed. ap (λ (z : Turn). z.script.left) made ∙ on.killed killed;
  step = record {
    steps = fit.steps;
    part = fit.part;
  };
  own = subst (λ (n : ℕ). AreOwn after.flows n y.names) (sym number)
      (subst (λ (z : Turn). AreOwn z.host.flows x.number z.script.names) (sym made) (turn_owns s p t before x own));
  others = λ m other k held.
      subst (λ (z : Turn). holder_at z.host.flows k ≡ Application m) (sym made)
      (turn_leaves s p t before x own m other k held);
} where
  here : Turn
  here = turn_of before x

  goes : Goes here (turn (starts_of p) (address_in s.hosts) t here)
  goes = turn_goes (starts_of p) (address_in s.hosts) t here (fit_by before x at own)

  on : GoesOn t x (turn (starts_of p) (address_in s.hosts) t here).script
  on = steps.turn_goes (starts_of p) (address_in s.hosts) t here

  number : y.number ≡ x.number
  number = ap (λ (z : Turn). z.script.number) made ∙ on.number

  fit : IsFit (length after.flows) y
  fit = subst (λ (z : Turn). IsFit (length z.host.flows) z.script) (sym made) goes.fit

-- ----- several turns
module _ (s : Scenario) (p : HostParams) (t : ℕ) where
  pub no_turns : (host : Host) → HadTurns s p t host host [] [] []
  no_turns host = record {
    asked = λ front rising. refl;
    params = refl;
    others = λ m none k held. held;
    numbers = refl;
    steps = tt;
    own = tt;
  }

  abbrev asked_one : Site (List Script) → ℕ → Site (List Script)
  asked_one site n = asked_of (starts_of p) (address_in s.hosts) t (find (has_number n) site.scripts) site

  -- the turn of one of them
  turned : (before mid : Host) (front : List Script) (x y : Script) (xs : List Script)
      → turn_of mid y ≡ turn (starts_of p) (address_in s.hosts) t (turn_of before x) → y.number ≡ x.number
      → AreRising (front ++ x ∷ xs)
      → asked_one (site_with before (front ++ x ∷ xs)) x.number ≡ site_with mid (front ++ y ∷ xs)
  turned before mid front x y xs made number rising =
      ap (λ (o : Option Script). asked_of (starts_of p) (address_in s.hosts) t o (site_with before (front ++ x ∷ xs)))
      (find_middle front x xs rising)
      ∙ (ap (λ (z : Turn). with_turn z (front ++ x ∷ xs)) (sym made)
      ∙ ap (site_with mid) (put_middle front x y xs number rising))

  -- the script in front keeps its sockets while the others have their turns
  pub own_then : (mid after : Host) (y : Script) (xs ys : List Script) (turns : List ℕ) → Each (IsBelow y.number) xs
      → HadTurns s p t mid after xs ys turns → Owns mid.flows y → Owns after.flows y
  own_then mid after y xs ys turns below rest own =
      own_still mid.flows after.flows y.number y.names
      (λ k held. rest.others y.number (later_differ y.number xs below) k held) own

  -- one has its turn, and then the others have theirs
  pub turns_more : (before mid after : Host) (x y : Script) (xs ys : List Script) (turns : List ℕ)
      → turn_of mid y ≡ turn (starts_of p) (address_in s.hosts) t (turn_of before x)
      → HadTurn s p t before mid x y → AreRising (x ∷ xs) → HadTurns s p t mid after xs ys turns
      → HadTurns s p t before after (x ∷ xs) (y ∷ ys) (x.number ∷ turns)
  turns_more before mid after x y xs ys turns made one rising rest = record {
    asked = λ front up.
        ap (λ (site : Site (List Script)). ask_phase (scripts_of s p) t site turns)
        (turned before mid front x y xs made one.number up)
        ∙ (ap (λ (zs : List Script). ask_phase (scripts_of s p) t (site_with mid zs) turns)
        (sym (append_one front y xs))
        ∙ (rest.asked (front ++ y ∷ [])
        (subst AreRising (sym (append_one front y xs)) (rising_with front x y xs one.number up))
        ∙ ap (site_with after) (append_one front y ys)));
    params = rest.params ∙ one.params;
    others = λ m none k held. rest.others m none.1 k (one.others m (λ same. none.0 (sym same)) k held);
    numbers = λ i. one.number i ∷ rest.numbers i;
    steps = (one.step, rest.steps);
    own = (
      own_then mid after y xs ys turns
          (subst (λ (n : ℕ). Each (IsBelow n) xs) (sym one.number) rising.0) rest one.own,
      rest.own,
    );
  }

  -- one is passed over
  pub turns_passed : (before after : Host) (x : Script) (xs ys : List Script) (turns : List ℕ) → IsAtStep x
      → Owns before.flows x → AreRising (x ∷ xs) → HadTurns s p t before after xs ys turns
      → HadTurns s p t before after (x ∷ xs) (x ∷ ys) turns
  turns_passed before after x xs ys turns at own rising rest = record {
    asked = λ front up.
        ap (λ (zs : List Script). ask_phase (scripts_of s p) t (site_with before zs) turns)
        (sym (append_one front x xs))
        ∙ (rest.asked (front ++ x ∷ []) (subst AreRising (sym (append_one front x xs)) up)
        ∙ ap (site_with after) (append_one front x ys));
    params = rest.params;
    others = λ m none k held. rest.others m none.1 k held;
    numbers = ap (λ ns. x.number ∷ ns) rest.numbers;
    steps = (at, rest.steps);
    own = (own_then before after x xs ys turns rising.0 rest own, rest.own);
  }
