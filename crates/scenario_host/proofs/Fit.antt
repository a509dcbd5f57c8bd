-- A turn leaves its script fit for the host.
use Rattle.std.proofs.Common.{◌≡◌, ◌≤◌, ◌<◌, ◌+◌, ◌==◌, ℕ, Bool, true, false, not, List, [], ◌∷◌}
use Rattle.std.proofs.Common.{length, drop, filter, cond, bytes_eq, Option, Some, None, refl, arith}
use Rattle.std.specs.Bool.{⊤}
use Rattle.std.proofs.lemmas.Bool.Decides.{nat_tests}
use Rattle.tas_model.specs.declared.entry.Reply.{Reply}
use Rattle.tas_model.specs.declared.entry.Reply.TheVariants as replies
use Rattle.tas_model.specs.LegalHistory.{taken_bytes}
use Rattle.scenario_host.proofs.Replies.{given_bytes}
use Rattle.tas_model.proofs.Tests.{on_cond}
use Rattle.host_rounds.specs.Lists.{Each}
use Rattle.host_rounds.proofs.Lists.{each_append}
use Rattle.scenario_text.specs.declared.scenario.Step.{Step}
use Rattle.scenario_text.specs.declared.scenario.Step.TheVariants as steps
use Rattle.scenario_ranges.specs.Ranges.{IsStepInRange}
use Rattle.scenario_runs.specs.Applications.{Bound, AListener, ASocket, Script, bind, unbind, stepped, done_or}
use Rattle.scenario_runs.specs.Applications.{sent_on, received_on}
use Rattle.scenario_host.specs.Answers.{IsWithin}
use Rattle.scenario_host.specs.Sound.{IsPart, IsPartOfFirst, IsOneOf, AreNamesOf, IsPlace, IsFit}

-- ----- names
one_more : (n m : ℕ) → n ≤ m → (b : Bound) → IsOneOf (IsPlace n) b → IsOneOf (IsPlace m) b
one_more n m more (AListener port) one = tt
one_more n m more (ASocket place) one = omega (arith, one)

names_more : (n m : ℕ) → n ≤ m → (bs : List (List ℕ × Bound)) → AreNamesOf (IsPlace n) bs → AreNamesOf (IsPlace m) bs
names_more n m more [] each = tt
names_more n m more (b ∷ bs) each = (one_more n m more b.1 each.0, names_more n m more bs each.1)

pub fit_more : (n m : ℕ) (s : Script) → n ≤ m → IsFit n s → IsFit m s
fit_more n m s more fit = record { steps = fit.steps; part = fit.part; names = names_more n m more s.names fit.names }

pub fit_bound : (n : ℕ) (name : List ℕ) (b : Bound) (s : Script) → IsOneOf (IsPlace n) b → IsFit n s
    → IsFit n (bind name b s)
fit_bound n name b s one fit = record {
  steps = fit.steps;
  part = fit.part;
  names = each_append (λ (p : List ℕ × Bound). IsOneOf (IsPlace n) p.1) s.names ((name, b) ∷ []) fit.names (one, tt);
}

each_kept : {X : Type 0} (P : X → Type 0) (test : X → Bool) (xs : List X) → Each P xs → Each P (filter test xs)
each_kept P test [] each = tt
each_kept {X} P test (x ∷ xs) each = by_test (test x) (each_kept P test xs each.1) where
  by_test : (b : Bool) → Each P (filter test xs) → Each P (cond b (x ∷ filter test xs) (filter test xs))
  by_test true rest = (each.0, rest)
  by_test false rest = rest

pub fit_unbound : (n : ℕ) (name : List ℕ) (s : Script) → IsFit n s → IsFit n (unbind name s)
fit_unbound n name s fit = record {
  steps = fit.steps;
  part = fit.part;
  names = each_kept (λ (b : List ℕ × Bound). IsOneOf (IsPlace n) b.1)
      (λ (b : List ℕ × Bound). not (bytes_eq b.0 name)) s.names fit.names;
}

-- ----- steps
none_done : (step : Step) → IsStepInRange step → IsPart step 0
none_done (steps.Listen name port) range = tt
none_done (steps.Accept socket listener) range = tt
none_done (steps.Connect socket host port) range = tt
none_done (steps.Send socket text) range = omega (arith, range.0)
none_done (steps.Fill socket count) range = omega (arith, range.0)
none_done (steps.Recv socket count) range = omega (arith, range.0)
none_done (steps.Drain socket) range = tt
none_done (steps.Shut socket) range = tt
none_done (steps.Close socket) range = tt
none_done (steps.Abort socket) range = tt
none_done (steps.Wait ticks) range = omega (arith, range.0)

pub part_of_none : (left : List Step) → Each IsStepInRange left → IsPartOfFirst left 0
part_of_none [] ranges = tt
part_of_none (step ∷ rest) ranges = none_done step ranges.0

later_ranges : (left : List Step) → Each IsStepInRange left → Each IsStepInRange (drop 1 left)
later_ranges [] ranges = tt
later_ranges (step ∷ rest) ranges = ranges.1

pub fit_stepped : (n : ℕ) (s : Script) → IsFit n s → IsFit n (stepped s)
fit_stepped n s fit = record {
  steps = later_ranges s.left fit.steps;
  part = part_of_none (drop 1 s.left) (later_ranges s.left fit.steps);
  names = fit.names;
}

-- A part below all leaves the step under way.
pub record IsUnderWay (all : ℕ) (s : Script) : Type 0 where
  pub goes_on : (done : ℕ) → done < all → IsPartOfFirst s.left done

-- a script of the same application, fit for so many flows
pub record StaysFit (n : ℕ) (before after : Script) : Type 0 where
  pub fit : IsFit n after
  pub number : after.number ≡ before.number

pub stays_same : (n : ℕ) (s : Script) → IsFit n s → StaysFit n s s
stays_same n s fit = record { fit = fit; number = refl }

pub stays_stepped : (n : ℕ) (s : Script) → IsFit n s → StaysFit n s (stepped s)
stays_stepped n s fit = record { fit = fit_stepped n s fit; number = refl }

pub stays_done : (n all done : ℕ) (s : Script) → IsUnderWay all s → done ≤ all → IsFit n s
    → StaysFit n s (done_or (done == all) done s)
stays_done n all done s under few fit =
    on_cond (StaysFit n s) (done == all) (stepped s) (record s { done = done }) (λ t. stays_stepped n s fit)
    (λ f. record {
      fit = record {
        steps = fit.steps;
        part = under.goes_on done (grind (arith, nat_tests, f, few));
        names = fit.names;
      };
      number = refl;
    })

-- ----- send, recv
pub stays_sent : (reply : Reply) (n all : ℕ) (s : Script) → IsUnderWay all s
    → s.done + length (taken_bytes reply) ≤ all → IsFit n s → StaysFit n s (sent_on reply all s)
stays_sent (replies.Took bytes) n all s under few fit = stays_done n all (s.done + length bytes) s under few fit
stays_sent replies.NotYet n all s under few fit = stays_same n s fit
stays_sent replies.Ok n all s under few fit = stays_stepped n s fit
stays_sent replies.Nothing n all s under few fit = stays_stepped n s fit
stays_sent (replies.Sent seg) n all s under few fit = stays_stepped n s fit
stays_sent (replies.Got bytes update) n all s under few fit = stays_stepped n s fit
stays_sent replies.End n all s under few fit = stays_stepped n s fit
stays_sent replies.NotOpen n all s under few fit = stays_stepped n s fit
stays_sent replies.Shut n all s under few fit = stays_stepped n s fit
stays_sent (replies.Closed reason) n all s under few fit = stays_stepped n s fit
stays_sent replies.Quiet n all s under few fit = stays_stepped n s fit
stays_sent replies.Resend n all s under few fit = stays_stepped n s fit
stays_sent replies.Probe n all s under few fit = stays_stepped n s fit
stays_sent replies.Expired n all s under few fit = stays_stepped n s fit
stays_sent replies.TimedOut n all s under few fit = stays_stepped n s fit
stays_sent (replies.Window cwnd ssthresh) n all s under few fit = stays_stepped n s fit

abbrev pub IsUnderWayTo : Option ℕ → Script → Type 0
IsUnderWayTo None s = ⊤
IsUnderWayTo (Some all) s = IsUnderWay all s

pub stays_received : (reply : Reply) (n : ℕ) (all : Option ℕ) (s : Script) → IsUnderWayTo all s
    → IsWithin all (s.done + length (given_bytes reply)) → IsFit n s → StaysFit n s (received_on reply all s)
stays_received (replies.Got bytes update) n None s under few fit = stays_same n s fit
stays_received (replies.Got bytes update) n (Some all) s under few fit =
    stays_done n all (s.done + length bytes) s under few fit
stays_received replies.NotYet n all s under few fit = stays_same n s fit
stays_received replies.Ok n all s under few fit = stays_stepped n s fit
stays_received replies.Nothing n all s under few fit = stays_stepped n s fit
stays_received (replies.Sent seg) n all s under few fit = stays_stepped n s fit
stays_received (replies.Took bytes) n all s under few fit = stays_stepped n s fit
stays_received replies.End n all s under few fit = stays_stepped n s fit
stays_received replies.NotOpen n all s under few fit = stays_stepped n s fit
stays_received replies.Shut n all s under few fit = stays_stepped n s fit
stays_received (replies.Closed reason) n all s under few fit = stays_stepped n s fit
stays_received replies.Quiet n all s under few fit = stays_stepped n s fit
stays_received replies.Resend n all s under few fit = stays_stepped n s fit
stays_received replies.Probe n all s under few fit = stays_stepped n s fit
stays_received replies.Expired n all s under few fit = stays_stepped n s fit
stays_received replies.TimedOut n all s under few fit = stays_stepped n s fit
stays_received (replies.Window cwnd ssthresh) n all s under few fit = stays_stepped n s fit
