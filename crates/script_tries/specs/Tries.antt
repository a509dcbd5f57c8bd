-- What the scripts of a host's applications try beside its cores, and how two tries keep out of each other's way.
use Rattle.std.specs.Prelude.{◌≡◌, ◌≢◌, ℕ, ◌==◌, false, List, slice_get, Option, Some, None, IfSome}
use Rattle.std.specs.List.{find}
use Rattle.tas_model.specs.declared.entry.FlowId.{FlowId}
use Rattle.tas_model.specs.declared.entry.Reply.{Reply}
use Rattle.host_rounds.specs.Lists.{Each, change_first}
use Rattle.host_rounds.specs.Scripts.{Scripts}
use Rattle.flow_lock.specs.Orders.{same_flow}
use Rattle.host_books.specs.Books.{Book, Setting}
use Rattle.host_books.specs.Tries.{Try, IsTry, MayPrecede}
use Rattle.host_books.specs.Words.{ArePairs}
use Rattle.scenario_text.specs.declared.scenario.Step.{Step}
use Rattle.scenario_runs.specs.Applications.{Script}
use Rattle.script_tries.specs.Steps.{call_at, offer_at, holds_at, by_reply, step_in, place_named, socket_at}
use Rattle.script_tries.specs.Steps.{place_at}

-- ----- one script
-- What a script asks beside the cores; it is asked by its application's number.
abbrev pub ScriptTry : Type 0
ScriptTry = Try (List Script) ℕ

-- The call of this step on this flow. By the reply its script goes on, and no other.
abbrev pub try_on : FlowId → Step → Script → ScriptTry
try_on id step s =
    record {
      ask = s.number;
      flow = id;
      app = s.number;
      call = call_at step s;
      offer = offer_at step s;
      holds = holds_at step;
      next = λ (reply : Reply). change_first (λ (x : Script). x.number == s.number) (by_reply step reply);
    }

abbrev pub try_for : Option Book → Step → Script → Option ScriptTry
try_for None step s = None
try_for (Some b) step s = Some (try_on b.id step s)

abbrev pub try_at : (place : Option ℕ) → List Book → Step → Script → Option ScriptTry
try_at None books step s = None
try_at (Some n) books step s = try_for (slice_get books n) step s

abbrev pub try_by : Option Step → List Book → Script → Option ScriptTry
try_by None books s = None
try_by (Some step) books s = try_at (place_named (socket_at step) s) books step s

-- What the script tries in the tick: the call of its step, where that is one on a socket and the name stands for one.
-- An application that is killed in the tick, and one whose script has ended, tries nothing.
abbrev pub try_of : (tick : ℕ) → List Book → Script → Option ScriptTry
try_of t books s = try_by (step_in t s) books s

-- What the script tries is the call of the step under way, on the flow of the book at its place.
pub record IsTryOfStep (t : ℕ) (books : List Book) (s : Script) (x : ScriptTry) : Type 0 where
  pub step : Step
  pub under_way : step_in t s ≡ Some step
  pub place : ℕ
  pub at : place_at t s ≡ Some place
  pub book : Book
  pub there : slice_get books place ≡ Some book
  pub is : x ≡ try_on book.id step s

-- ----- several scripts
-- The script with this number among them tries it.
pub record IsTriedBy (t : ℕ) (books : List Book) (scripts : List Script) (x : ScriptTry) : Type 0 where
  pub script : Script
  pub found : find (λ (s : Script). s.number == x.ask) scripts ≡ Some script
  pub tries : try_of t books script ≡ Some x

-- They are of two scripts.
abbrev pub DifferInAsk : Option ScriptTry → Option ScriptTry → Type 0
DifferInAsk o q = IfSome o (λ (x : ScriptTry). IfSome q (λ (y : ScriptTry). x.ask ≢ y.ask))

-- Each is what one of these scripts tries as it stands, or nothing, in whatever order; of each script there is one at
-- most.
pub record AreTriedBy (t : ℕ) (books : List Book) (scripts : List Script) (tries : List (Option ScriptTry)) : Type 0
  where
    pub each : Each (λ (o : Option ScriptTry). IfSome o (IsTriedBy t books scripts)) tries
    pub once : ArePairs DifferInAsk tries

-- ----- tries of a host
-- Each is an ask of its script as that stands.
abbrev pub AreAsks : {S A : Type 0} → Scripts S A → (t : ℕ) → Setting → S → List (Option (Try S A)) → Type 0
AreAsks {S} {A} scripts t s state tries =
    Each (λ (o : Option (Try S A)). IfSome o (IsTry scripts t s state)) tries

-- Each of the two leaves the other as it is, whatever it is answered. They are of different flows, and it doesn't
-- matter which of their scripts goes on first.
pub record AreIndependent {S A : Type 0} (scripts : Scripts S A) (t : ℕ) (x y : Try S A) : Type 0 where
  pub first : MayPrecede scripts t x y
  pub second : MayPrecede scripts t y x
  pub flow : same_flow x.flow y.flow ≡ false
  pub next : (r q : Reply) (state : S) → y.next q (x.next r state) ≡ x.next r (y.next q state)

-- so it is with what may be nothing
abbrev pub MayStandTogether : {S A : Type 0} → Scripts S A → (t : ℕ) → Option (Try S A) → Option (Try S A) → Type 0
MayStandTogether {S} {A} scripts t o q =
    IfSome o (λ (x : Try S A). IfSome q (λ (y : Try S A). AreIndependent scripts t x y))

-- and with each two of them
abbrev pub AreAllIndependent : {S A : Type 0} → Scripts S A → (t : ℕ) → List (Option (Try S A)) → Type 0
AreAllIndependent scripts t tries = ArePairs (MayStandTogether scripts t) tries
