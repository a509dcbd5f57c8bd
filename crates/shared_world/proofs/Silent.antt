-- A flow that an index hasn't after a tick sent nothing in it: for the answers for `play_tick`.
use Rattle.std.proofs.Common.{◌≡◌, ℕ, zero, suc, ◌<◌, Bool, true, false, nat_lt, List, [], ◌∷◌, ◌++◌, length, filter}
use Rattle.std.proofs.Common.{Some, if◌then◌else◌, slice_get, refl, sym, ap, ◌∙◌, subst, arith}
use Rattle.std.proofs.lemmas.List.Elements.{filter-append}
use Rattle.tas_model.specs.declared.entry.Entry.{Entry}
use Rattle.tas_model.specs.declared.entry.HostParams.{HostParams}
use Rattle.tas_model.specs.Outputs as outputs
use Rattle.host_rounds.specs.Hosts.{Live}
use Rattle.host_rounds.specs.Lists.{Each}
use Rattle.host_rounds.specs.Rounds.{Due, Round}
use Rattle.host_rounds.specs.Scripts.{Site}
use Rattle.scenario_runs.specs.Applications.{Script}
use Rattle.scenario_runs.specs.Worlds.{scripts_of}
use Rattle.scenario_runs.proofs.ByMoves.{scenarios_by_moves}
use Rattle.scenario_text.specs.declared.scenario.Scenario.{Scenario}
use Rattle.sent_frames.specs.Sending.{of_tick, EntriesBefore}
use Rattle.sent_frames.proofs.Ticks.{none_of_tick}
use Rattle.closed_flows.specs.Silence.{GrewSilently, SendsNone, SentNothing, IsFindable}
use Rattle.closed_flows.proofs.Silent.{silent_sent}
use Rattle.closed_flows.proofs.AllStill.{round_still, unindexed_after}
use Rattle.due_frames.proofs.SilentFrames.{silent_frames}
use Rattle.scenario_world.specs.Playing.{IsEarly}
use Rattle.shared_world.specs.Looking.{IsSilentIn, IsSilentBut}

-- ----- one flow
-- All entries of a history are of earlier ticks.
all_before : (t : ℕ) (h : List Entry) → EntriesBefore t h → filter (λ (x : Entry). nat_lt x.tick t) h ≡ h
all_before t [] before = refl
all_before t (x ∷ h) before =
    let here : x.tick < t = before.0 in
    let e : nat_lt x.tick t ≡ true = grind (arith, here) in
    rw e (ap (λ (xs : List Entry). x ∷ xs) (all_before t h before.1))

each_cond : {X : Type 0} (P : X → Type 0) (b : Bool) (x : X) (xs : List X) → P x → Each P xs
    → Each P (if b then x ∷ xs else xs)
each_cond P true x xs here rest = (here, rest)
each_cond P false x xs here rest = rest

each_filtered : {X : Type 0} (P : X → Type 0) (test : X → Bool) (xs : List X) → Each P xs → Each P (filter test xs)
each_filtered P test [] each = tt
each_filtered P test (x ∷ xs) each =
    each_cond P (test x) x (filter test xs) each.0 (each_filtered P test xs each.1)

-- A history that was of earlier ticks, and grew by entries that send nothing, has no segment that was sent in the tick.
pub silent_in : (t : ℕ) (h g : List Entry) → EntriesBefore t h → GrewSilently h g → IsSilentIn t g
silent_in t h g before grew = record {
  counted =
      ap (λ (xs : List Entry). length (outputs.sent xs))
      (ap (filter early) grew.grew
      ∙ (filter-append early h grew.more ∙ ap (λ (xs : List Entry). xs ++ filter early grew.more) (all_before t h
      before)))
      ∙ (ap length (silent_sent h (h ++ filter early grew.more) (record {
        more = filter early grew.more;
        grew = refl;
        silent = each_filtered SendsNone early grew.more grew.silent;
      }))
      ∙ sym (ap length (silent_sent h g grew)));
  frames = λ host flow to tuple.
      ap (of_tick t) (silent_frames host flow to tuple 0 h g grew)
      ∙ none_of_tick (record { host = host; flow = flow; to = to; tuple = tuple }) 0 t h before;
}
  where
    early : Entry → Bool
    early x = nat_lt x.tick t

-- ----- all flows of a host
each_at : {X : Type 0} (P : X → Type 0) (xs : List X) (n : ℕ) (x : X) → Each P xs → slice_get xs n ≡ Some x → P x
each_at P [] n x each there = absurd (cc (there))
each_at P (y ∷ xs) zero x each there = let same : y ≡ x = cc (there) in subst P same each.0
each_at P (y ∷ xs) (suc n) x each there = each_at P xs n x each.1 there

-- what holds of the one at each place holds of each
each_by : {X : Type 0} (P : X → Type 0) (xs : List X) → ((n : ℕ) (x : X) → slice_get xs n ≡ Some x → P x)
    → Each P xs
each_by P [] holds = tt
each_by P (x ∷ xs) holds = (holds zero x refl, each_by P xs (λ n y there. holds (suc n) y there))

-- A right tick of a host, whose index has each flow that is open, leaves so each flow that the index hasn't then.
pub silent_after : (s : Scenario) (params : HostParams) (t : ℕ) (due : Due ℕ) (before after : Site (List Script))
    → IsEarly t before.host → Each IsFindable before.host.flows → Round (scripts_of s params) t due before after
    → IsSilentBut t after.host.flows
silent_after s params t due before after early find round =
    each_by (λ (l : Live). l.indexed ≡ false → IsSilentIn t l.flow.entries) after.host.flows
    (λ n m there out.
    by n m there
    (unindexed_after before.host.flows after.host.flows n m find
    (round_still (scripts_of s params) t due before after (scenarios_by_moves s params) early.histories round) there
    out))
  where
    by : (n : ℕ) (m : Live) → slice_get after.host.flows n ≡ Some m
        → SentNothing before.host.flows after.host.flows n → IsSilentIn t m.flow.entries
    by n m there nothing =
        let same : nothing.now ≡ m = cc (nothing.still, there) in
        subst (λ (l : Live). IsSilentIn t l.flow.entries) same
        (silent_in t nothing.was.flow.entries nothing.now.flow.entries
        (each_at (λ (l : Live). EntriesBefore t l.flow.entries) before.host.flows n nothing.was early.entries
        nothing.there) nothing.silent)
