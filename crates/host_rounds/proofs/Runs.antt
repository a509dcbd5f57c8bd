-- What holds of every run: its flows are sound and have sent all, and how often each frame stands in it.
use Rattle.std.proofs.Common.{◌≡◌, ℕ, ◌+◌, ◌≤◌, List, [], ◌∷◌, ◌++◌, length, Option, Some, None, IfSome, refl, subst}
use Rattle.std.proofs.Common.{sym, ap, arith}
use Rattle.tas_model.specs.declared.entry.HostParams.{HostParams}
use Rattle.tas_model.specs.declared.entry.FrameId.{FrameId}
use Rattle.tas_model.specs.Valid.{InRange}
use Rattle.host_rounds.specs.Lists.{Each}
use Rattle.host_rounds.specs.Hosts.{Live, Starts, flow_params, flows_of}
use Rattle.host_rounds.specs.Histories.{HasHistory, IsSound, HasSentAll}
use Rattle.host_rounds.specs.Openings.{Opening, opening_of, openings_as, HaveShifts, AreOpened}
use Rattle.host_rounds.specs.Places.{uses, uses_live, uses_flows, coming}
use Rattle.host_rounds.specs.Scripts.{Site, Scripts}
use Rattle.host_rounds.specs.Moves.{AreByMoves}
use Rattle.host_rounds.specs.Rounds.{Due, IsQuiet, Rounds}
use Rattle.host_rounds.proofs.AllLegal.{AreLegal, round_kept}
use Rattle.host_rounds.proofs.Keeps.{openings}
use Rattle.host_rounds.proofs.OnePlace.{round_adds}
use Rattle.host_rounds.proofs.Sound.{sound}

-- ----- from a host to its flows
-- a flow's parameters are in their ranges, whatever shift it has of its own
pub flow_in_range : (p : HostParams) (scale : Option ℕ) → InRange p → IfSome scale (λ shift. shift ≤ 14)
    → InRange (flow_params p scale)
flow_in_range p None fits low = fits
flow_in_range p (Some shift) fits low = record {
  ring = (omega arith, omega arith);
  mss = fits.mss;
  rto = fits.rto;
  slots = fits.slots;
  backlog = fits.backlog;
  scale = low;
}

pub flows_sound : (starts : Starts) (p : HostParams) (before : List Opening) (ls : List Live) → InRange p
    → HaveShifts starts → AreOpened starts p before (openings ls) → Each HasHistory ls → Each IsSound (flows_of ls)
flows_sound starts p before [] fits shifts opened each = tt
flows_sound starts p before (l ∷ ls) fits shifts opened each = (
  sound l.flow
      (subst InRange (sym opened.0.params)
      (flow_in_range p _ fits (shifts l.flow.tuple (openings_as l.flow.tuple before) (length before)))) each.0,
  flows_sound starts p (before ++ opening_of l.flow ∷ []) ls fits shifts opened.1 each.1,
)

pub flows_quiet : (ls : List Live) → Each IsQuiet ls → Each HasSentAll (flows_of ls)
flows_quiet [] each = tt
flows_quiet (l ∷ ls) each = (each.0, flows_quiet ls each.1)

pub flows_uses : (f : FrameId) (ls : List Live) → uses_flows f (flows_of ls) ≡ uses_live f ls
flows_uses f [] = refl
flows_uses f (l ∷ ls) = let rest : uses_flows f (flows_of ls) ≡ uses_live f ls = flows_uses f ls in omega arith

-- ----- ticks one after the other
pub rounds_quiet : {S A : Type 0} (scripts : Scripts S A) (t : ℕ) (dues : List (Due A)) (before after : Site S)
    → Rounds scripts t dues before after
    → Each IsQuiet before.host.flows → Each IsQuiet after.host.flows
rounds_quiet {S} scripts t [] before after same each = subst (λ (s : Site S). Each IsQuiet s.host.flows) same each
rounds_quiet scripts t (due ∷ dues) before after rounds each =
    rounds_quiet scripts (t + 1) dues rounds.0 after rounds.2 rounds.1.quiet

-- how often the frame comes in all these ticks
abbrev pub coming_in : {A : Type 0} → FrameId → List (Due A) → ℕ
coming_in f [] = 0
coming_in f (due ∷ dues) = coming f due.frames + coming_in f dues

pub rounds_add : {S A : Type 0} (scripts : Scripts S A) (t : ℕ) (dues : List (Due A)) (before after : Site S)
    (f : FrameId) → AreByMoves scripts
    → Rounds scripts t dues before after → AreLegal before.host
    → uses f after.host ≡ uses f before.host + coming_in f dues
rounds_add {S} scripts t [] before after f by_moves same legal =
    let here : uses f after.host ≡ uses f before.host = sym (ap (λ (s : Site S). uses f s.host) same) in omega arith
rounds_add scripts t (due ∷ dues) before after f by_moves rounds legal =
    let one : uses f rounds.0.host ≡ uses f before.host + coming f due.frames =
    round_adds scripts t due before rounds.0 f by_moves rounds.1 legal in
    let rest : uses f after.host ≡ uses f rounds.0.host + coming_in f dues =
    rounds_add scripts (t + 1) dues rounds.0 after f by_moves rounds.2
    (round_kept scripts t due before rounds.0 by_moves rounds.1 legal) in
    omega arith
