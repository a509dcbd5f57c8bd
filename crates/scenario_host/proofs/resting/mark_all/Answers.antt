use Rattle.std.proofs.Common.{◌≡◌, ◌<◌, ◌≤◌, ◌+◌, ℕ, Bool, true, false, List, [], ◌∷◌, ◌++◌, Some, length, slice_get}
use Rattle.std.proofs.Common.{nat_le, refl, sym, subst, ap, ◌∙◌, arith}
use Rattle.std.proofs.lemmas.Bool.Decides.{nat_tests}
use Rattle.std.proofs.lemmas.Option.{slice_get_read}
use Rattle.scenario_runs.specs.Applications.{Script}
use Rattle.scenario_host.specs.Resting.{AreResting, awake_from}
use Rattle.scenario_host.proofs.Rests.{Marking, marks_asleep, marks_awake}
use Rattle.scenario_host.proofs.resting.mark_all.Goals.{then-sleeps, else-sleeps+in_ok-push-2}
use Rattle.scenario_host.proofs.resting.mark_all.Goals as goal

pub loop-place-init : goal.loop-place-init
loop-place-init c = record {
  resting = subst (λ (bs : List Bool). AreResting _ bs c.args.scripts.now) (sym c.requires.asleep) tt;
  some = omega arith;
  count = ap length c.requires.asleep;
  places = c.requires.awake ∙ ap (awake_from 0) (sym c.requires.asleep);
}

pub loop-place-preserved : goal.loop-place-preserved
loop-place-preserved c =
    let scripts = c.args.scripts.now in
    let place = c.loop-place.place in
    let turns = c.loop-place.turns in
    let marks = c.loop-place.asleep.items in
    let places = c.loop-place.awake.items in
    let script : Script = c.index-scripts-place.result in
    let rest = c.rest-rest.result in
    let pushed : c.push.new.self.items ≡ marks ++ nat_le 16 rest ∷ [] = c.in_ok-push.ensures.items in
    let here : slice_get scripts place ≡ Some script =
    slice_get_read scripts (length scripts) place script refl c.loop-place-test.true c.index-scripts-place.is in
    elim c.if-sleeps.branch [
      | then-sleeps w ↦
          let some : 0 < turns = c.loop-place.invariant.some in
          let long : 16 ≤ rest = w.if-sleeps.true in
          let test : nat_le 16 rest ≡ true = grind (arith, nat_tests, long) in
          subst (λ (bs : List Bool). Marking c.if-sleeps.turns (place + 1) bs c.if-sleeps.awake.items scripts)
          (sym (pushed ∙ ap (λ (b : Bool). marks ++ b ∷ []) test))
          (subst (λ v. Marking c.if-sleeps.turns (place + 1) (marks ++ true ∷ []) v.items scripts) (sym w.awake-is)
          (marks_asleep turns rest c.if-sleeps.turns place marks places scripts script c.loop-place.invariant here
          (c.rest-rest.ensures (omega (arith, long)))
          (omega (arith, w.turns-is, w.min-turns.ensures, some, long))
          (omega (arith, w.turns-is, w.min-turns.ensures))
          (omega (arith, w.turns-is, w.min-turns.ensures))))
      | else-sleeps+in_ok-push-2 w ↦
          let short : rest < 16 = w.if-sleeps.false in
          let test : nat_le 16 rest ≡ false = grind (arith, nat_tests, short) in
          subst (λ (bs : List Bool). Marking c.if-sleeps.turns (place + 1) bs c.if-sleeps.awake.items scripts)
          (sym (pushed ∙ ap (λ (b : Bool). marks ++ b ∷ []) test))
          (subst (λ v. Marking c.if-sleeps.turns (place + 1) (marks ++ false ∷ []) v.items scripts) (sym w.awake-is)
          (subst (λ (ps : List ℕ). Marking c.if-sleeps.turns (place + 1) (marks ++ false ∷ []) ps scripts)
          (sym w.in_ok-push-2.ensures.items)
          (subst (λ (n : ℕ). Marking n (place + 1) (marks ++ false ∷ []) (places ++ place ∷ []) scripts)
          (sym w.turns-is)
          (marks_awake turns place marks places scripts script c.loop-place.invariant here))))
    ]
