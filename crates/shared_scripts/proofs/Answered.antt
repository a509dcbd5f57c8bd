-- What applications are told of the calls that they tried: for the answers for `take_answer` and `take_answers`.
use Rattle.std.proofs.Common.{◌≡◌, ◌==◌, ℕ, zero, suc, Bool, true, false, List, [], ◌∷◌, refl, sym, ap, subst, ◌∙◌}
use Rattle.std.proofs.Common.{true≢false, slice_get}
use Rattle.std.specs.Prelude.{Option, Some, None}
use Rattle.core_phase.specs.declared.lane.AppLane.{AppLane}
use Rattle.core_phase.specs.declared.lane.Lane.{Lane}
use Rattle.core_phase.specs.declared.lane.Lane.TheVariants as lanes
use Rattle.flow_state.specs.declared.call.Answer.{Answer}
use Rattle.host_rounds.specs.Lists.{Each, change_at}
use Rattle.scenario_runs.specs.Applications.{Script, has_ended}
use Rattle.core_host.specs.Attempts.{IsAnswerTaken, answer_told}
use Rattle.core_host.specs.Emission.{AreTriesSet}
use Rattle.core_host.specs.Sound.{IsStaffSound}
use Rattle.core_host.specs.Views.{Staffed}
use Rattle.shared_scripts.specs.Answers.{answer_for, answer_unless, IsAnswered}
use Rattle.shared_scripts.proofs.LaneTries.{IsOther, AreOnce, once_later, once_first}
use Rattle.shared_scripts.proofs.Rising.{same_number, is_number, other_number}
use Rattle.shared_scripts.proofs.Trying.{set_itself}

told_here : (b : Bool) (first later answer : Option Answer) → b ≡ true → first ≡ answer
    → elim b [ true ↦ first | false ↦ later ] ≡ answer
told_here true first later answer is same = same
told_here false first later answer is same = absurd (cc (is))

told_later : (b : Bool) (first later answer : Option Answer) → b ≡ false → later ≡ answer
    → elim b [ true ↦ first | false ↦ later ] ≡ answer
told_later true first later answer is same = absurd (cc (is))
told_later false first later answer is same = same

-- the application's lane is the only one of its number
told_at : (ls : List Lane) (k : ℕ) (l : AppLane) → slice_get ls k ≡ Some (lanes.App l) → AreOnce ls
    → answer_for l.app.number ls ≡ answer_told l.answer
told_at [] k l at once = absurd (cc (at))
told_at (lanes.Core c ∷ ls) zero l at once = absurd (cc (at))
told_at (lanes.App c ∷ ls) zero l at once = by c (cc (at)) where
  by : (d : AppLane) → d ≡ l → answer_for l.app.number (lanes.App d ∷ ls) ≡ answer_told l.answer
  by d same =
      told_here (d.app.number == l.app.number) (answer_told d.answer) (answer_for l.app.number ls)
      (answer_told l.answer)
      (same_number d.app.number l.app.number (ap (λ (x : AppLane). x.app.number) same))
      (ap (λ (x : AppLane). answer_told x.answer) same)
told_at (lanes.Core c ∷ ls) (suc k) l at once = told_at ls k l at once
told_at (lanes.App c ∷ ls) (suc k) l at once =
    told_later (c.app.number == l.app.number) (answer_told c.answer) (answer_for l.app.number ls)
    (answer_told l.answer) (not_it (c.app.number == l.app.number) refl)
    (told_at ls k l at (once_later (lanes.App c) ls once))
  where
    at_other : (n : ℕ) (ws : List Lane) (j : ℕ) → Each (IsOther n) ws → slice_get ws j ≡ Some (lanes.App l)
        → (l.app.number == n) ≡ false
    at_other n [] j others there = absurd (cc (there))
    at_other n (lanes.Core w ∷ ws) zero others there = absurd (cc (there))
    at_other n (lanes.App w ∷ ws) zero others there =
        let is : w ≡ l = cc (there) in subst (λ (y : AppLane). (y.app.number == n) ≡ false) is others.0
    at_other n (w ∷ ws) (suc j) others there = at_other n ws j others.1 there

    not_it : (b : Bool) → (c.app.number == l.app.number) ≡ b → (c.app.number == l.app.number) ≡ false
    not_it true e =
        absurd (true≢false
        (sym (same_number l.app.number c.app.number (sym (is_number c.app.number l.app.number e)))
        ∙ at_other c.app.number ls k (once_first c ls once) at))
    not_it false e = e

-- another's is as it was
told_other : (ls : List Lane) (k : ℕ) (l m : AppLane) (n : ℕ) → slice_get ls k ≡ Some (lanes.App l)
    → m.app.number ≡ l.app.number → (l.app.number == n) ≡ false
    → answer_for n (change_at k (λ (v : Lane). lanes.App m) ls) ≡ answer_for n ls
told_other [] k l m n at same other = refl
told_other (lanes.Core c ∷ ls) zero l m n at same other = absurd (cc (at))
told_other (lanes.App c ∷ ls) zero l m n at same other =
    let is : c ≡ l = cc (at) in
    let before : (c.app.number == n) ≡ false = ap (λ (x : AppLane). x.app.number == n) is ∙ other in
    let after : (m.app.number == n) ≡ false = ap (λ (k : ℕ). k == n) same ∙ other in
    told_later (m.app.number == n) (answer_told m.answer) (answer_for n ls)
    (elim (c.app.number == n) [ true ↦ answer_told c.answer | false ↦ answer_for n ls ]) after
    (sym (told_later (c.app.number == n) (answer_told c.answer) (answer_for n ls) (answer_for n ls) before refl))
told_other (lanes.Core c ∷ ls) (suc k) l m n at same other = told_other ls k l m n at same other
told_other (lanes.App c ∷ ls) (suc k) l m n at same other =
    ap (λ (o : Option Answer). elim (c.app.number == n) [ true ↦ answer_told c.answer | false ↦ o ])
    (told_other ls k l m n at same other)

pub was_answered : (x : Script) (answer : Option Answer) (h k : Staffed) → AreOnce h.lanes → has_ended x ≡ false
    → IsAnswerTaken x.number answer h k → AreTriesSet h k → IsAnswered x answer h k
was_answered x answer h k once lives is set = record {
  told = is.told
      ∙ (sym (told_at h.lanes is.place is.lane is.own.there once)
      ∙ (ap (λ (n : ℕ). answer_for n h.lanes) is.own.number
      ∙ ap (λ (b : Bool). answer_unless b (answer_for x.number h.lanes)) (sym lives)));
  set = set;
  others = λ n other.
      ap (answer_for n) is.lanes
      ∙ told_other h.lanes is.place is.lane _ n is.own.there refl
      (ap (λ (m : ℕ). m == n) is.own.number ∙ other_number x.number n (λ same. other (sym same)));
}

-- an application whose script has ended isn't asked
pub not_answered : (x : Script) (h : Staffed) → IsStaffSound h → has_ended x ≡ true → IsAnswered x None h h
not_answered x h sound ended = record {
  told = ap (λ (b : Bool). answer_unless b (answer_for x.number h.lanes)) (sym ended);
  set = set_itself h sound;
  others = λ n other. refl;
}
