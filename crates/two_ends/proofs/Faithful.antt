-- Which links are faithful.
use Rattle.std.proofs.Common.{◌≡◌, ℕ, zero, suc, ◌<◌, false, List, [], ◌∷◌, length, Contains, slice_index_or}
use Rattle.std.proofs.Common.{refl, subst, ap, true≢false, arith}
use Rattle.host_rounds.specs.Lists.{Each}
use Rattle.link_script.specs.LinkLines.{LinkLines}
use Rattle.link_script.specs.declared.script.LinkAct.{LinkAct}
use Rattle.link_script.specs.declared.script.LinkAct.TheVariants as acts
use Rattle.link_script.specs.declared.script.Target.{Target}
use Rattle.two_ends.specs.Ends.{is_corrupt, IsFaithful}
use Rattle.two_ends.proofs.Lists.{each_as, each_contained}

abbrev Line : Type 0
Line = Target × LinkAct

pub none_corrupts : (lines : LinkLines)
    → ((target : Target) (place : ℕ) → Contains lines.acts (target, acts.Corrupt place) → ⊥) → IsFaithful lines
none_corrupts lines none =
    each_as (Contains lines.acts) (λ (line : Line). is_corrupt line.1 ≡ false) (λ line among. by_act line among line.1
    refl) lines.acts (each_contained lines.acts)
  where
    by_act : (line : Line) → Contains lines.acts line → (a : LinkAct) → line.1 ≡ a → is_corrupt a ≡ false
    by_act line among acts.Drop e = refl
    by_act line among acts.Dup e = refl
    by_act line among (acts.Delay ticks) e = refl
    by_act line among (acts.Corrupt place) e =
        absurd (none line.0 place (subst (Contains lines.acts) (ap (λ (a : LinkAct). (line.0, a)) e) among))

found_has : (P : Line → Type 0) (xs : List Line) (x : Line) (k : ℕ) → k < length xs → slice_index_or xs k x ≡ x
    → Each P xs → P x
found_has P [] x k below at each = absurd (omega arith)
found_has P (y ∷ xs) x zero below at each = subst P at each.0
found_has P (y ∷ xs) x (suc k) below at each = found_has P xs x k (omega arith) at each.1

pub one_corrupts : (lines : LinkLines) (target : Target) (place : ℕ)
    → Contains lines.acts (target, acts.Corrupt place) → IsFaithful lines → ⊥
one_corrupts lines target place among faithful =
    true≢false (found_has (λ (line : Line). is_corrupt line.1 ≡ false) lines.acts (target, acts.Corrupt place) among.0
    among.1 among.2 faithful)
