-- Where lines lead, one after the other.
use Rattle.std.proofs.Common.{◌≡◌, ℕ, Bool, true, false, List, [], ◌∷◌, ◌++◌, Option, Some, None, refl, sym, ◌∙◌, ap}
use Rattle.report_picture.specs.Forms.{Said}
use Rattle.report_picture.specs.Stages.{next_stage, led}
use Rattle.report_picture.specs.declared.stage.Stage.{Stage}

-- what follows a line
abbrev pub behind : (replay : Bool) → (addrs : List ℕ) → (xs : List Said) → Option Stage → Option Stage
behind replay addrs xs None = None
behind replay addrs xs (Some s) = led replay addrs s xs

pub led_is : (replay : Bool) (addrs : List ℕ) (s : Stage) (x : Said) (xs : List Said)
    → led replay addrs s (x ∷ xs) ≡ behind replay addrs xs (next_stage replay addrs s x)
led_is replay addrs s x xs = by_next (next_stage replay addrs s x) where
  by_next : (o : Option Stage)
      → ◌≡◌ {A = Option Stage} (elim o [ None ↦ None | Some next ↦ led replay addrs next xs ])
      (behind replay addrs xs o)
  by_next None = refl
  by_next (Some next) = refl

-- what leads to a stage goes on from there
pub led_on : (replay : Bool) (addrs : List ℕ) (s t : Stage) (xs ys : List Said) → led replay addrs s xs ≡ Some t
    → led replay addrs s (xs ++ ys) ≡ led replay addrs t ys
led_on replay addrs s t [] ys e = ap (behind replay addrs ys) e
led_on replay addrs s t (x ∷ xs) ys e =
    led_is replay addrs s x (xs ++ ys)
    ∙ by_next (next_stage replay addrs s x) (sym (led_is replay addrs s x xs) ∙ e)
    (λ r more. led_on replay addrs r t xs ys more) where
      by_next : (o : Option Stage) → behind replay addrs xs o ≡ Some t
          → ((r : Stage) → led replay addrs r xs ≡ Some t → led replay addrs r (xs ++ ys) ≡ led replay addrs t ys)
          → behind replay addrs (xs ++ ys) o ≡ led replay addrs t ys
      by_next None e more = absurd (cc (e))
      by_next (Some r) e more = more r e

pub led_one : (replay : Bool) (addrs : List ℕ) (s t u : Stage) (xs : List Said) (x : Said)
    → led replay addrs s xs ≡ Some t → next_stage replay addrs t x ≡ Some u
    → led replay addrs s (xs ++ x ∷ []) ≡ Some u
led_one replay addrs s t u xs x e next =
    led_on replay addrs s t xs (x ∷ []) e ∙ (led_is replay addrs t x [] ∙ ap (behind replay addrs []) next)

-- and nowhere behind a line that may not come
pub led_nowhere : (replay : Bool) (addrs : List ℕ) (s t : Stage) (xs ys : List Said) (x : Said)
    → led replay addrs s xs ≡ Some t → next_stage replay addrs t x ≡ None
    → led replay addrs s (xs ++ x ∷ ys) ≡ None
led_nowhere replay addrs s t xs ys x e next =
    led_on replay addrs s t xs (x ∷ ys) e ∙ (led_is replay addrs t x ys ∙ ap (behind replay addrs ys) next)
