-- Who waits after a poll that went on.
use Rattle.std.proofs.Common.{◌≡◌, ◌⊎◌, ℕ, sym, ◌∙◌, subst, inl, inr, List, true}
use Rattle.std.specs.Prelude.{Option, Some, None, IsSomeAnd, slice_get}
use Rattle.futures.specs.Task.{Covers, Hears, IsArmed, Keeps, Lasting}
use Rattle.futures.specs.declared.task.context.Context.{Context}
use Rattle.tas_futures.specs.Waiting.{IsSourceAt, IsWaiting}
use Rattle.tas_futures.specs.declared.waiters.Place.{Place}

pub keeps_on : (a b c : Context) → Keeps a b → Keeps b c → Keeps a c
keeps_on a b c first then = λ fact h. then fact (first fact h)

and_then : {X : Type 0} (o : Option X) (P Q : X → Type 0) → ((x : X) → P x → Q x) → IsSomeAnd o P → IsSomeAnd o Q
and_then None P Q f h = h
and_then (Some x) P Q f h = f x h

-- the task waits still when the poll went on
pub waits_on : (places : List Place) (key : ℕ) (a b c : Context) → Keeps b c → c.lacks_waker ≡ b.lacks_waker
    → IsWaiting places key a b → IsWaiting places key a c
waits_on places key a b c keeps lacks w = and_then (slice_get places key) _ _ (λ p h. (
  keeps (Lasting.hears p.source.id) h.0,
  h.1,
  either h.2,
)) w where
  either : {A : Type 0} → (b.lacks_waker ≡ true) ⊎ A → (c.lacks_waker ≡ true) ⊎ A
  either (inl is) = inl (lacks ∙ is)
  either (inr has) = inr has

both_are : {X : Type 0} (o : Option X) (P : X → Type 0) (Q : X → ℕ) (H : ℕ → Type 0) (s : ℕ)
    → ((x : X) → P x → H (Q x)) → IsSomeAnd o P → IsSomeAnd o (λ x. s ≡ Q x) → H s
both_are None P Q H s f h is = absurd h
both_are (Some x) P Q H s f h is = subst H (sym is) (f x h)

-- so it has registered at the source of its key
pub covers : (places : List Place) (key : ℕ) (a b : Context) → IsArmed b → IsWaiting places key a b
    → Covers b (λ s. IsSourceAt places key s)
covers places key a b armed w = (
  armed,
  λ s is. both_are (slice_get places key) _ (λ p. p.source.id) (Hears b) s
      (λ p h. h.0) w is,
)
