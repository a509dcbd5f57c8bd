-- Whether a flow has a segment that may go, and what is left to send once it went.
use Rattle.std.proofs.Common.{◌≡◌, ℕ, ◌<◌, ◌↔◌, Bool, true, false, cond, [], Option, Some, None, is_some, IsSome}
use Rattle.std.proofs.Common.{refl, sym, ap, subst, ◌∙◌, true≢false}
use Rattle.tas_model.specs.declared.entry.Caller.TheVariants.{Core}
use Rattle.tas_model.specs.declared.entry.Call.TheVariants as calls
use Rattle.tas_model.specs.NextSegment.{Going, going}
use Rattle.tas_model.specs.LegalHistory.{Legal}
use Rattle.tas_model.specs.Valid.{InRange}
use Rattle.tas_model.proofs.ValidCalls.{valid_replay}
use Rattle.flow_state.specs.declared.call.Answer.{Answer}
use Rattle.flow_state.specs.declared.call.CallIn.TheVariants as ins
use Rattle.flow_state.specs.declared.parts.Parts.{Parts}
use Rattle.flow_state.specs.Stands.{Stands}
use Rattle.fast_tx.specs.Going.{left_in, next_out_of}
use Rattle.fast_tx.specs.Piece.{IsEmission}
use Rattle.fast_tx.proofs.Told.{serves_is}
use Rattle.host_rounds.specs.Logs.{Flow}
use Rattle.host_rounds.specs.Hosts.{Live, endpoint, with_call}
use Rattle.host_rounds.specs.Upkeep.{quieted}
use Rattle.host_rounds.proofs.Quiet.{quieted_next, quieted_done, sent_falls}
use Rattle.local_host.specs.Live.{called, IsNext}

-- where nothing may go, all is sent
pub all_is_sent : (t : ℕ) (l : Live) → is_some (going (endpoint l)) ≡ false → quieted t l ≡ l
all_is_sent t l none = by_going (going (endpoint l)) refl none where
  by_going : (g : Option Going) → going (endpoint l) ≡ g → is_some g ≡ false → quieted t l ≡ l
  by_going None is h = quieted_done t l is
  by_going (Some g) is h = absurd (true≢false h)

-- Once the next segment went, what is left to send leads to the same end, and is less.
pub one_is_sent : (t : ℕ) (l : Live) → Legal l.flow.params l.flow.entries → is_some (going (endpoint l)) ≡ true
    → (quieted t (with_call l (Core 0) t calls.Emit []) ≡ quieted t l)
    × (left_in (endpoint (with_call l (Core 0) t calls.Emit [])) < left_in (endpoint l))
one_is_sent t l legal some = by_going (going (endpoint l)) refl some where
  by_going : (g : Option Going) → going (endpoint l) ≡ g → is_some g ≡ true
      → (quieted t (with_call l (Core 0) t calls.Emit []) ≡ quieted t l)
      × (left_in (endpoint (with_call l (Core 0) t calls.Emit [])) < left_in (endpoint l))
  by_going None is h = absurd (true≢false (sym h))
  by_going (Some g) is h = (sym (quieted_next t l g legal is), sent_falls t l g legal is)

-- ----- an engine is asked for the next segment
same_tests : (a b : Bool) → ((a ≡ true) ↔ (b ≡ true)) → a ≡ b
same_tests true true h = refl
same_tests false false h = refl
same_tests true false h = sym (h.0 refl)
same_tests false true h = h.1 refl

-- it answers exactly where one may go
answers_where : (l : Live) (p : Parts) (o : Option Answer) → InRange l.flow.params
    → Legal l.flow.params l.flow.entries → Stands p (endpoint l)
    → (IsSome o ↔ IsEmission p ins.Emit) → is_some o ≡ is_some (going (endpoint l))
answers_where l p o fits legal stands serves =
    let goes = serves_is p (endpoint l) (valid_replay l.flow.params l.flow.entries fits legal) stands in
    same_tests (is_some o) (is_some (going (endpoint l)))
    (λ some. goes.0 (serves.0 some), λ some. serves.1 (goes.1 some))

-- where it answers, the next segment went
pub emission_next : (t : ℕ) (l : Live) (f : Flow) (p : Parts) (o : Option Answer) → InRange l.flow.params
    → Legal l.flow.params l.flow.entries → Stands p (endpoint l) → (IsSome o ↔ IsEmission p ins.Emit)
    → f ≡ cond (is_some o) (called l.flow (Core 0) t calls.Emit []) l.flow
    → is_some o ≡ true → IsNext t l (record l { flow = f })
emission_next t l f p o fits legal stands serves made some =
    let goes = sym (answers_where l p o fits legal stands serves) ∙ some in
    let both = one_is_sent t l legal goes in
    let is : record l { flow = f } ≡ with_call l (Core 0) t calls.Emit [] =
    ap (λ (g : Flow). record l { flow = g })
    (made ∙ ap (λ (b : Bool). cond b (called l.flow (Core 0) t calls.Emit []) l.flow) some) in
    subst (λ (m : Live). IsNext t l m) (sym is) (record { same = both.0; less = both.1 })

-- and where it doesn't, all is sent
pub emission_last : (t : ℕ) (l : Live) (f : Flow) (p : Parts) (o : Option Answer) → InRange l.flow.params
    → Legal l.flow.params l.flow.entries → Stands p (endpoint l) → (IsSome o ↔ IsEmission p ins.Emit)
    → f ≡ cond (is_some o) (called l.flow (Core 0) t calls.Emit []) l.flow
    → is_some o ≡ false → record l { flow = f } ≡ quieted t l
emission_last t l f p o fits legal stands serves made none =
    let stays = sym (answers_where l p o fits legal stands serves) ∙ none in
    ap (λ (g : Flow). record l { flow = g })
    (made ∙ ap (λ (b : Bool). cond b (called l.flow (Core 0) t calls.Emit []) l.flow) none)
    ∙ sym (all_is_sent t l stays)

-- what is told of the next segment is there where that is
pub told_where : (g : Option Going) → is_some (next_out_of g) ≡ is_some g
told_where None = refl
told_where (Some g) = refl
