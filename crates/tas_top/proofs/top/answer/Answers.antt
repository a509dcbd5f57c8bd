use Rattle.std.proofs.Common.{◌≡◌, ◌≢◌, ◌⊎◌, inr, ℕ, Bool, Err, ap, map, string_bytes, subst, sym, ◌∙◌}
use Rattle.std.proofs.Common.{if◌then◌else◌}
use Rattle.tas_top.specs.Runs.{given}
use Rattle.tas_top.specs.Outputs.{WritesAll, WritesLegalReport}
use Rattle.program_words.specs.Words.{form_of}
use Rattle.tas_top.specs.declared.stop.Stop.{Stop}
use Rattle.tas_top.specs.declared.stop.Stop.TheVariants.{Stalled}
use Rattle.tas_top.proofs.Causes.{never_whole, read_at, made_status, stalled_why, whole_ends_well}
use Rattle.tas_top.proofs.top.answer.Goals as goal

pub returns-in-Ok-true-clause-cause : goal.returns-in-Ok-true-clause-cause
returns-in-Ok-true-clause-cause g c =
    let call = given (map string_bytes c.args.words.now) (g.S.Source.state c.args.source.now)
    (g.S.Source.state c.serve.new.source) (g.K.Sink.state c.args.sink.now) (g.K.Sink.state c.serve.new.sink) in
    let written : WritesAll call 1 = subst (λ (b : Bool). WritesAll call (if b then 1 else 0))
    c.in-Ok-true.field-0-test c.in-Ok-true.ensures.done in
    inr (Stalled, c.told.ensures.status, stalled_why call written, c.told.ensures.told)

pub returns-in-Err-clause-headline : goal.returns-in-Err-clause-headline
returns-in-Err-clause-headline g c whole =
    let call = given (map string_bytes c.args.words.now) (g.S.Source.state c.args.source.now)
    (g.S.Source.state c.serve.new.source) (g.K.Sink.state c.args.sink.now) (g.K.Sink.state c.serve.new.sink) in
    let other : c.in-Err.stop ≢ Stalled = λ e. c.serve.ensures.unstalled (c.in-Err.is ∙ ap (λ (s : Stop). Err s) e) in
    never_whole c.in-Err.stop (WritesAll call c.told-in-Err.result) other
    (subst (λ (n : ℕ). (n ≡ 0) ⊎ (n ≡ 1)) c.told-in-Err.ensures.status whole)

pub returns-in-Err-clause-legal : goal.returns-in-Err-clause-legal
returns-in-Err-clause-legal g c whole =
    let call = given (map string_bytes c.args.words.now) (g.S.Source.state c.args.source.now)
    (g.S.Source.state c.serve.new.source) (g.K.Sink.state c.args.sink.now) (g.K.Sink.state c.serve.new.sink) in
    let other : c.in-Err.stop ≢ Stalled = λ e. c.serve.ensures.unstalled (c.in-Err.is ∙ ap (λ (s : Stop). Err s) e) in
    never_whole c.in-Err.stop (WritesLegalReport call) other
    (subst (λ (n : ℕ). (n ≡ 0) ⊎ (n ≡ 1)) c.told-in-Err.ensures.status whole)

pub returns-in-Err-clause-read : goal.returns-in-Err-clause-read
returns-in-Err-clause-read g c at =
    let other : c.in-Err.stop ≢ Stalled = λ e. c.serve.ensures.unstalled (c.in-Err.is ∙ ap (λ (s : Stop). Err s) e) in
    read_at (form_of (map string_bytes c.args.words.now)) _ _ c.in-Err.stop other c.in-Err.ensures.before
    (subst (λ (n : ℕ). (n ≡ 0) ⊎ ((n ≡ 1) ⊎ ((n ≡ 3) ⊎ (n ≡ 5)))) c.told-in-Err.ensures.status at)

pub returns-in-Err-clause-complete : goal.returns-in-Err-clause-complete
returns-in-Err-clause-complete g c w =
    subst (λ (n : ℕ). (n ≡ 0) ⊎ ((n ≡ 1) ⊎ (n ≡ 6))) (sym c.told-in-Err.ensures.status)
    (whole_ends_well _ c.in-Err.stop c.in-Err.ensures.cause w)

pub returns-in-Err-clause-sure : goal.returns-in-Err-clause-sure
returns-in-Err-clause-sure g c made =
    subst (λ (n : ℕ). (n ≢ 3) × ((n ≢ 4) × (n ≢ 7))) (sym c.told-in-Err.ensures.status)
    (made_status c.in-Err.stop (c.in-Err.ensures.sure made))
