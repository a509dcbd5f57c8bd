use Rattle.std.proofs.Common.{◌≡◌, ℕ, ◌+◌, ◌-◌, ◌<◌, length, max, sym, ◌∙◌, ap, subst, arith, rules}
use Rattle.tas_model.specs.Endpoint.{Receiving}
use Rattle.tas_model.specs.Reassembly.{with_data, with_part, trimmed, grown, kept_apart}
use Rattle.flow_state.specs.Stands.{Stands}
use Rattle.fast_rx.proofs.Growing.{part_is, none_part, next_part, far_part, end_is}
use Rattle.fast_rx.proofs.keeping.take_data.Goals as goal

pub returns-then-is_empty-clause-stands : goal.returns-then-is_empty-clause-stands
returns-then-is_empty-clause-stands c e v going s =
    let end : c.end-end.result ≡ length e.rx.got = c.end-end.ensures.end ∙ end_is c.args.parts.now e v.read s in
    let next : c.end-end.result + 1 ≡ 1 + length e.rx.got = omega (arith, end) in
    let part : c.trimmed-part.result.now ≡ trimmed (1 + length e.rx.got) c.args.window c.args.q c.args.payload.now =
    c.trimmed-part.ensures.part ∙ ap (λ (n : ℕ). trimmed n c.args.window c.args.q c.args.payload.now) next in
    let none : length c.trimmed-part.result.now ≡ 0 = search rules in
    let same : with_data e.rx c.args.window c.args.q c.args.payload.now ≡ e.rx =
    part_is e.rx c.args.window c.args.q c.args.payload.now going
    ∙ none_part e.rx _ _ (ap (length {A = ℕ}) (sym part) ∙ none) in
    subst (λ (x : Receiving). Stands c.args.parts.now (record e { rx = x })) (sym same) s

pub returns-then-at-end-clause-stands : goal.returns-then-at-end-clause-stands
returns-then-at-end-clause-stands c e v going s =
    let end : c.end-end.result ≡ length e.rx.got = c.end-end.ensures.end ∙ end_is c.args.parts.now e v.read s in
    let next : c.end-end.result + 1 ≡ 1 + length e.rx.got = omega (arith, end) in
    let part : c.trimmed-part.result.now ≡ trimmed (1 + length e.rx.got) c.args.window c.args.q c.args.payload.now =
    c.trimmed-part.ensures.part ∙ ap (λ (n : ℕ). trimmed n c.args.window c.args.q c.args.payload.now) next in
    let some : 0 < length c.trimmed-part.result.now = search rules in
    let at : c.max-at.result - 1 ≡ max c.args.q (1 + length e.rx.got) - 1 = omega (arith, c.max-at.ensures, next) in
    let past : length e.rx.got < c.max-at.result - 1 = omega (arith, end, c.if-at-end.true) in
    let same : with_data e.rx c.args.window c.args.q c.args.payload.now
    ≡ record (e.rx) { island = kept_apart e.rx.island (c.max-at.result - 1) c.trimmed-part.result.now } =
    part_is e.rx c.args.window c.args.q c.args.payload.now going
    ∙ (ap (with_part e.rx (max c.args.q (1 + length e.rx.got) - 1)) (sym part)
    ∙ (ap (λ (n : ℕ). with_part e.rx n c.trimmed-part.result.now) (sym at)
    ∙ far_part e.rx (c.max-at.result - 1) c.trimmed-part.result.now some past)) in
    subst (λ (x : Receiving). Stands c.keep_apart.new.parts (record e { rx = x })) (sym same)
    (c.keep_apart.ensures.stands e v some s)

pub returns-else-at-end-clause-stands : goal.returns-else-at-end-clause-stands
returns-else-at-end-clause-stands c e v going s =
    let end : c.end-end.result ≡ length e.rx.got = c.end-end.ensures.end ∙ end_is c.args.parts.now e v.read s in
    let next : c.end-end.result + 1 ≡ 1 + length e.rx.got = omega (arith, end) in
    let part : c.trimmed-part.result.now ≡ trimmed (1 + length e.rx.got) c.args.window c.args.q c.args.payload.now =
    c.trimmed-part.ensures.part ∙ ap (λ (n : ℕ). trimmed n c.args.window c.args.q c.args.payload.now) next in
    let some : 0 < length c.trimmed-part.result.now = search rules in
    let here : max c.args.q (1 + length e.rx.got) - 1 ≡ length e.rx.got =
    omega (arith, end, next, c.max-at.ensures, c.if-at-end.false) in
    let same : with_data e.rx c.args.window c.args.q c.args.payload.now ≡ grown e.rx c.trimmed-part.result.now =
    part_is e.rx c.args.window c.args.q c.args.payload.now going
    ∙ (ap (with_part e.rx (max c.args.q (1 + length e.rx.got) - 1)) (sym part)
    ∙ next_part e.rx (max c.args.q (1 + length e.rx.got) - 1) c.trimmed-part.result.now some here) in
    subst (λ (x : Receiving). Stands c.grow.new.parts (record e { rx = x })) (sym same)
    (c.grow.ensures.stands e v going s)
